-- Texts whose line end is dropped.
use Rattle.std.specs.Prelude.{◌≡◌, ℕ, List, [], ◌∷◌, ◌++◌, Option, Some, None, MatchOption}
use Rattle.std.specs.Borrow.{Bor}
use Rattle.std.specs.Option.{unwrap_or}
use Rattle.std.proofs.Common.{◌∙◌, ap, sym, subst, inl, inr, append_assoc}
use Rattle.command_words.specs.LineEnd.{DropsLineEnd, EndsOtherwise}

-- a line feed is dropped, and a carriage return before it, where one is found
pub drops : (text : List ℕ) (line : Bor (List ℕ)) (found : Option (Bor (List ℕ))) (rest : Bor (List ℕ))
    → text ≡ line.now ++ (10 ∷ [])
    → MatchOption found (EndsOtherwise 13 line.now) (λ x. line.now ≡ x.now ++ (13 ∷ []))
    → rest ≡ unwrap_or found line → DropsLineEnd text rest.now
drops text line None rest ends other is =
    inr (inl (
      subst (λ (r : Bor (List ℕ)). text ≡ r.now ++ (10 ∷ [])) (sym is) ends,
      subst (λ (r : Bor (List ℕ)). EndsOtherwise 13 r.now) (sym is) other,
    ))
drops text line (Some x) rest ends front is =
    inl (subst (λ (r : Bor (List ℕ)). text ≡ r.now ++ (13 ∷ 10 ∷ [])) (sym is)
    (ends ∙ ap (λ l. l ++ (10 ∷ [])) front ∙ append_assoc x.now (13 ∷ []) (10 ∷ [])))
