-- The rest of a list of which the first was taken.
use Rattle.std.specs.Prelude.{◌≡◌, ℕ, ◌+◌, ◌<◌, List, [], ◌∷◌, drop, length, Option, Some, None, IsSome, IfSome, IfNone}
use Rattle.std.proofs.Common.{◌∙◌, sym, ap, arith}
use Rattle.std.proofs.lemmas.Bool.{true≢false}
use Rattle.std.proofs.lemmas.List.{drop-drop}

-- the first of a list was taken, if there was one
pub popped : {X : Type 0} (taken : Option X) (n : ℕ) (all old new : List X) → (0 < length old → IsSome taken)
    → IfSome taken (λ x. old ≡ x ∷ new) → IfNone taken (new ≡ old)
    → old ≡ drop n all → new ≡ drop (n + 1) all
popped (Some x) n all old new some removed same is = ap (drop 1) (sym removed ∙ is) ∙ drop-drop 1 n all
popped None n all [] new some removed same is = same ∙ ap (drop 1) is ∙ drop-drop 1 n all
popped None n all (y ∷ ys) new some removed same is = absurd (true≢false (sym (some (omega arith))))
