-- Writing one thing after another.
use Rattle.std.proofs.Common.{◌≡◌, ℕ, ◌≤◌, List, [], ◌∷◌, ◌++◌, drop, length, flat_map, Result, OnOk, Ok, Err, sym, ap, subst, ◌∙◌}
use Rattle.std.proofs.Common.{append_assoc}
use Rattle.std.proofs.lemmas.List.{drop_all}
use Rattle.std.specs.List.{AllByRecursion}

-- one thing more is written, and what is to come with what was written stays the same
pub pushed : {X : Type 0} (f : X → List ℕ) (old new start : List ℕ) (left rest : List X) (x : X) → left ≡ x ∷ rest → new ≡ old ++ f x → old
    ++ flat_map f left ≡ start → new ++ flat_map f rest ≡ start
pushed f old new start left rest x next is so_far =
    ap (λ o. o ++ flat_map f rest) is ∙ append_assoc old (f x) (flat_map f rest) ∙ ap (λ l. old ++ flat_map f l) (sym next) ∙ so_far

pub of_others : {X : Type 0} (P : X → Type 0) (left rest : List X) (x : X) → left ≡ x ∷ rest → AllByRecursion P left → AllByRecursion P rest
of_others P left rest x next all = (subst (AllByRecursion P) next all).1

pub none_left : {X : Type 0} (n : ℕ) (xs : List X) → length xs ≤ n → drop n xs ≡ []
none_left n xs low = drop_all n xs low

-- what is said of a success says something else
pub says : {T E : Type 0} (result : Result T E) (P Q : Type 0) → OnOk result P → (P → Q) → OnOk result Q
says (Ok x) P Q all gives = gives all
says (Err e) P Q all gives = tt

-- a thing that is appended behind others
pub behind : (old before between new b a : List ℕ) → between ≡ old ++ before → new ≡ between ++ b → b ≡ a → new ≡ old ++ (before ++ a)
behind old before between new b a first second is = second ∙ ap (λ o. o ++ b) first ∙ ap (λ l. old ++ before ++ l) is
    ∙ append_assoc old before a
