-- Laws: what follows from the lists of contexts by their slots; nothing here is a definition.
use Rattle.std.specs.Prelude.{◌≡◌, ◌≢◌, refl, ℕ, zero, suc, ◌<◌, ◌≤◌, Bool, true, List, [], ◌∷◌, Option, Some, None, length, get_or}
use Rattle.std.specs.Prelude.{is_some}
use Rattle.std.proofs.Common.{sym, ap, subst}
use Rattle.std.proofs.lemmas.Bool.{false≢true}
use Rattle.std.proofs.Math.Nat.{not-suc-le-zero, le_of_suc-le-suc}
use Rattle.context_tree.specs.Links.{parent_of, stamp_of, is_true_of, placed, IsMadeBelow, IsForest}
use Rattle.context_tree.specs.declared.links.Link.{Link}

-- what is put in a slot is there, and all else is where it was
pub placed-here : {X : Type 0} (xs : List X) (n : ℕ) (x d : X) → n ≤ length xs → get_or (placed xs n x) n d ≡ x
placed-here [] zero x d low = refl
placed-here [] (suc n) x d low = absurd (not-suc-le-zero low)
placed-here (y ∷ xs) zero x d low = refl
placed-here (y ∷ xs) (suc n) x d low = placed-here xs n x d (le_of_suc-le-suc low)

pub placed-other : {X : Type 0} (xs : List X) (n k : ℕ) (x d : X) → n ≤ length xs → k ≢ n → get_or (placed xs n x) k d ≡ get_or xs k d
placed-other [] zero zero x d low ne = absurd (ne refl)
placed-other [] zero (suc k) x d low ne = refl
placed-other [] (suc n) k x d low ne = absurd (not-suc-le-zero low)
placed-other (y ∷ xs) zero zero x d low ne = absurd (ne refl)
placed-other (y ∷ xs) zero (suc k) x d low ne = refl
placed-other (y ∷ xs) (suc n) zero x d low ne = refl
placed-other (y ∷ xs) (suc n) (suc k) x d low ne = placed-other xs n k x d (le_of_suc-le-suc low) (λ e. ne (ap suc e))

-- two tests that agree on a parent
pub tests-agree : (p : Option ℕ) (f g : ℕ → Bool) → ((x : ℕ) → p ≡ Some x → f x ≡ g x) → is_true_of p f ≡ is_true_of p g
tests-agree None f g same = refl
tests-agree (Some x) f g same = same x refl

-- in a forest a parent has a lower stamp, and is there
pub parent-is : (ls : List (Option Link)) → IsForest ls → (slot : ℕ) (link : Option Link) → get_or ls slot None ≡ link → (p : ℕ)
    → parent_of link ≡ Some p
    → (stamp_of (get_or ls p None) < stamp_of (get_or ls slot None)) × (is_some (get_or ls p None) ≡ true)
parent-is ls forest slot None is p e = absurd (false≢true (ap is_some e))
parent-is ls forest slot (Some link) is p e =
    let made : (stamp_of (get_or ls p None) < link.stamp) × (is_some (get_or ls p None) ≡ true) = subst (IsMadeBelow ls slot link.stamp) e
    (forest.below slot link is) in
    (subst (λ n. stamp_of (get_or ls p None) < n) (sym (ap stamp_of is)) made.0, made.1)
