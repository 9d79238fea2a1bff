-- All contexts are the root and its descendants.
use Rattle.std.specs.Prelude.{◌≡◌, refl, ℕ, zero, suc, ◌+◌, ◌<◌, ◌⊎◌, Bool, true, false, List, [], ◌∷◌, Option, Some, None, get_or, is_some, cond}
use Rattle.std.proofs.Common.{inl, inr, sym, ◌∙◌, ap, subst, arith}
use Rattle.std.proofs.lemmas.Bool.{false≢true}
use Rattle.context_tree.proofs.Words.{no_context, held_by, is_below, held_from, held_by_all, Context, Link}
use Rattle.context_tree.specs.Lemmas.Forest.{below-self, below-closed}
use Rattle.context_tree.specs.Links.{parent_of, stamp_of, IsMadeBelow, IsForest}
use Rattle.context_tree.specs.Tree.{Emptied}

module _ (ls : List (Option Link)) (forest : IsForest ls) where
  step : (slot : ℕ) (link : Link) (up : Option ℕ) → get_or ls slot None ≡ Some link → link.parent ≡ up
      → IsMadeBelow ls slot link.stamp up
      → ((p : ℕ) → is_some (get_or ls p None) ≡ true → stamp_of (get_or ls p None) < link.stamp → is_below ls 0 p ≡ true)
      → is_below ls 0 slot ≡ true
  step slot link None is up made before = subst (λ s. is_below ls 0 s ≡ true) (sym made) (below-self ls forest 0)
  step slot link (Some p) is up made before = below-closed ls forest 0 slot p (ap parent_of is ∙ up) (before p made.1 made.0)

  by-stamp : (bound slot : ℕ)
      → ((p : ℕ) → is_some (get_or ls p None) ≡ true → stamp_of (get_or ls p None) < bound → is_below ls 0 p ≡ true)
      → (o : Option Link) → get_or ls slot None ≡ o → is_some o ≡ true → stamp_of o < suc bound → is_below ls 0 slot ≡ true
  by-stamp bound slot before None is some low = absurd (false≢true some)
  by-stamp bound slot before (Some link) is some low = step slot link link.parent is refl (forest.below slot link is)
      (λ p there less. before p there (omega (arith, less, low)))

  -- a context is the root or a descendant of it, by its stamp
  below-root : (bound slot : ℕ) → is_some (get_or ls slot None) ≡ true → stamp_of (get_or ls slot None) < bound → is_below ls 0 slot ≡ true
  below-root zero slot some low = absurd (omega (arith, low))
  below-root (suc bound) slot some low = by-stamp bound slot (λ p there less. below-root bound p there less) (get_or ls slot None) refl some
      low

counted : (b : Bool) (c : Context) → (b ≡ true) ⊎ (c ≡ no_context) → cond b (held_by c) 0 ≡ held_by c
counted b c (inl below) = ap (λ x. cond x (held_by c) 0) below
counted true c (inr none) = refl
counted false c (inr none) = sym (ap held_by none)

all-counted : (ls : List (Option Link)) (slot : ℕ) (cs : List Context)
    → ((i : ℕ) → (is_below ls 0 (slot + i) ≡ true) ⊎ (get_or cs i no_context ≡ no_context)) → held_from ls 0 slot cs ≡ held_by_all cs
all-counted ls slot [] each = refl
all-counted ls slot (c ∷ cs) each =
    let first : slot + 0 ≡ slot = omega arith in
    let here : cond (is_below ls 0 slot) (held_by c) 0
    ≡ held_by c = counted (is_below ls 0 slot) c (subst (λ n. (is_below ls 0 n ≡ true) ⊎ (c ≡ no_context)) first (each 0)) in
    let rest : held_from ls 0 (slot + 1) cs
    ≡ held_by_all cs = all-counted ls (slot + 1) cs (λ i. let next : slot + suc i ≡ slot + 1 + i = omega arith in
    subst (λ n. (is_below ls 0 n ≡ true) ⊎ (get_or cs i no_context ≡ no_context)) next (each (suc i))) in
    omega (arith, here, rest)

-- what all contexts hold is what the root and its descendants hold
pub root_held : (ls : List (Option Link)) (cs : List Context) (slot held : ℕ) → IsForest ls → Emptied ls cs → held ≡ held_by_all cs
    → slot ≡ 0 → held ≡ held_from ls slot 0 cs
root_held ls cs slot held forest empty all root =
    subst (λ s. held ≡ held_from ls s 0 cs) (sym root) (all ∙ sym (all-counted ls 0 cs each))
  where
    by : (i : ℕ) (o : Option Link) → get_or ls i None ≡ o → (is_below ls 0 i ≡ true) ⊎ (get_or cs i no_context ≡ no_context)
    by i None is = inr (empty i is)
    by i (Some link) is = inl (below-root ls forest (suc (stamp_of (get_or ls i None))) i (ap is_some is) (omega arith))

    each : (i : ℕ) → (is_below ls 0 (0 + i) ≡ true) ⊎ (get_or cs i no_context ≡ no_context)
    each i = let same : i ≡ 0 + i = omega arith in
        subst (λ n. (is_below ls 0 n ≡ true) ⊎ (get_or cs i no_context ≡ no_context)) same (by i (get_or ls i None) refl)
