-- Passes that are still to be made: their cost, the next one first and in any order; and that each key fits further down.
use Rattle.std.specs.Prelude.{◌≡◌, ℕ, ◌+◌, ◌≤◌, max, List, [], ◌∷◌, ◌++◌, flat_map, length, All, IsPermutation}
use Rattle.std.proofs.Common.{sym, ◌∙◌, ap, arith}
use Rattle.std.specs.List.{AllByRecursion, sum_by}
use Rattle.std.proofs.lemmas.List.Concat.{flat_map-append, length-flat_map}
use Rattle.std.proofs.lemmas.List.Elements.{All-from_recursion, recursion_from_All}
use Rattle.std.proofs.lemmas.List.Sorted.{IsPermutation-sym, sum_by-IsPermutation, All-permutation}
use Rattle.list_laws.specs.Each.{each_weaker}
use Rattle.aggregation_cost.specs.Space.{Setting}
use Rattle.aggregation_cost.specs.Passes.{Pass, spilled_by, left_by, passes_from, EachFits}
use Rattle.aggregation_cost.specs.Cost.{greatest, pages_by, needs_by, cost_of, both}
use Rattle.aggregation_cost.specs.ListLaws.{each_of_flat_map}
use Rattle.aggregation_cost.specs.Lemmas.Lists.{flat_map-flat_map, sum_by-flat_map}
use Rattle.aggregation_cost.specs.Lemmas.PassLaws.{each_left_fits, first_and_rest}
use Rattle.aggregation_cost.specs.Lemmas.CostLaws.{cost_of-append}

-- ---- one pass of those that are to be made

pub cost_of_next : (setting : Setting) (pass : Pass) (others : List Pass) → EachFits setting pass.records
    → cost_of setting (flat_map (passes_from setting) (pass ∷ others))
    ≡ both (cost_of setting (pass ∷ [])) (cost_of setting (flat_map (passes_from setting) (left_by setting pass ++ others)))
cost_of_next setting pass others fit =
    ap (λ passes. cost_of setting (passes ++ flat_map (passes_from setting) others)) (first_and_rest setting pass fit)
    ∙ cost_of-append setting (pass ∷ []) (flat_map (passes_from setting) (left_by setting pass) ++ flat_map (passes_from setting) others)
    ∙ ap (λ passes. both (cost_of setting (pass ∷ [])) (cost_of setting passes))
    (sym (flat_map-append (passes_from setting) (left_by setting pass) others))

-- ---- in any order

each_below : (ns : List ℕ) → AllByRecursion (λ n. n ≤ greatest ns) ns
each_below [] = tt
each_below (n ∷ ns) = (
  omega arith,
  each_weaker (λ m. m ≤ greatest ns) (λ m. m ≤ max n (greatest ns)) (λ m below. omega arith) ns
      (each_below ns),
)

greatest_at_most : (most : ℕ) (ns : List ℕ) → AllByRecursion (λ n. n ≤ most) ns → greatest ns ≤ most
greatest_at_most most [] below = omega arith
greatest_at_most most (n ∷ ns) (here, below) = let rest = greatest_at_most most ns below in omega arith

greatest_less : {X : Type 0} (f : X → List ℕ) (xs ys : List X) → IsPermutation xs ys → greatest (flat_map f ys) ≤ greatest (flat_map f xs)
greatest_less {X} f xs ys same =
    let most : ℕ = greatest (flat_map f xs) in
    let P : X → Type 0 = λ x. AllByRecursion (λ n. n ≤ most) (f x) in
    greatest_at_most most (flat_map f ys)
    (each_of_flat_map f (λ n. n ≤ most) ys
    (recursion_from_All P ys
    (All-permutation P xs ys same (All-from_recursion P xs (in_each (λ n. n ≤ most) xs (each_below (flat_map f xs)))))))
  where
    front : (P : ℕ → Type 0) (ms ns : List ℕ) → AllByRecursion P (ms ++ ns) → AllByRecursion P ms × AllByRecursion P ns
    front P [] ns all = (tt, all)
    front P (m ∷ ms) ns (p, all) = let both = front P ms ns all in ((p, both.0), both.1)

    in_each : (P : ℕ → Type 0) (some : List X) → AllByRecursion P (flat_map f some) → AllByRecursion (λ x. AllByRecursion P (f x)) some
    in_each P [] all = tt
    in_each P (x ∷ some) all = let both = front P (f x) (flat_map f some) all in (both.0, in_each P some both.1)

greatest_reordered : {X : Type 0} (f : X → List ℕ) (xs ys : List X) → IsPermutation xs ys → greatest (flat_map f ys)
    ≡ greatest (flat_map f xs)
greatest_reordered f xs ys same =
    let low = greatest_less f xs ys same in
    let high = greatest_less f ys xs (IsPermutation-sym xs ys same) in
    omega arith

-- a sum over what passes give, in any order of the passes
sum_reordered : {X Y : Type 0} (w : Y → ℕ) (f : X → List Y) (xs ys : List X) → IsPermutation xs ys → sum_by w (flat_map f ys)
    ≡ sum_by w (flat_map f xs)
sum_reordered w f xs ys same = sum_by-flat_map w f ys ∙ sum_by-IsPermutation (λ x. sum_by w (f x)) xs ys same ∙ sym (sum_by-flat_map w f xs)

pub cost_reordered : (setting : Setting) (xs ys : List Pass) → IsPermutation xs ys → cost_of setting (flat_map (passes_from setting) ys)
    ≡ cost_of setting (flat_map (passes_from setting) xs)
cost_reordered setting xs ys same =
    λ i. record {
      passes = (length-flat_map (passes_from setting) ys ∙ sum_by-IsPermutation (λ pass. length (passes_from setting pass)) xs ys same
          ∙ sym (length-flat_map (passes_from setting) xs)) i;
      spilled = sum_reordered (λ pass. length (spilled_by setting pass)) (passes_from setting) xs ys same i;
      pages = sum_reordered (pages_by setting) (passes_from setting) xs ys same i;
      most_held =
          (ap greatest (flat_map-flat_map (needs_by setting) (passes_from setting) ys)
          ∙ greatest_reordered (λ pass. flat_map (needs_by setting) (passes_from setting pass)) xs ys same
          ∙ ap greatest (sym (flat_map-flat_map (needs_by setting) (passes_from setting) xs))) i;
    }

-- ---- each key fits further down

pub fits_further_down : (setting : Setting) (pass : Pass) → EachFits setting pass.records
    → All (λ next. EachFits setting next.records) (left_by setting pass)
fits_further_down setting pass fit =
    All-from_recursion (λ next. EachFits setting next.records) (left_by setting pass)
    (each_weaker (λ next. (length next.records ≤ length pass.records) × EachFits setting next.records)
    (λ next. EachFits setting next.records) (λ next has. has.1) (left_by setting pass)
    (each_left_fits setting pass (length pass.records) fit (omega arith)))
