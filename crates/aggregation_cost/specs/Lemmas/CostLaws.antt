-- How many passes there are at most, the cost of some passes and others, and keys that fit by themselves.
use Rattle.std.specs.Prelude.{◌≡◌, refl, ℕ, zero, suc, ◌+◌, ◌-◌, ◌≤◌, max, true, false, not, List, [], ◌∷◌, ◌++◌, filter, flat_map, length}
use Rattle.std.specs.Prelude.{All}
use Rattle.std.proofs.Common.{sym, ◌∙◌, ap, subst, arith}
use Rattle.std.specs.List.{AllByRecursion, sum_by}
use Rattle.std.proofs.lemmas.Bool.{both_ways}
use Rattle.std.proofs.lemmas.List.{length-append}
use Rattle.std.proofs.lemmas.List.Concat.{flat_map-append, length-flat_map}
use Rattle.std.proofs.lemmas.List.Sums.{sum_by-append, sum_by-cons}
use Rattle.std.proofs.lemmas.List.Elements.{All-head}
use Rattle.std.proofs.lemmas.List.Sorted.{length_permutation}
use Rattle.list_laws.specs.Each.{each_weaker}
use Rattle.aggregation_cost.specs.Space.{Key, rounded, Setting, fits}
use Rattle.aggregation_cost.specs.Passes.{Record, keys_of, same_key, first_of_each, taken, Pass, taken_by, spilled_by, is_empty, left_by}
use Rattle.aggregation_cost.specs.Passes.{down_to, passes, EachFits}
use Rattle.aggregation_cost.specs.Cost.{greatest, pages_by, needs_by, cost_of, both, cost}
use Rattle.aggregation_cost.specs.ListLaws.{each_both, each_of_flat_map}
use Rattle.aggregation_cost.specs.Lemmas.Fronts.{first_taken}
use Rattle.aggregation_cost.specs.Lemmas.PassLaws.{each_left, each_left_fits, taken_once}
use Rattle.std.proofs.lemmas.Bool.Decides.{nat_tests}
use Rattle.std.proofs.lemmas.Grind.{common_steps}

-- ---- how many passes there are

takes_one : (setting : Setting) (records : List Record) → EachFits setting records → is_empty records ≡ false
    → 1 ≤ length (taken setting (first_of_each (keys_of records)))
takes_one setting [] fit filled = absurd (both_ways true filled refl)
takes_one setting (entry ∷ rest) fit filled =
    let alone : fits setting (entry.key ∷ []) ≡ true = All-head (λ (entry : Record). fits setting (entry.key ∷ []) ≡ true) entry rest fit in
    let more : List Key = filter (λ other. not (same_key entry.key other)) (first_of_each (keys_of rest)) in
    subst (λ keys. 1 ≤ length keys) (sym (first_taken setting entry.key more alone)) (omega arith)

each_takes_one : (setting : Setting) (pass : Pass) (n : ℕ) → EachFits setting pass.records → length pass.records ≤ n → is_empty pass.records
    ≡ false → AllByRecursion (λ pass. 1 ≤ length (taken_by setting pass)) (down_to n setting pass)
each_takes_one setting pass zero fit within filled = (takes_one setting pass.records fit filled, tt)
each_takes_one setting pass (suc n) fit within filled = (
  takes_one setting pass.records fit filled,
  each_of_flat_map (down_to n setting) (λ pass. 1 ≤ length (taken_by setting pass)) (left_by setting pass)
      (each_weaker (λ next. ((length next.records ≤ n) × EachFits setting next.records) × (is_empty next.records ≡ false))
      (λ next. AllByRecursion (λ pass. 1 ≤ length (taken_by setting pass)) (down_to n setting next))
      (λ next has. each_takes_one setting next n has.0.1 has.0.0 has.1) (left_by setting pass)
      (each_both (λ next. (length next.records ≤ n) × EachFits setting next.records) (λ next. is_empty next.records
      ≡ false) (left_by setting pass) (each_left_fits setting pass n fit within)
      (each_left (λ next. is_empty next.records ≡ false) setting pass (λ i filled. filled)))),
)

at_least_one_each : {X : Type 0} (w : X → ℕ) (xs : List X) → AllByRecursion (λ x. 1 ≤ w x) xs → length xs ≤ sum_by w xs
at_least_one_each w [] each = omega arith
at_least_one_each w (x ∷ xs) (here, each) =
    let rest : length xs ≤ sum_by w xs = at_least_one_each w xs each in
    let all = sum_by-cons w x xs in
    omega arith

pub passes_few : (setting : Setting) (records : List Record) → EachFits setting records → 1 ≤ length records
    → (cost setting records).passes ≤ length (first_of_each (keys_of records))
passes_few setting records fit some =
    let first : Pass = record { level = 0; records = records } in
    let each = at_least_one_each (λ pass. length (taken_by setting pass)) (passes setting records)
    (each_takes_one setting first (length records) fit (omega arith) (filled records some)) in
    let all = length-flat_map (taken_by setting) (passes setting records) in
    let same = length_permutation (first_of_each (keys_of records)) (flat_map (taken_by setting) (passes setting records))
    (taken_once setting first fit) in
    omega arith
  where
    filled : (records : List Record) → 1 ≤ length records → is_empty records ≡ false
    filled [] some = absurd (omega arith)
    filled (entry ∷ records) some = refl

-- ---- some passes and others

pub greatest-append : (ms ns : List ℕ) → greatest (ms ++ ns) ≡ max (greatest ms) (greatest ns)
greatest-append [] ns = omega arith
greatest-append (m ∷ ms) ns = let rest = greatest-append ms ns in omega arith

pub cost_of-append : (setting : Setting) (xs ys : List Pass) → cost_of setting (xs ++ ys) ≡ both (cost_of setting xs) (cost_of setting ys)
cost_of-append setting xs ys =
    λ i. record {
      passes = length-append xs ys i;
      spilled = sum_by-append (λ pass. length (spilled_by setting pass)) xs ys i;
      pages = sum_by-append (pages_by setting) xs ys i;
      most_held = (ap greatest (flat_map-append (needs_by setting) xs ys)
          ∙ greatest-append (flat_map (needs_by setting) xs) (flat_map (needs_by setting) ys)) i;
    }

-- ---- keys that fit by themselves

pub one_fits : (setting : Setting) (key : Key) → 16384 + max 8192 (rounded (length key))
    + max 8192 (8 + rounded setting.width) ≤ setting.limit → fits setting (key ∷ []) ≡ true
one_fits setting key room = grind (arith, nat_tests, common_steps)

-- keys of at most 8,192 bytes beside states of at most 8,184
pub each_fits : (setting : Setting) (records : List Record) → 32768 ≤ setting.limit → setting.width ≤ 8184
    → All (λ (entry : Record). length entry.key ≤ 8192) records → EachFits setting records
each_fits setting records room narrow short = grind (arith, nat_tests, common_steps)
