-- How much is spilled at most.
use Rattle.std.specs.Prelude.{ℕ, zero, suc, ◌*◌, ◌≤◌, ◌==◌, true, false, cond, not, List, [], ◌∷◌, length, map, filter}
use Rattle.std.specs.List.{AllByRecursion, sum_by, range_with_len}
use Rattle.std.proofs.Common.{arith}
use Rattle.std.proofs.Math.Nat.{suc-mul}
use Rattle.std.proofs.lemmas.List.Sums.{sum_by-cons}
use Rattle.list_laws.specs.Each.{each_weaker}
use Rattle.aggregation_cost.specs.Cost.{cost}
use Rattle.aggregation_cost.specs.Passes.{Record, Pass, is_empty, is_one_of, list_of, on_list, one_deeper, taken_from, spilled_by, left_by}
use Rattle.aggregation_cost.specs.Passes.{down_to, passes}
use Rattle.aggregation_cost.specs.Space.{Setting}
use Rattle.aggregation_cost.specs.ListLaws.{each_of_flat_map}
use Rattle.aggregation_cost.specs.Lemmas.PassLaws.{filter_short}

-- passes over this many records at most
abbrev AreShort : ℕ → List Pass → Type 0
AreShort most some = AllByRecursion (λ (pass : Pass). length pass.records ≤ most) some

lists_short : (setting : Setting) (level most : ℕ) (records : List Record) (places : List ℕ) → length records ≤ most
    → AreShort most (map (one_deeper level) (filter (λ records. not (is_empty records)) (map (on_list setting level records) places)))
lists_short setting level most records [] low = tt
lists_short setting level most records (i ∷ places) low =
    let rest = lists_short setting level most records places low in
    let here = filter_short (λ (entry : Record). list_of setting level entry.key == i) records in
    let those : List (List Record) = filter (λ records. not (is_empty records)) (map (on_list setting level records) places) in
    elim (is_empty (on_list setting level records i)) as (λ b. AreShort most
    (map (one_deeper level) (cond (not b) (on_list setting level records i ∷ those) those))) [
      | true ↦ rest
      | false ↦ (omega (arith, here, low), rest)
    ]

spilled_short : (setting : Setting) (pass : Pass) → length (spilled_by setting pass) ≤ length pass.records
spilled_short setting pass = filter_short (λ (entry : Record). not (is_one_of (taken_from setting pass.records) entry.key)) pass.records

left_short : (setting : Setting) (most : ℕ) (pass : Pass) → length pass.records ≤ most → AreShort most (left_by setting pass)
left_short setting most pass low =
    let spilled = spilled_short setting pass in
    lists_short setting pass.level most (spilled_by setting pass) (range_with_len 0 16) (omega (arith, spilled, low))

down_short : (n : ℕ) (setting : Setting) (most : ℕ) (pass : Pass) → length pass.records ≤ most → AreShort most (down_to n setting pass)
down_short zero setting most pass low = (low, tt)
down_short (suc n) setting most pass low = (
  low,
  each_of_flat_map (down_to n setting) (λ (pass : Pass). length pass.records ≤ most) (left_by setting pass)
      (each_weaker (λ (pass : Pass). length pass.records ≤ most) (λ pass. AreShort most (down_to n setting pass))
      (down_short n setting most) (left_by setting pass) (left_short setting most pass low)),
)

some_spilled : (setting : Setting) (most : ℕ) (some : List Pass) → AreShort most some
    → sum_by (λ pass. length (spilled_by setting pass)) some ≤ length some * most
some_spilled setting most [] all = omega arith
some_spilled setting most (pass ∷ some) (low, all) =
    let rest = some_spilled setting most some all in
    let sum = sum_by-cons (λ pass. length (spilled_by setting pass)) pass some in
    let few = spilled_short setting pass in
    let next = suc-mul (length some) most in
    omega (arith, rest, sum, few, low, next)

-- no pass spills more records than there are
pub spilled_few : (setting : Setting) (records : List Record) → (cost setting records).spilled ≤ (cost setting records).passes
    * length records
spilled_few setting records = some_spilled setting (length records) (passes setting records)
    (down_short (length records) setting (length records) (record { level = 0; records = records }) (omega arith))
