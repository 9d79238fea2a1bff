-- The first pass, over all inputs.
use Rattle.std.specs.Prelude.{◌≡◌, refl, ℕ, zero, suc, ◌+◌, ◌≤◌, List, [], ◌∷◌, ◌++◌, length, slice_get, Some}
use Rattle.std.specs.List.Sorted.{IsPermutation}
use Rattle.std.proofs.Common.{sym, ap, subst, arith}
use Rattle.std.proofs.lemmas.List.Sorted.{length_permutation}
use Rattle.std.proofs.lemmas.List.Sums.{sum_by-cons}
use Rattle.hash_agg.proofs.Words.{Query, EachFits, Setting, Record, PendingPartition, partitions_of}
use Rattle.hash_agg.proofs.Words.{left_by, PartitionsState, HasPartitions, count_of}
use Rattle.hash_agg.proofs.Words.{spilled_number, waiting_number, pages_of, written_pages, Entry, Rises, Brought, rows_in, all_rows}
use Rattle.hash_agg.proofs.Words.{IsUnderway, Piece, PassState, Holds, records_of, total, Costs, AddsUp, pass_cost, Work}
use Rattle.hash_agg.proofs.SpillLaws.{nothing_spills}
use Rattle.hash_agg.proofs.UnionLaws.{nothing_stands, ends}
use Rattle.hash_agg.proofs.WaitLaws.{waits_first}
use Rattle.hash_agg.proofs.WorkLaws.{costs_first}

-- how many rows the input at a place counts
pub input_few : (inputs : List Brought) (i : ℕ) (input : Brought) → slice_get inputs i ≡ Some input → rows_in input ≤ all_rows inputs
input_few [] i input at = absurd cc
input_few (x ∷ inputs) zero input at =
    let same : x ≡ input = cc in
    let counted = ap rows_in same in
    let sum = sum_by-cons rows_in x inputs in
    omega (arith, counted, sum)
input_few (x ∷ inputs) (suc i) input at =
    let rest = input_few inputs i input at in
    let sum = sum_by-cons rows_in x inputs in
    omega (arith, rest, sum)

-- before any input
pub first_holds : (q : Query) (s : Setting) (pass : PassState) → pass.entries ≡ [] → pass.spill.partitions ≡ []
    → HasPartitions pass.last pass.spill [] [] [] → Holds q s pass [] [] []
first_holds q s pass empty clear none = (
  [],
  none,
  nothing_stands q s.hash pass.entries [] empty refl,
  nothing_spills q s pass.entries
      pass.spill.partitions [] empty clear refl,
)

pub first_total : (entries : List Entry) (lists : PartitionsState) → entries ≡ [] → lists.partitions ≡ [] → total entries lists ≤ 0
first_total entries lists empty none =
    let a : length entries ≡ 0 = ap length empty in
    let b : spilled_number lists ≡ 0 = ap count_of none in
    omega (arith, a, b)

-- after all of them
pub first_waits : (q : Query) (s : Setting) (pieces : List Piece) (pass : PassState) (run : List Entry) (after : PartitionsState) (now : ℕ
    → ℕ → Type 0) (before done : Work) (start written end : ℕ) → IsPermutation pass.entries run → Rises run → pass.spill.level ≡ 0
    → EachFits s (records_of q s.width pieces) → written ≡ start + written_pages pass.spill
    → ((spilled ahead : List Record) (pending : List PendingPartition) → HasPartitions pass.last pass.spill spilled ahead pending
    → HasPartitions now after [] ahead (pending ++ left_by pass.spill.level spilled))
    → ((spilled ahead : List Record) (pending : List PendingPartition) → HasPartitions pass.last pass.spill spilled ahead pending → end
    + written_pages pass.spill ≡ written + pages_of (partitions_of pass.spill.level spilled))
    → ((spilled ahead : List Record) (pending : List PendingPartition) (pages : ℕ)
    → HasPartitions pass.last pass.spill spilled ahead pending
    → AddsUp before (pass_cost s.width pass.entries (length spilled) pages) done)
    → Holds q s pass pieces [] [] → IsUnderway q s pieces run (HasPartitions now after [] []) before done start end
first_waits q s pieces pass run after now before done start written end moved rises top fit so_far left paged adds
    (spilled, has, stands, spills) =
    let all : pages_of (partitions_of pass.spill.level spilled)
    ≡ pages_of (partitions_of 0 spilled) = ap (λ level. pages_of (partitions_of level spilled)) top in
    let sum = paged spilled [] [] has in
    record {
      pending = left_by pass.spill.level spilled;
      has = left spilled [] [] has;
      waits = waits_first q s.hash pieces run spilled pass.spill.level (ends q s.hash pieces pass.entries run spilled spilled moved rises
          refl stands);
      made = pass_cost s.width pass.entries (length spilled) (pages_of (partitions_of 0 spilled));
      costs = subst (λ level. Costs q s pieces (pass_cost s.width pass.entries (length spilled) (pages_of (partitions_of 0 spilled)))
          (left_by level spilled)) (sym top) (costs_first q s pieces pass.entries pass.spill.partitions spilled fit spills);
      adds = adds spilled [] [] (pages_of (partitions_of 0 spilled)) has;
      paged = omega (arith, all, sum, so_far);
    }

pub first_few : (entries run : List Entry) (lists after : PartitionsState) (most : ℕ) → IsPermutation entries run → waiting_number after
    ≡ waiting_number lists + spilled_number lists → lists.pending ≡ [] → total entries lists ≤ most → length run
    + waiting_number after ≤ most
first_few entries run lists after most moved waiting none few =
    let long : length run ≡ length entries = length_permutation entries run moved in
    let empty : waiting_number lists ≡ 0 = ap count_of none in
    omega (arith, long, waiting, empty, few)
