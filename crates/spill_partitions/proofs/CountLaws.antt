-- How many records a pass spilled.
use Rattle.std.specs.Prelude.{◌≡◌, refl, ℕ, zero, suc, ◌+◌, ◌<◌, ◌≤◌, ◌==◌, ◌-◌, ◌/◌, ◌%◌, ◌^◌, nat_lt, Bool, true, false, cond, List, []}
use Rattle.std.specs.Prelude.{◌∷◌, map, length, get_or, sum_by}
use Rattle.std.specs.List.{range_with_len}
use Rattle.std.proofs.Common.{sym, ◌∙◌, ap, arith}
use Rattle.std.proofs.Math.ListN.{set}
use Rattle.std.proofs.lemmas.List.Sums.{sum_by-cons, sum_by-set}
use Rattle.spill_partitions.proofs.Words.{Record, TapesState, PendingPartition, partition_of, on_partition, deeper}
use Rattle.spill_partitions.proofs.Words.{partitions_of, count_of, AreOn}
use Rattle.spill_partitions.proofs.Words.{AreSpilled, OnTape}
use Rattle.spill_partitions.specs.Lemmas.CountLaws.{is_not, is_it, is_past}

-- how many are on n partitions, from one on
abbrev on_some : ℕ → List Record → ℕ → ℕ → ℕ
on_some level spilled a n = sum_by (λ (partition : PendingPartition). length partition.records)
    (map (λ i. record { level = deeper level; records = on_partition level spilled i }) (range_with_len a n))

abbrev after_one : Bool → ℕ → ℕ
after_one b n = cond b (n + 1) n

one_longer : (b : Bool) (r : Record) (rs : List Record) → length (cond b (r ∷ rs) rs) ≡ after_one b (length rs)
one_longer true r rs = omega arith
one_longer false r rs = refl

one_partition : (level a n : ℕ) (spilled : List Record) → on_some level spilled a (suc n) ≡ length (on_partition level spilled a)
    + on_some level spilled (a + 1) n
one_partition level a n spilled = sum_by-cons (λ (partition : PendingPartition). length partition.records)
    (record { level = deeper level; records = on_partition level spilled a })
    (map (λ i. record { level = deeper level; records = on_partition level spilled i }) (range_with_len (a + 1) n))

-- one record more is on none of the partitions behind its own
past : (level : ℕ) (r : Record) (rs : List Record) (a n : ℕ) → partition_of level r.hash < a
    → on_some level (r ∷ rs) a n ≡ on_some level rs a n
past level r rs a zero low = refl
past level r rs a (suc n) low =
    let here : length (on_partition level (r ∷ rs) a)
    ≡ length (on_partition level rs a) = ap (λ b. length (cond b (r ∷ on_partition level rs a) (on_partition level rs a)))
    (is_not (partition_of level r.hash) a low) in
    let rest = past level r rs (a + 1) n (omega (arith, low)) in
    one_partition level a n (r ∷ rs) ∙ (λ i. here i + rest i) ∙ sym (one_partition level a n rs)

-- and on one of those from its own or an earlier one on
among : (level : ℕ) (r : Record) (rs : List Record) (a n : ℕ) → a ≤ partition_of level r.hash → partition_of level r.hash < a + n
    → on_some level (r ∷ rs) a n ≡ on_some level rs a n + 1
among level r rs a zero low high = absurd (omega (arith, low, high))
among level r rs a (suc n) low high =
    let now = one_partition level a n (r ∷ rs) in
    let then = one_partition level a n rs in
    elim (partition_of level r.hash == a) as (λ b. (partition_of level r.hash == a) ≡ b → on_some level (r ∷ rs) a (suc n)
    ≡ on_some level rs a (suc n) + 1) [
      | true ↦ λ e.
          let here = ap (λ b. length (cond b (r ∷ on_partition level rs a) (on_partition level rs a))) e
          ∙ one_longer true r (on_partition level rs a) in
          let is = is_it (partition_of level r.hash) a e in
          let rest = past level r rs (a + 1) n (omega (arith, is)) in
          omega (arith, now, then, here, rest)
      | false ↦ λ e.
          let here = ap (λ b. length (cond b (r ∷ on_partition level rs a) (on_partition level rs a))) e in
          let behind = is_past (partition_of level r.hash) a e low in
          let rest = among level r rs (a + 1) n (omega (arith, behind)) (omega (arith, high)) in
          omega (arith, now, then, here, rest)
    ] refl

partition_few : (level h : ℕ) → partition_of level h < 16
partition_few level h = elim (nat_lt level 8) as (λ b. cond b (h / 16 ^ (7 - level) % 16) 0 < 16)
    [ true ↦ omega arith | false ↦ omega arith ]

none_on : (level a n : ℕ) → on_some level [] a n ≡ 0
none_on level a zero = refl
none_on level a (suc n) = let one = one_partition level a n [] in let rest = none_on level (a + 1) n in omega (arith, one, rest)

all_on : (level : ℕ) (spilled : List Record) → on_some level spilled 0 16 ≡ length spilled
all_on level [] = none_on level 0 16
all_on level (r ∷ rs) =
    let few = partition_few level r.hash in
    let one = among level r rs 0 16 (omega arith) (omega (arith, few)) in
    let rest = all_on level rs in
    omega (arith, one, rest)

-- tapes have as many records as their partitions
tapes_count : (last : ℕ → ℕ → Type 0) (t : TapesState) (tapes : List OnTape) (all : List PendingPartition) → AreOn last t tapes all
    → count_of tapes ≡ sum_by (λ (partition : PendingPartition). length partition.records) all
tapes_count last t [] [] are = refl
tapes_count last t (tape ∷ tapes) (partition ∷ all) (is, number, level, are) =
    let one = sum_by-cons (λ (tape : OnTape). tape.records) tape tapes in
    let other = sum_by-cons (λ (partition : PendingPartition). length partition.records) partition all in
    let rest = tapes_count last t tapes all are in
    omega (arith, one, other, rest, number)
tapes_count last t _ _ are = absurd are

pub spilled_count : (last : ℕ → ℕ → Type 0) (t : TapesState) (level : ℕ) (partitions : List OnTape) (spilled : List Record)
    → AreSpilled last t level partitions spilled → count_of partitions ≡ length spilled
spilled_count last t level [] spilled none = sym (ap length none)
spilled_count last t level (tape ∷ tapes) spilled are = tapes_count last t (tape ∷ tapes) (partitions_of level spilled) are
    ∙ all_on level spilled

-- one of the partitions that a pass spills to has a record more
pub count_put : (partitions : List OnTape) (i : ℕ) (x y : OnTape) → i < length partitions → x ≡ get_or partitions i x → y.records
    ≡ x.records + 1 → count_of (set partitions i y) ≡ count_of partitions + 1
count_put partitions i x y less is more = omega (
  arith,
  sum_by-set (λ (z : OnTape). z.records) partitions i y x less,
  ap
      (λ (z : OnTape). z.records) is,
  more,
)
