-- How many pages the tapes of partitions have.
use Rattle.std.specs.Prelude.{◌≡◌, refl, ℕ, zero, suc, ◌+◌, ◌/◌, ◌<◌, ◌≤◌, List, [], ◌∷◌, ◌++◌, length, get_or}
use Rattle.std.proofs.Common.{sym, ◌∙◌, ap, subst, arith}
use Rattle.std.proofs.Math.ListN.{set}
use Rattle.std.proofs.lemmas.List.Sums.{sum_by-cons}
use Rattle.spill_partitions.proofs.Words.{Record, TapesState, IsTape, written_len, KeepsOthers, TapeId}
use Rattle.spill_partitions.proofs.Words.{PendingPartition, partitions_of, times}
use Rattle.spill_partitions.proofs.Words.{AreApart, AreOn, AreSpilled, partition_pages, pages_of, full_pages, OnTape}
use Rattle.spill_partitions.proofs.ApartLaws.{times-append, differs, once_here, times_here, kept_on}
use Rattle.spill_partitions.proofs.PartitionLaws.{AreNew}
use Rattle.spill_partitions.proofs.StandingLaws.{times_in}
use Rattle.std.proofs.lemmas.Bool.Decides.{nat_tests}
use Rattle.std.proofs.lemmas.Grind.{common_steps}

full_cons : (t : TapesState) (tape : OnTape) (tapes : List OnTape) → full_pages t (tape ∷ tapes) ≡ written_len t tape.tape / 8192
    + full_pages t tapes
full_cons t tape tapes = sum_by-cons (λ (partition : OnTape). written_len t partition.tape / 8192) tape tapes

-- the others have as many
pub kept_pages : (last last' : ℕ → ℕ → Type 0) (t t' : TapesState) (id : TapeId) (tapes : List OnTape) → KeepsOthers last last' t t' id
    → times id.index tapes ≡ 0 → full_pages t' tapes ≡ full_pages t tapes
kept_pages last last' t t' id [] keeps none = refl
kept_pages last last' t t' id (tape ∷ tapes) keeps none =
    let here : written_len t' tape.tape ≡ written_len t tape.tape = keeps.lens tape.tape (differs id tape.tape (omega (arith, none))) in
    let rest : full_pages t' tapes ≡ full_pages t tapes = kept_pages last last' t t' id tapes keeps (omega (arith, none)) in
    full_cons t' tape tapes ∙ (λ i. here i / 8192 + rest i) ∙ sym (full_cons t tape tapes)

-- one of them grows
pub put_pages : (last last' : ℕ → ℕ → Type 0) (t t' : TapesState) (tapes : List OnTape) (i : ℕ) (x y : OnTape) → i < length tapes → x
    ≡ get_or tapes i x → times x.tape.index tapes ≤ 1 → KeepsOthers last last' t t' x.tape → y.tape ≡ x.tape
    → full_pages t' (set tapes i y) + written_len t x.tape / 8192 ≡ full_pages t tapes + written_len t' x.tape / 8192
put_pages last last' t t' [] i x y less is apart keeps same = absurd (omega (arith, less))
put_pages last last' t t' (tape ∷ tapes) zero x y less is apart keeps same =
    let here : x ≡ tape = is in
    let none : times x.tape.index tapes
    ≡ 0 = omega (arith, apart, once_here x.tape.index tape.tape (ap (λ (z : OnTape). z.tape.index) here)) in
    let new = full_cons t' y tapes in
    let old = full_cons t tape tapes in
    let kept = kept_pages last last' t t' x.tape tapes keeps none in
    let a : written_len t' y.tape / 8192 ≡ written_len t' x.tape / 8192 = ap (λ id. written_len t' id / 8192) same in
    let b : written_len t tape.tape / 8192 ≡ written_len t x.tape / 8192 = ap (λ (z : OnTape). written_len t z.tape / 8192) (sym here) in
    omega (arith, new, old, kept, a, b)
put_pages last last' t t' (tape ∷ tapes) (suc i) x y less is apart keeps same =
    let further : 1 ≤ times x.tape.index tapes = times_here tapes i x (omega (arith, less)) is in
    let a : written_len t' tape.tape / 8192
    ≡ written_len t tape.tape / 8192 = ap (λ n. n / 8192)
    (keeps.lens tape.tape (differs x.tape tape.tape (omega (arith, apart, further)))) in
    let new = full_cons t' tape (set tapes i y) in
    let old = full_cons t tape tapes in
    let rest = put_pages last last' t t' tapes i x y (omega (arith, less)) is (omega (arith, apart)) keeps same in
    omega (arith, new, old, rest, a)

pub new_pages : (last : ℕ → ℕ → Type 0) (t : TapesState) (level : ℕ) (tapes : List OnTape) → AreNew last t level tapes → full_pages t tapes
    ≡ 0
new_pages last t level [] had = refl
new_pages last t level (x ∷ tapes) had =
    let all = full_cons t x tapes in
    let none : written_len t x.tape / 8192 ≡ 0 = ap (λ n. n / 8192) had.0.short in
    let rest = new_pages last t level tapes had.1 in
    omega (arith, all, none, rest)

-- the partition that is read is none of those to which the pass spills
pub source_apart : (partitions reading pending : List OnTape) (x : OnTape) → reading ≡ x ∷ []
    → AreApart (partitions ++ (reading ++ pending)) → times x.tape.index partitions ≡ 0
source_apart partitions reading pending x is apart =
    let all = times_in x.tape.index partitions reading pending in
    let own : times x.tape.index reading ≡ times x.tape.index (x ∷ []) = ap (times x.tape.index) is in
    let once = once_here x.tape.index x.tape refl in
    let few = apart x.tape.index in
    omega (arith, all, own, once, few)

-- a call on the tape of the pass leaves the pages of the partitions
pub paged_beside : (last last' : ℕ → ℕ → Type 0) (t t' : TapesState) (partitions reading pending : List OnTape) (x : OnTape) → reading ≡ x
    ∷ [] → AreApart (partitions ++ (reading ++ pending)) → KeepsOthers last last' t t' x.tape → full_pages t' partitions
    ≡ full_pages t partitions
paged_beside last last' t t' partitions reading pending x is apart keeps = kept_pages last last' t t' x.tape partitions keeps
    (source_apart partitions reading pending x is apart)

pub parts_once : (partitions reading pending : List OnTape) (index : ℕ) → AreApart (partitions ++ (reading ++ pending))
    → times index partitions ≤ 1
parts_once partitions reading pending index apart = let all = times_in index partitions reading pending in let few = apart index in omega
    (arith, all, few)

pub rest_apart : (rest others : List OnTape) (index : ℕ) → times index (rest ++ others) ≡ 0 → times index rest ≡ 0
rest_apart rest others index none = let all = times-append index rest others in omega (arith, all, none)

-- ---- partitions that are left one after the other

-- these are still to be left, and the pages that were written are those of the others and the full ones of these
pub record IsPaged (last : ℕ → ℕ → Type 0) (t : TapesState) (rest : List OnTape) (start all full written : ℕ) : Type 0 where
  pub more : List PendingPartition
  pub are : AreOn last t rest more
  pub sum : written + full + pages_of more ≡ start + all + full_pages t rest

no_pages : (level : ℕ) → pages_of (partitions_of level []) ≡ 0
no_pages level = refl

pub paged_start : (last : ℕ → ℕ → Type 0) (t : TapesState) (level : ℕ) (partitions rest : List OnTape) (spilled : List Record) (start : ℕ)
    → rest ≡ partitions → AreSpilled last t level partitions spilled → IsPaged last t rest start (pages_of (partitions_of level spilled))
    (full_pages t partitions) start
paged_start last t level partitions rest spilled start is are = subst
    (λ rest. IsPaged last t rest start (pages_of (partitions_of level spilled))
    (full_pages t partitions) start) (sym is) (from partitions are)
  where
    from : (partitions : List OnTape) → AreSpilled last t level partitions spilled
        → IsPaged last t partitions start (pages_of (partitions_of level spilled)) (full_pages t partitions) start
    from [] none =
        let clear : pages_of (partitions_of level spilled) ≡ 0 = ap (λ rs. pages_of (partitions_of level rs)) none ∙ no_pages level in
        record { more = []; are = tt; sum = omega (arith, clear) }
    from (x ∷ partitions) are = record { more = partitions_of level spilled; are = are; sum = omega arith }

pub paged_step : (last last' : ℕ → ℕ → Type 0) (t t' : TapesState) (rest rest' : List OnTape) (x : OnTape) (start all full written now : ℕ)
    → rest ≡ x ∷ rest' → KeepsOthers last last' t t' x.tape → times x.tape.index rest' ≡ 0
    → ((records : List Record) → IsTape last t x.tape records → x.records ≡ length records → now + written_len t x.tape / 8192 ≡ written
    + partition_pages records) → IsPaged last t rest start all full written → IsPaged last' t' rest' start all full now
paged_step last last' t t' rest rest' x start all full written now is keeps apart paged p = by p.more
    (subst (λ rest. AreOn last t rest p.more) is p.are) (p.sum ∙ ap (λ rest. start + all + full_pages t rest) is)
  where
    by : (more : List PendingPartition) → AreOn last t (x ∷ rest') more → written + full + pages_of more ≡ start + all
        + full_pages t (x ∷ rest') → IsPaged last' t' rest' start all full now
    by [] are sum = absurd are
    by (partition ∷ more) are sum =
        let one = paged partition.records are.0 are.1 in
        let partitions_cons = sum_by-cons (λ (partition : PendingPartition). partition_pages partition.records) partition more in
        let tapes_cons = full_cons t x rest' in
        let kept = kept_pages last last' t t' x.tape rest' keeps apart in
        record {
          more = more;
          are = kept_on last last' t t' x.tape rest' more keeps apart are.3;
          sum = omega
              (arith, one, sum, partitions_cons, tapes_cons, kept);
        }

pub paged_end : (last : ℕ → ℕ → Type 0) (t : TapesState) (rest : List OnTape) (start all full written : ℕ) → rest ≡ []
    → IsPaged last t rest start all full written → written + full ≡ start + all
paged_end last t rest start all full written none p = grind (arith, nat_tests, common_steps)
