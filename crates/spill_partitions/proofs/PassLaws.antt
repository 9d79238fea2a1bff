-- The partitions of a pass while they are left to later ones, and what a refused call says.
use Rattle.std.specs.Prelude.{◌≡◌, ◌≢◌, ℕ, ◌+◌, ◌<◌, ◌≤◌, true, false, not, List, [], ◌∷◌, ◌++◌}
use Rattle.std.proofs.Common.{refl, sym, ◌∙◌, ap, subst, arith, inl, inr}
use Rattle.std.proofs.lemmas.Bool.{cases_eq, cases_lt}
use Rattle.spill_tapes.specs.declared.tape.Phase.{Phase}
use Rattle.std.proofs.lemmas.List.Sums.{sum_by-cons}
use Rattle.spill_partitions.proofs.Words.{Record, TapesState, IsTape, KeepsOthers, OnTape, PendingPartition, left_by, PartitionsState, once}
use Rattle.spill_partitions.proofs.Words.{times, count_of, AreApart, AreSpilled, AreWritten}
use Rattle.spill_partitions.proofs.Words.{HasPartitions, ArePartitions, those_with_records}
use Rattle.spill_partitions.proofs.Words.{Written, Closed, is_in, is_open, OwnsOpen, KeepsOwn, HoldOpen, AreOpen, Closes}
use Rattle.spill_partitions.proofs.ApartLaws.{times-append, once_here, once_beside, kept_in, kept_open, written_open}
use Rattle.spill_partitions.proofs.CloseLaws.{are_open}
use Rattle.spill_partitions.proofs.PartitionLaws.{count-append}
use Rattle.spill_partitions.proofs.EndLaws.{AreLeft, left_start, left_step, left_end, those_some, those_count, those_times}
use Rattle.spill_partitions.proofs.StandingLaws.{state, times_in}
use Rattle.std.proofs.lemmas.Bool.Decides.{nat_tests}
use Rattle.std.proofs.lemmas.Grind.{common_steps}

-- these partitions of the pass are still to be left
pub record IsEnding (last last' : ℕ → ℕ → Type 0) (before now : PartitionsState) (rest : List OnTape) : Type 0 where
  pub apart : AreApart (rest ++ (now.reading ++ now.pending))
  pub written : AreWritten now.tapes rest
  pub alive : now.tapes.is_dead ≡ false
  pub partitions : now.partitions ≡ []
  pub reading : now.reading ≡ before.reading
  pub level : now.level ≡ before.level
  pub waiting : count_of now.pending + count_of rest ≡ count_of before.pending + count_of before.partitions
  pub left : (spilled ahead : List Record) (pending : List PendingPartition) → HasPartitions last before spilled ahead pending
      → AreLeft last' now.tapes now.reading now.pending rest ahead (pending ++ left_by before.level spilled)
  pub owns : OwnsOpen before → HoldOpen now.tapes (rest ++ (now.reading ++ now.pending))

pub ending_start : (last : ℕ → ℕ → Type 0) (t : TapesState) (level : ℕ) (partitions none reading pending rest : List OnTape) → t.is_dead
    ≡ false → none ≡ [] → rest ≡ partitions → ArePartitions (state t level partitions reading pending)
    → IsEnding last last (state t level partitions reading pending) (state t level none reading pending) rest
ending_start last t level partitions none reading pending rest alive empty is are = record {
  apart = subst (λ xs. AreApart (xs ++ (reading ++ pending))) (sym is) are.apart;
  written = subst (AreWritten t) (sym is) (are.written alive);
  alive = alive;
  partitions = empty;
  reading = refl;
  level = refl;
  waiting = ap (λ xs. count_of pending + count_of xs) is;
  left = λ spilled ahead left had. subst (λ xs. AreLeft last t reading pending xs ahead (left ++ left_by level spilled)) (sym is)
      (left_start last t level partitions reading pending spilled ahead left had.spilled_are had.ahead_are had.pending_are);
  owns = λ own. subst (λ xs. HoldOpen t (xs ++ (reading ++ pending))) (sym is) (own alive);
}

pub partitions_without : (t : TapesState) (level : ℕ) (partitions none reading pending : List OnTape) → none ≡ []
    → ArePartitions (state t level partitions reading pending) → ArePartitions (state t level none reading pending)
partitions_without t level partitions none reading pending empty are = record {
  apart = λ index. omega (
    arith,
    are.apart index,
    times-append index partitions (reading ++ pending),
    times-append index none (reading
        ++ pending),
    ap (times index) empty,
  );
  sixteen = inl empty;
  written = λ lives. subst (AreWritten t) (sym empty) tt;
  read = are.read;
  filled = are.filled;
}

-- the next one is apart from the others
first_apart : (x : OnTape) (rest others : List OnTape) → AreApart (x ∷ rest ++ others) → times x.tape.index (rest ++ others) ≡ 0
first_apart x rest others apart = grind (arith, nat_tests, common_steps)

pub ending_apart : (last last' : ℕ → ℕ → Type 0) (before now : PartitionsState) (rest rest' : List OnTape) (x : OnTape) → rest ≡ x ∷ rest'
    → IsEnding last last' before now rest → times x.tape.index (rest' ++ (now.reading ++ now.pending)) ≡ 0
ending_apart last last' before now rest rest' x is ending = first_apart x rest' (now.reading ++ now.pending)
    (subst (λ xs. AreApart (xs ++ (now.reading ++ now.pending))) is ending.apart)

pub ending_beside : (last last' : ℕ → ℕ → Type 0) (before now : PartitionsState) (rest rest' : List OnTape) (x : OnTape) → rest ≡ x ∷ rest'
    → IsEnding last last' before now rest → times x.tape.index (now.reading ++ now.pending) ≡ 0
ending_beside last last' before now rest rest' x is ending =
    omega (arith, ending_apart last last' before now rest rest' x is ending, times-append x.tape.index rest' (now.reading ++ now.pending))

pub ending_step : (last last' last'' : ℕ → ℕ → Type 0) (before now after : PartitionsState) (rest rest' : List OnTape) (x : OnTape) → rest
    ≡ x ∷ rest' → KeepsOthers last' last'' now.tapes after.tapes x.tape
    → (0 < x.records → (rs : List Record) → IsTape last' now.tapes x.tape rs → IsTape last'' after.tapes x.tape rs) → after.pending
    ≡ now.pending ++ those_with_records (x ∷ []) → (x.records ≡ 0 → is_open after.tapes x.tape ≡ false) → after.tapes.is_dead ≡ false
    → after.partitions ≡ [] → after.reading ≡ now.reading
    → after.level ≡ now.level → IsEnding last last' before now rest → IsEnding last last'' before after rest'
ending_step last last' last'' before now after rest rest' x is keeps kept put closed alive partitions reading level ending =
    let none : times x.tape.index (rest' ++ (now.reading ++ now.pending)) ≡ 0 = ending_apart last last' before now rest rest' x is ending in
    record {
      apart = λ index.
          let after_all : times index (rest' ++ (after.reading ++ after.pending)) ≡ times index rest'
          + (times index after.reading + times index after.pending) = times_in index rest' after.reading after.pending in
          let before_all : times index (rest ++ (now.reading ++ now.pending)) ≡ times index rest
          + (times index now.reading + times index now.pending) = times_in index rest now.reading now.pending in
          let first : times index rest ≡ once x.tape index + times index rest' = ap (times index) is in
          let pushed : times index after.pending ≡ times index now.pending + times index (those_with_records (x ∷ [])) = ap (times index)
          put ∙ times-append index now.pending (those_with_records (x ∷ [])) in
          let few : times index (those_with_records (x ∷ [])) ≤ once x.tape index + 0 = those_times index x in
          let same : times index after.reading ≡ times index now.reading = ap (times index) reading in
          omega (arith, after_all, before_all, first, pushed, few, same, ending.apart index);
      written = kept_in Written last' last'' now.tapes after.tapes x.tape rest' keeps
          (omega (arith, none, times-append x.tape.index rest' (now.reading ++ now.pending)))
          (subst (AreWritten now.tapes) is ending.written).1;
      alive = alive;
      partitions = partitions;
      reading = reading ∙ ending.reading;
      level = level ∙ ending.level;
      waiting =
          let first : count_of rest ≡ x.records + count_of rest' = ap count_of is ∙ sum_by-cons (λ (y : OnTape). y.records) x rest' in
          let pushed : count_of after.pending ≡ count_of now.pending + x.records = ap count_of put
          ∙ count-append now.pending (those_with_records (x ∷ [])) ∙ ap (λ n. count_of now.pending + n) (those_count x) in
          omega (arith, first, pushed, ending.waiting);
      left = λ spilled ahead pending had.
          subst (λ xs. AreLeft last'' after.tapes xs after.pending rest' ahead (pending ++ left_by before.level spilled)) (sym reading)
          (left_step last' last'' now.tapes after.tapes now.reading now.pending after.pending rest' ahead (pending
          ++ left_by before.level spilled) x keeps none kept put
          (subst (λ xs. AreLeft last' now.tapes now.reading now.pending xs ahead (pending ++ left_by before.level spilled)) is
          (ending.left spilled ahead pending had)));
      owns = λ own id opens.
          let after_all = times_in id.index rest' after.reading after.pending in
          let before_all = times_in id.index rest now.reading now.pending in
          let first : times id.index rest ≡ once x.tape id.index + times id.index rest' = ap (times id.index) is in
          let pushed : times id.index after.pending ≡ times id.index now.pending + times id.index (those_with_records (x ∷ [])) =
          ap (times id.index) put ∙ times-append id.index now.pending (those_with_records (x ∷ [])) in
          let same : times id.index after.reading ≡ times id.index now.reading = ap (times id.index) reading in
          elim (cases_eq id.index x.tape.index) [
            | inl here ↦ elim (cases_lt 0 x.records) [
              | inl some ↦
                  let own_times : times id.index (those_with_records (x ∷ [])) ≡ once x.tape id.index + 0 = ap (times id.index)
                  (those_some x some) in
                  omega (arith, after_all, pushed, own_times, once_here id.index x.tape here)
              | inr few ↦
                  let shut : is_open after.tapes id ≡ false = ap (λ (n : ℕ). is_open after.tapes (record { index = n })) here
                  ∙ closed (omega (arith, few)) in
                  absurd (cc (opens, shut))
            ]
            | inr differ ↦ omega (
              arith,
              after_all,
              before_all,
              first,
              pushed,
              same,
              once_beside id.index x.tape differ,
              ending.owns own id (kept_open last' last'' now.tapes after.tapes x.tape id keeps differ opens),
            )
          ];
    }

pub ending_end : (last last' : ℕ → ℕ → Type 0) (before now : PartitionsState) (rest : List OnTape) → rest ≡ []
    → IsEnding last last' before now rest → (spilled ahead : List Record) (pending : List PendingPartition)
    → HasPartitions last before spilled ahead pending → HasPartitions last' now [] ahead (pending ++ left_by before.level spilled)
ending_end last last' before now rest none ending spilled ahead pending had =
    let left = left_end last' now.tapes now.reading now.pending ahead (pending ++ left_by before.level spilled)
    (subst (λ xs. AreLeft last' now.tapes now.reading now.pending xs ahead (pending ++ left_by before.level spilled)) none
    (ending.left spilled ahead pending had)) in
    record {
      spilled_are = subst (λ xs. AreSpilled last' now.tapes now.level xs []) (sym ending.partitions) refl;
      ahead_are = left.0;
      pending_are = left.1;
    }

pub ending_owns : (last last' : ℕ → ℕ → Type 0) (before now : PartitionsState) (rest : List OnTape) → rest ≡ []
    → IsEnding last last' before now rest → KeepsOwn before now
ending_owns last last' before now rest none ending own lives = subst (λ xs. HoldOpen now.tapes (xs ++ (now.reading ++ now.pending)))
    (none ∙ sym ending.partitions) (ending.owns own)

-- those that are still to be left, where the first of them is not left
pub ending_open : (last last' last'' : ℕ → ℕ → Type 0) (before now : PartitionsState) (t : TapesState) (rest rest' : List OnTape)
    (x : OnTape)
    → rest ≡ x ∷ rest' → KeepsOthers last' last'' now.tapes t x.tape → is_open t x.tape ≡ true → IsEnding last last' before now rest
    → AreOpen t rest
ending_open last last' last'' before now t rest rest' x is keeps opens ending =
    let none : times x.tape.index (rest' ++ (now.reading ++ now.pending)) ≡ 0 = ending_apart last last' before now rest rest' x is ending in
    subst (AreOpen t) (sym is) (
      opens,
      are_open Written t rest' written_open (kept_in Written last' last'' now.tapes t x.tape rest' keeps
          (omega (arith, none, times-append x.tape.index rest' (now.reading ++ now.pending)))
          (subst (AreWritten now.tapes) is ending.written).1),
    )

pub ending_rest : (last last' : ℕ → ℕ → Type 0) (before now : PartitionsState) (rest : List OnTape) → IsEnding last last' before now rest
    → AreApart rest
ending_rest last last' before now rest ending index =
    omega (arith, ending.apart index, times-append index rest (now.reading ++ now.pending))

-- and these are closed
pub ending_closed : (last last' last'' : ℕ → ℕ → Type 0) (before now after : PartitionsState) (t : TapesState) (rest rest' : List OnTape)
    (x : OnTape) → rest ≡ x ∷ rest' → KeepsOthers last' last'' now.tapes t x.tape → Closes t after.tapes rest → after.partitions ≡ []
    → after.reading ≡ now.reading → after.pending ≡ now.pending → IsEnding last last' before now rest → KeepsOwn before after
ending_closed last last' last'' before now after t rest rest' x is keeps closes partitions reading pending ending own lives id opens =
    let none : times id.index rest ≡ 0 = closes.closed id opens in
    let first : times id.index rest ≡ once x.tape id.index + times id.index rest' = ap (times id.index) is in
    let before_open : is_open t id ≡ true = sym (ap (λ (phase : Phase). not (is_in Closed phase)) (closes.kept id none)) ∙ opens in
    let differ : id.index ≢ x.tape.index = λ same. omega (arith, none, first, once_here id.index x.tape same) in
    let held = ending.owns own id (kept_open last' last'' now.tapes t x.tape id keeps differ before_open) in
    let before_all = times_in id.index rest now.reading now.pending in
    let after_all = times_in id.index after.partitions after.reading after.pending in
    let a : times id.index after.reading ≡ times id.index now.reading = ap (times id.index) reading in
    let b : times id.index after.pending ≡ times id.index now.pending = ap (times id.index) pending in
    omega (arith, none, held, before_all, after_all, a, b)

pub ending_parted : (last last' : ℕ → ℕ → Type 0) (before now after : PartitionsState) (rest : List OnTape) → after.reading ≡ now.reading
    → after.pending ≡ now.pending → IsEnding last last' before now rest → AreApart (rest ++ (after.reading ++ after.pending))
ending_parted last last' before now after rest reading pending ending index =
    let before_all = times_in index rest now.reading now.pending in
    let after_all = times_in index rest after.reading after.pending in
    let a : times index after.reading ≡ times index now.reading = ap (times index) reading in
    let b : times index after.pending ≡ times index now.pending = ap (times index) pending in
    omega (arith, ending.apart index, before_all, after_all, a, b)
