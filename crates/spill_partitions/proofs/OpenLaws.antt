-- The partitions of a pass while they are opened.
use Rattle.std.specs.Prelude.{◌≡◌, ◌==◌, ℕ, ◌+◌, ◌≤◌, true, false, List, [], ◌∷◌, ◌++◌, length}
use Rattle.std.proofs.Common.{refl, sym, ◌∙◌, ap, subst, arith, inl, inr, length-append}
use Rattle.std.proofs.lemmas.Bool.{cases_eq}
use Rattle.std.proofs.lemmas.Bool.Decides.{nat_tests}
use Rattle.spill_partitions.proofs.Words.{Record, is_open, KeepsOthers, TapeId, OnTape, PendingPartition, deeper, PartitionsState, once}
use Rattle.spill_partitions.proofs.Words.{times, count_of, full_pages, spilled_number, written_pages, AreApart, AreSpilled, AreRead}
use Rattle.spill_partitions.proofs.Words.{HasPartitions, IsNewPartition, ArePartitions, OwnsOpen, HoldOpen, Written, Read, TapesState}
use Rattle.spill_partitions.proofs.ApartLaws.{times-append, once_here, kept_in, kept_open, written_open, read_open, fresh_in}
use Rattle.spill_partitions.proofs.PartitionLaws.{AreNew, kept_new, new_push, new_written, new_spilled}
use Rattle.spill_partitions.proofs.StandingLaws.{state, times_in, one_more, has_beside}
use Rattle.std.proofs.lemmas.Grind.{common_steps}

-- so many new partitions are open beside those that were there
pub record AreOpening (last : ℕ → ℕ → Type 0) (before now : PartitionsState) (deep : ℕ) (tapes : List OnTape) (count : ℕ) : Type 0 where
  pub long : length tapes ≡ count
  pub new : AreNew last now.tapes deep tapes
  pub apart : AreApart (tapes ++ (now.reading ++ now.pending))
  pub read : AreRead now.tapes (now.reading ++ now.pending)
  pub alive : now.tapes.is_dead ≡ false
  pub partitions : now.partitions ≡ []
  pub reading : now.reading ≡ before.reading
  pub pending : now.pending ≡ before.pending
  pub level : now.level ≡ before.level
  pub has : (spilled ahead : List Record) (left : List PendingPartition) → HasPartitions last before spilled ahead left
      → HasPartitions last now spilled ahead left
  pub owns : OwnsOpen before → HoldOpen now.tapes (tapes ++ (now.reading ++ now.pending))

pub opening_start : (last : ℕ → ℕ → Type 0) (s : PartitionsState) (deep : ℕ) (tapes : List OnTape) → s.tapes.is_dead ≡ false → s.partitions
    ≡ [] → tapes ≡ [] → ArePartitions s → AreOpening last s s deep tapes 0
opening_start last s deep tapes alive partitions none are = record {
  long = ap length none;
  new = subst (AreNew last s.tapes deep) (sym none) tt;
  apart = λ index. omega (
    arith,
    are.apart index,
    times-append index tapes (s.reading ++ s.pending),
    times-append index s.partitions (s.reading ++ s.pending),
    ap (times index) none,
  );
  read = are.read alive;
  alive = alive;
  partitions = partitions;
  reading = refl;
  pending = refl;
  level = refl;
  has = λ spilled ahead left had. had;
  owns = λ own. subst (λ xs. HoldOpen s.tapes (xs ++ (s.reading ++ s.pending))) (partitions ∙ sym none) (own alive);
}

has_moved : (last : ℕ → ℕ → Type 0) (s s' : PartitionsState) (id : TapeId) → KeepsOthers last last s.tapes s'.tapes id → s.partitions ≡ []
    → times id.index (s.reading ++ s.pending) ≡ 0 → s'.partitions ≡ s.partitions → s'.reading ≡ s.reading → s'.pending ≡ s.pending
    → s'.level ≡ s.level → (spilled ahead : List Record) (left : List PendingPartition) → HasPartitions last s spilled ahead left
    → HasPartitions last s' spilled ahead left
has_moved last s s' id keeps none apart partitions reading pending level spilled ahead left had =
    let same : state s'.tapes s.level s.partitions s.reading s.pending ≡ s' =
    ap (λ n. state s'.tapes n s.partitions s.reading s.pending) (sym level)
    ∙ ap (λ xs. state s'.tapes s'.level xs s.reading s.pending) (sym partitions)
    ∙ ap (λ xs. state s'.tapes s'.level s'.partitions xs s.pending) (sym reading)
    ∙ ap (λ xs. state s'.tapes s'.level s'.partitions s'.reading xs) (sym pending) in
    subst (λ (x : PartitionsState). HasPartitions last x spilled ahead left) same
    (has_beside last last s.tapes s'.tapes s.level s.partitions s.reading s.pending spilled ahead left id keeps
    (ap (λ xs. times id.index (xs ++ (s.reading ++ s.pending))) none ∙ apart) had)

pub opening_step : (last : ℕ → ℕ → Type 0) (before now after : PartitionsState) (deep : ℕ) (tapes tapes' : List OnTape) (n : ℕ) (x : OnTape)
    → AreOpening last before now deep tapes n → tapes' ≡ tapes ++ x ∷ [] → IsNewPartition last after.tapes deep x → is_open now.tapes x.tape
    ≡ false → KeepsOthers last last now.tapes after.tapes x.tape → after.tapes.is_dead ≡ false → after.partitions ≡ now.partitions
    → after.reading ≡ now.reading → after.pending ≡ now.pending → after.level ≡ now.level → AreOpening last before after deep tapes' (n + 1)
opening_step last before now after deep tapes tapes' n x opening more new fresh keeps alive partitions reading pending level =
    let none_read : times x.tape.index (now.reading ++ now.pending) ≡ 0 = fresh_in Read now.tapes x.tape (now.reading ++ now.pending)
    read_open fresh opening.read in
    let none_new : times x.tape.index tapes ≡ 0 = fresh_in Written now.tapes x.tape tapes written_open fresh
    (new_written last now.tapes deep tapes opening.new) in
    let none : times x.tape.index (tapes ++ (now.reading ++ now.pending))
    ≡ 0 = omega (arith, times-append x.tape.index tapes (now.reading ++ now.pending)) in
    let same : after.reading ++ after.pending ≡ now.reading ++ now.pending = ap (λ xs. xs ++ after.pending) reading
    ∙ ap (λ xs. now.reading ++ xs) pending in
    record {
      long = ap length more ∙ length-append tapes (x ∷ []) ∙ ap (λ k. k + 1) opening.long;
      new = subst (AreNew last after.tapes deep) (sym more)
          (new_push last after.tapes deep tapes x (kept_new last last now.tapes after.tapes x.tape deep tapes keeps none_new opening.new)
          new);
      apart = λ index.
          let after_all : times index (tapes' ++ (after.reading ++ after.pending)) ≡ times index tapes'
          + times index (after.reading ++ after.pending) = times-append index tapes' (after.reading ++ after.pending) in
          let before_all : times index (tapes ++ (now.reading ++ now.pending)) ≡ times index tapes
          + times index (now.reading ++ now.pending) = times-append index tapes (now.reading ++ now.pending) in
          let others : times index (after.reading ++ after.pending) ≡ times index (now.reading ++ now.pending) = ap (times index) same in
          let pushed : times index tapes' ≡ times index tapes + times index (x ∷ []) = ap (times index) more
          ∙ times-append index tapes (x ∷ []) in
          let few : times index (tapes ++ (now.reading ++ now.pending))
          + once x.tape index ≤ 1 = one_more (λ i. times i (tapes ++ (now.reading ++ now.pending))) x.tape index none
          (opening.apart index) in
          omega (arith, after_all, before_all, others, pushed, few);
      read = subst (AreRead after.tapes) (sym same) (kept_in Read last last now.tapes after.tapes x.tape (now.reading ++ now.pending) keeps
          none_read opening.read);
      alive = alive;
      partitions = partitions ∙ opening.partitions;
      reading = reading ∙ opening.reading;
      pending = pending ∙ opening.pending;
      level = level ∙ opening.level;
      has = λ spilled ahead left had. has_moved last now after x.tape keeps opening.partitions none_read partitions reading pending level
          spilled ahead left (opening.has spilled ahead left had);
      owns = λ own id opens.
          let after_all = times-append id.index tapes' (after.reading ++ after.pending) in
          let before_all = times-append id.index tapes (now.reading ++ now.pending) in
          let others : times id.index (after.reading ++ after.pending) ≡ times id.index (now.reading ++ now.pending) =
          ap (times id.index) same in
          let pushed : times id.index tapes' ≡ times id.index tapes + times id.index (x ∷ []) = ap (times id.index) more
          ∙ times-append id.index tapes (x ∷ []) in
          elim (cases_eq id.index x.tape.index) [
            | inl here ↦ omega (arith, after_all, pushed, once_here id.index x.tape here)
            | inr differ ↦ omega (
              arith,
              after_all,
              before_all,
              others,
              pushed,
              opening.owns own id (kept_open last last now.tapes after.tapes x.tape id keeps differ opens),
            )
          ];
    }

pub opening_has : (last : ℕ → ℕ → Type 0) (s : PartitionsState) (tapes : List OnTape) (spilled ahead : List Record)
    (left : List PendingPartition) → length tapes ≡ 16 → s.partitions ≡ [] → AreNew last s.tapes (deeper s.level) tapes
    → HasPartitions last s spilled ahead left → HasPartitions last (state s.tapes s.level tapes s.reading s.pending) spilled ahead left
opening_has last s tapes spilled ahead left long none new had =
    let nothing : spilled ≡ [] = subst (λ xs. AreSpilled last s.tapes s.level xs spilled) none had.spilled_are in
    record {
      spilled_are = new_spilled last s.tapes s.level tapes spilled long nothing new;
      ahead_are = had.ahead_are;
      pending_are = had.pending_are;
    }

-- no partitions are open
pub none_open : (s : PartitionsState) (partitions : List OnTape) (n : ℕ) → partitions ≡ s.partitions → length partitions ≡ n → (n == 0)
    ≡ true → s.partitions ≡ []
none_open s partitions n is long empty = grind (arith, nat_tests, common_steps)

-- no partitions, no records and no pages
pub none_spilled : (s : PartitionsState) → s.partitions ≡ [] → spilled_number s ≡ 0
none_spilled s none = ap count_of none

pub none_written : (s : PartitionsState) → s.partitions ≡ [] → written_pages s ≡ 0
none_written s none = ap (full_pages s.tapes) none

-- where one more is not opened: those that were opened are apart, and what is open is one of the partitions'
pub opening_parted : (last : ℕ → ℕ → Type 0) (before now after : PartitionsState) (deep : ℕ) (tapes closed : List OnTape) (n : ℕ) → closed
    ≡ tapes → after.reading ≡ now.reading → after.pending ≡ now.pending → AreOpening last before now deep tapes n
    → AreApart (closed ++ (after.reading ++ after.pending))
opening_parted last before now after deep tapes closed n is reading pending opening index =
    let before_all = times_in index tapes now.reading now.pending in
    let after_all = times_in index closed after.reading after.pending in
    let own : times index closed ≡ times index tapes = ap (times index) is in
    let a : times index after.reading ≡ times index now.reading = ap (times index) reading in
    let b : times index after.pending ≡ times index now.pending = ap (times index) pending in
    omega (arith, opening.apart index, before_all, after_all, own, a, b)

pub opening_holds : (last : ℕ → ℕ → Type 0) (before now after : PartitionsState) (deep : ℕ) (tapes closed : List OnTape) (n : ℕ) → closed
    ≡ tapes → after.tapes ≡ now.tapes → after.reading ≡ now.reading → after.pending ≡ now.pending
    → AreOpening last before now deep tapes n → OwnsOpen before → HoldOpen after.tapes (closed ++ (after.reading ++ after.pending))
opening_holds last before now after deep tapes closed n is same reading pending opening own id opens =
    let before_all = times_in id.index tapes now.reading now.pending in
    let after_all = times_in id.index closed after.reading after.pending in
    let own_times : times id.index closed ≡ times id.index tapes = ap (times id.index) is in
    let a : times id.index after.reading ≡ times id.index now.reading = ap (times id.index) reading in
    let b : times id.index after.pending ≡ times id.index now.pending = ap (times id.index) pending in
    let was_open : is_open now.tapes id ≡ true = ap (λ (t : TapesState). is_open t id) (sym same) ∙ opens in
    omega (arith, opening.owns own id was_open, before_all, after_all, own_times, a, b)

pub parted_first : (tapes others : List OnTape) → AreApart (tapes ++ others) → AreApart tapes
parted_first tapes others apart index = omega (arith, apart index, times-append index tapes others)
