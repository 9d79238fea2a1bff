-- What is true of all partitions, and what they have, after a call of their tapes.
use Rattle.std.specs.Prelude.{◌≡◌, ℕ, ◌+◌, ◌<◌, ◌≤◌, ◌⊎◌, true, false, List, [], ◌∷◌, ◌++◌, length, get_or, Some}
use Rattle.std.proofs.Math.ListN.{set}
use Rattle.std.proofs.Common.{refl, sym, ◌∙◌, ap, subst, arith, inl, inr, length-set}
use Rattle.std.proofs.lemmas.List.{nil_from_length}
use Rattle.spill_partitions.proofs.Words.{Record, Gives, TapesState, phase_of, is_open, is_read, IsTape, KeepsOthers, TapeId, OnTape}
use Rattle.spill_partitions.proofs.Words.{PendingPartition, partition_of, partitions_of, PartitionsState, once, times}
use Rattle.spill_partitions.proofs.Words.{AreApart, AreOn, AreSpilled}
use Rattle.spill_partitions.proofs.Words.{AreAhead, AreWritten, AreRead, HaveRecords, HasPartitions, ArePartitions, BeginsLast, each_append}
use Rattle.spill_partitions.proofs.Words.{each_front, each_behind, Written, Read}
use Rattle.spill_partitions.proofs.ApartLaws.{times-append, once_here, kept_on, kept_ahead, times_here, times-set, written-set, kept_in}
use Rattle.spill_partitions.proofs.ApartLaws.{same_in, written_open, read_open, fresh_in}
use Rattle.spill_partitions.proofs.PartitionLaws.{put_on, has_last}
use Rattle.spill_partitions.proofs.EndLaws.{filled_front}
use Rattle.std.proofs.lemmas.Bool.Decides.{nat_tests}
use Rattle.std.proofs.lemmas.Grind.{common_steps}

abbrev reads_of : TapesState → OnTape → Type 0
reads_of t x = is_read t x.tape ≡ true

abbrev pub state : TapesState → ℕ → List OnTape → List OnTape → List OnTape → PartitionsState
state t level partitions reading pending = record {
  tapes = t;
  level = level;
  partitions = partitions;
  reading = reading;
  pending = pending;
}

-- how often a tape is in each of three lists
pub times_in : (index : ℕ) (partitions reading pending : List OnTape) → times index (partitions ++ (reading ++ pending))
    ≡ times index partitions + (times index reading + times index pending)
times_in index partitions reading pending = times-append index partitions (reading ++ pending)
    ∙ ap (λ n. times index partitions + n) (times-append index reading pending)

-- one tape more is apart from the others
pub one_more : (count : ℕ → ℕ) (id : TapeId) (index : ℕ) → count id.index ≡ 0 → count index ≤ 1 → count index + once id index ≤ 1
one_more count id index none few = grind (arith, nat_tests, common_steps)

-- a tape that is none of these changed
pub partitions_beside : (last last' : ℕ → ℕ → Type 0) (t t' : TapesState) (level : ℕ) (partitions reading pending : List OnTape)
    (id : TapeId)
    → KeepsOthers last last' t t' id → times id.index (partitions ++ (reading ++ pending)) ≡ 0 → (t'.is_dead ≡ false → t.is_dead ≡ false)
    → ArePartitions (state t level partitions reading pending) → ArePartitions (state t' level partitions reading pending)
partitions_beside last last' t t' level partitions reading pending id keeps none alive are =
    let parted : times id.index (partitions ++ (reading ++ pending)) ≡ times id.index partitions
    + times id.index (reading ++ pending) = times-append id.index partitions (reading ++ pending) in
    record {
      apart = are.apart;
      sixteen = are.sixteen;
      written = λ lives. kept_in Written last last' t t' id partitions keeps (omega (arith, parted, none)) (are.written (alive lives));
      read = λ lives. kept_in Read last last' t t' id (reading ++ pending) keeps (omega (arith, parted, none)) (are.read (alive lives));
      filled = are.filled;
    }

kept_spilled : (last last' : ℕ → ℕ → Type 0) (t t' : TapesState) (level : ℕ) (partitions : List OnTape) (spilled : List Record)
    (id : TapeId) → KeepsOthers last last' t t' id → times id.index partitions ≡ 0 → AreSpilled last t level partitions spilled
    → AreSpilled last' t' level partitions spilled
kept_spilled last last' t t' level [] spilled id keeps none had = had
kept_spilled last last' t t' level (x ∷ partitions) spilled id keeps none had = kept_on last last' t t' id (x ∷ partitions)
    (partitions_of level spilled) keeps none had

pub has_beside : (last last' : ℕ → ℕ → Type 0) (t t' : TapesState) (level : ℕ) (partitions reading pending : List OnTape)
    (spilled ahead : List Record) (left : List PendingPartition) (id : TapeId) → KeepsOthers last last' t t' id
    → times id.index (partitions ++ (reading ++ pending)) ≡ 0
    → HasPartitions last (state t level partitions reading pending) spilled ahead left
    → HasPartitions last' (state t' level partitions reading pending) spilled ahead left
has_beside last last' t t' level partitions reading pending spilled ahead left id keeps none had =
    let counts : times id.index (partitions ++ (reading ++ pending)) ≡ times id.index partitions
    + (times id.index reading + times id.index pending) = times_in id.index partitions reading pending in
    record {
      spilled_are = kept_spilled last last' t t' level partitions spilled id keeps (omega (arith, counts, none)) had.spilled_are;
      ahead_are = kept_ahead last last' t t' id reading ahead keeps (omega (arith, counts, none)) had.ahead_are;
      pending_are = kept_on last last' t t' id pending left keeps (omega (arith, counts, none)) had.pending_are;
    }

pub fresh_beside : (t : TapesState) (level : ℕ) (partitions reading pending : List OnTape) (id : TapeId) → t.is_dead ≡ false → is_open t id
    ≡ false → ArePartitions (state t level partitions reading pending) → times id.index (partitions ++ (reading ++ pending)) ≡ 0
fresh_beside t level partitions reading pending id alive closed are =
    omega (
      arith,
      times-append id.index partitions (reading ++ pending),
      fresh_in Written t id partitions written_open closed
          (are.written alive),
      fresh_in Read t id (reading ++ pending) read_open closed (are.read alive),
    )

-- no tape began or ended
pub partitions_same : (t t' : TapesState) (level : ℕ) (partitions reading pending : List OnTape)
    → ((id : TapeId) → phase_of t' id ≡ phase_of t id) → (t'.is_dead ≡ false → t.is_dead ≡ false)
    → ArePartitions (state t level partitions reading pending) → ArePartitions (state t' level partitions reading pending)
partitions_same t t' level partitions reading pending same alive are = record {
  apart = are.apart;
  sixteen = are.sixteen;
  written = λ lives. same_in Written t t' partitions same (are.written (alive lives));
  read = λ lives. same_in Read t t' (reading ++ pending) same (are.read (alive lives));
  filled = are.filled;
}

-- a partition of the pass in the place of one with the same tape
set_sixteen : (partitions : List OnTape) (i : ℕ) (y : OnTape) → (partitions ≡ []) ⊎ (length partitions ≡ 16) → (set partitions i y ≡ [])
    ⊎ (length (set partitions i y) ≡ 16)
set_sixteen partitions i y (inl none) = inl (ap (λ xs. set xs i y) none)
set_sixteen partitions i y (inr long) = inr (length-set partitions i y ∙ long)

pub partitions_put : (t t' : TapesState) (level : ℕ) (partitions reading pending : List OnTape) (i : ℕ) (x y : OnTape) → x
    ≡ get_or partitions i x → y.tape ≡ x.tape → ((id : TapeId) → phase_of t' id ≡ phase_of t id) → (t'.is_dead ≡ false → t.is_dead ≡ false)
    → ArePartitions (state t level partitions reading pending) → ArePartitions (state t' level (set partitions i y) reading pending)
partitions_put t t' level partitions reading pending i x y is tape same alive are = record {
  apart = λ index. omega (
    arith,
    are.apart index,
    times_in index partitions reading pending,
    times_in index (set partitions i y) reading
        pending,
    times-set index partitions i x y is tape,
  );
  sixteen = set_sixteen partitions i y are.sixteen;
  written = λ lives. written-set t' partitions i x y is tape (same_in Written t t' partitions same (are.written (alive lives)));
  read = λ lives. same_in Read t t' (reading ++ pending) same (are.read (alive lives));
  filled = are.filled;
}

spilled_on : (last : ℕ → ℕ → Type 0) (t : TapesState) (level : ℕ) (tapes : List OnTape) (spilled : List Record) → 0 < length tapes
    → AreSpilled last t level tapes spilled → AreOn last t tapes (partitions_of level spilled)
spilled_on last t level [] spilled some had = absurd (omega (arith, some))
spilled_on last t level (x ∷ tapes) spilled some had = had

on_spilled : (last : ℕ → ℕ → Type 0) (t : TapesState) (level : ℕ) (tapes : List OnTape) (spilled : List Record) → 0 < length tapes
    → AreOn last t tapes (partitions_of level spilled) → AreSpilled last t level tapes spilled
on_spilled last t level [] spilled some had = absurd (omega (arith, some))
on_spilled last t level (x ∷ tapes) spilled some had = had

pub has_put : (last last' : ℕ → ℕ → Type 0) (t t' : TapesState) (level : ℕ) (partitions reading pending : List OnTape)
    (spilled ahead : List Record) (left : List PendingPartition) (i : ℕ) (x y : OnTape) (r : Record) → i < length partitions → x
    ≡ get_or partitions i x → y.tape ≡ x.tape → y.records ≡ x.records + 1 → y.level ≡ x.level → i ≡ partition_of level r.hash
    → AreApart (partitions ++ (reading ++ pending)) → KeepsOthers last last' t t' x.tape
    → ((rs : List Record) → IsTape last t x.tape rs → IsTape last' t' x.tape (rs ++ r ∷ []))
    → HasPartitions last (state t level partitions reading pending) spilled ahead left
    → HasPartitions last' (state t' level (set partitions i y) reading pending) (spilled ++ r ∷ []) ahead left
has_put last last' t t' level partitions reading pending spilled ahead left i x y r less is tape more deep falls apart keeps puts had =
    let counts : times x.tape.index (partitions ++ (reading ++ pending)) ≡ times x.tape.index partitions
    + (times x.tape.index reading + times x.tape.index pending) = times_in x.tape.index partitions reading pending in
    let here : 1 ≤ times x.tape.index partitions = times_here partitions i x less is in
    let few : times x.tape.index (partitions ++ (reading ++ pending)) ≤ 1 = apart x.tape.index in
    let long : length (set partitions i y) ≡ length partitions = length-set partitions i y in
    record {
      spilled_are = on_spilled last' t' level (set partitions i y) (spilled ++ r ∷ []) (omega (arith, long, less))
          (put_on last last' t t' level spilled r partitions 0 16 i x y less is (omega (arith, falls)) (omega (arith, counts, few)) keeps
          puts tape more deep (spilled_on last t level partitions spilled (omega (arith, less)) had.spilled_are));
      ahead_are = kept_ahead last last' t t' x.tape reading ahead keeps (omega (arith, counts, here, few)) had.ahead_are;
      pending_are = kept_on last last' t t' x.tape pending left keeps (omega (arith, counts, here, few)) had.pending_are;
    }

-- the partitions of the pass are opened
pub partitions_opened : (t : TapesState) (level : ℕ) (partitions none reading pending : List OnTape)
    → AreApart (partitions ++ (reading ++ pending)) → length partitions ≡ 16 → AreWritten t partitions
    → ArePartitions (state t level none reading pending) → ArePartitions (state t level partitions reading pending)
partitions_opened t level partitions none reading pending apart long written are = grind (arith, nat_tests, common_steps)

-- a partition is left
pub partitions_pushed : (t : TapesState) (level : ℕ) (partitions reading pending : List OnTape) (x : OnTape) → is_read t x.tape ≡ true
    → 0 < x.records → times x.tape.index (partitions ++ (reading ++ pending)) ≡ 0 → ArePartitions (state t level partitions reading pending)
    → ArePartitions (state t level partitions reading (pending ++ x ∷ []))
partitions_pushed t level partitions reading pending x read some none are = record {
  apart = λ index.
      let after : times index (partitions ++ (reading ++ (pending ++ x ∷ []))) ≡ times index partitions
      + (times index reading + times index (pending ++ x ∷ [])) = times_in index partitions reading (pending ++ x ∷ []) in
      let before : times index (partitions ++ (reading ++ pending)) ≡ times index partitions
      + (times index reading + times index pending) = times_in index partitions reading pending in
      let pushed : times index (pending ++ x ∷ []) ≡ times index pending + times index (x ∷ []) = times-append index pending (x ∷ []) in
      let more : times index (partitions ++ (reading ++ pending))
      + once x.tape index ≤ 1 = one_more (λ i. times i (partitions ++ (reading ++ pending))) x.tape index none (are.apart index) in
      omega (arith, after, before, pushed, more);
  sixteen = are.sixteen;
  written = are.written;
  read = λ lives. each_append (reads_of t) reading (pending ++ x ∷ []) (each_front (reads_of t) reading pending (are.read lives))
      (each_append (reads_of t) pending (x ∷ []) (each_behind (reads_of t) reading pending (are.read lives)) (read, tt));
  filled = each_append (λ (y : OnTape). 0 < y.records) pending (x ∷ []) are.filled (some, tt);
}

-- the last partition is to be read
pub partitions_begun : (t : TapesState) (level level' : ℕ) (partitions reading pending all : List OnTape) (x : OnTape) → reading ≡ [] → all
    ≡ pending ++ x ∷ [] → ArePartitions (state t level partitions reading all) → ArePartitions (state t level' partitions (x ∷ []) pending)
partitions_begun t level level' partitions reading pending all x none is are =
    let reads : t.is_dead ≡ false → AreRead t (pending ++ x ∷ []) = λ lives. subst (AreRead t) is
    (subst (λ xs. AreRead t (xs ++ all)) none (are.read lives)) in
    record {
      apart = λ index.
          let before : times index (partitions ++ (reading ++ all)) ≡ times index partitions
          + (times index reading + times index all) = times_in index partitions reading all in
          let after : times index (partitions ++ (x ∷ [] ++ pending)) ≡ times index partitions
          + (times index (x ∷ []) + times index pending) = times_in index partitions (x ∷ []) pending in
          let popped : times index all ≡ times index pending + times index (x ∷ []) = ap (times index) is
          ∙ times-append index pending (x ∷ []) in
          omega (arith, before, after, popped, are.apart index);
      sixteen = are.sixteen;
      written = are.written;
      read = λ lives. each_append (reads_of t) (x ∷ []) pending (each_behind (reads_of t) pending (x ∷ []) (reads lives))
          (each_front (reads_of t) pending (x ∷ []) (reads lives));
      filled = (filled_front pending x (subst HaveRecords is are.filled)).0;
    }

pub has_begun : (last : ℕ → ℕ → Type 0) (t : TapesState) (level level' : ℕ) (partitions reading pending all : List OnTape)
    (left : List PendingPartition) (x : OnTape) → partitions ≡ [] → level' ≡ x.level → all ≡ pending ++ x ∷ []
    → HasPartitions last (state t level partitions reading all) [] [] left
    → BeginsLast last (state t level' partitions (x ∷ []) pending) left
has_begun last t level level' partitions reading pending all left x none deep is had =
    let apart = has_last last t pending x left (subst (λ xs. AreOn last t xs left) is had.pending_are) in (
      apart.others,
      apart.partition,
      apart.whole,
      deep ∙ apart.last_is.2,
      record {
        spilled_are = subst (λ xs. AreSpilled last t level' xs []) (sym none) refl;
        ahead_are = (apart.last_is.0, apart.last_is.1);
        pending_are = apart.others_are;
      },
    )

-- the partition that is read is read to its end
pub partitions_ended : (last last' : ℕ → ℕ → Type 0) (t t' : TapesState) (level : ℕ) (partitions reading pending : List OnTape) (x : OnTape)
    → reading ≡ x ∷ [] → KeepsOthers last last' t t' x.tape → (t'.is_dead ≡ false → t.is_dead ≡ false)
    → ArePartitions (state t level partitions reading pending) → ArePartitions (state t' level partitions [] pending)
partitions_ended last last' t t' level partitions reading pending x is keeps alive are =
    let counts : (index : ℕ) → times index (partitions ++ (reading ++ pending)) ≡ times index partitions
    + (times index reading + times index pending) = λ index. times_in index partitions reading pending in
    let one : (index : ℕ) → times index reading ≡ once x.tape index + 0 = λ index. ap (times index) is in
    let here : once x.tape x.tape.index ≡ 1 = once_here x.tape.index x.tape refl in
    record {
      apart = λ index. omega (arith, are.apart index, counts index, times_in index partitions [] pending);
      sixteen = are.sixteen;
      written = λ lives. kept_in Written last last' t t' x.tape partitions keeps
          (omega (arith, are.apart x.tape.index, counts x.tape.index, one x.tape.index, here)) (are.written (alive lives));
      read = λ lives. kept_in Read last last' t t' x.tape pending keeps
          (omega (arith, are.apart x.tape.index, counts x.tape.index, one x.tape.index, here))
          (each_behind (reads_of t) reading pending (are.read (alive lives)));
      filled = are.filled;
    }

pub has_ended : (last last' : ℕ → ℕ → Type 0) (t t' : TapesState) (level : ℕ) (partitions reading pending : List OnTape)
    (spilled ahead : List Record) (left : List PendingPartition) (x : OnTape) → reading ≡ x ∷ [] → x.records ≡ 0
    → KeepsOthers last last' t t' x.tape → AreApart (partitions ++ (reading ++ pending))
    → HasPartitions last (state t level partitions reading pending) spilled ahead left → (ahead ≡ [])
    × HasPartitions last' (state t' level partitions [] pending) spilled [] left
has_ended last last' t t' level partitions reading pending spilled ahead left x is none keeps apart had =
    let counts : times x.tape.index (partitions ++ (reading ++ pending)) ≡ times x.tape.index partitions
    + (times x.tape.index reading + times x.tape.index pending) = times_in x.tape.index partitions reading pending in
    let one : times x.tape.index reading ≡ once x.tape x.tape.index + 0 = ap (times x.tape.index) is in
    let here : once x.tape x.tape.index ≡ 1 = once_here x.tape.index x.tape refl in
    let few : times x.tape.index (partitions ++ (reading ++ pending)) ≤ 1 = apart x.tape.index in
    let aheads : AreAhead last t (x ∷ []) ahead = subst (λ xs. AreAhead last t xs ahead) is had.ahead_are in (
      nil_from_length ahead (sym aheads.1 ∙ none),
      record {
        spilled_are = kept_spilled last last' t t' level partitions spilled x.tape keeps (omega (arith, counts, one, here, few))
            had.spilled_are;
        ahead_are = refl;
        pending_are = kept_on last last' t t' x.tape pending left keeps (omega (arith, counts, one, here, few)) had.pending_are;
      },
    )

-- a record of the partition that is read was read
pub partitions_read : (t t' : TapesState) (level : ℕ) (partitions reading pending : List OnTape) (x y : OnTape) → reading ≡ x ∷ [] → y.tape
    ≡ x.tape → ((id : TapeId) → phase_of t' id ≡ phase_of t id) → (t'.is_dead ≡ false → t.is_dead ≡ false)
    → ArePartitions (state t level partitions reading pending) → ArePartitions (state t' level partitions (y ∷ []) pending)
partitions_read t t' level partitions reading pending x y is tape same alive are =
    let one : (index : ℕ) → times index reading ≡ times index (y ∷ []) = λ index. ap (times index) is
    ∙ ap (λ id. once id index + 0) (sym tape) in
    let reads : t.is_dead ≡ false → AreRead t (y ∷ []) = λ lives. (
      ap (is_read t) tape
          ∙ (each_front (reads_of t) (x ∷ []) pending (subst (λ xs. AreRead t (xs ++ pending)) is (are.read lives))).0,
      tt,
    ) in
    record {
      apart = λ index. omega (
        arith,
        are.apart index,
        times_in index partitions reading pending,
        times_in index partitions (y ∷ []) pending,
        one index,
      );
      sixteen = are.sixteen;
      written = λ lives. same_in Written t t' partitions same (are.written (alive lives));
      read = λ lives. same_in Read t t' (y ∷ [] ++ pending) same (each_append (reads_of t) (y ∷ []) pending (reads (alive lives))
          (each_behind (reads_of t) reading pending (are.read (alive lives))));
      filled = are.filled;
    }

pub tape_ahead : (last : ℕ → ℕ → Type 0) (t : TapesState) (level : ℕ) (partitions reading pending : List OnTape)
    (spilled ahead : List Record) (left : List PendingPartition) (x : OnTape) → reading ≡ x ∷ []
    → HasPartitions last (state t level partitions reading pending) spilled ahead left → IsTape last t x.tape ahead
    × (x.records ≡ length ahead)
tape_ahead last t level partitions reading pending spilled ahead left x is had = subst (λ xs. AreAhead last t xs ahead) is had.ahead_are

pub has_read : (last last' : ℕ → ℕ → Type 0) (t t' : TapesState) (level : ℕ) (partitions reading pending : List OnTape)
    (spilled ahead : List Record) (left : List PendingPartition) (x y : OnTape) (bytes : List ℕ) (told : ℕ × ℕ) → reading ≡ x ∷ [] → y.tape
    ≡ x.tape → y.records + 1 ≡ x.records → KeepsOthers last last' t t' x.tape → AreApart (partitions ++ (reading ++ pending))
    → HasPartitions last (state t level partitions reading pending) spilled ahead left
    → Gives (IsTape last' t' x.tape) ahead bytes (Some told)
    → Gives (λ rest. HasPartitions last' (state t' level partitions (y ∷ []) pending) spilled rest left) ahead bytes (Some told)
has_read last last' t t' level partitions reading pending spilled ahead left x y bytes told is tape less keeps apart had gives =
    let counts : times x.tape.index (partitions ++ (reading ++ pending)) ≡ times x.tape.index partitions
    + (times x.tape.index reading + times x.tape.index pending) = times_in x.tape.index partitions reading pending in
    let one : times x.tape.index reading ≡ once x.tape x.tape.index + 0 = ap (times x.tape.index) is in
    let here : once x.tape x.tape.index ≡ 1 = once_here x.tape.index x.tape refl in
    let few : times x.tape.index (partitions ++ (reading ++ pending)) ≤ 1 = apart x.tape.index in
    let aheads : AreAhead last t (x ∷ []) ahead = subst (λ xs. AreAhead last t xs ahead) is had.ahead_are in (
      gives.0,
      gives.1,
      record {
        spilled_are = kept_spilled last last' t t' level partitions spilled x.tape keeps (omega (arith, counts, one, here, few))
            had.spilled_are;
        ahead_are = (subst (λ id. IsTape last' t' id gives.0) (sym tape) gives.2, omega (arith, less, aheads.1, ap length gives.1));
        pending_are = kept_on last last' t t' x.tape pending left keeps (omega (arith, counts, one, here, few)) had.pending_are;
      },
    )
