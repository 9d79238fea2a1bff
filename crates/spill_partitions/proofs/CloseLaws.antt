-- Tapes that are open, and those that are closed.
use Rattle.std.specs.Prelude.{◌≡◌, ℕ, ◌+◌, ◌≤◌, true, false, not, List, [], ◌∷◌, ◌++◌, length, get_or}
use Rattle.std.proofs.Math.ListN.{set}
use Rattle.std.proofs.Common.{refl, sym, ◌∙◌, ap, subst, arith, inl, inr}
use Rattle.std.proofs.lemmas.Bool.{cases_eq}
use Rattle.std.proofs.lemmas.List.{nil_from_length}
use Rattle.spill_tapes.specs.declared.tape.Phase.{Phase}
use Rattle.spill_partitions.proofs.Words.{is_in, TapesState, phase_of, is_open, KeepsOthers, Closed, Written, Read, TapeId, OnTape}
use Rattle.spill_partitions.proofs.Words.{PartitionsState, once, times, AreApart, AreOpen, ArePartitions}
use Rattle.spill_partitions.proofs.Words.{OwnsOpen, KeepsOwn, HoldOpen, Closes}
use Rattle.spill_partitions.proofs.ApartLaws.{AreIn, times-append, times-set, once_here, once_beside, differs, kept_open}
use Rattle.spill_partitions.proofs.StandingLaws.{state, times_in}

-- those that are written, or read, are open
pub are_open : (phase : Phase) (t : TapesState) (tapes : List OnTape)
    → ((own : Phase) → is_in phase own ≡ true → not (is_in Closed own) ≡ true) → AreIn phase t tapes → AreOpen t tapes
are_open phase t [] opens had = tt
are_open phase t (x ∷ tapes) opens had = (opens (phase_of t x.tape) had.0, are_open phase t tapes opens had.1)

-- ---- closing one after the other
pub closes_none : (t : TapesState) (tapes : List OnTape) → length tapes ≡ 0 → Closes t t tapes
closes_none t tapes none = record {
  closed = λ id opens. ap (times id.index) (nil_from_length tapes none);
  kept = λ id out. refl;
  alive = refl;
}

open_kept : (last : ℕ → ℕ → Type 0) (t t' : TapesState) (x : TapeId) (tapes : List OnTape) → KeepsOthers last last t t' x
    → times x.index tapes ≡ 0 → AreOpen t tapes → AreOpen t' tapes
open_kept last t t' x [] keeps none had = tt
open_kept last t t' x (y ∷ tapes) keeps none had = (
  ap (λ (phase : Phase). not (is_in Closed phase)) (keeps.phases y.tape (differs x y.tape (omega (arith, none)))) ∙ had.0,
  open_kept last t t' x tapes keeps (omega (arith, none)) had.1,
)

first_once : (x : OnTape) (rest tapes : List OnTape) → tapes ≡ x ∷ rest → AreApart tapes → times x.tape.index rest ≡ 0
first_once x rest tapes is apart =
    let all : times x.tape.index tapes ≡ once x.tape x.tape.index + times x.tape.index rest = ap (times x.tape.index) is in
    omega (arith, all, apart x.tape.index, once_here x.tape.index x.tape refl)

pub rest_open : (last : ℕ → ℕ → Type 0) (t t' : TapesState) (tapes rest : List OnTape) (x : OnTape) → tapes ≡ x ∷ rest
    → KeepsOthers last last t t' x.tape → AreApart tapes → AreOpen t tapes → AreOpen t' rest
rest_open last t t' tapes rest x is keeps apart had = open_kept last t t' x.tape rest keeps (first_once x rest tapes is apart)
    (subst (AreOpen t) is had).1

pub rest_parted : (tapes rest : List OnTape) (x : OnTape) → tapes ≡ x ∷ rest → AreApart tapes → AreApart rest
rest_parted tapes rest x is apart index =
    let all : times index tapes ≡ once x.tape index + times index rest = ap (times index) is in
    omega (arith, all, apart index)

pub closes_more : (last : ℕ → ℕ → Type 0) (t t' t'' : TapesState) (tapes rest : List OnTape) (x : OnTape) → tapes ≡ x ∷ rest
    → KeepsOthers last last t t' x.tape → is_open t' x.tape ≡ false → t'.is_dead ≡ t.is_dead → AreApart tapes → Closes t' t'' rest
    → Closes t t'' tapes
closes_more last t t' t'' tapes rest x is keeps shut alive apart more =
    let all : (index : ℕ) → times index tapes ≡ once x.tape index + times index rest = λ index. ap (times index) is in
    record {
      closed = λ id opens. elim (cases_eq id.index x.tape.index) [
        | inl here ↦
            let own : id ≡ x.tape = ap (λ (n : ℕ). record { index = n }) here in
            let still : phase_of t'' x.tape ≡ phase_of t' x.tape = more.kept x.tape (first_once x rest tapes is apart) in
            let closed : is_open t'' id ≡ false = ap (is_open t'') own ∙ ap (λ (phase : Phase). not (is_in Closed phase)) still ∙ shut in
            absurd (cc (opens, closed))
        | inr differ ↦ omega (arith, all id.index, more.closed id opens, once_beside id.index x.tape differ)
      ];
      kept = λ id out. more.kept id (omega (arith, all id.index, out))
          ∙ keeps.phases id (differs x.tape id (omega (arith, all id.index, out, swapped id x.tape)));
      alive = more.alive ∙ alive;
    }
  where
    swapped : (id other : TapeId) → once id other.index ≡ once other id.index
    swapped id other = elim (cases_eq other.index id.index) [
      | inl same ↦ once_here other.index id same ∙ sym (once_here id.index other (sym same))
      | inr differ ↦ once_beside other.index id differ ∙ sym (once_beside id.index other (λ same. differ (sym same)))
    ]

pub ruleset closing = (rest_open, rest_parted, closes_none, closes_more)

-- what is true of all partitions stays so where other tapes are closed
kept_apart : (phase : Phase) (t t' : TapesState) (closed tapes : List OnTape) → Closes t t' closed
    → ((index : ℕ) → times index closed + times index tapes ≤ 1) → AreIn phase t tapes → AreIn phase t' tapes
kept_apart phase t t' closed [] closes apart had = tt
kept_apart phase t t' closed (x ∷ tapes) closes apart had = (
  ap (is_in phase) (closes.kept x.tape (omega (arith, apart x.tape.index, once_here x.tape.index x.tape refl))) ∙ had.0,
  kept_apart phase t t' closed tapes closes (λ index. omega (arith, apart index)) had.1,
)

pub partitions_closed : (t t' : TapesState) (level : ℕ) (partitions reading pending closed : List OnTape) → Closes t t' closed
    → partitions ≡ [] → AreApart (closed ++ (reading ++ pending)) → ArePartitions (state t level partitions reading pending)
    → ArePartitions (state t' level partitions reading pending)
partitions_closed t t' level partitions reading pending closed closes none apart are = record {
  apart = are.apart;
  sixteen = are.sixteen;
  written = λ lives. kept_apart Written t t' closed partitions closes (λ index.
      omega (arith, apart index, times-append index closed (reading ++ pending), ap (times index) none))
      (are.written (sym closes.alive ∙ lives));
  read = λ lives. kept_apart Read t t' closed (reading ++ pending) closes (λ index.
      omega (arith, apart index, times-append index closed (reading ++ pending))) (are.read (sym closes.alive ∙ lives));
  filled = are.filled;
}

-- ---- what is open is one of the partitions'
pub own_moved : (before after : PartitionsState) → ((id : TapeId) → phase_of after.tapes id ≡ phase_of before.tapes id)
    → ((index : ℕ) → times index (after.partitions ++ (after.reading ++ after.pending))
    ≡ times index (before.partitions ++ (before.reading ++ before.pending))) → (after.tapes.is_dead ≡ false
    → before.tapes.is_dead ≡ false) → KeepsOwn before after
own_moved before after same times_same alive own lives id opens =
    omega (
      arith,
      times_same id.index,
      own (alive lives) id
          (sym (ap (λ (phase : Phase). not (is_in Closed phase)) (same id)) ∙ opens),
    )

pub own_ended : (last last' : ℕ → ℕ → Type 0) (t t' : TapesState) (level : ℕ) (partitions reading pending : List OnTape) (x : OnTape)
    → reading ≡ x ∷ [] → KeepsOthers last last' t t' x.tape → is_open t' x.tape ≡ false → (t'.is_dead ≡ false → t.is_dead ≡ false)
    → KeepsOwn (state t level partitions reading pending) (state t' level partitions [] pending)
own_ended last last' t t' level partitions reading pending x is keeps shut alive own lives id opens =
    let one : times id.index reading ≡ once x.tape id.index + 0 = ap (times id.index) is in
    elim (cases_eq id.index x.tape.index) [
      | inl here ↦
          let closed : is_open t' id ≡ false = ap (λ (n : ℕ). is_open t' (record { index = n })) here ∙ shut in
          absurd (cc (opens, closed))
      | inr differ ↦ omega (
        arith,
        times_in id.index partitions reading pending,
        times_in id.index partitions [] pending,
        one,
        once_beside id.index x.tape differ,
        own (alive lives) id (kept_open last last' t t' x.tape id keeps differ opens),
      )
    ]

-- how often tapes are there stays where the partition that is read is one with the same tape
pub times_read : (index : ℕ) (partitions reading pending : List OnTape) (x y : OnTape) → reading ≡ x ∷ [] → y.tape ≡ x.tape
    → times index (partitions ++ (y ∷ [] ++ pending)) ≡ times index (partitions ++ (reading ++ pending))
times_read index partitions reading pending x y is same =
    let one : times index reading ≡ once x.tape index + 0 = ap (times index) is in
    let own : once y.tape index ≡ once x.tape index = ap (λ id. once id index) same in
    omega (arith, times_in index partitions (y ∷ []) pending, times_in index partitions reading pending, one, own)

-- and where the last of those that are left is read
pub times_begun : (index : ℕ) (partitions reading pending all : List OnTape) (x : OnTape) → reading ≡ [] → all ≡ pending ++ x ∷ []
    → times index (partitions ++ (x ∷ [] ++ pending)) ≡ times index (partitions ++ (reading ++ all))
times_begun index partitions reading pending all x none is =
    let nothing : times index reading ≡ 0 = ap (times index) none in
    let popped : times index all ≡ times index pending + times index (x ∷ []) = ap (times index) is
    ∙ times-append index pending (x ∷ []) in
    omega (arith, times_in index partitions (x ∷ []) pending, times_in index partitions reading all, nothing, popped)

-- and where a partition of the pass is one with the same tape
pub times_put : (index : ℕ) (partitions others : List OnTape) (i : ℕ) (x y : OnTape) → x ≡ get_or partitions i x → y.tape ≡ x.tape
    → times index (set partitions i y ++ others) ≡ times index (partitions ++ others)
times_put index partitions others i x y is same =
    omega (
      arith,
      times-append index partitions others,
      times-append index (set partitions i y) others,
      times-set index partitions i x y is same,
    )

pub own_closed : (t : TapesState) (before after : PartitionsState) (tapes : List OnTape) → Closes t after.tapes tapes
    → (OwnsOpen before → HoldOpen t (tapes ++ (after.reading ++ after.pending))) → KeepsOwn before after
own_closed t before after tapes closes holds own lives id opens =
    let none : times id.index tapes ≡ 0 = closes.closed id opens in
    let held = holds own id (sym (ap (λ (phase : Phase). not (is_in Closed phase)) (closes.kept id none)) ∙ opens) in
    omega (
      arith,
      none,
      held,
      times-append id.index tapes (after.reading ++ after.pending),
      times-append id.index after.partitions (after.reading ++ after.pending),
    )
