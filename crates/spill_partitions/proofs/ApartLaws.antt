-- Tapes that are apart.
use Rattle.std.specs.Prelude.{◌≡◌, ◌≢◌, ℕ, ◌+◌, ◌<◌, ◌≤◌, suc, zero, true, false, not, List, [], ◌∷◌, ◌++◌, length, get_or}
use Rattle.std.proofs.Math.ListN.{set}
use Rattle.std.proofs.Common.{refl, sym, ◌∙◌, ap, arith}
use Rattle.std.proofs.lemmas.Bool.Decides.{nat_tests}
use Rattle.spill_partitions.proofs.Words.{Record, is_in, TapesState, phase_of, is_open, is_written, KeepsOthers, Closed, Written, Read}
use Rattle.spill_partitions.proofs.Words.{TapeId, OnTape, PendingPartition, once, times, AreOn, AreAhead, AreWritten, each_weaker}
use Rattle.spill_tapes.specs.declared.tape.Phase.{Phase}
use Rattle.std.specs.List.{AllByRecursion}

pub times-append : (index : ℕ) (xs ys : List OnTape) → times index (xs ++ ys) ≡ times index xs + times index ys
times-append index [] ys = omega arith
times-append index (x ∷ xs) ys = omega (arith, times-append index xs ys)

pub once_here : (index : ℕ) → (id : TapeId) → index ≡ id.index → once id index ≡ 1
once_here index id same = grind (arith, nat_tests)

pub differs : (id other : TapeId) → once other id.index ≡ 0 → other ≢ id
differs id other none same = absurd (omega (arith, none, once_here id.index other (ap (λ (x : TapeId). x.index) (sym same))))

pub once_beside : (index : ℕ) → (id : TapeId) → index ≢ id.index → once id index ≡ 0
once_beside index id differ = grind (arith, nat_tests)

-- the others are kept
pub kept_on : (last last' : ℕ → ℕ → Type 0) (t t' : TapesState) (id : TapeId) (tapes : List OnTape) (partitions : List PendingPartition)
    → KeepsOthers last last' t t' id → times id.index tapes ≡ 0 → AreOn last t tapes partitions → AreOn last' t' tapes partitions
kept_on last last' t t' id [] [] keeps none had = had
kept_on last last' t t' id (tape ∷ tapes) (partition ∷ partitions) keeps none had = (
  keeps.records tape.tape (differs id tape.tape (omega (arith, none))) partition.records had.0,
  had.1,
  had.2,
  kept_on last last' t t' id tapes
      partitions keeps (omega (arith, none)) had.3,
)
kept_on last last' t t' id _ _ keeps none had = absurd had

pub kept_ahead : (last last' : ℕ → ℕ → Type 0) (t t' : TapesState) (id : TapeId) (tapes : List OnTape) (ahead : List Record)
    → KeepsOthers last last' t t' id → times id.index tapes ≡ 0 → AreAhead last t tapes ahead → AreAhead last' t' tapes ahead
kept_ahead last last' t t' id [] ahead keeps none had = had
kept_ahead last last' t t' id (tape ∷ tapes) ahead keeps none had = (
  keeps.records tape.tape (differs id tape.tape (omega (arith, none)))
      ahead had.0,
  had.1,
)

-- those in a phase still are in it, as the others are kept, or as all phases are
abbrev pub AreIn : Phase → TapesState → List OnTape → Type 0
AreIn phase t tapes = AllByRecursion (λ (x : OnTape). is_in phase (phase_of t x.tape) ≡ true) tapes

pub kept_in : (phase : Phase) (last last' : ℕ → ℕ → Type 0) (t t' : TapesState) (id : TapeId) (tapes : List OnTape)
    → KeepsOthers last last' t t' id → times id.index tapes ≡ 0 → AreIn phase t tapes → AreIn phase t' tapes
kept_in phase last last' t t' id [] keeps none had = had
kept_in phase last last' t t' id (tape ∷ tapes) keeps none had = (
  ap (is_in phase) (keeps.phases tape.tape (differs id tape.tape (omega (arith, none))))
      ∙ had.0,
  kept_in phase last last' t t' id tapes keeps (omega (arith, none)) had.1,
)

pub same_in : (phase : Phase) (t t' : TapesState) (tapes : List OnTape) → ((id : TapeId) → phase_of t' id ≡ phase_of t id)
    → AreIn phase t tapes → AreIn phase t' tapes
same_in phase t t' tapes same = each_weaker (λ (x : OnTape). is_in phase (phase_of t x.tape)
    ≡ true) (λ (x : OnTape). is_in phase (phase_of t' x.tape) ≡ true) (λ x had. ap (is_in phase) (same x.tape) ∙ had) tapes

-- a tape that was not open is none of those that are written or read
pub written_open : (phase : Phase) → is_in Written phase ≡ true → not (is_in Closed phase) ≡ true
written_open Written h = refl
written_open _ h = cc

pub read_open : (phase : Phase) → is_in Read phase ≡ true → not (is_in Closed phase) ≡ true
read_open Read h = refl
read_open _ h = cc

pub fresh_in : (phase : Phase) (t : TapesState) (id : TapeId) (tapes : List OnTape)
    → ((own : Phase) → is_in phase own ≡ true → not (is_in Closed own) ≡ true) → is_open t id ≡ false → AreIn phase t tapes
    → times id.index tapes ≡ 0
fresh_in phase t id [] opens closed had = refl
fresh_in phase t id (tape ∷ tapes) opens closed had =
    omega (
      arith,
      fresh_in phase t id tapes opens closed had.1,
      once_beside id.index tape.tape
          (λ same. cc (closed, opens (phase_of t tape.tape) had.0)),
    )

-- the one at a place
pub times_here : (tapes : List OnTape) (i : ℕ) (x : OnTape) → i < length tapes → x ≡ get_or tapes i x → 1 ≤ times x.tape.index tapes
times_here [] i x less is = omega (arith, less)
times_here (tape ∷ tapes) zero x less is = omega (arith, once_here x.tape.index tape.tape (ap (λ (y : OnTape). y.tape.index) is))
times_here (tape ∷ tapes) (suc i) x less is = omega (arith, times_here tapes i x (omega (arith, less)) is)

pub written_here : (t : TapesState) (tapes : List OnTape) (i : ℕ) (x : OnTape) → i < length tapes → x ≡ get_or tapes i x
    → AreWritten t tapes → is_written t x.tape ≡ true
written_here t [] i x less is had = absurd (omega (arith, less))
written_here t (tape ∷ tapes) zero x less is had = ap (λ (y : OnTape). is_written t y.tape) is ∙ had.0
written_here t (tape ∷ tapes) (suc i) x less is had = written_here t tapes i x (omega (arith, less)) is had.1

-- one with the same tape in its place
pub times-set : (index : ℕ) (tapes : List OnTape) (i : ℕ) (x y : OnTape) → x ≡ get_or tapes i x → y.tape ≡ x.tape
    → times index (set tapes i y) ≡ times index tapes
times-set index [] i x y is same = refl
times-set index (tape ∷ tapes) zero x y is same = ap (λ id. once id index + times index tapes) (same ∙ ap (λ (z : OnTape). z.tape) is)
times-set index (tape ∷ tapes) (suc i) x y is same = ap (λ n. once tape.tape index + n) (times-set index tapes i x y is same)

pub written-set : (t : TapesState) (tapes : List OnTape) (i : ℕ) (x y : OnTape) → x ≡ get_or tapes i x → y.tape ≡ x.tape
    → AreWritten t tapes → AreWritten t (set tapes i y)
written-set t [] i x y is same had = had
written-set t (tape ∷ tapes) zero x y is same had = (ap (is_written t) (same ∙ ap (λ (z : OnTape). z.tape) is) ∙ had.0, had.1)
written-set t (tape ∷ tapes) (suc i) x y is same had = (had.0, written-set t tapes i x y is same had.1)

-- an open one that isn't the one that a call changed was open
pub kept_open : (last last' : ℕ → ℕ → Type 0) (t t' : TapesState) (x id : TapeId) → KeepsOthers last last' t t' x → id.index ≢ x.index
    → is_open t' id ≡ true → is_open t id ≡ true
kept_open last last' t t' x id keeps differ opens =
    sym (ap (λ (phase : Phase). not (is_in Closed phase)) (keeps.phases id (λ same. differ (ap (λ (y : TapeId). y.index) same)))) ∙ opens
