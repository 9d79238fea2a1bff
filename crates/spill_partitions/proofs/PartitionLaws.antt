-- Partitions on tapes.
use Rattle.std.specs.Prelude.{◌≡◌, ◌≢◌, ℕ, ◌+◌, ◌<◌, ◌≤◌, suc, zero, true, List, [], ◌∷◌, ◌++◌, length, get_or, map}
use Rattle.std.specs.List.{range_with_len, AllByRecursion}
use Rattle.std.proofs.Math.ListN.{set}
use Rattle.std.proofs.Common.{refl, sym, ◌∙◌, ap, subst, arith, length-append}
use Rattle.std.proofs.lemmas.Bool.Decides.{nat_tests}
use Rattle.std.proofs.lemmas.List.Sums.{sum_by-append, sum_by-cons}
use Rattle.spill_partitions.proofs.Words.{Record, is_in, TapesState, IsTape, KeepsOthers, is_written, Written, TapeId, OnTape}
use Rattle.spill_partitions.proofs.Words.{PendingPartition, partition_of, on_partition, deeper, partitions_of, times}
use Rattle.spill_partitions.proofs.Words.{count_of, AreOn, AreSpilled, AreWritten}
use Rattle.spill_partitions.proofs.Words.{IsNewPartition, each_append, each_weaker}
use Rattle.spill_partitions.proofs.ApartLaws.{once_here, differs, kept_on, times_here}
use Rattle.std.proofs.lemmas.Grind.{common_steps}

pub on_same : (level : ℕ) (spilled : List Record) (r : Record) (i : ℕ) → partition_of level r.hash ≡ i
    → on_partition level (spilled ++ r ∷ []) i
    ≡ on_partition level spilled i ++ r ∷ []
on_same level spilled r i falls = grind (arith, nat_tests, common_steps)

pub on_other : (level : ℕ) (spilled : List Record) (r : Record) (i : ℕ) → partition_of level r.hash ≢ i
    → on_partition level (spilled ++ r ∷ []) i
    ≡ on_partition level spilled i
on_other level spilled r i falls = grind (arith, nat_tests, common_steps)

-- n partitions from a on
abbrev pub some_partitions : ℕ → List Record → ℕ → ℕ → List PendingPartition
some_partitions level spilled a n = map (λ i. record { level = deeper level; records = on_partition level spilled i }) (range_with_len a n)

above : (level : ℕ) (spilled : List Record) (r : Record) (a n : ℕ) → partition_of level r.hash < a
    → some_partitions level (spilled ++ r ∷ []) a n
    ≡ some_partitions level spilled a n
above level spilled r a zero less = refl
above level spilled r a (suc n) less =
    let first : on_partition level (spilled ++ r ∷ []) a
    ≡ on_partition level spilled a = on_other level spilled r a (omega (arith, less)) in
    let rest : some_partitions level (spilled ++ r ∷ []) (a + 1) n ≡ some_partitions level spilled (a + 1) n = above level spilled r (a
    + 1) n (omega (arith, less)) in
    cc

-- a record is put on the partition where it falls
pub put_on : (last last' : ℕ → ℕ → Type 0) (t t' : TapesState) (level : ℕ) (spilled : List Record) (r : Record) (tapes : List OnTape)
    (a n i : ℕ) (x y : OnTape) → i < length tapes → x ≡ get_or tapes i x → partition_of level r.hash ≡ a + i → times x.tape.index tapes ≤ 1
    → KeepsOthers last last' t t' x.tape → ((rs : List Record) → IsTape last t x.tape rs → IsTape last' t' x.tape (rs ++ r ∷ [])) → y.tape
    ≡ x.tape → y.records ≡ x.records + 1 → y.level ≡ x.level → AreOn last t tapes (some_partitions level spilled a n)
    → AreOn last' t' (set tapes i y) (some_partitions level (spilled ++ r ∷ []) a n)
put_on last last' t t' level spilled r [] a n i x y less is falls apart keeps puts same more deep had = absurd (omega (arith, less))
put_on last last' t t' level spilled r (tape ∷ tapes) a zero i x y less is falls apart keeps puts same more deep had = absurd had
put_on last last' t t' level spilled r (tape ∷ tapes) a (suc n) zero x y less is falls apart keeps puts same more deep had =
    let here : x ≡ tape = is in
    let none : times x.tape.index tapes
    ≡ 0 = omega (arith, apart, once_here x.tape.index tape.tape (ap (λ (z : OnTape). z.tape.index) here)) in
    let same_partition : on_partition level (spilled ++ r ∷ []) a ≡ on_partition level spilled a ++ r
    ∷ [] = on_same level spilled r a (omega (arith, falls)) in
    let on : IsTape last t x.tape (on_partition level spilled a) = subst
    (λ (z : OnTape). IsTape last t z.tape (on_partition level spilled a))
    (sym here) had.0 in
    let put : IsTape last' t' y.tape (on_partition level (spilled ++ r ∷ []) a) =
    subst (λ id. IsTape last' t' id (on_partition level (spilled ++ r ∷ []) a)) (sym same)
    (subst (IsTape last' t' x.tape) (sym same_partition) (puts (on_partition level spilled a) on)) in
    let count : x.records ≡ length (on_partition level spilled a) = ap (λ (z : OnTape). z.records) here ∙ had.1 in
    let counted : y.records ≡ length (on_partition level (spilled ++ r ∷ []) a) = omega (
      arith,
      more,
      count,
      ap length same_partition,
      length-append
          (on_partition level spilled a) (r ∷ []),
    ) in (
      put,
      counted,
      deep ∙ ap (λ (z : OnTape). z.level) here
          ∙ had.2,
      subst (AreOn last' t' tapes) (sym (above level spilled r (a + 1) n (omega (arith, falls))))
          (kept_on last last' t t' x.tape tapes (some_partitions level spilled (a + 1) n) keeps none had.3),
    )
put_on last last' t t' level spilled r (tape ∷ tapes) a (suc n) (suc i) x y less is falls apart keeps puts same more deep had =
    let further : 1 ≤ times x.tape.index tapes = times_here tapes i x (omega (arith, less)) is in
    let same_partition : on_partition level (spilled ++ r ∷ []) a
    ≡ on_partition level spilled a = on_other level spilled r a (λ e. omega (arith, e, falls)) in
    let kept : IsTape last' t' tape.tape (on_partition level spilled a) = keeps.records tape.tape
    (differs x.tape tape.tape (omega (arith, apart, further))) (on_partition level spilled a) had.0 in (
      subst (IsTape last' t' tape.tape) (sym same_partition) kept,
      had.1 ∙ ap length (sym same_partition),
      had.2,
      put_on last last' t t' level spilled
          r tapes (a + 1) n i x y (omega (arith, less)) is (omega (arith, falls)) (omega (arith, apart)) keeps puts same more deep had.3,
    )

-- one more partition at the end
pub on_push : (last : ℕ → ℕ → Type 0) (t : TapesState) (tapes : List OnTape) (partitions : List PendingPartition) (tape : OnTape)
    (partition : PendingPartition) → AreOn last t tapes partitions → AreOn last t (tape ∷ []) (partition ∷ [])
    → AreOn last t (tapes ++ tape ∷ []) (partitions ++ partition ∷ [])
on_push last t [] [] tape partition had more = more
on_push last t (x ∷ tapes) (y ∷ partitions) tape partition had more =
    (had.0, had.1, had.2, on_push last t tapes partitions tape partition had.3 more)
on_push last t _ _ tape partition had more = absurd had

-- the last partition apart
pub record HasLast (last : ℕ → ℕ → Type 0) (t : TapesState) (tapes : List OnTape) (tape : OnTape) (partitions : List PendingPartition) :
    Type 0 where
  pub others : List PendingPartition
  pub partition : PendingPartition
  pub whole : partitions ≡ others ++ partition ∷ []
  pub others_are : AreOn last t tapes others
  pub last_is : AreOn last t (tape ∷ []) (partition ∷ [])

pub has_last : (last : ℕ → ℕ → Type 0) (t : TapesState) (tapes : List OnTape) (tape : OnTape) (partitions : List PendingPartition)
    → AreOn last t (tapes ++ tape ∷ []) partitions → HasLast last t tapes tape partitions
has_last last t [] tape [] had = absurd had
has_last last t [] tape (y ∷ []) had = record { others = []; partition = y; whole = refl; others_are = tt; last_is = had }
has_last last t [] tape (y ∷ (z ∷ partitions)) had = absurd had.3
has_last last t (x ∷ tapes) tape [] had = absurd had
has_last last t (x ∷ tapes) tape (y ∷ partitions) had =
    let rest = has_last last t tapes tape partitions had.3 in
    record {
      others = y ∷ rest.others;
      partition = rest.partition;
      whole = ap (λ ys. y ∷ ys) rest.whole;
      others_are =
          (had.0, had.1, had.2, rest.others_are);
      last_is = rest.last_is;
    }

-- new partitions
abbrev pub AreNew : (ℕ → ℕ → Type 0) → TapesState → ℕ → List OnTape → Type 0
AreNew last t level tapes = AllByRecursion (IsNewPartition last t level) tapes

pub kept_new : (last last' : ℕ → ℕ → Type 0) (t t' : TapesState) (id : TapeId) (level : ℕ) (tapes : List OnTape)
    → KeepsOthers last last' t t' id → times id.index tapes ≡ 0 → AreNew last t level tapes → AreNew last' t' level tapes
kept_new last last' t t' id level [] keeps none had = had
kept_new last last' t t' id level (tape ∷ tapes) keeps none had =
    let differ : tape.tape ≢ id = differs id tape.tape (omega (arith, none)) in (
      record {
        none = keeps.records tape.tape differ [] had.0.none;
        number = had.0.number;
        deep = had.0.deep;
        written = ap (is_in Written)
            (keeps.phases tape.tape differ) ∙ had.0.written;
        short = keeps.lens tape.tape differ ∙ had.0.short;
      },
      kept_new last last' t t' id level tapes keeps (omega (arith, none)) had.1,
    )

pub new_push : (last : ℕ → ℕ → Type 0) (t : TapesState) (level : ℕ) (tapes : List OnTape) (tape : OnTape) → AreNew last t level tapes
    → IsNewPartition last t level tape → AreNew last t level (tapes ++ tape ∷ [])
new_push last t level tapes tape had new = each_append (IsNewPartition last t level) tapes (tape ∷ []) had (new, tt)

pub new_written : (last : ℕ → ℕ → Type 0) (t : TapesState) (level : ℕ) (tapes : List OnTape) → AreNew last t level tapes
    → AreWritten t tapes
new_written last t level tapes = each_weaker (IsNewPartition last t level) (λ (x : OnTape). is_written t x.tape ≡ true)
    (λ x new. new.written)
    tapes

pub new_count : (last : ℕ → ℕ → Type 0) (t : TapesState) (level : ℕ) (tapes : List OnTape) → AreNew last t level tapes → count_of tapes ≡ 0
new_count last t level [] had = refl
new_count last t level (x ∷ tapes) had = omega (
  arith,
  had.0.number,
  new_count last t level tapes had.1,
  sum_by-cons
      (λ (y : OnTape). y.records) x tapes,
)

new_on : (last : ℕ → ℕ → Type 0) (t : TapesState) (level : ℕ) (tapes : List OnTape) (a n : ℕ) → length tapes ≡ n
    → AreNew last t (deeper level) tapes → AreOn last t tapes (some_partitions level [] a n)
new_on last t level [] a zero long had = tt
new_on last t level [] a (suc n) long had = cc
new_on last t level (x ∷ tapes) a zero long had = cc
new_on last t level (x ∷ tapes) a (suc n) long had = (
  had.0.none,
  had.0.number,
  had.0.deep,
  new_on last t level tapes (a
      + 1) n (omega (arith, long)) had.1,
)

pub new_spilled : (last : ℕ → ℕ → Type 0) (t : TapesState) (level : ℕ) (tapes : List OnTape) (spilled : List Record) → length tapes ≡ 16
    → spilled ≡ [] → AreNew last t (deeper level) tapes → AreSpilled last t level tapes spilled
new_spilled last t level [] spilled long none had = none
new_spilled last t level (x ∷ tapes) spilled long none had = subst (λ rs. AreOn last t (x ∷ tapes) (partitions_of level rs)) (sym none)
    (new_on last t level (x ∷ tapes) 0 16 long had)

-- counts
pub count-append : (xs ys : List OnTape) → count_of (xs ++ ys) ≡ count_of xs + count_of ys
count-append xs ys = sum_by-append (λ (x : OnTape). x.records) xs ys
