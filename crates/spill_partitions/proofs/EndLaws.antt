-- The end of a pass.
use Rattle.std.specs.Prelude.{◌≡◌, ℕ, ◌+◌, ◌<◌, ◌≤◌, ◌==◌, cond, not, true, false, List, [], ◌∷◌, ◌++◌, length, filter}
use Rattle.std.proofs.Common.{refl, sym, ◌∙◌, ap, subst, arith, inl, inr}
use Rattle.std.proofs.lemmas.Bool.{cases_lt, ne_eqb}
use Rattle.std.proofs.lemmas.Bool.Decides.{nat_tests}
use Rattle.std.proofs.lemmas.List.{append-nil, append_assoc}
use Rattle.spill_partitions.proofs.Words.{Record, TapesState, IsTape, KeepsOthers, OnTape, PendingPartition}
use Rattle.spill_partitions.proofs.Words.{is_none, partitions_of, left_by, times}
use Rattle.spill_partitions.proofs.Words.{count_of, AreOn, AreAhead, AreSpilled, HaveRecords, those_with_records, each_front, each_behind}
use Rattle.spill_partitions.proofs.ApartLaws.{times-append, kept_on, kept_ahead}
use Rattle.spill_partitions.proofs.PartitionLaws.{on_push}
use Rattle.std.proofs.lemmas.Grind.{common_steps}

abbrev pub with_records : List PendingPartition → List PendingPartition
with_records partitions = filter (λ (partition : PendingPartition). not (is_none partition.records)) partitions

-- some partitions of the pass are left to later ones, and these are still to be left
pub record AreLeft (last : ℕ → ℕ → Type 0) (t : TapesState) (reading pending rest : List OnTape) (ahead : List Record)
    (all : List PendingPartition) : Type 0 where
  pub done : List PendingPartition
  pub more : List PendingPartition
  pub ahead_are : AreAhead last t reading ahead
  pub done_are : AreOn last t pending done
  pub more_are : AreOn last t rest more
  pub whole : done ++ with_records more ≡ all

pub left_start : (last : ℕ → ℕ → Type 0) (t : TapesState) (level : ℕ) (partitions reading pending : List OnTape)
    (spilled ahead : List Record) (left : List PendingPartition) → AreSpilled last t level partitions spilled
    → AreAhead last t reading ahead → AreOn last t pending left → AreLeft last t reading pending partitions ahead (left
    ++ left_by level spilled)
left_start last t level [] reading pending spilled ahead left spills aheads lefts = record {
  done = left;
  more = [];
  ahead_are = aheads;
  done_are = lefts;
  more_are = tt;
  whole = ap (λ rs. left ++ left_by level rs) (sym spills);
}
left_start last t level (x ∷ partitions) reading pending spilled ahead left spills aheads lefts = record {
  done = left;
  more = partitions_of level spilled;
  ahead_are = aheads;
  done_are = lefts;
  more_are = spills;
  whole = refl;
}

pub those_none : (x : OnTape) → x.records ≡ 0 → those_with_records (x ∷ []) ≡ []
those_none x none = ap (λ n. cond (not (n == 0)) (x ∷ []) []) none

pub those_some : (x : OnTape) → 0 < x.records → those_with_records (x ∷ []) ≡ x ∷ []
those_some x some = ap (λ test. cond (not test) (x ∷ []) []) (ne_eqb x.records 0 (λ e. omega (arith, e, some)))

none_is : (rs : List Record) → length rs ≡ 0 → is_none rs ≡ true
none_is [] none = refl
none_is (r ∷ rs) none = cc

some_is : (rs : List Record) → 0 < length rs → is_none rs ≡ false
some_is [] some = absurd (omega (arith, some))
some_is (r ∷ rs) some = refl

-- the next partition has no record, or is left
left_none : (last last' : ℕ → ℕ → Type 0) (t t' : TapesState) (reading pending rest : List OnTape) (ahead : List Record)
    (all done more : List PendingPartition) (x : OnTape) (partition : PendingPartition) → KeepsOthers last last' t t' x.tape
    → times x.tape.index (rest ++ (reading ++ pending)) ≡ 0 → AreAhead last t reading ahead → AreOn last t pending done
    → AreOn last t (x ∷ rest) (partition ∷ more) → done ++ with_records (partition ∷ more) ≡ all → x.records ≡ 0
    → AreLeft last' t' reading pending rest ahead all
left_none last last' t t' reading pending rest ahead all done more x partition keeps apart aheads dones mores whole none =
    let partitions : times x.tape.index (rest ++ (reading ++ pending)) ≡ times x.tape.index rest
    + times x.tape.index (reading ++ pending) = times-append x.tape.index rest (reading ++ pending) in
    let others : times x.tape.index (reading ++ pending) ≡ times x.tape.index reading
    + times x.tape.index pending = times-append x.tape.index reading pending in
    let empty : is_none partition.records ≡ true = none_is partition.records (sym mores.1 ∙ none) in
    record {
      done = done;
      more = more;
      ahead_are = kept_ahead last last' t t' x.tape reading ahead keeps (omega arith) aheads;
      done_are = kept_on last last' t t' x.tape pending done keeps (omega arith) dones;
      more_are = kept_on last last' t t' x.tape rest more keeps (omega arith) mores.3;
      whole = ap (λ test. done ++ cond (not test) (partition ∷ with_records more) (with_records more)) (sym empty) ∙ whole;
    }

left_some : (last last' : ℕ → ℕ → Type 0) (t t' : TapesState) (reading pending rest : List OnTape) (ahead : List Record)
    (all done more : List PendingPartition) (x : OnTape) (partition : PendingPartition) → KeepsOthers last last' t t' x.tape
    → times x.tape.index (rest ++ (reading ++ pending)) ≡ 0 → ((rs : List Record) → IsTape last t x.tape rs → IsTape last' t' x.tape rs)
    → AreAhead last t reading ahead → AreOn last t pending done → AreOn last t (x ∷ rest) (partition ∷ more)
    → done ++ with_records (partition ∷ more)
    ≡ all → 0 < x.records → AreLeft last' t' reading (pending ++ x ∷ []) rest ahead all
left_some last last' t t' reading pending rest ahead all done more x partition keeps apart kept aheads dones mores whole some =
    let partitions : times x.tape.index (rest ++ (reading ++ pending)) ≡ times x.tape.index rest
    + times x.tape.index (reading ++ pending) = times-append x.tape.index rest (reading ++ pending) in
    let others : times x.tape.index (reading ++ pending) ≡ times x.tape.index reading
    + times x.tape.index pending = times-append x.tape.index reading pending in
    let full : is_none partition.records ≡ false = some_is partition.records (omega (arith, mores.1, some)) in
    record {
      done = done ++ partition ∷ [];
      more = more;
      ahead_are = kept_ahead last last' t t' x.tape reading ahead keeps (omega arith) aheads;
      done_are = on_push last' t' pending done x partition (kept_on last last' t t' x.tape pending done keeps (omega arith) dones)
          (kept partition.records mores.0, mores.1, mores.2, tt);
      more_are = kept_on last last' t t' x.tape rest more keeps (omega arith) mores.3;
      whole = append_assoc done (partition ∷ []) (with_records more)
          ∙ ap (λ test. done ++ cond (not test) (partition ∷ with_records more) (with_records more)) (sym full) ∙ whole;
    }

left_by_case : (last last' : ℕ → ℕ → Type 0) (t t' : TapesState) (reading pending pending' rest : List OnTape) (ahead : List Record)
    (all done more : List PendingPartition) (x : OnTape) → KeepsOthers last last' t t' x.tape
    → times x.tape.index (rest ++ (reading ++ pending)) ≡ 0 → (0 < x.records → (rs : List Record) → IsTape last t x.tape rs
    → IsTape last' t' x.tape rs) → pending' ≡ pending ++ those_with_records (x ∷ []) → AreAhead last t reading ahead
    → AreOn last t pending done → AreOn last t (x ∷ rest) more → done ++ with_records more ≡ all
    → AreLeft last' t' reading pending' rest ahead all
left_by_case last last' t t' reading pending pending' rest ahead all done [] x keeps apart kept put aheads dones mores whole = absurd mores
left_by_case last last' t t' reading pending pending' rest ahead all done (partition ∷ more) x keeps apart kept put aheads dones mores
    whole =
    elim (cases_lt 0 x.records) [
      | inl some ↦ subst (λ xs. AreLeft last' t' reading xs rest ahead all) (sym (put ∙ ap (λ xs. pending ++ xs) (those_some x some)))
          (left_some last last' t t' reading pending rest ahead all done more x partition keeps apart (kept some) aheads dones mores whole
          some)
      | inr few ↦
          let none : x.records ≡ 0 = omega (arith, few) in
          subst (λ xs. AreLeft last' t' reading xs rest ahead all) (sym (put ∙ ap (λ xs. pending ++ xs) (those_none x none)
          ∙ append-nil pending)) (left_none last last' t t' reading pending rest ahead all done more x partition keeps apart aheads dones
          mores whole none)
    ]

pub left_step : (last last' : ℕ → ℕ → Type 0) (t t' : TapesState) (reading pending pending' rest : List OnTape) (ahead : List Record)
    (all : List PendingPartition) (x : OnTape) → KeepsOthers last last' t t' x.tape → times x.tape.index (rest ++ (reading ++ pending)) ≡ 0
    → (0 < x.records → (rs : List Record) → IsTape last t x.tape rs → IsTape last' t' x.tape rs) → pending' ≡ pending
    ++ those_with_records (x ∷ []) → AreLeft last t reading pending (x ∷ rest) ahead all → AreLeft last' t' reading pending' rest ahead all
left_step last last' t t' reading pending pending' rest ahead all x keeps apart kept put left =
    left_by_case last last' t t' reading pending pending' rest ahead all left.done left.more x keeps apart kept put left.ahead_are
    left.done_are left.more_are left.whole

pub left_end : (last : ℕ → ℕ → Type 0) (t : TapesState) (reading pending : List OnTape) (ahead : List Record) (all : List PendingPartition)
    → AreLeft last t reading pending [] ahead all → AreAhead last t reading ahead × AreOn last t pending all
left_end last t reading pending ahead all left = grind (arith, nat_tests, common_steps)

-- counts and records of those that are left
pub those_count : (x : OnTape) → count_of (those_with_records (x ∷ [])) ≡ x.records
those_count x = grind (arith, nat_tests, common_steps)

pub those_times : (index : ℕ) → (x : OnTape) → times index (those_with_records (x ∷ [])) ≤ times index (x ∷ [])
those_times index x = grind (arith, nat_tests, common_steps)

pub filled_front : (tapes : List OnTape) (x : OnTape) → HaveRecords (tapes ++ x ∷ []) → HaveRecords tapes × (0 < x.records)
filled_front tapes x had = (
  each_front (λ (y : OnTape). 0 < y.records) tapes (x ∷ []) had,
  (each_behind (λ (y : OnTape). 0 < y.records) tapes (x ∷ []) had).0,
)
