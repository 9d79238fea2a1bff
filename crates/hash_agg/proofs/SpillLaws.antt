-- What a pass takes and spills of the records that it reads, as the cost has it.
use Rattle.std.specs.Prelude.{◌≡◌, refl, ℕ, zero, suc, ◌+◌, Bool, true, false, cond, not, ◌&&◌, ◌||◌, List, [], ◌∷◌, ◌++◌, length}
use Rattle.std.specs.Prelude.{slice_get, Some}
use Rattle.std.proofs.Common.{sym, ◌∙◌, ap, subst, arith, append-nil}
use Rattle.std.proofs.lemmas.List.Concat.{flat_map-append}
use Rattle.std.proofs.lemmas.Bool.{or_right}
use Rattle.std.specs.Int.{w16, to_be_bytes}
use Rattle.std.proofs.lemmas.List.{map-append, length-append}
use Rattle.hash_agg.proofs.Words.{Row, is_met, Query, column_of, packing, Key, Setting, fits, Record, OnTape, Entry, packed_keys}
use Rattle.hash_agg.proofs.Words.{states_width, Piece, Of_row, Of_group, IsPiece, piece_key, cost_records, records_of, IsCosted, AreCosted}
use Rattle.hash_agg.proofs.Words.{Spills}
use Rattle.grouping_model.specs.Grouping.{key_of}
use Rattle.aggregation_cost.specs.Passes as cost
use Rattle.aggregation_cost.specs.KeyLaws.{same_key_itself, same_key-is}
use Rattle.aggregation_cost.specs.Lemmas.Steps.{taken_from-push, spilled_from-push}
use Rattle.hash_agg.proofs.PassLaws.{IsKept}
use Rattle.group_runs.specs.StandingLaws.{states_long}
use Rattle.hash_agg.proofs.TableLaws.{HasNoKey}
use Rattle.hash_agg.proofs.OneByOneLaws.{one_append, as_empty}

-- ---- keys

pub among : (keys : List Key) (key : Key) (i : ℕ) → slice_get keys i ≡ Some key → cost.is_one_of keys key ≡ true
among [] key i at = absurd cc
among (k ∷ keys) key zero at = let same : k ≡ key = cc in ap (λ k. cost.same_key key k || cost.is_one_of keys key) same
    ∙ ap (λ b. b || cost.is_one_of keys key) (same_key_itself key)
among (k ∷ keys) key (suc i) at = or_right (cost.same_key key k) (cost.is_one_of keys key) (among keys key i at)

pub none_of : (es : List Entry) (key : Key) → HasNoKey es key → cost.is_one_of (packed_keys es) key ≡ false
none_of [] key none = refl
none_of (e ∷ es) key none =
    elim (cost.same_key key e.0) as (λ b. cost.same_key key e.0 ≡ b → (b || cost.is_one_of (packed_keys es) key) ≡ false) [
      | true ↦ λ s. absurd (none zero e refl (sym (same_key-is key e.0 s)))
      | false ↦ λ s. none_of es key (λ i x at. none (suc i) x at)
    ] refl

pub among_entries : (es : List Entry) (key states : Key) (i : ℕ) → slice_get es i ≡ Some (key, states) → cost.is_one_of (packed_keys es) key
    ≡ true
among_entries [] key states i at = absurd cc
among_entries (e ∷ es) key states zero at = let same : e ≡ (key, states) = cc in among (packed_keys (e ∷ es)) key zero
    (ap (λ (e : Entry). Some e.0) same)
among_entries (e ∷ es) key states (suc i) at = or_right (cost.same_key key e.0) (cost.is_one_of (packed_keys es) key)
    (among_entries es key states i at)

last_among : (keys : List Key) (key : Key) → cost.is_one_of (keys ++ key ∷ []) key ≡ true
last_among [] key = ap (λ b. b || false) (same_key_itself key)
last_among (k ∷ keys) key = or_right (cost.same_key key k) (cost.is_one_of (keys ++ key ∷ []) key) (last_among keys key)

-- ---- records

pub records_more : (q : Query) (width : ℕ) (ps more : List Piece) → records_of q width (ps ++ more) ≡ records_of q width ps
    ++ records_of q width more
records_more q width ps more = flat_map-append (cost_records q width) ps more

-- a piece that WHERE keeps is one record of its key
abbrev pub kept_record : (q : Query) (width : ℕ) (p : Piece) → IsKept q p → (one : cost.Record) × (cost_records q width p ≡ one ∷ [])
    × (one.key ≡ packing (piece_key q p))
kept_record q width (Of_row row) kept = (
  cost.of_row (packing (key_of q row)) (packing row),
  ap
      (λ b. cond b (cost.of_row (packing (key_of q row)) (packing row) ∷ []) []) kept,
  refl,
)
kept_record q width (Of_group group most) kept = (
  record { key = packing group.0; on_tape = 9 + (2 + length (packing group.0) + width) },
  refl,
  refl,
)

pub piece_hash : (q : Query) (hf : List ℕ → ℕ) (one : Record) (p : Piece) → IsPiece q hf one p → one.hash ≡ hf (packing (piece_key q p))
piece_hash q hf one (Of_row row) is = is.hashed
piece_hash q hf one (Of_group group most) is = is.hashed

-- and has as many bytes on a tape
piece_long : (q : Query) (hf : List ℕ → ℕ) (width : ℕ) (one : Record) (p : Piece) (kept : IsKept q p) → width ≡ states_width q
    → IsPiece q hf one p → 9 + length one.bytes ≡ (kept_record q width p kept).0.on_tape
piece_long q hf width one (Of_row row) kept wide is = ap (λ (bytes : List ℕ). 9 + length bytes) is.bytes
piece_long q hf width one (Of_group group most) kept wide is =
    let states = states_long q most is.states group.1 is.stands.states in
    let front : length (to_be_bytes w16 (length (packing group.0))) ≡ 2 = refl in
    let whole = length-append (to_be_bytes w16 (length (packing group.0))) (packing group.0 ++ is.states) in
    let both = length-append (packing group.0) is.states in
    let same = ap (λ (bytes : List ℕ). length bytes) is.bytes in
    omega (arith, states, front, whole, both, same, wide)

some_behind : {X : Type 0} (xs : List X) (x : X) → cost.is_empty (xs ++ x ∷ []) ≡ false
some_behind [] x = refl
some_behind (y ∷ ys) x = refl

-- ---- before anything is read

pub nothing_spills : (q : Query) (s : Setting) (es : List Entry) (partitions : List OnTape) (left : List Record) → es ≡ [] → partitions ≡ []
    → left ≡ [] → Spills q s [] es partitions left
nothing_spills q s es partitions left none clear empty =
    record {
      took = ap packed_keys none;
      spilled = subst (λ left. AreCosted q s left []) (sym empty) tt;
      begun = ap cost.is_empty clear ∙ sym (ap cost.is_empty empty);
    }

-- ---- one more piece

enters_not : (a f : Bool) {X : Type 0} (x y : X) (b : Bool) → b ≡ true → cond (a && (not b && f)) x y ≡ y
enters_not true f x y true is = refl
enters_not false f x y true is = refl
enters_not a f x y false is = absurd cc

enters : (a f : Bool) {X : Type 0} (x y : X) (b : Bool) → a ≡ true → b ≡ false → f ≡ true → cond (a && (not b && f)) x y ≡ x
enters true true x y false one two three = refl
enters true true x y true one two three = absurd cc
enters true false x y b one two three = absurd cc
enters false f x y b one two three = absurd cc

stays_out : (a f : Bool) {X : Type 0} (x y : X) (b : Bool) → b ≡ false → (a && f) ≡ false → cond (a && (not b && f)) x y ≡ y
stays_out true true x y false one two = absurd cc
stays_out true false x y false one two = refl
stays_out false f x y false one two = refl
stays_out a f x y true one two = absurd cc

-- WHERE passes over it
pub spills_over : (q : Query) (s : Setting) (ps : List Piece) (row : Row) (es : List Entry) (partitions : List OnTape) (left : List Record)
    → is_met (column_of row) q.condition ≡ false → Spills q s ps es partitions left → Spills q s (ps ++ Of_row row ∷ []) es partitions left
spills_over q s ps row es partitions left unmet sp =
    let none : cost_records q s.width (Of_row row) ≡ [] = ap (λ b. cond b (cost.of_row (packing (key_of q row)) (packing row) ∷ []) [])
    unmet in
    let same : records_of q s.width (ps ++ Of_row row ∷ []) ≡ records_of q s.width ps =
    records_more q s.width ps (Of_row row ∷ []) ∙ ap (λ more. records_of q s.width ps ++ (more ++ [])) none
    ∙ append-nil (records_of q s.width ps) in
    record {
      took = sp.took ∙ ap (cost.taken_from s) (sym same);
      spilled = subst (AreCosted q s left) (ap (cost.spilled_from s) (sym same)) sp.spilled;
      begun = sp.begun;
    }

module _ (q : Query) (s : Setting) (ps : List Piece) (p : Piece) (key : Key) (named : key ≡ packing (piece_key q p)) (kept : IsKept q p)
    (es : List Entry) (partitions : List OnTape) (left : List Record) (sp : Spills q s ps es partitions left) where
  abbrev rs : List cost.Record
  rs = records_of q s.width ps

  abbrev new : cost.Record
  new = (kept_record q s.width p kept).0

  new_key : new.key ≡ key
  new_key = (kept_record q s.width p kept).2 ∙ sym named

  all : records_of q s.width (ps ++ p ∷ []) ≡ rs ++ new ∷ []
  all = records_more q s.width ps (p ∷ []) ∙ ap (λ more. rs ++ (more ++ [])) (kept_record q s.width p kept).1

  abbrev none_yet : Bool
  none_yet = cost.is_empty (cost.spilled_from s rs)

  abbrev may_enter : Bool
  may_enter = fits s (cost.taken_from s rs ++ new.key ∷ [])

  taken_so : cost.taken_from s (records_of q s.width (ps ++ p ∷ []))
      ≡ cond (none_yet && (not (cost.is_one_of (cost.taken_from s rs) new.key) && may_enter)) (cost.taken_from s rs ++ new.key
      ∷ []) (cost.taken_from s rs)
  taken_so = ap (cost.taken_from s) all ∙ taken_from-push s rs new

  spilled_so : (b : Bool) → cost.is_one_of (cost.taken_from s (records_of q s.width (ps ++ p ∷ []))) new.key ≡ b
      → cost.spilled_from s (records_of q s.width (ps ++ p ∷ [])) ≡ cond b (cost.spilled_from s rs) (cost.spilled_from s rs ++ new ∷ [])
  spilled_so b is = ap (cost.spilled_from s) all ∙ spilled_from-push s rs new
      ∙ ap (λ b. cond b (cost.spilled_from s rs) (cost.spilled_from s rs ++ new ∷ []))
      (ap (λ rs. cost.is_one_of (cost.taken_from s rs) new.key) (sym all) ∙ is)

  -- what is found of its key among those that were taken
  found : (b : Bool) → cost.is_one_of (packed_keys es) key ≡ b → cost.is_one_of (cost.taken_from s rs) new.key ≡ b
  found b is = (λ i. cost.is_one_of (sym sp.took i) (new_key i)) ∙ is

  -- the lists tell whether anything was spilled
  told : none_yet ≡ cost.is_empty partitions
  told = sym (as_empty (IsCosted q s) left (cost.spilled_from s rs) sp.spilled) ∙ sym sp.begun

  may : may_enter ≡ fits s (packed_keys es ++ key ∷ [])
  may = λ i. fits s (sym sp.took i ++ new_key i ∷ [])

  -- it goes to the group of its key
  pub spills_there : (now : List Entry) → packed_keys now ≡ packed_keys es → cost.is_one_of (packed_keys es) key ≡ true
      → Spills q s (ps ++ p ∷ []) now partitions left
  spills_there now same there =
      let taken : cost.taken_from s (records_of q s.width (ps ++ p ∷ [])) ≡ cost.taken_from s rs = taken_so
      ∙ enters_not none_yet may_enter (cost.taken_from s rs ++ new.key ∷ []) (cost.taken_from s rs)
      (cost.is_one_of (cost.taken_from s rs) new.key) (found true there) in
      let spilled = spilled_so true (ap (λ keys. cost.is_one_of keys new.key) taken ∙ found true there) in
      record {
        took = same ∙ sp.took ∙ sym taken;
        spilled = subst (AreCosted q s left) (sym spilled) sp.spilled;
        begun = sp.begun;
      }

  -- it makes a group of its own
  pub spills_new : (now : List Entry) (states : List ℕ) → now ≡ es ++ (key, states) ∷ [] → cost.is_one_of (packed_keys es) key ≡ false
      → cost.is_empty partitions ≡ true → fits s (packed_keys es ++ key ∷ []) ≡ true → Spills q s (ps ++ p ∷ []) now partitions left
  spills_new now states entered absent clear fit =
      let taken : cost.taken_from s (records_of q s.width (ps ++ p ∷ [])) ≡ cost.taken_from s rs ++ new.key ∷ [] = taken_so
      ∙ enters none_yet may_enter (cost.taken_from s rs ++ new.key ∷ []) (cost.taken_from s rs)
      (cost.is_one_of (cost.taken_from s rs) new.key) (told ∙ clear) (found false absent) (may ∙ fit) in
      let spilled = spilled_so true (ap (λ keys. cost.is_one_of keys new.key) taken ∙ last_among (cost.taken_from s rs) new.key) in
      record {
        took = ap packed_keys entered ∙ map-append (λ (e : Entry). e.0) es ((key, states) ∷ []) ∙ (λ i. sp.took i ++ sym new_key i ∷ [])
            ∙ sym taken;
        spilled = subst (AreCosted q s left) (sym spilled) sp.spilled;
        begun = sp.begun;
      }

  -- it is spilled
  pub spills_left : (one : Record) (now : List OnTape) → s.width ≡ states_width q → IsPiece q s.hash one p
      → cost.is_one_of (packed_keys es) key ≡ false → (cost.is_empty partitions && fits s (packed_keys es ++ key ∷ [])) ≡ false
      → cost.is_empty now ≡ false → Spills q s (ps ++ p ∷ []) es now (left ++ one ∷ [])
  spills_left one now wide is absent out begun =
      let shut : (none_yet && may_enter) ≡ false = (λ i. told i && may i) ∙ out in
      let taken : cost.taken_from s (records_of q s.width (ps ++ p ∷ [])) ≡ cost.taken_from s rs = taken_so
      ∙ stays_out none_yet may_enter (cost.taken_from s rs ++ new.key ∷ []) (cost.taken_from s rs)
      (cost.is_one_of (cost.taken_from s rs) new.key) (found false absent) shut in
      let spilled = spilled_so false (ap (λ keys. cost.is_one_of keys new.key) taken ∙ found false absent) in
      record {
        took = sp.took ∙ sym taken;
        spilled = subst (AreCosted q s (left ++ one ∷ [])) (sym spilled)
            (one_append (IsCosted q s) left (one ∷ []) (cost.spilled_from s rs) (new ∷ []) sp.spilled (
              record {
                piece = p;
                is = is;
                costs = (kept_record q s.width p kept).1;
                hashed = piece_hash q s.hash one p is
                    ∙ ap s.hash (sym (kept_record q s.width p kept).2);
                long = piece_long q s.hash s.width one p kept wide is;
              },
              tt,
            ));
        begun = begun ∙ sym (some_behind left one);
      }
