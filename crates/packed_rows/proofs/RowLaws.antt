-- Rows that are packed, read or unpacked value by value.
use Rattle.std.specs.Prelude.{◌≡◌, ◌≢◌, ℕ, ◌+◌, ◌<◌, ◌≤◌, List, [], ◌∷◌, ◌++◌, length, take, drop, Contains, slice_index_or, Result, Ok}
use Rattle.std.specs.Prelude.{Err, IsErr, MatchResult}
use Rattle.std.proofs.Common.{refl, sym, ◌∙◌, ap, subst, arith, append_assoc, append-nil}
use Rattle.std.specs.List.{AllByRecursion}
use Rattle.std.specs.Prelude.{◌-◌, map, suc, zero}
use Rattle.std.proofs.lemmas.List.{length-append}
use Rattle.grouping_model.specs.Datum.{Datum, Kind, Row, IsText, HasKind, HasKinds, Null, at_place, null_field, Bigint_kind}
use Rattle.packed_rows.specs.ConcatenatedRows.{LieAs, concatenated, ends_of}
use Rattle.packed_rows.specs.ConcatenatedRowsLaws.{PartAt, ends_append, ends_long, part_at}
use Rattle.packed_rows.specs.Field.{IsTextField, Reads, IsBadField, IsLeftmostBad}
use Rattle.std.proofs.lemmas.List.Elements.{Contains-append_right}
use Rattle.packed_rows.specs.Packing.{BeginsWithValue, IsPacking, value_packing, packing}
use Rattle.std.proofs.lemmas.List.{map_push, drop_more, drop_all, drop-map, get_or-map, length-map, length-take, take-map, take_all}
use Rattle.std.proofs.lemmas.List.{take_more}
use Rattle.std.proofs.lemmas.List.Folds.{flat_map-map}
use Rattle.packed_rows.specs.declared.value.Value.{Value}
use Rattle.packed_rows.specs.declared.value.ValueKind.{ValueKind}
use Rattle.packed_rows.specs.View.{datum_of, row_of, kind_of, kinds_of, texts_of}
use Rattle.std.specs.Borrow.{Bor}
use Rattle.packed_rows.specs.declared.value.ValueKind.TheVariants as kind
use Rattle.packed_rows.specs.Lemmas.PackingOrder.{value_apart, zero_apart}
use Rattle.std.proofs.lemmas.Bool.Decides.{nat_tests}
use Rattle.std.proofs.lemmas.Grind.{common_steps}
use Rattle.packed_rows.specs.Lemmas.RowLaws.{PackedSoFar, packed_more}

-- the packing of one value more
pub packed_next : (values : List Value) (i : ℕ) (d : Value) (before after : List ℕ) → i < length values → before
    ≡ packing (row_of (take i values)) → after ≡ before ++ value_packing (datum_of (slice_index_or values i d)) → after
    ≡ packing (row_of (take (i + 1) values))
packed_next values i d before after low so_far more = grind (arith, nat_tests, common_steps)

-- what is left to unpack: the bytes are the values so far and these, and each row of the bytes has them in front
pub record Unpacked (kinds left : List Kind) (bytes : List ℕ) (row : Row) (rest : List ℕ) : Type 0 where
  pub front : List Kind
  pub parts : kinds ≡ front ++ left
  pub packable : HasKinds front row
  pub spelled : bytes ≡ packing row ++ rest
  pub only : (whole : Row) → HasKinds kinds whole → bytes ≡ packing whole → (tail : Row) × (whole ≡ row ++ tail) × HasKinds left tail
      × (rest ≡ packing tail)

pub begins : (kinds : List Kind) (bytes : List ℕ) → Unpacked kinds kinds bytes [] bytes
begins kinds bytes = record { front = []; parts = refl; packable = tt; spelled = refl; only = λ whole p e. (whole, refl, p, e) }

packable_push : (kinds : List Kind) (kind : Kind) (row : Row) (value : Datum) → HasKinds kinds row → HasKind kind value
    → HasKinds (kinds ++ kind ∷ []) (row ++ value ∷ [])
packable_push [] kind [] value p q = (q, tt)
packable_push (k ∷ kinds) kind (v ∷ row) value p q = (p.0, packable_push kinds kind row value p.1 q)
packable_push [] kind (v ∷ row) value p q = absurd p
packable_push (k ∷ kinds) kind [] value p q = absurd p

packing_push : (row : Row) (value : Datum) (rest : List ℕ) → packing row ++ (value_packing value ++ rest) ≡ packing (row ++ value ∷ [])
    ++ rest
packing_push [] value rest = ap (λ (w : List ℕ). w ++ rest) (sym (append-nil (value_packing value)))
packing_push (v ∷ row) value rest = grind (arith, nat_tests, common_steps)

-- a row that begins with a value that was unpacked
next : (kind : Kind) (left : List Kind) (row : Row) (value : Datum) (rest after : List ℕ) (whole : Row) → HasKind kind value → rest
    ≡ value_packing value ++ after → (tail : Row) × (whole ≡ row ++ tail) × HasKinds (kind ∷ left) tail × (rest ≡ packing tail)
    → (tail : Row) × (whole ≡ (row ++ value ∷ []) ++ tail) × HasKinds left tail × (after ≡ packing tail)
next kind left row value rest after whole p e ([], is, q, same) = absurd q
next kind left row value rest after whole p e (v ∷ tail, is, q, same) =
    let apart = value_apart kind value v after (packing tail) p q.0 (sym e ∙ same) in
    (tail, is ∙ ap (λ (w : Datum). row ++ (w ∷ tail)) (sym apart.0) ∙ sym (append_assoc row (value ∷ []) tail), q.1, apart.1)

pub goes_on : (kinds left : List Kind) (kind : Kind) (bytes : List ℕ) (row : Row) (value : Datum) (rest after : List ℕ)
    → Unpacked kinds (kind ∷ left) bytes row rest → HasKind kind value → rest ≡ value_packing value ++ after
    → Unpacked kinds left bytes (row ++ value ∷ []) after
goes_on kinds left kind bytes row value rest after u p e = record {
  front = u.front ++ kind ∷ [];
  parts = u.parts ∙ sym (append_assoc u.front (kind ∷ []) left);
  packable = packable_push u.front kind row value u.packable p;
  spelled = u.spelled ∙ ap (λ (w : List ℕ). packing row ++ w) e ∙ packing_push row value after;
  only = λ whole q same. next kind left row value rest after whole p e (u.only whole q same);
}

ended : (row whole : Row) (rest : List ℕ) → rest ≢ [] → (tail : Row) × (whole ≡ row ++ tail) × HasKinds [] tail × (rest ≡ packing tail) → ⊥
ended row whole rest more ([], is, q, same) = more same
ended row whole rest more (v ∷ tail, is, q, same) = q

missing : (row whole : Row) (kind : Kind) (left : List Kind) (rest : List ℕ) → ((value : Datum) (after : List ℕ) → HasKind kind value
    → rest ≢ value_packing value ++ after) → (tail : Row) × (whole ≡ row ++ tail) × HasKinds (kind ∷ left) tail × (rest ≡ packing tail) → ⊥
missing row whole kind left rest none ([], is, q, same) = q
missing row whole kind left rest none (v ∷ tail, is, q, same) = none v (packing tail) q.0 same

-- ---- a text before a zero

pub no_zero : (bytes text rest : List ℕ) → ¬ (Contains bytes 0) → bytes ≢ text ++ 0 ∷ rest
no_zero bytes text rest none = λ e. none
    (subst (λ (w : List ℕ). Contains w 0) (sym e) (Contains-append_right text (0 ∷ rest) 0 (0, omega arith, refl)))

pub no_text : (bytes front after text rest : List ℕ) → bytes ≡ front ++ 0 ∷ after → ¬ (Contains front 0)
    → ((t : List ℕ) → ¬ (IsTextField front t)) → IsText text → bytes ≢ text ++ 0 ∷ rest
no_text bytes front after text rest parts free none p = λ e.
    let apart = zero_apart front text after rest free p.2 (sym parts ∙ e) in
    none text (subst IsText (sym apart.0) p, apart.0)

pub null_text : (bytes front after text rest : List ℕ) → bytes ≡ front ++ 0 ∷ after → ¬ (Contains front 0) → front ≡ null_field
    → IsText text → bytes ≢ text ++ 0 ∷ rest
null_text bytes front after text rest parts free null p = λ e. p.3 (sym (zero_apart front text after rest free p.2 (sym parts ∙ e)).0
    ∙ null)

-- ---- over the code's lists

pub kinds_left : (ks : List ValueKind) (i : ℕ) (d : ValueKind) → i < length ks → kinds_of (drop i ks) ≡ kind_of (slice_index_or ks i d)
    ∷ kinds_of (drop (i + 1) ks)
kinds_left ks i d h = ap kinds_of (drop_more ks i d h)

pub kind_unpacked : (ks : List ValueKind) (i : ℕ) (d : ValueKind) (bytes : List ℕ) (values : List Value) (value : Value)
    (rest after : List ℕ) → i < length ks → Unpacked (kinds_of ks) (kinds_of (drop i ks)) bytes (row_of values) rest
    → HasKind (kind_of (slice_index_or ks i d)) (datum_of value) → rest ≡ value_packing (datum_of value) ++ after
    → Unpacked (kinds_of ks) (kinds_of (drop (i + 1) ks)) bytes (row_of (values ++ value ∷ [])) after
kind_unpacked ks i d bytes values value rest after h u p e =
    let u' = subst (λ (left : List Kind). Unpacked (kinds_of ks) left bytes (row_of values) rest) (kinds_left ks i d h) u in
    subst (λ (row : Row). Unpacked (kinds_of ks) (kinds_of (drop (i + 1) ks)) bytes row after) (sym (map_push datum_of values value))
    (goes_on (kinds_of ks) (kinds_of (drop (i + 1) ks)) (kind_of (slice_index_or ks i d)) bytes (row_of values) (datum_of value) rest
    after u' p e)

-- rows that are refused: no value of the next kind is in front of what is left, or more is left when no kind is
pub kind_missing : (ks : List ValueKind) (i : ℕ) (d : ValueKind) (bytes : List ℕ) (row : Row) (rest : List ℕ) → i < length ks
    → Unpacked (kinds_of ks) (kinds_of (drop i ks)) bytes row rest
    → ((value : Datum) (after : List ℕ) → HasKind (kind_of (slice_index_or ks i d)) value → rest ≢ value_packing value ++ after)
    → (whole : Row) → HasKinds (kinds_of ks) whole → bytes ≢ packing whole
kind_missing ks i d bytes row rest h u none whole p = λ e.
    let u' = subst (λ (left : List Kind). Unpacked (kinds_of ks) left bytes row rest) (kinds_left ks i d h) u in
    missing row whole (kind_of (slice_index_or ks i d)) (kinds_of (drop (i + 1) ks)) rest none (u'.only whole p e)

pub rest_known : (ks : List ValueKind) (i : ℕ) (bytes : List ℕ) (row : Row) (rest : List ℕ) → length ks ≤ i
    → Unpacked (kinds_of ks) (kinds_of (drop i ks)) bytes row rest → Unpacked (kinds_of ks) [] bytes row rest
rest_known ks i bytes row rest h u = subst (λ (left : List ValueKind). Unpacked (kinds_of ks) (kinds_of left) bytes row rest)
    (drop_all i ks h) u

pub more_left : (kinds : List Kind) (bytes : List ℕ) (row : Row) (rest : List ℕ) → Unpacked kinds [] bytes row rest → rest ≢ []
    → (whole : Row) → HasKinds kinds whole → bytes ≢ packing whole
more_left kinds bytes row rest u more whole p = λ e. ended row whole rest more (u.only whole p e)

pub none_left : (kinds : List Kind) (bytes : List ℕ) (row : Row) (rest : List ℕ) → Unpacked kinds [] bytes row rest → rest ≡ []
    → HasKinds kinds row × (bytes ≡ packing row)
none_left kinds bytes row rest u none = grind (arith, nat_tests, common_steps)

kind_is : (ks : List ValueKind) (kinds : List Kind) (i : ℕ) → kinds_of ks ≡ kinds → i < length ks → slice_index_or kinds i Bigint_kind
    ≡ kind_of (slice_index_or ks i kind.Bigint)
kind_is ks kinds i e h = ap (λ (w : List Kind). slice_index_or w i Bigint_kind) (sym e) ∙ get_or-map kind_of ks i kind.Bigint Bigint_kind h

field_is : (fs : List (Bor (List ℕ))) (i : ℕ) (d : Bor (List ℕ)) → i < length fs → slice_index_or (texts_of fs) i []
    ≡ (slice_index_or fs i d).now
field_is fs i d h = get_or-map (λ (f : Bor (List ℕ)). f.now) fs i d [] h

same_width : (ks : List ValueKind) (kinds : List Kind) → kinds_of ks ≡ kinds → length ks ≡ length kinds
same_width ks kinds e = sym (length-map ks kind_of) ∙ ap length e

pub bad_column : (ks : List ValueKind) (kinds : List Kind) (fs : List (Bor (List ℕ))) (i : ℕ) (d : Bor (List ℕ)) (bytes : List ℕ)
    → kinds_of ks ≡ kinds → i < length ks → length fs ≡ length kinds → PackedSoFar kinds (texts_of fs) i bytes
    → IsBadField (kind_of (slice_index_or ks i kind.Bigint)) (slice_index_or fs i d).now → (length (texts_of fs) ≡ length kinds)
    × IsLeftmostBad kinds (texts_of fs) i
bad_column ks kinds fs i d bytes e h width so_far bad =
    let w = same_width ks kinds e in (
      length-map fs (λ (f : Bor (List ℕ)). f.now)
          ∙ width,
      (omega (arith, w), rw (kind_is ks kinds i e h, field_is fs i d (omega (arith, w))) bad, so_far.0, so_far.1),
    )

pub next_column : (ks : List ValueKind) (kinds : List Kind) (fs : List (Bor (List ℕ))) (i : ℕ) (d : Bor (List ℕ)) (bytes : List ℕ)
    (value : Datum) → kinds_of ks ≡ kinds → i < length ks → length fs ≡ length kinds → PackedSoFar kinds (texts_of fs) i bytes
    → Reads (kind_of (slice_index_or ks i kind.Bigint)) (slice_index_or fs i d).now value
    → PackedSoFar kinds (texts_of fs) (i + 1) (bytes ++ value_packing value)
next_column ks kinds fs i d bytes value e h width so_far reads =
    let w = same_width ks kinds e in let w' = length-map fs (λ (f : Bor (List ℕ)). f.now) in
    let reads' : Reads (slice_index_or kinds i Bigint_kind) (slice_index_or (texts_of fs) i []) value =
    rw (kind_is ks kinds i e h, field_is fs i d (omega (arith, w))) reads in
    packed_more kinds (texts_of fs) i bytes Bigint_kind [] value (omega (arith, w)) (omega (arith, w, w')) reads' so_far

pub on_match : {X E : Type 0} (r : Result X E) (P : Type 0) {Q : Type 0} → IsErr r → Q → MatchResult r (λ _. P) (λ _. Q)
on_match (Ok x) P failed q = cc
on_match (Err e) P failed q = q

-- ---- bytes that are known to be a packing

-- the values so far, where each ends, and what is left, which is a packing too
pub record KnownSoFar (kinds left : List Kind) (bytes : List ℕ) (row : Row) (rest ends : List ℕ) : Type 0 where
  pub front : List Kind
  pub parts : kinds ≡ front ++ left
  pub has : HasKinds front row
  pub spelled : bytes ≡ packing row ++ rest
  pub left_is : IsPacking left rest
  pub ends_are : ends ≡ ends_of 0 (map value_packing row)

pub known_begins : (kinds : List Kind) (bytes : List ℕ) → IsPacking kinds bytes → KnownSoFar kinds kinds bytes [] bytes []
known_begins kinds bytes is = record { front = []; parts = refl; has = tt; spelled = refl; left_is = is; ends_are = refl }

begins_with : (kind : Kind) (left : List Kind) (rest : List ℕ) → IsPacking (kind ∷ left) rest → BeginsWithValue kind rest
begins_with kind left rest ([], p, is) = absurd p
begins_with kind left rest (v ∷ vs, p, is) = (v, packing vs, p.0, is)

after_value : (kind : Kind) (left : List Kind) (rest after : List ℕ) (value : Datum) → IsPacking (kind ∷ left) rest → HasKind kind value
    → rest ≡ value_packing value ++ after → IsPacking left after
after_value kind left rest after value ([], p, is) has e = absurd p
after_value kind left rest after value (v ∷ vs, p, is) has e =
    let apart = value_apart kind value v after (packing vs) has p.0 (sym e ∙ is) in (vs, p.1, apart.1)

pub values_packed : (row : Row) → concatenated (map value_packing row) ≡ packing row
values_packed row = flat_map-map (λ (w : List ℕ). w) value_packing row

pub known_next : (ks : List ValueKind) (i : ℕ) (d : ValueKind) (bytes : List ℕ) (row : Row) (rest ends : List ℕ) → i < length ks
    → KnownSoFar (kinds_of ks) (kinds_of (drop i ks)) bytes row rest ends → BeginsWithValue (kind_of (slice_index_or ks i d)) rest
known_next ks i d bytes row rest ends h known =
    begins_with (kind_of (slice_index_or ks i d)) (kinds_of (drop (i + 1) ks)) rest
    (subst (λ (left : List Kind). IsPacking left rest) (kinds_left ks i d h) known.left_is)

-- a value ends where what is behind it begins
ends_there : (row : Row) (value : Datum) (bytes rest after : List ℕ) (end : ℕ) → bytes ≡ packing row ++ rest → rest ≡ value_packing value
    ++ after → end ≡ length bytes - length after → end ≡ 0 + length (concatenated (map value_packing row)) + length (value_packing value)
ends_there row value bytes rest after end spelled e is =
    let whole : length bytes ≡ length (packing row) + length rest = ap length spelled ∙ length-append (packing row) rest in
    let behind : length rest ≡ length (value_packing value) + length after = ap length e ∙ length-append (value_packing value) after in
    let same : length (concatenated (map value_packing row)) ≡ length (packing row) = ap length (values_packed row) in
    omega (arith, whole, behind, same, is)

pub known_more : (ks : List ValueKind) (i : ℕ) (d : ValueKind) (bytes : List ℕ) (values : List Value) (value : Value)
    (rest after ends : List ℕ) (end : ℕ) → i < length ks
    → KnownSoFar (kinds_of ks) (kinds_of (drop i ks)) bytes (row_of values) rest ends
    → HasKind (kind_of (slice_index_or ks i d)) (datum_of value) → rest ≡ value_packing (datum_of value) ++ after
    → end ≡ length bytes - length after
    → KnownSoFar (kinds_of ks) (kinds_of (drop (i + 1) ks)) bytes (row_of (values ++ value ∷ [])) after (ends ++ end ∷ [])
known_more ks i d bytes values value rest after ends end h known has e is =
    let kind = kind_of (slice_index_or ks i d) in
    let left = kinds_of (drop (i + 1) ks) in
    let split : kinds_of (drop i ks) ≡ kind ∷ left = kinds_left ks i d h in
    let row = row_of values in
    let v = datum_of value in
    let next : KnownSoFar (kinds_of ks) left bytes (row ++ v ∷ []) after (ends ++ end ∷ []) = record {
      front = known.front ++ kind ∷ [];
      parts = known.parts ∙ ap (λ (w : List Kind). known.front ++ w) split ∙ sym (append_assoc known.front (kind ∷ []) left);
      has = packable_push known.front kind row v known.has has;
      spelled = known.spelled ∙ ap (λ (w : List ℕ). packing row ++ w) e ∙ packing_push row v after;
      left_is = after_value kind left rest after v (subst (λ (w : List Kind). IsPacking w rest) split known.left_is) has e;
      ends_are = (λ j. known.ends_are j ++ (ends_there row v bytes rest after end known.spelled e is) j ∷ [])
          ∙ sym (ends_append 0 (map value_packing row) (value_packing v ∷ []))
          ∙ ap (ends_of 0) (sym (map_push value_packing row v));
    } in
    subst (λ (row : Row). KnownSoFar (kinds_of ks) left bytes row after (ends ++ end ∷ [])) (sym (map_push datum_of values value)) next

no_kind : (rest : List ℕ) → IsPacking [] rest → rest ≡ []
no_kind rest ([], p, is) = is
no_kind rest (v ∷ vs, p, is) = absurd p

pub known_ended : (ks : List ValueKind) (i : ℕ) (bytes : List ℕ) (row : Row) (rest ends : List ℕ) → length ks ≤ i
    → KnownSoFar (kinds_of ks) (kinds_of (drop i ks)) bytes row rest ends
    → HasKinds (kinds_of ks) row × (bytes ≡ packing row) × LieAs bytes ends (map value_packing row)
known_ended ks i bytes row rest ends h known =
    let none : kinds_of (drop i ks) ≡ [] = ap kinds_of (drop_all i ks h) in
    let all : rest ≡ [] = no_kind rest (subst (λ (w : List Kind). IsPacking w rest) none known.left_is) in
    let whole : bytes ≡ packing row = known.spelled ∙ ap (λ (w : List ℕ). packing row ++ w) all ∙ append-nil (packing row) in
    let front : known.front ≡ kinds_of ks = sym (known.parts ∙ ap (λ (w : List Kind). known.front ++ w) none
    ∙ append-nil known.front) in (
      subst (λ (w : List Kind). HasKinds w row) front known.has,
      whole,
      record { elements_are = whole ∙ sym (values_packed row); ends_are = known.ends_are },
    )

-- ---- a text that is known to be one

pub text_ends : (bytes front after : List ℕ) → ((text : List ℕ) × (rest : List ℕ) × IsText text × (bytes ≡ text ++ 0 ∷ rest))
    → bytes ≡ front ++ 0 ∷ after → ¬ (Contains front 0) → IsText front
text_ends bytes front after (text, rest, is, spelled) parts free =
    subst IsText (sym (zero_apart front text after rest free is.2 (sym parts ∙ spelled)).0) is

pub text_there : (bytes : List ℕ) → ((text : List ℕ) × (rest : List ℕ) × IsText text × (bytes ≡ text ++ 0 ∷ rest))
    → ¬ (Contains bytes 0) → ⊥
text_there bytes (text, rest, is, spelled) none = no_zero bytes text rest none spelled

-- ---- values side by side

pub part_there : (bytes ends : List ℕ) (from to : ℕ) (row : Row) → from ≤ to → to ≤ length ends → LieAs bytes ends (map value_packing row)
    → PartAt bytes (slice_index_or (0 ∷ ends) from 0) (slice_index_or (0 ∷ ends) to 0) (packing (take (to - from) (drop from row)))
part_there bytes ends from to row rises within lie =
    let n = to - from in
    let long : length ends ≡ length (map value_packing row) = ap length lie.ends_are ∙ ends_long 0 (map value_packing row) in
    let last : from + n ≡ to = omega (arith, rises) in
    let part : concatenated (take n (drop from (map value_packing row))) ≡ packing (take n (drop from row)) =
    ap (λ (w : List (List ℕ)). concatenated (take n w)) (drop-map value_packing from row)
    ∙ ap concatenated (take-map value_packing n (drop from row)) ∙ values_packed (take n (drop from row)) in
    let there = part_at bytes ends (map value_packing row) from n lie (omega (arith, last, within, long)) in
    subst (λ (part : List ℕ). PartAt bytes (slice_index_or (0 ∷ ends) from 0) (slice_index_or (0 ∷ ends) to 0) part) part
    (subst (λ to. PartAt bytes (slice_index_or (0 ∷ ends) from 0) (slice_index_or (0 ∷ ends) to 0)
    (concatenated (take n (drop from (map value_packing row))))) last there)

-- each place is the next to the one before, the first being this one
abbrev pub AreNext : ℕ → List ℕ → Type 0
AreNext first [] = Unit {0}
AreNext first (place ∷ places) = (place ≡ first) × AreNext (first + 1) places

next_push : (places : List ℕ) (first place : ℕ) → AreNext first places → place ≡ first + length places
    → AreNext first (places ++ place ∷ [])
next_push [] first place next is = (omega (arith, is), tt)
next_push (p ∷ places) first place next is = (next.0, next_push places (first + 1) place next.1 (omega (arith, is)))

-- the first places are next to each other, and where the next one is
pub record NextSoFar (places : List ℕ) (first i behind many : ℕ) : Type 0 where
  pub next : AreNext first (take i places)
  pub is : behind ≡ first + i
  pub within : behind ≤ many

pub next_more : (places : List ℕ) (first i d behind many : ℕ) → i < length places → NextSoFar places first i behind many
    → slice_index_or places i d ≡ behind → slice_index_or places i d < many → NextSoFar places first (i + 1) (behind + 1) many
next_more places first i d behind many h so_far same low =
    let short : length (take i places) ≡ i = grind (arith, length-take, h) in
    let where_it_is : slice_index_or places i d ≡ first + length (take i places) = omega (arith, same, so_far.is, short) in
    record {
      next = subst (AreNext first) (sym (take_more places i d h))
          (next_push (take i places) first (slice_index_or places i d) so_far.next where_it_is);
      is = omega (arith, so_far.is);
      within = omega (arith, same, low);
    }

values_at : (row : Row) (places : List ℕ) (first : ℕ) → AreNext first places → first + length places ≤ length row
    → map (at_place row) places ≡ take (length places) (drop first row)
values_at row [] first next within = refl
values_at row (place ∷ places) first next within =
    (λ j. at_place row (next.0 j) ∷ values_at row places (first + 1) next.1 (omega (arith, within)) j)
    ∙ ap (take (suc (length places))) (sym (drop_more row first Null (omega (arith, within))))

pub part_is : (places : List ℕ) (first i behind : ℕ) (bytes ends part : List ℕ) (row : Row) → length places ≤ i → i ≤ length places
    → NextSoFar places first i behind (length ends)
    → LieAs bytes ends (map value_packing row)
    → part ≡ packing (take (behind - first) (drop first row)) → part ≡ packing (map (at_place row) places)
part_is places first i behind bytes ends part row past least so_far lie is =
    let long : length ends ≡ length row =
    ap length lie.ends_are ∙ ends_long 0 (map value_packing row) ∙ length-map row value_packing in
    let next : AreNext first places = subst (AreNext first) (take_all i places past) so_far.next in
    let at = so_far.is in
    let within = so_far.within in
    let many : behind - first ≡ length places = omega (arith, at, past, least) in
    is ∙ ap (λ n. packing (take n (drop first row))) many
    ∙ ap packing (sym (values_at row places first next (omega (arith, at, within, past, least, long))))

pub all_index : (many : ℕ) (places : List ℕ) (i d : ℕ) → AllByRecursion (λ place. place < many) places → i < length places
    → slice_index_or places i d < many
all_index many [] i d all low = absurd (omega arith)
all_index many (p ∷ places) zero d all low = all.0
all_index many (p ∷ places) (suc i) d all low = all_index many places i d all.1 (omega arith)
