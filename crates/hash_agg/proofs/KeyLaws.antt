-- The keys of rows.
use Rattle.std.specs.Prelude.{◌≡◌, refl, ℕ, zero, suc, ◌+◌, ◌<◌, List, [], ◌∷◌, ◌++◌, length, map, take, slice_index_or, Result, Ok, Err}
use Rattle.std.specs.Prelude.{IfOk, IfSome, None, Option, Some}
use Rattle.std.proofs.Common.{sym, ◌∙◌, ap, arith}
use Rattle.std.proofs.lemmas.List.{get_or-map, map-append, append-nil, take_more}
use Rattle.std.proofs.lemmas.List.Concat.{flat_map-append}
use Rattle.std.specs.List.{AllByRecursion}
use Rattle.hash_agg.proofs.Words.{Datum, Null, Row, Kind, HasKinds, at_place, packing, value_packing, datum_of, row_of}
use Rattle.packed_rows.specs.declared.value.Value.{Value}
use Rattle.agg_protocol.specs.ArgumentLaws.{length-row_of}

pub all_index : {X : Type 0} (P : X → Type 0) (xs : List X) (i : ℕ) (d : X) → AllByRecursion P xs → i < length xs
    → P (slice_index_or xs i d)
all_index P [] i d all low = absurd (omega arith)
all_index P (x ∷ xs) zero d (p, all) low = p
all_index P (x ∷ xs) (suc i) d (p, all) low = all_index P xs i d all (omega arith)

pub kinds_long : (kinds : List Kind) (row : Row) → HasKinds kinds row → length row ≡ length kinds
kinds_long [] [] has = refl
kinds_long [] (value ∷ row) has = absurd has
kinds_long (kind ∷ kinds) [] has = absurd has
kinds_long (kind ∷ kinds) (value ∷ row) (first, has) = let rest : length row
    ≡ length kinds = kinds_long kinds row has in omega (arith, rest)

-- a column of GROUP BY is one of the row
pub place_within : (kinds : List Kind) (values : List Value) (keys : List ℕ) (i : ℕ) → HasKinds kinds (row_of values)
    → AllByRecursion (λ place. place < length kinds) keys → i < length keys → slice_index_or keys i 0 < length values
place_within kinds values keys i has within low =
    let place : slice_index_or keys i 0 < length kinds = all_index (λ place. place < length kinds) keys i 0 within low in
    let long : length (row_of values) ≡ length kinds = kinds_long kinds (row_of values) has in
    let many : length (row_of values) ≡ length values = length-row_of values in
    omega (arith, place, long, many)

-- the packing of one more column
pub key_more : (values : List Value) (so_far : List ℕ) (keys : List ℕ) (i : ℕ) (default : Value) → i < length keys
    → slice_index_or keys i 0 < length values → so_far ≡ packing (map (at_place (row_of values)) (take i keys))
    → so_far ++ value_packing (datum_of (slice_index_or values (slice_index_or keys i 0) default))
    ≡ packing (map (at_place (row_of values)) (take (i + 1) keys))
key_more values so_far keys i default low within before =
    let place : ℕ = slice_index_or keys i 0 in
    let front : List Datum = map (at_place (row_of values)) (take i keys) in
    (λ j. before j ++ value_packing (sym (get_or-map datum_of values place default Null within) j))
    ∙ ap (λ bytes. packing front ++ bytes) (sym (append-nil (value_packing (at_place (row_of values) place))))
    ∙ sym (flat_map-append value_packing front (at_place (row_of values) place ∷ []))
    ∙ ap packing (sym (map-append (at_place (row_of values)) (take i keys) (place ∷ [])))
    ∙ ap (λ places. packing (map (at_place (row_of values)) places)) (sym (take_more keys i 0 low))

pub if_ok_both : {T E : Type 0} (r : Result T E) (P Q R : T → Type 0) → ((x : T) → P x → Q x → R x) → IfOk r P → IfOk r Q → IfOk r R
if_ok_both (Ok x) P Q R gives p q = gives x p q
if_ok_both (Err e) P Q R gives p q = p

pub if_some_weaker : {X : Type 0} (o : Option X) (P Q : X → Type 0) → ((x : X) → P x → Q x) → IfSome o P → IfSome o Q
if_some_weaker (Some x) P Q gives p = gives x p
if_some_weaker None P Q gives p = p
