-- A query that passed the checks is well formed.
use Rattle.std.proofs.Common.{◌≡◌, ◌<◌, ◌≤◌, ◌==◌, ◌&&◌, ℕ, zero, suc, Bool, true, false, List, [], ◌∷◌, ◌++◌, map, length, Option, Some}
use Rattle.std.proofs.Common.{None, option_map, refl, ap, sym, ◌∙◌, subst, arith}
use Rattle.std.specs.Prelude.{slice_get, Ok}
use Rattle.std.specs.Str.{bytes_eq}
use Rattle.std.specs.List.{AllByRecursion, list_all, flat_map}
use Rattle.std.specs.Option.{option_map_or}
use Rattle.std.proofs.lemmas.Bool.{and_parts, false≢true}
use Rattle.std.proofs.lemmas.List.{length-map, map-append}
use Rattle.list_laws.specs.Each.{each_append}
use Rattle.grouping_model.specs.Datum as datum
use Rattle.grouping_model.specs.Datum.{Datum, Kind, Bigint_kind, Boolean_kind, Text_kind, Row, HasKind, HasKinds, at_place}
use Rattle.grouping_model.specs.Aggregates.{Function}
use Rattle.grouping_model.specs.Grouping.{argument}
use Rattle.grouping_model.specs.declared.limits.TheConstants.{MAX_ITEMS, MAX_KEYS, MAX_CALLS}
use Rattle.agg_protocol.specs.Signatures.{Argument, Each_row, Any_value, Values_of, signature}
use Rattle.agg_protocol.specs.Arguments.{IsArgument, Takes}
use Rattle.packed_rows.specs.Columns.{Column, AreColumns, kinds}
use Rattle.query_checks.specs.Forms.{Form, Call, Call_where, Literal, Unary, Binary, Written, map_form}
use Rattle.query_checks.specs.Forms as form
use Rattle.query_checks.specs.Reads.{calls_in, columns_pass}
use Rattle.query_checks.specs.Checks.{kinds_agree, kind_asked, kind_of_form, is_boolean, takes_column, takes_one, takes_two, operands_fit}
use Rattle.query_checks.specs.Checks.{condition_fits, kinds_fit, has_too_many, is_column, place, placed, checked_places, with_arrangement}
use Rattle.query_checks.specs.Checks.{PassesFirst}
use Rattle.query_checks.specs.Sameness.{form_eq, first_of_each}
use Rattle.grouping_model.specs.Order.{Arrangement}
use Rattle.query_checks.specs.declared.order.OrderTerm.{OrderTerm}
use Rattle.query_checks.specs.Order.{Asked, order_of}
use Rattle.query_checks.specs.Arrangement.{arrangement_of}
use Rattle.query_checks.specs.Calls.{calls_of, distinct_calls}
use Rattle.query_checks.specs.Writable.{IsWritable}
use Rattle.query_checks.specs.DistinctLaws.{Agrees, all_distinct, distinct_image}
use Rattle.query_checks.specs.ReadLaws.{Passes, calls_in_two, calls_mapped, calls_pass}
use Rattle.query_checks.specs.SameLaws.{form_image}
use Rattle.having_filter.specs.Meaning.{meaning, aggregate_of, source_of_form}
use Rattle.having_filter.specs.Kept.{TakesRows, IsWellFormed, IsCheckedQuery}
use Rattle.having_filter.specs.PlaceLaws.{same_places, distinct_places, places_in_range}
use Rattle.having_filter.specs.NormalLaws.{HasColumns, placed_item, columns_of_query, named_again}
use Rattle.having_filter.specs.Lemmas.OrderLaws.{same_length, order_in, arrangement_fits}
use Rattle.having_filter.specs.Lemmas.NormalLaws.{normal_writable, passes_again}
use Rattle.std.proofs.lemmas.Bool.Decides.{nat_tests}
use Rattle.std.proofs.lemmas.Grind.{common_steps}

-- the value in a column of a kind, or beyond the last column
abbrev pub KindAt : Option Kind → Datum → Type 0
KindAt None value = value ≡ datum.Null
KindAt (Some kind) value = HasKind kind value

kind_at : (ks : List Kind) (row : Row) (at : ℕ) → HasKinds ks row → KindAt (slice_get ks at) (at_place row at)
kind_at [] [] at has = refl
kind_at [] (x ∷ row) at has = elim has [ ]
kind_at (k ∷ ks) [] at has = elim has [ ]
kind_at (k ∷ ks) (x ∷ row) zero has = has.0
kind_at (k ∷ ks) (x ∷ row) (suc at) has = kind_at ks row at has.1

takes_kind : (wanted : Kind) (found : Option Kind) (value : Datum) → KindAt found value → kinds_agree found (Some wanted) ≡ true
    → HasKind wanted value
takes_kind wanted None value at e = subst (λ x. HasKind wanted x) (sym at) tt
takes_kind Bigint_kind (Some Bigint_kind) value at e = at
takes_kind Boolean_kind (Some Boolean_kind) value at e = at
takes_kind Text_kind (Some Text_kind) value at e = at
takes_kind Bigint_kind (Some Boolean_kind) value at e = absurd (false≢true e)
takes_kind Bigint_kind (Some Text_kind) value at e = absurd (false≢true e)
takes_kind Boolean_kind (Some Bigint_kind) value at e = absurd (false≢true e)
takes_kind Boolean_kind (Some Text_kind) value at e = absurd (false≢true e)
takes_kind Text_kind (Some Bigint_kind) value at e = absurd (false≢true e)
takes_kind Text_kind (Some Boolean_kind) value at e = absurd (false≢true e)

takes_null : (argument : Argument) → IsArgument argument datum.Null
takes_null Each_row = tt
takes_null Any_value = tt
takes_null (Values_of kind) = tt

takes_value : (argument : Argument) (found : Option Kind) (value : Datum) → KindAt found value → kinds_agree found (kind_asked argument)
    ≡ true → IsArgument argument value
takes_value Each_row found value at e = tt
takes_value Any_value found value at e = tt
takes_value (Values_of kind) found value at e = takes_kind kind found value at e

takes_argument : (ks : List Kind) (f : Function) (column : Option ℕ) → takes_column ks f column ≡ true → (row : Row) → HasKinds ks row
    → Takes f (argument column row)
takes_argument ks f None e row has = takes_null (signature f).argument
takes_argument ks f (Some at) e row has = takes_value (signature f).argument (slice_get ks at) (at_place row at) (kind_at ks row at has) e

-- the calls in a condition whose operands fit: they take the values of their columns
pub record CallFits (ks : List Kind) (call : Form ℕ) : Type 0 where
  pub takes : TakesRows ks (aggregate_of call)

calls_fit : (ks : List Kind) (x : Form ℕ) → operands_fit ks x ≡ true → AllByRecursion (CallFits ks) (calls_in x)
calls_fit ks (form.Column at) e = tt
calls_fit ks (Literal value) e = tt
calls_fit ks (Call f column) e = (record { takes = record { takes = takes_argument ks f column e } }, tt)
calls_fit ks (Call_where f column filter) e =
    let parts = and_parts (takes_column ks f column) (operands_fit ks filter && is_boolean (kind_of_form ks filter)) e in
    (record { takes = record { takes = takes_argument ks f column parts.0 } }, tt)
calls_fit ks (Unary operator x) e = calls_fit ks x (and_parts (operands_fit ks x) (takes_one operator (kind_of_form ks x)) e).0
calls_fit ks (Binary operator x y) e =
    let whole = and_parts (operands_fit ks x && operands_fit ks y) (takes_two operator (kind_of_form ks x) (kind_of_form ks y)) e in
    let sides = and_parts (operands_fit ks x) (operands_fit ks y) whole.0 in
    subst (AllByRecursion (CallFits ks)) (sym (calls_in_two x y)) (each_append (CallFits ks) (calls_in x) (calls_in y)
    (calls_fit ks x sides.0) (calls_fit ks y sides.1))

items_fit : (ks : List Kind) (items : List (Form ℕ × Option (List ℕ))) → list_all (λ item. operands_fit ks item.0) items ≡ true
    → AllByRecursion (CallFits ks) (flat_map (λ item. calls_in item.0) items)
items_fit ks [] e = tt
items_fit ks (item ∷ items) e =
    let parts = and_parts (operands_fit ks item.0) (list_all (λ item. operands_fit ks item.0) items) e in
    each_append (CallFits ks) (calls_in item.0) (flat_map (λ item. calls_in item.0) items) (calls_fit ks item.0 parts.0)
    (items_fit ks items parts.1)

clause_fits : (ks : List Kind) (clause : Option (Form ℕ)) → option_map_or (condition_fits ks) clause true ≡ true
    → AllByRecursion (CallFits ks) (option_map_or calls_in clause [])
clause_fits ks None e = tt
clause_fits ks (Some c) e = calls_fit ks c (and_parts (operands_fit ks c) (is_boolean (kind_of_form ks c)) e).0

all_aggregates : (ks : List Kind) (calls : List (Form ℕ)) → AllByRecursion (CallFits ks) calls
    → AllByRecursion (TakesRows ks) (map aggregate_of calls)
all_aggregates ks [] all = tt
all_aggregates ks (call ∷ calls) all = (all.0.takes, all_aggregates ks calls all.1)

aggregates_take : (ks : List Kind) (q : Written ℕ) → kinds_fit ks q ≡ true
    → AllByRecursion (TakesRows ks) (map aggregate_of (distinct_calls ◌==◌ q))
aggregates_take ks q e =
    let parts = and_parts (list_all (λ item. operands_fit ks item.0) q.items) (option_map_or (condition_fits ks) q.condition true
    && option_map_or (condition_fits ks) q.having true) e in
    let clauses = and_parts (option_map_or (condition_fits ks) q.condition true) (option_map_or (condition_fits ks) q.having true) parts.1
    in
    all_aggregates ks (distinct_calls ◌==◌ q)
    (all_distinct (CallFits ks) (form_eq ◌==◌) (calls_of q)
    (each_append (CallFits ks) (flat_map (λ item. calls_in item.0) q.items) (option_map_or calls_in q.having [])
    (items_fit ks q.items parts.0) (clause_fits ks q.having clauses.1)))

-- the calls of a query over names, and over places
items_placed : (columns : List Column) (items : List (Form (List ℕ) × Option (List ℕ)))
    → flat_map (λ item. calls_in item.0) (map (placed_item columns) items)
    ≡ map (map_form (place columns)) (flat_map (λ item. calls_in item.0) items)
items_placed columns [] = refl
items_placed columns (item ∷ items) =
    ap (λ (calls : List (Form ℕ)). calls ++ flat_map (λ item. calls_in item.0) (map (placed_item columns) items))
    (calls_mapped (place columns) item.0)
    ∙ ap (λ (calls : List (Form ℕ)). map (map_form (place columns)) (calls_in item.0) ++ calls) (items_placed columns items)
    ∙ sym (map-append (map_form (place columns)) (calls_in item.0) (flat_map (λ item. calls_in item.0) items))

clause_placed : (columns : List Column) (clause : Option (Form (List ℕ)))
    → option_map_or calls_in (option_map (map_form (place columns)) clause) []
    ≡ map (map_form (place columns)) (option_map_or calls_in clause [])
clause_placed columns None = refl
clause_placed columns (Some c) = calls_mapped (place columns) c

calls_placed : (columns : List Column) (q : Written (List ℕ)) → calls_of (placed columns q) ≡ map (map_form (place columns)) (calls_of q)
calls_placed columns q =
    ap (λ (calls : List (Form ℕ)). calls ++ option_map_or calls_in (option_map (map_form (place columns)) q.having) [])
    (items_placed columns q.items)
    ∙ ap (λ (calls : List (Form ℕ)). map (map_form (place columns)) (flat_map (λ item. calls_in item.0) q.items)
    ++ calls) (clause_placed columns q.having)
    ∙ sym (map-append (map_form (place columns)) (flat_map (λ item. calls_in item.0) q.items) (option_map_or calls_in q.having []))

items_pass : (P : List ℕ → Bool) (items : List (Form (List ℕ) × Option (List ℕ))) → list_all (λ item. columns_pass P item.0) items ≡ true
    → AllByRecursion (Passes P) (flat_map (λ item. calls_in item.0) items)
items_pass P [] e = tt
items_pass P (item ∷ items) e =
    let parts = and_parts (columns_pass P item.0) (list_all (λ item. columns_pass P item.0) items) e in
    each_append (Passes P) (calls_in item.0) (flat_map (λ item. calls_in item.0) items) (calls_pass P item.0 parts.0)
    (items_pass P items parts.1)

clause_passes : (P : List ℕ → Bool) (clause : Option (Form (List ℕ))) → option_map_or (columns_pass P) clause true ≡ true
    → AllByRecursion (Passes P) (option_map_or calls_in clause [])
clause_passes P None e = tt
clause_passes P (Some c) e = calls_pass P c e

same_calls : (columns : List Column) → Agrees (Passes (is_column columns)) (map_form (place columns)) (form_eq ◌==◌) (form_eq bytes_eq)
same_calls columns = record {
  agree = λ x y p q. form_image (is_column columns) (place columns) ◌==◌ bytes_eq (same_places columns) x y
      p.passes q.passes;
}

calls_alike : (columns : List Column) (q : Written (List ℕ)) → HasColumns columns q → distinct_calls ◌==◌ (placed columns q)
    ≡ map (map_form (place columns)) (distinct_calls bytes_eq q)
calls_alike columns q has =
    ap (first_of_each (form_eq ◌==◌)) (calls_placed columns q)
    ∙ distinct_image (Passes (is_column columns)) (map_form (place columns)) (form_eq ◌==◌) (form_eq bytes_eq) (same_calls columns)
    (calls_of q)
    (each_append (Passes (is_column columns)) (flat_map (λ item. calls_in item.0) q.items) (option_map_or calls_in q.having [])
    (items_pass (is_column columns) q.items has.items) (clause_passes (is_column columns) q.having has.having))

-- the limits
pub record IsWithin (q : Written (List ℕ)) : Type 0 where
  pub items : length q.items ≤ MAX_ITEMS
  pub keys : length (first_of_each bytes_eq q.keys) ≤ MAX_KEYS
  pub calls : length (distinct_calls bytes_eq q) ≤ MAX_CALLS

within : (q : Asked) → has_too_many q ≡ false → IsWithin q.written
within q e = grind (arith, nat_tests, common_steps)

-- a query that passes the first checks and has kinds that fit is well formed
well_formed : (columns : List Column) (asked : Asked) (arrangement : Arrangement OrderTerm) → PassesFirst columns asked
    → kinds_fit (kinds columns) (placed columns asked.written) ≡ true
    → IsWellFormed (meaning (record { columns = columns; written = placed columns asked.written; arrangement = arrangement }))
well_formed columns asked arrangement first fit =
    let q = asked.written in
    let has = columns_of_query columns q first.columns_there in
    let few = within asked first.few in
    record {
      keys = subst (λ n. AllByRecursion (λ at. at < n) (first_of_each ◌==◌ (map (place columns) q.keys)))
          (sym (length-map columns (λ (c : Column). c.kind)))
          (all_distinct (λ at. at < length columns) ◌==◌ (map (place columns) q.keys) (places_in_range columns q.keys has.keys));
      aggregates = aggregates_take (kinds columns) (placed columns q) fit;
      few_items = subst (λ n. n ≤ MAX_ITEMS)
          (sym (length-map (placed columns q).items (λ item. source_of_form (placed columns q).keys (distinct_calls ◌==◌ (placed columns q))
          item.0) ∙ length-map q.items (placed_item columns))) few.items;
      few_keys = subst (λ n. n ≤ MAX_KEYS) (sym (ap length (distinct_places columns q.keys has.keys)
          ∙ length-map (first_of_each bytes_eq q.keys) (place columns))) few.keys;
      few_aggregates = subst (λ n. n ≤ MAX_CALLS) (sym (length-map (distinct_calls ◌==◌ (placed columns q)) aggregate_of
          ∙ ap length (calls_alike columns q has) ∙ length-map (distinct_calls bytes_eq q) (map_form (place columns)))) few.calls;
    }

-- a query that passes all checks but that of what stands behind HAVING
pub passed_query : (columns : List Column) (q : Asked) → AreColumns columns → IsWritable q.written → PassesFirst columns q
    → kinds_fit (kinds columns) (placed columns q.written) ≡ true
    → checked_places columns (placed columns q.written) ≡ Ok (placed columns q.written)
    → IsCheckedQuery (record { columns = columns; written = placed columns q.written; arrangement = arrangement_of q })
passed_query columns q are writable first fit passed =
    record {
      columns_are = are;
      writable = record {
        written = subst IsWritable (sym (named_again columns q.written (columns_of_query columns q.written first.columns_there)))
            (normal_writable q.written writable);
        arrangement = arrangement_fits q (within q first.few).items;
      };
      passed = passes_again columns q first ∙ ap (λ r. with_arrangement columns r (Ok (arrangement_of q))) passed;
      well_formed = well_formed columns q (arrangement_of q) first fit;
      ordered = same_length q.written.items (placed columns q.written).items (sym (length-map q.written.items (placed_item columns)))
          (order_of q) (order_in q);
    }
