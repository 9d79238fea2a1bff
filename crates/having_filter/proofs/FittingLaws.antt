-- The conditions of a checked query have operands that fit.
use Rattle.std.proofs.Common.{◌≡◌, ◌<◌, ◌==◌, ◌&&◌, ℕ, Bool, true, false, List, [], ◌∷◌, map, length, Option, Some, None, option_map, refl}
use Rattle.std.proofs.Common.{ap, sym, ◌∙◌, subst}
use Rattle.std.specs.Prelude.{nat_lt, not, unwrap_or, ◌||◌}
use Rattle.std.specs.List.{list_all, list_any, flat_map, AllByRecursion}
use Rattle.std.specs.Option.{ForSome, option_map_or}
use Rattle.std.proofs.lemmas.Bool.{and_parts, and_from, ltb-true, lt-ltb, false≢true, eq-eqb}
use Rattle.std.proofs.lemmas.List.{length-map}
use Rattle.std.proofs.lemmas.Bool.Decides.{Decides-int_eq}
use Rattle.std.proofs.lemmas.List.Folds.{list_any-append}
use Rattle.std.proofs.lemmas.Slice.Eq.{bytes_eq-Decides}
use Rattle.list_laws.specs.Each.{each_append, each_front, each_behind}
use Rattle.grouping_model.specs.Datum as datum
use Rattle.having_filter.proofs.Words.{Datum, Kind, Bigint_kind, Boolean_kind, Text_kind, kinds, Unary_operator, Negation, Testing}
use Rattle.having_filter.proofs.Words.{Binary_operator, Conjunction, Disjunction, Comparing, Form, Call, Call_where, Literal, Unary, Binary}
use Rattle.having_filter.proofs.Words.{Written, map_form, Checked, kind_of_form, kinds_agree, is_boolean, takes_one, takes_two}
use Rattle.having_filter.proofs.Words.{takes_column, operands_fit, condition_fits, kinds_fit, are_plain, is_grouped, is_column, place}
use Rattle.having_filter.proofs.Words.{placed, calls_of, distinct_calls, arrangement_of, IsCheckedQuery, by_names}
use Rattle.grouping_model.specs.Condition as model
use Rattle.packed_rows.specs.Columns as packed
use Rattle.agg_protocol.specs.Signatures.{function_number}
use Rattle.query_checks.specs.Forms.{Column}
use Rattle.query_checks.specs.Reads.{reads, is_call, is_key, calls_in, is_plain, is_grouped_by, columns_pass, filters_pass, filter_of}
use Rattle.query_checks.specs.Operators.{test_number, comparison_number}
use Rattle.query_checks.specs.Sameness.{form_eq, option_same, literal_eq, unary_eq, binary_eq, with_one, with_each}
use Rattle.query_checks.specs.DistinctLaws.{all_distinct}
use Rattle.query_checks.specs.FormLaws.{columns_mapped}
use Rattle.query_checks.specs.ReadLaws.{both_pass, calls_in_two}
use Rattle.having_filter.specs.Fitting.{OfOneKind, TakesOne, TakesTwo, OperandsFit, Fits, IsOfRow, IsOfGroup, HasFittingConditions}
use Rattle.grouping_model.specs.Order.{Arrangement}
use Rattle.query_checks.specs.declared.order.OrderTerm.{OrderTerm}
use Rattle.having_filter.specs.PlaceLaws.{placed_name}
use Rattle.having_filter.specs.NormalLaws.{HasColumns, placed_item, columns_of_query}
use Rattle.having_filter.specs.Lemmas.PassedLaws.{passes_first, passes_places}

-- ---- kinds

one_kind : (left right : Option Kind) → kinds_agree left right ≡ true → OfOneKind left right
one_kind None right e = tt
one_kind (Some left) None e = tt
one_kind (Some Bigint_kind) (Some Bigint_kind) e = refl
one_kind (Some Boolean_kind) (Some Boolean_kind) e = refl
one_kind (Some Text_kind) (Some Text_kind) e = refl
one_kind (Some left) (Some right) e = absurd (false≢true e)

takes_one_kind : (operator : Unary_operator) (kind : Option Kind) → takes_one operator kind ≡ true → TakesOne operator kind
takes_one_kind Negation kind e = one_kind kind (Some Boolean_kind) e
takes_one_kind (Testing model.Is_null negated) kind e = tt
takes_one_kind (Testing test negated) kind e = one_kind kind (Some Boolean_kind) e

takes_two_kinds : (operator : Binary_operator) (left right : Option Kind) → takes_two operator left right ≡ true
    → TakesTwo operator left right
takes_two_kinds Conjunction left right e = let both = and_parts (is_boolean left) (is_boolean right) e in
    (one_kind left (Some Boolean_kind) both.0, one_kind right (Some Boolean_kind) both.1)
takes_two_kinds Disjunction left right e = let both = and_parts (is_boolean left) (is_boolean right) e in
    (one_kind left (Some Boolean_kind) both.0, one_kind right (Some Boolean_kind) both.1)
takes_two_kinds (Comparing comparison) left right e = one_kind left right e

-- ---- a condition whose columns and calls may be read, and whose operands fit by the checks

operands : (IsRead : Form ℕ → Type 0) (ks : List Kind) (x : Form ℕ) → AllByRecursion IsRead (reads x) → operands_fit ks x ≡ true
    → OperandsFit IsRead ks x
operands IsRead ks (Column c) all e = all.0
operands IsRead ks (Call f c) all e = all.0
operands IsRead ks (Call_where f c x) all e = all.0
operands IsRead ks (Literal v) all e = tt
operands IsRead ks (Unary operator x) all e =
    let parts = and_parts (operands_fit ks x) (takes_one operator (kind_of_form ks x)) e in
    (operands IsRead ks x all parts.0, takes_one_kind operator (kind_of_form ks x) parts.1)
operands IsRead ks (Binary operator x y) all e =
    let parts = and_parts (operands_fit ks x && operands_fit ks y) (takes_two operator (kind_of_form ks x) (kind_of_form ks y)) e in
    let sides = and_parts (operands_fit ks x) (operands_fit ks y) parts.0 in (
      operands IsRead ks x (each_front IsRead (reads x) (reads y) all) sides.0,
      operands IsRead ks y (each_behind IsRead (reads x) (reads y) all) sides.1,
      takes_two_kinds operator (kind_of_form ks x) (kind_of_form ks y) parts.1,
    )

fits : (IsRead : Form ℕ → Type 0) (ks : List Kind) (x : Form ℕ) → AllByRecursion IsRead (reads x) → condition_fits ks x ≡ true
    → Fits IsRead ks x
fits IsRead ks x all e =
    let parts = and_parts (operands_fit ks x) (is_boolean (kind_of_form ks x)) e in
    record { operands = operands IsRead ks x all parts.0; truth = one_kind (kind_of_form ks x) (Some Boolean_kind) parts.1 }

-- ---- what WHERE and FILTER read

abbrev pub in_table : List Kind → ℕ → Bool
in_table ks at = nat_lt at (length ks)

reads_rows : (ks : List Kind) (x : Form ℕ) → is_plain x ≡ true → columns_pass (in_table ks) x ≡ true → AllByRecursion (IsOfRow ks) (reads x)
reads_rows ks (Column at) plain range = (ltb-true at (length ks) range, tt)
reads_rows ks (Call f c) plain range = absurd (false≢true plain)
reads_rows ks (Call_where f c x) plain range = absurd (false≢true plain)
reads_rows ks (Literal v) plain range = tt
reads_rows ks (Unary operator x) plain range = reads_rows ks x plain range
reads_rows ks (Binary operator x y) plain range =
    let plains = and_parts (is_plain x) (is_plain y) (sym (both_pass (λ leaf. not (is_call leaf)) x y) ∙ plain) in
    let ranges = and_parts (columns_pass (in_table ks) x) (columns_pass (in_table ks) y) range in
    each_append (IsOfRow ks) (reads x) (reads y) (reads_rows ks x plains.0 ranges.0) (reads_rows ks y plains.1 ranges.1)

abbrev FitsRow : List Kind → Form ℕ → Type 0
FitsRow ks c = Fits (IsOfRow ks) ks c

row_fits : (ks : List Kind) (x : Form ℕ) → is_plain x ≡ true → columns_pass (in_table ks) x ≡ true → condition_fits ks x ≡ true
    → FitsRow ks x
row_fits ks x plain range fit = fits (IsOfRow ks) ks x (reads_rows ks x plain range) fit

-- the FILTERs of the calls in a condition
abbrev FilterFits : List Kind → Form ℕ → Type 0
FilterFits ks call = ForSome (filter_of call) (FitsRow ks)

calls_fit : (ks : List Kind) (x : Form ℕ) → filters_pass is_plain x ≡ true → columns_pass (in_table ks) x ≡ true → operands_fit ks x ≡ true
    → AllByRecursion (FilterFits ks) (calls_in x)
calls_fit ks (Column at) plain range fit = tt
calls_fit ks (Call f c) plain range fit = (λ x h. absurd cc, tt)
calls_fit ks (Call_where f c x) plain range fit =
    let plains = and_parts (is_plain x) (filters_pass is_plain x) plain in
    let ranges = and_parts (option_map_or (in_table ks) c true) (columns_pass (in_table ks) x) range in
    let fitting = and_parts (takes_column ks f c) (condition_fits ks x) fit in
    (λ y h. subst (FitsRow ks) (ap (λ (o : Option (Form ℕ)). unwrap_or o x) h) (row_fits ks x plains.0 ranges.1 fitting.1), tt)
calls_fit ks (Literal v) plain range fit = tt
calls_fit ks (Unary operator x) plain range fit = calls_fit ks x plain range
    (and_parts (operands_fit ks x) (takes_one operator (kind_of_form ks x)) fit).0
calls_fit ks (Binary operator x y) plain range fit =
    let plains = and_parts (filters_pass is_plain x) (filters_pass is_plain y) plain in
    let ranges = and_parts (columns_pass (in_table ks) x) (columns_pass (in_table ks) y) range in
    let sides = and_parts (operands_fit ks x) (operands_fit ks y) (and_parts (operands_fit ks x && operands_fit ks y)
    (takes_two operator (kind_of_form ks x) (kind_of_form ks y)) fit).0 in
    subst (AllByRecursion (FilterFits ks)) (sym (calls_in_two x y))
    (each_append (FilterFits ks) (calls_in x) (calls_in y) (calls_fit ks x plains.0 ranges.0 sides.0)
    (calls_fit ks y plains.1 ranges.1 sides.1))

-- ---- a call is the same as itself, so it is among the distinct ones

literal_same : (v : Datum) → literal_eq v v ≡ true
literal_same datum.Null = refl
literal_same (datum.Bigint z) = (Decides-int_eq z z).1 refl
literal_same (datum.Boolean true) = refl
literal_same (datum.Boolean false) = refl
literal_same (datum.Text text) = (bytes_eq-Decides text text).1 refl

unary_same : (a : Unary_operator) → unary_eq a a ≡ true
unary_same Negation = refl
unary_same (Testing test true) = and_from _ _ (eq-eqb (test_number test) (test_number test) refl) refl
unary_same (Testing test false) = and_from _ _ (eq-eqb (test_number test) (test_number test) refl) refl

binary_same : (a : Binary_operator) → binary_eq a a ≡ true
binary_same Conjunction = refl
binary_same Disjunction = refl
binary_same (Comparing c) = eq-eqb (comparison_number c) (comparison_number c) refl

column_same : (c : Option ℕ) → option_same ◌==◌ c c ≡ true
column_same None = refl
column_same (Some at) = eq-eqb at at refl

form_same : (x : Form ℕ) → form_eq ◌==◌ x x ≡ true
form_same (Column at) = eq-eqb at at refl
form_same (Call f c) = and_from _ _ (eq-eqb (function_number f) (function_number f) refl) (column_same c)
form_same (Call_where f c x) = and_from _ _ (eq-eqb (function_number f) (function_number f) refl)
    (and_from _ _ (column_same c) (form_same x))
form_same (Literal v) = literal_same v
form_same (Unary a x) = and_from _ _ (unary_same a) (form_same x)
form_same (Binary a x y) = and_from _ _ (binary_same a) (and_from _ _ (form_same x) (form_same y))

abbrev IsAmong : List (Form ℕ) → Form ℕ → Type 0
IsAmong members call = list_any (form_eq ◌==◌ call) members ≡ true

keeps_one : (call : Form ℕ) (members : List (Form ℕ)) (y : Form ℕ) (there : Bool) → list_any (form_eq ◌==◌ y) members ≡ there
    → IsAmong members call → IsAmong (with_one (form_eq ◌==◌) members y) call
keeps_one call members y true e h = rw e h
keeps_one call members y false e h = rw e (list_any-append (form_eq ◌==◌ call) members (y ∷ [])
    ∙ (λ i. h i || list_any (form_eq ◌==◌ call) (y ∷ [])))

keeps_each : (call : Form ℕ) (members xs : List (Form ℕ)) → IsAmong members call → IsAmong (with_each (form_eq ◌==◌) members xs) call
keeps_each call members [] h = h
keeps_each call members (x ∷ xs) h = keeps_each call (with_one (form_eq ◌==◌) members x) xs
    (keeps_one call members x (list_any (form_eq ◌==◌ x) members) refl h)

joins_one : (call : Form ℕ) (members : List (Form ℕ)) (there : Bool) → list_any (form_eq ◌==◌ call) members ≡ there
    → IsAmong (with_one (form_eq ◌==◌) members call) call
joins_one call members true e = rw e e
joins_one call members false e = rw e (list_any-append (form_eq ◌==◌ call) members (call ∷ []) ∙ (λ i. e i || (form_same call i || false)))

all_among : (members xs : List (Form ℕ)) → AllByRecursion (IsAmong (with_each (form_eq ◌==◌) members xs)) xs
all_among members [] = tt
all_among members (x ∷ xs) =
    let more = with_one (form_eq ◌==◌) members x in
    (keeps_each x more xs (joins_one x members (list_any (form_eq ◌==◌ x) members) refl), all_among more xs)

-- ---- what HAVING reads

reads_groups : (q : Checked) (x : Form ℕ) → is_grouped_by q.written.keys x ≡ true
    → AllByRecursion (IsAmong (distinct_calls ◌==◌ q.written)) (calls_in x) → AllByRecursion (IsOfGroup q) (reads x)
reads_groups q (Column at) grouped all = ((and_parts (is_key q.written.keys (Column at)) true grouped).0, tt)
reads_groups q (Call f c) grouped all = (all.0, tt)
reads_groups q (Call_where f c x) grouped all = (all.0, tt)
reads_groups q (Literal v) grouped all = tt
reads_groups q (Unary operator x) grouped all = reads_groups q x grouped all
reads_groups q (Binary operator x y) grouped all =
    let sides = and_parts (is_grouped_by q.written.keys x) (is_grouped_by q.written.keys y) (sym (both_pass (is_key q.written.keys) x y)
    ∙ grouped) in
    let among = subst (AllByRecursion (IsAmong (distinct_calls ◌==◌ q.written))) (calls_in_two x y) all in
    each_append (IsOfGroup q) (reads x) (reads y) (reads_groups q x sides.0 (each_front _ (calls_in x) (calls_in y) among))
    (reads_groups q y sides.1 (each_behind _ (calls_in x) (calls_in y) among))

having_fits : (q : Checked) (clause : Option (Form ℕ)) → option_map_or (is_grouped_by q.written.keys) clause true ≡ true
    → option_map_or (condition_fits (kinds q.columns)) clause true ≡ true
    → AllByRecursion (IsAmong (distinct_calls ◌==◌ q.written)) (option_map_or calls_in clause [])
    → ForSome clause (Fits (IsOfGroup q) (kinds q.columns))
having_fits q None grouped fit among = λ x h. absurd cc
having_fits q (Some c) grouped fit among = λ x h. subst (Fits (IsOfGroup q) (kinds q.columns))
    (ap (λ (o : Option (Form ℕ)). unwrap_or o c) h) (fits (IsOfGroup q) (kinds q.columns) c (reads_groups q c grouped among) fit)

items_read : (q : Checked) (items : List (Form ℕ × Option (List ℕ))) → list_all (λ item. is_grouped_by q.written.keys item.0) items ≡ true
    → AllByRecursion (IsAmong (distinct_calls ◌==◌ q.written)) (flat_map (λ item. calls_in item.0) items)
    → AllByRecursion (λ item. AllByRecursion (IsOfGroup q) (reads item.0)) items
items_read q [] grouped among = tt
items_read q (item ∷ items) grouped among =
    let parts = and_parts (is_grouped_by q.written.keys item.0) (list_all (λ item. is_grouped_by q.written.keys item.0) items) grouped in (
      reads_groups q item.0 parts.0 (each_front _ (calls_in item.0) (flat_map (λ item. calls_in item.0) items) among),
      items_read q items parts.1 (each_behind _ (calls_in item.0) (flat_map (λ item. calls_in item.0) items) among),
    )

-- ---- over the places of columns

imply : {C : Type 0} (P Q : C → Bool) → ((c : C) → P c ≡ true → Q c ≡ true) → (x : Form C) → columns_pass P x ≡ true → columns_pass Q x
    ≡ true
imply P Q then (Column c) e = then c e
imply P Q then (Call f None) e = refl
imply P Q then (Call f (Some c)) e = then c e
imply P Q then (Call_where f None x) e = imply P Q then x e
imply P Q then (Call_where f (Some c) x) e = let parts = and_parts (P c) (columns_pass P x) e in and_from _ _ (then c parts.0) (imply P Q
    then x parts.1)
imply P Q then (Literal v) e = refl
imply P Q then (Unary operator x) e = imply P Q then x e
imply P Q then (Binary operator x y) e = let parts = and_parts (columns_pass P x) (columns_pass P y) e in and_from _ _ (imply P Q
    then x parts.0) (imply P Q then y parts.1)

placed_range : (columns : List packed.Column) (x : Form (List ℕ)) → columns_pass (is_column columns) x ≡ true
    → columns_pass (in_table (kinds columns)) (map_form (place columns) x) ≡ true
placed_range columns x e =
    columns_mapped (in_table (kinds columns)) (place columns) x
    ∙ imply (is_column columns) (λ name. in_table (kinds columns) (place columns name))
    (λ name there. lt-ltb (place columns name) (length (kinds columns))
    (subst (λ n. place columns name < n) (sym (length-map columns (λ (c : packed.Column). c.kind)))
    (placed_name columns name there).in_range)) x e

where_fits : (columns : List packed.Column) (clause : Option (Form (List ℕ))) → option_map_or (columns_pass (is_column columns)) clause true
    ≡ true → option_map_or (condition_fits (kinds columns)) (option_map (map_form (place columns)) clause) true ≡ true
    → option_map_or is_plain (option_map (map_form (place columns)) clause) true ≡ true
    → ForSome (option_map (map_form (place columns)) clause) (FitsRow (kinds columns))
where_fits columns None known fit plain = λ x h. absurd cc
where_fits columns (Some c) known fit plain =
    let placed_c = map_form (place columns) c in
    λ x h. subst (FitsRow (kinds columns)) (ap (λ (o : Option (Form ℕ)). unwrap_or o placed_c) h)
    (row_fits (kinds columns) placed_c plain (placed_range columns c known) fit)

items_filters : (columns : List packed.Column) (items : List (Form (List ℕ) × Option (List ℕ)))
    → list_all (λ item. columns_pass (is_column columns) item.0) items ≡ true
    → list_all (λ item. operands_fit (kinds columns) item.0) (map (placed_item columns) items) ≡ true
    → list_all (λ item. filters_pass is_plain item.0) (map (placed_item columns) items) ≡ true
    → AllByRecursion (FilterFits (kinds columns)) (flat_map (λ item. calls_in item.0) (map (placed_item columns) items))
items_filters columns [] known fit plain = tt
items_filters columns (item ∷ items) known fit plain =
    let ks = kinds columns in
    let x = map_form (place columns) item.0 in
    let knowns = and_parts (columns_pass (is_column columns) item.0) (list_all (λ item. columns_pass (is_column columns) item.0) items)
    known in
    let fitting = and_parts (operands_fit ks x) (list_all (λ item. operands_fit ks item.0) (map (placed_item columns) items)) fit in
    let plains = and_parts (filters_pass is_plain x) (list_all (λ item. filters_pass is_plain item.0) (map (placed_item columns) items))
    plain in
    each_append (FilterFits ks) (calls_in x) (flat_map (λ item. calls_in item.0) (map (placed_item columns) items))
    (calls_fit ks x plains.0 (placed_range columns item.0 knowns.0) fitting.0) (items_filters columns items knowns.1 fitting.1 plains.1)

clause_filters : (columns : List packed.Column) (clause : Option (Form (List ℕ)))
    → option_map_or (columns_pass (is_column columns)) clause true ≡ true
    → option_map_or (condition_fits (kinds columns)) (option_map (map_form (place columns)) clause) true ≡ true
    → option_map_or (filters_pass is_plain) (option_map (map_form (place columns)) clause) true ≡ true
    → AllByRecursion (FilterFits (kinds columns)) (option_map_or calls_in (option_map (map_form (place columns)) clause) [])
clause_filters columns None known fit plain = tt
clause_filters columns (Some c) known fit plain =
    let x = map_form (place columns) c in
    calls_fit (kinds columns) x plain (placed_range columns c known)
    (and_parts (operands_fit (kinds columns) x) (is_boolean (kind_of_form (kinds columns) x)) fit).0

-- ---- the whole query

placed_fits : (columns : List packed.Column) (w : Written (List ℕ)) (arrangement : Arrangement OrderTerm) → HasColumns columns w
    → are_plain (placed columns w) ≡ true → kinds_fit (kinds columns) (placed columns w) ≡ true → is_grouped (placed columns w) ≡ true
    → HasFittingConditions (record { columns = columns; written = placed columns w; arrangement = arrangement })
placed_fits columns w arrangement has plain fit grouped =
    let ks = kinds columns in
    let p = placed columns w in
    let q : Checked = record { columns = columns; written = p; arrangement = arrangement } in
    let fit_items = list_all (λ item. operands_fit ks item.0) p.items in
    let fit_where = option_map_or (condition_fits ks) p.condition true in
    let fit_having = option_map_or (condition_fits ks) p.having true in
    let fit_all = and_parts fit_items (fit_where && fit_having) fit in
    let fit_clauses = and_parts fit_where fit_having fit_all.1 in
    let plain_items = list_all (λ item. filters_pass is_plain item.0) p.items in
    let plain_where = option_map_or (filters_pass is_plain) p.condition true in
    let plain_having = option_map_or (filters_pass is_plain) p.having true in
    let plains = and_parts (plain_items && (plain_where && plain_having)) (option_map_or is_plain p.condition true) plain in
    let plain_parts = and_parts plain_items (plain_where && plain_having) plains.0 in
    let plain_clauses = and_parts plain_where plain_having plain_parts.1 in
    let groups = and_parts (list_all (λ item. is_grouped_by p.keys item.0) p.items) (option_map_or (is_grouped_by p.keys) p.having true)
    grouped in
    let item_calls = flat_map (λ item. calls_in item.0) p.items in
    let having_calls = option_map_or calls_in p.having [] in
    record {
      condition = where_fits columns w.condition has.condition fit_clauses.0 plains.1;
      filters = all_distinct (FilterFits ks) (form_eq ◌==◌) (calls_of p)
          (each_append (FilterFits ks) item_calls having_calls (items_filters columns w.items has.items fit_all.0 plain_parts.0)
          (clause_filters columns w.having has.having fit_clauses.1 plain_clauses.1));
      having = having_fits q p.having groups.1 fit_clauses.1 (each_behind (IsAmong (distinct_calls ◌==◌ p)) item_calls having_calls
          (all_among [] (calls_of p)));
      items = items_read q p.items groups.0 (each_front (IsAmong (distinct_calls ◌==◌ p)) item_calls having_calls
          (all_among [] (calls_of p)));
    }

pub conditions_fit : (q : Checked) → IsCheckedQuery q → HasFittingConditions q
conditions_fit q is =
    let w = by_names q in
    let first = passes_first q.columns w q is.passed in
    let places = passes_places q is.passed in
    subst HasFittingConditions (sym places.same)
    (placed_fits q.columns w.written (arrangement_of w) (columns_of_query q.columns w.written first.columns_there) places.plain places.fit
    places.grouped)
