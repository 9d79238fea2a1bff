-- Laws of what is worked out of a query.
use Rattle.std.proofs.Common.{ap, ◌∙◌, sym, subst, ◌≡◌, ◌==◌, ◌<◌, ℕ, List, map, [], ◌∷◌, length, option_map, Option, Some, None, refl}
use Rattle.std.proofs.Common.{String, Global, get_or}
use Rattle.std.proofs.lemmas.List.{length-map}
use Rattle.std.proofs.lemmas.Option.{slice_get_read, slice_get-map}
use Rattle.std.specs.Prelude.{slice_get}
use Rattle.grouping_model.specs.Query as query
use Rattle.having_filter.proofs.Words.{Aggregate, Function, Outcome, At, is_met, value_of, Bigint_kind, function_of, kinds, kinds_of, Form}
use Rattle.having_filter.proofs.Words.{Call, Call_where, Literal, Unary, Binary, map_reads, form_of, call_form, item_form, places_of}
use Rattle.having_filter.proofs.Words.{with_filter, distinct_calls, written_of_parts, checked_of, aggregate_of, unary_of, binary_of}
use Rattle.having_filter.proofs.Words.{condition_by, row_condition, place_in, source_of_form, group_condition, PlansFor, source_of}
use Rattle.having_filter.proofs.Words.{source_leaf, by_sources}
use Rattle.query_checks.specs.declared.condition.Cond.{Cond, back-AggCall-filter}
use Rattle.query_checks.specs.declared.condition.AggCall.{AggCall}
use Rattle.packed_rows.specs.Columns as packed
use Rattle.query_checks.specs.declared.condition.Item.{Item}
use Rattle.query_checks.specs.declared.parts.Parts.{Parts}
use Rattle.query_checks.specs.Forms.{Column}
use Rattle.query_checks.specs.Sameness.{form_eq}
use Rattle.having_filter.specs.declared.plan.Plan.{Plan}
use Rattle.having_filter.specs.declared.plan.Source.TheVariants as source
use Rattle.having_filter.specs.declared.plan.Source.{Source}
use Rattle.having_filter.proofs.ValueLaws.{met_in_steps}

-- the column and the FILTER of the aggregate that a call names
pub column_of_call : (function : Function) (column : Option ℕ) (filter : Option (Cond ℕ))
    → (aggregate_of (with_filter function column (back-AggCall-filter ℕ filter))).column ≡ column
column_of_call function column None = refl
column_of_call function column (Some filter) = refl

pub filter_of_call : (function : Function) (column : Option ℕ) (filter : Option (Cond ℕ))
    → (aggregate_of (with_filter function column (back-AggCall-filter ℕ filter))).filter
    ≡ option_map row_condition (option_map form_of filter)
filter_of_call function column None = refl
filter_of_call function column (Some filter) = refl

function_of_call : (function : Function) (column : Option ℕ) (filter : Option (Cond ℕ))
    → (aggregate_of (with_filter function column (back-AggCall-filter ℕ filter))).function ≡ function
function_of_call function column None = refl
function_of_call function column (Some filter) = refl

-- the aggregate at the place of a call
pub aggregate_at : (calls : List (AggCall ℕ)) (forms : List (Form ℕ)) (i : ℕ) (call : AggCall ℕ) → map call_form calls ≡ forms
    → i < length (map aggregate_of forms) → call ≡ get_or calls i call
    → slice_get (map aggregate_of forms) i ≡ Some (aggregate_of (call_form call))
aggregate_at calls forms i call e i<n here =
    let at = slice_get_read calls (length calls) i call refl (subst (λ n. i < n) (length-map forms aggregate_of ∙ ap length (sym e)
    ∙ length-map calls call_form) i<n) here in
    ap (λ fs. slice_get (map aggregate_of fs) i) (sym e) ∙ slice_get-map aggregate_of (map call_form calls) i
    ∙ ap (λ found. option_map aggregate_of found) (slice_get-map call_form calls i ∙ ap (λ found. option_map call_form found) at)

-- HAVING, read in two steps
pub having_in_steps : (value : query.Source → Outcome) (having : Option (Cond Source))
    → is_met (λ x. value_of value (source_leaf x)) (option_map (λ c. condition_by At (form_of c)) having)
    ≡ is_met value (option_map by_sources having)
having_in_steps value None = refl
having_in_steps value (Some c) = met_in_steps value source_leaf (Some c)

-- a condition whose columns and calls are found
pub found_condition : (keys : List ℕ) (calls : List (Form ℕ)) (x : Form ℕ)
    → condition_by source_leaf (map_reads (λ c. source.Key (place_in ◌==◌ keys c))
    (λ call. Some (source.Call (place_in (form_eq ◌==◌) calls call))) x) ≡ group_condition keys calls x
found_condition keys calls (Column c) = refl
found_condition keys calls (Call function column) = refl
found_condition keys calls (Call_where function column filter) = refl
found_condition keys calls (Literal x) = refl
found_condition keys calls (Unary operator x) = ap (unary_of operator) (found_condition keys calls x)
found_condition keys calls (Binary operator x y) = λ i. binary_of operator (found_condition keys calls x i) (found_condition keys calls y i)

pub found_clause : (keys : List ℕ) (calls : List (Form ℕ)) (found : Option (Cond Source)) (clause : Option (Form ℕ))
    → option_map form_of found
    ≡ option_map (map_reads (λ c. source.Key (place_in ◌==◌ keys c)) (λ call. Some (source.Call (place_in (form_eq ◌==◌) calls call))))
    clause
    → option_map by_sources found ≡ option_map (group_condition keys calls) clause
found_clause keys calls None None e = refl
found_clause keys calls None (Some x) e = absurd cc
found_clause keys calls (Some c) None e = absurd cc
found_clause keys calls (Some c) (Some x) e =
    ap (λ (o : Option (Form Source)). option_map (condition_by source_leaf) o) e ∙ ap (λ y. Some y) (found_condition keys calls x)

-- the functions of calls, and the sources of items
functions_of_calls : (calls : List (AggCall ℕ)) → map (λ (call : AggCall ℕ). function_of call.kind) calls
    ≡ map (λ (a : Aggregate). a.function) (map aggregate_of (map call_form calls))
functions_of_calls [] = refl
functions_of_calls (call ∷ calls) = λ i. sym (function_of_call (function_of call.kind) call.column call.filter) i
    ∷ functions_of_calls calls i

sources_of_places : (keys : List ℕ) (calls : List (Form ℕ)) (items : List (Item ℕ × Option (String Global)))
    → map (λ (item : Item ℕ × Option (String Global)). source_of_form keys calls (item_form item.0)) items
    ≡ map (λ (item : Form ℕ × Option (List ℕ)). source_of_form keys calls item.0) (places_of items)
sources_of_places keys calls [] = refl
sources_of_places keys calls (item ∷ items) = ap (λ (sources : List query.Source). source_of_form keys calls (item_form item.0) ∷ sources)
    (sources_of_places keys calls items)

-- what was worked out step by step is a query's
pub plans : (columns : List packed.Column) (parts : Parts) (plan : Plan)
    → map call_form plan.calls.items ≡ distinct_calls ◌==◌ (written_of_parts parts)
    → map function_of plan.kinds.items ≡ map (λ (call : AggCall ℕ). function_of call.kind) plan.calls.items
    → kinds_of plan.key_kinds.items ≡ map (λ at. get_or (kinds columns) at Bigint_kind) parts.keys.items
    → map source_of plan.items.items
    ≡ map (λ (item : Item ℕ × Option (String Global)). source_of_form parts.keys.items (map call_form plan.calls.items)
    (item_form item.0)) parts.items.items
    → option_map by_sources plan.having ≡ option_map (group_condition parts.keys.items (map call_form plan.calls.items))
    (option_map form_of parts.having)
    → PlansFor (checked_of columns parts) plan
plans columns parts plan calls functions key_kinds sources having_read =
    record {
      calls = calls;
      kinds = functions ∙ functions_of_calls plan.calls.items
          ∙ ap (λ (cs : List (Form ℕ)). map (λ (a : Aggregate). a.function) (map aggregate_of cs)) calls;
      key_kinds = key_kinds;
      items = sources ∙ sources_of_places parts.keys.items (map call_form plan.calls.items) parts.items.items
          ∙ ap (λ (cs : List (Form ℕ)). map (λ (item : Form ℕ × Option (List ℕ)). source_of_form parts.keys.items cs item.0)
          (places_of parts.items.items)) calls;
      having = having_read ∙ ap (λ (cs : List (Form ℕ)). option_map (group_condition parts.keys.items cs) (option_map form_of parts.having))
          calls;
    }
