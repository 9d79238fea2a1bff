-- What is computed from a query once, for its evaluation, and what is kept of it. All of this is our own.
use Rattle.std.specs.Prelude.{◌≡◌, ℕ, ◌==◌, List, map, option_map}
use Rattle.grouping_model.specs.Datum.{Null}
use Rattle.grouping_model.specs.Condition as model
use Rattle.grouping_model.specs.Query as query
use Rattle.agg_protocol.specs.Kinds.{function_of}
use Rattle.packed_rows.specs.Columns.{printed}
use Rattle.packed_rows.specs.View.{kinds_of}
use Rattle.query_checks.specs.declared.condition.Cond.{Cond}
use Rattle.query_checks.specs.Forms.{Form, Column, form_of, call_form}
use Rattle.query_checks.specs.Checks.{Checked}
use Rattle.query_checks.specs.Calls.{distinct_calls}
use Rattle.query_checks.specs.Spelling.{spelling}
use Rattle.having_filter.specs.declared.plan.Source.{Source}
use Rattle.having_filter.specs.declared.plan.Source.TheVariants as source
use Rattle.having_filter.specs.declared.plan.Plan.{Plan}
use Rattle.having_filter.specs.Meaning.{meaning, condition_by}
use Rattle.having_filter.specs.Kept.{IsCheckedQuery, by_names, headers}
use Rattle.grouping_model.specs.Parts.{key_kinds}

-- a key or an aggregate by its place
abbrev pub source_of : Source → query.Source
source_of (source.Key place) = query.Key place
source_of (source.Call place) = query.Call place

-- what HAVING reads once its columns and calls are found among the keys and aggregates. No calls are left in it
abbrev pub source_leaf : Form Source → model.Condition query.Source
source_leaf (Column s) = model.At (source_of s)
source_leaf other = model.Literal Null

abbrev pub by_sources : Cond Source → model.Condition query.Source
by_sources c = condition_by source_leaf (form_of c)

-- a plan is that of a query
pub record PlansFor (q : Checked) (plan : Plan) : Type 0 where
  pub calls : map call_form plan.calls.items ≡ distinct_calls ◌==◌ q.written
  pub kinds : map function_of plan.kinds.items ≡ map (λ a. a.function) (meaning q).aggregates
  pub key_kinds : kinds_of plan.key_kinds.items ≡ key_kinds (meaning q)
  pub items : map source_of plan.items.items ≡ (meaning q).items
  pub having : option_map by_sources plan.having ≡ (meaning q).having

-- what is kept of a query: its plan, its canonical text, the names of its answer's columns, and the text of its schema
pub record IsKept (q : Checked) (plan : Plan) (text : List ℕ) (labels : List (List ℕ)) (schema_text : List ℕ) : Type 0 where
  pub query : IsCheckedQuery q
  pub plans : PlansFor q plan
  pub spelled : text ≡ spelling (by_names q)
  pub labelled : labels ≡ headers q
  pub shown : schema_text ≡ printed q.columns
