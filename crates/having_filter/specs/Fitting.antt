-- What a checked query's conditions read, and which kinds their operands have. So no comparison has values of two
-- kinds, and every operand of logic is a truth value or null (PostgreSQL 17, 9.1, 9.2 and 7.2.3).
use Rattle.std.specs.Prelude.{◌≡◌, ℕ, ◌<◌, ◌==◌, true, List, length, Option, Some, None}
use Rattle.std.specs.List.{list_any, AllByRecursion}
use Rattle.std.specs.Option.{ForSome}
use Rattle.grouping_model.specs.Datum.{Kind, Boolean_kind}
use Rattle.grouping_model.specs.Condition.{Is_null}
use Rattle.packed_rows.specs.Columns.{kinds}
use Rattle.query_checks.specs.Forms.{Unary_operator, Testing, Binary_operator, Comparing, Form, Column, Literal, Unary, Binary}
use Rattle.query_checks.specs.Reads.{reads, filter_of}
use Rattle.query_checks.specs.Sameness.{form_eq}
use Rattle.query_checks.specs.Checks.{Checked, kind_of_form}
use Rattle.query_checks.specs.Calls.{distinct_calls}

-- two operands of one kind, or null on a side, which is of every kind
abbrev pub OfOneKind : Option Kind → Option Kind → Type 0
OfOneKind None right = Unit {0}
OfOneKind left None = Unit {0}
OfOneKind (Some left) (Some right) = left ≡ right

-- a truth value or null
abbrev pub IsTruth : Option Kind → Type 0
IsTruth kind = OfOneKind kind (Some Boolean_kind)

-- the operands that operators take: IS NULL takes any, a comparison two of one kind, and all others take truth values
abbrev pub TakesOne : Unary_operator → Option Kind → Type 0
TakesOne (Testing Is_null negated) kind = Unit {0}
TakesOne operator kind = IsTruth kind

abbrev pub TakesTwo : Binary_operator → Option Kind → Option Kind → Type 0
TakesTwo (Comparing comparison) left right = OfOneKind left right
TakesTwo operator left right = IsTruth left × IsTruth right

-- all that a condition reads may be read there, and each operator in it takes its operands
abbrev pub OperandsFit : (Form ℕ → Type 0) → List Kind → Form ℕ → Type 0
OperandsFit IsRead kinds (Literal value) = Unit {0}
OperandsFit IsRead kinds (Unary operator x) = OperandsFit IsRead kinds x × TakesOne operator (kind_of_form kinds x)
OperandsFit IsRead kinds (Binary operator x y) = OperandsFit IsRead kinds x × OperandsFit IsRead kinds y
    × TakesTwo operator (kind_of_form kinds x) (kind_of_form kinds y)
OperandsFit IsRead kinds leaf = IsRead leaf

-- a whole condition is a truth value or null too
pub record Fits (IsRead : Form ℕ → Type 0) (kinds : List Kind) (c : Form ℕ) : Type 0 where
  pub operands : OperandsFit IsRead kinds c
  pub truth : IsTruth (kind_of_form kinds c)

-- what WHERE and FILTER may read: columns of the table
abbrev pub IsOfRow : List Kind → Form ℕ → Type 0
IsOfRow kinds (Column place) = place < length kinds
IsOfRow kinds other = ⊥

-- what HAVING and the items may read: columns of GROUP BY, and aggregates of the query
abbrev pub IsOfGroup : Checked → Form ℕ → Type 0
IsOfGroup q (Column place) = list_any (λ key. key == place) q.written.keys ≡ true
IsOfGroup q call = list_any (form_eq ◌==◌ call) (distinct_calls ◌==◌ q.written) ≡ true

pub record HasFittingConditions (q : Checked) : Type 0 where
  pub condition : ForSome q.written.condition (Fits (IsOfRow (kinds q.columns)) (kinds q.columns))
  pub filters : AllByRecursion (λ call. ForSome (filter_of call) (Fits (IsOfRow (kinds q.columns)) (kinds q.columns)))
      (distinct_calls ◌==◌ q.written)
  pub having : ForSome q.written.having (Fits (IsOfGroup q) (kinds q.columns))
  pub items : AllByRecursion (λ item. AllByRecursion (IsOfGroup q) (reads item.0)) q.written.items
