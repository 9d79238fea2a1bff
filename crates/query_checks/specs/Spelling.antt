-- The canonical spelling of conditions and queries (own; the words are SQL's: PostgreSQL 17, SELECT).
use Rattle.std.specs.Prelude.{ℕ, ◌+◌, pos, nat_lt, Bool, true, false, if◌then◌else◌, List, [], ◌∷◌, ◌++◌, map, codes, Option, Some, None}
use Rattle.std.specs.Str.{bytes_eq}
use Rattle.query_tokens.specs.Words.{Integer}
use Rattle.query_tokens.specs.Words as words
use Rattle.query_tokens.specs.Spelling.{spell}
use Rattle.grouping_model.specs.Datum.{Datum, Null, Bigint, Boolean, Text}
use Rattle.grouping_model.specs.Aggregates.{Function}
pub use Rattle.agg_protocol.specs.Signatures.{Argument, Each_row, Any_value, Values_of, Signature, signature, functions, is_value, is_named}
unfoldable pub use Rattle.agg_protocol.specs.Signatures.{function_named}
use Rattle.query_checks.specs.Forms.{Unary_operator, Negation, Testing, Binary_operator, Conjunction, Disjunction, Comparing, Form, Column}
use Rattle.query_checks.specs.Forms.{Call, Call_where, Literal, Unary, Binary, Written}
use Rattle.query_checks.specs.declared.levels.TheConstants as levels
use Rattle.query_checks.specs.Operators.{comparison_text, test_text}
use Rattle.query_checks.specs.Parted.{parted}
pub use Rattle.query_checks.specs.Labels.{function_name, own_name, kept_alias, label_of}
use Rattle.query_checks.specs.Order.{Asked}
use Rattle.query_checks.specs.Arrangement.{arrangement_of, canonical_arrangement, arrangement_text}
use Rattle.query_checks.specs.Sameness.{first_of_each}

-- an operator between its operands, and IS after its operand
abbrev pub operator_text : Binary_operator → List ℕ
operator_text Conjunction = codes " AND "
operator_text Disjunction = codes " OR "
operator_text (Comparing comparison) = comparison_text comparison

abbrev pub is_text : Bool → List ℕ
is_text false = codes " IS "
is_text true = codes " IS NOT "

abbrev pub literal_text : Datum → List ℕ
literal_text Null = codes "NULL"
literal_text (Bigint z) = spell (Integer z)
literal_text (Boolean true) = codes "TRUE"
literal_text (Boolean false) = codes "FALSE"
literal_text (Text text) = spell (words.Text text)

-- a call without its FILTER
abbrev pub call_text : Function → Option (List ℕ) → List ℕ
call_text function None = function_name function ++ codes "(*)"
call_text function (Some name) = function_name function ++ codes "(" ++ name ++ codes ")"

-- how tightly a condition binds: OR least tightly, and an operand most tightly (PostgreSQL 17, 4.1.6; that IS and
-- comparisons differ is our own)
abbrev pub binary_level : Binary_operator → ℕ
binary_level Disjunction = levels.OR
binary_level Conjunction = levels.AND
binary_level (Comparing comparison) = levels.COMPARISON

abbrev pub unary_level : Unary_operator → ℕ
unary_level Negation = levels.NOT
unary_level (Testing test negated) = levels.IS

abbrev pub level : {C : Type 0} → Form C → ℕ
level (Unary operator x) = unary_level operator
level (Binary operator x y) = binary_level operator
level other = levels.OPERAND

-- how tightly the operands of an operator must bind to stand without parentheses, the left one and the right one. AND and OR group to the
-- left. A comparison takes nothing on its left that binds as it does, and on its right no operator at all
abbrev pub left_level : Binary_operator → ℕ
left_level (Comparing comparison) = binary_level (Comparing comparison) + 1
left_level operator = binary_level operator

abbrev pub right_level : Binary_operator → ℕ
right_level (Comparing comparison) = levels.OPERAND
right_level operator = binary_level operator + 1

-- an operand: in parentheses where it binds less tightly than its place asks
abbrev pub operand : {C : Type 0} → ℕ → Form C → List ℕ → List ℕ
operand asked c text = if nat_lt (level c) asked then codes "(" ++ text ++ codes ")" else text

-- a condition
abbrev pub unary_text : Unary_operator → List ℕ → List ℕ
unary_text Negation operand = codes "NOT " ++ operand
unary_text (Testing test negated) operand = operand ++ is_text negated ++ test_text test

abbrev pub spelled : Form (List ℕ) → List ℕ
spelled (Column name) = name
spelled (Call function column) = call_text function column
spelled (Call_where function column filter) = call_text function column ++ codes " FILTER (WHERE " ++ spelled filter ++ codes ")"
spelled (Literal value) = literal_text value
spelled (Unary operator x) = unary_text operator (operand (unary_level operator) x (spelled x))
spelled (Binary operator x y) = operand (left_level operator) x (spelled x) ++ operator_text operator
    ++ operand (right_level operator) y (spelled y)

-- the query that its canonical text says: each column of GROUP BY once, no alias that is the item's own name, and what remains of the
-- clauses after HAVING (own)
abbrev pub canonical_item : Form (List ℕ) × Option (List ℕ) → Form (List ℕ) × Option (List ℕ)
canonical_item item = (item.0, kept_alias (own_name item.0) item.1)

abbrev pub canonical_written : Written (List ℕ) → Written (List ℕ)
canonical_written q = record {
  items = map canonical_item q.items;
  condition = q.condition;
  keys = first_of_each bytes_eq q.keys;
  having =
      q.having;
}

abbrev pub canonical : Asked → Asked
canonical q = record { written = canonical_written q.written; arrangement = canonical_arrangement (arrangement_of q) }

abbrev pub alias_text : Option (List ℕ) → List ℕ
alias_text None = []
alias_text (Some alias) = codes " AS " ++ alias

abbrev pub item_text : Form (List ℕ) × Option (List ℕ) → List ℕ
item_text item = spelled item.0 ++ alias_text (kept_alias (own_name item.0) item.1)

-- a condition after a key word
abbrev pub clause_text : List ℕ → Option (Form (List ℕ)) → List ℕ
clause_text word None = []
clause_text word (Some c) = word ++ spelled c

abbrev pub keys_text : List (List ℕ) → List ℕ
keys_text [] = []
keys_text (name ∷ names) = codes " GROUP BY " ++ parted (name ∷ names)

-- a query up to its HAVING
abbrev pub written_text : Written (List ℕ) → List ℕ
written_text q =
    codes "SELECT " ++ parted (map item_text q.items) ++ codes " FROM batches" ++ clause_text (codes " WHERE ") q.condition
    ++ keys_text (first_of_each bytes_eq q.keys) ++ clause_text (codes " HAVING ") q.having

-- a query. A term of ORDER BY that is refused, or orders by nothing more, is dropped
abbrev pub spelling : Asked → List ℕ
spelling q = written_text q.written ++ arrangement_text (arrangement_of q)
