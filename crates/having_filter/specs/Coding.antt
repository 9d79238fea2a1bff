-- Conditions as trees of numbers, which tell them apart. All of this is our own.
use Rattle.std.specs.Prelude.{ℕ, zero, suc, ◌≡◌, pos, negsuc, Bool, true, false, List, [], ◌∷◌, map, Option, Some, None}
use mathlib.Core.Path.{refl, ap}
use base.Stored.{Gv, gnil, gnum, gcons, Coded}
use denote.Struct.Codes.{itself}
use Rattle.std.specs.Coded.{code_by, coded×, coded_list, coded_option, coded_ℕ, coded_bool}
use Rattle.grouping_model.specs.Datum as datum
use Rattle.grouping_model.specs.Datum.{Datum, Kind, Bigint_kind, Boolean_kind, Text_kind}
use Rattle.packed_rows.specs.Columns as packed
use Rattle.grouping_model.specs.Condition as model
use Rattle.grouping_model.specs.Order.{Arrangement}
use Rattle.agg_protocol.specs.Signatures.{function_number, function_at, function_at_back}
use Rattle.query_checks.specs.Forms.{Unary_operator, Negation, Testing, Binary_operator, Conjunction, Disjunction, Comparing, Form, Column}
use Rattle.query_checks.specs.Forms.{Call, Call_where, Literal, Unary, Binary, Written}
use Rattle.query_checks.specs.declared.order.OrderTerm.{OrderTerm}
use Rattle.query_checks.specs.Checks.{kind_number, Checked}
use Rattle.query_checks.specs.Operators.{comparison_number, comparison_at, comparison_at_back, test_number, test_at, test_at_back}

-- trees of lists, values and columns, and back
abbrev pub tree_of_bytes : List ℕ → Gv
tree_of_bytes [] = gnil
tree_of_bytes (b ∷ bytes) = gcons (gnum b) (tree_of_bytes bytes)

abbrev pub bytes_at : Gv → List ℕ
bytes_at (gcons (gnum b) rest) = b ∷ bytes_at rest
bytes_at other = []

pub bytes_back : (bytes : List ℕ) → bytes_at (tree_of_bytes bytes) ≡ bytes
bytes_back [] = refl
bytes_back (b ∷ bytes) = ap (λ rest. b ∷ rest) (bytes_back bytes)

abbrev pub tree_of_datum : Datum → Gv
tree_of_datum datum.Null = gnil
tree_of_datum (datum.Bigint (pos n)) = gcons (gnum zero) (gnum n)
tree_of_datum (datum.Bigint (negsuc n)) = gcons (gnum (suc zero)) (gnum n)
tree_of_datum (datum.Boolean true) = gnum zero
tree_of_datum (datum.Boolean false) = gnum (suc zero)
tree_of_datum (datum.Text text) = gcons gnil (tree_of_bytes text)

abbrev pub datum_at : Gv → Datum
datum_at gnil = datum.Null
datum_at (gnum zero) = datum.Boolean true
datum_at (gnum (suc n)) = datum.Boolean false
datum_at (gcons (gnum zero) (gnum n)) = datum.Bigint (pos n)
datum_at (gcons (gnum (suc m)) (gnum n)) = datum.Bigint (negsuc n)
datum_at (gcons gnil text) = datum.Text (bytes_at text)
datum_at other = datum.Null

pub datum_back : (x : Datum) → datum_at (tree_of_datum x) ≡ x
datum_back datum.Null = refl
datum_back (datum.Bigint (pos n)) = refl
datum_back (datum.Bigint (negsuc n)) = refl
datum_back (datum.Boolean true) = refl
datum_back (datum.Boolean false) = refl
datum_back (datum.Text text) = ap datum.Text (bytes_back text)

abbrev pub tree_of_column : Option ℕ → Gv
tree_of_column None = gnil
tree_of_column (Some n) = gnum n

abbrev pub column_at : Gv → Option ℕ
column_at (gnum n) = Some n
column_at other = None

pub column_back : (x : Option ℕ) → column_at (tree_of_column x) ≡ x
column_back None = refl
column_back (Some n) = refl

-- numbers of operators, and back
abbrev pub unary_number : Unary_operator → ℕ
unary_number Negation = 0
unary_number (Testing test false) = suc (test_number test)
unary_number (Testing test true) = suc (suc (suc (suc (suc (test_number test)))))

abbrev pub unary_at : ℕ → Unary_operator
unary_at zero = Negation
unary_at (suc zero) = Testing model.Is_null false
unary_at (suc (suc zero)) = Testing model.Is_true false
unary_at (suc (suc (suc zero))) = Testing model.Is_false false
unary_at (suc (suc (suc (suc zero)))) = Testing model.Is_unknown false
unary_at (suc (suc (suc (suc (suc n))))) = Testing (test_at n) true

pub unary_back : (x : Unary_operator) → unary_at (unary_number x) ≡ x
unary_back Negation = refl
unary_back (Testing model.Is_null false) = refl
unary_back (Testing model.Is_true false) = refl
unary_back (Testing model.Is_false false) = refl
unary_back (Testing model.Is_unknown false) = refl
unary_back (Testing test true) = ap (λ t. Testing t true) (test_at_back test)

abbrev pub binary_number : Binary_operator → ℕ
binary_number Conjunction = 0
binary_number Disjunction = 1
binary_number (Comparing comparison) = suc (suc (comparison_number comparison))

abbrev pub binary_at : ℕ → Binary_operator
binary_at zero = Conjunction
binary_at (suc zero) = Disjunction
binary_at (suc (suc n)) = Comparing (comparison_at n)

pub binary_back : (x : Binary_operator) → binary_at (binary_number x) ≡ x
binary_back Conjunction = refl
binary_back Disjunction = refl
binary_back (Comparing comparison) = ap Comparing (comparison_at_back comparison)

-- the tree of a condition, and back
abbrev pub tree_of : Form ℕ → Gv
tree_of (Column n) = gnum n
tree_of (Literal x) = gcons gnil (tree_of_datum x)
tree_of (Call f c) = gcons (gnum zero) (gcons (gnum (function_number f)) (tree_of_column c))
tree_of (Call_where f c x) = gcons (gnum (suc zero)) (gcons (gcons (gnum (function_number f)) (tree_of_column c)) (tree_of x))
tree_of (Unary operator x) = gcons (gnum (suc (suc zero))) (gcons (gnum (unary_number operator)) (tree_of x))
tree_of (Binary operator x y) = gcons (gnum (suc (suc (suc zero)))) (gcons (gnum (binary_number operator)) (gcons (tree_of x) (tree_of y)))

abbrev pub form_at : Gv → Form ℕ
form_at (gnum n) = Column n
form_at (gcons gnil x) = Literal (datum_at x)
form_at (gcons (gnum zero) (gcons (gnum f) c)) = Call (function_at f) (column_at c)
form_at (gcons (gnum (suc zero)) (gcons (gcons (gnum f) c) x)) = Call_where (function_at f) (column_at c) (form_at x)
form_at (gcons (gnum (suc (suc zero))) (gcons (gnum operator) x)) = Unary (unary_at operator) (form_at x)
form_at (gcons (gnum (suc (suc (suc zero)))) (gcons (gnum operator) (gcons x y))) = Binary (binary_at operator) (form_at x) (form_at y)
form_at other = Column 0

pub form_back : (x : Form ℕ) → form_at (tree_of x) ≡ x
form_back (Column n) = refl
form_back (Literal x) = ap Literal (datum_back x)
form_back (Call f c) = λ i. Call (function_at_back f i) (column_back c i)
form_back (Call_where f c x) = λ i. Call_where (function_at_back f i) (column_back c i) (form_back x i)
form_back (Unary operator x) = λ i. Unary (unary_back operator i) (form_back x i)
form_back (Binary operator x y) = λ i. Binary (binary_back operator i) (form_back x i) (form_back y i)

-- a kind by its number, and the columns of a table by names and kinds
abbrev pub kind_of_number : ℕ → Kind
kind_of_number zero = Bigint_kind
kind_of_number (suc zero) = Boolean_kind
kind_of_number n = Text_kind

pub kind_back : (x : Kind) → kind_of_number (kind_number x) ≡ x
kind_back Bigint_kind = refl
kind_back Boolean_kind = refl
kind_back Text_kind = refl

pub columns_back : (xs : List packed.Column) → map (λ (c : List ℕ × Kind). record { name = c.0; kind = c.1 })
    (map (λ (c : packed.Column). (c.name, c.kind)) xs) ≡ xs
columns_back [] = refl
columns_back (x ∷ xs) = ap (λ rest. x ∷ rest) (columns_back xs)

-- a condition is told apart by its tree
abbrev pub coded_form : Coded (Form ℕ)
coded_form = code_by Gv itself tree_of form_at form_back

-- a query over places by its parts; a term by its own; the arrangement by its clauses; and a checked query by its
-- columns beside all that
abbrev pub coded_written : Coded (Written ℕ)
coded_written =
    code_by (List (Form ℕ × Option (List ℕ)) × (Option (Form ℕ) × (List ℕ × Option (Form ℕ))))
    (coded× (coded_list (coded× coded_form (coded_option (coded_list coded_ℕ))))
    (coded× (coded_option coded_form) (coded× (coded_list coded_ℕ) (coded_option coded_form))))
    (λ q. (q.items, (q.condition, (q.keys, q.having)))) (λ p. record { items = p.0; condition = p.1.0; keys = p.1.1.0; having = p.1.1.1 })
    (λ _. refl)

abbrev pub coded_kind : Coded Kind
coded_kind = code_by ℕ coded_ℕ kind_number kind_of_number kind_back

abbrev pub coded_term : Coded OrderTerm
coded_term =
    code_by (ℕ × (Bool × Bool)) (coded× coded_ℕ (coded× coded_bool coded_bool))
    (λ t. (t.item, (t.descending, t.nulls_first))) (λ p. record { item = p.0; descending = p.1.0; nulls_first = p.1.1 }) (λ _. refl)

abbrev pub coded_arrangement : Coded (Arrangement OrderTerm)
coded_arrangement = code_by (List OrderTerm) (coded_list coded_term) (λ a. a.order) (λ terms. record { order = terms }) (λ _. refl)

abbrev pub coded_checked : Coded Checked
coded_checked =
    code_by (List (List ℕ × Kind) × (Written ℕ × Arrangement OrderTerm)) (coded× (coded_list (coded× (coded_list coded_ℕ) coded_kind))
    (coded× coded_written coded_arrangement))
    (λ q. (map (λ c. (c.name, c.kind)) q.columns, (q.written, q.arrangement)))
    (λ p. record { columns = map (λ c. record { name = c.0; kind = c.1 }) p.0; written = p.1.0; arrangement = p.1.1 })
    (λ q i. record { columns = columns_back q.columns i; written = q.written; arrangement = q.arrangement })
