-- When two conditions or calls are the same, and the distinct members of a list. All of this is our own.
use Rattle.std.specs.Prelude.{◌==◌, ◌&&◌, Bool, true, false, if◌then◌else◌, List, [], ◌∷◌, ◌++◌, Option, Some, None}
use Rattle.std.proofs.Math.Bool.{beq}
use Rattle.std.specs.List.{list_any}
use Rattle.std.specs.Ordering.{int_eq}
use Rattle.std.specs.Str.{bytes_eq}
use Rattle.grouping_model.specs.Datum as datum
use Rattle.grouping_model.specs.Datum.{Datum}
use Rattle.agg_protocol.specs.Signatures.{function_eq}
use Rattle.query_checks.specs.Operators.{comparison_number, test_number}
use Rattle.query_checks.specs.Forms.{Unary_operator, Negation, Testing, Binary_operator, Conjunction, Disjunction, Comparing, Form, Column}
use Rattle.query_checks.specs.Forms.{Call, Call_where, Literal, Unary, Binary}

-- whether two operators are the same
abbrev pub unary_eq : Unary_operator → Unary_operator → Bool
unary_eq Negation Negation = true
unary_eq (Testing a negated) (Testing b also) = test_number a == test_number b && beq negated also
unary_eq a b = false

abbrev pub binary_eq : Binary_operator → Binary_operator → Bool
binary_eq Conjunction Conjunction = true
binary_eq Disjunction Disjunction = true
binary_eq (Comparing a) (Comparing b) = comparison_number a == comparison_number b
binary_eq a b = false

-- whether two literals are the same, null being the same as itself
abbrev pub literal_eq : Datum → Datum → Bool
literal_eq datum.Null datum.Null = true
literal_eq (datum.Bigint x) (datum.Bigint y) = int_eq x y
literal_eq (datum.Boolean x) (datum.Boolean y) = beq x y
literal_eq (datum.Text x) (datum.Text y) = bytes_eq x y
literal_eq x y = false

-- whether both are there and the same, or both are not
abbrev pub option_same : {A : Type 0} → (A → A → Bool) → Option A → Option A → Bool
option_same same None None = true
option_same same (Some x) (Some y) = same x y
option_same same x y = false

-- whether two conditions are the same, part by part, given when two columns are
abbrev pub form_eq : {C : Type 0} → (C → C → Bool) → Form C → Form C → Bool
form_eq same (Column c) (Column d) = same c d
form_eq same (Call f c) (Call g d) = function_eq f g && option_same same c d
form_eq same (Call_where f c x) (Call_where g d y) = function_eq f g && (option_same same c d && form_eq same x y)
form_eq same (Literal x) (Literal y) = literal_eq x y
form_eq same (Unary a x) (Unary b y) = unary_eq a b && form_eq same x y
form_eq same (Binary a x y) (Binary b z w) = binary_eq a b && (form_eq same x z && form_eq same y w)
form_eq same x y = false

-- one more member, unless one that is the same is there
abbrev pub with_one : {A : Type 0} → (A → A → Bool) → List A → A → List A
with_one same members x = if list_any (same x) members then members else members ++ x ∷ []

-- the members of a list one after the other, each unless one that is the same is there
abbrev pub with_each : {A : Type 0} → (A → A → Bool) → List A → List A → List A
with_each same members [] = members
with_each same members (x ∷ xs) = with_each same (with_one same members x) xs

-- the distinct members of a list, by the first of each
abbrev pub first_of_each : {A : Type 0} → (A → A → Bool) → List A → List A
first_of_each same xs = with_each same [] xs
