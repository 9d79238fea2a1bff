-- Laws of the sameness of conditions; nothing here is a definition.
use Rattle.std.proofs.Common.{◌≡◌, ◌&&◌, ◌==◌, ℕ, Bool, true, List, Option, Some, None, option_map, refl, ap, sym, ◌∙◌}
use Rattle.std.specs.Option.{option_map_or}
use Rattle.std.specs.Str.{bytes_eq}
use Rattle.std.specs.Cmp.{booleans_Decides}
use Rattle.std.proofs.Math.Bool.{beq}
use Rattle.std.proofs.lemmas.Bool.{and_parts, eqb-true, false≢true}
use Rattle.std.proofs.lemmas.Bool.Decides.{Decides-int_eq}
use Rattle.std.proofs.lemmas.Slice.Eq.{bytes_eq-Decides}
use Rattle.grouping_model.specs.Datum as datum
use Rattle.grouping_model.specs.Datum.{Datum}
use Rattle.grouping_model.specs.Aggregates.{Function}
use Rattle.agg_protocol.specs.Signatures.{function_eq, function_number, function_at, function_at_back}
use Rattle.query_checks.specs.Forms.{Unary_operator, Negation, Testing, Binary_operator, Conjunction, Disjunction, Comparing, Form, Column}
use Rattle.query_checks.specs.Forms.{Call, Call_where, Literal, Unary, Binary, map_form}
use Rattle.query_checks.specs.Reads.{columns_pass}
use Rattle.query_checks.specs.Sameness.{form_eq, option_same, unary_eq, binary_eq, literal_eq}
use Rattle.query_checks.specs.Operators.{test_number, test_at, test_at_back, comparison_number, comparison_at, comparison_at_back}
use Rattle.query_checks.specs.DistinctLaws.{Agrees}

-- columns that are there or not, over other columns
column_image : {C D : Type 0} (P : C → Bool) (f : C → D) (after : D → D → Bool) (before : C → C → Bool)
    → Agrees (λ c. P c ≡ true) f after before → (c d : Option C) → option_map_or P c true ≡ true → option_map_or P d true ≡ true
    → option_same after (option_map f c) (option_map f d) ≡ option_same before c d
column_image P f after before same (Some c) (Some d) p q = same.agree c d p q
column_image P f after before same None None p q = refl
column_image P f after before same c d p q = refl

-- conditions over other columns are the same where the conditions are
pub form_image : {C D : Type 0} (P : C → Bool) (f : C → D) (after : D → D → Bool) (before : C → C → Bool)
    → Agrees (λ c. P c ≡ true) f after before → (x y : Form C) → columns_pass P x ≡ true → columns_pass P y ≡ true
    → form_eq after (map_form f x) (map_form f y) ≡ form_eq before x y
form_image P h after before same (Column a) (Column b) p q = same.agree a b p q
form_image P h after before same (Call f a) (Call g b) p q = ap (λ e. function_eq f g && e) (column_image P h after before same a b p q)
form_image P h after before same (Call_where f a x) (Call_where g b y) p q =
    let ps = and_parts (option_map_or P a true) (columns_pass P x) p in
    let qs = and_parts (option_map_or P b true) (columns_pass P y) q in
    λ i. function_eq f g && (column_image P h after before same a b ps.0 qs.0 i && form_image P h after before same x y ps.1 qs.1 i)
form_image P h after before same (Literal u) (Literal v) p q = refl
form_image P h after before same (Unary o x) (Unary n y) p q = ap (λ e. unary_eq o n && e) (form_image P h after before same x y p q)
form_image P h after before same (Binary o x y) (Binary n z w) p q =
    let ps = and_parts (columns_pass P x) (columns_pass P y) p in
    let qs = and_parts (columns_pass P z) (columns_pass P w) q in
    λ i. binary_eq o n && (form_image P h after before same x z ps.0 qs.0 i && form_image P h after before same y w ps.1 qs.1 i)
form_image P h after before same x y p q = refl

-- ---- conditions that are the same are one condition

unary_one : (a b : Unary_operator) → unary_eq a b ≡ true → a ≡ b
unary_one Negation Negation e = refl
unary_one (Testing a negated) (Testing b also) e =
    let parts = and_parts (test_number a == test_number b) (beq negated also) e in
    λ i. Testing ((sym (test_at_back a) ∙ ap test_at (eqb-true (test_number a) (test_number b) parts.0) ∙ test_at_back b) i)
    ((booleans_Decides negated also).0 parts.1 i)
unary_one a b e = absurd (false≢true e)

binary_one : (a b : Binary_operator) → binary_eq a b ≡ true → a ≡ b
binary_one Conjunction Conjunction e = refl
binary_one Disjunction Disjunction e = refl
binary_one (Comparing a) (Comparing b) e = ap Comparing (sym (comparison_at_back a)
    ∙ ap comparison_at (eqb-true (comparison_number a) (comparison_number b) e) ∙ comparison_at_back b)
binary_one a b e = absurd (false≢true e)

literal_one : (x y : Datum) → literal_eq x y ≡ true → x ≡ y
literal_one datum.Null datum.Null e = refl
literal_one (datum.Bigint x) (datum.Bigint y) e = ap datum.Bigint ((Decides-int_eq x y).0 e)
literal_one (datum.Boolean x) (datum.Boolean y) e = ap datum.Boolean ((booleans_Decides x y).0 e)
literal_one (datum.Text x) (datum.Text y) e = ap datum.Text ((bytes_eq-Decides x y).0 e)
literal_one x y e = absurd (false≢true e)

function_one : (f g : Function) → function_eq f g ≡ true → f ≡ g
function_one f g e = sym (function_at_back f) ∙ ap function_at (eqb-true (function_number f) (function_number g) e) ∙ function_at_back g

column_one : (c d : Option (List ℕ)) → option_same bytes_eq c d ≡ true → c ≡ d
column_one None None e = refl
column_one (Some c) (Some d) e = ap (λ x. Some x) ((bytes_eq-Decides c d).0 e)
column_one c d e = absurd (false≢true e)

pub form_one : (x y : Form (List ℕ)) → form_eq bytes_eq x y ≡ true → x ≡ y
form_one (Column c) (Column d) e = ap Column ((bytes_eq-Decides c d).0 e)
form_one (Call f c) (Call g d) e =
    let parts = and_parts (function_eq f g) (option_same bytes_eq c d) e in
    λ i. Call (function_one f g parts.0 i) (column_one c d parts.1 i)
form_one (Call_where f c x) (Call_where g d y) e =
    let parts = and_parts (function_eq f g) (option_same bytes_eq c d && form_eq bytes_eq x y) e in
    let behind = and_parts (option_same bytes_eq c d) (form_eq bytes_eq x y) parts.1 in
    λ i. Call_where (function_one f g parts.0 i) (column_one c d behind.0 i) (form_one x y behind.1 i)
form_one (Literal u) (Literal v) e = ap Literal (literal_one u v e)
form_one (Unary o x) (Unary n y) e =
    let parts = and_parts (unary_eq o n) (form_eq bytes_eq x y) e in
    λ i. Unary (unary_one o n parts.0 i) (form_one x y parts.1 i)
form_one (Binary o x y) (Binary n z w) e =
    let parts = and_parts (binary_eq o n) (form_eq bytes_eq x z && form_eq bytes_eq y w) e in
    let behind = and_parts (form_eq bytes_eq x z) (form_eq bytes_eq y w) parts.1 in
    λ i. Binary (binary_one o n parts.0 i) (form_one x z behind.0 i) (form_one y w behind.1 i)
form_one x y e = absurd (false≢true e)
