-- Laws of the values of conditions, and of where their columns and calls are found.
use Rattle.std.proofs.Common.{◌≡◌, ℕ, option_map, Bool, true, false, List, [], ◌∷◌, map, Option, Some, None, refl}
use Rattle.std.specs.List.{prefix_len}
use Rattle.std.specs.Prelude.{position, not}
use Rattle.std.proofs.lemmas.List.{length-map}
use Rattle.grouping_model.specs.Datum.{Null}
use Rattle.having_filter.proofs.Words.{Function, Outcome, Unary_operator, Negation, Testing, Binary_operator, Conjunction, Disjunction}
use Rattle.having_filter.proofs.Words.{Comparing, Form, Call, Call_where, Literal, Unary, Binary, with_filter, form_of, column_leaf}
use Rattle.having_filter.proofs.Words.{unary_of, binary_of, condition_by, source_leaf}
use Rattle.grouping_model.specs.Condition as model
use Rattle.query_checks.specs.declared.condition.Cond.{Cond, back-AggCall-filter}
use Rattle.query_checks.specs.Forms.{Column}
use Rattle.having_filter.specs.declared.plan.Source.{Source}

-- a call is no column
pub call_is_no_column : (function : Function) (column : Option ℕ) (filter : Option (Cond ℕ))
    → column_leaf (with_filter function column (back-AggCall-filter ℕ filter)) ≡ model.Literal Null
call_is_no_column function column None = refl
call_is_no_column function column (Some filter) = refl

pub call_is_no_source : (function : Function) (column : Option Source) (filter : Option (Cond Source))
    → source_leaf (with_filter function column (back-AggCall-filter Source filter)) ≡ model.Literal Null
call_is_no_source function column None = refl
call_is_no_source function column (Some filter) = refl

-- a condition read in two steps: its columns and calls first as other conditions, then by their values
unary_steps : {L M : Type 0} (v : L → Outcome) (w : M → Outcome) (operator : Unary_operator) (x : model.Condition L) (y : model.Condition M)
    → model.value_of v x ≡ model.value_of w y → model.value_of v (unary_of operator x) ≡ model.value_of w (unary_of operator y)
unary_steps v w Negation x y e = rw e refl
unary_steps v w (Testing test false) x y e = rw e refl
unary_steps v w (Testing test true) x y e = rw e refl

binary_steps : {L M : Type 0} (v : L → Outcome) (w : M → Outcome) (operator : Binary_operator) (x1 x2 : model.Condition L)
    (y1 y2 : model.Condition M) → model.value_of v x1 ≡ model.value_of w y1 → model.value_of v x2 ≡ model.value_of w y2
    → model.value_of v (binary_of operator x1 x2) ≡ model.value_of w (binary_of operator y1 y2)
binary_steps v w Conjunction x1 x2 y1 y2 e f = rw (e, f) refl
binary_steps v w Disjunction x1 x2 y1 y2 e f = rw (e, f) refl
binary_steps v w (Comparing comparison) x1 x2 y1 y2 e f = rw (e, f) refl

read_in_steps : {C Leaf : Type 0} (value : Leaf → Outcome) (leaf : Form C → model.Condition Leaf) (c : Form C)
    → model.value_of value (condition_by leaf c) ≡ model.value_of (λ x. model.value_of value (leaf x)) (condition_by model.At c)
read_in_steps value leaf (Column c) = refl
read_in_steps value leaf (Call function column) = refl
read_in_steps value leaf (Call_where function column filter) = refl
read_in_steps value leaf (Literal x) = refl
read_in_steps value leaf (Unary operator c) = unary_steps value (λ x. model.value_of value (leaf x)) operator (condition_by leaf c)
    (condition_by model.At c) (read_in_steps value leaf c)
read_in_steps value leaf (Binary operator c d) =
    binary_steps value (λ x. model.value_of value (leaf x)) operator (condition_by leaf c) (condition_by leaf d) (condition_by model.At c)
    (condition_by model.At d) (read_in_steps value leaf c) (read_in_steps value leaf d)

-- whether a clause is true, read in two steps
pub met_in_steps : {C Leaf : Type 0} (value : Leaf → Outcome) (leaf : Form C → model.Condition Leaf) (clause : Option (Cond C))
    → model.is_met (λ x. model.value_of value (leaf x)) (option_map (λ c. condition_by model.At (form_of c)) clause)
    ≡ model.is_met value (option_map (condition_by leaf) (option_map form_of clause))
met_in_steps value leaf None = refl
met_in_steps value leaf (Some c) = rw (read_in_steps value leaf (form_of c)) refl

-- the place of a member in a list of images
prefix_len_mapped : {A B : Type 0} (p : B → Bool) (f : A → B) (xs : List A) → prefix_len p (map f xs) ≡ prefix_len (λ x. p (f x)) xs
prefix_len_mapped p f [] = refl
prefix_len_mapped p f (x ∷ xs) = rw (prefix_len_mapped p f xs) refl

pub position_mapped : {A B : Type 0} (p : B → Bool) (f : A → B) (xs : List A) → position p (map f xs) ≡ position (λ x. p (f x)) xs
position_mapped p f xs = rw (prefix_len_mapped (λ x. not (p x)) f xs) (rw (length-map xs f) refl)
