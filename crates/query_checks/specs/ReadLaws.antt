-- Laws of what conditions read; what is defined here, laws alone say.
use Rattle.std.proofs.Common.{◌≡◌, ◌&&◌, Bool, true, ◌++◌, map, filter, refl, ap, sym, ◌∙◌, subst}
use Rattle.std.specs.List.{list_all, AllByRecursion}
use Rattle.std.proofs.lemmas.Bool.{and_parts}
use Rattle.std.proofs.lemmas.List.{map-append}
use Rattle.std.proofs.lemmas.List.Elements.{filter-append}
use Rattle.std.proofs.lemmas.List.Folds.{list_all-append}
use Rattle.list_laws.specs.Each.{each_append}
use Rattle.query_checks.specs.Forms.{Form, Column, Call, Call_where, Literal, Unary, Binary, map_form}
use Rattle.query_checks.specs.Reads.{reads, is_call, calls_in, columns_pass}

-- what two operands read, and which of it are calls
pub both_pass : {C : Type 0} (P : Form C → Bool) (x y : Form C) → list_all P (reads x ++ reads y)
    ≡ (list_all P (reads x) && list_all P (reads y))
both_pass P x y = list_all-append P (reads x) (reads y)

pub calls_in_two : {C : Type 0} (x y : Form C) → filter is_call (reads x ++ reads y) ≡ calls_in x ++ calls_in y
calls_in_two x y = filter-append is_call (reads x) (reads y)

-- the calls in a condition over other columns
pub calls_mapped : {B C : Type 0} (f : B → C) (x : Form B) → calls_in (map_form f x) ≡ map (map_form f) (calls_in x)
calls_mapped f (Column c) = refl
calls_mapped f (Call function column) = refl
calls_mapped f (Call_where function column filter) = refl
calls_mapped f (Literal x) = refl
calls_mapped f (Unary operator x) = calls_mapped f x
calls_mapped f (Binary operator x y) =
    calls_in_two (map_form f x) (map_form f y) ∙ (λ i. calls_mapped f x i ++ calls_mapped f y i)
    ∙ sym (ap (map (map_form f)) (calls_in_two x y) ∙ map-append (map_form f) (calls_in x) (calls_in y))

-- the calls in a condition whose columns pass a test: theirs do
pub record Passes {C : Type 0} (P : C → Bool) (x : Form C) : Type 0 where
  pub passes : columns_pass P x ≡ true

pub calls_pass : {C : Type 0} (P : C → Bool) (x : Form C) → columns_pass P x ≡ true → AllByRecursion (Passes P) (calls_in x)
calls_pass P (Column c) p = tt
calls_pass P (Call function column) p = (record { passes = p }, tt)
calls_pass P (Call_where function column filter) p = (record { passes = p }, tt)
calls_pass P (Literal x) p = tt
calls_pass P (Unary operator x) p = calls_pass P x p
calls_pass P (Binary operator x y) p =
    let ps = and_parts (columns_pass P x) (columns_pass P y) p in
    subst (AllByRecursion (Passes P)) (sym (calls_in_two x y)) (each_append (Passes P) (calls_in x) (calls_in y) (calls_pass P x ps.0)
    (calls_pass P y ps.1))
