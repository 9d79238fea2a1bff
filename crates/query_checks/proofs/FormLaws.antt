-- Laws of conditions over other columns, and of their values.
use Rattle.std.proofs.Common.{◌≡◌, option_map, true, List, Option, Some, None, String, Global, string_bytes, refl, ap, sym}
use Rattle.std.proofs.lemmas.Bool.{and_from}
use Rattle.packed_rows.specs.Columns as packed
use Rattle.query_checks.specs.declared.condition.Cond.{Cond}
use Rattle.query_checks.specs.Forms.{form_of, Form, Column, Call, Call_where, Literal, Unary, Binary, map_reads, map_form, names_of}
use Rattle.query_checks.specs.Reads.{columns_pass, filters_pass}
use Rattle.query_checks.specs.Checks.{depth, is_shallow, place}

-- columns that are changed twice
column_twice : {B C D : Type 0} (f : B → C) (g : C → D) (column : Option B) → option_map g (option_map f column)
    ≡ option_map (λ c. g (f c)) column
column_twice f g None = refl
column_twice f g (Some c) = refl

mapped_twice : {B C D : Type 0} (f : B → C) (g : C → D) (x : Form B) → map_form g (map_form f x) ≡ map_form (λ c. g (f c)) x
mapped_twice f g (Column c) = refl
mapped_twice f g (Call function column) = ap (Call function) (column_twice f g column)
mapped_twice f g (Call_where function column filter) = λ i. Call_where function (column_twice f g column i) (mapped_twice f g filter i)
mapped_twice f g (Literal x) = refl
mapped_twice f g (Unary operator x) = ap (Unary operator) (mapped_twice f g x)
mapped_twice f g (Binary operator x y) = λ i. Binary operator (mapped_twice f g x i) (mapped_twice f g y i)

-- from names to places
pub mapped_names : (columns : List packed.Column) (x : Form (String Global))
    → map_reads (λ name. place columns (string_bytes name)) (λ call. None) x ≡ map_form (place columns) (names_of x)
mapped_names columns x = sym (mapped_twice string_bytes (place columns) x)

pub clause_placed : (columns : List packed.Column) (clause : Option (Cond (String Global)))
    → option_map (map_reads (λ name. place columns (string_bytes name)) (λ call. None)) (option_map form_of clause)
    ≡ option_map (map_form (place columns)) (option_map (λ c. names_of (form_of c)) clause)
clause_placed columns None = refl
clause_placed columns (Some c) = ap (λ x. Some x) (mapped_names columns (form_of c))

-- how deep a condition over other columns is
pub depth_mapped : {C D : Type 0} (f : C → D) (c : Form C) → depth (map_form f c) ≡ depth c
depth_mapped f (Column c) = refl
depth_mapped f (Call function column) = refl
depth_mapped f (Call_where function column filter) = refl
depth_mapped f (Literal x) = refl
depth_mapped f (Unary operator c) = rw (depth_mapped f c) refl
depth_mapped f (Binary operator c d) = rw (depth_mapped f c, depth_mapped f d) refl

pub filters_mapped : {C D : Type 0} (f : C → D) (c : Form C) → filters_pass is_shallow (map_form f c) ≡ filters_pass is_shallow c
filters_mapped f (Column c) = refl
filters_mapped f (Call function column) = refl
filters_mapped f (Call_where function column filter) = rw (depth_mapped f filter, filters_mapped f filter) refl
filters_mapped f (Literal x) = refl
filters_mapped f (Unary operator c) = filters_mapped f c
filters_mapped f (Binary operator c d) = rw (filters_mapped f c, filters_mapped f d) refl

-- all columns pass where each would
pub columns_pass_all : {C : Type 0} (x : Form C) → columns_pass (λ c. true) x ≡ true
columns_pass_all (Column c) = refl
columns_pass_all (Call f None) = refl
columns_pass_all (Call f (Some c)) = refl
columns_pass_all (Call_where f None x) = columns_pass_all x
columns_pass_all (Call_where f (Some c) x) = columns_pass_all x
columns_pass_all (Literal u) = refl
columns_pass_all (Unary operator x) = columns_pass_all x
columns_pass_all (Binary operator x y) = and_from _ _ (columns_pass_all x) (columns_pass_all y)
