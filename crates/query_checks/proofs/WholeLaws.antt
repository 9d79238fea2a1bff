-- The checks of a query's parts, as the code goes over them.
use Rattle.std.proofs.Common.{◌≡◌, ℕ, true, List, [], ◌∷◌, map, Option, Some, None, option_map, refl, string_bytes, String, Global}
use Rattle.std.specs.Prelude.{Bool}
use Rattle.std.specs.List.{list_all}
use Rattle.std.specs.Option.{option_map_or}
use Rattle.std.proofs.lemmas.List.Folds.{list_all-map}
use Rattle.packed_rows.specs.Columns.{Column}
use Rattle.query_checks.specs.declared.condition.Cond.{Cond}
use Rattle.query_checks.specs.declared.condition.Item.{Item}
use Rattle.query_checks.specs.Forms.{Form, form_of, item_form, names_of, items_of, places_of}
use Rattle.query_checks.specs.Reads.{columns_pass, filters_pass}
use Rattle.query_checks.specs.Checks.{is_shallow, is_column}
use Rattle.query_checks.specs.FormLaws.{columns_mapped}
use Rattle.query_checks.proofs.FormLaws.{filters_mapped}

-- items, by what they stand for
pub items_pass : {C : Type 0} (passes : Form C → Bool) (items : List (Item C × Option (String Global)))
    → list_all (λ item. passes item.0) (places_of items) ≡ list_all (λ item. passes (item_form item.0)) items
items_pass {C} passes items = list_all-map (λ (item : Form C × Option (List ℕ)). passes item.0)
    (λ (item : Item C × Option (String Global)). (item_form item.0, option_map string_bytes item.1)) items

-- how deep the conditions of a query over names are
pub items_shallow : (items : List (Item (String Global) × Option (String Global)))
    → list_all (λ item. filters_pass is_shallow item.0) (items_of items)
    ≡ list_all (λ item. filters_pass is_shallow item.0) (places_of items)
items_shallow [] = refl
items_shallow (item ∷ items) = rw (filters_mapped string_bytes (item_form item.0), items_shallow items) refl

-- whether its columns are a schema's
pub items_known : (columns : List Column) (items : List (Item (String Global) × Option (String Global)))
    → list_all (λ item. columns_pass (is_column columns) item.0) (items_of items)
    ≡ list_all (λ item. columns_pass (λ name. is_column columns (string_bytes name)) item.0) (places_of items)
items_known columns [] = refl
items_known columns (item ∷ items) = rw (columns_mapped (is_column columns) string_bytes (item_form item.0), items_known columns items) refl

pub clause_known : (columns : List Column) (clause : Option (Cond (String Global)))
    → option_map_or (columns_pass (is_column columns)) (option_map (λ c. names_of (form_of c)) clause) true
    ≡ option_map_or (columns_pass (λ name. is_column columns (string_bytes name))) (option_map form_of clause) true
clause_known columns None = refl
clause_known columns (Some c) = columns_mapped (is_column columns) string_bytes (form_of c)

pub keys_known : (columns : List Column) (names : List (String Global)) → list_all (is_column columns) (map string_bytes names)
    ≡ list_all (λ name. is_column columns (string_bytes name)) names
keys_known columns names = list_all-map (is_column columns) string_bytes names
