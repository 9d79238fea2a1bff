-- The distinct calls of a query, as the code collects and compares them.
use Rattle.std.proofs.Common.{◌≡◌, ◌+◌, ◌<◌, take, get_or, ℕ, ◌==◌, true, List, [], ◌∷◌, ◌++◌, map, length, Option, Some, None, option_map}
use Rattle.std.proofs.Common.{refl, ap, sym, ◌∙◌, string_bytes, String, Global}
use Rattle.std.specs.Str.{bytes_eq}
use Rattle.std.specs.String.{string_eq}
use Rattle.std.specs.List.{flat_map}
use Rattle.std.specs.Option.{option_map_or}
use Rattle.std.proofs.lemmas.List.{length-map, map-append, append-nil}
use Rattle.std.proofs.lemmas.Grind.{flat_map-append}
use Rattle.query_checks.specs.declared.condition.Cond.{Cond}
use Rattle.query_checks.specs.declared.condition.Item.{Item}
use Rattle.query_checks.specs.declared.condition.RawQuery.{RawQuery}
use Rattle.query_checks.specs.declared.parts.Parts.{Parts}
use Rattle.query_checks.specs.Forms.{Form, form_of, item_form, names_of, items_of, places_of, written_of}
use Rattle.query_checks.specs.Reads.{calls_in}
use Rattle.query_checks.specs.Sameness.{form_eq, first_of_each}
use Rattle.query_checks.specs.Calls.{distinct_calls}
use Rattle.query_checks.specs.Parts.{written_of_parts}
use Rattle.query_checks.specs.DistinctLaws.{Agrees, distinct_image}
use Rattle.query_checks.proofs.DistinctLaws.{Anything, all_anything, next_front}
use Rattle.query_checks.proofs.FormLaws.{columns_pass_all}
use Rattle.query_checks.specs.ReadLaws.{calls_mapped}
use Rattle.query_checks.specs.SameLaws.{form_image}

-- the calls that the code collects of items and of HAVING
abbrev pub item_calls : {C : Type 0} → List (Item C × Option (String Global)) → List (Form C)
item_calls items = flat_map (λ item. calls_in (item_form item.0)) items

abbrev pub clause_calls : {C : Type 0} → Option (Cond C) → List (Form C)
clause_calls clause = option_map_or calls_in (option_map form_of clause) []

-- by the strings of the code, and by their bytes
items_named : (items : List (Item (String Global) × Option (String Global))) → flat_map (λ item. calls_in item.0) (items_of items)
    ≡ map names_of (item_calls items)
items_named [] = refl
items_named (item ∷ items) =
    (λ i. calls_mapped string_bytes (item_form item.0) i ++ items_named items i)
    ∙ sym (map-append names_of (calls_in (item_form item.0)) (item_calls items))

clause_named : (clause : Option (Cond (String Global))) → option_map_or calls_in (option_map (λ c. names_of (form_of c)) clause) []
    ≡ map names_of (clause_calls clause)
clause_named None = refl
clause_named (Some c) = calls_mapped string_bytes (form_of c)

same_named : Agrees Anything names_of (form_eq bytes_eq) (form_eq string_eq)
same_named = record {
  agree = λ x y p q. form_image (λ c. true) string_bytes bytes_eq string_eq (record { agree = λ a b p q. refl }) x y
      (columns_pass_all x) (columns_pass_all y);
}

-- two conditions are the same by the strings of the code, and by their bytes
pub same_names : (x y : Form (String Global)) → form_eq string_eq x y ≡ form_eq bytes_eq (names_of x) (names_of y)
same_names x y = sym (same_named.agree x y tt tt)

pub calls_counted : (raw : RawQuery) → length (first_of_each (form_eq string_eq) (item_calls raw.items.items ++ clause_calls raw.having))
    ≡ length (distinct_calls bytes_eq (written_of raw))
calls_counted raw =
    let calls = item_calls raw.items.items ++ clause_calls raw.having in
    sym (length-map (first_of_each (form_eq string_eq) calls) names_of)
    ∙ ap length (sym (distinct_image Anything names_of (form_eq bytes_eq) (form_eq string_eq) same_named calls (all_anything calls))
    ∙ ap (first_of_each (form_eq bytes_eq)) (map-append names_of (item_calls raw.items.items) (clause_calls raw.having)
    ∙ (λ i. sym (items_named raw.items.items) i ++ sym (clause_named raw.having) i)))

-- and by places
items_found : (items : List (Item ℕ × Option (String Global))) → item_calls items ≡ flat_map (λ item. calls_in item.0) (places_of items)
items_found [] = refl
items_found (item ∷ items) = ap (λ (calls : List (Form ℕ)). calls_in (item_form item.0) ++ calls) (items_found items)

pub calls_of_parts : (parts : Parts) → first_of_each (form_eq ◌==◌) (item_calls parts.items.items ++ clause_calls parts.having)
    ≡ distinct_calls ◌==◌ (written_of_parts parts)
calls_of_parts parts = ap (λ (calls : List (Form ℕ)). first_of_each (form_eq ◌==◌) (calls ++ clause_calls parts.having))
    (items_found parts.items.items)

-- the calls of one item more
calls_of_one_more : {C : Type 0} (items : List (Item C × Option (String Global))) (item : Item C × Option (String Global))
    → item_calls (items ++ item ∷ []) ≡ item_calls items ++ calls_in (item_form item.0)
calls_of_one_more {C} items item =
    flat_map-append (λ (item : Item C × Option (String Global)). calls_in (item_form item.0)) items (item ∷ [])
    ∙ ap (λ (calls : List (Form C)). item_calls items ++ calls) (append-nil (calls_in (item_form item.0)))

pub calls_of_front : {C : Type 0} (items : List (Item C × Option (String Global))) (i : ℕ) (item : Item C × Option (String Global))
    → i < length items → item ≡ get_or items i item → item_calls (take (i + 1) items) ≡ item_calls (take i items)
    ++ calls_in (item_form item.0)
calls_of_front items i item low is = ap item_calls (next_front items i item low is) ∙ calls_of_one_more (take i items) item
