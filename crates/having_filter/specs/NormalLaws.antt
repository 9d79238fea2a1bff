-- Laws: a query with each column of GROUP BY once and no alias that is an item's own name passes the checks as the query does; these
-- definitions serve the laws alone.
use Rattle.std.proofs.Common.{◌≡◌, ◌&&◌, ℕ, true, List, [], ◌∷◌, map, Option, Some, None, option_map, refl, ap, ◌∙◌}
use Rattle.std.specs.Str.{bytes_eq}
use Rattle.std.specs.List.{AllByRecursion, list_all}
use Rattle.std.specs.Option.{option_map_or}
use Rattle.std.proofs.lemmas.Bool.{and_parts}
use Rattle.std.specs.Prelude.{◌==◌}
use Rattle.packed_rows.specs.Columns.{Column}
use Rattle.query_checks.specs.Forms.{Form, Written, map_form}
use Rattle.query_checks.specs.Checks.{all_of, is_column, has_columns, place, placed}
use Rattle.query_checks.specs.Sameness.{first_of_each}
use Rattle.query_checks.specs.Spelling.{own_name, kept_alias, canonical_item, canonical_written}
use Rattle.query_checks.specs.Reads.{columns_pass}
use Rattle.query_checks.specs.DistinctLaws.{all_pass, all_distinct}
use Rattle.query_checks.specs.FormLaws.{form_back}
use Rattle.having_filter.specs.Kept.{name_at, written_by_names}
use Rattle.having_filter.specs.PlaceLaws.{names_back, list_back, distinct_places}

-- an item over the names of columns again, and over their places
abbrev pub named_item : List Column → Form ℕ × Option (List ℕ) → Form (List ℕ) × Option (List ℕ)
named_item columns item = (map_form (name_at columns) item.0, item.1)

abbrev pub placed_item : List Column → Form (List ℕ) × Option (List ℕ) → Form ℕ × Option (List ℕ)
placed_item columns item = (map_form (place columns) item.0, kept_alias (own_name item.0) item.1)

-- the columns that a query has
pub record HasColumns (columns : List Column) (q : Written (List ℕ)) : Type 0 where
  pub items : list_all (λ item. columns_pass (is_column columns) item.0) q.items ≡ true
  pub condition : option_map_or (columns_pass (is_column columns)) q.condition true ≡ true
  pub having : option_map_or (columns_pass (is_column columns)) q.having true ≡ true
  pub keys : AllByRecursion (λ name. is_column columns name ≡ true) q.keys

pub columns_of_query : (columns : List Column) (q : Written (List ℕ)) → has_columns columns q ≡ true → HasColumns columns q
columns_of_query columns q e =
    let whole = and_parts (all_of (columns_pass (is_column columns)) (columns_pass (is_column columns)) q)
    (list_all (is_column columns) q.keys) e in
    let parts = and_parts (list_all (λ item. columns_pass (is_column columns) item.0) q.items)
    (option_map_or (columns_pass (is_column columns)) q.condition true && option_map_or (columns_pass (is_column columns)) q.having
    true) whole.0 in
    let clauses = and_parts (option_map_or (columns_pass (is_column columns)) q.condition true)
    (option_map_or (columns_pass (is_column columns)) q.having true) parts.1 in
    record { items = parts.0; condition = clauses.0; having = clauses.1; keys = all_pass (is_column columns) q.keys whole.1 }

-- placed and named again, a query is the canonical one
items_back : (columns : List Column) (items : List (Form (List ℕ) × Option (List ℕ)))
    → list_all (λ item. columns_pass (is_column columns) item.0) items ≡ true
    → map (named_item columns) (map (placed_item columns) items) ≡ map canonical_item items
items_back columns [] e = refl
items_back columns (item ∷ items) e =
    let parts = and_parts (columns_pass (is_column columns) item.0) (list_all (λ item. columns_pass (is_column columns) item.0) items) e in
    ap (λ (x : Form (List ℕ)). (x, kept_alias (own_name item.0) item.1) ∷ map (named_item columns) (map (placed_item columns) items))
    (form_back (is_column columns) (place columns) (name_at columns) (names_back columns) item.0 parts.0)
    ∙ ap (λ (rest : List (Form (List ℕ) × Option (List ℕ))). canonical_item item ∷ rest) (items_back columns items parts.1)

clause_back : (columns : List Column) (clause : Option (Form (List ℕ))) → option_map_or (columns_pass (is_column columns)) clause true
    ≡ true → option_map (map_form (name_at columns)) (option_map (map_form (place columns)) clause) ≡ clause
clause_back columns None e = refl
clause_back columns (Some c) e = ap (λ x. Some x) (form_back (is_column columns) (place columns) (name_at columns) (names_back columns) c e)

keys_back : (columns : List Column) (keys : List (List ℕ)) → AllByRecursion (λ name. is_column columns name ≡ true) keys
    → map (name_at columns) (first_of_each ◌==◌ (map (place columns) keys)) ≡ first_of_each bytes_eq keys
keys_back columns keys all = ap (map (name_at columns)) (distinct_places columns keys all)
    ∙ list_back columns (first_of_each bytes_eq keys) (all_distinct (λ name. is_column columns name ≡ true) bytes_eq keys all)

pub named_again : (columns : List Column) (q : Written (List ℕ)) → HasColumns columns q → written_by_names columns (placed columns q)
    ≡ canonical_written q
named_again columns q has =
    λ i. record {
      items = items_back columns q.items has.items i;
      condition = clause_back columns q.condition has.condition i;
      keys = keys_back columns q.keys has.keys i;
      having = clause_back columns q.having has.having i;
    }
