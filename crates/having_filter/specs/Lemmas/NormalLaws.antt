-- A query with each column of GROUP BY once and no alias that is an item's own name passes the checks as the query does.
use Rattle.std.proofs.Common.{◌≡◌, ◌≢◌, ℕ, Bool, true, false, List, [], ◌∷◌, ◌++◌, map, length, Option, Some, None, option_map, refl, ap}
use Rattle.std.proofs.Common.{sym, ◌∙◌, subst}
use Rattle.std.specs.Prelude.{nat_lt, ◌||◌, unwrap_or, ◌==◌, Ok}
use Rattle.std.specs.Str.{bytes_eq}
use Rattle.std.specs.List.{AllByRecursion, list_all, flat_map}
use Rattle.std.specs.Option.{ForSome}
use Rattle.std.proofs.lemmas.Bool.{and_parts, and_from}
use Rattle.std.proofs.lemmas.List.{length-map}
use Rattle.std.proofs.lemmas.List.Folds.{list_all-map}
use Rattle.grouping_model.specs.declared.limits.TheConstants.{MAX_ITEMS, MAX_KEYS, MAX_CALLS, MAX_QUERY_LEN}
use Rattle.packed_rows.specs.Columns.{Column, IsColumnName}
use Rattle.query_checks.specs.Forms.{Form, Written, map_form}
use Rattle.query_checks.specs.Checks.{all_of, has_too_many, is_shallow, are_shallow, is_column, has_columns, place, placed, checked_places}
use Rattle.query_checks.specs.Checks.{with_arrangement, checked, PassesFirst}
use Rattle.query_checks.specs.Sameness.{first_of_each}
use Rattle.query_checks.specs.Order.{Asked}
use Rattle.query_checks.specs.Arrangement.{arrangement_of, canonical_arrangement, arrangement_text}
use Rattle.query_checks.specs.Spelling.{own_name, kept_alias, item_text, written_text, spelling, canonical_item}
use Rattle.query_checks.specs.Spelling.{canonical_written, canonical}
use Rattle.query_checks.specs.Reads.{calls_in, columns_pass, filters_pass}
use Rattle.query_checks.specs.Calls.{distinct_calls}
use Rattle.query_checks.specs.Writable.{IsItem, IsWritable}
use Rattle.query_checks.specs.DistinctLaws.{all_pass, pass_all, all_distinct, distinct_again}
use Rattle.query_checks.specs.CheckedLaws.{reaches_places}
use Rattle.having_filter.specs.Kept.{by_names, label_of}
use Rattle.having_filter.specs.PlaceLaws.{distinct_places}
use Rattle.having_filter.specs.NormalLaws.{HasColumns, columns_of_query, named_again, placed_item}
use Rattle.having_filter.specs.Lemmas.OrderLaws.{arrangement_again, names_again, arranged_again}

-- an alias is kept once and for all
keeps : (own alias : List ℕ) (same : Bool) → bytes_eq alias own ≡ same → kept_alias own (kept_alias own (Some alias))
    ≡ kept_alias own (Some alias)
keeps own alias true e = rw e refl
keeps own alias false e = rw e (rw e refl)

kept_twice : (own : List ℕ) (alias : Option (List ℕ)) → kept_alias own (kept_alias own alias) ≡ kept_alias own alias
kept_twice own None = refl
kept_twice own (Some alias) = keeps own alias (bytes_eq alias own) refl

pub label_twice : (item : Form (List ℕ) × Option (List ℕ)) → label_of (canonical_item item) ≡ label_of item
label_twice item = ap (λ (alias : Option (List ℕ)). unwrap_or alias (own_name item.0)) (kept_twice (own_name item.0) item.1)

-- what is counted, spelled and placed of a canonical query
items_counted : (items : List (Form (List ℕ) × Option (List ℕ))) → flat_map (λ item. calls_in item.0) (map canonical_item items)
    ≡ flat_map (λ item. calls_in item.0) items
items_counted [] = refl
items_counted (item ∷ items) = ap (λ calls. calls_in item.0 ++ calls) (items_counted items)

items_spelled : (items : List (Form (List ℕ) × Option (List ℕ))) → map item_text (map canonical_item items) ≡ map item_text items
items_spelled [] = refl
items_spelled (item ∷ items) = rw (kept_twice (own_name item.0) item.1, items_spelled items) refl

calls_counted : (q : Written (List ℕ)) → distinct_calls bytes_eq (canonical_written q) ≡ distinct_calls bytes_eq q
calls_counted q = rw (items_counted q.items) refl

written_alike : (q : Written (List ℕ)) → written_text (canonical_written q) ≡ written_text q
written_alike q = rw (items_spelled q.items, distinct_again bytes_eq q.keys) refl

pub spelled_alike : (q : Asked) → spelling (canonical q) ≡ spelling q
spelled_alike q = λ i. written_alike q.written i ++ arrangement_text (arrangement_again q i)

counted_alike : (q : Asked) → has_too_many (canonical q) ≡ has_too_many q
counted_alike q =
    λ i. nat_lt MAX_ITEMS (length-map q.written.items canonical_item i)
    || (nat_lt MAX_KEYS (length (distinct_again bytes_eq q.written.keys i))
    || (nat_lt MAX_CALLS (length (calls_counted q.written i)) || nat_lt MAX_QUERY_LEN (length (spelled_alike q i))))

all_alike : (item_passes passes : Form (List ℕ) → Bool) (q : Written (List ℕ)) → all_of item_passes passes (canonical_written q)
    ≡ all_of item_passes passes q
all_alike item_passes passes q = rw (list_all-map (λ item. item_passes item.0) canonical_item q.items) refl

items_placed : (columns : List Column) (items : List (Form (List ℕ) × Option (List ℕ)))
    → map (placed_item columns) (map canonical_item items) ≡ map (placed_item columns) items
items_placed columns [] = refl
items_placed columns (item ∷ items) =
    ap (λ (alias : Option (List ℕ)). (map_form (place columns) item.0, alias) ∷ map (placed_item columns) (map canonical_item items))
    (kept_twice (own_name item.0) item.1)
    ∙ ap (λ (rest : List (Form ℕ × Option (List ℕ))). placed_item columns item ∷ rest) (items_placed columns items)

keys_placed : (columns : List Column) (keys : List (List ℕ)) → AllByRecursion (λ name. is_column columns name ≡ true) keys
    → first_of_each ◌==◌ (map (place columns) (first_of_each bytes_eq keys)) ≡ first_of_each ◌==◌ (map (place columns) keys)
keys_placed columns keys all =
    distinct_places columns (first_of_each bytes_eq keys) (all_distinct (λ name. is_column columns name ≡ true) bytes_eq keys all)
    ∙ ap (map (place columns)) (distinct_again bytes_eq keys) ∙ sym (distinct_places columns keys all)

placed_alike : (columns : List Column) (q : Written (List ℕ)) → HasColumns columns q → placed columns (canonical_written q)
    ≡ placed columns q
placed_alike columns q has = λ i. record {
  items = items_placed columns q.items i;
  condition = option_map (map_form (place columns))
      q.condition;
  keys = keys_placed columns q.keys has.keys i;
  having = option_map (map_form (place columns)) q.having;
}

columns_alike : (columns : List Column) (q : Written (List ℕ)) → has_columns columns q ≡ true → has_columns columns (canonical_written q)
    ≡ true
columns_alike columns q e =
    let whole = and_parts (all_of (columns_pass (is_column columns)) (columns_pass (is_column columns)) q)
    (list_all (is_column columns) q.keys) e in
    and_from _ _ (all_alike (columns_pass (is_column columns)) (columns_pass (is_column columns)) q ∙ whole.0)
    (pass_all (is_column columns) (first_of_each bytes_eq q.keys) (all_distinct (λ name. is_column columns name ≡ true) bytes_eq q.keys
    (all_pass (is_column columns) q.keys whole.1)))

passes_alike : (columns : List Column) (q : Asked) → PassesFirst columns q → PassesFirst columns (canonical q)
passes_alike columns q first =
    record {
      few = counted_alike q ∙ first.few;
      shallow = all_alike (filters_pass is_shallow) are_shallow q.written ∙ first.shallow;
      columns_there = columns_alike columns q.written first.columns_there;
      items_there = names_again q;
    }

-- placed and named again, a query with what stands behind its HAVING is the canonical one
pub asked_again : (columns : List Column) (q : Asked) → HasColumns columns q.written
    → by_names (record { columns = columns; written = placed columns q.written; arrangement = arrangement_of q }) ≡ canonical q
asked_again columns q has = λ i. record {
  written = named_again columns q.written has i;
  arrangement = canonical_arrangement
      (arrangement_of q);
}

-- a query that passes the checks passes them again by its own text
pub passes_again : (columns : List Column) (q : Asked) → PassesFirst columns q
    → checked columns (by_names (record { columns = columns; written = placed columns q.written; arrangement = arrangement_of q }))
    ≡ with_arrangement columns (checked_places columns (placed columns q.written)) (Ok (arrangement_of q))
passes_again columns q first =
    let has = columns_of_query columns q.written first.columns_there in
    ap (checked columns) (asked_again columns q has) ∙ reaches_places columns (canonical q) (passes_alike columns q first)
    ∙ (λ i. with_arrangement columns (checked_places columns (placed_alike columns q.written has i)) (arranged_again q i))

-- a text can say the canonical query where it can say the query
alias_stays : (own alias : List ℕ) (same : Bool) → bytes_eq alias own ≡ same → IsColumnName alias
    → ForSome (kept_alias own (Some alias)) IsColumnName
alias_stays own alias true e name = rw e (λ x h. cc h)
alias_stays own alias false e name = rw e (λ x h. subst IsColumnName (ap (λ (o : Option (List ℕ)). unwrap_or o alias) h) name)

kept_name : (own : List ℕ) (alias : Option (List ℕ)) → ForSome alias IsColumnName → ForSome (kept_alias own alias) IsColumnName
kept_name own None name = λ x h. cc h
kept_name own (Some alias) name = alias_stays own alias (bytes_eq alias own) refl (name alias refl)

items_writable : (items : List (Form (List ℕ) × Option (List ℕ))) → AllByRecursion IsItem items
    → AllByRecursion IsItem (map canonical_item items)
items_writable [] all = tt
items_writable (item ∷ items) all = (
  record {
    value = all.0.value;
    form = all.0.form;
    alias = kept_name (own_name item.0) item.1 all.0.alias;
  },
  items_writable items all.1,
)

some_plain : (items : List (Form (List ℕ) × Option (List ℕ))) → items ≢ [] → map canonical_item items ≢ []
some_plain [] some e = some refl
some_plain (item ∷ items) some e = cc e

pub normal_writable : (q : Written (List ℕ)) → IsWritable q → IsWritable (canonical_written q)
normal_writable q w =
    record {
      some = some_plain q.items w.some;
      items = items_writable q.items w.items;
      condition = w.condition;
      keys = all_distinct IsColumnName bytes_eq q.keys w.keys;
      having = w.having;
    }
