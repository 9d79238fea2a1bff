-- The groups of a list of rows as a map, and the groups of two lists of rows appended.
use Rattle.std.specs.Prelude.{◌≡◌, refl, Bool, true, false, cond, ◌||◌, List, [], ◌∷◌, ◌++◌, map}
use Rattle.std.proofs.Common.{sym, ◌∙◌, ap, arith}
use Rattle.std.proofs.lemmas.List.{map-append}
use Rattle.std.proofs.lemmas.List.Elements.{filter-append}
use Rattle.std.specs.Ordering.{eq_by_cmp}
use Rattle.grouping_model.specs.Datum.{Row, row_cmp}
use Rattle.grouping_model.specs.Rising.{put, distinct, is_among}
use Rattle.grouping_model.specs.Rising.Facts.{distinct-rises, put-rises, among-distinct, among-put, among-append, same_members, or_comm}
use Rattle.grouping_model.specs.Aggregates.{Partial, partial}
use Rattle.grouping_model.specs.Combining.{combine_all}
use Rattle.grouping_model.specs.Condition.{is_met}
use Rattle.grouping_model.specs.Query.{Query, Aggregate}
use Rattle.grouping_model.specs.Grouping.{selected, key_of, keys, group, partials, arguments, column_of, part}
use Rattle.grouping_model.specs.Parts.{functions, keys_of, partials_or_none, combine_parts}
use Rattle.grouping_model.specs.DatumOrderLaws.{row_cmp_total, row_cmp_ties}
use Rattle.grouping_model.specs.KeyLaws.{group_append}
use Rattle.grouping_model.specs.Lemmas.CombiningLaws.{rows_append}
use Rattle.grouping_model.specs.PartLaws.{partials_or_none-part}
use Rattle.std.proofs.lemmas.Bool.Decides.{nat_tests}
use Rattle.std.proofs.lemmas.Grind.{common_steps}

pub keys_of-part : (query : Query) (rows : List Row) → keys_of (part query rows) ≡ keys query rows
keys_of-part query rows = firsts (keys query rows)
  where
    firsts : (ks : List Row) → keys_of (map (λ key. (key, partials query (group query rows key))) ks) ≡ ks
    firsts [] = refl
    firsts (k ∷ ks) = ap (λ ks. k ∷ ks) (firsts ks)

distinct-append : (xs ys : List Row) → distinct row_cmp (xs ++ ys) ≡ distinct row_cmp (distinct row_cmp xs ++ distinct row_cmp ys)
distinct-append xs ys =
    same_members row_cmp_total row_cmp_ties (distinct row_cmp (xs ++ ys)) (distinct row_cmp (distinct row_cmp xs ++ distinct row_cmp ys))
    (distinct-rises row_cmp_total (xs ++ ys)) (distinct-rises row_cmp_total (distinct row_cmp xs ++ distinct row_cmp ys))
    (λ q.
    among-distinct row_cmp_total q (xs ++ ys)
    ∙ among-append row_cmp q xs ys
    ∙ (λ i. sym (among-distinct row_cmp_total q xs) i || sym (among-distinct row_cmp_total q ys) i)
    ∙ sym (among-append row_cmp q (distinct row_cmp xs) (distinct row_cmp ys))
    ∙ sym (among-distinct row_cmp_total q (distinct row_cmp xs ++ distinct row_cmp ys)))

selected-append : (query : Query) (xs ys : List Row) → selected query (xs ++ ys) ≡ selected query xs ++ selected query ys
selected-append query xs ys = filter-append (λ row. is_met (column_of row) query.condition) xs ys

keys-append : (query : Query) (xs ys : List Row) → keys query (xs ++ ys) ≡ distinct row_cmp (keys query xs ++ keys query ys)
keys-append query xs ys =
    ap (λ rows. distinct row_cmp (map (key_of query) rows)) (selected-append query xs ys)
    ∙ ap (distinct row_cmp) (map-append (key_of query) (selected query xs) (selected query ys))
    ∙ distinct-append (map (key_of query) (selected query xs)) (map (key_of query) (selected query ys))

pub partials-append : (query : Query) (xs ys : List Row) → partials query (xs ++ ys)
    ≡ combine_all (functions query) (partials query xs) (partials query ys)
partials-append query xs ys = each query.aggregates
  where
    of_rows : List Row → Aggregate → Partial
    of_rows = λ rows aggregate. partial aggregate.function (arguments aggregate rows)

    each : (aggregates : List Aggregate) → map (of_rows (xs ++ ys)) aggregates
        ≡ combine_all (map (λ (aggregate : Aggregate). aggregate.function) aggregates) (map (of_rows xs) aggregates)
        (map (of_rows ys) aggregates)
    each [] = refl
    each (aggregate ∷ aggregates) = λ i. rows_append aggregate xs ys i ∷ each aggregates i

pub part-append : (query : Query) (xs ys : List Row) → part query (xs ++ ys) ≡ combine_parts query (part query xs) (part query ys)
part-append query xs ys = λ i. map (λ key. (key, results key i)) (both_keys i)
  where
    results : (key : Row) → partials query (group query (xs ++ ys) key)
        ≡ combine_all (functions query) (partials_or_none query key (part query xs)) (partials_or_none query key (part query ys))
    results key =
        ap (partials query) (group_append query xs ys key)
        ∙ partials-append query (group query xs key) (group query ys key)
        ∙ (λ i. combine_all (functions query) (sym (partials_or_none-part query xs key) i) (sym (partials_or_none-part query ys key) i))

    both_keys : keys query (xs ++ ys) ≡ distinct row_cmp (keys_of (part query xs) ++ keys_of (part query ys))
    both_keys = keys-append query xs ys ∙ (λ i. distinct row_cmp (sym (keys_of-part query xs) i ++ sym (keys_of-part query ys) i))

-- one more row, where WHERE keeps it and where not
pub selected-one : (query : Query) (row : Row) (b : Bool) → is_met (column_of row) query.condition ≡ b → selected query (row ∷ [])
    ≡ cond b (row ∷ []) []
selected-one query row b e = ap (λ b. cond b (row ∷ []) []) e

pub part_passes : (query : Query) (rows : List Row) (row : Row) → is_met (column_of row) query.condition ≡ false
    → part query (rows ++ row ∷ []) ≡ part query rows
part_passes query rows row e = grind (arith, nat_tests, common_steps)

pub keys_one_more : (query : Query) (rows : List Row) (row : Row) → is_met (column_of row) query.condition ≡ true
    → keys query (rows ++ row ∷ []) ≡ put row_cmp (key_of query row) (keys query rows)
keys_one_more query rows row e =
    keys-append query rows (row ∷ [])
    ∙ ap (λ more. distinct row_cmp (keys query rows ++ distinct row_cmp (map (key_of query) more))) (selected-one query row true e)
    ∙ same_members row_cmp_total row_cmp_ties (distinct row_cmp (keys query rows ++ key ∷ [])) (put row_cmp key (keys query rows))
    (distinct-rises row_cmp_total (keys query rows ++ key ∷ []))
    (put-rises row_cmp_total key (keys query rows) (distinct-rises row_cmp_total (map (key_of query) (selected query rows))))
    (λ q.
    among-distinct row_cmp_total q (keys query rows ++ key ∷ [])
    ∙ among-append row_cmp q (keys query rows) (key ∷ [])
    ∙ or_comm (is_among row_cmp q (keys query rows)) (is_among row_cmp q (key ∷ []))
    ∙ ap (λ b. b || is_among row_cmp q (keys query rows)) (or_false (eq_by_cmp row_cmp q key))
    ∙ sym (among-put row_cmp_total q key (keys query rows)))
  where
    key : Row
    key = key_of query row

    or_false : (b : Bool) → (b || false) ≡ b
    or_false true = refl
    or_false false = refl
