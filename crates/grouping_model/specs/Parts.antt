-- Groups as a map from keys to partial results, and the groups of two lists of rows appended. All of this is our own.
use Rattle.std.specs.Prelude.{List, [], ◌∷◌, ◌++◌, map, slice_index_or, find, Option, option_map, unwrap_or, if◌then◌else◌}
use Rattle.std.specs.BTreeMap.{insert_entry}
use Rattle.grouping_model.specs.Datum.{Kind, Bigint_kind, Row, row_cmp, same_row}
use Rattle.grouping_model.specs.Rising.{distinct}
use Rattle.grouping_model.specs.Aggregates.{Function, Partial}
use Rattle.grouping_model.specs.Combining.{combine_all, transition}
use Rattle.grouping_model.specs.Condition.{is_met}
use Rattle.grouping_model.specs.Query.{Query, Aggregate}
use Rattle.grouping_model.specs.Grouping.{Group, partials, argument, column_of, key_of}

-- the functions of a query's aggregates
abbrev pub functions : Query → List Function
functions query = map (λ (aggregate : Aggregate). aggregate.function) query.aggregates

-- the kinds of the columns of GROUP BY (PostgreSQL 17, 7.2.3)
abbrev pub key_kinds : Query → List Kind
key_kinds query = map (λ place. slice_index_or query.kinds place Bigint_kind) query.keys

-- the keys of some groups
abbrev pub keys_of : List Group → List Row
keys_of groups = map (λ (group : Group). group.0) groups

-- the partial results of a key, if it is there
abbrev pub partials_at : Row → List Group → Option (List Partial)
partials_at key groups = option_map (λ (group : Group). group.1) (find (λ (group : Group). same_row group.0 key) groups)

-- the partial results of a key, which are those of no rows where it is not there
abbrev pub partials_or_none : Query → Row → List Group → List Partial
partials_or_none query key groups = unwrap_or (partials_at key groups) (partials query [])

-- the groups of two lists of rows appended: the keys of either, in key order, each with the partial results of both
abbrev pub combine_parts : Query → List Group → List Group → List Group
combine_parts query xs ys =
    map (λ key. (key, combine_all (functions query) (partials_or_none query key xs) (partials_or_none query key ys)))
    (distinct row_cmp (keys_of xs ++ keys_of ys))

-- the partial results after one more row, which moves on those of the aggregates that it reaches
abbrev pub advanced : List Aggregate → List Partial → Row → List Partial
advanced (aggregate ∷ aggregates) (p ∷ ps) row =
    (if is_met (column_of row) aggregate.filter then transition aggregate.function p (argument aggregate.column row) else p)
    ∷ advanced aggregates ps row
advanced aggregates ps row = []

-- the groups after one more row that WHERE keeps: its key's partial results are written anew, in key order
abbrev pub with_row : Query → List Group → Row → List Group
with_row query groups row =
    insert_entry row_cmp groups (key_of query row)
    (advanced query.aggregates (partials_or_none query (key_of query row) groups) row)
