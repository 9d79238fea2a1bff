-- Groups after more rows and more groups. All of this is our own.
use Rattle.std.specs.Prelude.{List, [], ◌∷◌, Option, Some, None, if◌then◌else◌}
use Rattle.std.specs.BTreeMap.{insert_entry}
use Rattle.grouping_model.specs.Datum.{Row, row_cmp}
use Rattle.grouping_model.specs.Aggregates.{Partial}
use Rattle.grouping_model.specs.Combining.{combine_all, transition}
use Rattle.grouping_model.specs.Condition.{is_met}
use Rattle.grouping_model.specs.Query.{Query, Aggregate}
use Rattle.grouping_model.specs.Grouping.{Group, argument, column_of}
use Rattle.grouping_model.specs.Parts.{functions, partials_at, with_row}

-- one more row, which WHERE keeps or rejects
abbrev pub row_added : Query → List Group → Row → List Group
row_added query groups row = if is_met (column_of row) query.condition then with_row query groups row else groups

abbrev pub rows_added : Query → List Group → List Row → List Group
rows_added query groups [] = groups
rows_added query groups (row ∷ rows) = rows_added query (row_added query groups row) rows

-- the partial results of a key, with more of them
abbrev pub merged : Query → Option (List Partial) → List Partial → List Partial
merged query None more = more
merged query (Some partials) more = combine_all (functions query) partials more

-- one more group, whose key is there or not
abbrev pub group_added : Query → List Group → Group → List Group
group_added query groups group = insert_entry row_cmp groups group.0 (merged query (partials_at group.0 groups) group.1)

abbrev pub groups_added : Query → List Group → List Group → List Group
groups_added query groups [] = groups
groups_added query groups (group ∷ more) = groups_added query (group_added query groups group) more

-- the partial result of an aggregate after one more row, which reaches it or not (PostgreSQL 17, 4.2.7)
abbrev pub partial_after_row : Aggregate → Partial → Row → Partial
partial_after_row aggregate p row =
    if is_met (column_of row) aggregate.filter then transition aggregate.function p (argument aggregate.column row) else p
