-- The groups of a list of rows, and the partial results of each (PostgreSQL 17, 7.2.3 The GROUP BY and HAVING Clauses).
use Rattle.std.specs.Prelude.{ℕ, List, map, filter, Option, Some, None}
use Rattle.grouping_model.specs.Datum.{Datum, Null, Row, at_place, row_cmp, same_row}
use Rattle.grouping_model.specs.Rising.{distinct}
use Rattle.grouping_model.specs.Aggregates.{Partial, partial, Outcome, Plain}
use Rattle.grouping_model.specs.Condition.{is_met}
use Rattle.grouping_model.specs.Query.{Query, Aggregate}

-- the value of a column, as a condition reads it
abbrev pub column_of : Row → ℕ → Outcome
column_of row place = Plain (at_place row place)

-- the selected rows: those for which WHERE is true, in their order (PostgreSQL 17, 7.2.2)
abbrev pub selected : Query → List Row → List Row
selected query rows = filter (λ row. is_met (column_of row) query.condition) rows

-- the key of a row: its values in the columns of GROUP BY, and no value at all without GROUP BY
abbrev pub key_of : Query → Row → Row
key_of query row = map (at_place row) query.keys

-- the distinct keys of the selected rows, in key order (that they are ordered is our own)
abbrev pub keys : Query → List Row → List Row
keys query rows = distinct row_cmp (map (key_of query) (selected query rows))

-- the group of a key: the selected rows that have it
abbrev pub group : Query → List Row → Row → List Row
group query rows key = filter (λ row. same_row (key_of query row) key) (selected query rows)

-- what an aggregate takes from a row: the value of its column. For count(*), which has none, the row alone matters
abbrev pub argument : Option ℕ → Row → Datum
argument None row = Null
argument (Some place) row = at_place row place

-- the arguments of an aggregate: those of the rows for which its FILTER is true (PostgreSQL 17, 4.2.7)
abbrev pub arguments : Aggregate → List Row → List Datum
arguments aggregate rows = map (argument aggregate.column) (filter (λ row. is_met (column_of row) aggregate.filter) rows)

-- the partial results of a list of rows, one for each aggregate of the query
abbrev pub partials : Query → List Row → List Partial
partials query rows = map (λ aggregate. partial aggregate.function (arguments aggregate rows)) query.aggregates

-- a key, and the partial results of its group
abbrev pub Group : Type 0
Group = Row × List Partial

-- the partial result of a list of rows: each key with the partial results of its group, in key order
abbrev pub part : Query → List Row → List Group
part query rows = map (λ key. (key, partials query (group query rows key))) (keys query rows)
