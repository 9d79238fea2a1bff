-- The answer of a query over what is known of a world (PostgreSQL 17, 7.2.3, 7.3 Select Lists and 7.5 Sorting Rows).
use Rattle.std.specs.Prelude.{ℕ, List, [], ◌∷◌, map, filter, slice_index_or}
use Rattle.grouping_model.specs.Datum.{Null, Row}
use Rattle.grouping_model.specs.Aggregates.{Outcome, Plain, outcome}
use Rattle.grouping_model.specs.Condition.{is_met}
use Rattle.grouping_model.specs.Query.{Query, Source, Key, Call}
use Rattle.grouping_model.specs.Grouping.{Group, partials, part}
use Rattle.grouping_model.specs.Order.{arranged}
use Rattle.grouping_model.specs.World.{World, Knowledge, known_rows}

-- the value of a key or of an aggregate, given both as a group has them; null beyond the last
abbrev pub outcome_at : List Outcome → List Outcome → Source → Outcome
outcome_at key results (Key place) = slice_index_or key place (Plain Null)
outcome_at key results (Call place) = slice_index_or results place (Plain Null)

-- what HAVING and the items read of a group
abbrev pub source_in : Group → Source → Outcome
source_in group = outcome_at (map Plain group.0) (map outcome group.1)

-- the groups that make the answer. Without GROUP BY there is one, even over no rows (PostgreSQL 17, 7.2.3; 9.21 has
-- what functions answer when no rows are selected)
abbrev pub answered_of_none : Query → (keys : List ℕ) → List Group
answered_of_none query [] = ([], partials query []) ∷ []
answered_of_none query (place ∷ places) = []

abbrev pub answered : Query → List Group → List Group
answered query [] = answered_of_none query query.keys
answered query (group ∷ groups) = group ∷ groups

-- the rows that groups give: those of the groups for which HAVING is true, each with the values of the items
abbrev pub rows_of : Query → List Group → List (List Outcome)
rows_of query groups = map (λ group. map (source_in group) query.items) (filter (λ group. is_met (source_in group) query.having) groups)

-- the answer that groups give. Groups come in key order. So without ORDER BY the answer is in key order, and with it the rows that its
-- terms do not tell apart are (own)
abbrev pub answer_of : Query → List Group → List (List Outcome)
answer_of query groups = arranged query.arrangement (rows_of query (answered query groups))

-- the answer over a list of rows, and over the unbroken prefixes that are known of a world (own)
abbrev pub answer_over : Query → List Row → List (List Outcome)
answer_over query rows = answer_of query (part query rows)

abbrev pub answer : Query → World → Knowledge → List (List Outcome)
answer query world knowledge = answer_over query (known_rows world knowledge)
