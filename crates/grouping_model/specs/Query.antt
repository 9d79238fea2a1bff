-- A query that was checked: its names are places, and its operands have kinds that fit (PostgreSQL 17, 2.7, 7.2, 7.3 and 7.5).
use Rattle.std.specs.Prelude.{ℕ, List, Option}
use Rattle.grouping_model.specs.Datum.{Kind}
use Rattle.grouping_model.specs.Aggregates.{Function}
use Rattle.grouping_model.specs.Condition.{Condition}
use Rattle.grouping_model.specs.Order.{Term, Arrangement}

-- an aggregate: its function, the place of its column (count(*) has none), and FILTER, which rows reach it
-- (PostgreSQL 17, 4.2.7 Aggregate Expressions)
pub record Aggregate : Type 0 where
  pub function : Function
  pub column : Option ℕ
  pub filter : Option (Condition ℕ)

-- what an answer's rows are made of: a key, by its place among the keys, or an aggregate, by its place among those
pub data Source : Type 0 where
  Key : ℕ → Source
  Call : ℕ → Source

-- the query. No keys at all means that there is no GROUP BY
pub record Query : Type 0 where
  -- the columns of the table
  pub kinds : List Kind
  -- what is selected, in order
  pub items : List Source
  -- WHERE, over columns by their places
  pub condition : Option (Condition ℕ)
  -- GROUP BY, the places of its columns, each once
  pub keys : List ℕ
  -- the distinct aggregates of the items and of HAVING
  pub aggregates : List Aggregate
  -- HAVING, over keys and aggregates
  pub having : Option (Condition Source)
  -- what stands behind HAVING, over the items
  pub arrangement : Arrangement Term
