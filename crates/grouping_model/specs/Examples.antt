-- Worked examples: tables, queries and the answers that they must have.
use Rattle.std.specs.Prelude.{ℕ, ◌-◌, ◌==◌, ◌&&◌, ◌^◌, true, false, List, [], ◌∷◌, ℤ, pos, negsuc, Some, None, option_map, find, codes}
use Rattle.grouping_model.specs.Datum.{Datum, Null, Bigint, Boolean, Text, Bigint_kind, Boolean_kind, Text_kind, Row}
use Rattle.grouping_model.specs.Aggregates.{Function, Count_rows, Count, Sum, Min, Max, Bit_and, Bit_or, Bit_xor, Bool_and, Bool_or, Every}
use Rattle.grouping_model.specs.Aggregates.{Outcome, Plain, Numeric}
use Rattle.grouping_model.specs.Condition.{At, Literal, Compare, Is, More, Equal, Is_null}
use Rattle.grouping_model.specs.Query.{Query, Aggregate, Key, Call}
use Rattle.grouping_model.specs.Order.{unarranged}
use Rattle.grouping_model.specs.World.{World, Batch, Knowledge, knowing}

-- the world of these batches
abbrev pub world_of : List (Batch × List Row) → World
world_of batches origin number = option_map (λ (entry : Batch × List Row). entry.1) (find (λ (entry : Batch × List Row). entry.0.0 == origin
    && entry.0.1 == number) batches)

-- a row of a text and a number, and an answer's row of a text, a count and a sum
abbrev pub pair : Datum → ℤ → Row
pair text z = text ∷ Bigint z ∷ []

abbrev pub triple : Datum → ℕ → ℤ → List Outcome
triple text n z = Plain text ∷ Plain (Bigint (pos n)) ∷ Numeric z ∷ []

abbrev pub oslo : Datum
oslo = Text (codes "oslo")

abbrev pub bergen : Datum
bergen = Text (codes "bergen")

-- count(*) of every row
abbrev pub of_rows : Aggregate
of_rows = record { function = Count_rows; column = None; filter = None }

-- an aggregate of a column
abbrev pub of_column : Function → ℕ → Aggregate
of_column function column = record { function = function; column = Some column; filter = None }

-- SELECT c, count(*), sum(d) FROM batches GROUP BY c, over the columns c text, d bigint
abbrev pub sums : Query
sums =
    record {
      kinds = Text_kind ∷ Bigint_kind ∷ [];
      items = Key 0 ∷ Call 0 ∷ Call 1 ∷ [];
      condition = None;
      keys = 0 ∷ [];
      aggregates = of_rows ∷ of_column Sum 1 ∷ [];
      having = None;
      arrangement = unarranged;
    }

-- one batch of three rows
abbrev pub three_rows : World
three_rows = world_of (((0, 1), pair oslo (pos 5) ∷ pair bergen (pos 7) ∷ pair oslo (negsuc 1) ∷ []) ∷ [])

-- three batches of a row each
abbrev pub three_batches : World
three_batches = world_of (((0, 1), pair oslo (pos 5) ∷ []) ∷ ((0, 2), pair bergen (pos 7) ∷ []) ∷ ((0, 3), pair oslo (pos 100) ∷ []) ∷ [])

-- batches 1 to 5 of origin 0 are known, and batches 6 and 8
abbrev pub one_to_five : Knowledge
one_to_five = knowing ((0, 1) ∷ (0, 2) ∷ (0, 3) ∷ (0, 4) ∷ (0, 5) ∷ [])

abbrev pub six_and_eight : Knowledge
six_and_eight = knowing ((0, 6) ∷ (0, 8) ∷ [])

-- SELECT count(*), sum(d) FROM batches, without GROUP BY
abbrev pub grand_total : Query
grand_total = record sums { items = Call 0 ∷ Call 1 ∷ []; keys = [] }

-- SELECT count(*) FROM batches HAVING count(*) > 0
abbrev pub any_rows : Query
any_rows =
    record sums {
      items = Call 0 ∷ [];
      keys = [];
      aggregates = of_rows ∷ [];
      having = Some (Compare More (At (Call 0)) (Literal (Bigint (pos 0))));
    }

-- the greatest and the least number of 64 bits, twice each
abbrev pub extremes : List Row
extremes =
    let x : Row = pair (Text (codes "x")) (pos (2 ^ 63 - 1)) in
    let y : Row = pair (Text (codes "y")) (negsuc (2 ^ 63 - 1)) in
    x ∷ x ∷ y ∷ y ∷ []

-- SELECT c, count(*), count(d), sum(d), min(d), bit_xor(d) FROM batches GROUP BY c
abbrev pub of_nulls : Query
of_nulls =
    record sums {
      items = Key 0 ∷ Call 0 ∷ Call 1 ∷ Call 2 ∷ Call 3 ∷ Call 4 ∷ [];
      aggregates = of_rows ∷ of_column Count 1 ∷ of_column Sum 1 ∷ of_column Min 1 ∷ of_column Bit_xor 1 ∷ [];
    }

abbrev pub a : Datum
a = Text (codes "a")

abbrev pub nulls_and_numbers : List Row
nulls_and_numbers = (Null ∷ Null ∷ []) ∷ pair a (pos 3) ∷ (Null ∷ Null ∷ []) ∷ pair a (pos 5) ∷ []

-- rows of which the last has no number
abbrev pub last_unknown : List Row
last_unknown = pair a (pos 1) ∷ pair a (pos 2) ∷ (a ∷ Null ∷ []) ∷ []

-- SELECT count(*), count(*) FILTER (WHERE d > 1) AS big FROM batches
abbrev pub big_ones : Query
big_ones =
    record any_rows {
      items = Call 0 ∷ Call 1 ∷ [];
      aggregates =
          of_rows ∷ record { function = Count_rows; column = None; filter = Some (Compare More (At 1) (Literal (Bigint (pos 1)))) } ∷ [];
      having = None;
    }

-- SELECT count(*) FROM batches WHERE d = d IS NULL, which reads (d = d) IS NULL
abbrev pub not_itself : Query
not_itself = record any_rows { condition = Some (Is Is_null (Compare Equal (At 1) (At 1))); having = None }

-- SELECT bool_and(b), bool_or(b), every(b), bit_and(d), bit_or(d), max(d) FROM batches, over b boolean, d bigint
abbrev pub bits_and_booleans : Query
bits_and_booleans =
    record {
      kinds = Boolean_kind ∷ Bigint_kind ∷ [];
      items = Call 0 ∷ Call 1 ∷ Call 2 ∷ Call 3 ∷ Call 4 ∷ Call 5 ∷ [];
      condition = None;
      keys = [];
      aggregates = of_column Bool_and 0 ∷ of_column Bool_or 0 ∷ of_column Every 0 ∷ of_column Bit_and 1 ∷ of_column Bit_or 1
          ∷ of_column Max 1 ∷ [];
      having = None;
      arrangement = unarranged;
    }

abbrev pub twelve_and_ten : List Row
twelve_and_ten = (Boolean true ∷ Bigint (pos 12) ∷ []) ∷ (Boolean false ∷ Bigint (pos 10) ∷ []) ∷ (Null ∷ Null ∷ []) ∷ []

-- an answer's number
abbrev pub number : ℕ → Outcome
number n = Plain (Bigint (pos n))

-- four rows of a text and a number, of which one is null. The query is SELECT c, sum(d) FROM batches GROUP BY c ORDER BY 2 DESC, 1
abbrev pub one_absent : List Row
one_absent = pair a (pos 1) ∷ (Text (codes "b") ∷ Null ∷ []) ∷ pair (Text (codes "c")) (pos 5) ∷ pair (Text (codes "d")) (pos 1) ∷ []

abbrev pub by_sum : Query
by_sum =
    record sums {
      items = Key 0 ∷ Call 0 ∷ [];
      aggregates = of_column Sum 1 ∷ [];
      arrangement = record unarranged {
        order = record { item = 1; descending = true; nulls_first = true } ∷ record { item = 0; descending = false; nulls_first = false }
            ∷ [];
      };
    }

-- the same with NULLS LAST
abbrev pub by_sum_nulls_last : Query
by_sum_nulls_last = record by_sum {
  arrangement = record unarranged {
    order = record { item = 1; descending = true; nulls_first = false }
        ∷ [];
  };
}

-- a row of a text and a sum
abbrev pub summed : List ℕ → ℤ → List Outcome
summed text z = Plain (Text text) ∷ Numeric z ∷ []

abbrev pub absent : List ℕ → List Outcome
absent text = Plain (Text text) ∷ Plain Null ∷ []
