-- Conditions and their meaning in three-valued logic (PostgreSQL 17, 9.1 Logical Operators, 9.2 Comparison Functions
-- and Operators). A checked query compares values of one kind alone, and its operands of logic are boolean or null;
-- what these definitions give elsewhere does not matter.
use Rattle.std.specs.Prelude.{Bool, true, false, not}
use Rattle.std.specs.declared.cmp.Ordering.{Ordering}
use Rattle.std.specs.Ordering.{int_cmp, is_eq, is_ne, is_lt, is_le, is_gt, is_ge}
use Rattle.std.specs.Prelude.{Option, Some, None}
use Rattle.grouping_model.specs.Datum.{Datum, Null, Bigint, Boolean, datum_cmp}
use Rattle.grouping_model.specs.Aggregates.{Outcome, Plain, Numeric}

-- the three truth values
pub data Truth : Type 0 where
  True False Unknown : Truth

-- = <> < <= > >= (PostgreSQL 17, Table 9.1)
pub data Comparison : Type 0 where
  Equal Unequal Less At_most More At_least : Comparison

-- what an IS test looks for (PostgreSQL 17, Table 9.2)
pub data Test : Type 0 where
  Is_null Is_true Is_false Is_unknown : Test

-- a condition over leaves: the columns of a row, or the keys and results of a group
-- (PostgreSQL 17, 4.2 Value Expressions; which forms there are is our own)
pub data Condition (Leaf : Type 0) : Type 0 where
  At : Leaf → Condition Leaf
  Literal : Datum → Condition Leaf
  Not : Condition Leaf → Condition Leaf
  And : Condition Leaf → Condition Leaf → Condition Leaf
  Or : Condition Leaf → Condition Leaf → Condition Leaf
  Compare : Comparison → Condition Leaf → Condition Leaf → Condition Leaf
  Is : Test → Condition Leaf → Condition Leaf
  Is_not : Test → Condition Leaf → Condition Leaf

-- a truth value that is known
abbrev pub truth_of_bool : Bool → Truth
truth_of_bool true = True
truth_of_bool false = False

-- an operand as a truth value, and back: null is unknown (PostgreSQL 17, 8.6 Boolean Type)
abbrev pub truth : Outcome → Truth
truth (Plain (Boolean b)) = truth_of_bool b
truth other = Unknown

abbrev pub as_outcome : Truth → Outcome
as_outcome True = Plain (Boolean true)
as_outcome False = Plain (Boolean false)
as_outcome Unknown = Plain Null

-- NOT: unknown stays unknown (PostgreSQL 17, 9.1)
abbrev pub truth_not : Truth → Truth
truth_not True = False
truth_not False = True
truth_not Unknown = Unknown

-- AND: false if a side is, else unknown if a side is, else true (PostgreSQL 17, 9.1)
abbrev pub truth_and : Truth → Truth → Truth
truth_and False t = False
truth_and s False = False
truth_and Unknown t = Unknown
truth_and s Unknown = Unknown
truth_and True True = True

-- OR: true if a side is, else unknown if a side is, else false (PostgreSQL 17, 9.1)
abbrev pub truth_or : Truth → Truth → Truth
truth_or True t = True
truth_or s True = True
truth_or Unknown t = Unknown
truth_or s Unknown = Unknown
truth_or False False = False

-- how two operands compare, if neither is null. A bigint and a numeric compare by their values
-- (PostgreSQL 17, 9.2; 10.2, by which the bigint is taken as a numeric)
abbrev pub outcome_cmp : Outcome → Outcome → Option Ordering
outcome_cmp (Plain Null) y = None
outcome_cmp x (Plain Null) = None
outcome_cmp (Numeric x) (Numeric y) = Some (int_cmp x y)
outcome_cmp (Numeric x) (Plain (Bigint y)) = Some (int_cmp x y)
outcome_cmp (Plain (Bigint x)) (Numeric y) = Some (int_cmp x y)
outcome_cmp (Plain x) (Plain y) = Some (datum_cmp x y)
outcome_cmp x y = None

-- whether a comparison is true of two operands in this order
abbrev pub holds_of : Comparison → Ordering → Bool
holds_of Equal order = is_eq order
holds_of Unequal order = is_ne order
holds_of Less order = is_lt order
holds_of At_most order = is_le order
holds_of More order = is_gt order
holds_of At_least order = is_ge order

-- a comparison by order: unknown where there is no order, since a side is null (PostgreSQL 17, 9.2)
abbrev pub by_order : Comparison → Option Ordering → Truth
by_order comparison None = Unknown
by_order comparison (Some order) = truth_of_bool (holds_of comparison order)

-- a comparison of two values, by their order (PostgreSQL 17, Table 9.1)
abbrev pub compared : Comparison → Outcome → Outcome → Truth
compared comparison x y = by_order comparison (outcome_cmp x y)

-- an IS test: IS NULL and IS UNKNOWN are true of null alone, IS TRUE and IS FALSE are false of null (PostgreSQL 17, 9.2)
abbrev pub passes : Test → Outcome → Bool
passes Is_null (Plain Null) = true
passes Is_unknown (Plain Null) = true
passes Is_true (Plain (Boolean b)) = b
passes Is_false (Plain (Boolean b)) = not b
passes test other = false

-- the value of a condition, at the values of its leaves
abbrev pub value_of : {Leaf : Type 0} → (Leaf → Outcome) → Condition Leaf → Outcome
value_of leaf (At place) = leaf place
value_of leaf (Literal value) = Plain value
value_of leaf (Not c) = as_outcome (truth_not (truth (value_of leaf c)))
value_of leaf (And c d) = as_outcome (truth_and (truth (value_of leaf c)) (truth (value_of leaf d)))
value_of leaf (Or c d) = as_outcome (truth_or (truth (value_of leaf c)) (truth (value_of leaf d)))
value_of leaf (Compare comparison c d) = as_outcome (compared comparison (value_of leaf c) (value_of leaf d))
value_of leaf (Is test c) = Plain (Boolean (passes test (value_of leaf c)))
value_of leaf (Is_not test c) = Plain (Boolean (not (passes test (value_of leaf c))))

-- true, and not false or unknown
abbrev pub is_true : Truth → Bool
is_true True = true
is_true other = false

-- whether a condition is true, and not false or unknown. No condition counts as true (PostgreSQL 17, 7.2.2 The WHERE Clause: if the result
-- is true, the row is kept, otherwise, false or null, it is discarded)
abbrev pub is_met : {Leaf : Type 0} → (Leaf → Outcome) → Option (Condition Leaf) → Bool
is_met leaf None = true
is_met leaf (Some c) = is_true (truth (value_of leaf c))
