-- How an answer's rows are arranged (PostgreSQL 17, 7.5 Sorting Rows (ORDER BY)).
use Rattle.std.specs.Prelude.{ℕ, Bool, true, false, if◌then◌else◌, List, [], ◌∷◌, map, slice_index_or}
use Rattle.std.specs.declared.cmp.Ordering.{Ordering}
use Rattle.std.specs.declared.cmp.Ordering.TheVariants.{Less, Equal, Greater}
use Rattle.std.specs.Ordering.{nat_cmp, int_cmp, then_cmp, on, is_lt}
use Rattle.grouping_model.specs.Sorting.{sorted_by}
use Rattle.grouping_model.specs.Datum.{Null, datum_cmp}
use Rattle.grouping_model.specs.Aggregates.{Outcome, Plain, Numeric}

-- a term: an item by its place, whether the greater values come first, and whether nulls come before all others
pub record Term : Type 0 where
  pub item : ℕ
  pub descending : Bool
  pub nulls_first : Bool

-- values by their order, and numerics by value. An item has values of one kind, so how a numeric compares with another kind does not matter
-- (own)
abbrev pub value_cmp : Outcome → Outcome → Ordering
value_cmp (Plain x) (Plain y) = datum_cmp x y
value_cmp (Numeric x) (Numeric y) = int_cmp x y
value_cmp (Plain x) (Numeric y) = Greater
value_cmp (Numeric x) (Plain y) = Less

-- where a value stands among nulls and others: a null at 0 or 2, all others at 1
abbrev pub null_rank : (nulls_first : Bool) → Outcome → ℕ
null_rank nulls_first (Plain Null) = if nulls_first then 0 else 2
null_rank nulls_first value = 1

-- ASC, or DESC
abbrev pub directed : (descending : Bool) → (Outcome → Outcome → Ordering)
directed true x y = value_cmp y x
directed false x y = value_cmp x y

-- the value of a term's item in a row; null beyond the last
abbrev pub value_of : Term → List Outcome → Outcome
value_of term row = slice_index_or row term.item (Plain Null)

-- how two values, and two rows, compare by a term
abbrev pub by_term : Term → Outcome → Outcome → Ordering
by_term term = then_cmp (on (null_rank term.nulls_first) nat_cmp) (directed term.descending)

abbrev pub term_cmp : Term → List Outcome → List Outcome → Ordering
term_cmp term = on (value_of term) (by_term term)

-- how two rows compare: by the first term that tells them apart
abbrev pub terms_cmp : List Term → List Outcome → List Outcome → Ordering
terms_cmp [] a b = Equal
terms_cmp (term ∷ terms) a b = then_cmp (term_cmp term) (terms_cmp terms) a b

-- whether a row comes before another by the terms
abbrev pub comes_before : List Term → List Outcome → List Outcome → Bool
comes_before terms a b = is_lt (terms_cmp terms a b)

-- rows in the order of the terms; those that no term tells apart keep their order
abbrev pub ordered : List Term → List (List Outcome) → List (List Outcome)
ordered terms rows = sorted_by (comes_before terms) rows

-- the clauses behind HAVING, which arrange the rows: ORDER BY, by such terms. No terms at all mean that there is none (PostgreSQL 17,
-- SELECT; that they are one record is our own)
pub record Arrangement (T : Type 0) : Type 0 where
  pub order : List T

-- the same clauses by other terms
abbrev pub map_arrangement : {T S : Type 0} → (T → S) → Arrangement T → Arrangement S
map_arrangement term arrangement = record { order = map term arrangement.order }

-- none of these clauses
abbrev pub unarranged : Arrangement Term
unarranged = record { order = [] }

-- rows as these clauses arrange them
abbrev pub arranged : Arrangement Term → List (List Outcome) → List (List Outcome)
arranged arrangement rows = ordered arrangement.order rows
