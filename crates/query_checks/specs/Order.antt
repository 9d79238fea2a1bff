-- ORDER BY: its terms as they are written, the items that they mean, and their text (PostgreSQL 17, 7.5 Sorting Rows, and SELECT, ORDER
-- BY Clause; that a term is the name or the place of an item, and no other expression, is our own).
use Rattle.std.specs.Prelude.{ℕ, ◌+◌, ◌-◌, ◌==◌, ◌&&◌, not, nat_le, ℤ, pos, Bool, true, false, if◌then◌else◌, List, [], ◌∷◌, ◌++◌, length}
use Rattle.std.specs.Prelude.{map, codes, string_bytes, Option, Some, None, option_map, is_some, unwrap_or, filter, position, FitsSigned}
use Rattle.std.specs.Int.{w64}
use Rattle.std.specs.List.{list_any, list_all, filter_map}
use Rattle.std.specs.Str.{bytes_eq}
use Rattle.query_tokens.specs.Words.{Integer}
use Rattle.query_tokens.specs.Spelling.{spell}
use Rattle.grouping_model.specs.Order.{Arrangement}
use Rattle.packed_rows.specs.Columns.{IsColumnName}
use Rattle.query_checks.specs.declared.order.OrderBy.{OrderBy}
use Rattle.query_checks.specs.declared.order.OrderBy.TheVariants as target
use Rattle.query_checks.specs.declared.order.RawTerm.{RawTerm}
use Rattle.query_checks.specs.declared.order.OrderTerm.{OrderTerm}
use Rattle.query_checks.specs.Forms.{Form, Written}
use Rattle.query_checks.specs.Labels.{label_of}
use Rattle.query_checks.specs.Sameness.{form_eq, first_of_each}
use Rattle.query_checks.specs.Parted.{parted}

-- what a term names: an item by its name, or by its place, the first being 1
pub data Target : Type 0 where
  By_name : List ℕ → Target
  By_place : ℤ → Target

-- a term: what it names, whether it is descending, and whether nulls come first, if it has NULLS
pub record Term : Type 0 where
  pub target : Target
  pub descending : Bool
  pub nulls_first : Option Bool

-- a query with the clauses after its HAVING
pub record Asked : Type 0 where
  pub written : Written (List ℕ)
  pub arrangement : Arrangement Term

-- the same of what the code reads
abbrev pub target_of : OrderBy → Target
target_of (target.Name name) = By_name (string_bytes name)
target_of (target.Place place) = By_place place

abbrev pub term_of : RawTerm → Term
term_of term = record { target = target_of term.target; descending = term.descending; nulls_first = term.nulls_first }

-- whether this is an item's name
abbrev pub has_name : List ℕ → Form (List ℕ) × Option (List ℕ) → Bool
has_name name item = bytes_eq name (label_of item)

-- the item at a place of this many, the first item being 0 and the first place 1
abbrev pub item_at : ℕ → ℤ → Option ℕ
item_at many (pos place) = if nat_le 1 place && nat_le place many then Some (place - 1) else None
item_at many other = None

-- the item that a term means: the one at its place, or of those with its name the leftmost
abbrev pub item_meant : List (Form (List ℕ) × Option (List ℕ)) → Target → Option ℕ
item_meant items (By_name name) = position (has_name name) items
item_meant items (By_place place) = item_at (length items) place

-- whether two of some items aren't the same column or call
abbrev pub differ : List (Form (List ℕ) × Option (List ℕ)) → Bool
differ items = list_any (λ a. list_any (λ b. not (form_eq bytes_eq a.0 b.0)) items) items

-- whether a term names two items that differ
abbrev pub is_ambiguous : List (Form (List ℕ) × Option (List ℕ)) → Target → Bool
is_ambiguous items (By_name name) = differ (filter (has_name name) items)
is_ambiguous items (By_place place) = false

-- a term that orders by an item. Unless it says otherwise, nulls count as greater than all else: they come first if it is
-- descending, and else last (PostgreSQL 17, 7.5)
abbrev pub ordered_by : Term → ℕ → OrderTerm
ordered_by term item = record { item = item; descending = term.descending; nulls_first = unwrap_or term.nulls_first term.descending }

-- the same of the item that it means, if it means exactly one
abbrev pub term_meant : List (Form (List ℕ) × Option (List ℕ)) → Term → Option OrderTerm
term_meant items term = if is_ambiguous items term.target then None else option_map (ordered_by term) (item_meant items term.target)

-- two terms order by one item
abbrev pub same_item : OrderTerm → OrderTerm → Bool
same_item a b = a.item == b.item

-- the order of the answer: the terms that mean an item, each unless one before it orders by this item (own: rows that the
-- earlier term does not tell apart, the later one does not either)
abbrev pub order_of : Asked → List OrderTerm
order_of q = first_of_each same_item (filter_map (term_meant q.written.items) q.arrangement.order)

-- whether each term names an item, and whether one names two
abbrev pub names_items : Asked → Bool
names_items q = list_all (λ term. is_some (item_meant q.written.items term.target)) q.arrangement.order

abbrev pub is_ambiguously_ordered : Asked → Bool
is_ambiguously_ordered q = list_any (λ term. is_ambiguous q.written.items term.target) q.arrangement.order

-- a term as its canonical text says it: the place of its item, and NULLS only where it says what the direction doesn't (own)
abbrev pub nulls_said : Bool → Bool → Option Bool
nulls_said false false = None
nulls_said false true = Some true
nulls_said true true = None
nulls_said true false = Some false

abbrev pub canonical_term : OrderTerm → Term
canonical_term term = record {
  target = By_place (pos (term.item + 1));
  descending = term.descending;
  nulls_first = nulls_said
      term.descending term.nulls_first;
}

-- the direction of a term, and where nulls come, unless that is the direction's default (PostgreSQL 17, 7.5)
abbrev pub direction_text : Bool → Bool → List ℕ
direction_text false false = []
direction_text false true = codes " NULLS FIRST"
direction_text true true = codes " DESC"
direction_text true false = codes " DESC NULLS LAST"

abbrev pub term_text : OrderTerm → List ℕ
term_text term = spell (Integer (pos (term.item + 1))) ++ direction_text term.descending term.nulls_first

abbrev pub order_text : List OrderTerm → List ℕ
order_text [] = []
order_text (term ∷ terms) = codes " ORDER BY " ++ parted (map term_text (term ∷ terms))

-- a term of ORDER BY has a name that a column can have, or a number of 64 bits in two's complement
abbrev pub IsTarget : Target → Type 0
IsTarget (By_name name) = IsColumnName name
IsTarget (By_place place) = FitsSigned w64 place

pub record IsTerm (term : Term) : Type 0 where
  pub target : IsTarget term.target
