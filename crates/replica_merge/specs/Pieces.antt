-- The groups of several origins, piece by piece. All of this is our own.
use Rattle.std.specs.Prelude.{◌≡◌, ℕ, ◌*◌, ◌≤◌, Bool, true, false, List, [], ◌∷◌, length, map, sum_by, drop, slice_range}
use Rattle.std.specs.Prelude.{◌<◌, ◌↔◌, IsTrue, Option, Some, None, option_map}
use Rattle.std.specs.Borrow.{Bor}
use Rattle.std.specs.List.{AllByRecursion}
use Rattle.std.specs.Ordering.{is_lt, nat_cmp}
use Rattle.std.specs.Cmp.Lexicographic.{slice_cmp}
use Rattle.grouping_model.specs.Aggregates.{Outcome}
use Rattle.grouping_model.specs.Answer.{answered, rows_of}
use Rattle.grouping_model.specs.Grouping.{Group}
use Rattle.grouping_model.specs.Query.{Query}
use Rattle.grouping_model.specs.declared.limits.TheConstants.{MAX_ROWS}
use Rattle.agg_protocol.specs.States.{most_rows}
use Rattle.group_runs.specs.Runs.{Entry}
use Rattle.group_runs.specs.Standing.{AreGroups}
use Rattle.hash_agg.specs.Inputs.{Brought, Counted, OneByOne}
use Rattle.replica_merge.specs.Unions.{IsUnion}
use Rattle.replica_merge.specs.declared.pieces.Span.{Span}

-- the groups of a span, and those that it leaves
abbrev pub groups_of : Span → List Entry
groups_of span = slice_range span.part.now.run span.from span.to

abbrev pub left_of : Span → List Entry
left_of span = drop span.to span.part.now.run

-- a span is a part of its run
pub record IsSpan (span : Span) : Type 0 where
  pub order : span.from ≤ span.to
  pub within : span.to ≤ length span.part.now.run

-- what spans bring to a piece, and what they leave
abbrev pub brought_to : List Span → List Brought
brought_to spans = map (λ (span : Span). Counted (groups_of span) (span.part.now.prefix * MAX_ROWS)) spans

abbrev pub left_by : List Span → List Brought
left_by spans = map (λ (span : Span). Counted (left_of span) (span.part.now.prefix * MAX_ROWS)) spans

-- how many groups they leave
abbrev pub count_left : List Span → ℕ
count_left spans = sum_by (λ (span : Span). length (left_of span)) spans

-- whether a packed key comes into the next piece: that with keys below a key, or with all
abbrev pub comes : Option (List ℕ) → List ℕ → Bool
comes None key = true
comes (Some bound) key = is_lt (slice_cmp nat_cmp key bound)

-- the next span of an origin has the groups that come, of those that are left
pub record IsNext (bound : Option (List ℕ)) (old next : Span) : Type 0 where
  pub part : next.part ≡ old.part
  pub from : next.from ≡ old.to
  pub span : IsSpan next
  pub come : AllByRecursion (λ (e : Entry). comes bound e.0 ≡ true) (groups_of next)
  pub stay : AllByRecursion (λ (e : Entry). comes bound e.0 ≡ false) (left_of next)

abbrev pub AreNext : Option (List ℕ) → List Span → List Span → Type 0
AreNext bound olds nexts = OneByOne (IsNext bound) olds nexts

-- a run has only keys of these runs
abbrev pub HasKeysOf : List (List Entry) → List Entry → Type 0
HasKeysOf runs run = (p : List ℕ → Bool)
    → AllByRecursion (λ (one : List Entry). AllByRecursion (λ (e : Entry). p e.0 ≡ true) one) runs
    → AllByRecursion (λ (e : Entry). p e.0 ≡ true) run

-- the piece of spans
pub record IsPiece (query : Query) (spans : List Span) (run : List Entry) : Type 0 where
  pub union : IsUnion query (brought_to spans) run
  pub keys : HasKeysOf (map groups_of spans) run

-- where the groups end that come, of those that a span leaves
pub record IsEnd (bound : Option (List ℕ)) (span : Span) (end : ℕ) : Type 0 where
  pub order : span.to ≤ end
  pub within : end ≤ length span.part.now.run
  pub come : AllByRecursion (λ (e : Entry). comes bound e.0 ≡ true) (slice_range span.part.now.run span.to end)
  pub stay : AllByRecursion (λ (e : Entry). comes bound e.0 ≡ false) (drop end span.part.now.run)

-- a key that bounds a piece, or none
abbrev pub bound_of : Option (Bor (List ℕ)) → Option (List ℕ)
bound_of key = option_map (λ (k : Bor (List ℕ)). k.now) key

-- a span that has groups, and one that leaves some
abbrev pub HasGroups : Span → Type 0
HasGroups span = span.from < span.to

abbrev pub HasLeft : Span → Type 0
HasLeft span = span.to < length span.part.now.run

-- a copy of the groups of a span, or of none
abbrev pub IsCopy : List Span → List Entry → Type 0
IsCopy [] run = run ≡ []
IsCopy (span ∷ []) run = run ≡ groups_of span
IsCopy (span ∷ other ∷ spans) run = Unit {0}

-- the spans of a next piece, which leave fewer groups
pub record AreOfNext (olds nexts : List Span) : Type 0 where
  pub bound : Option (List ℕ)
  pub next : AreNext bound olds nexts
  pub fewer : 0 < count_left olds → count_left nexts < count_left olds

-- rows are those of the groups of a run
abbrev pub RowsOf : Query → List Entry → List (List Outcome) → Type 0
RowsOf query run rows = (most : ℕ) (groups : List Group) → most ≤ most_rows → AreGroups query most run groups → rows ≡ rows_of query groups

-- rows are those of a piece, and whether it has no groups
pub record ShowPiece (query : Query) (spans : List Span) (rows : List (List Outcome)) (is_empty : Bool) : Type 0 where
  pub run : List Entry
  pub piece : IsPiece query spans run
  pub shown : RowsOf query run rows
  pub none : IsTrue is_empty ↔ (run ≡ [])

-- rows are those of the groups of one run that has all groups that spans leave
pub record ShowLeft (query : Query) (spans : List Span) (rows : List (List Outcome)) : Type 0 where
  pub run : List Entry
  pub union : IsUnion query (left_by spans) run
  pub shown : (most : ℕ) (groups : List Group) → most ≤ most_rows → AreGroups query most run groups
      → rows ≡ rows_of query (answered query groups)
