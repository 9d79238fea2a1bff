-- Runs in segments. All of this is our own.
use Rattle.std.specs.Prelude.{◌≡◌, ℕ, ◌+◌, ◌<◌, ◌≤◌, List, [], ◌∷◌, length, take, drop, Some, slice_get, slice_set, map, sum_by}
use Rattle.std.specs.List.{AllByRecursion}
use Rattle.std.specs.declared.alloc.Global.{Global}
use Rattle.std.specs.declared.vec.Vec.{Vec}
use Rattle.packed_rows.specs.ConcatenatedRows.{concatenated, ends_of}
use Rattle.grouping_model.specs.Query.{Query}
use Rattle.group_runs.specs.Runs.{Entry, Rises}
use Rattle.group_runs.specs.Places.{AllBelow}
use Rattle.group_runs.specs.Steps.{AddsRun}

-- segments make up a run, and these are their ends
pub record AreSegments (segments : List (List Entry)) (ends : List ℕ) : Type 0 where
  pub ends_are : ends ≡ ends_of 0 segments
  pub rises : Rises (concatenated segments)

-- the group at a place is in this segment
pub record IsAmong (segments : List (List Entry)) (place at : ℕ) : Type 0 where
  pub segment : List Entry
  pub is : slice_get segments at ≡ Some segment
  pub behind : length (concatenated (take at segments)) ≤ place
  pub within : place < length (concatenated (take at segments)) + length segment

-- each of these groups has a key below that of each of the others
abbrev pub AreBefore : List Entry → List Entry → Type 0
AreBefore groups others = AllByRecursion (λ (e : Entry). AllBelow e.0 groups) others

-- of more groups, those from one place up to another enter this segment, which isn't one of the first. Those before them enter segments
-- before it, and those after them segments after it
pub record ComeInto (segments : List (List Entry)) (first : ℕ) (more : List Entry) (from at to : ℕ) : Type 0 where
  pub segment : List Entry
  pub is : slice_get segments at ≡ Some segment
  pub order : first ≤ at
  pub some : from < to
  pub within : to ≤ length more
  pub before : AreBefore (concatenated (take at segments)) (drop from more)
  pub behind : AreBefore (take to more) (concatenated (drop (at + 1) segments))
  pub beyond : AreBefore (concatenated (take (at + 1) segments)) (drop to more)
  pub left : to < length more → at + 1 < length segments

-- the pieces that a segment is cut into, if it is
abbrev pub ArePiecesOf : List Entry → List (List Entry) → Type 0
ArePiecesOf segment [] = Unit {0}
ArePiecesOf segment (piece ∷ pieces) = concatenated (piece ∷ pieces) ≡ segment

-- of each segment the pieces that it is cut into, if it is
abbrev pub AreCut : List (List Entry) → List (List (List Entry)) → Type 0
AreCut [] [] = Unit {0}
AreCut (segment ∷ segments) (pieces ∷ cuts) = ArePiecesOf segment pieces × AreCut segments cuts
AreCut segments cuts = ⊥

-- the pieces that the code has of each segment
abbrev pub all_pieces : List (Vec (List Entry) Global) → List (List (List Entry))
all_pieces cuts = map (λ (pieces : Vec (List Entry) Global). pieces.items) cuts

-- the most segments that there are once some are cut into such pieces
abbrev pub cut_count : List (List (List Entry)) → ℕ
cut_count cuts = sum_by (λ (pieces : List (List Entry)). length pieces + 1) cuts

-- segments, with others in the place of some
abbrev pub replaced : List (ℕ × List Entry) → List (List Entry) → List (List Entry)
replaced [] segments = segments
replaced (one ∷ fresh) segments = slice_set (replaced fresh segments) one.0 one.1

-- with these in the place of some, segments have more groups
pub record AddSegments (query : Query) (segments : List (List Entry)) (more : List Entry) (fresh : List (ℕ × List Entry)) : Type 0 where
  pub there : AllByRecursion (λ (one : ℕ × List Entry). one.0 < length segments) fresh
  pub added : AddsRun query (concatenated segments) more (concatenated (replaced fresh segments))
