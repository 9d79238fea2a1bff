-- Lists of records that are left to later passes. All of this is our own.
use Rattle.std.specs.Prelude.{◌≡◌, ℕ, ◌+◌, ◌≤◌, ◌⊎◌, min, max, nat_lt, if◌then◌else◌, List, [], ◌∷◌, map, flat_map, Option, None}
use Rattle.std.specs.List.{AllByRecursion}
use Rattle.grouping_model.specs.Datum.{Row}
use Rattle.grouping_model.specs.Aggregates.{Partial}
use Rattle.grouping_model.specs.Query.{Query}
use Rattle.grouping_model.specs.Grouping.{Group}
use Rattle.grouping_model.specs.Parts.{partials_at}
use Rattle.aggregation_cost.specs.Cost.{Cost, greatest, cost_of, both, cost_from}
use Rattle.aggregation_cost.specs.Passes as cost
use Rattle.aggregation_cost.specs.Space.{Setting, need, fronts}
use Rattle.spill_partitions.specs.Partitions.{PendingPartition}
use Rattle.group_runs.specs.Runs.{Entry, packed_keys}
use Rattle.hash_agg.specs.Inputs.{OneByOne}
use Rattle.hash_agg.specs.Passes.{Piece, ArePieces, made_of, rows_at, AreGroupsBy, records_of, AreCosted}
use Rattle.hash_agg.specs.declared.work.Work.{Work}

-- list by list, these are pieces
abbrev pub AreListed : Query → (List ℕ → ℕ) → List PendingPartition → List (List Piece) → Type 0
AreListed query hash = OneByOne (λ list rest. ArePieces query hash list.records rest)

-- none of these is there; and exactly one of them is there, which is this one, or none is, if this one isn't
abbrev pub AreNone : List (Option (List Partial)) → Type 0
AreNone found = AllByRecursion (λ one. one ≡ None) found

abbrev pub IsOneOf : Option (List Partial) → List (Option (List Partial)) → Type 0
IsOneOf all [] = all ≡ None
IsOneOf all (one ∷ others) = ((one ≡ all) × AreNone others) ⊎ ((one ≡ None) × IsOneOf all others)

-- what the pieces of each list make up for a key
abbrev pub each_at : Query → Row → List (List Piece) → List (Option (List Partial))
each_at query key rests = map (λ rest. partials_at key (made_of query rest)) rests

-- what was read is in entries and in partitions: each group that the pieces make up is an entry, or is what the records of its key
-- make up in one of the partitions
pub record Waits (query : Query) (hash : List ℕ → ℕ) (pieces : List Piece) (entries : List Entry) (pending : List PendingPartition) :
    Type 0 where
  pub entered : List Group
  pub rests : List (List Piece)
  pub are : AreGroupsBy query (λ key. rows_at query key pieces) entries entered
  pub read : AreListed query hash pending rests
  pub parted : (key : Row) → IsOneOf (partials_at key (made_of query pieces)) (partials_at key entered ∷ each_at query key rests)
  pub fewer : AllByRecursion (λ rest. (key : Row) → rows_at query key rest ≤ rows_at query key pieces) rests

-- ---- what it costs

-- how deep the pass over a list is: below the eighth level, all are as deep
abbrev pub capped : ℕ → ℕ
capped level = if nat_lt level 8 then level else 8

-- list by list, these are passes of the cost
pub record IsLeft (query : Query) (setting : Setting) (list : PendingPartition) (pass : cost.Pass) : Type 0 where
  pub records : AreCosted query setting list.records pass.records
  pub level : list.level ≡ capped pass.level

abbrev pub AreLeft : Query → Setting → List PendingPartition → List cost.Pass → Type 0
AreLeft query setting = OneByOne (IsLeft query setting)

-- the passes that were made, and those over the partitions that are left, cost what is said of the pieces
pub record Costs (query : Query) (setting : Setting) (pieces : List Piece) (made : Cost) (pending : List PendingPartition) : Type 0 where
  pub passes : List cost.Pass
  pub left : AreLeft query setting pending passes
  pub fit : AllByRecursion (λ (pass : cost.Pass). cost.EachFits setting pass.records) passes
  pub whole : both made (cost_of setting (flat_map (cost.passes_from setting) passes))
      ≡ cost_from setting (record { level = 0; records = records_of query setting.width pieces })

-- a cost was added to what was counted. Counters stop at the greatest number that they can have
pub record AddsUp (old : Work) (more : Cost) (new : Work) : Type 0 where
  pub passes : new.passes ≡ min (old.passes + more.passes) 18446744073709551615
  pub spilled : new.spilled ≡ min (old.spilled + more.spilled) 340282366920938463463374607431768211455
  pub most_held : new.most_held ≡ max old.most_held more.most_held

-- a pass that took the keys of these entries and spilled this many records
abbrev pub pass_cost : ℕ → List Entry → ℕ → ℕ → Cost
pass_cost width entries spilled pages = record {
  passes = 1;
  spilled = spilled;
  pages = pages;
  most_held = greatest
      (map (need width) (fronts (packed_keys entries)));
}

-- what was counted is a cost
pub record IsWork (work : Work) (cost : Cost) : Type 0 where
  pub passes : work.passes ≡ cost.passes
  pub spilled : work.spilled ≡ cost.spilled
  pub most_held : work.most_held ≡ cost.most_held
