-- A pass of an aggregation: groups in a table, and records that are left for the next pass. All of this is our own.
use Rattle.std.specs.Borrow.{Bor}
use Rattle.std.specs.Int.{w16, to_be_bytes}
use Rattle.std.specs.Prelude.{◌≡◌, ℕ, ◌+◌, ◌%◌, ◌^◌, ◌≤◌, ◌<◌, ◌⊎◌, if◌then◌else◌, true, List, [], ◌∷◌, ◌++◌, length, map, flat_map, sum_by}
use Rattle.std.specs.Prelude.{slice_get, slice_index, slice_set, Some, None}
use Rattle.byteorder.specs.Endian.{big_from}
use Rattle.context_tree.specs.Tree.{TreeState}
use Rattle.aggregation_cost.specs.Cost.{greatest}
use Rattle.aggregation_cost.specs.Passes as cost
use Rattle.aggregation_cost.specs.Space.{Setting, need, fronts}
use Rattle.group_table.specs.Space.{HoldsKeys, keys_in}
use Rattle.key_hashes.specs.SipHashes.{low_hash, sip_hash}
use Rattle.key_hashes.specs.declared.sip_hash.Seed.{Seed}
use Rattle.group_table.specs.Standing.{IsTableIn}
use Rattle.group_table.specs.Table.{TableState, groups, key_in, buckets_for, buckets_in, most_buckets}
use Rattle.key_hashes.specs.declared.sip_hash.SipHash.{SipHash}
use Rattle.group_table.specs.declared.table.Slot.{Slot}
use Rattle.grouping_model.specs.Datum.{Row, HasKinds, same_row}
use Rattle.grouping_model.specs.Condition.{is_met}
use Rattle.grouping_model.specs.Query.{Query}
use Rattle.grouping_model.specs.Grouping.{Group, column_of, key_of, partials}
use Rattle.grouping_model.specs.Parts.{functions, partials_at}
use Rattle.packed_rows.specs.Columns.{AreColumns}
use Rattle.packed_rows.specs.Packing.{packing}
use Rattle.spill_tapes.specs.Records.{Record}
use Rattle.spill_partitions.specs.Partitions.{PendingPartition}
use Rattle.spill_partitions.specs.Standing.{PartitionsState, HasPartitions, spilled_number, written_pages}
use Rattle.spill_partitions.specs.declared.partitions.OnTape.{OnTape}
use Rattle.agg_protocol.specs.States.{most_rows}
use Rattle.having_filter.specs.Kept.{IsWellFormed}
use Rattle.having_filter.specs.Meaning.{meaning}
use Rattle.hash_agg.specs.declared.plan.Plan.{Plan}
use Rattle.group_runs.specs.Runs.{Entry, packed_keys}
use Rattle.group_runs.specs.Standing.{AreStates, StandsFor, AreGroups, states_width}
use Rattle.hash_agg.specs.Inputs.{Brought, OneByOne, ArePackings, rows_in, Given, Of_rows, Of_groups}
use Rattle.group_runs.specs.Adding.{row_added, group_added}

-- ---- what is read

-- what a record stands for: a row of the table, or a group that counts at most this many rows
pub data Piece : Type 0 where
  Of_row : Row → Piece
  Of_group : Group → ℕ → Piece

-- the bytes of a group on a tape: the length of its key in two bytes, the highest first, its key, and its states
abbrev pub group_record : List ℕ → List ℕ → List ℕ
group_record key states = to_be_bytes w16 (length key) ++ (key ++ states)

-- a record on a tape is that of a row for which WHERE is true, since no other is spilled; or of a group. Its hash is that of its key
pub record IsRowRecord (query : Query) (hash : List ℕ → ℕ) (one : Record) (row : Row) : Type 0 where
  pub tag : one.tag ≡ 0
  pub of_kinds : HasKinds query.kinds row
  pub bytes : one.bytes ≡ packing row
  pub met : is_met (column_of row) query.condition ≡ true
  pub hashed : one.hash ≡ hash (packing (key_of query row))

pub record IsGroupRecord (query : Query) (hash : List ℕ → ℕ) (one : Record) (group : Group) (most : ℕ) : Type 0 where
  pub tag : one.tag ≡ 1
  pub states : List ℕ
  pub bytes : one.bytes ≡ group_record (packing group.0) states
  pub stands : StandsFor query most (packing group.0, states) group
  pub hashed : one.hash ≡ hash (packing group.0)

abbrev pub IsPiece : Query → (List ℕ → ℕ) → Record → Piece → Type 0
IsPiece query hash one (Of_row row) = IsRowRecord query hash one row
IsPiece query hash one (Of_group group most) = IsGroupRecord query hash one group most

abbrev pub ArePieces : Query → (List ℕ → ℕ) → List Record → List Piece → Type 0
ArePieces query hash = OneByOne (IsPiece query hash)

-- the key of the group to which it goes
abbrev pub piece_key : Query → Piece → Row
piece_key query (Of_row row) = key_of query row
piece_key query (Of_group group most) = group.0

-- the groups after one more of them, and after some
abbrev pub piece_added : Query → List Group → Piece → List Group
piece_added query groups (Of_row row) = row_added query groups row
piece_added query groups (Of_group group most) = group_added query groups group

abbrev pub pieces_added : Query → List Group → List Piece → List Group
pieces_added query groups [] = groups
pieces_added query groups (piece ∷ pieces) = pieces_added query (piece_added query groups piece) pieces

-- the groups that some of them make up
abbrev pub made_of : Query → List Piece → List Group
made_of query pieces = pieces_added query [] pieces

-- how many rows those of a key count at most
abbrev pub weight : Piece → ℕ
weight (Of_row row) = 1
weight (Of_group group most) = most

abbrev pub rows_at : Query → Row → List Piece → ℕ
rows_at query key pieces = sum_by (λ piece. if same_row (piece_key query piece) key then weight piece else 0) pieces

-- no group that they make up counts more rows
abbrev pub CountUpTo : Query → ℕ → List Piece → Type 0
CountUpTo query most pieces = (key : Row) → rows_at query key pieces ≤ most

-- ---- entries

-- no two entries have the same key
abbrev pub AreOnce : List Entry → Type 0
AreOnce entries = (i j : ℕ) (x y : Entry) → slice_get entries i ≡ Some x → slice_get entries j ≡ Some y → x.0 ≡ y.0 → i ≡ j

-- ---- the table of a pass

-- the groups of a pass: a table, which has a hash function of its own; the tree in which it lies; the most bytes of blocks that it held
-- since it was empty; and the hash function by which records are spilled
pub record GroupsState (H : Type 0) : Type 0 where
  pub table : TableState SipHash
  pub tree : TreeState
  pub most_held : ℕ
  pub hash : H

-- its groups in the order in which they came
abbrev pub entries_of : {H : Type 0} → GroupsState H → List Entry
entries_of g = groups g.table g.tree

-- it is a table of that tree, in which it holds what its keys need and nothing else is held; and it never held more than it needed
-- while one of these entered
pub record AreHeld {H : Type 0} (g : GroupsState H) : Type 0 where
  pub in_tree : IsTableIn low_hash g.table g.tree
  pub by_keys : HoldsKeys g.table g.tree
  pub most : g.most_held ≡ greatest (map (need g.table.width) (fronts (keys_in g.table g.tree)))

-- the states of the group of a slot are moved on by a row, or combined with others, and all else stays
abbrev pub WritesAt : {H : Type 0} → GroupsState H → Slot → (List ℕ → Type 0) → GroupsState H → Type 0
WritesAt old slot P new =
    (place : ℕ)
    → slice_get old.table.slots place ≡ Some slot
    → (states : List ℕ) × P states × (entries_of new ≡ slice_set (entries_of old) place (key_in old.table old.tree slot, states))

-- one more group can have a bucket
abbrev pub HasPlace : {H : Type 0} → GroupsState H → Type 0
HasPlace g = buckets_for (buckets_in g.table.array) (length g.table.slots) ≤ most_buckets

-- ---- a pass

-- groups are divided in two: each key's partial results are those of one of them, and the other has no such key
abbrev pub IsParted : List Group → List Group → List Group → Type 0
IsParted all some others =
    (key : Row)
    → ((partials_at key all ≡ partials_at key some) × (partials_at key others ≡ None))
    ⊎ ((partials_at key all ≡ partials_at key others) × (partials_at key some ≡ None))

-- entry by entry, these stand for groups, that of a key counting at most as many rows as are said of the key
abbrev pub AreGroupsBy : Query → (Row → ℕ) → List Entry → List Group → Type 0
AreGroupsBy query most = OneByOne (λ entry group. StandsFor query (most group.0) entry group)

-- what was read is in entries and in records that are left: each group that the pieces make up is an entry, or is what the records
-- of its key make up
pub record Stands (query : Query) (hash : List ℕ → ℕ) (pieces : List Piece) (entries : List Entry) (left : List Record) : Type 0 where
  pub entered : List Group
  pub rest : List Piece
  pub are : AreGroupsBy query (λ key. rows_at query key pieces) entries entered
  pub read : ArePieces query hash left rest
  pub parted : IsParted (made_of query pieces) entered (made_of query rest)
  pub fewer : (key : Row) → rows_at query key rest ≤ rows_at query key pieces

-- ---- what it costs

-- a limit and a hash function for the groups of a query, as the cost has them
abbrev pub setting_for : Query → ℕ → (List ℕ → ℕ) → Setting
setting_for query limit hash = record { limit = limit; width = states_width query; hash = hash }

-- what a piece is to the cost model: nothing if WHERE rejects it; for a row a record of its packing; for a group a record of its key and
-- its states, which have the same width in every group
abbrev pub cost_records : Query → ℕ → Piece → List cost.Record
cost_records query width (Of_row row) = if is_met (column_of row) query.condition
    then cost.of_row (packing (key_of query row)) (packing row) ∷ [] else []
cost_records query width (Of_group group most) = cost.of_group (packing group.0) width ∷ []

abbrev pub records_of : Query → ℕ → List Piece → List cost.Record
records_of query width pieces = flat_map (cost_records query width) pieces

-- a record on a tape is that of a piece which is this record of the cost
pub record IsCosted (query : Query) (setting : Setting) (one : Record) (costed : cost.Record) : Type 0 where
  pub piece : Piece
  pub is : IsPiece query setting.hash one piece
  pub costs : cost_records query setting.width piece ≡ costed ∷ []
  pub hashed : one.hash ≡ setting.hash costed.key
  pub long : 9 + length one.bytes ≡ costed.on_tape

abbrev pub AreCosted : Query → Setting → List Record → List cost.Record → Type 0
AreCosted query setting = OneByOne (IsCosted query setting)

-- of what it has read, a pass took the keys and spilled the records that the cost says; it has partitions once it spilled
pub record Spills (query : Query) (setting : Setting) (pieces : List Piece) (entries : List Entry) (partitions : List OnTape)
    (left : List Record) : Type 0 where
  pub took : packed_keys entries ≡ cost.taken_from setting (records_of query setting.width pieces)
  pub spilled : AreCosted query setting left (cost.spilled_from setting (records_of query setting.width pieces))
  pub begun : cost.is_empty partitions ≡ cost.is_empty left

-- over any disk: entries stand for groups of the query that count at most this many rows each
abbrev pub AreSafe : Query → ℕ → List Entry → Type 0
AreSafe query most entries = (entered : List Group) × AreGroupsBy query (λ key. most) entries entered

-- ---- a pass

-- the table finds keys by SipHash-1-3 with this seed
abbrev pub FindsBy : {H : Type 0} → Seed → GroupsState H → Type 0
FindsBy seed g = (key : List ℕ) → low_hash g.table.hash key ≡ sip_hash seed key % 2 ^ 32

-- a table that finds keys as before, with its seed, beside the same hash function; its states are as long, and it held no more than a limit
-- if it did so before
pub record IsSameTable {H : Type 0} (limit : ℕ) (old new : GroupsState H) : Type 0 where
  pub width : new.table.width ≡ old.table.width
  pub hash : new.hash ≡ old.hash
  pub finds : new.table.hash ≡ old.table.hash
  pub within : old.most_held ≤ limit → new.most_held ≤ limit

-- groups were made: there is none yet; their states have this width; records are spilled by this hash function, and the table finds keys by
-- this seed
pub record IsMade {H : Type 0} (width : ℕ) (hash : H) (seed : Seed) (made : GroupsState H) : Type 0 where
  pub empty : entries_of made ≡ []
  pub width_is : made.table.width ≡ width
  pub hash_is : made.hash ≡ hash
  pub finds : FindsBy seed made
  pub held : made.most_held ≡ 0

-- a table between two aggregations: how many bytes a state has, and the seed by which it finds keys
pub record IdleState : Type 0 where
  pub width : ℕ
  pub seed : Seed

abbrev pub seed_of : IdleState → Seed
seed_of idle = idle.seed

-- it has no group, and holds what a table without one holds
pub record IsIdle (table : TableState SipHash) (tree : TreeState) (width : ℕ) (seed : Seed) : Type 0 where
  pub in_tree : IsTableIn low_hash table tree
  pub by_keys : HoldsKeys table tree
  pub empty : table.slots ≡ []
  pub width_is : table.width ≡ width
  pub finds : (key : List ℕ) → low_hash table.hash key ≡ sip_hash seed key % 2 ^ 32

-- what all passes of an aggregation have in common: a checked query, the states before any row, the most rows that a group counts,
-- and a limit within which each group fits by itself
pub record IsPlan (plan : Plan) : Type 0 where
  pub columns : AreColumns plan.query.now.columns
  pub formed : IsWellFormed (meaning plan.query.now)
  pub states : AreStates (functions (meaning plan.query.now)) 0 plan.first.items (partials (meaning plan.query.now) [])
  pub few : plan.most ≤ most_rows
  pub width : length plan.first.items ≡ states_width (meaning plan.query.now)
  pub narrow : length plan.first.items ≤ 8184
  pub limit : 32768 ≤ plan.limit

-- where a pass stands: its entries, its partitions, and what the disk of these has
pub record PassState : Type 1 where
  pub entries : List Entry
  pub spill : PartitionsState
  pub last : ℕ → ℕ → Type 0

abbrev pub standing : {H : Type 0} → GroupsState H → PartitionsState → (ℕ → ℕ → Type 0) → PassState
standing groups spill last = record { entries = entries_of groups; spill = spill; last = last }

-- what all passes have in common as the cost has it
abbrev pub setting_of : Plan → (List ℕ → ℕ) → Setting
setting_of plan hash = record { limit = plan.limit; width = length plan.first.items; hash = hash }

-- what a pass has read is in its entries, and in the partitions to which it spills, as the cost says. It has these records still to read,
-- and these partitions are left to later passes
abbrev pub Holds : Query → Setting → PassState → List Piece → List Record → List PendingPartition → Type 0
Holds query setting pass pieces ahead pending =
    (spilled : List Record)
    × HasPartitions pass.last pass.spill spilled ahead pending
    × Stands query setting.hash pieces pass.entries spilled
    × Spills query setting pieces pass.entries pass.spill.partitions spilled

-- these pieces are read, if they and those before them count few enough rows
abbrev pub Reads : Plan → (List ℕ → ℕ) → (List Piece → Type 0) → PassState → PassState → Type 0
Reads plan hash Are old new =
    (pieces more : List Piece) (ahead : List Record) (pending : List PendingPartition)
    → Holds (meaning plan.query.now) (setting_of plan hash) old pieces ahead pending
    → Are more
    → CountUpTo (meaning plan.query.now) plan.most (pieces ++ more)
    → Holds (meaning plan.query.now) (setting_of plan hash) new (pieces ++ more) ahead pending

-- they can be read: over an honest disk they are not refused
abbrev pub CanRead : Plan → (List ℕ → ℕ) → (List Piece → Type 0) → PassState → Type 0
CanRead plan hash Are old =
    (pieces more : List Piece) × (ahead : List Record) × (pending : List PendingPartition)
    × Holds (meaning plan.query.now) (setting_of plan hash) old pieces ahead pending
    × Are more
    × CountUpTo (meaning plan.query.now) plan.most (pieces ++ more)

-- the records of the partition that a pass reads are read
abbrev pub ReadsPartition : Plan → (List ℕ → ℕ) → PassState → PassState → Type 0
ReadsPartition plan hash old new =
    (records : List Record) (pieces : List Piece) (pending : List PendingPartition)
    → HasPartitions old.last old.spill [] records pending
    → ArePieces (meaning plan.query.now) hash records pieces
    → CountUpTo (meaning plan.query.now) plan.most pieces
    → Holds (meaning plan.query.now) (setting_of plan hash) new pieces [] pending

abbrev pub CanReadPartition : Plan → (List ℕ → ℕ) → PassState → Type 0
CanReadPartition plan hash old =
    (records : List Record) × (pieces : List Piece) × (pending : List PendingPartition)
    × HasPartitions old.last old.spill [] records pending
    × ArePieces (meaning plan.query.now) hash records pieces
    × CountUpTo (meaning plan.query.now) plan.most pieces

-- the pieces of packed rows; and of the groups of a run
abbrev pub AreRows : Query → List (List ℕ) → List Piece → Type 0
AreRows query packed more = (rows : List Row) × ArePackings query.kinds packed rows × (more ≡ map Of_row rows)

abbrev pub AreOfRun : Query → ℕ → List Entry → List Piece → Type 0
AreOfRun query most run more = (groups : List Group) × AreGroups query most run groups × (more ≡ map (λ group. Of_group group most) groups)

-- what an input gives, as pieces; and what all give
abbrev pub given_pieces : Brought → Given → List Piece
given_pieces input (Of_rows rows) = map Of_row rows
given_pieces input (Of_groups groups) = map (λ group. Of_group group (rows_in input)) groups

abbrev pub all_pieces : List Brought → List Given → List Piece
all_pieces (input ∷ inputs) (given ∷ givens) = given_pieces input given ++ all_pieces inputs givens
all_pieces inputs givens = []

-- ---- how many groups there can be

-- the groups of a pass and the records that it spilled
abbrev pub total : List Entry → PartitionsState → ℕ
total entries spill = length entries + spilled_number spill

-- a record makes one group at most, and none if WHERE rejects it
abbrev pub brings : Query → Piece → ℕ
brings query (Of_row row) = if is_met (column_of row) query.condition then 1 else 0
brings query (Of_group group most) = 1

abbrev pub brought_by : Query → List Piece → ℕ
brought_by query pieces = sum_by (brings query) pieces

-- the first record of a pass is not spilled, and each is spilled, or makes a group, once at most
pub record Proceeds (old : List Entry) (before : PartitionsState) (new : List Entry) (after : PartitionsState) : Type 0 where
  pub first : old ≡ [] → before.partitions ≡ [] → after.partitions ≡ []
  pub slow : spilled_number after ≤ spilled_number before + 1
  pub few : total new after ≤ total old before + 1

-- these pieces make as many groups and records as they bring, at most
abbrev pub Brings : Query → (List Piece → Type 0) → List Entry → PartitionsState → List Entry → PartitionsState → Type 0
Brings query Are old before new after = (more : List Piece) → Are more → total new after ≤ total old before + brought_by query more

-- the pages that were written meanwhile are those that became full in the partitions of the pass
abbrev pub WritesPages : ℕ → PartitionsState → ℕ → PartitionsState → Type 0
WritesPages written before now after = now + written_pages before ≡ written + written_pages after

-- ---- runs

-- references to a key and to states, after a number
abbrev pub AbbreviatedKey : Type 0
AbbreviatedKey = ℕ × (Bor (List ℕ) × Bor (List ℕ))

-- the entries of some of them
abbrev pub pairs : List AbbreviatedKey → List Entry
pairs entries = map (λ (e : AbbreviatedKey). (e.1.0.now, e.1.1.now)) entries

-- the number is that of the first eight bytes of the key, the highest first, as if zeros followed a shorter key
pub record IsAbbreviated (e : AbbreviatedKey) : Type 0 where
  pub number : e.0 ≡ big_from 0 8 e.1.0.now
  pub bytes : (i : ℕ) → slice_index e.1.0.now i < 256
