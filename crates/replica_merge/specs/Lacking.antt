-- What a replica has that another one lacks, which a list tells of. All of this is our own.
use Rattle.std.specs.Prelude.{◌≡◌, ℕ, ◌||◌, ◌&&◌, not, nat_le, nat_lt, Bool, List, [], ◌∷◌, ◌++◌, map, flat_map, filter, unwrap_or}
use Rattle.std.specs.Prelude.{if◌then◌else◌, IsTrue}
use Rattle.std.specs.BTreeMap.{get}
use Rattle.std.specs.BTreeSet.{contains}
use Rattle.std.specs.Ordering.{nat_cmp}
use Rattle.grouping_model.specs.Replies.{KnownOrigin}
use Rattle.grouping_model.specs.World.{Batch, Knowledge, batch_cmp, knowing, knows, prefix, count_up}
use Rattle.origin_prefix.specs.Parts.{Batches, Part, is_nothing}
use Rattle.origin_prefix.specs.Held.{Parts}
use Rattle.replica_merge.specs.declared.listing.Listed.{Listed}

-- the batches that an entry of a list tells: 1 to a number, and others of any numbers
abbrev pub batches_listed : KnownOrigin → List Batch
batches_listed entry = map (λ (number : ℕ). (entry.origin, number)) (count_up 1 entry.upto ++ entry.early)

-- what a list tells, as a set of batches: the entries may come in any order, and several of them may be of one origin
abbrev pub told_by : List KnownOrigin → Knowledge
told_by list = knowing (flat_map batches_listed list)

-- one knows no batch that the other does not
abbrev pub IsWithin : Knowledge → Knowledge → Type 0
IsWithin some all = (batch : Batch) → IsTrue (knows some batch) → IsTrue (knows all batch)

-- whether the other lacks a batch that is told, or it goes out with others of its prefix: a prefix goes out whole or not at all
abbrev pub is_lacked : (own known : Knowledge) → Batch → Bool
is_lacked own known batch = not (knows known batch)
    || (nat_le batch.1 (prefix own batch.0) && nat_lt (prefix known batch.0) (prefix own batch.0))

-- the batches that are told and that go out to one that knows some
abbrev pub lacked : (own known : Knowledge) → Knowledge
lacked own known = knowing (filter (is_lacked own known) own.batches)

-- the early batches of an origin that are not known
abbrev pub lacked_early : Knowledge → ℕ → Batches → Batches
lacked_early known origin early = filter (λ (batch : ℕ × List (List ℕ)). not (knows known (origin, batch.0))) early

-- what goes out of the part of an origin: a prefix that is longer than the one that is known, with its groups, and the early batches that
-- are not known
abbrev pub lacked_part : Knowledge → ℕ × Part → Part
lacked_part known held =
    if nat_lt (prefix known held.0) held.1.prefix
    then record held.1 { early = lacked_early known held.0 held.1.early }
    else record { prefix = 0; run = []; early = lacked_early known held.0 held.1.early }

-- a part of an origin, if it holds something
abbrev pub if_some : ℕ → Part → Parts
if_some origin part = if is_nothing part then [] else (origin, part) ∷ []

-- what goes out of all parts
abbrev pub lacked_parts : Knowledge → Parts → Parts
lacked_parts known parts = flat_map (λ (held : ℕ × Part). if_some held.0 (lacked_part known held)) parts

-- whether the code finds a batch in what it listed: below or at the number of its origin, or among the others
abbrev pub is_listed : Listed → Batch → Bool
is_listed listed batch = (nat_le 1 batch.1 && nat_le batch.1 (unwrap_or (get nat_cmp listed.upto batch.0) 0))
    || contains batch_cmp listed.others batch

-- what is listed is what is known
abbrev pub Lists : Listed → Knowledge → Type 0
Lists listed known = (batch : Batch) → is_listed listed batch ≡ knows known batch
