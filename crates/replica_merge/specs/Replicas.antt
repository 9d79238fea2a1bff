-- What a replica holds and knows, and when it fits a world. All of this is our own.
use Rattle.std.specs.Prelude.{◌≡◌, ◌≢◌, ℕ, ◌*◌, ◌<◌, List, ◌++◌, map, flat_map, Option, Some, None, option_map, unwrap_or, Bool}
use Rattle.std.specs.Prelude.{true, false, IsSome}
use Rattle.std.specs.BTreeMap.{insert_entry, is_at}
use Rattle.std.specs.List.Sorted.{IsStrictlySortedBy}
use Rattle.std.specs.Map.{lookup, remove_entry}
use Rattle.std.specs.Ordering.{eq_by_cmp, nat_cmp}
use Rattle.grouping_model.specs.declared.limits.TheConstants.{MAX_ROWS}
use Rattle.grouping_model.specs.declared.delivered.Delivered.{Delivered}
use Rattle.hash_agg.specs.Inputs.{Brought, Counted}
use Rattle.grouping_model.specs.Replies.{KnownOrigin}
use Rattle.grouping_model.specs.World.{World, IsWorld, Batch, Knowledge, knowing, count_up}
use Rattle.packed_rows.specs.Columns.{kinds, printed}
use Rattle.having_filter.specs.Kept.{by_names}
use Rattle.query_checks.specs.Checks.{Checked}
use Rattle.having_filter.specs.Meaning.{meaning}
use Rattle.query_checks.specs.Spelling.{spelling}
use Rattle.batch_reader.specs.declared.batch.Batch as packed
use Rattle.origin_prefix.specs.Parts.{Part, empty, IsPartOf, Delivers, BatchTells}
use Rattle.origin_prefix.specs.declared.error.JoinError.{JoinError}
use Rattle.origin_prefix.specs.declared.error.RefusedBatch.{RefusedBatch}
use Rattle.origin_prefix.specs.Joins.{Joins, PartsDisagree, JoinTells, settled}
use Rattle.origin_prefix.specs.Fitting.{FitsOrigin}
pub use Rattle.origin_prefix.specs.Held.{Parts, IsHeldPart, AreHeldParts}
use Rattle.summary_codec.specs.Reading.{IsSaved}
use Rattle.replica_merge.specs.declared.known_origin.KnownOrigin as code
use Rattle.replica_merge.specs.declared.error.MergeError.{MergeError}
use Rattle.replica_merge.specs.declared.error.MergeError.TheVariants.{DifferentQuery, NoMemory, Join}

-- the part of an origin, if there is one
abbrev pub part_at : Parts → ℕ → Option Part
part_at parts origin = lookup (eq_by_cmp nat_cmp origin) parts

-- what is held of an origin: nothing if there is no part
abbrev pub part_of : Parts → ℕ → Part
part_of parts origin = unwrap_or (part_at parts origin) empty

-- the batches that a part of an origin knows: 1 to its prefix, and the early ones
abbrev pub batches_of : ℕ × Part → List Batch
batches_of held = map (λ (number : ℕ). (held.0, number)) (count_up 1 held.1.prefix
    ++ map (λ (batch : ℕ × List (List ℕ)). batch.0) held.1.early)

-- what the parts know, as a set of batches
abbrev pub told : Parts → Knowledge
told parts = knowing (flat_map batches_of parts)

-- a replica: its query, and the parts of the origins that it knows something of
pub record Held : Type 0 where
  pub query : Checked
  pub parts : Parts

-- a replica fits a world: what it holds of each origin does
abbrev pub Fits : World → Held → Type 0
Fits world held = (origin : ℕ) → FitsOrigin (meaning held.query) world origin (part_of held.parts origin)

-- two queries have the same schema and the same canonical text
abbrev pub SameQuery : Checked → Checked → Type 0
SameQuery a b = (printed a.columns ≡ printed b.columns) × (spelling (by_names a) ≡ spelling (by_names b))

-- the parts of two replicas, joined origin by origin: if the other has none, the own part stays
abbrev pub JoinsAt : (honest : Bool) → Checked → Part → Option Part → Option Part → Option Part → Type 0
JoinsAt honest query own old None new = new ≡ old
JoinsAt honest query own old (Some theirs) new = (part : Part) × (new ≡ Some part) × Joins honest (meaning query) own theirs part

abbrev pub MergesParts : (honest : Bool) → Checked → Parts → Parts → Parts → Type 0
MergesParts honest query old other new = (origin : ℕ) → JoinsAt honest query (part_of old origin) (part_at old origin) (part_at other
    origin)
    (part_at new origin)

-- what is held of a query, and the first of it after it takes in the second
pub record IsMergeOf (honest : Bool) (query : Checked) (own theirs new : Parts) : Type 0 where
  pub own_held : AreHeldParts query own
  pub their_held : AreHeldParts query theirs
  pub new_held : AreHeldParts query new
  pub merges : MergesParts honest query own theirs new

-- what is held of a query is saved alike
abbrev pub SavedAlike : Checked → (one other : Parts) → Type 0
SavedAlike query one other = (bytes those : List ℕ) → IsSaved bytes query one → IsSaved those query other → bytes ≡ those

-- replicas of a query that fit a world, and the first one after it takes in the second, over an honest disk
pub record MergesIn (world : World) (query : Checked) (own theirs new : Parts) : Type 0 where
  pub of_columns : IsWorld (kinds query.columns) world
  pub own_held : AreHeldParts query own
  pub their_held : AreHeldParts query theirs
  pub new_held : AreHeldParts query new
  pub own_fits : Fits world (record { query = query; parts = own })
  pub their_fits : Fits world (record { query = query; parts = theirs })
  pub merges : MergesParts true query own theirs new

-- what a place holds once the own part was put back: the part that the own one becomes by taking in what stands there
abbrev pub filled : Option Part → Option Part → Option Part
filled None old = None
filled (Some new) None = Some new
filled (Some new) (Some old) = Some (settled old new)

-- what stands aside of an origin is this part, once the own one was put back
abbrev pub StandsAside : (old new : Option Part) → Part → Type 0
StandsAside old new part = filled new old ≡ Some part

-- what stands aside of an origin while two replicas are merged: the parts of both, joined, or where the other has none, a place for
-- the own one
abbrev pub AsideAt : (honest : Bool) → Checked → Part → Option Part → Option Part → Option Part → Type 0
AsideAt honest query own old None new = new ≡ option_map (λ (_ : Part). empty) old
AsideAt honest query own old (Some theirs) new = (part : Part) × StandsAside old new part × Joins honest (meaning query) own theirs part
    × IsPartOf query part × ¬ (PartsDisagree own theirs)

pub record JoinedAside (honest : Bool) (query : Checked) (old other joined : Parts) : Type 0 where
  pub rising : IsStrictlySortedBy nat_cmp (map (λ (held : ℕ × Part). held.0) joined)
  pub at : (origin : ℕ) → AsideAt honest query (part_of old origin) (part_at old origin) (part_at other origin) (part_at joined origin)

-- the parts of an origin disagree
pub record DisagreeSomewhere (own theirs : Parts) : Type 0 where
  pub origin : ℕ
  pub part : Part
  pub there : part_at theirs origin ≡ Some part
  pub parts : PartsDisagree (part_of own origin) part

-- the parts of this origin are the first that are not joined, and why: those of no lower one disagree
pub record IsFirstRefused (own theirs : Parts) (origin : ℕ) (why : JoinError) : Type 0 where
  pub part : Part
  pub there : part_at theirs origin ≡ Some part
  pub tells : JoinTells why (part_of own origin) part
  pub below : (lower : ℕ) → lower < origin → (other : Part) → part_at theirs lower ≡ Some other
      → ¬ (PartsDisagree (part_of own lower) other)

-- what a refusal to merge two replicas says: first of their queries, and then of the parts
abbrev pub MergeTells : MergeError → Held → Held → Type 0
MergeTells DifferentQuery own theirs = ¬ (SameQuery own.query theirs.query)
MergeTells NoMemory own theirs = theirs.query ≡ own.query
MergeTells (Join origin why) own theirs = (theirs.query ≡ own.query) × IsFirstRefused own.parts theirs.parts origin why

-- the part of a batch's origin takes the batch, and the others stay
pub record DeliversAt (honest : Bool) (query : Checked) (old : Parts) (origin number : ℕ) (rows : List (List ℕ)) (new : Parts)
    (reply : Delivered) : Type 0 where
  pub part : Part
  pub own : part_at new origin ≡ Some part
  pub delivers : Delivers honest (meaning query) (part_of old origin) number rows part reply
  pub is_part : IsPartOf query part
  pub others : (other : ℕ) → other ≢ origin → part_at new other ≡ part_at old other
  pub rising : IsStrictlySortedBy nat_cmp (map (λ (held : ℕ × Part). held.0) new)

-- a batch is refused: it is handed back, the parts stay, and the reason
pub record RefusesAt (old : Parts) (batch : packed.Batch) (new : Parts) (refused : RefusedBatch) : Type 0 where
  pub back : refused.batch ≡ batch
  pub same : new ≡ old
  pub tells : BatchTells refused.why (part_of old batch.origin) batch.number batch.rows

-- the part of an origin has a place, which was made where there was none
abbrev pub IsPlace : (old : Parts) (origin : ℕ) (new : Parts) → Bool → Type 0
IsPlace old origin new true = (part_at old origin ≡ None) × (new ≡ insert_entry nat_cmp old origin empty)
IsPlace old origin new false = IsSome (part_at old origin) × (new ≡ old)

-- the parts without the one of an origin, if its place was made
abbrev pub taken_back : (origin : ℕ) → Parts → Bool → Parts
taken_back origin parts true = remove_entry (is_at (nat_cmp origin)) parts
taken_back origin parts false = parts

-- what a part of an origin says of it
abbrev pub known_part : ℕ × Part → KnownOrigin
known_part held = record { origin = held.0; upto = held.1.prefix; early = map (λ (batch : ℕ × List (List ℕ)). batch.0) held.1.early }

-- what a part brings to an answer: its groups, which count at most the rows that its prefix may have
abbrev pub counted : Part → Brought
counted part = Counted part.run (part.prefix * MAX_ROWS)

abbrev pub counted_part : ℕ × Part → Brought
counted_part held = counted held.1

-- what the code says of an origin
abbrev pub known_of : code.KnownOrigin → KnownOrigin
known_of k = record { origin = k.origin; upto = k.upto; early = k.early.items }
