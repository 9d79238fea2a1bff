-- The batches of rows that there are, and what is known of them. All of this is our own.
use Rattle.std.specs.Prelude.{◌≡◌, ℕ, zero, suc, ◌+◌, ◌≤◌, ◌==◌, Bool, List, [], ◌∷◌, ◌++◌, map, filter, length, flat_map, nat_lt, Option}
use Rattle.std.specs.Prelude.{Some, All, unwrap_or, IsTrue}
use Rattle.std.specs.declared.cmp.Ordering.{Ordering}
use Rattle.std.specs.Ordering.{nat_cmp, then_cmp, on}
use Rattle.std.specs.List.{prefix_len}
use Rattle.std.specs.List.Sorted.{IsStrictlySortedBy}
use Rattle.std.specs.Cmp.{IsTotalOrder, then_total, on_total, nat_cmp_total}
use Rattle.grouping_model.specs.Datum.{Row, Kind, HasKinds}
use Rattle.grouping_model.specs.declared.limits.TheConstants.{LAST_ORIGIN, LAST_NUMBER, MAX_ROWS}
use Rattle.grouping_model.specs.Rising.{distinct, is_among}
use Rattle.grouping_model.specs.Rising.Facts.{distinct-rises}

-- the rows of each batch that there is, by origin and number
abbrev pub World : Type 0
World = ℕ → ℕ → Option (List Row)

-- a world within the limits of origins, numbers and rows of a batch, of rows of these columns
abbrev pub IsWorld : List Kind → World → Type 0
IsWorld kinds world =
    (origin number : ℕ) (rows : List Row)
    → world origin number ≡ Some rows
    → (origin ≤ LAST_ORIGIN) × (1 ≤ number) × (number ≤ LAST_NUMBER) × (length rows ≤ MAX_ROWS) × All (HasKinds kinds) rows

-- which batch: its origin and its number
abbrev pub Batch : Type 0
Batch = ℕ × ℕ

-- batches by origin, and those of one origin by number
abbrev pub batch_cmp : Batch → Batch → Ordering
batch_cmp = then_cmp (on (λ (batch : Batch). batch.0) nat_cmp) (on (λ (batch : Batch). batch.1) nat_cmp)

pub batch_cmp_total : IsTotalOrder batch_cmp
batch_cmp_total = then_total (on_total (λ (batch : Batch). batch.0) nat_cmp_total) (on_total (λ (batch : Batch). batch.1) nat_cmp_total)

-- what is known: a finite set of batches, each listed once, in rising order
pub record Knowledge : Type 0 where
  pub batches : List Batch
  pub rising : IsStrictlySortedBy batch_cmp batches

-- the set of the batches of any list
abbrev pub knowing : List Batch → Knowledge
knowing batches = record { batches = distinct batch_cmp batches; rising = distinct-rises batch_cmp_total batches }

-- nothing is known
abbrev pub nothing : Knowledge
nothing = knowing []

-- whether a batch is known
abbrev pub knows : Knowledge → Batch → Bool
knows knowledge batch = is_among batch_cmp batch knowledge.batches

-- one batch more
abbrev pub learn : Knowledge → Batch → Knowledge
learn knowledge batch = knowing (batch ∷ knowledge.batches)

-- what either knows
abbrev pub union : Knowledge → Knowledge → Knowledge
union a b = knowing (a.batches ++ b.batches)

-- n numbers from the first on, each one above the last
abbrev pub count_up : ℕ → ℕ → List ℕ
count_up first zero = []
count_up first (suc n) = first ∷ count_up (first + 1) n

-- an origin's batches 1 to n are all known
abbrev pub IsUnbroken : Knowledge → ℕ → ℕ → Type 0
IsUnbroken knowledge origin n = (number : ℕ) → 1 ≤ number → number ≤ n → IsTrue (knows knowledge (origin, number))

-- the unbroken prefix of an origin: how many of its batches 1, 2, 3 .. are known, up to the first that is not
abbrev pub prefix : Knowledge → ℕ → ℕ
prefix knowledge origin = prefix_len (λ number. knows knowledge (origin, number)) (count_up 1 (length knowledge.batches))

-- the numbers of an origin that are known, rising
abbrev pub numbers_of : Knowledge → ℕ → List ℕ
numbers_of knowledge origin = map (λ (batch : Batch). batch.1) (filter (λ (batch : Batch). batch.0 == origin) knowledge.batches)

-- those above its unbroken prefix
abbrev pub early : Knowledge → ℕ → List ℕ
early knowledge origin = filter (λ number. nat_lt (prefix knowledge origin) number) (numbers_of knowledge origin)

-- the origins of which something is known, rising
abbrev pub origins : Knowledge → List ℕ
origins knowledge = distinct nat_cmp (map (λ (batch : Batch). batch.0) knowledge.batches)

-- the rows of a batch
abbrev pub batch_rows : World → ℕ → ℕ → List Row
batch_rows world origin number = unwrap_or (world origin number) []

-- the rows of an origin's batches 1 to n, batch after batch, and of its unbroken prefix
abbrev pub rows_upto : World → (origin n : ℕ) → List Row
rows_upto world origin n = flat_map (batch_rows world origin) (count_up 1 n)

abbrev pub origin_rows : World → Knowledge → ℕ → List Row
origin_rows world knowledge origin = rows_upto world origin (prefix knowledge origin)

-- the rows of all unbroken prefixes, by rising origin
abbrev pub known_rows : World → Knowledge → List Row
known_rows world knowledge = flat_map (origin_rows world knowledge) (origins knowledge)
