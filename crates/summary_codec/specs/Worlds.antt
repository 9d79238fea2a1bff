-- Summary files of worlds. All of this is our own.
use Rattle.std.specs.Prelude.{◌≡◌, ℕ, ◌≤◌, List, length, map, Some, IsSome, IsTrue}
use Rattle.grouping_model.specs.Datum.{Row}
use Rattle.grouping_model.specs.World.{World, Knowledge, knows, origins}
use Rattle.query_checks.specs.Checks.{Checked}
use Rattle.origin_prefix.specs.Held.{Parts}
use Rattle.summary_codec.specs.Versions.{last_number, most_batch_rows}
use Rattle.summary_codec.specs.WorldFile.{world_part, world_file_in}
use Rattle.summary_codec.specs.declared.version.Version.{Version}

-- what is known is of a world, which has each batch that is known
pub record IsKnownOf (world : World) (known : Knowledge) : Type 0 where
  pub there : (origin number : ℕ) → IsTrue (knows known (origin, number)) → IsSome (world origin number)

-- the batches that are known keep the bounds of a version
abbrev pub IsKnownWithin : Version → World → Knowledge → Type 0
IsKnownWithin version world known =
    (origin number : ℕ) (rows : List Row)
    → IsTrue (knows known (origin, number))
    → world origin number ≡ Some rows
    → (number ≤ last_number version) × (length rows ≤ most_batch_rows version)

-- bytes are the file, in a version, of a query, a world, and what is known of this world
pub record IsWorldFile (version : Version) (query : Checked) (world : World) (known : Knowledge) (bytes : List ℕ) : Type 0 where
  pub of_world : IsKnownOf world known
  pub bytes_are : bytes ≡ world_file_in version query world known

-- the parts that such a file is of, by ascending origin
abbrev pub world_parts : Checked → World → Knowledge → Parts
world_parts query world known = map (world_part query world known) (origins known)
