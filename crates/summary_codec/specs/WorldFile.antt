-- The summary file of a query, a world and what is known of it. It has no row of an unbroken prefix, only the groups of these rows. All
-- of this is our own.
use Rattle.std.specs.Prelude.{ℕ, List, map}
use Rattle.grouping_model.specs.Grouping.{part}
use Rattle.grouping_model.specs.World.{World, Knowledge, origins, prefix, early, batch_rows, origin_rows}
use Rattle.batch_reader.specs.Rows.{packings}
use Rattle.query_checks.specs.Checks.{Checked}
use Rattle.having_filter.specs.Meaning.{meaning}
use Rattle.group_runs.specs.Standing.{run_bytes}
use Rattle.origin_prefix.specs.Parts.{Part}
use Rattle.summary_codec.specs.File.{file_in}
use Rattle.summary_codec.specs.declared.version.Version.{Version}
use Rattle.summary_codec.specs.declared.version.Version.TheVariants.{Second}

-- what is known of an origin: its unbroken prefix, the bytes of the groups of the prefix's rows, and its early batches
abbrev pub world_part : Checked → World → Knowledge → ℕ → ℕ × Part
world_part query world known origin = (
  origin,
  record {
    prefix = prefix known origin;
    run = run_bytes (part (meaning query) (origin_rows world known origin));
    early = map (λ number. (number, packings (batch_rows world origin number))) (early known origin);
  },
)

-- the file of these, by ascending origin, in a version
abbrev pub world_file_in : Version → Checked → World → Knowledge → List ℕ
world_file_in version query world known = file_in version query (map (world_part query world known) (origins known))

-- the file of these that is written
abbrev pub world_file : Checked → World → Knowledge → List ℕ
world_file = world_file_in Second
