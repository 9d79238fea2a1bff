-- The formats of a command's tables, by their names. All of this is our own.
use Rattle.std.specs.Prelude.{ℕ, List, codes, if◌then◌else◌}
use Rattle.std.specs.Str.{bytes_eq}
use Rattle.replies.specs.declared.showing.Format.{Format}
use Rattle.replies.specs.declared.showing.Format.TheVariants as table
use Rattle.replies.specs.declared.showing.KnownFormat.{KnownFormat}
use Rattle.replies.specs.declared.showing.KnownFormat.TheVariants as known

-- that of a table: CSV, where another one is not named
abbrev pub format_told : List ℕ → Format
format_told name =
    if bytes_eq name (codes "aligned") then table.Aligned else
    (if bytes_eq name (codes "tsv") then table.Tsv else
    (if bytes_eq name (codes "json") then table.Json else table.Csv))

-- that of what is known: lines, where another one is not named
abbrev pub known_format_told : List ℕ → KnownFormat
known_format_told name =
    if bytes_eq name (codes "tsv") then known.Tsv else
    (if bytes_eq name (codes "json") then known.Json else known.Lines)
