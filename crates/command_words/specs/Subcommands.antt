-- The commands on files, by their names. All of this is our own.
use Rattle.std.specs.Prelude.{Bool, true, false, List, ℕ, Option, Some, None, if◌then◌else◌, codes}
use Rattle.std.specs.Str.{bytes_eq}
use Rattle.command_words.specs.declared.subcommands.Subcommand.{Subcommand}
use Rattle.command_words.specs.declared.subcommands.Subcommand.TheVariants.{New, Feed, Merge, Known, Answer}

-- the command of a name
abbrev pub subcommand_named : List ℕ → Option Subcommand
subcommand_named name =
    if bytes_eq name (codes "new") then Some New else
    (if bytes_eq name (codes "feed") then Some Feed else
    (if bytes_eq name (codes "merge") then Some Merge else
    (if bytes_eq name (codes "known") then Some Known else
    (if bytes_eq name (codes "answer") then Some Answer else None))))

-- whether a command takes a limit and a file for what is spilled
abbrev pub takes_limit : Subcommand → Bool
takes_limit Feed = true
takes_limit Merge = true
takes_limit Answer = true
takes_limit New = false
takes_limit Known = false

-- whether a command aggregates
abbrev pub aggregates : Subcommand → Bool
aggregates Feed = true
aggregates Merge = true
aggregates New = false
aggregates Known = false
aggregates Answer = false

-- whether a command writes a file
abbrev pub writes_out : Subcommand → Bool
writes_out New = true
writes_out Feed = true
writes_out Merge = true
writes_out Known = false
writes_out Answer = false
