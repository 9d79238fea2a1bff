-- What a command line tells of a command on files, by the names of arguments. All of this is our own; how values are found is clap's.
use Rattle.std.specs.Prelude.{◌≡◌, ◌<◌, Bool, true, false, ◌&&◌, ℕ, List, [], ◌∷◌, ◌++◌, length, Option, None, is_none, unwrap_or, codes}
use Rattle.std.specs.Prelude.{if◌then◌else◌}
use Rattle.std.specs.List.{filter}
use Rattle.std.specs.Option.{option_map_or}
use Rattle.std.specs.Str.{bytes_eq}
use Rattle.clap.specs.Matches.{found_of, first_value, matched_of, one_text, raw_values}
use Rattle.clap.specs.declared.parser.matches.ArgMatches.{ArgMatches}
use Rattle.command_words.specs.Streams.{is_stream, spills_to_stream}
use Rattle.command_words.specs.Subcommands.{takes_limit, writes_out}
use Rattle.command_words.specs.declared.streams.StreamFault.{StreamFault}
use Rattle.command_words.specs.declared.streams.StreamFault.TheVariants.{ReadTwice, Spilled}
use Rattle.command_words.specs.declared.subcommands.Subcommand.{Subcommand}
use Rattle.command_words.specs.declared.subcommands.Subcommand.TheVariants.{New, Feed, Merge, Known, Answer}

-- the value of an argument, which is empty where it has none
abbrev pub value_told : ArgMatches → List ℕ → List ℕ
value_told matches id = unwrap_or (first_value (found_of matches) id) []

-- the values of an argument, in their order
abbrev pub values_told : ArgMatches → List ℕ → List (List ℕ)
values_told matches id = option_map_or raw_values (matched_of (found_of matches) id) []

-- the summaries and batch files that a command reads, in their order. The files that have the texts of `new` are not among them
abbrev pub files_read : Subcommand → ArgMatches → List (List ℕ)
files_read New matches = []
files_read Feed matches = value_told matches (codes "IN") ∷ values_told matches (codes "BATCH")
files_read Merge matches = values_told matches (codes "IN")
files_read Known matches = value_told matches (codes "IN") ∷ []
files_read Answer matches = value_told matches (codes "IN") ∷ []

-- the limit, and the file for what is spilled, of a command that takes them
abbrev pub limit_told : Subcommand → ArgMatches → Option (List ℕ)
limit_told subcommand matches = if takes_limit subcommand then first_value (found_of matches) (codes "limit") else None

abbrev pub spill_told : Subcommand → ArgMatches → Option (List ℕ)
spill_told subcommand matches = if takes_limit subcommand then first_value (found_of matches) (codes "spill") else None

-- the file that a command writes
abbrev pub out_told : Subcommand → ArgMatches → Option (List ℕ)
out_told subcommand matches = if writes_out subcommand then first_value (found_of matches) (codes "OUT") else None

-- whether it is standard output
abbrev pub is_out_stream : Subcommand → ArgMatches → Bool
is_out_stream subcommand matches = option_map_or is_stream (out_told subcommand matches) false

-- whether a flag stands on a command line: then clap gives it the text `true`, and else `false`, or nothing where its command has no such
-- flag
abbrev pub is_flag_told : ArgMatches → (flag : List ℕ) → Bool
is_flag_told matches flag = option_map_or (λ text. bytes_eq text (codes "true")) (one_text (found_of matches) flag) false

-- whether a command reads a plain CSV that no word names, which is standard input
abbrev pub reads_unnamed : (name : List ℕ) → ArgMatches → Bool
reads_unnamed name matches = bytes_eq name (codes "pack") && is_none (first_value (found_of matches) (codes "CSV"))

-- the files that a command line names to be read, by the arguments that may name one
abbrev pub named_paths : ArgMatches → List (List ℕ)
named_paths matches =
    values_told matches (codes "IN") ++ values_told matches (codes "BATCH") ++ values_told matches (codes "CSV")
    ++ values_told matches (codes "columns-file") ++ values_told matches (codes "query-file")

-- and all that the command of a name reads
abbrev pub read_paths : (name : List ℕ) → ArgMatches → List (List ℕ)
read_paths name matches = if reads_unnamed name matches then named_paths matches ++ (codes "-" ∷ []) else named_paths matches

-- how many of these are standard input
abbrev pub streams_told : (name : List ℕ) → ArgMatches → ℕ
streams_told name matches = length (filter is_stream (read_paths name matches))

-- why a command line names streams that there are not
abbrev pub IsFaultTold : (name : List ℕ) → ArgMatches → StreamFault → Type 0
IsFaultTold name matches (ReadTwice first second) = 1 < streams_told name matches
IsFaultTold name matches Spilled = spills_to_stream matches ≡ true
