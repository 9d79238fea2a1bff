-- Which words name streams. All of this is our own, after the guidelines of POSIX on utilities: `-` is standard input or output.
use Rattle.std.specs.Prelude.{Bool, false, ℕ, List, length, codes, if◌then◌else◌}
use Rattle.std.specs.List.{filter}
use Rattle.std.specs.Option.{option_map_or}
use Rattle.std.specs.Str.{bytes_eq}
use Rattle.clap.specs.Matches.{found_of, first_value}
use Rattle.clap.specs.declared.parser.matches.ArgMatches.{ArgMatches}
use Rattle.command_words.specs.declared.streams.Input.{Input}

-- whether a word stands for a stream
abbrev pub is_stream : List ℕ → Bool
is_stream path = bytes_eq path (codes "-")

-- how many of files are standard input
abbrev pub streams_of : List Input → ℕ
streams_of inputs = length (filter (λ input. is_stream input.path.now) inputs)

-- what a file is called in sentences that is read, and one that is written
abbrev pub input_name : List ℕ → List ℕ
input_name path = if is_stream path then codes "standard input" else path

abbrev pub output_name : List ℕ → List ℕ
output_name out = if is_stream out then codes "standard output" else out

-- whether the words of a command name a stream for what is spilled
abbrev pub spills_to_stream : ArgMatches → Bool
spills_to_stream matches = option_map_or is_stream (first_value (found_of matches) (codes "spill")) false
