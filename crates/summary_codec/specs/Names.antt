-- The names of what is wrong with a summary file, as replies show them. All of this is our own.
use Rattle.std.specs.Prelude.{ℕ, List, codes}
use Rattle.group_parser.specs.Names.{parse_name}
use Rattle.summary_codec.specs.declared.error.SummaryError.{SummaryError}
use Rattle.summary_codec.specs.declared.error.SummaryError.TheVariants.{NoMemory, NotASummary, Truncated, Trailing, NotCanonical}
use Rattle.summary_codec.specs.declared.error.SummaryError.TheVariants.{OutOfRange, BadSchema, BadPacked, BadState, Query}

abbrev pub summary_name : SummaryError → List ℕ
summary_name NoMemory = codes "NoMemory"
summary_name NotASummary = codes "NotASummary"
summary_name Truncated = codes "Truncated"
summary_name Trailing = codes "Trailing"
summary_name NotCanonical = codes "NotCanonical"
summary_name OutOfRange = codes "OutOfRange"
summary_name BadSchema = codes "BadSchema"
summary_name BadPacked = codes "BadPacked"
summary_name BadState = codes "BadState"
summary_name (Query error) = parse_name error
