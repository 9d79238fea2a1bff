-- The texts of columns and a query that a command tells. All of this is our own.
use Rattle.std.specs.Prelude.{◌≡◌, ◌⊎◌, ℕ, List, codes, Option, Some, None}
use Rattle.clap.specs.Matches.{found_of, first_value}
use Rattle.clap.specs.declared.parser.matches.ArgMatches.{ArgMatches}
use Rattle.refusals.specs.declared.refusal.Refusal.{Refusal}
use Rattle.refusals.specs.declared.refusal.Refusal.TheVariants.{BadCommand, NoMemory}
use Rattle.command_words.specs.LineEnd.{DropsLineEnd}
use Rattle.command_words.specs.Told.{value_told}
use Rattle.command_streams.specs.Inputs.{IsUnread}

-- a text is the value of an option, or where another option tells a file, what that has without one line end behind it
abbrev pub IsTextOf : (path : Option (List ℕ)) → (value text : List ℕ) → Type 0
IsTextOf None value text = text ≡ value
IsTextOf (Some path) value text = (file : List ℕ) × DropsLineEnd file text

-- the same by the names of the two options
abbrev pub IsTextTold : ArgMatches → (file_option option : List ℕ) → (text : List ℕ) → Type 0
IsTextTold matches file_option option text = IsTextOf (first_value (found_of matches) file_option) (value_told matches option) text

-- the texts of the columns and the query of `new`
pub record AreTextsTold (matches : ArgMatches) (columns query : List ℕ) : Type 0 where
  pub columns_told : IsTextTold matches (codes "columns-file") (codes "columns") columns
  pub query_told : IsTextTold matches (codes "query-file") (codes "query") query

-- why a text is not there: memory ran out for the value, or a file was not read, or is not UTF-8. Which file, no clause says
abbrev pub IsNoTextOf : (path : Option (List ℕ)) → Refusal → Type 0
IsNoTextOf None why = why ≡ NoMemory
IsNoTextOf (Some path) why = IsUnread why ⊎ (why ≡ BadCommand)

-- the same by the name of the option that tells the file
abbrev pub IsNoText : ArgMatches → (file_option : List ℕ) → Refusal → Type 0
IsNoText matches file_option why = IsNoTextOf (first_value (found_of matches) file_option) why
