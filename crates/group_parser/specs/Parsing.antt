-- Which texts are queries over the columns of a schema, and why others are not. The order of the refusals and the limits
-- are our own.
use Rattle.std.specs.Prelude.{◌≡◌, ℕ, ◌-◌, ◌<◌, ◌≤◌, nat_lt, if◌then◌else◌, List, length, slice_get, option_map, unwrap_or, Result, Ok, Err}
use Rattle.query_tokens.specs.declared.fault.Fault.TheVariants as faults
use Rattle.query_tokens.specs.declared.fault.Fault.{Fault}
use Rattle.query_tokens.specs.declared.fault.TokenError.{TokenError}
use Rattle.query_tokens.specs.declared.fault.TokenError.TheVariants as tokens
use Rattle.query_tokens.specs.Words.{Placed}
use Rattle.query_tokens.specs.Tokens.{tokens_in}
use Rattle.query_tokens.specs.Spelling.{lexemes_of}
use Rattle.grouping_model.specs.declared.limits.TheConstants.{MAX_QUERY_LEN}
use Rattle.packed_rows.specs.Columns.{Column}
use Rattle.query_checks.specs.declared.error.QueryError.{QueryError}
use Rattle.query_checks.specs.declared.error.QueryError.TheVariants as checks
use Rattle.query_checks.specs.Order.{Asked}
use Rattle.query_checks.specs.Checks.{Checked, checked}
use Rattle.query_grammar.specs.Queries.{most_open, IsQuery}
use Rattle.query_grammar.specs.Reading.{Read, Unexpected, Too_deep}
use Rattle.query_grammar.specs.Whole.{query_at}
use Rattle.query_grammar.specs.Laws.{IsUnexpected, IsTooDeep}
use Rattle.group_parser.specs.declared.error.ParseError.{ParseError}
use Rattle.group_parser.specs.declared.error.ParseError.TheVariants.{Syntax, NumberTooLarge, Query}

-- how many bytes a query's text may have
abbrev pub most_bytes : ℕ
most_bytes = MAX_QUERY_LEN

-- memory ran out, which is no fault of a text
abbrev pub no_memory : ParseError
no_memory = Query checks.NoMemory

-- the errors of tokens
abbrev pub of_fault : Fault → ParseError
of_fault (faults.Syntax at) = Syntax at
of_fault faults.NumberTooLarge = NumberTooLarge

abbrev pub of_token_error : TokenError → ParseError
of_token_error tokens.NoMemory = no_memory
of_token_error (tokens.Fault fault) = of_fault fault

-- the place of the first of the last `left` tokens of a text; the text's length if there are none
abbrev pub place_of_left : ℕ → List Placed → ℕ → ℕ
place_of_left end ts left = unwrap_or (option_map (λ t. t.at) (slice_get ts (length ts - left))) end

-- a text is a query over these columns: it isn't too long, its tokens are in the grammar, and the query passes the checks
pub record Accepts (columns : List Column) (text : List ℕ) (q : Checked) : Type 0 where
  pub tokens : List Placed
  pub asked : Asked
  pub short : length text ≤ most_bytes
  pub read : tokens_in text ≡ Ok tokens
  pub is_query : IsQuery most_open (lexemes_of tokens) asked
  pub passed : checked columns asked ≡ Ok q

-- a text is not a query over these columns, in the order in which that is found
pub data Refuses (columns : List Column) (text : List ℕ) : ParseError → Type 0 where
  -- it is too long
  too_long : most_bytes < length text → Refuses columns text (Query checks.TooMany)
  -- it has no tokens
  no_tokens : (fault : Fault) → length text ≤ most_bytes → tokens_in text ≡ Err fault → Refuses columns text (of_fault fault)
  -- a token can't stand where it does, or the text ends where a query can't end
  unexpected : (ts : List Placed) (left : ℕ) → length text ≤ most_bytes → tokens_in text ≡ Ok ts
      → IsUnexpected most_open (lexemes_of ts) left
      → Refuses columns text (Syntax (place_of_left (length text) ts left))
  -- a parenthesis is one too many
  too_deep : (ts : List Placed) (left : ℕ) → length text ≤ most_bytes → tokens_in text ≡ Ok ts → IsTooDeep most_open (lexemes_of ts) left
      → Refuses columns text (Query checks.TooDeep)
  -- a check doesn't pass
  unchecked : (ts : List Placed) (asked : Asked) (error : QueryError) → length text ≤ most_bytes → tokens_in text ≡ Ok ts
      → IsQuery most_open (lexemes_of ts) asked → checked columns asked ≡ Err error → Refuses columns text (Query error)

-- the same by functions: the query that a text says, or the first fault
abbrev pub query_read : ℕ → List Placed → Read Asked → Result Asked ParseError
query_read end ts (Ok x) = Ok x.0
query_read end ts (Err (Unexpected left)) = Err (Syntax (place_of_left end ts left))
query_read end ts (Err (Too_deep left)) = Err (Query checks.TooDeep)

abbrev pub tokens_read : ℕ → Result (List Placed) Fault → Result Asked ParseError
tokens_read end (Err fault) = Err (of_fault fault)
tokens_read end (Ok ts) = query_read end ts (query_at most_open (lexemes_of ts))

unfoldable pub asked_in : List ℕ → Result Asked ParseError
asked_in text = if nat_lt most_bytes (length text) then Err (Query checks.TooMany) else tokens_read (length text) (tokens_in text)

-- and the query that passed the checks
abbrev pub query_checked : Result Checked QueryError → Result Checked ParseError
query_checked (Ok q) = Ok q
query_checked (Err error) = Err (Query error)

abbrev pub asked_checked : List Column → Result Asked ParseError → Result Checked ParseError
asked_checked columns (Ok asked) = query_checked (checked columns asked)
asked_checked columns (Err error) = Err error

abbrev pub parsing : List Column → List ℕ → Result Checked ParseError
parsing columns text = asked_checked columns (asked_in text)
