-- What the grammar asks of a single token.
use Rattle.std.specs.Prelude.{ℕ, Bool, false, ◌==◌, List}
use Rattle.std.specs.Str.{bytes_eq}
use Rattle.query_tokens.specs.declared.word.Symbol.{Symbol}
use Rattle.query_tokens.specs.declared.word.Symbol.TheVariants as symbols
use Rattle.query_tokens.specs.Words.{Lexeme, Name, Sign}
-- the function that a name calls (PostgreSQL 17, 9.21 Aggregate Functions)
unfoldable pub use Rattle.query_checks.specs.Spelling.{function_named}

-- numbers that tell symbols apart
unfoldable pub symbol_number : Symbol → ℕ
symbol_number symbols.Open = 0
symbol_number symbols.Close = 1
symbol_number symbols.Comma = 2
symbol_number symbols.Star = 3
symbol_number symbols.Semicolon = 4
symbol_number symbols.Equal = 5
symbol_number symbols.Unequal = 6
symbol_number symbols.Less = 7
symbol_number symbols.AtMost = 8
symbol_number symbols.More = 9
symbol_number symbols.AtLeast = 10

-- whether a token is this word
abbrev pub is_word : List ℕ → Lexeme → Bool
is_word w (Name v) = bytes_eq v w
is_word w other = false

-- whether a token is this symbol
abbrev pub is_sign : Symbol → Lexeme → Bool
is_sign s (Sign t) = symbol_number t == symbol_number s
is_sign s other = false
