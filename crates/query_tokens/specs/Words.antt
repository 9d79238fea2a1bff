-- What tokens say, and where they stand in a text.
use Rattle.std.specs.Prelude.{ℕ, ◌+◌, ◌<◌, ◌≤◌, ℤ, List, [], ◌∷◌, map}
use Rattle.std.specs.String.{string_bytes}
use Rattle.query_tokens.specs.declared.word.Symbol.{Symbol}
use Rattle.query_tokens.specs.declared.word.Word.{Word}
use Rattle.query_tokens.specs.declared.word.Word.TheVariants as words
use Rattle.query_tokens.specs.declared.word.Token.{Token}

-- what a token says: a name or a key word by its bytes in lower case; an integer; the bytes between a string's quotes;
-- or a symbol (PostgreSQL 17, 4.1 Lexical Structure)
pub data Lexeme : Type 0 where
  Name : List ℕ → Lexeme
  Integer : ℤ → Lexeme
  Text : List ℕ → Lexeme
  Sign : Symbol → Lexeme

-- a lexeme, and the place of its first byte, counted from 0
pub record Placed : Type 0 where
  pub at : ℕ
  pub lexeme : Lexeme

-- what a token of the code says
abbrev pub lexeme_of : Word → Lexeme
lexeme_of (words.Name s) = Name (string_bytes s)
lexeme_of (words.Integer z) = Integer z
lexeme_of (words.Text s) = Text (string_bytes s)
lexeme_of (words.Symbol s) = Sign s

-- the same with its place
abbrev pub placed_of : Token → Placed
placed_of t = record { at = t.at; lexeme = lexeme_of t.word }

-- the same of each token
abbrev pub all_placed : List Token → List Placed
all_placed ts = map placed_of ts

-- the places of tokens rise from low on and are below high
abbrev pub RiseWithin : ℕ → ℕ → List Placed → Type 0
RiseWithin low high [] = Unit {0}
RiseWithin low high (t ∷ ts) = (low ≤ t.at) × (t.at < high) × RiseWithin (t.at + 1) high ts
