-- How far tokens go as a query (own).
use Rattle.std.specs.Prelude.{◌≡◌, ℕ, ◌-◌, List, [], ◌∷◌, ◌++◌, length, Ok, Err}
use Rattle.query_tokens.specs.Words.{Lexeme, Placed}
use Rattle.query_tokens.specs.Tokens.{tokens_in}
use Rattle.query_tokens.specs.Spelling.{lexemes_of}
use Rattle.query_checks.specs.Order.{Asked}
use Rattle.query_grammar.specs.Queries.{Begins, most_open}
use Rattle.query_grammar.specs.Reading.{Read, Unexpected, Too_deep}

-- no query goes on after the front with the first of these tokens, if there is one
abbrev pub NoneFollows : ℕ → List Lexeme → List Lexeme → Type 0
NoneFollows limit front [] = Unit {0}
NoneFollows limit front (t ∷ rest) = ¬ (Begins limit (front ++ t ∷ []))

-- this many of the tokens, from the left, and no more begin a query. At most `limit` parentheses of a condition are open in it at once
pub record IsLongestFront (limit : ℕ) (ts : List Lexeme) (count : ℕ) : Type 0 where
  pub front : List Lexeme
  pub rest : List Lexeme
  pub split : ts ≡ front ++ rest
  pub many : length front ≡ count
  pub begins : Begins limit front
  pub ends : NoneFollows limit front rest

-- how many of the tokens are read before reading stops
abbrev pub read_of : List Lexeme → Read Asked → ℕ
read_of ts (Ok x) = length ts
read_of ts (Err (Unexpected left)) = length ts - left
read_of ts (Err (Too_deep left)) = length ts - left

-- the tokens of a text are a query, or more tokens make one of them
pub record IsFront (text : List ℕ) : Type 0 where
  pub tokens : List Placed
  pub read : tokens_in text ≡ Ok tokens
  pub begins : Begins most_open (lexemes_of tokens)
