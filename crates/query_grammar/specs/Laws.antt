-- What reading means, in the words of the grammar (own).
use Rattle.std.specs.Prelude.{◌≡◌, ℕ, suc, Bool, true, List, [], ◌∷◌, ◌++◌, length, Ok, Err}
use Rattle.query_tokens.specs.Words.{Lexeme, Placed}
use Rattle.query_tokens.specs.Tokens.{tokens_in}
use Rattle.query_tokens.specs.Spelling.{lexemes_of}
use Rattle.query_checks.specs.Order.{Asked}
use Rattle.query_grammar.specs.Grammar.{opening}
use Rattle.query_grammar.specs.Queries.{IsQuery, Begins, most_open}
use Rattle.query_grammar.specs.Reading.{Read, Unexpected, Too_deep}

-- a part of the grammar, where one parenthesis more than there may be is allowed (true) or not
abbrev pub Part : Type 0 → Type 1
Part A = Bool → List Lexeme → A → Type 0

-- some tokens complete these to what is in P
abbrev pub CanBecome : {A : Type 0} → (List Lexeme → A → Type 0) → List Lexeme → Type 0
CanBecome {A} P ts = (more : List Lexeme) × (x : A) × P (ts ++ more) x

-- The front that was read is in P. Where a token is refused, what stands before it can be completed to what is in P.
-- Where it is a parenthesis too many, so can what ends with it, if one more is allowed.
abbrev pub MeansThat : {A : Type 0} → Part A → List Lexeme → Read A → Type 0
MeansThat P ts (Ok x) = (front : List Lexeme) × (ts ≡ front ++ x.1) × ((e : Bool) → P e front x.0)
MeansThat P ts (Err (Unexpected left)) =
    (front rest : List Lexeme) × (ts ≡ front ++ rest) × (length rest ≡ left) × ((e : Bool) → CanBecome (P e) front)
MeansThat P ts (Err (Too_deep left)) =
    (front rest : List Lexeme) × (ts ≡ front ++ opening ∷ rest) × (length (opening ∷ rest) ≡ left) × ((e : Bool) → CanBecome (P e) front)
    × CanBecome (P true) (front ++ opening ∷ [])

pub record Means {A : Type 0} (P : Part A) (ts : List Lexeme) (read : Read A) : Type 0 where
  pub that : MeansThat P ts read

-- no query goes on after the front as these tokens do: with the first of them, or by ending where there are none
abbrev pub NoneGoesOn : ℕ → List Lexeme → List Lexeme → Type 0
NoneGoesOn limit front [] = (q : Asked) → ¬ (IsQuery limit front q)
NoneGoesOn limit front (t ∷ rest) = ¬ (Begins limit (front ++ t ∷ []))

-- The first token after which no query can follow, where `left` of the tokens are left: what stands before it begins a
-- query, and what ends with it doesn't. It is not for the number of parentheses, since with one more allowed it is so too
pub record IsUnexpected (limit : ℕ) (ts : List Lexeme) (left : ℕ) : Type 0 where
  pub front : List Lexeme
  pub rest : List Lexeme
  pub split : ts ≡ front ++ rest
  pub place : length rest ≡ left
  pub begins : Begins limit front
  pub ends : NoneGoesOn limit front rest
  pub ends_also : NoneGoesOn (suc limit) front rest

-- The same, and it is a parenthesis too many: with one more allowed, what ends with it begins a query
pub record IsTooDeep (limit : ℕ) (ts : List Lexeme) (left : ℕ) : Type 0 where
  pub front : List Lexeme
  pub rest : List Lexeme
  pub split : ts ≡ front ++ opening ∷ rest
  pub place : length (opening ∷ rest) ≡ left
  pub begins : Begins limit front
  pub ends : NoneGoesOn limit front (opening ∷ rest)
  pub allowed : Begins (suc limit) (front ++ opening ∷ [])

-- a text says a query
pub record IsSpelled (text : List ℕ) (q : Asked) : Type 0 where
  pub tokens : List Placed
  pub read : tokens_in text ≡ Ok tokens
  pub is_query : IsQuery most_open (lexemes_of tokens) q
