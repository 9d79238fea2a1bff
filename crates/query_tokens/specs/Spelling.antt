-- The canonical spelling of tokens, and texts that are made of spelled tokens and spaces.
use Rattle.std.specs.Prelude.{ℕ, ◌≤◌, ◌≡◌, Bool, true, false, ◌==◌, ◌||◌, if◌then◌else◌, List, [], ◌∷◌, ◌++◌, map, length, Result, Ok}
use Rattle.std.specs.Prelude.{Contains, FitsSigned, codes}
use Rattle.std.specs.Int.{w64}
use Rattle.std.specs.Char.{to_ascii_lowercase}
use Rattle.std.specs.List.{list_all, flat_map}
use Rattle.std.specs.Fmt.{signed_decimal}
use Rattle.grouping_model.specs.declared.limits.TheConstants.{MAX_NAME_LEN}
use Rattle.query_tokens.specs.declared.word.Symbol.{Symbol}
use Rattle.query_tokens.specs.declared.word.Symbol.TheVariants.{Open, Close, Comma, Star, Semicolon, Equal, Unequal, Less, AtMost, More}
use Rattle.query_tokens.specs.declared.word.Symbol.TheVariants.{AtLeast}
use Rattle.query_tokens.specs.declared.fault.Fault.{Fault}
use Rattle.query_tokens.specs.Words.{Lexeme, Name, Integer, Text, Sign, Placed}
use Rattle.query_tokens.specs.Bytes.{begins_name, is_in_name, first_is}
use Rattle.query_tokens.specs.Tokens.{◌>>=◌}

-- a name that a text can have: a letter or an underscore, then letters, digits and underscores, in lower case, and 63
-- bytes at most (PostgreSQL 17, 4.1.1 Identifiers and Key Words)
pub record IsName (name : List ℕ) : Type 0 where
  pub begins : first_is begins_name name ≡ true
  pub continues : list_all is_in_name name ≡ true
  pub lower : map to_ascii_lowercase name ≡ name
  pub within : length name ≤ MAX_NAME_LEN

-- a lexeme that a text can have: a name as above, an integer of 64 bits, a string without the character 0, any symbol
abbrev pub IsLexeme : Lexeme → Type 0
IsLexeme (Name name) = IsName name
IsLexeme (Integer z) = FitsSigned w64 z
IsLexeme (Text text) = ¬ (Contains text 0)
IsLexeme (Sign symbol) = Unit {0}

-- a byte of a string as it stands between quotes: a quote is written twice
abbrev pub spell_byte : ℕ → List ℕ
spell_byte b = if b == 39 then 39 ∷ 39 ∷ [] else b ∷ []

-- a symbol's bytes; `<>` is the spelling of the one that is also read from `!=`
abbrev pub spell_symbol : Symbol → List ℕ
spell_symbol Open = codes "("
spell_symbol Close = codes ")"
spell_symbol Comma = codes ","
spell_symbol Star = codes "*"
spell_symbol Semicolon = codes ";"
spell_symbol Equal = codes "="
spell_symbol Unequal = codes "<>"
spell_symbol Less = codes "<"
spell_symbol AtMost = codes "<="
spell_symbol More = codes ">"
spell_symbol AtLeast = codes ">="

-- the canonical spelling: a name as it is, an integer in decimal, a string between quotes (own)
abbrev pub spell : Lexeme → List ℕ
spell (Name name) = name
spell (Integer z) = signed_decimal z
spell (Text text) = 39 ∷ flat_map spell_byte text ++ 39 ∷ []
spell (Sign symbol) = spell_symbol symbol

-- whether a byte directly after a lexeme's spelling would belong to its token, or make it malformed
abbrev pub runs_into : Lexeme → ℕ → Bool
runs_into (Name name) b = is_in_name b
runs_into (Integer z) b = is_in_name b
runs_into (Text text) b = b == 39
runs_into (Sign Less) b = b == 61 || b == 62
runs_into (Sign More) b = b == 61
runs_into (Sign symbol) b = false

-- where these bytes follow, a lexeme's spelling is a token of its own
abbrev pub EndsBefore : Lexeme → List ℕ → Type 0
EndsBefore w rest = first_is (runs_into w) rest ≡ false

-- a piece of a text: a space, or a lexeme in its canonical spelling
pub data Piece : Type 0 where
  Space : Piece
  Spelled : Lexeme → Piece

-- the text that pieces make
abbrev pub text_of : List Piece → List ℕ
text_of [] = []
text_of (Space ∷ pieces) = 32 ∷ text_of pieces
text_of (Spelled w ∷ pieces) = spell w ++ text_of pieces

-- the lexemes among pieces
abbrev pub lexemes_in : List Piece → List Lexeme
lexemes_in [] = []
lexemes_in (Space ∷ pieces) = lexemes_in pieces
lexemes_in (Spelled w ∷ pieces) = w ∷ lexemes_in pieces

-- each lexeme is one that a text can have, and ends before the pieces after it
abbrev pub AreApart : List Piece → Type 0
AreApart [] = Unit {0}
AreApart (Space ∷ pieces) = AreApart pieces
AreApart (Spelled w ∷ pieces) = IsLexeme w × EndsBefore w (text_of pieces) × AreApart pieces

-- what tokens say, without their places
abbrev pub lexemes_of : List Placed → List Lexeme
lexemes_of ts = map (λ t. t.lexeme) ts

-- the same of what reading gives
abbrev pub lexemes_read : Result (List Placed) Fault → Result (List Lexeme) Fault
lexemes_read read = read >>= λ ts. Ok (lexemes_of ts)

-- whether a byte runs into some lexeme: a letter, a digit, `_`, a quote, `=` or `>`
abbrev pub runs_on : ℕ → Bool
runs_on b = is_in_name b || b == 39 || b == 61 || b == 62

-- the last piece, if it is a lexeme, ends before these bytes
abbrev pub LastEndsBefore : List Piece → List ℕ → Type 0
LastEndsBefore [] rest = Unit {0}
LastEndsBefore (Space ∷ []) rest = Unit {0}
LastEndsBefore (Spelled w ∷ []) rest = EndsBefore w rest
LastEndsBefore (piece ∷ next ∷ pieces) rest = LastEndsBefore (next ∷ pieces) rest

-- a symbol other than `<` and `>`, which ends before anything
abbrev pub is_closed : Symbol → Bool
is_closed Less = false
is_closed More = false
is_closed symbol = true

-- each lexeme after a space
abbrev pub with_spaces : List Lexeme → List Piece
with_spaces [] = []
with_spaces (w ∷ ws) = Space ∷ Spelled w ∷ with_spaces ws
