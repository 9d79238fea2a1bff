-- Which bytes begin and continue tokens (PostgreSQL 17, 4.1 Lexical Structure). Only ASCII stands outside strings, and
-- there are no quoted identifiers and no comments (own).
use Rattle.std.specs.Prelude.{ℕ, Bool, false, ◌&&◌, ◌||◌, ◌==◌, nat_lt, List, [], ◌∷◌, Option, Some, None, if◌then◌else◌}
use Rattle.std.specs.Char.{is_ascii_alphabetic, is_ascii_alphanumeric}
use Rattle.query_tokens.specs.declared.word.Symbol.{Symbol}
use Rattle.query_tokens.specs.declared.word.Symbol.TheVariants.{Open, Close, Comma, Star, Semicolon, Equal, Unequal, Less, AtMost, More}
use Rattle.query_tokens.specs.declared.word.Symbol.TheVariants.{AtLeast}

-- white space: tab, line feed, vertical tab, form feed, carriage return and space (4.1)
abbrev pub is_space : ℕ → Bool
is_space b = (nat_lt 8 b && nat_lt b 14) || b == 32

-- what begins a name: a letter or an underscore (4.1.1 Identifiers and Key Words; letters of ASCII only: own)
abbrev pub begins_name : ℕ → Bool
begins_name b = is_ascii_alphabetic b || b == 95

-- what continues a name: a letter, a digit or an underscore (4.1.1; no dollar sign: own)
abbrev pub is_in_name : ℕ → Bool
is_in_name b = is_ascii_alphanumeric b || b == 95

-- whether the first of these bytes passes a test
abbrev pub first_is : (ℕ → Bool) → List ℕ → Bool
first_is test [] = false
first_is test (b ∷ bs) = test b

-- the symbols of one byte: ( ) * , ; < = > (4.1.3 Operators, 4.1.4 Special Characters)
unfoldable pub symbol_of_one : ℕ → Option Symbol
symbol_of_one a =
    if a == 40 then Some Open else
    if a == 41 then Some Close else
    if a == 42 then Some Star else
    if a == 44 then Some Comma else
    if a == 59 then Some Semicolon else
    if a == 60 then Some Less else
    if a == 61 then Some Equal else
    if a == 62 then Some More else None

-- the symbols of two bytes: <= <> >=, and != for <> (4.1.3; 9.2 Comparison Functions and Operators)
unfoldable pub symbol_of_two : ℕ → ℕ → Option Symbol
symbol_of_two a b =
    if a == 60 && b == 61 then Some AtMost else
    if a == 60 && b == 62 then Some Unequal else
    if a == 62 && b == 61 then Some AtLeast else
    if a == 33 && b == 61 then Some Unequal else None
