-- What a text is made of: white space and the texts of its tokens, in turn.
use Rattle.std.specs.Prelude.{◌≡◌, ℕ, ◌+◌, Bool, true, List, [], ◌∷◌, ◌++◌, map, length, Some, ◌⊎◌, codes, if◌then◌else◌}
use Rattle.std.specs.Char.{is_ascii_digit, to_ascii_lowercase}
use Rattle.std.specs.List.{list_all}
use Rattle.query_tokens.specs.declared.word.Symbol.TheVariants.{Unequal}
use Rattle.query_tokens.specs.Words.{Lexeme, Name, Integer, Text, Sign, Placed}
use Rattle.query_tokens.specs.Bytes.{is_space}
use Rattle.query_tokens.specs.Tokens.{integer_of, number_after}
use Rattle.query_tokens.specs.Spelling.{spell, spell_symbol}

-- bytes that say a lexeme: a name in letters of either case; an optional minus sign and digits; a string between quotes; a symbol, where
-- `<>` is also written `!=` (PostgreSQL 17, 4.1 Lexical Structure)
abbrev pub IsTextOf : Lexeme → List ℕ → Type 0
IsTextOf (Name name) bytes = map to_ascii_lowercase bytes ≡ name
IsTextOf (Integer z) bytes =
    (negative : Bool) × (digits : List ℕ) × (bytes ≡ (if negative then 45 ∷ digits else digits)) × (list_all is_ascii_digit digits ≡ true)
    × (integer_of negative (number_after 0 digits) ≡ Some z)
IsTextOf (Text text) bytes = bytes ≡ spell (Text text)
IsTextOf (Sign symbol) bytes = (bytes ≡ spell_symbol symbol) ⊎ ((symbol ≡ Unequal) × (bytes ≡ codes "!="))

-- tokens make up bytes that stand at a place: white space, then the text of the first token at its place, then what the others make up.
-- After the last there is only white space (own)
unfoldable pub MakeUp : ℕ → List Placed → List ℕ → Type 0
MakeUp at [] bytes = list_all is_space bytes ≡ true
MakeUp at (t ∷ ts) bytes =
    (blank : List ℕ) × (own : List ℕ) × (rest : List ℕ) × (bytes ≡ blank ++ (own ++ rest)) × (list_all is_space blank ≡ true)
    × (t.at ≡ at + length blank) × IsTextOf t.lexeme own × MakeUp (t.at + length own) ts rest
