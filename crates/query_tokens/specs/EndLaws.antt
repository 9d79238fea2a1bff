-- Laws: before which bytes a lexeme ends, and pieces that are joined; these definitions serve the laws alone.
use Rattle.std.proofs.Common.{◌≡◌, ℕ, false, List, [], ◌∷◌, refl, arith}
use Rattle.std.specs.Prelude.{◌==◌}
use Rattle.std.proofs.lemmas.Bool.{or_from}
use Rattle.query_tokens.specs.declared.word.Symbol.{Symbol}
use Rattle.query_tokens.specs.declared.word.Symbol.TheVariants as symbols
use Rattle.query_tokens.specs.Words.{Lexeme, Name, Integer, Text, Sign}
use Rattle.query_tokens.specs.Bytes.{is_in_name, first_is}
use Rattle.query_tokens.specs.Spelling.{EndsBefore, runs_into, runs_on}
use Rattle.std.proofs.lemmas.Bool.Decides.{nat_tests}
use Rattle.std.proofs.lemmas.Grind.{common_steps}

-- the four tests of a byte that runs into no lexeme
record IsOther (b : ℕ) : Type 0 where
  name : is_in_name b ≡ false
  quote : (b == 39) ≡ false
  equal : (b == 61) ≡ false
  more : (b == 62) ≡ false

other : (b : ℕ) → runs_on b ≡ false → IsOther b
other b h = grind (arith, nat_tests, common_steps)

sign_before : (symbol : Symbol) (b : ℕ) → IsOther b → runs_into (Sign symbol) b ≡ false
sign_before symbols.Less b h = or_from (b == 61) (b == 62) h.equal h.more
sign_before symbols.More b h = h.equal
sign_before symbol b h = refl

before_other : (w : Lexeme) (b : ℕ) → IsOther b → runs_into w b ≡ false
before_other (Name name) b h = h.name
before_other (Integer z) b h = h.name
before_other (Text text) b h = h.quote
before_other (Sign symbol) b h = sign_before symbol b h

pub before_others : (w : Lexeme) (rest : List ℕ) → first_is runs_on rest ≡ false → EndsBefore w rest
before_others w [] h = refl
before_others w (b ∷ bs) h = before_other w b (other b h)
