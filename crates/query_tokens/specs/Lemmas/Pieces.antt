-- A text of spelled lexemes and spaces is read again.
use Rattle.std.proofs.Common.{◌≡◌, ℕ, suc, ◌+◌, ◌-◌, ◌<◌, true, false, List, [], ◌∷◌, ◌++◌, length, get_or, Result, Ok, Err, refl, ap, ◌∙◌}
use Rattle.std.proofs.Common.{arith, rules}
use Rattle.std.specs.Prelude.{Contains, pos, negsuc}
use Rattle.std.specs.Char.{is_ascii_digit}
use Rattle.std.specs.Fmt.{decimal}
use Rattle.std.proofs.lemmas.List.{length-drop}
use Rattle.query_tokens.specs.declared.fault.Fault.{Fault}
use Rattle.query_tokens.specs.declared.word.Symbol.TheVariants as symbols
use Rattle.query_tokens.specs.Words.{Lexeme, Name, Integer, Text, Sign, Placed}
use Rattle.query_tokens.specs.Bytes.{is_space, begins_name}
use Rattle.query_tokens.specs.Tokens.{◌>>=◌, word_at, tokens_at, tokens_in}
use Rattle.query_tokens.specs.Spelling.{IsLexeme, EndsBefore, AreApart, Piece, Space, Spelled, spell, text_of, lexemes_in, lexemes_read}
use Rattle.query_tokens.specs.Spelling.{with_spaces}
use Rattle.query_tokens.specs.Lemmas.Steps.{passes, word_end}
use Rattle.query_tokens.specs.Lemmas.Respelled.{word_again, IsDigits, decimal_digits, first_digit}

-- bytes that begin with no white space
pub record IsSolid (bytes : List ℕ) : Type 0 where
  pub some : 0 < length bytes
  pub solid : is_space (get_or bytes 0 0) ≡ false

name_solid : (b : ℕ) → begins_name b ≡ true → is_space b ≡ false
name_solid b h = grind (arith, h)

digit_solid : (b : ℕ) → is_ascii_digit b ≡ true → is_space b ≡ false
digit_solid b h = grind (arith, h)

digits_solid : (ds rest : List ℕ) → IsDigits ds → IsSolid (ds ++ rest)
digits_solid [] rest h = absurd (omega (arith, h.some))
digits_solid (d ∷ ds) rest h = record { some = omega arith; solid = digit_solid d (first_digit d ds h) }

pub spell_solid : (w : Lexeme) (rest : List ℕ) → IsLexeme w → IsSolid (spell w ++ rest)
spell_solid (Name []) rest legal = let clash : false ≡ true = legal.begins in absurd cc
spell_solid (Name (b ∷ bs)) rest legal = record { some = omega arith; solid = name_solid b legal.begins }
spell_solid (Integer (pos n)) rest fits = digits_solid (decimal n) rest (decimal_digits n (omega (arith, fits.sfits)))
spell_solid (Integer (negsuc n)) rest fits = record { some = omega arith; solid = refl }
spell_solid (Text text) rest legal = record { some = omega arith; solid = refl }
spell_solid (Sign symbols.Open) rest legal = record { some = omega arith; solid = refl }
spell_solid (Sign symbol) rest legal = record { some = omega arith; solid = refl }

-- a word at the front is the first token, and the others are those of what it leaves
record IsFirst (at : ℕ) (bytes : List ℕ) (w : Lexeme) (rest : List ℕ) : Type 0 where
  behind : ℕ
  tokens : tokens_at 0 at bytes ≡ (tokens_at 0 behind rest >>= λ ts. Ok (record { at = at; lexeme = w } ∷ ts))

word_first : (at : ℕ) (bytes : List ℕ) (w : Lexeme) (rest : List ℕ) → IsSolid bytes → word_at at bytes ≡ Ok (w, rest)
    → IsFirst at bytes w rest
unfolding tokens_at
word_first at [] w rest h read = absurd (omega (arith, h.some))
word_first at (b ∷ bs) w rest h read =
    let e = word_end at b bs w rest read in
    let len : length rest ≡ length bs - e.len = ap length e.rest_is ∙ length-drop e.len bs in
    let skip : length bs - length rest ≡ e.len = omega (arith, len, e.within) in
    let more : tokens_at (length bs - length rest) (at + 1) bs ≡ tokens_at 0 (at + 1 + e.len) rest = rw skip (passes e.len (at + 1) bs
    ∙ rw (← e.rest_is) refl) in
    record { behind = at + 1 + e.len; tokens = rw (h.solid, read, more) refl }

one_more : (t : Placed) (ws : List Lexeme) (read : Result (List Placed) Fault) → lexemes_read read ≡ Ok ws
    → lexemes_read (read >>= λ ts. Ok (t ∷ ts)) ≡ Ok (t.lexeme ∷ ws)
one_more t ws (Ok ts) h = cc
one_more t ws (Err f) h = cc

pub pieces_again : (at : ℕ) (pieces : List Piece) → AreApart pieces → lexemes_read (tokens_at 0 at (text_of pieces))
    ≡ Ok (lexemes_in pieces)
unfolding tokens_at
pieces_again at [] apart = refl
pieces_again at (Space ∷ pieces) apart = pieces_again (at + 1) pieces apart
pieces_again at (Spelled w ∷ pieces) apart =
    let first = word_first at (spell w ++ text_of pieces) w (text_of pieces) (spell_solid w (text_of pieces) apart.0)
    (word_again at w (text_of pieces) apart.0 apart.1) in
    rw first.tokens (one_more (record { at = at; lexeme = w }) (lexemes_in pieces) (tokens_at 0 first.behind (text_of pieces))
    (pieces_again first.behind pieces apart.2))

spaced_lexemes : (ws : List Lexeme) → lexemes_in (with_spaces ws) ≡ ws
spaced_lexemes [] = refl
spaced_lexemes (w ∷ ws) = ap (λ (vs : List Lexeme). w ∷ vs) (spaced_lexemes ws)

before_space : (w : Lexeme) (rest : List ℕ) → EndsBefore w (32 ∷ rest)
before_space w rest = search rules

before_spaced : (w : Lexeme) (ws : List Lexeme) → EndsBefore w (text_of (with_spaces ws))
before_spaced w [] = refl
before_spaced w (v ∷ vs) = before_space w (spell v ++ text_of (with_spaces vs))

spaced_apart : (ws : List Lexeme) → ((w : Lexeme) → Contains ws w → IsLexeme w) → AreApart (with_spaces ws)
spaced_apart [] legal = tt
spaced_apart (w ∷ ws) legal = (
  legal w (0, omega arith, refl),
  before_spaced w ws,
  spaced_apart ws
      (λ v c. legal v (suc c.0, omega (arith, c.1), c.2)),
)

pub spaced_again : (ws : List Lexeme) → ((w : Lexeme) → Contains ws w → IsLexeme w) → lexemes_read (tokens_in (text_of (with_spaces ws)))
    ≡ Ok ws
spaced_again ws legal = pieces_again 0 (with_spaces ws) (spaced_apart ws legal) ∙ ap (λ (vs : List Lexeme). Ok vs) (spaced_lexemes ws)
