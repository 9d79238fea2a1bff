-- Before which bytes a lexeme ends, and pieces that are joined.
use Rattle.std.proofs.Common.{◌≡◌, ℕ, ◌<◌, Bool, false, List, [], ◌∷◌, ◌++◌, length, refl, ap, ◌∙◌, append_assoc, arith, sym}
use Rattle.std.proofs.lemmas.List.{append-nil}
use Rattle.query_tokens.specs.Words.{Lexeme}
use Rattle.query_tokens.specs.Bytes.{first_is}
use Rattle.query_tokens.specs.Spelling.{IsLexeme, EndsBefore, AreApart, LastEndsBefore, Piece, Space, Spelled, spell, runs_into, runs_on}
use Rattle.query_tokens.specs.Spelling.{text_of, lexemes_in}
use Rattle.query_tokens.specs.Lemmas.Pieces.{spell_solid}
use Rattle.query_tokens.specs.EndLaws.{before_others}

first_kept : (test : ℕ → Bool) (bytes rest : List ℕ) → 0 < length bytes → first_is test bytes ≡ false → first_is test (bytes ++ rest)
    ≡ false
first_kept test [] rest some h = absurd (omega (arith, some))
first_kept test (b ∷ bs) rest some h = h

spell_some : (v : Lexeme) → IsLexeme v → 0 < length (spell v)
spell_some v legal = let s = (spell_solid v [] legal).some in rw (append-nil (spell v)) at s

pub before_lexeme : (w v : Lexeme) (rest : List ℕ) → IsLexeme v → EndsBefore w (spell v) → EndsBefore w (spell v ++ rest)
before_lexeme w v rest legal ends = first_kept (runs_into w) (spell v) rest (spell_some v legal) ends

pub joined_text : (front back : List Piece) → text_of (front ++ back) ≡ text_of front ++ text_of back
joined_text [] back = refl
joined_text (Space ∷ front) back = ap (λ (bs : List ℕ). 32 ∷ bs) (joined_text front back)
joined_text (Spelled w ∷ front) back = ap (λ (bs : List ℕ). spell w ++ bs) (joined_text front back)
    ∙ sym (append_assoc (spell w) (text_of front) (text_of back))

pub joined_lexemes : (front back : List Piece) → lexemes_in (front ++ back) ≡ lexemes_in front ++ lexemes_in back
joined_lexemes [] back = refl
joined_lexemes (Space ∷ front) back = joined_lexemes front back
joined_lexemes (Spelled w ∷ front) back = ap (λ (ws : List Lexeme). w ∷ ws) (joined_lexemes front back)

-- a lexeme that ends before pieces ends before them and more
goes_on : (w : Lexeme) (next : Piece) (front back : List Piece) → AreApart (next ∷ front) → EndsBefore w (text_of (next ∷ front))
    → EndsBefore w (text_of (next ∷ front ++ back))
goes_on w Space front back apart ends = ends
goes_on w (Spelled v) front back apart ends = front_kept (spell v) (text_of front) (text_of (front ++ back)) (spell_some v apart.0) ends
  where
    front_kept : (bytes these those : List ℕ) → 0 < length bytes → first_is (runs_into w) (bytes ++ these) ≡ false
        → first_is (runs_into w) (bytes ++ those) ≡ false
    front_kept [] these those some h = absurd (omega (arith, some))
    front_kept (b ∷ bs) these those some h = h

pub joined_apart : (front back : List Piece) → AreApart front → AreApart back → LastEndsBefore front (text_of back)
    → AreApart (front ++ back)
joined_apart [] back apart others last = others
joined_apart (Space ∷ []) back apart others last = others
joined_apart (Spelled w ∷ []) back apart others last = (apart.0, last, others)
joined_apart (Space ∷ next ∷ front) back apart others last = joined_apart (next ∷ front) back apart others last
joined_apart (Spelled w ∷ next ∷ front) back apart others last = (
  apart.0,
  goes_on w next front back apart.2 apart.1,
  joined_apart (next
      ∷ front) back apart.2 others last,
)

pub last_before_others : (front : List Piece) (rest : List ℕ) → first_is runs_on rest ≡ false → LastEndsBefore front rest
last_before_others [] rest h = tt
last_before_others (Space ∷ []) rest h = tt
last_before_others (Spelled w ∷ []) rest h = before_others w rest h
last_before_others (piece ∷ next ∷ front) rest h = last_before_others (next ∷ front) rest h
