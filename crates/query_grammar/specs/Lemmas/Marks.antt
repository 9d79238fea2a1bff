-- A token that passes a test is the one that is meant.
use Rattle.std.specs.Prelude.{slice_index_or}
use Rattle.std.proofs.Common.{◌≡◌, ◌∙◌, ℕ, true, List, [], ◌∷◌, refl, sym, ap}
use Rattle.std.specs.Str.{bytes_eq}
use Rattle.std.proofs.lemmas.Bool.{eqb-true, false≢true}
use Rattle.std.proofs.lemmas.Slice.Eq.{bytes_eq-Decides}
use Rattle.query_grammar.specs.Lemmas.Words.{Symbol, Lexeme, Name, Sign, symbol_number, is_word, is_sign}
use Rattle.query_tokens.specs.declared.word.Symbol.TheVariants as symbols

pub same_bytes : (v w : List ℕ) → bytes_eq v w ≡ true → v ≡ w
same_bytes v w h = (bytes_eq-Decides v w).0 h

pub the_word : (w : List ℕ) (t : Lexeme) → is_word w t ≡ true → t ≡ Name w
the_word w (Name v) h = ap (λ (x : List ℕ). Name x) (same_bytes v w h)
the_word w t h = absurd (false≢true h)

-- the symbol that has a number
numbered : ℕ → Symbol
numbered number =
    slice_index_or
    (symbols.Open ∷ symbols.Close ∷ symbols.Comma ∷ symbols.Star ∷ symbols.Semicolon ∷ symbols.Equal ∷ symbols.Unequal ∷ symbols.Less
    ∷ symbols.AtMost ∷ symbols.More ∷ symbols.AtLeast ∷ [])
    number symbols.Open

numbered_back : (s : Symbol) → numbered (symbol_number s) ≡ s
unfolding symbol_number numbered
numbered_back symbols.Open = refl
numbered_back s = refl

pub the_sign : (s : Symbol) (t : Lexeme) → is_sign s t ≡ true → t ≡ Sign s
the_sign s (Sign u) h = ap (λ (x : Symbol). Sign x) (sym (numbered_back u) ∙ ap numbered (eqb-true (symbol_number u) (symbol_number s) h)
    ∙ numbered_back s)
the_sign s t h = absurd (false≢true h)
