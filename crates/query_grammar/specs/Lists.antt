-- Lists between commas: in the grammar, and read from the left (own).
use Rattle.std.specs.Prelude.{ℕ, zero, suc, List, [], ◌∷◌, ◌++◌, Ok}
use Rattle.query_tokens.specs.declared.word.Symbol.TheVariants as symbols
use Rattle.query_tokens.specs.Words.{Lexeme, Sign}
use Rattle.query_grammar.specs.Terminals.{is_sign}
use Rattle.query_grammar.specs.Reading.{Read, ◌>>=◌, after, choose}

-- one or more, separated by commas
pub data IsListOf {A : Type 0} (P : List Lexeme → A → Type 0) : List Lexeme → List A → Type 0 where
  last : {ts : List Lexeme} {x : A} → P ts x → IsListOf P ts (x ∷ [])
  more : {x : A} {xs : List A} (ts us : List Lexeme) → P ts x → IsListOf P us xs
      → IsListOf P (ts ++ Sign symbols.Comma ∷ us) (x ∷ xs)

-- one or more, separated by commas; at most one more than `turns`
unfoldable pub list_at : {A : Type 0} → (List Lexeme → Read A) → ℕ → List Lexeme → Read (List A)
list_at one zero ts = do
  x ← one ts
  Ok (x.0 ∷ [], x.1)
list_at one (suc turns) ts = do
  x ← one ts
  choose (after (is_sign symbols.Comma) x.1)
      (λ rest. do
        xs ← list_at one turns rest
        Ok (x.0 ∷ xs.0, xs.1))
      (Ok (x.0 ∷ [], x.1))
