-- The grammar of queries, one constructor a rule (after PostgreSQL 17, SELECT; which parts there are is our own). `limit`
-- is how many parentheses of one condition may be open at once.
use Rattle.std.specs.Prelude.{ℕ, ◌≡◌, false, List, [], ◌∷◌, ◌++◌, Option, Some, None, codes}
use Rattle.grouping_model.specs.Order.{Arrangement}
use Rattle.grouping_model.specs.declared.limits.TheConstants.{MAX_OPEN}
use Rattle.query_tokens.specs.declared.word.Symbol.TheVariants as symbols
use Rattle.query_tokens.specs.Words.{Lexeme, Name, Sign}
use Rattle.query_tokens.specs.Reserved.{is_reserved}
use Rattle.query_checks.specs.Forms as form
use Rattle.query_checks.specs.Order.{Term, Asked}
use Rattle.query_grammar.specs.Grammar.{Named, word, IsCondition, IsCall}
use Rattle.query_grammar.specs.Lists.{IsListOf}
use Rattle.query_grammar.specs.Arrangement.{IsArrangement}

-- name | call
pub data IsItemValue (limit : ℕ) : List Lexeme → Named → Type 0 where
  item_column : {w : List ℕ} → is_reserved w ≡ false → IsItemValue limit (Name w ∷ []) (form.Column w)
  item_call : {ts : List Lexeme} {x : Named} → IsCall limit ts x → IsItemValue limit ts x

-- [[AS] name] (PostgreSQL 17, 7.3.2 Column Labels)
pub data IsAlias : List Lexeme → Option (List ℕ) → Type 0 where
  no_alias : IsAlias [] None
  bare : {w : List ℕ} → is_reserved w ≡ false → IsAlias (Name w ∷ []) (Some w)
  behind_as : {w : List ℕ} → is_reserved w ≡ false → IsAlias (word (codes "as") ∷ Name w ∷ []) (Some w)

-- item = (name | call) [[AS] name]
pub data IsItem (limit : ℕ) : List Lexeme → Named × Option (List ℕ) → Type 0 where
  item : {x : Named} {alias : Option (List ℕ)} (ts us : List Lexeme) → IsItemValue limit ts x → IsAlias us alias
      → IsItem limit (ts ++ us) (x, alias)

-- a name that is not reserved
pub data IsKey : List Lexeme → List ℕ → Type 0 where
  name : {w : List ℕ} → is_reserved w ≡ false → IsKey (Name w ∷ []) w

-- [word cond]
pub data IsClause (limit : ℕ) (w : List ℕ) : List Lexeme → Option Named → Type 0 where
  no_clause : IsClause limit w [] None
  clause : {ts : List Lexeme} {x : Named} → IsCondition limit limit ts x → IsClause limit w (word w ∷ ts) (Some x)

-- [GROUP BY name {"," name}]
pub data IsKeys : List Lexeme → List (List ℕ) → Type 0 where
  no_keys : IsKeys [] []
  keys : {ts : List Lexeme} {names : List (List ℕ)} → IsListOf IsKey ts names
      → IsKeys (word (codes "group") ∷ word (codes "by") ∷ ts) names

-- [";"]
pub data IsEnd : List Lexeme → Type 0 where
  no_semicolon : IsEnd []
  semicolon : IsEnd (Sign symbols.Semicolon ∷ [])

-- query = SELECT item {"," item} FROM "batches" [WHERE cond] [GROUP BY name {"," name}] [HAVING cond]
--         arrangement [";"]
pub data IsQuery (limit : ℕ) : List Lexeme → Asked → Type 0 where
  query : {items : List (Named × Option (List ℕ))} {condition having : Option Named} {names : List (List ℕ)}
      {arrangement : Arrangement Term}
      (is ws gs hs os es : List Lexeme) → IsListOf (IsItem limit) is items → IsClause limit (codes "where") ws condition
      → IsKeys gs names → IsClause limit (codes "having") hs having → IsArrangement os arrangement → IsEnd es
      → IsQuery limit (word (codes "select") ∷ (is ++ word (codes "from") ∷ word (codes "batches") ∷ (ws ++ (gs ++ (hs ++ (os ++ es))))))
      (record { written = record { items = items; condition = condition; keys = names; having = having }; arrangement = arrangement })

-- some tokens complete these to a query in which at most `limit` parentheses of a condition are open at once
pub record Begins (limit : ℕ) (ts : List Lexeme) : Type 0 where
  pub more : List Lexeme
  pub asked : Asked
  pub is_query : IsQuery limit (ts ++ more) asked

-- how many parentheses of one condition may be open at once (own)
abbrev pub most_open : ℕ
most_open = MAX_OPEN
