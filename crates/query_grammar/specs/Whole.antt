-- Reading a query from the left (own). `limit` is how many parentheses of one condition may be open at once.
use Rattle.std.specs.Prelude.{ℕ, List, [], ◌∷◌, length, Option, Some, None, Ok, codes, if◌then◌else◌}
use Rattle.query_tokens.specs.declared.word.Symbol.TheVariants as symbols
use Rattle.query_tokens.specs.Words.{Lexeme, Name, Integer, Text, Sign}
use Rattle.query_grammar.specs.Grammar.{Named}
use Rattle.query_checks.specs.Order.{Asked}
use Rattle.query_tokens.specs.Reserved.{is_reserved}
use Rattle.query_grammar.specs.Terminals.{function_named, is_word, is_sign}
use Rattle.query_grammar.specs.Reading.{Read, ◌>>=◌, unexpected, after, choose, expect, name_at, function_or_column, condition_at}
use Rattle.query_grammar.specs.Reading.{conditions}
use Rattle.query_grammar.specs.Lists.{list_at}
use Rattle.query_grammar.specs.Arrangement.{arrangement_at}

-- an item's value: a column, or a call
unfoldable pub item_value_at : ℕ → List Lexeme → Read Named
item_value_at limit [] = unexpected []
item_value_at limit (Name w ∷ ts) = if is_reserved w then unexpected (Name w ∷ ts)
    else function_or_column (conditions limit) w (function_named w) ts
item_value_at limit (Integer z ∷ ts) = unexpected (Integer z ∷ ts)
item_value_at limit (Text s ∷ ts) = unexpected (Text s ∷ ts)
item_value_at limit (Sign s ∷ ts) = unexpected (Sign s ∷ ts)

-- a name, if one stands here
unfoldable pub alias_or_none : List Lexeme → Read (Option (List ℕ))
alias_or_none [] = Ok (None, [])
alias_or_none (Name w ∷ ts) = if is_reserved w then Ok (None, Name w ∷ ts) else Ok (Some w, ts)
alias_or_none (Integer z ∷ ts) = Ok (None, Integer z ∷ ts)
alias_or_none (Text s ∷ ts) = Ok (None, Text s ∷ ts)
alias_or_none (Sign s ∷ ts) = Ok (None, Sign s ∷ ts)

-- [[AS] name]
unfoldable pub alias_at : List Lexeme → Read (Option (List ℕ))
alias_at ts = choose (after (is_word (codes "as")) ts)
    (λ rest. do
      name ← name_at rest
      Ok (Some name.0, name.1))
    (alias_or_none ts)

-- item = (name | call) [[AS] name]
unfoldable pub item_at : ℕ → List Lexeme → Read (Named × Option (List ℕ))
item_at limit ts = do
  x ← item_value_at limit ts
  alias ← alias_at x.1
  Ok ((x.0, alias.0), alias.1)

-- a condition after a key word, or nothing
unfoldable pub clause_at : ℕ → List ℕ → List Lexeme → Read (Option Named)
clause_at limit w ts = choose (after (is_word w) ts)
    (λ rest. do
      x ← condition_at limit limit rest
      Ok (Some x.0, x.1))
    (Ok (None, ts))

-- GROUP BY and names, or nothing
unfoldable pub keys_at : List Lexeme → Read (List (List ℕ))
keys_at ts = choose (after (is_word (codes "group")) ts)
    (λ rest. do
      by ← expect (is_word (codes "by")) rest
      list_at name_at (length by.1) by.1)
    (Ok ([], ts))

-- no more tokens
abbrev pub nothing_at : List Lexeme → Read (Unit {0})
nothing_at [] = Ok (tt, [])
nothing_at (t ∷ ts) = unexpected (t ∷ ts)

-- a semicolon or none, and the end
unfoldable pub end_at : List Lexeme → Read (Unit {0})
end_at ts = choose (after (is_sign symbols.Semicolon) ts) nothing_at (nothing_at ts)

-- all of a query
unfoldable pub query_at : ℕ → List Lexeme → Read Asked
query_at limit ts = do
  select ← expect (is_word (codes "select")) ts
  items ← list_at (item_at limit) (length select.1) select.1
  from ← expect (is_word (codes "from")) items.1
  batches ← expect (is_word (codes "batches")) from.1
  condition ← clause_at limit (codes "where") batches.1
  keys ← keys_at condition.1
  having ← clause_at limit (codes "having") keys.1
  arrangement ← arrangement_at having.1
  end ← end_at arrangement.1
  Ok (
    record {
      written = record { items = items.0; condition = condition.0; keys = keys.0; having = having.0 };
      arrangement = arrangement.0;
    },
    end.1,
  )
