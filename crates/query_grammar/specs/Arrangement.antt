-- The clauses after HAVING, which arrange the rows of the answer: their grammar, one constructor a rule (after PostgreSQL 17, SELECT), and
-- how they are read from the left (own).
use Rattle.std.specs.Prelude.{ℕ, ℤ, ◌≡◌, Bool, true, false, List, [], ◌∷◌, ◌++◌, length, Option, Some, None, Ok, codes, if◌then◌else◌}
use Rattle.grouping_model.specs.Order.{Arrangement}
use Rattle.query_tokens.specs.Words.{Lexeme, Name, Integer, Text, Sign}
use Rattle.query_tokens.specs.Reserved.{is_reserved}
use Rattle.query_checks.specs.Order.{Target, By_name, By_place, Term}
use Rattle.query_grammar.specs.Grammar.{word}
use Rattle.query_grammar.specs.Terminals.{is_word}
use Rattle.query_grammar.specs.Reading.{Read, ◌>>=◌, unexpected, after, choose, expect}
use Rattle.query_grammar.specs.Lists.{IsListOf, list_at}

-- name | integer
pub data IsTarget : List Lexeme → Target → Type 0 where
  by_name : {w : List ℕ} → is_reserved w ≡ false → IsTarget (Name w ∷ []) (By_name w)
  by_place : {z : ℤ} → IsTarget (Integer z ∷ []) (By_place z)

-- [ASC | DESC]: ascending, unless DESC stands there
pub data IsDirection : List Lexeme → Bool → Type 0 where
  no_direction : IsDirection [] false
  ascending : IsDirection (word (codes "asc") ∷ []) false
  descending : IsDirection (word (codes "desc") ∷ []) true

-- [NULLS ("first" | "last")]
pub data IsNulls : List Lexeme → Option Bool → Type 0 where
  no_nulls : IsNulls [] None
  first : IsNulls (word (codes "nulls") ∷ word (codes "first") ∷ []) (Some true)
  last_ : IsNulls (word (codes "nulls") ∷ word (codes "last") ∷ []) (Some false)

-- term = (name | integer) [ASC | DESC] [NULLS ("first" | "last")] (PostgreSQL 17, 7.5 Sorting Rows)
pub data IsTerm : List Lexeme → Term → Type 0 where
  term : {target : Target} {descending : Bool} {nulls_first : Option Bool} (ts ds ns : List Lexeme) → IsTarget ts target
      → IsDirection ds descending → IsNulls ns nulls_first
      → IsTerm (ts ++ (ds ++ ns)) (record { target = target; descending = descending; nulls_first = nulls_first })

-- [ORDER BY term {"," term}]
pub data IsOrder : List Lexeme → List Term → Type 0 where
  no_order : IsOrder [] []
  order : {ts : List Lexeme} {terms : List Term} → IsListOf IsTerm ts terms
      → IsOrder (word (codes "order") ∷ word (codes "by") ∷ ts) terms

-- arrangement = [ORDER BY term {"," term}]
abbrev pub IsArrangement : List Lexeme → Arrangement Term → Type 0
IsArrangement ts arrangement = IsOrder ts arrangement.order

-- an item's name or place
unfoldable pub target_at : List Lexeme → Read Target
target_at [] = unexpected []
target_at (Name w ∷ ts) = if is_reserved w then unexpected (Name w ∷ ts) else Ok (By_name w, ts)
target_at (Integer z ∷ ts) = Ok (By_place z, ts)
target_at (Text s ∷ ts) = unexpected (Text s ∷ ts)
target_at (Sign s ∷ ts) = unexpected (Sign s ∷ ts)

-- DESC, ASC or nothing: whether it is descending
unfoldable pub direction_at : List Lexeme → Read Bool
direction_at ts =
    choose (after (is_word (codes "desc")) ts) (λ rest. Ok (true, rest)) (
    choose (after (is_word (codes "asc")) ts) (λ rest. Ok (false, rest)) (Ok (false, ts)))

-- what stands after NULLS: whether they come first
unfoldable pub first_or_last : List Lexeme → Read (Option Bool)
first_or_last ts =
    choose (after (is_word (codes "first")) ts) (λ rest. Ok (Some true, rest)) (
    choose (after (is_word (codes "last")) ts) (λ rest. Ok (Some false, rest)) (unexpected ts))

-- NULLS FIRST, NULLS LAST or nothing
unfoldable pub nulls_at : List Lexeme → Read (Option Bool)
nulls_at ts = choose (after (is_word (codes "nulls")) ts) first_or_last (Ok (None, ts))

-- a term of ORDER BY
unfoldable pub term_at : List Lexeme → Read Term
term_at ts = do
  target ← target_at ts
  direction ← direction_at target.1
  nulls ← nulls_at direction.1
  Ok (record { target = target.0; descending = direction.0; nulls_first = nulls.0 }, nulls.1)

-- ORDER BY and terms, or nothing
unfoldable pub order_at : List Lexeme → Read (List Term)
order_at ts = choose (after (is_word (codes "order")) ts)
    (λ rest. do
      by ← expect (is_word (codes "by")) rest
      list_at term_at (length by.1) by.1)
    (Ok ([], ts))

-- all of these clauses
unfoldable pub arrangement_at : List Lexeme → Read (Arrangement Term)
arrangement_at ts = do
  terms ← order_at ts
  Ok (record { order = terms.0 }, terms.1)
