-- Reading a condition from the left by descent, with the first fault that is met. This is how the grammar is read, and
-- our own; the laws of this crate say what it has to do with the grammar.
use Rattle.std.specs.Prelude.{ℕ, zero, suc, Bool, true, false, List, [], ◌∷◌, length, Option, Some, None, Result, Ok, Err, codes}
use Rattle.std.specs.Prelude.{if◌then◌else◌}
use Rattle.std.specs.Str.{bytes_eq}
use Rattle.query_tokens.specs.declared.word.Symbol.TheVariants as symbols
use Rattle.query_tokens.specs.Words.{Lexeme, Name, Integer, Text, Sign}
use Rattle.query_tokens.specs.Reserved.{is_reserved}
use Rattle.grouping_model.specs.Datum as datum
use Rattle.grouping_model.specs.Aggregates as function
use Rattle.grouping_model.specs.Aggregates.{Function}
use Rattle.grouping_model.specs.Condition.{Comparison, Test}
use Rattle.query_checks.specs.Forms as form
use Rattle.query_checks.specs.Operators.{comparison_named, all_tests, test_word}
use Rattle.query_grammar.specs.Terminals.{function_named, is_word, is_sign}
use Rattle.query_grammar.specs.Grammar.{Named, opening}

-- the first fault, by how many tokens are left from it on: a token that can't stand there or the end of the tokens, or a
-- parenthesis too many
pub data Fault : Type 0 where
  Unexpected : ℕ → Fault
  Too_deep : ℕ → Fault

-- what reading from the front gives: a value and the tokens after it, or the first fault
abbrev pub Read : Type 0 → Type 0
Read A = Result (A × List Lexeme) Fault

-- two steps, of which the second reads on after the first; the first fault ends both
infixl 10 ◌>>=◌
abbrev pub ◌>>=◌ : {A B : Type 0} → Read A → (A × List Lexeme → Read B) → Read B
(Ok x) >>= f = f x
(Err e) >>= f = Err e

-- the faults at the front of these tokens
abbrev pub unexpected : {A : Type 0} → List Lexeme → Read A
unexpected ts = Err (Unexpected (length ts))

abbrev pub too_deep : {A : Type 0} → List Lexeme → Read A
too_deep ts = Err (Too_deep (length ts))

-- a token that passes a test: what follows it, or none where another stands
abbrev pub after : (Lexeme → Bool) → List Lexeme → Option (List Lexeme)
after test [] = None
after test (t ∷ ts) = if test t then Some ts else None

-- reading on after an optional token, or without it
abbrev pub choose : {A : Type 0} → Option (List Lexeme) → (List Lexeme → A) → A → A
choose None there otherwise = otherwise
choose (Some ts) there otherwise = there ts

-- a token that must stand here; it has no value
abbrev pub expect : (Lexeme → Bool) → List Lexeme → Read (Unit {0})
expect test ts = choose (after test ts) (λ rest. Ok (tt, rest)) (unexpected ts)

-- a name
abbrev pub name_at : List Lexeme → Read (List ℕ)
name_at (Name w ∷ ts) = if is_reserved w then unexpected (Name w ∷ ts) else Ok (w, ts)
name_at ts = unexpected ts

-- how the conditions inside are read: how many parentheses of one may be open at once, and one of which so many more may
-- be opened
pub record Inner : Type 0 where
  pub limit : ℕ
  pub inside : ℕ → List Lexeme → Read Named

-- FILTER (WHERE cond), or nothing
unfoldable pub filter_at : Inner → Function × Option (List ℕ) → List Lexeme → Read Named
filter_at inner c ts = choose (after (is_word (codes "filter")) ts)
    (λ rest. do
      opened ← expect (is_sign symbols.Open) rest
      where_ ← expect (is_word (codes "where")) opened.1
      x ← inner.inside inner.limit where_.1
      closed ← expect (is_sign symbols.Close) x.1
      Ok (form.Call_where c.0 c.1 x.0, closed.1))
    (Ok (form.Call c.0 c.1, ts))

abbrev pub is_count : Function → Bool
is_count function.Count = true
is_count other = false

-- what stands in a call's parentheses: * in those of count alone, or a name
unfoldable pub argument_at : Function → List Lexeme → Read (Function × Option (List ℕ))
argument_at f ts = choose (if is_count f then after (is_sign symbols.Star) ts else None)
    (λ rest. Ok ((function.Count_rows, None), rest))
    (do
      name ← name_at ts
      Ok ((f, Some name.0), name.1))

-- a call, from after its parenthesis on
unfoldable pub call_at : Inner → Function → List Lexeme → Read Named
call_at inner f ts = do
  argument ← argument_at f ts
  closed ← expect (is_sign symbols.Close) argument.1
  filter_at inner argument.0 closed.1

-- a column, or a call where a function's name and a parenthesis stand
abbrev pub function_or_column : Inner → List ℕ → Option Function → List Lexeme → Read Named
function_or_column inner w None ts = Ok (form.Column w, ts)
function_or_column inner w (Some f) ts = choose (after (is_sign symbols.Open) ts) (λ rest. call_at inner f rest) (Ok (form.Column w, ts))

-- a word among operands
unfoldable pub word_at : Inner → List ℕ → List Lexeme → Read Named
word_at inner w ts =
    if bytes_eq w (codes "true") then Ok (form.Literal (datum.Boolean true), ts) else
    if bytes_eq w (codes "false") then Ok (form.Literal (datum.Boolean false), ts) else
    if bytes_eq w (codes "null") then Ok (form.Literal datum.Null, ts) else
    if is_reserved w then unexpected (Name w ∷ ts) else function_or_column inner w (function_named w) ts

-- a condition in parentheses, from after the first on
unfoldable pub enclosed_at : Inner → ℕ → List Lexeme → Read Named
enclosed_at inner zero ts = too_deep (opening ∷ ts)
enclosed_at inner (suc room) ts = do
  x ← inner.inside room ts
  closed ← expect (is_sign symbols.Close) x.1
  Ok (x.0, closed.1)

-- an operand
unfoldable pub prim_at : Inner → ℕ → List Lexeme → Read Named
prim_at inner room [] = unexpected []
prim_at inner room (Name w ∷ ts) = word_at inner w ts
prim_at inner room (Integer z ∷ ts) = Ok (form.Literal (datum.Bigint z), ts)
prim_at inner room (Text s ∷ ts) = Ok (form.Literal (datum.Text s), ts)
prim_at inner room (Sign s ∷ ts) = if is_sign symbols.Open (Sign s) then enclosed_at inner room ts else unexpected (Sign s ∷ ts)

abbrev pub with_rest : Option Comparison → List Lexeme → Option (Comparison × List Lexeme)
with_rest None ts = None
with_rest (Some c) ts = Some (c, ts)

-- the comparison at the front, and what follows it
abbrev pub after_comparison : List Lexeme → Option (Comparison × List Lexeme)
after_comparison (Sign s ∷ ts) = with_rest (comparison_named s) ts
after_comparison ts = None

abbrev pub right_side : Inner → ℕ → Named → List Lexeme → Option (Comparison × List Lexeme) → Read Named
right_side inner room x ts None = Ok (x, ts)
right_side inner room x ts (Some p) = do
  y ← prim_at inner room p.1
  Ok (form.Compare p.0 x y.0, y.1)

-- an operand, or a comparison of two
unfoldable pub cmp_at : Inner → ℕ → List Lexeme → Read Named
cmp_at inner room ts = do
  x ← prim_at inner room ts
  right_side inner room x.0 x.1 (after_comparison x.1)

-- what an IS test looks for, among these tests, and among all
abbrev pub looked_for_among : List Test → List Lexeme → Read Test
looked_for_among [] ts = unexpected ts
looked_for_among (t ∷ tests) ts = choose (after (is_word (test_word t)) ts) (λ rest. Ok (t, rest)) (looked_for_among tests ts)

unfoldable pub looked_for : List Lexeme → Read Test
looked_for ts = looked_for_among all_tests ts

-- an IS test of a condition, or an IS NOT test where it is negated
abbrev pub test_behind : Bool → Named → List Lexeme → Read Named
test_behind negated x ts = do
  t ← looked_for ts
  Ok (form.Unary (form.Testing t.0 negated) x, t.1)

-- [NOT] and what is looked for, behind an IS
unfoldable pub tested : Named → List Lexeme → Read Named
tested x ts = choose (after (is_word (codes "not")) ts) (test_behind true x) (test_behind false x ts)

-- any number of steps behind a condition, each behind a word and from the condition that was read so far to the next. Each
-- takes a token, so `turns` is enough where it is at least the number of tokens
unfoldable pub chain_at : List ℕ → (Named → List Lexeme → Read Named) → ℕ → Named → List Lexeme → Read Named
chain_at operator step zero x ts = Ok (x, ts)
chain_at operator step (suc turns) x ts = choose (after (is_word operator) ts)
    (λ rest. do
      y ← step x rest
      chain_at operator step turns y.0 y.1)
    (Ok (x, ts))

-- any number of IS tests behind a comparison
unfoldable pub test_at : Inner → ℕ → List Lexeme → Read Named
test_at inner room ts = do
  x ← cmp_at inner room ts
  chain_at (codes "is") tested (length x.1) x.0 x.1

-- any number of NOTs, and a test
unfoldable pub not_at : Inner → ℕ → List Lexeme → Read Named
not_at inner room [] = test_at inner room []
not_at inner room (t ∷ ts) =
    if is_word (codes "not") t then (do
      x ← not_at inner room ts
      Ok (form.Not x.0, x.1))
    else test_at inner room (t ∷ ts)

-- one more operand, joined to what was read so far
abbrev pub joined : (Named → Named → Named) → (List Lexeme → Read Named) → Named → List Lexeme → Read Named
joined join operand x ts = do
  y ← operand ts
  Ok (join x y.0, y.1)

-- any number of ANDs, grouped to the left
unfoldable pub and_at : Inner → ℕ → List Lexeme → Read Named
and_at inner room ts = do
  x ← not_at inner room ts
  chain_at (codes "and") (joined form.And (not_at inner room)) (length x.1) x.0 x.1

-- any number of ORs, grouped to the left
unfoldable pub or_at : Inner → ℕ → List Lexeme → Read Named
or_at inner room ts = do
  x ← and_at inner room ts
  chain_at (codes "or") (joined form.Or (and_at inner room)) (length x.1) x.0 x.1

-- a condition in which conditions are nested less than so deep
unfoldable pub nested_at : ℕ → ℕ → ℕ → List Lexeme → Read Named
nested_at limit zero room ts = unexpected ts
nested_at limit (suc most) room ts = or_at (record { limit = limit; inside = nested_at limit most }) room ts

-- a condition of which `room` more parentheses may be opened. A condition inside stands behind a token, so they are
-- nested less deep than there are tokens and one
unfoldable pub condition_at : ℕ → ℕ → List Lexeme → Read Named
condition_at limit room ts = nested_at limit (suc (length ts)) room ts

-- conditions inside one another
abbrev pub conditions : ℕ → Inner
conditions limit = record { limit = limit; inside = condition_at limit }
