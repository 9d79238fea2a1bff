-- The grammar of conditions, one constructor a rule. `limit` is how many parentheses of one condition may be open at
-- once. `room` is how many more may still be opened where the tokens stand. The words and symbols are SQL's; which
-- forms there are, and that IS binds less tightly than a comparison, is our own (PostgreSQL 17, 4.1.6 and 4.2).
use Rattle.std.specs.Prelude.{ℕ, suc, ◌≡◌, ℤ, true, false, List, [], ◌∷◌, ◌++◌, Option, Some, None, codes}
use Rattle.query_tokens.specs.declared.word.Symbol.{Symbol}
use Rattle.query_tokens.specs.declared.word.Symbol.TheVariants as symbols
use Rattle.query_tokens.specs.Words.{Lexeme, Name, Integer, Text, Sign}
use Rattle.query_tokens.specs.Reserved.{is_reserved}
use Rattle.grouping_model.specs.Datum as datum
use Rattle.grouping_model.specs.Aggregates as function
use Rattle.grouping_model.specs.Aggregates.{Function}
use Rattle.grouping_model.specs.Condition.{Comparison, Test}
use Rattle.query_checks.specs.Forms as form
use Rattle.query_checks.specs.Forms.{Form}
use Rattle.query_checks.specs.Operators.{comparison_named, test_word}
use Rattle.query_grammar.specs.Terminals.{function_named}

-- a condition over the names of columns
abbrev pub Named : Type 0
Named = Form (List ℕ)

-- the tokens that are parentheses
abbrev pub opening : Lexeme
opening = Sign symbols.Open

abbrev pub closing : Lexeme
closing = Sign symbols.Close

-- a key word
abbrev pub word : List ℕ → Lexeme
word w = Name w

-- a test: its word, which is NULL | TRUE | FALSE | UNKNOWN (PostgreSQL 17, Table 9.2)
pub data IsTest : List Lexeme → Test → Type 0 where
  for_word : (t : Test) → IsTest (word (test_word t) ∷ []) t

-- what stands in the parentheses of a call of this function: a column, or `*` in those of count, which counts rows then
-- (PostgreSQL 17, 4.2.7 Aggregate Expressions)
pub data IsCallArgument : Function → List Lexeme → Function × Option (List ℕ) → Type 0 where
  all_rows : IsCallArgument function.Count (Sign symbols.Star ∷ []) (function.Count_rows, None)
  a_column : {f : Function} {w : List ℕ} → is_reserved w ≡ false → IsCallArgument f (Name w ∷ []) (f, Some w)

mutual
  -- cond = and {OR and}, grouped to the left
  pub data IsCondition (limit : ℕ) : ℕ → List Lexeme → Named → Type 0 where
    only_and : {room : ℕ} {ts : List Lexeme} {x : Named} → IsAnd limit room ts x → IsCondition limit room ts x
    by_or : {room : ℕ} (ts us : List Lexeme) {x y : Named} → IsCondition limit room ts x → IsAnd limit room us y
        → IsCondition limit room (ts ++ word (codes "or") ∷ us) (form.Or x y)

  -- and = not {AND not}, grouped to the left
  pub data IsAnd (limit : ℕ) : ℕ → List Lexeme → Named → Type 0 where
    only_not : {room : ℕ} {ts : List Lexeme} {x : Named} → IsNot limit room ts x → IsAnd limit room ts x
    by_and : {room : ℕ} (ts us : List Lexeme) {x y : Named} → IsAnd limit room ts x → IsNot limit room us y
        → IsAnd limit room (ts ++ word (codes "and") ∷ us) (form.And x y)

  -- not = NOT not | test
  pub data IsNot (limit : ℕ) : ℕ → List Lexeme → Named → Type 0 where
    only_tested : {room : ℕ} {ts : List Lexeme} {x : Named} → IsTested limit room ts x → IsNot limit room ts x
    by_not : {room : ℕ} {ts : List Lexeme} {x : Named} → IsNot limit room ts x → IsNot limit room (word (codes "not") ∷ ts) (form.Not x)

  -- test = cmp {IS [NOT] the word of a test}
  pub data IsTested (limit : ℕ) : ℕ → List Lexeme → Named → Type 0 where
    only_compared : {room : ℕ} {ts : List Lexeme} {x : Named} → IsCompared limit room ts x → IsTested limit room ts x
    by_is : {room : ℕ} (ts us : List Lexeme) {x : Named} {t : Test} → IsTested limit room ts x → IsTest us t
        → IsTested limit room (ts ++ word (codes "is") ∷ us) (form.Is t x)
    by_is_not : {room : ℕ} (ts us : List Lexeme) {x : Named} {t : Test} → IsTested limit room ts x → IsTest us t
        → IsTested limit room (ts ++ word (codes "is") ∷ word (codes "not") ∷ us) (form.Is_not t x)

  -- cmp = prim [comparison prim]
  pub data IsCompared (limit : ℕ) : ℕ → List Lexeme → Named → Type 0 where
    only_operand : {room : ℕ} {ts : List Lexeme} {x : Named} → IsOperand limit room ts x → IsCompared limit room ts x
    by_comparison : {room : ℕ} (ts us : List Lexeme) {x y : Named} (s : Symbol) {c : Comparison} → IsOperand limit room ts x
        → comparison_named s ≡ Some c → IsOperand limit room us y → IsCompared limit room (ts ++ Sign s ∷ us) (form.Compare c x y)

  -- prim = name | call | integer | string | TRUE | FALSE | NULL | "(" cond ")"
  pub data IsOperand (limit : ℕ) : ℕ → List Lexeme → Named → Type 0 where
    column : {room : ℕ} {w : List ℕ} → is_reserved w ≡ false → IsOperand limit room (Name w ∷ []) (form.Column w)
    call : {room : ℕ} {ts : List Lexeme} {x : Named} → IsCall limit ts x → IsOperand limit room ts x
    integer : {room : ℕ} {z : ℤ} → IsOperand limit room (Integer z ∷ []) (form.Literal (datum.Bigint z))
    text : {room : ℕ} {s : List ℕ} → IsOperand limit room (Text s ∷ []) (form.Literal (datum.Text s))
    true_word : {room : ℕ} → IsOperand limit room (word (codes "true") ∷ []) (form.Literal (datum.Boolean true))
    false_word : {room : ℕ} → IsOperand limit room (word (codes "false") ∷ []) (form.Literal (datum.Boolean false))
    null_word : {room : ℕ} → IsOperand limit room (word (codes "null") ∷ []) (form.Literal datum.Null)
    enclosed : {room : ℕ} (ts : List Lexeme) {x : Named} → IsCondition limit room ts x
        → IsOperand limit (suc room) (opening ∷ (ts ++ closing ∷ [])) x

  -- call = function "(" name ")" [filter] | "count" "(" "*" ")" [filter], filter = FILTER "(" WHERE cond ")". The
  -- parentheses of a FILTER's condition are counted anew
  pub data IsCall (limit : ℕ) : List Lexeme → Named → Type 0 where
    plain : {w : List ℕ} {f : Function} (ts : List Lexeme) {c : Function × Option (List ℕ)} → is_reserved w ≡ false
        → function_named w ≡ Some f → IsCallArgument f ts c
        → IsCall limit (Name w ∷ opening ∷ (ts ++ closing ∷ [])) (form.Call c.0 c.1)
    filtered : {w : List ℕ} {f : Function} (ts us : List Lexeme) {c : Function × Option (List ℕ)} {x : Named}
        → is_reserved w ≡ false → function_named w ≡ Some f → IsCallArgument f ts c → IsCondition limit limit us x
        → IsCall limit
        (Name w ∷ opening ∷ (ts ++ closing ∷ word (codes "filter") ∷ opening ∷ word (codes "where") ∷ (us ++ closing ∷ [])))
        (form.Call_where c.0 c.1 x)
