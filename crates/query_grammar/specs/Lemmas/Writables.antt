-- What legal tokens say in the grammar can be written.
use Rattle.std.proofs.Common.{◌≡◌, ℕ, Bool, true, false, cond, List, [], ◌∷◌, ◌++◌, find, Option, Some, None, refl, subst}
use Rattle.std.specs.Prelude.{codes, ◌≢◌}
use Rattle.std.proofs.lemmas.Bool.{and_parts, false≢true}
use Rattle.std.specs.Str.{bytes_eq}
use Rattle.std.specs.List.{AllByRecursion}
use Rattle.std.specs.Option.{ForSome}
use Rattle.query_tokens.specs.declared.word.Symbol.TheVariants as symbols
use Rattle.query_grammar.specs.Lemmas.Words.{Lexeme, Sign, IsLexeme, Function, Argument, Each_row, Any_value, Values_of, signature}
use Rattle.query_grammar.specs.Lemmas.Words.{functions, is_value, is_named, IsColumnName, Target, Term, Asked, IsForm, IsColumnOrCall}
use Rattle.query_grammar.specs.Lemmas.Words.{CanBeAsked, function_named, Named, opening, closing, word, IsCallArgument, IsCondition, IsAnd}
use Rattle.query_grammar.specs.Lemmas.Words.{IsNot, IsTested, IsCompared, IsOperand, IsCall, IsItemValue, IsAlias, IsItem, IsKey, IsListOf}
use Rattle.query_grammar.specs.Lemmas.Words.{IsClause, IsKeys, IsTarget, IsOrder, IsQuery}
use Rattle.query_checks.specs.Order as checks
use Rattle.query_checks.specs.Writable as writable
use Rattle.query_grammar.specs.Grammar as grammar
use Rattle.query_grammar.specs.Lists as lists
use Rattle.query_grammar.specs.Arrangement as ordering
use Rattle.query_grammar.specs.Queries as queries
use Rattle.query_grammar.specs.Arrangement.{IsTerm}

abbrev Legal : List Lexeme → Type 0
Legal ts = AllByRecursion IsLexeme ts

left : (ts us : List Lexeme) → Legal (ts ++ us) → Legal ts
left [] us l = tt
left (t ∷ ts) us l = (l.0, left ts us l.1)

right : (ts us : List Lexeme) → Legal (ts ++ us) → Legal us
right [] us l = l
right (t ∷ ts) us l = right ts us l.1

-- ---- calls

-- a name that calls a function calls one that takes values
abbrev TakesValues : Option Function → Type 0
TakesValues None = Unit {0}
TakesValues (Some f) = is_value (signature f).argument ≡ true

first_takes : (w : List ℕ) (f : Function) (fs : List Function) (b : Bool) → is_named w f ≡ b → TakesValues (find (is_named w) fs)
    → TakesValues (cond b (Some f) (find (is_named w) fs))
first_takes w f fs true e more = (and_parts (is_value (signature f).argument) (bytes_eq w (signature f).name) e).0
first_takes w f fs false e more = more

found_takes : (w : List ℕ) (fs : List Function) → TakesValues (find (is_named w) fs)
found_takes w [] = tt
found_takes w (f ∷ fs) = first_takes w f fs (is_named w f) refl (found_takes w fs)

named_takes : (w : List ℕ) → TakesValues (function_named w)
unfolding function_named
named_takes w = found_takes w functions

an_argument : (argument : Argument) (name : List ℕ) → is_value argument ≡ true → IsColumnName name
    → writable.IsColumnFor IsColumnName argument (Some name)
an_argument Each_row name takes h = absurd (false≢true takes)
an_argument Any_value name takes h = h
an_argument (Values_of kind) name takes h = h

argument_writable : (w : List ℕ) {f : Function} {ts : List Lexeme} {c : Function × Option (List ℕ)} → function_named w ≡ Some f
    → IsCallArgument f ts c → Legal ts → writable.IsWritableArgument IsColumnName c.0 c.1
argument_writable w e grammar.all_rows l = tt
argument_writable w e (grammar.a_column {f = f} {w = name} free) l =
    an_argument (signature f).argument name (rw e at (named_takes w)) (record { legal = l.0; free = free })

-- ---- conditions

mutual
  pub condition_writable : {limit room : ℕ} {ts : List Lexeme} {x : Named} → IsCondition limit room ts x → Legal ts → IsForm IsColumnName x
  condition_writable (grammar.only_and p) l = and_writable p l
  condition_writable (grammar.by_or ts us p q) l = (
    condition_writable p (left ts (word (codes "or") ∷ us) l),
    and_writable q
        (right ts (word (codes "or") ∷ us) l).1,
  )

  and_writable : {limit room : ℕ} {ts : List Lexeme} {x : Named} → IsAnd limit room ts x → Legal ts → IsForm IsColumnName x
  and_writable (grammar.only_not p) l = not_writable p l
  and_writable (grammar.by_and ts us p q) l = (
    and_writable p (left ts (word (codes "and") ∷ us) l),
    not_writable q
        (right ts (word (codes "and") ∷ us) l).1,
  )

  not_writable : {limit room : ℕ} {ts : List Lexeme} {x : Named} → IsNot limit room ts x → Legal ts → IsForm IsColumnName x
  not_writable (grammar.only_tested p) l = test_writable p l
  not_writable (grammar.by_not p) l = not_writable p l.1

  test_writable : {limit room : ℕ} {ts : List Lexeme} {x : Named} → IsTested limit room ts x → Legal ts → IsForm IsColumnName x
  test_writable (grammar.only_compared p) l = compared_writable p l
  test_writable (grammar.by_is ts us p q) l = test_writable p (left ts (word (codes "is") ∷ us) l)
  test_writable (grammar.by_is_not ts us p q) l = test_writable p (left ts (word (codes "is") ∷ word (codes "not") ∷ us) l)

  compared_writable : {limit room : ℕ} {ts : List Lexeme} {x : Named} → IsCompared limit room ts x → Legal ts → IsForm IsColumnName x
  compared_writable (grammar.only_operand p) l = operand_writable p l
  compared_writable (grammar.by_comparison ts us s p e q) l = (
    operand_writable p (left ts (Sign s ∷ us) l),
    operand_writable q
        (right ts (Sign s ∷ us) l).1,
  )

  operand_writable : {limit room : ℕ} {ts : List Lexeme} {x : Named} → IsOperand limit room ts x → Legal ts → IsForm IsColumnName x
  operand_writable (grammar.column free) l = record { legal = l.0; free = free }
  operand_writable (grammar.call p) l = call_writable p l
  operand_writable grammar.integer l = l.0
  operand_writable grammar.text l = l.0
  operand_writable grammar.true_word l = tt
  operand_writable grammar.false_word l = tt
  operand_writable grammar.null_word l = tt
  operand_writable (grammar.enclosed ts p) l = condition_writable p (left ts (closing ∷ []) l.1)

  call_writable : {limit : ℕ} {ts : List Lexeme} {x : Named} → IsCall limit ts x → Legal ts → IsForm IsColumnName x
  call_writable (grammar.plain {w = w} ts free e p) l = argument_writable w e p (left ts (closing ∷ []) l.1.1)
  call_writable (grammar.filtered {w = w} ts us free e p q) l =
      let behind = right ts (closing ∷ word (codes "filter") ∷ opening ∷ word (codes "where") ∷ (us ++ closing ∷ [])) l.1.1 in (
        argument_writable w e p (left ts (closing ∷ word (codes "filter") ∷ opening ∷ word (codes "where") ∷ (us ++ closing ∷ [])) l.1.1),
        condition_writable q (left us (closing ∷ []) behind.1.1.1.1),
      )

-- ---- queries

call_is : {limit : ℕ} {ts : List Lexeme} {x : Named} → IsCall limit ts x → IsColumnOrCall x
call_is (grammar.plain ts free e p) = tt
call_is (grammar.filtered ts us free e p q) = tt

value_is : {limit : ℕ} {ts : List Lexeme} {x : Named} → IsItemValue limit ts x → IsColumnOrCall x
value_is (queries.item_column free) = tt
value_is (queries.item_call p) = call_is p

value_writable : {limit : ℕ} {ts : List Lexeme} {x : Named} → IsItemValue limit ts x → Legal ts → IsForm IsColumnName x
value_writable (queries.item_column free) l = record { legal = l.0; free = free }
value_writable (queries.item_call p) l = call_writable p l

for_none : {A : Type 0} (P : A → Type 0) → ForSome None P
for_none P = λ x e. absurd cc

for_some : {A : Type 0} (P : A → Type 0) (x : A) → P x → ForSome (Some x) P
for_some P x p = λ y e. let same : x ≡ y = cc in subst P same p

alias_writable : {ts : List Lexeme} {alias : Option (List ℕ)} → IsAlias ts alias → Legal ts → ForSome alias IsColumnName
alias_writable queries.no_alias l = for_none IsColumnName
alias_writable (queries.bare {w = w} free) l = for_some IsColumnName w (record { legal = l.0; free = free })
alias_writable (queries.behind_as {w = w} free) l = for_some IsColumnName w (record { legal = l.1.0; free = free })

item_writable : {limit : ℕ} (ts : List Lexeme) (x : Named × Option (List ℕ)) → IsItem limit ts x → Legal ts → writable.IsItem x
item_writable _ _ (queries.item ts us p q) l = record {
  value = value_is p;
  form = value_writable p (left ts us l);
  alias = alias_writable q
      (right ts us l);
}

name_writable : (ts : List Lexeme) (w : List ℕ) → IsKey ts w → Legal ts → IsColumnName w
name_writable _ _ (queries.name free) l = record { legal = l.0; free = free }

list_writable : {A : Type 0} (P : List Lexeme → A → Type 0) (Q : A → Type 0) → ((ts : List Lexeme) (x : A) → P ts x → Legal ts → Q x)
    → (ts : List Lexeme) (xs : List A) → IsListOf P ts xs → Legal ts → AllByRecursion Q xs
list_writable P Q h ts _ (lists.last {x = x} p) l = (h ts x p l, tt)
list_writable P Q h _ _ (lists.more {x = x} {xs = xs} ts us p q) l =
    (h ts x p (left ts (Sign symbols.Comma ∷ us) l), list_writable P Q h us xs q (right ts (Sign symbols.Comma ∷ us) l).1)

some_member : {A : Type 0} (P : List Lexeme → A → Type 0) (ts : List Lexeme) (xs : List A) → IsListOf P ts xs → xs ≢ []
some_member P ts _ (lists.last p) = λ e. cc
some_member P _ _ (lists.more ts us p q) = λ e. cc

clause_writable : {limit : ℕ} {w : List ℕ} {ts : List Lexeme} {c : Option Named} → IsClause limit w ts c → Legal ts
    → ForSome c (IsForm IsColumnName)
clause_writable queries.no_clause l = for_none (IsForm IsColumnName)
clause_writable (queries.clause {x = x} p) l = for_some (IsForm IsColumnName) x (condition_writable p l.1)

keys_writable : {ts : List Lexeme} {names : List (List ℕ)} → IsKeys ts names → Legal ts → AllByRecursion IsColumnName names
keys_writable queries.no_keys l = tt
keys_writable (queries.keys {ts = ts} {names = names} p) l = list_writable IsKey IsColumnName name_writable ts names p l.1.1

target_writable : {ts : List Lexeme} {x : Target} → IsTarget ts x → Legal ts → checks.IsTarget x
target_writable (ordering.by_name free) l = record { legal = l.0; free = free }
target_writable ordering.by_place l = l.0

term_writable : (ts : List Lexeme) (x : Term) → IsTerm ts x → Legal ts → checks.IsTerm x
term_writable _ _ (ordering.term ts ds ns p q r) l = record { target = target_writable p (left ts (ds ++ ns) l) }

order_writable : {ts : List Lexeme} {terms : List Term} → IsOrder ts terms → Legal ts → AllByRecursion checks.IsTerm terms
order_writable ordering.no_order l = tt
order_writable (ordering.order {ts = ts} {terms = terms} p) l = list_writable IsTerm checks.IsTerm term_writable ts terms p l.1.1

pub query_writable : (limit : ℕ) (ts : List Lexeme) (q : Asked) → IsQuery limit ts q → AllByRecursion IsLexeme ts → CanBeAsked q
query_writable limit _ _ (queries.query {items = items} is ws gs hs os es p q r h o e) l =
    let tail = ws ++ (gs ++ (hs ++ (os ++ es))) in
    let behind = (right is (word (codes "from") ∷ word (codes "batches") ∷ tail) l.1).1.1 in
    let keyed = right ws (gs ++ (hs ++ (os ++ es))) behind in
    let grouped = right gs (hs ++ (os ++ es)) keyed in
    record {
      written = record {
        some = some_member (IsItem limit) is items p;
        items = list_writable (IsItem limit) writable.IsItem item_writable is items p (left is (word (codes "from") ∷ word (codes "batches")
            ∷ tail) l.1);
        condition = clause_writable q (left ws (gs ++ (hs ++ (os ++ es))) behind);
        keys = keys_writable r (left gs (hs ++ (os ++ es)) keyed);
        having = clause_writable h (left hs (os ++ es) grouped);
      };
      arrangement = record { terms = order_writable o (left os es (right hs (os ++ es) grouped)) };
    }
