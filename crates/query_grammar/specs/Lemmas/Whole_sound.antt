-- What is read as a query is in the grammar, and what stands before a token that is refused can be completed.
use Rattle.std.proofs.Common.{◌≡◌, ℕ, zero, suc, pos, Bool, true, false, cond, List, [], ◌∷◌, ◌++◌, length, Option, Some, None, Ok, refl}
use Rattle.std.proofs.Common.{sym, subst}
use Rattle.std.specs.Prelude.{codes}
use Rattle.std.proofs.lemmas.List.{append-nil}
use Rattle.query_tokens.specs.declared.word.Symbol.TheVariants as symbols
use Rattle.query_grammar.specs.Lemmas.Words.{Lexeme, Name, Integer, Text, Sign, is_reserved, Function, By_place, Term, Asked}
use Rattle.query_grammar.specs.Lemmas.Words.{Arrangement, IsArrangement, arrangement_at, function_named, is_word, is_sign, Named}
use Rattle.query_grammar.specs.Lemmas.Words.{opening, word, IsItemValue, IsAlias, IsItem, IsKey}
use Rattle.query_grammar.specs.Lemmas.Words.{IsListOf, IsClause, IsKeys, IsOrder, IsEnd, IsQuery, Read, unexpected, after, choose, expect}
use Rattle.query_grammar.specs.Lemmas.Words.{call_at, function_or_column, condition_at, conditions, item_value_at, alias_or_none, alias_at}
use Rattle.query_grammar.specs.Lemmas.Words.{item_at, list_at, clause_at, keys_at, term_at, order_at, nothing_at, end_at, query_at}
use Rattle.query_checks.specs.Forms as form
use Rattle.query_grammar.specs.Lists as lists
use Rattle.query_grammar.specs.Arrangement as ordering
use Rattle.query_grammar.specs.Queries as grammar
use Rattle.query_grammar.specs.Reading.{◌>>=◌, name_at}
use Rattle.query_grammar.specs.Laws.{Part, Means, CanBecome}
use Rattle.query_grammar.specs.Lemmas.Marks.{the_sign}
use Rattle.query_grammar.specs.Lemmas.Steps.{behind, done, refused, widen, weaken, bind, mapped, chosen, expected}
use Rattle.query_grammar.specs.Lemmas.Sound.{allowed, Condition_part, Call_part, Name_part, a_name, word_law, name_means, call_means}
use Rattle.query_grammar.specs.Lemmas.Logic.{condition_means}
use Rattle.query_grammar.specs.Lemmas.Terms.{Term_part, term_means}

abbrev pub Value_part : ℕ → Part Named
Value_part limit = λ b ts x. IsItemValue (allowed b limit) ts x

abbrev pub Alias_part : Part (Option (List ℕ))
Alias_part = λ b ts x. IsAlias ts x

abbrev pub Item_part : ℕ → Part (Named × Option (List ℕ))
Item_part limit = λ b ts x. IsItem (allowed b limit) ts x

abbrev pub Key_part : Part (List ℕ)
Key_part = λ b ts x. IsKey ts x

abbrev pub List_part : {A : Type 0} → Part A → Part (List A)
List_part P = λ b ts x. IsListOf (P b) ts x

abbrev Clause_part : ℕ → List ℕ → Part (Option Named)
Clause_part limit w = λ b ts x. IsClause (allowed b limit) w ts x

abbrev Keys_part : Part (List (List ℕ))
Keys_part = λ b ts x. IsKeys ts x

abbrev Order_part : Part (List Term)
Order_part = λ b ts x. IsOrder ts x

abbrev End_part : Part (Unit {0})
End_part = λ b u x. IsEnd u

abbrev pub Query_part : ℕ → Part Asked
Query_part limit = λ b ts q. IsQuery (allowed b limit) ts q

-- ---- items

value_or_call : (limit : ℕ) (w : List ℕ) (o : Option Function) → is_reserved w ≡ false → function_named w ≡ o → (ts : List Lexeme)
    → Means (λ b u x. Value_part limit b (Name w ∷ u) x) ts (function_or_column (conditions limit) w o ts)
value_or_call limit w None free is_f ts = done (λ b u x. Value_part limit b (Name w ∷ u) x) ts (form.Column w)
    (λ b. grammar.item_column free)
value_or_call limit w (Some f) free is_f ts =
    chosen (λ b u x. Value_part limit b (Name w ∷ u) x) opening (is_sign symbols.Open) (the_sign symbols.Open) ts
    (λ rest. call_at (conditions limit) f rest) (Ok (form.Column w, ts))
    (λ rest. weaken (λ b u x. Call_part limit b (Name w ∷ opening ∷ u) x) (λ b u x. Value_part limit b (Name w ∷ opening ∷ u) x) rest
    (call_at (conditions limit) f rest) (λ b u x p. grammar.item_call p) (call_means (conditions limit) (condition_means limit) w f free
    is_f rest))
    (done (λ b u x. Value_part limit b (Name w ∷ u) x) ts (form.Column w) (λ b. grammar.item_column free))

an_item : (limit : ℕ) (b : Bool) → CanBecome (Value_part limit b) []
an_item limit b = (Name (codes "a") ∷ [], form.Column (codes "a"), grammar.item_column a_name)

free_value : (limit : ℕ) (b : Bool) (w : List ℕ) (ts : List Lexeme) → is_reserved w ≡ b
    → Means (Value_part limit) (Name w
    ∷ ts) (cond b (unexpected (Name w ∷ ts)) (function_or_column (conditions limit) w (function_named w) ts))
free_value limit true w ts e = refused (Value_part limit) (Name w ∷ ts) (an_item limit)
free_value limit false w ts e =
    widen (Value_part limit) (Name w ∷ []) ts (Name w ∷ ts) (function_or_column (conditions limit) w (function_named w) ts) refl
    (value_or_call limit w (function_named w) e refl ts)

pub value_means : (limit : ℕ) (ts : List Lexeme) → Means (Value_part limit) ts (item_value_at limit ts)
unfolding item_value_at
value_means limit [] = refused (Value_part limit) [] (an_item limit)
value_means limit (Name w ∷ ts) = free_value limit (is_reserved w) w ts refl
value_means limit (Integer z ∷ ts) = refused (Value_part limit) (Integer z ∷ ts) (an_item limit)
value_means limit (Text s ∷ ts) = refused (Value_part limit) (Text s ∷ ts) (an_item limit)
value_means limit (Sign s ∷ ts) = refused (Value_part limit) (Sign s ∷ ts) (an_item limit)

pub is_name_means : (ts : List Lexeme) → Means Key_part ts (name_at ts)
is_name_means ts = weaken Name_part Key_part ts (name_at ts) (λ b u w p. subst (λ (v : List Lexeme). IsKey v w) (sym p.1)
    (grammar.name p.0)) (name_means ts)

as_name : (u : List Lexeme) (w : List ℕ) → IsKey u w → IsAlias (word (codes "as") ∷ u) (Some w)
as_name u w (grammar.name free) = grammar.behind_as free

bare_means : (b : Bool) (w : List ℕ) (ts : List Lexeme) → is_reserved w ≡ b
    → Means Alias_part (Name w ∷ ts) (cond b (Ok (None, Name w ∷ ts)) (Ok (Some w, ts)))
bare_means true w ts e = done Alias_part (Name w ∷ ts) None (λ b. grammar.no_alias)
bare_means false w ts e = widen Alias_part (Name w ∷ []) ts (Name w ∷ ts) (Ok (Some w, ts)) refl
    (done (λ b u x. IsAlias (Name w ∷ u) x) ts (Some w) (λ b. grammar.bare e))

pub alias_or_none_means : (ts : List Lexeme) → Means Alias_part ts (alias_or_none ts)
unfolding alias_or_none
alias_or_none_means [] = done Alias_part [] None (λ b. grammar.no_alias)
alias_or_none_means (Name w ∷ ts) = bare_means (is_reserved w) w ts refl
alias_or_none_means (Integer z ∷ ts) = done Alias_part (Integer z ∷ ts) None (λ b. grammar.no_alias)
alias_or_none_means (Text s ∷ ts) = done Alias_part (Text s ∷ ts) None (λ b. grammar.no_alias)
alias_or_none_means (Sign s ∷ ts) = done Alias_part (Sign s ∷ ts) None (λ b. grammar.no_alias)

pub alias_means : (ts : List Lexeme) → Means Alias_part ts (alias_at ts)
unfolding alias_at
alias_means ts =
    chosen Alias_part (word (codes "as")) (is_word (codes "as")) (word_law (codes "as")) ts
    (λ rest. name_at rest >>= λ name. Ok (Some name.0, name.1)) (alias_or_none ts)
    (λ rest. mapped Key_part (λ b u x. IsAlias (word (codes "as") ∷ u) x) rest (name_at rest) (λ w. Some w) (is_name_means rest)
    (λ b. as_name)) (alias_or_none_means ts)

pub item_means : (limit : ℕ) (ts : List Lexeme) → Means (Item_part limit) ts (item_at limit ts)
unfolding item_at
item_means limit ts =
    bind (Value_part limit) (Item_part limit) ts (item_value_at limit ts) (λ x. alias_at x.1 >>= λ alias. Ok ((x.0, alias.0), alias.1))
    (value_means limit ts)
    (λ front rest x p. mapped Alias_part (behind front (Item_part limit)) rest (alias_at rest) (λ alias. (x, alias)) (alias_means rest)
    (λ b u alias q. grammar.item front u (p b) q))
    (λ b front x p. ([], (x, None), grammar.item front [] p grammar.no_alias))

-- ---- lists and clauses

one_more : {A : Type 0} (P : List Lexeme → A → Type 0) (front : List Lexeme) (x : A) → P front x → IsListOf P (front ++ []) (x ∷ [])
one_more P front x p = lists.last (subst (λ (u : List Lexeme). P u x) (sym (append-nil front)) p)

pub list_means : {A : Type 0} (P : Part A) (one : List Lexeme → Read A) → ((ts : List Lexeme) → Means P ts (one ts))
    → (turns : ℕ) (ts : List Lexeme) → Means (List_part P) ts (list_at one turns ts)
unfolding list_at
list_means P one h zero ts = mapped P (List_part P) ts (one ts) (λ x. x ∷ []) (h ts) (λ b u x p. lists.last p)
list_means P one h (suc turns) ts =
    bind P (List_part P) ts (one ts) (λ x. choose (after (is_sign symbols.Comma) x.1) (λ rest. list_at one turns rest >>= λ xs. Ok (
      x.0
          ∷ xs.0,
      xs.1,
    )) (Ok (x.0 ∷ [], x.1))) (h ts)
    (λ front rest x p. chosen (behind front (List_part P)) (Sign symbols.Comma) (is_sign symbols.Comma) (the_sign symbols.Comma) rest
    (λ rest2. list_at one turns rest2 >>= λ xs. Ok (x ∷ xs.0, xs.1)) (Ok (x ∷ [], rest))
    (λ rest2. mapped (List_part P) (λ b u xs. IsListOf (P b) (front ++ Sign symbols.Comma ∷ u) xs) rest2 (list_at one turns rest2) (λ xs. x
    ∷ xs) (list_means P one h turns rest2) (λ b u xs q. lists.more front u (p b) q))
    (done (behind front (List_part P)) rest (x ∷ []) (λ b. one_more (P b) front x (p b))))
    (λ b front x p. ([], x ∷ [], one_more (P b) front x p))

clause_means : (limit : ℕ) (w : List ℕ) (ts : List Lexeme) → Means (Clause_part limit w) ts (clause_at limit w ts)
unfolding clause_at
clause_means limit w ts =
    chosen (Clause_part limit w) (word w) (is_word w) (word_law w) ts (λ rest. condition_at limit limit rest >>= λ x. Ok (Some x.0, x.1))
    (Ok (None, ts))
    (λ rest. mapped (Condition_part limit limit) (λ b u x. Clause_part limit w b (word w ∷ u) x) rest (condition_at limit limit rest)
    (λ x. Some x) (condition_means limit limit rest) (λ b u x p. grammar.clause p))
    (done (Clause_part limit w) ts None (λ b. grammar.no_clause))

-- a list behind a word and BY, or nothing
by_list_means : {A : Type 0} (first : List ℕ) (P : Part A) (Q : Part (List A)) (one : List Lexeme → Read A)
    → ((ts : List Lexeme) → Means P ts (one ts))
    → ((b : Bool) (u : List Lexeme) (xs : List A) → List_part P b u xs → Q b (word first ∷ word (codes "by") ∷ u) xs)
    → ((b : Bool) → CanBecome (λ u xs. Q b (word first ∷ word (codes "by") ∷ u) xs) []) → ((b : Bool) → Q b [] [])
    → (ts : List Lexeme) → Means Q ts (choose (after (is_word first) ts) (λ rest. expect (is_word (codes "by")) rest >>= λ by. list_at one
    (length by.1) by.1) (Ok ([], ts)))
by_list_means first P Q one means listed can none ts =
    chosen Q (word first) (is_word first) (word_law first) ts (λ rest. expect (is_word (codes "by")) rest >>= λ by. list_at one
    (length by.1) by.1) (Ok ([], ts))
    (λ rest. expected (λ b u xs. Q b (word first ∷ u) xs) (word (codes "by")) (is_word (codes "by")) (word_law (codes "by")) rest
    (λ rest2. list_at one (length rest2) rest2)
    (λ rest2. weaken (List_part P) (λ b u xs. Q b (word first ∷ word (codes "by") ∷ u) xs) rest2 (list_at one (length rest2) rest2) listed
    (list_means P one means (length rest2) rest2)) can)
    (done Q ts [] none)

keys_means : (ts : List Lexeme) → Means Keys_part ts (keys_at ts)
unfolding keys_at
keys_means ts =
    by_list_means (codes "group") Key_part Keys_part name_at is_name_means (λ b u x p. grammar.keys p)
    (λ b. (Name (codes "a") ∷ [], codes "a" ∷ [], grammar.keys (lists.last (grammar.name a_name)))) (λ b. grammar.no_keys) ts

order_means : (ts : List Lexeme) → Means Order_part ts (order_at ts)
unfolding order_at
order_means ts =
    by_list_means (codes "order") Term_part Order_part term_at term_means (λ b u x p. ordering.order p)
    (λ b. (
      Integer (pos 1) ∷ [],
      record { target = By_place (pos 1); descending = false; nulls_first = None }
          ∷ [],
      ordering.order (lists.last (ordering.term (Integer (pos 1) ∷ []) [] [] ordering.by_place ordering.no_direction
          ordering.no_nulls)),
    ))
    (λ b. ordering.no_order) ts

abbrev pub by_order : List Term → Arrangement Term
by_order terms = record { order = terms }

abbrev Arrangement_part : Part (Arrangement Term)
Arrangement_part = λ b ts x. IsArrangement ts x

arrangement_means : (ts : List Lexeme) → Means Arrangement_part ts (arrangement_at ts)
unfolding arrangement_at
arrangement_means ts = mapped Order_part Arrangement_part ts (order_at ts) by_order (order_means ts) (λ b os terms o. o)

nothing_means : (Q : Part (Unit {0})) (ts : List Lexeme) → ((b : Bool) → Q b [] tt) → Means Q ts (nothing_at ts)
nothing_means Q [] q = done Q [] tt q
nothing_means Q (t ∷ ts) q = refused Q (t ∷ ts) (λ b. ([], tt, q b))

end_means : (ts : List Lexeme) → Means End_part ts (end_at ts)
unfolding end_at
end_means ts =
    chosen End_part (Sign symbols.Semicolon) (is_sign symbols.Semicolon) (the_sign symbols.Semicolon) ts nothing_at (nothing_at ts)
    (λ rest. nothing_means (λ b u x. IsEnd (Sign symbols.Semicolon ∷ u)) rest (λ b. grammar.semicolon))
    (nothing_means End_part ts (λ b. grammar.no_semicolon))

-- ---- the query from its parts

abbrev pub made : List (Named × Option (List ℕ)) → Option Named → List (List ℕ) → Option Named → Arrangement Term → Asked
made items condition names having arrangement = record {
  written = record { items = items; condition = condition; keys = names; having = having };
  arrangement = arrangement;
}

abbrev unarranged : Arrangement Term
unarranged = by_order []

-- reading on from each part
abbrev pub from_arrangement : List (Named × Option (List ℕ)) → Option Named → List (List ℕ) → Option Named → List Lexeme → Read Asked
from_arrangement items condition names having ts = arrangement_at ts >>= λ arrangement. end_at arrangement.1 >>= λ end. Ok
    (made items condition names having arrangement.0, end.1)

abbrev pub from_having : ℕ → List (Named × Option (List ℕ)) → Option Named → List (List ℕ) → List Lexeme → Read Asked
from_having limit items condition names ts = clause_at limit (codes "having") ts >>= λ having. from_arrangement items condition names
    having.0
    having.1

abbrev pub from_keys : ℕ → List (Named × Option (List ℕ)) → Option Named → List Lexeme → Read Asked
from_keys limit items condition ts = keys_at ts >>= λ keys. from_having limit items condition keys.0 keys.1

abbrev pub from_where : ℕ → List (Named × Option (List ℕ)) → List Lexeme → Read Asked
from_where limit items ts = clause_at limit (codes "where") ts >>= λ condition. from_keys limit items condition.0 condition.1

abbrev pub from_items : ℕ → List Lexeme → Read Asked
from_items limit ts = list_at (item_at limit) (length ts) ts >>= λ items. expect (is_word (codes "from")) items.1 >>= λ from. expect
    (is_word (codes "batches")) from.1 >>= λ batches. from_where limit items.0 batches.1

arrangement_mean : (limit : ℕ) (items : List (Named × Option (List ℕ))) (condition : Option Named) (names : List (List ℕ))
    (having : Option Named)
    (is ws gs hs : List Lexeme)
    → ((b : Bool) → List_part (Item_part limit) b is items) → ((b : Bool) → Clause_part limit (codes "where") b ws condition)
    → IsKeys gs names → ((b : Bool) → Clause_part limit (codes "having") b hs having)
    → (ts : List Lexeme) → Means (λ b u q. Query_part limit b (word (codes "select") ∷ (is ++ word (codes "from") ∷ word (codes "batches")
    ∷ (ws ++ (gs ++ (hs ++ u))))) q) ts (from_arrangement items condition names having ts)
arrangement_mean limit items condition names having is ws gs hs p q r h ts =
    bind Arrangement_part (λ b u x. Query_part limit b (word (codes "select") ∷ (is ++ word (codes "from") ∷ word (codes "batches")
    ∷ (ws ++ (gs ++ (hs ++ u))))) x) ts (arrangement_at ts)
    (λ arrangement. end_at arrangement.1 >>= λ end. Ok (made items condition names having arrangement.0, end.1)) (arrangement_means ts)
    (λ os rest arrangement o. mapped End_part (λ b u x. Query_part limit b (word (codes "select")
    ∷ (is ++ word (codes "from") ∷ word (codes "batches") ∷ (ws ++ (gs ++ (hs ++ (os ++ u)))))) x) rest (end_at rest)
    (λ _. made items condition names having arrangement) (end_means rest)
    (λ b es _ e. grammar.query {arrangement = arrangement} is ws gs hs os es (p b) (q b) r (h b) (o b)
    e))
    (λ b os arrangement o. (
      [],
      made items condition names having arrangement,
      grammar.query {arrangement = arrangement} is ws gs hs os [] (p b) (q b) r (h b) o
          grammar.no_semicolon,
    ))

having_means : (limit : ℕ) (items : List (Named × Option (List ℕ))) (condition : Option Named) (names : List (List ℕ))
    (is ws gs : List Lexeme)
    → ((b : Bool) → List_part (Item_part limit) b is items) → ((b : Bool) → Clause_part limit (codes "where") b ws condition)
    → IsKeys gs names
    → (ts : List Lexeme) → Means (λ b u q. Query_part limit b (word (codes "select") ∷ (is ++ word (codes "from") ∷ word (codes "batches")
    ∷ (ws ++ (gs ++ u)))) q) ts (from_having limit items condition names ts)
having_means limit items condition names is ws gs p q r ts =
    bind (Clause_part limit (codes "having")) (λ b u x. Query_part limit b (word (codes "select")
    ∷ (is ++ word (codes "from") ∷ word (codes "batches") ∷ (ws ++ (gs ++ u)))) x) ts (clause_at limit (codes "having") ts)
    (λ having. from_arrangement items condition names having.0 having.1) (clause_means limit (codes "having") ts)
    (λ hs rest having h. arrangement_mean limit items condition names having is ws gs hs p q r h rest)
    (λ b hs having h. (
      [],
      made items condition names having unarranged,
      grammar.query {arrangement = unarranged} is ws gs hs [] [] (p b) (q b) r h ordering.no_order
          grammar.no_semicolon,
    ))

keys_mean : (limit : ℕ) (items : List (Named × Option (List ℕ))) (condition : Option Named) (is ws : List Lexeme)
    → ((b : Bool) → List_part (Item_part limit) b is items) → ((b : Bool) → Clause_part limit (codes "where") b ws condition)
    → (ts : List Lexeme) → Means (λ b u q. Query_part limit b (word (codes "select") ∷ (is ++ word (codes "from") ∷ word (codes "batches")
    ∷ (ws ++ u))) q) ts (from_keys limit items condition ts)
keys_mean limit items condition is ws p q ts =
    bind Keys_part (λ b u x. Query_part limit b (word (codes "select") ∷ (is ++ word (codes "from") ∷ word (codes "batches") ∷ (ws ++ u)))
    x) ts (keys_at ts) (λ keys. from_having limit items condition keys.0 keys.1) (keys_means ts)
    (λ gs rest names r. having_means limit items condition names is ws gs p q (r false) rest)
    (λ b gs names r. (
      [],
      made items condition names None unarranged,
      grammar.query {arrangement = unarranged} is ws gs [] [] [] (p b) (q b) r grammar.no_clause
          ordering.no_order grammar.no_semicolon,
    ))

where_means : (limit : ℕ) (items : List (Named × Option (List ℕ))) (is : List Lexeme)
    → ((b : Bool) → List_part (Item_part limit) b is items)
    → (ts : List Lexeme) → Means (λ b u q. Query_part limit b (word (codes "select") ∷ (is ++ word (codes "from") ∷ word (codes "batches")
    ∷ u)) q) ts (from_where limit items ts)
where_means limit items is p ts =
    bind (Clause_part limit (codes "where")) (λ b u x. Query_part limit b (word (codes "select")
    ∷ (is ++ word (codes "from") ∷ word (codes "batches") ∷ u)) x) ts (clause_at limit (codes "where") ts)
    (λ condition. from_keys limit items condition.0 condition.1) (clause_means limit (codes "where") ts)
    (λ ws rest condition q. keys_mean limit items condition is ws p q rest)
    (λ b ws condition q. (
      [],
      made items condition [] None unarranged,
      grammar.query {arrangement = unarranged} is ws [] [] [] [] (p b) q grammar.no_keys grammar.no_clause
          ordering.no_order grammar.no_semicolon,
    ))

least : (limit : ℕ) (b : Bool) (is : List Lexeme) (items : List (Named × Option (List ℕ))) → List_part (Item_part limit) b is items
    → Query_part limit b (word (codes "select") ∷ (is ++ word (codes "from") ∷ word (codes "batches") ∷ []))
    (made items None [] None unarranged)
least limit b is items p = grammar.query {arrangement = unarranged} is [] [] [] [] [] p grammar.no_clause grammar.no_keys
    grammar.no_clause ordering.no_order
    grammar.no_semicolon

items_mean : (limit : ℕ) (ts : List Lexeme) → Means (λ b u q. Query_part limit b (word (codes "select") ∷ u) q) ts (from_items limit ts)
items_mean limit ts =
    bind (List_part (Item_part limit)) (λ b u x. Query_part limit b (word (codes "select") ∷ u) x) ts
    (list_at (item_at limit) (length ts) ts)
    (λ items. expect (is_word (codes "from")) items.1 >>= λ from. expect (is_word (codes "batches")) from.1 >>= λ batches. from_where limit
    items.0 batches.1)
    (list_means (Item_part limit) (item_at limit) (item_means limit) (length ts) ts)
    (λ is rest items p. expected (λ b u x. Query_part limit b (word (codes "select") ∷ (is ++ u)) x) (word (codes "from"))
    (is_word (codes "from")) (word_law (codes "from")) rest
    (λ rest2. expect (is_word (codes "batches")) rest2 >>= λ batches. from_where limit items batches.1)
    (λ rest2. expected (λ b u x. Query_part limit b (word (codes "select") ∷ (is ++ word (codes "from") ∷ u)) x) (word (codes "batches"))
    (is_word (codes "batches")) (word_law (codes "batches")) rest2 (λ rest3. from_where limit items rest3)
    (λ rest3. where_means limit items is p rest3) (λ b. ([], made items None [] None unarranged, least limit b is items (p b))))
    (λ b. (word (codes "batches") ∷ [], made items None [] None unarranged, least limit b is items (p b))))
    (λ b is items p. (word (codes "from") ∷ word (codes "batches") ∷ [], made items None [] None unarranged, least limit b is items p))

pub query_means : (limit : ℕ) (ts : List Lexeme) → Means (Query_part limit) ts (query_at limit ts)
unfolding query_at
query_means limit ts =
    expected (Query_part limit) (word (codes "select")) (is_word (codes "select")) (word_law (codes "select")) ts
    (λ ts1. from_items limit ts1)
    (λ ts1. items_mean limit ts1)
    (λ b. (
      Name (codes "a") ∷ word (codes "from") ∷ word (codes "batches") ∷ [],
      made ((form.Column (codes "a"), None) ∷ []) None [] None unarranged,
      grammar.query {arrangement = unarranged} (Name (codes "a") ∷ []) [] [] [] [] []
          (lists.last (grammar.item (Name (codes "a") ∷ []) [] (grammar.item_column a_name) grammar.no_alias)) grammar.no_clause
          grammar.no_keys grammar.no_clause ordering.no_order grammar.no_semicolon,
    ))
