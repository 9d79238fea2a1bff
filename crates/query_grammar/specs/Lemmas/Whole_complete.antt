-- What is in the grammar of queries is read.
use Rattle.std.proofs.Common.{◌≡◌, ℕ, zero, suc, ◌≤◌, ◌<◌, true, false, List, [], ◌∷◌, ◌++◌, length, Option, None, Ok, Err, refl, sym, ap}
use Rattle.std.proofs.Common.{◌∙◌, append_assoc, arith}
use Rattle.std.specs.Prelude.{codes}
use Rattle.std.specs.Str.{bytes_eq}
use Rattle.std.proofs.lemmas.List.{length-append}
use Rattle.query_tokens.specs.declared.word.Symbol.TheVariants as symbols
use Rattle.query_grammar.specs.Lemmas.Words.{Lexeme, Name, Sign, Named, word, IsCall, Term, Asked, is_reserved, comparison_named}
use Rattle.query_grammar.specs.Lemmas.Words.{function_named, is_word, is_sign, symbol_number, Read, after, prim_at, conditions}
use Rattle.query_grammar.specs.Lemmas.Words.{item_value_at, alias_or_none, alias_at, item_at, list_at, clause_at, keys_at, term_at}
use Rattle.query_grammar.specs.Lemmas.Words.{order_at, end_at, query_at, IsItemValue, IsAlias, IsItem, IsKey, IsListOf, IsClause, IsKeys}
use Rattle.query_grammar.specs.Lemmas.Words.{IsOrder, IsEnd, IsQuery, Arrangement, IsArrangement, arrangement_at}
use Rattle.query_grammar.specs.Reading.{name_at}
use Rattle.query_grammar.specs.Grammar as conditions
use Rattle.query_grammar.specs.Lists as lists
use Rattle.query_grammar.specs.Arrangement as ordering
use Rattle.query_grammar.specs.Queries as grammar
use Rattle.query_grammar.specs.Arrangement.{IsTerm}
use Rattle.query_grammar.specs.Lemmas.Complete.{sign_rank, rank, Stops, column_reads, not_this, word_free, condition_reads}
use Rattle.query_grammar.specs.Lemmas.Complete.{function_call_reads}
use Rattle.query_grammar.specs.Lemmas.Terms.{Closes, term_reads}

-- ---- items

free_rank : (w : List ℕ) → is_reserved w ≡ false → 1 ≤ rank (Name w)
unfolding is_reserved
free_rank w free = rw (
  not_this w (codes "filter") free refl,
  not_this w (codes "is") free refl,
  not_this w (codes "and") free refl,
  not_this w (codes "or") free refl,
) (omega arith)

no_as : (w : List ℕ) → is_reserved w ≡ false → bytes_eq w (codes "as") ≡ false
unfolding is_reserved
no_as w free = not_this w (codes "as") free refl

value_is_prim : (limit room : ℕ) (w : List ℕ) (ts : List Lexeme) → is_reserved w ≡ false → item_value_at limit (Name w ∷ ts)
    ≡ prim_at (conditions limit) room (Name w ∷ ts)
unfolding item_value_at prim_at
value_is_prim limit room w ts free = rw free (sym (word_free (conditions limit) w ts free))

call_value : (limit : ℕ) (ts : List Lexeme) (x : Named) (rest : List Lexeme) → IsCall limit ts x → item_value_at limit (ts ++ rest)
    ≡ prim_at (conditions limit) 0 (ts ++ rest)
call_value limit _ x rest (conditions.plain {w = w} us free is_f p) = value_is_prim limit 0 w _ free
call_value limit _ x rest (conditions.filtered {w = w} us vs free is_f p q) = value_is_prim limit 0 w _ free

value_reads : (limit : ℕ) (ts : List Lexeme) (x : Named) → IsItemValue limit ts x → (rest : List Lexeme) → Stops 1 rest
    → item_value_at limit (ts ++ rest) ≡ Ok (x, rest)
unfolding item_value_at
value_reads limit _ _ (grammar.item_column {w = w} free) rest h = rw free (column_reads (conditions limit) w (function_named w) rest h)
value_reads limit ts x (grammar.item_call p) rest h = call_value limit ts x rest p ∙ function_call_reads limit p 0 rest h

-- what can follow an item
record Follows (rest : List Lexeme) : Type 0 where
  no_as_word : after (is_word (codes "as")) rest ≡ None
  bare : alias_or_none rest ≡ Ok (None, rest)
  stops : Stops 1 rest

alias_reads : (us : List Lexeme) (alias : Option (List ℕ)) → IsAlias us alias → (rest : List Lexeme) → Follows rest → alias_at (us ++ rest)
    ≡ Ok (alias, rest)
unfolding alias_at alias_or_none
alias_reads _ _ grammar.no_alias rest h = rw (h.no_as_word, h.bare) refl
alias_reads _ _ (grammar.bare {w = w} free) rest h = rw (no_as w free, free) refl
alias_reads _ _ (grammar.behind_as free) rest h = rw free refl

alias_stops : (us : List Lexeme) (alias : Option (List ℕ)) → IsAlias us alias → (rest : List Lexeme) → Follows rest → Stops 1 (us ++ rest)
alias_stops _ _ grammar.no_alias rest h = h.stops
alias_stops _ _ (grammar.bare {w = w} free) rest h = record { at = free_rank w free }
alias_stops _ _ (grammar.behind_as free) rest h = record { at = omega arith }

item_reads : (limit : ℕ) (ts : List Lexeme) (x : Named × Option (List ℕ)) → IsItem limit ts x → (rest : List Lexeme) → Follows rest
    → item_at limit (ts ++ rest) ≡ Ok (x, rest)
unfolding item_at
item_reads limit _ _ (grammar.item {x = x} {alias = alias} ts us p q) rest h =
    rw (append_assoc ts us rest, value_reads limit ts x p (us ++ rest) (alias_stops us alias q rest h), alias_reads us alias q rest h) refl

comma_follows : (ts : List Lexeme) → Follows (Sign symbols.Comma ∷ ts)
unfolding alias_or_none sign_rank comparison_named
comma_follows ts = record { no_as_word = refl; bare = refl; stops = record { at = omega arith } }

from_follows : (ts : List Lexeme) → Follows (word (codes "from") ∷ ts)
unfolding alias_or_none is_reserved
from_follows ts = record { no_as_word = refl; bare = refl; stops = record { at = omega arith } }

comma_closes : (ts : List Lexeme) → Closes (Sign symbols.Comma ∷ ts)
comma_closes ts = record { no_desc = refl; no_asc = refl; no_nulls = refl }

less_one : (n : ℕ) → 0 < n → (m : ℕ) × (n ≡ suc m)
less_one zero h = absurd (omega (arith, h))
less_one (suc m) h = (m, refl)

-- ---- lists. F says what can follow a member

one_left : {A : Type 0} (one : List Lexeme → Read A) (most : ℕ) (ts : List Lexeme) (x : A) (rest : List Lexeme) → one ts ≡ Ok (x, rest)
    → after (is_sign symbols.Comma) rest ≡ None → list_at one most ts ≡ Ok (x ∷ [], rest)
unfolding list_at
one_left one zero ts x rest e h = rw e refl
one_left one (suc most) ts x rest e h = rw (e, h) refl

more_left : {A : Type 0} (one : List Lexeme → Read A) (most : ℕ) (ts : List Lexeme) (x : A) (xs : List A) (us rest : List Lexeme) → one ts
    ≡ Ok (x, Sign symbols.Comma ∷ us) → list_at one most us ≡ Ok (xs, rest) → list_at one (suc most) ts ≡ Ok (x ∷ xs, rest)
unfolding list_at symbol_number
more_left one most ts x xs us rest e k = rw (e, k) refl

list_reads : {A : Type 0} (P : List Lexeme → A → Type 0) (one : List Lexeme → Read A) (F : List Lexeme → Type 0)
    → ((ts : List Lexeme) (x : A) → P ts x → (rest : List Lexeme) → F rest → one (ts ++ rest) ≡ Ok (x, rest))
    → ((ts : List Lexeme) → F (Sign symbols.Comma ∷ ts))
    → (ts : List Lexeme) (xs : List A) → IsListOf P ts xs → (most : ℕ) → length ts ≤ most → (rest : List Lexeme) → F rest
    → after (is_sign symbols.Comma) rest ≡ None → list_at one most (ts ++ rest) ≡ Ok (xs, rest)
list_reads P one F reads comma ts _ (lists.last {x = x} p) most le rest f h = one_left one most (ts ++ rest) x rest (reads ts x p rest f)
    h
list_reads P one F reads comma _ _ (lists.more {x = x} {xs = xs} ts us p q) most le rest f h =
    let size = length-append ts (Sign symbols.Comma ∷ us) in
    let less = less_one most (omega (arith, le, size)) in
    let first = reads ts x p (Sign symbols.Comma ∷ (us ++ rest)) (comma (us ++ rest)) in
    let others = list_reads P one F reads comma us xs q less.0 (omega (arith, le, size, less.1)) rest f h in
    rw (less.1, append_assoc ts (Sign symbols.Comma ∷ us) rest) (more_left one less.0 (ts ++ Sign symbols.Comma ∷ (us ++ rest)) x xs (us
    ++ rest) rest first others)

name_reads : (ts : List Lexeme) (w : List ℕ) → IsKey ts w → (rest : List Lexeme) → Unit {0} → name_at (ts ++ rest) ≡ Ok (w, rest)
name_reads _ w (grammar.name free) rest h = rw free refl

-- ---- clauses

clause_reads : (limit : ℕ) (w : List ℕ) (ts : List Lexeme) (c : Option Named) → IsClause limit w ts c → bytes_eq w w ≡ true
    → (rest : List Lexeme) → Stops 5 rest → after (is_word w) rest ≡ None → clause_at limit w (ts ++ rest) ≡ Ok (c, rest)
unfolding clause_at
clause_reads limit w _ _ grammar.no_clause own rest h none = rw none refl
clause_reads limit w _ _ (grammar.clause {ts = ts} {x = x} p) own rest h none = rw (own, condition_reads limit limit ts x p rest h) refl

keys_read : (ts : List Lexeme) (names : List (List ℕ)) → IsKeys ts names → (rest : List Lexeme) → after (is_word (codes "group")) rest
    ≡ None → after (is_sign symbols.Comma) rest ≡ None → keys_at (ts ++ rest) ≡ Ok (names, rest)
unfolding keys_at
keys_read _ _ grammar.no_keys rest none comma = rw none refl
keys_read _ _ (grammar.keys {ts = ts} {names = names} p) rest none comma =
    list_reads IsKey name_at (λ _. Unit {0}) name_reads (λ _. tt {0}) ts names p (length (ts ++ rest))
    (omega (arith, length-append ts rest)) rest (tt {0}) comma

order_read : (os : List Lexeme) (terms : List Term) → IsOrder os terms → (rest : List Lexeme) → after (is_word (codes "order")) rest ≡ None
    → after (is_sign symbols.Comma) rest ≡ None → Closes rest → order_at (os ++ rest) ≡ Ok (terms, rest)
unfolding order_at
order_read _ _ ordering.no_order rest none comma closes = rw none refl
order_read _ _ (ordering.order {ts = ts} {terms = terms} p) rest none comma closes =
    list_reads IsTerm term_at Closes term_reads comma_closes ts terms p (length (ts ++ rest)) (omega (arith, length-append ts rest)) rest
    closes comma

arrangement_read : (os : List Lexeme) (arrangement : Arrangement Term) → IsArrangement os arrangement → (rest : List Lexeme)
    → after (is_word (codes "order")) rest ≡ None → after (is_sign symbols.Comma) rest ≡ None → Closes rest
    → arrangement_at (os ++ rest) ≡ Ok (arrangement, rest)
unfolding arrangement_at
arrangement_read os arrangement o rest none comma closes = rw (order_read os arrangement.order o rest none comma closes) refl

end_reads : (es : List Lexeme) → IsEnd es → end_at es ≡ Ok (tt, [])
unfolding end_at symbol_number
end_reads _ grammar.no_semicolon = refl
end_reads _ grammar.semicolon = refl

-- what follows a clause: nothing, a semicolon, or the word of a later clause
record Rest (rest : List Lexeme) : Type 0 where
  stops : Stops 5 rest
  comma : after (is_sign symbols.Comma) rest ≡ None
  where_ : after (is_word (codes "where")) rest ≡ None

record After_order (es : List Lexeme) : Type 0 where
  rest : Rest es
  closes : Closes es
  order : after (is_word (codes "order")) es ≡ None
  having : after (is_word (codes "having")) es ≡ None
  group : after (is_word (codes "group")) es ≡ None

after_order : (es : List Lexeme) → IsEnd es → After_order es
unfolding sign_rank comparison_named symbol_number
after_order _ grammar.no_semicolon = record {
  rest = record { stops = record { at = tt {0} }; comma = refl; where_ = refl };
  closes = record { no_desc = refl; no_asc = refl; no_nulls = refl };
  order = refl;
  having = refl;
  group = refl;
}
after_order _ grammar.semicolon = record {
  rest = record { stops = record { at = omega arith }; comma = refl; where_ = refl };
  closes = record { no_desc = refl; no_asc = refl; no_nulls = refl };
  order = refl;
  having = refl;
  group = refl;
}

after_having : (os es : List Lexeme) (terms : List Term) → IsOrder os terms → IsEnd es → Rest (os ++ es)
    × (after (is_word (codes "having")) (os ++ es) ≡ None) × (after (is_word (codes "group")) (os ++ es) ≡ None)
after_having _ es _ ordering.no_order e = let h = after_order es e in (h.rest, h.having, h.group)
after_having _ es _ (ordering.order p) e = (record { stops = record { at = omega arith }; comma = refl; where_ = refl }, refl, refl)

after_keys : (limit : ℕ) (hs os es : List Lexeme) (c : Option Named) (terms : List Term) → IsClause limit (codes "having") hs c
    → IsOrder os terms → IsEnd es → Rest (hs ++ (os ++ es)) × (after (is_word (codes "group")) (hs ++ (os ++ es)) ≡ None)
after_keys limit _ os es _ terms grammar.no_clause o e = let h = after_having os es terms o e in (h.0, h.2)
after_keys limit _ os es _ terms (grammar.clause p) o e = (
  record { stops = record { at = omega arith }; comma = refl; where_ = refl },
  refl,
)

after_where : (limit : ℕ) (gs hs os es : List Lexeme) (names : List (List ℕ)) (c : Option Named) (terms : List Term) → IsKeys gs names
    → IsClause limit (codes "having") hs c → IsOrder os terms → IsEnd es → Rest (gs ++ (hs ++ (os ++ es)))
after_where limit _ hs os es _ c terms grammar.no_keys p o e = (after_keys limit hs os es c terms p o e).0
after_where limit _ hs os es _ c terms (grammar.keys q) p o e = record { stops = record { at = omega arith }; comma = refl; where_ = refl }

pub query_reads : (limit : ℕ) (ts : List Lexeme) (q : Asked) → IsQuery limit ts q → query_at limit ts ≡ Ok (q, [])
unfolding query_at
query_reads limit _ _ (grammar.query {items = items} {condition = condition} {having = having} {names = names} {arrangement = arrangement}
    is ws gs hs
    os es p q r h o e) =
    let tail = ws ++ (gs ++ (hs ++ (os ++ es))) in
    let w = after_where limit gs hs os es names having arrangement.order r h o e in
    let k = after_keys limit hs os es having arrangement.order h o e in
    let v = after_having os es arrangement.order o e in
    let l = after_order es e in
    let e1 = list_reads (IsItem limit) (item_at limit) Follows (item_reads limit) comma_follows is items p
    (length (is ++ word (codes "from") ∷ word (codes "batches") ∷ tail))
    (omega (arith, length-append is (word (codes "from") ∷ word (codes "batches") ∷ tail))) (word (codes "from")
    ∷ word (codes "batches") ∷ tail) (from_follows (word (codes "batches") ∷ tail)) refl in
    let e2 = clause_reads limit (codes "where") ws condition q refl (gs ++ (hs ++ (os ++ es))) w.stops w.where_ in
    let e3 = keys_read gs names r (hs ++ (os ++ es)) k.1 k.0.comma in
    let e4 = clause_reads limit (codes "having") hs having h refl (os ++ es) v.0.stops v.1 in
    let e5 = arrangement_read os arrangement o es l.order l.rest.comma l.closes in
    rw (e1, e2, e3, e4, e5, end_reads es e) refl

abbrev read_query : Read Asked → Asked → Asked
read_query (Ok x) other = x.0
read_query (Err e) other = other

-- tokens stand for one query
pub one_query : (limit : ℕ) (ts : List Lexeme) (q r : Asked) → IsQuery limit ts q → IsQuery limit ts r → q ≡ r
one_query limit ts q r a b = ap (λ (x : Read Asked). read_query x q) (sym (query_reads limit ts q a) ∙ query_reads limit ts r b)
