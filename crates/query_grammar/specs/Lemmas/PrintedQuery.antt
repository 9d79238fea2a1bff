-- The canonical text of a query is read as the query.
use Rattle.std.proofs.Common.{◌≡◌, ℕ, pos, ◌+◌, ◌≤◌, Bool, true, false, cond, List, [], ◌∷◌, ◌++◌, map, Option, Some, None, refl, ap, sym}
use Rattle.std.proofs.Common.{subst, append_assoc, arith}
use Rattle.std.specs.Prelude.{codes, ◌&&◌, ◌≢◌}
use Rattle.std.specs.Str.{bytes_eq}
use Rattle.std.specs.List.{AllByRecursion, list_all}
use Rattle.std.specs.Option.{ForSome, option_map_or}
use Rattle.std.proofs.lemmas.Bool.{leb-true, and_parts}
use Rattle.std.proofs.lemmas.List.{append-nil}
use Rattle.query_tokens.specs.declared.word.Symbol.TheVariants as symbols
use Rattle.query_grammar.specs.Lemmas.Words.{Lexeme, Name, Integer, Sign, spell, IsColumnName, Asked, order_of, function_name, spelled}
use Rattle.query_grammar.specs.Lemmas.Words.{own_name, kept_alias, alias_text, item_text, parted, clause_text, keys_text, nulls_said}
use Rattle.query_grammar.specs.Lemmas.Words.{canonical_term, direction_text, term_text, order_text, spelling, depth, is_shallow}
use Rattle.query_grammar.specs.Lemmas.Words.{are_shallow, filters_pass, all_of, IsForm, IsColumnOrCall, IsWritable, Named, opening, closing}
use Rattle.query_grammar.specs.Lemmas.Words.{word, most_open, IsItemValue, IsAlias, IsItem, IsKey, IsListOf, IsClause, IsKeys, IsDirection}
use Rattle.query_grammar.specs.Lemmas.Words.{IsNulls, IsOrder, IsQuery, tokens_in, CanBeArranged, arrangement_of, canonical_arrangement}
use Rattle.query_checks.specs.Forms as form
use Rattle.query_checks.specs.declared.order.OrderTerm.{OrderTerm}
use Rattle.grouping_model.specs.declared.limits.TheConstants.{DEEPEST_CONDITION}
use Rattle.query_checks.specs.Sameness.{first_of_each}
use Rattle.query_checks.specs.Order as checks
use Rattle.query_checks.specs.Writable as writable
use Rattle.query_grammar.specs.Lists as lists
use Rattle.query_grammar.specs.Arrangement as ordering
use Rattle.query_grammar.specs.Queries as grammar
use Rattle.query_grammar.specs.Arrangement.{IsTerm}
use Rattle.packed_rows.specs.PrintedLaws.{read_ok}
use Rattle.query_checks.specs.DistinctLaws.{all_distinct}
use Rattle.query_grammar.specs.Laws.{IsSpelled}
use Rattle.query_grammar.specs.Canonical.{canonical}
use Rattle.query_grammar.specs.Lemmas.Texts.{Reads, reads_nothing, reads_space, reads_spelled, Quiet, Spells, Opens, spells_lexeme}
use Rattle.query_grammar.specs.Lemmas.Texts.{spells_two, opens_then, opens_two, spells_word, spells_behind, opens_word, opens_between}
use Rattle.query_grammar.specs.Lemmas.Texts.{spells_between, is_key_word, in_small}
use Rattle.query_grammar.specs.Lemmas.Printed.{printed, the_calls, call_is, filtered_spelled, filtered_is}
use Rattle.std.proofs.lemmas.Bool.Decides.{nat_tests}
use Rattle.std.proofs.lemmas.Grind.{common_steps}

-- each FILTER in a condition is at most as deep as may be
abbrev FiltersFit : Named → Type 0
FiltersFit x = filters_pass is_shallow x ≡ true

-- ---- items

record Value (x : Named) : Type 0 where
  tokens : List Lexeme
  spells : Spells (spelled x) tokens
  is : IsItemValue most_open tokens x

value : (x : Named) → IsColumnOrCall x → IsForm IsColumnName x → FiltersFit x → Value x
value (form.Column w) kind legal shallow = record {
  tokens = Name w
      ∷ [];
  spells = spells_lexeme (Name w) legal.legal;
  is = grammar.item_column legal.free;
}
value (form.Call f column) kind legal shallow =
    let c = the_calls f column legal in
    record {
      tokens = Name (function_name f) ∷ opening ∷ (c.inside ++ closing ∷ []);
      spells = c.spells;
      is = grammar.item_call
          (call_is most_open f column c);
    }
value (form.Call_where f column x) kind legal shallow =
    let c = the_calls f column legal.0 in
    let parts = and_parts (is_shallow x) (filters_pass is_shallow x) shallow in
    let p = printed most_open x legal.1 parts.1 in
    let le : depth x ≤ DEEPEST_CONDITION = leb-true (depth x) DEEPEST_CONDITION parts.0 in
    record {
      tokens = Name (function_name f) ∷ opening ∷ (c.inside ++ closing ∷ word (codes "filter") ∷ opening ∷ word (codes "where")
          ∷ (p.tokens ++ closing ∷ []));
      spells = filtered_spelled most_open f column x c p;
      is = grammar.item_call (filtered_is most_open f column x c p (omega (arith, le)));
    }
value (form.Literal v) kind legal shallow = absurd kind
value (form.Unary operator x) kind legal shallow = absurd kind
value (form.Binary operator x y) kind legal shallow = absurd kind

-- a text that may be there behind others
record Part (text : List ℕ) (ts : List Lexeme) : Type 0 where
  spells : Spells text ts
  quiet : (rest : List ℕ) → Quiet rest → Quiet (text ++ rest)

nothing : Part [] []
nothing = record { spells = record { on = λ rest ws q more. more }; quiet = λ rest q. q }

two_parts : (a b : List ℕ) (ts us : List Lexeme) → Part a ts → Part b us → Part (a ++ b) (ts ++ us)
two_parts a b ts us p q = grind (arith, nat_tests, common_steps)

record Alias (alias : Option (List ℕ)) : Type 0 where
  tokens : List Lexeme
  part : Part (alias_text alias) tokens
  is : IsAlias tokens alias

an_alias : (w : List ℕ) → IsColumnName w → Alias (Some w)
an_alias w legal = record {
  tokens = word (codes "as") ∷ Name w ∷ [];
  part = record {
    spells = opens_then (codes " AS ") w (word (codes "as") ∷ []) (Name w ∷ []) (opens_between (codes "AS") refl)
        (spells_lexeme (Name w) legal.legal);
    quiet = λ rest q. refl;
  };
  is = grammar.behind_as legal.free;
}

alias_if : (b : Bool) (w : List ℕ) → IsColumnName w → Alias (cond b None (Some w))
alias_if true w legal = record { tokens = []; part = nothing; is = grammar.no_alias }
alias_if false w legal = an_alias w legal

alias_of : (own : List ℕ) (alias : Option (List ℕ)) → ForSome alias IsColumnName → Alias (kept_alias own alias)
alias_of own None legal = record { tokens = []; part = nothing; is = grammar.no_alias }
alias_of own (Some w) legal = alias_if (bytes_eq w own) w (legal w refl)

-- ---- lists

record One {A B : Type 0} (P : List Lexeme → B → Type 0) (text : A → List ℕ) (f : A → B) (x : A) : Type 0 where
  tokens : List Lexeme
  spells : Spells (text x) tokens
  is : P tokens (f x)

record Many {A B : Type 0} (P : List Lexeme → B → Type 0) (text : A → List ℕ) (f : A → B) (xs : List A) : Type 0 where
  tokens : List Lexeme
  spells : Spells (parted (map text xs)) tokens
  is : IsListOf P tokens (map f xs)

opens_comma : Opens (codes ", ") (Sign symbols.Comma ∷ [])
opens_comma = record { on = λ rest ws more. reads_spelled (Sign symbols.Comma) _ _ tt refl (reads_space rest ws more) }

many : {A B : Type 0} (P : List Lexeme → B → Type 0) (text : A → List ℕ) (f : A → B) (Q : A → Type 0) → ((x : A) → Q x → One P text f x)
    → (x : A) (xs : List A) → Q x → AllByRecursion Q xs → Many P text f (x ∷ xs)
many P text f Q h x [] q all = let o = h x q in record { tokens = o.tokens; spells = o.spells; is = lists.last o.is }
many P text f Q h x (y ∷ ys) q all =
    let o = h x q in
    let m = many P text f Q h y ys all.0 all.1 in
    record {
      tokens = o.tokens ++ Sign symbols.Comma ∷ m.tokens;
      spells = spells_between (text x) (codes ", ") (parted (text y ∷ map text ys)) o.tokens (Sign symbols.Comma ∷ []) m.tokens o.spells
          (λ rest. refl) opens_comma m.spells;
      is = lists.more o.tokens m.tokens o.is m.is;
    }

abbrev kept : Named × Option (List ℕ) → Named × Option (List ℕ)
kept item = (item.0, kept_alias (own_name item.0) item.1)

record ItemFits (item : Named × Option (List ℕ)) : Type 0 where
  legal : writable.IsItem item
  shallow : FiltersFit item.0

one_item : (item : Named × Option (List ℕ)) → ItemFits item → One (IsItem most_open) item_text kept item
one_item item h =
    let v = value item.0 h.legal.value h.legal.form h.shallow in
    let a = alias_of (own_name item.0) item.1 h.legal.alias in
    record {
      tokens = v.tokens ++ a.tokens;
      spells = spells_two (spelled item.0) (alias_text (kept_alias (own_name item.0) item.1)) v.tokens a.tokens v.spells a.part.quiet
          a.part.spells;
      is = grammar.item v.tokens a.tokens v.is a.is;
    }

items_fit : (items : List (Named × Option (List ℕ))) → AllByRecursion writable.IsItem items
    → list_all (λ item. filters_pass is_shallow item.0) items ≡ true → AllByRecursion ItemFits items
items_fit [] legal shallow = tt
items_fit (item ∷ items) legal shallow =
    let parts = and_parts (filters_pass is_shallow item.0) (list_all (λ item. filters_pass is_shallow item.0) items) shallow in
    (record { legal = legal.0; shallow = parts.0 }, items_fit items legal.1 parts.1)

the_items : (items : List (Named × Option (List ℕ))) → items ≢ [] → AllByRecursion ItemFits items
    → Many (IsItem most_open) item_text kept items
the_items [] some all = absurd (some refl)
the_items (item ∷ items) some all = many (IsItem most_open) item_text kept ItemFits one_item item items all.0 all.1

-- ---- clauses

record Clause (text w : List ℕ) (c : Option Named) : Type 0 where
  tokens : List Lexeme
  part : Part (clause_text text c) tokens
  is : IsClause most_open w tokens c

clause : (text w : List ℕ) → Opens text (word w ∷ []) → ((rest : List ℕ) → Quiet (text ++ rest)) → (c : Option Named)
    → ForSome c (IsForm IsColumnName) → option_map_or are_shallow c true ≡ true → Clause text w c
clause text w opens quiet None legal shallow = record { tokens = []; part = nothing; is = grammar.no_clause }
clause text w opens quiet (Some x) legal shallow =
    let parts = and_parts (is_shallow x) (filters_pass is_shallow x) shallow in
    let p = printed most_open x (legal x refl) parts.1 in
    let le : depth x ≤ DEEPEST_CONDITION = leb-true (depth x) DEEPEST_CONDITION parts.0 in
    record {
      tokens = word w ∷ p.tokens;
      part = record {
        spells = opens_then text (spelled x) (word w ∷ []) p.tokens opens p.spells;
        quiet = λ rest q. rw (append_assoc text (spelled x) rest) (quiet (spelled x ++ rest));
      };
      is = grammar.clause (p.condition most_open (omega (arith, le)));
    }

record Keys (names : List (List ℕ)) : Type 0 where
  tokens : List Lexeme
  part : Part (keys_text names) tokens
  is : IsKeys tokens names

opens_group : Opens (codes " GROUP BY ") (word (codes "group") ∷ word (codes "by") ∷ [])
opens_group = opens_two (codes " GROUP ") (codes "BY ") (word (codes "group") ∷ []) (word (codes "by")
    ∷ []) (opens_between (codes "GROUP") refl) (opens_word (codes "BY") refl)

one_name : (w : List ℕ) → IsColumnName w → One IsKey (λ (name : List ℕ). name) (λ (name : List ℕ). name) w
one_name w legal = record { tokens = Name w ∷ []; spells = spells_lexeme (Name w) legal.legal; is = grammar.name legal.free }

same_list : {A : Type 0} (xs : List A) → map (λ (x : A). x) xs ≡ xs
same_list [] = refl
same_list {A = A} (x ∷ xs) = ap (λ (ys : List A). x ∷ ys) (same_list xs)

keys : (names : List (List ℕ)) → AllByRecursion IsColumnName names → Keys names
keys [] all = record { tokens = []; part = nothing; is = grammar.no_keys }
keys (w ∷ ws) all =
    let m = many IsKey (λ (name : List ℕ). name) (λ (name : List ℕ). name) IsColumnName one_name w ws all.0 all.1 in
    let same = same_list (w ∷ ws) in
    record {
      tokens = word (codes "group") ∷ word (codes "by") ∷ m.tokens;
      part = record {
        spells = opens_then (codes " GROUP BY ") (parted (w ∷ ws)) (word (codes "group") ∷ word (codes "by") ∷ []) m.tokens opens_group
            (subst (λ (names : List (List ℕ)). Spells (parted names) m.tokens) same m.spells);
        quiet = λ rest q. refl;
      };
      is = grammar.keys (subst (λ (names : List (List ℕ)). IsListOf IsKey m.tokens names) same m.is);
    }

-- ---- ORDER BY

record Direction (descending nulls_first : Bool) : Type 0 where
  tokens : List Lexeme
  nulls : List Lexeme
  part : Part (direction_text descending nulls_first) (tokens ++ nulls)
  is : IsDirection tokens descending
  are : IsNulls nulls (nulls_said descending nulls_first)

desc_spelled : Part (codes " DESC") (word (codes "desc") ∷ [])
desc_spelled = record { spells = spells_behind (codes "DESC") refl; quiet = λ rest q. refl }

nulls_spelled : (text : List ℕ) → is_key_word text ≡ true → Part (codes " NULLS " ++ text) (word (codes "nulls") ∷ in_small text ∷ [])
nulls_spelled text h = record {
  spells = opens_then (codes " NULLS ") text (word (codes "nulls") ∷ []) (in_small text ∷ []) (opens_between (codes "NULLS") refl)
      (spells_word text h);
  quiet = λ rest q. refl;
}

direction : (descending nulls_first : Bool) → Direction descending nulls_first
direction false false = record { tokens = []; nulls = []; part = nothing; is = ordering.no_direction; are = ordering.no_nulls }
direction false true = record {
  tokens = [];
  nulls = word (codes "nulls") ∷ word (codes "first") ∷ [];
  part = nulls_spelled (codes "FIRST") refl;
  is = ordering.no_direction;
  are = ordering.first;
}
direction true true = record {
  tokens = word (codes "desc") ∷ [];
  nulls = [];
  part = desc_spelled;
  is = ordering.descending;
  are =
      ordering.no_nulls;
}
direction true false = record {
  tokens = word (codes "desc") ∷ [];
  nulls = word (codes "nulls") ∷ word (codes "last") ∷ [];
  part = two_parts (codes " DESC") (codes " NULLS LAST") (word (codes "desc") ∷ []) (word (codes "nulls") ∷ word (codes "last")
      ∷ []) desc_spelled (nulls_spelled (codes "LAST") refl);
  is = ordering.descending;
  are = ordering.last_;
}

-- a term whose place is a number that a text can have
pub record TermFits (term : OrderTerm) : Type 0 where
  pub fits : checks.IsTerm (canonical_term term)

terms_fit : (terms : List OrderTerm) → AllByRecursion checks.IsTerm (map canonical_term terms) → AllByRecursion TermFits terms
terms_fit [] all = tt
terms_fit (term ∷ terms) all = (record { fits = all.0 }, terms_fit terms all.1)

one_term : (term : OrderTerm) → TermFits term → One IsTerm term_text canonical_term term
one_term term h =
    let d = direction term.descending term.nulls_first in
    let place : Lexeme = Integer (pos (term.item + 1)) in
    record {
      tokens = (place ∷ []) ++ (d.tokens ++ d.nulls);
      spells = spells_two (spell place) (direction_text term.descending term.nulls_first) (place ∷ []) (d.tokens ++ d.nulls)
          (spells_lexeme place h.fits.target) d.part.quiet d.part.spells;
      is = ordering.term (place ∷ []) d.tokens d.nulls ordering.by_place d.is d.are;
    }

record Order (terms : List OrderTerm) : Type 0 where
  tokens : List Lexeme
  part : Part (order_text terms) tokens
  is : IsOrder tokens (map canonical_term terms)

opens_order : Opens (codes " ORDER BY ") (word (codes "order") ∷ word (codes "by") ∷ [])
opens_order = opens_two (codes " ORDER ") (codes "BY ") (word (codes "order") ∷ []) (word (codes "by")
    ∷ []) (opens_between (codes "ORDER") refl) (opens_word (codes "BY") refl)

order : (terms : List OrderTerm) → AllByRecursion TermFits terms → Order terms
order [] all = record { tokens = []; part = nothing; is = ordering.no_order }
order (term ∷ terms) all =
    let m = many IsTerm term_text canonical_term TermFits one_term term terms all.0 all.1 in
    record {
      tokens = word (codes "order") ∷ word (codes "by") ∷ m.tokens;
      part = record {
        spells = opens_then (codes " ORDER BY ") (parted (map term_text (term ∷ terms))) (word (codes "order") ∷ word (codes "by")
            ∷ []) m.tokens opens_order m.spells;
        quiet = λ rest q. refl;
      };
      is = ordering.order m.is;
    }

-- ---- the query

pub record PrintedQuery (q : Asked) : Type 0 where
  pub tokens : List Lexeme
  pub reads : Reads (spelling q) tokens
  pub is : IsQuery most_open tokens (canonical q)

joined : (a b c d e f g : List ℕ) → a ++ b ++ c ++ d ++ e ++ f ++ g ≡ a ++ (b ++ (c ++ (d ++ (e ++ (f ++ g)))))
joined a b c d e f g = simp append_assoc

batches_spelled : Part (codes " FROM batches") (word (codes "from") ∷ word (codes "batches") ∷ [])
batches_spelled = record {
  spells = opens_then (codes " FROM ") (codes "batches") (word (codes "from") ∷ []) (word (codes "batches")
      ∷ []) (opens_between (codes "FROM") refl)
      (spells_lexeme (Name (codes "batches")) (record { begins = refl; continues = refl; lower = refl; within = omega arith }));
  quiet = λ rest q. refl;
}

pub query_printed : (asked : Asked) → IsWritable asked.written → AllByRecursion IsColumnName (first_of_each bytes_eq asked.written.keys)
    → all_of (filters_pass is_shallow) are_shallow asked.written ≡ true
    → AllByRecursion TermFits (order_of asked) → PrintedQuery asked
query_printed asked legal names shallow fits =
    let q = asked.written in
    let whole = and_parts (list_all (λ item. filters_pass is_shallow item.0) q.items) (option_map_or are_shallow q.condition true
    && option_map_or are_shallow q.having true) shallow in
    let clauses = and_parts (option_map_or are_shallow q.condition true) (option_map_or are_shallow q.having true) whole.1 in
    let i = the_items q.items legal.some (items_fit q.items legal.items whole.0) in
    let w = clause (codes " WHERE ") (codes "where") (opens_between (codes "WHERE") refl) (λ rest. refl) q.condition legal.condition
    clauses.0 in
    let k = keys (first_of_each bytes_eq q.keys) names in
    let h = clause (codes " HAVING ") (codes "having") (opens_between (codes "HAVING") refl) (λ rest. refl) q.having legal.having clauses.1
    in
    let o = order (order_of asked) fits in
    let where_text : List ℕ = clause_text (codes " WHERE ") q.condition in
    let group_text : List ℕ = keys_text (first_of_each bytes_eq q.keys) in
    let having_text : List ℕ = clause_text (codes " HAVING ") q.having in
    let sorted_text : List ℕ = order_text (order_of asked) in
    let last = two_parts having_text sorted_text h.tokens o.tokens h.part o.part in
    let tail = two_parts where_text (group_text ++ (having_text ++ sorted_text)) w.tokens (k.tokens ++ (h.tokens ++ o.tokens)) w.part
    (two_parts group_text (having_text ++ sorted_text) k.tokens (h.tokens ++ o.tokens) k.part last) in
    let behind = two_parts (codes " FROM batches") (where_text ++ (group_text ++ (having_text ++ sorted_text))) (word (codes "from")
    ∷ word (codes "batches") ∷ []) (w.tokens ++ (k.tokens ++ (h.tokens ++ o.tokens))) batches_spelled tail in
    let text : List ℕ = codes " FROM batches" ++ (where_text ++ (group_text ++ (having_text ++ sorted_text))) in
    let all = opens_then (codes "SELECT ") (parted (map item_text q.items) ++ text) (word (codes "select") ∷ []) (i.tokens
    ++ (word (codes "from") ∷ word (codes "batches") ∷ (w.tokens ++ (k.tokens ++ (h.tokens ++ o.tokens)))))
    (opens_word (codes "SELECT") refl)
    (spells_two (parted (map item_text q.items)) text i.tokens (word (codes "from") ∷ word (codes "batches")
    ∷ (w.tokens ++ (k.tokens ++ (h.tokens ++ o.tokens)))) i.spells behind.quiet behind.spells) in
    let tokens : List Lexeme = word (codes "select")
    ∷ (i.tokens ++ (word (codes "from") ∷ word (codes "batches") ∷ (w.tokens ++ (k.tokens ++ (h.tokens ++ o.tokens))))) in
    let parts = joined (codes "SELECT ") (parted (map item_text q.items)) (codes " FROM batches") where_text group_text having_text
    sorted_text in
    let long : List ℕ = codes "SELECT " ++ (parted (map item_text q.items) ++ text) in
    let read : Reads (long ++ []) (tokens ++ []) = all.on [] [] refl reads_nothing in
    let is : IsQuery most_open (word (codes "select")
    ∷ (i.tokens ++ (word (codes "from") ∷ word (codes "batches") ∷ (w.tokens ++ (k.tokens ++ (h.tokens ++ (o.tokens ++ [])))))))
    (canonical asked) =
    grammar.query {arrangement = canonical_arrangement (arrangement_of asked)} i.tokens w.tokens k.tokens h.tokens o.tokens [] i.is w.is
    k.is h.is o.is grammar.no_semicolon in
    record {
      tokens = tokens;
      reads = subst (λ (t : List ℕ). Reads t tokens) (sym parts) (subst (λ (t : List ℕ). Reads t tokens) (append-nil long)
          (subst (λ (ts : List Lexeme). Reads (long ++ []) ts) (append-nil tokens) read));
      is = subst (λ (os : List Lexeme). IsQuery most_open (word (codes "select")
          ∷ (i.tokens ++ (word (codes "from") ∷ word (codes "batches") ∷ (w.tokens ++ (k.tokens ++ (h.tokens ++ os)))))) (canonical asked))
          (append-nil o.tokens) is;
    }

-- the canonical text says the query
pub text_says : (q : Asked) → IsWritable q.written → all_of (filters_pass is_shallow) are_shallow q.written ≡ true
    → CanBeArranged (canonical q).arrangement → IsSpelled (spelling q) (canonical q)
text_says q legal shallow fits =
    let p = query_printed q legal (all_distinct IsColumnName bytes_eq q.written.keys legal.keys) shallow
    (terms_fit (order_of q) fits.terms) in
    let read = read_ok (tokens_in (spelling q)) p.tokens (p.reads.from 0) in
    record { tokens = read.0; read = read.1; is_query = subst (λ (ts : List Lexeme). IsQuery most_open ts (canonical q)) (sym read.2) p.is }
