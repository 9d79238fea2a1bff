-- A query is read alike before two tails, so that with a token that is refused no query goes on.
use Rattle.std.proofs.Common.{◌≡◌, ℕ, zero, suc, ◌≤◌, ◌<◌, Bool, true, false, cond, List, [], ◌∷◌, ◌++◌, length, Option, Some, None, Ok}
use Rattle.std.proofs.Common.{Err, refl, sym, subst, append_assoc, arith}
use Rattle.std.specs.Prelude.{codes}
use Rattle.std.proofs.lemmas.List.{length-append, append-nil}
use Rattle.query_tokens.specs.declared.word.Symbol.TheVariants as symbols
use Rattle.query_grammar.specs.Lemmas.Words.{Lexeme, Name, Integer, Text, Sign, is_reserved, Term, Asked, is_word, is_sign, Named, Begins}
use Rattle.query_grammar.specs.Lemmas.Words.{Read, Unexpected, Too_deep, after, choose, expect, condition_at, conditions, item_value_at}
use Rattle.query_grammar.specs.Lemmas.Words.{alias_or_none, alias_at, item_at, list_at, clause_at, keys_at, term_at, order_at, nothing_at}
use Rattle.query_grammar.specs.Lemmas.Words.{end_at, query_at, Arrangement, arrangement_at}
use Rattle.query_grammar.specs.Reading.{◌>>=◌, name_at}
use Rattle.query_grammar.specs.Laws.{NoneGoesOn}
use Rattle.query_grammar.specs.Lemmas.Whole_sound.{Value_part, Alias_part, value_means, alias_or_none_means, from_arrangement, from_having}
use Rattle.query_grammar.specs.Lemmas.Whole_sound.{by_order, from_keys, from_where, from_items, made}
use Rattle.query_grammar.specs.Lemmas.Terms.{terms_agree}
use Rattle.query_grammar.specs.Lemmas.Whole_complete.{query_reads}
use Rattle.query_grammar.specs.Lemmas.Alike.{Tails, none, both, Within, Stays, Past, Alike, same, refused, deep, past, deeper, Agree}
use Rattle.query_grammar.specs.Lemmas.Alike.{within_bind, within_chosen, alike_bind, alike_choose, done, binds, chooses, expects, maps}
use Rattle.query_grammar.specs.Lemmas.Locality.{Rooms, stays_of, names_agree, free_word_in, free_word_past}
use Rattle.query_grammar.specs.Lemmas.Logic.{conditions_agree}

-- ---- items

value_alike : (d : Bool) (one two : List Lexeme) (tails : Tails one two) (limit upper : ℕ) → Rooms d limit upper → (u : List Lexeme)
    → Alike d one two (item_value_at limit (u ++ one)) (item_value_at upper (u ++ two))
unfolding item_value_at
value_alike d one two tails limit upper h (Name w ∷ us) = free_word_in d one two tails (suc (length us)) (conditions limit)
    (conditions upper) (conditions_agree d one two tails limit upper h (suc (length us))) w us (omega arith)
value_alike d one two tails limit upper h (Integer z ∷ us) = refused (Integer z ∷ us)
value_alike d one two tails limit upper h (Text s ∷ us) = refused (Text s ∷ us)
value_alike d one two tails limit upper h (Sign s ∷ us) = refused (Sign s ∷ us)
value_alike d _ _ none limit upper h [] = refused []
value_alike d _ _ (both (Name w) rest more) limit upper h [] = free_word_past d 0 (conditions limit) (conditions upper) w rest more
    (conditions_agree d (Name w ∷ rest) (Name w ∷ more) (both (Name w) rest more) limit upper h 0)
value_alike d _ _ (both (Integer z) rest more) limit upper h [] = refused []
value_alike d _ _ (both (Text s) rest more) limit upper h [] = refused []
value_alike d _ _ (both (Sign s) rest more) limit upper h [] = refused []

values_agree : (d : Bool) (one two : List Lexeme) (tails : Tails one two) (limit upper : ℕ) → Rooms d limit upper → (most : ℕ)
    → Agree d one two most (item_value_at limit) (item_value_at upper)
values_agree d one two tails limit upper h most = record {
  alike = λ u lt. value_alike d one two tails limit upper h u;
  stays = stays_of (Value_part limit) (item_value_at limit) (value_means limit);
  stays_too = stays_of (Value_part upper) (item_value_at upper) (value_means upper);
}

bare_in : (d : Bool) (one two us : List Lexeme) (b : Bool) (w : List ℕ)
    → Alike d one two (cond b (Ok (None, Name w ∷ (us ++ one))) (Ok (Some w, us ++ one)))
    (cond b (Ok (None, Name w ∷ (us ++ two))) (Ok (Some w, us ++ two)))
bare_in d one two us true w = same None (Name w ∷ us)
bare_in d one two us false w = same (Some w) us

bare_past : (d : Bool) (rest more : List Lexeme) (b : Bool) (w : List ℕ)
    → Alike d (Name w ∷ rest) (Name w ∷ more) (cond b (Ok (None, Name w ∷ rest)) (Ok (Some w, rest)))
    (cond b (Ok (None, Name w ∷ more)) (Ok (Some w, more)))
bare_past d rest more true w = same None []
bare_past d rest more false w = past (Ok (Some w, rest)) (Ok (Some w, more)) (omega arith)

bare_alike : (d : Bool) (one two : List Lexeme) → Tails one two → (u : List Lexeme)
    → Alike d one two (alias_or_none (u ++ one)) (alias_or_none (u ++ two))
unfolding alias_or_none
bare_alike d one two tails (Name w ∷ us) = bare_in d one two us (is_reserved w) w
bare_alike d one two tails (Integer z ∷ us) = same None (Integer z ∷ us)
bare_alike d one two tails (Text s ∷ us) = same None (Text s ∷ us)
bare_alike d one two tails (Sign s ∷ us) = same None (Sign s ∷ us)
bare_alike d _ _ none [] = same None []
bare_alike d _ _ (both (Name w) rest more) [] = bare_past d rest more (is_reserved w) w
bare_alike d _ _ (both (Integer z) rest more) [] = same None []
bare_alike d _ _ (both (Text s) rest more) [] = same None []
bare_alike d _ _ (both (Sign s) rest more) [] = same None []

aliases_agree : (d : Bool) (one two : List Lexeme) (tails : Tails one two) (most : ℕ) → Agree d one two most alias_at alias_at
unfolding alias_at
aliases_agree d one two tails most =
    chooses d one two tails most (is_word (codes "as")) (λ ts. name_at ts >>= λ name. Ok (Some name.0, name.1))
    (λ ts. name_at ts >>= λ name. Ok (Some name.0, name.1)) alias_or_none alias_or_none
    (maps d one two most name_at name_at (λ w. Some w) (names_agree d one two tails most))
    (record {
      alike = λ u lt. bare_alike d one two tails u;
      stays = stays_of Alias_part alias_or_none alias_or_none_means;
      stays_too = stays_of Alias_part alias_or_none alias_or_none_means;
    })

items_agree : (d : Bool) (one two : List Lexeme) (tails : Tails one two) (limit upper : ℕ) → Rooms d limit upper → (most : ℕ)
    → Agree d one two most (item_at limit) (item_at upper)
unfolding item_at
items_agree d one two tails limit upper h most =
    binds d one two most (item_value_at limit) (item_value_at upper) (λ x ts. alias_at ts >>= λ alias. Ok ((x, alias.0), alias.1))
    (λ x ts. alias_at ts >>= λ alias. Ok ((x, alias.0), alias.1))
    (values_agree d one two tails limit upper h most)
    (λ x. maps d one two most alias_at alias_at (λ alias. (x, alias)) (aliases_agree d one two tails most))

-- ---- lists

-- what stands behind a member
abbrev behind_one : {A : Type 0} → (List Lexeme → Read A) → ℕ → A → List Lexeme → Read (List A)
behind_one one zero x ts = Ok (x ∷ [], ts)
behind_one one (suc turns) x ts = choose (after (is_sign symbols.Comma) ts) (λ rest. list_at one turns rest >>= λ xs. Ok (x ∷ xs.0, xs.1))
    (Ok (x ∷ [], ts))

list_step : {A : Type 0} (one : List Lexeme → Read A) (turns : ℕ) (ts : List Lexeme) → list_at one turns ts
    ≡ (one ts >>= λ x. behind_one one turns x.0 x.1)
unfolding list_at
list_step one zero ts = refl
list_step one (suc turns) ts = refl

listed_stays : {A : Type 0} (one : List Lexeme → Read A) (turns : ℕ) → Stays one → ((x : A) → Stays (behind_one one turns x))
    → Stays (list_at one turns)
listed_stays one turns h k = record {
  within = λ ts. rw (list_step one turns ts) (within_bind (length ts) (one ts) (behind_one one turns)
      (h.within ts) k);
}

behind_stays : {A : Type 0} (one : List Lexeme → Read A) → Stays one → (turns : ℕ) (x : A) → Stays (behind_one one turns x)
behind_stays one h zero x = record { within = λ ts. omega arith }
behind_stays one h (suc turns) x =
    within_chosen (is_sign symbols.Comma) (λ rest. list_at one turns rest >>= λ xs. Ok (x ∷ xs.0, xs.1)) (λ ts. Ok (x ∷ [], ts))
    (record {
      within = λ ts. within_bind (length ts) (list_at one turns ts) (λ xs ts. Ok (x ∷ xs, ts))
          ((listed_stays one turns h (behind_stays one h turns)).within ts) (λ xs. record { within = λ ts. omega arith });
    })
    (record { within = λ ts. omega arith })

lists_stay : {A : Type 0} (one : List Lexeme → Read A) → Stays one → (turns : ℕ) → Stays (list_at one turns)
lists_stay one h turns = listed_stays one turns h (behind_stays one h turns)

-- so far as what stands behind a member is read alike, so is a list
list_from : {A : Type 0} (d : Bool) (one two : List Lexeme) (most : ℕ) (f g : List Lexeme → Read A) → Agree d one two most f g
    → (k m : ℕ) (u : List Lexeme) → length u < most
    → ((x : A) (v : List Lexeme) → length v ≤ length u → Alike d one two (behind_one f k x (v ++ one)) (behind_one g m x (v ++ two)))
    → Alike d one two (list_at f k (u ++ one)) (list_at g m (u ++ two))
list_from d one two most f g a k m u lt next =
    rw (list_step f k (u ++ one), list_step g m (u ++ two))
    (alike_bind d one two u (f (u ++ one)) (g (u ++ two)) (behind_one f k) (behind_one g m) (a.alike u lt) (a.stays.within (u ++ one)) next
    (behind_stays f a.stays k))

behind_nothing : {A : Type 0} (one : List Lexeme → Read A) (turns : ℕ) (x : A) → behind_one one turns x [] ≡ Ok (x ∷ [], [])
behind_nothing one zero x = refl
behind_nothing one (suc turns) x = refl

ends_alike : {A : Type 0} (d : Bool) (f g : List Lexeme → Read A) (k m : ℕ) (x : A)
    → Alike d [] [] (behind_one f k x []) (behind_one g m x [])
ends_alike d f g k m x = rw (behind_nothing f k x, behind_nothing g m x) (same (x ∷ []) [])

behind_alike : {A : Type 0} (d : Bool) (one two : List Lexeme) (tails : Tails one two) (most : ℕ) (f g : List Lexeme → Read A)
    → Agree d one two most f g
    → (k m : ℕ) (x : A) (u : List Lexeme) → length (u ++ one) ≤ k → length (u ++ two) ≤ m → length u < most
    → Alike d one two (behind_one f k x (u ++ one)) (behind_one g m x (u ++ two))
behind_alike d one two tails most f g a zero m x (t ∷ us) le also lt = absurd (omega (arith, le))
behind_alike d one two tails most f g a (suc k) zero x (t ∷ us) le also lt = absurd (omega (arith, also))
behind_alike d _ _ none most f g a zero m x [] le also lt = ends_alike d f g zero m x
behind_alike d _ _ (both t rest more) most f g a zero m x [] le also lt = absurd (omega (arith, le))
behind_alike d _ _ none most f g a (suc k) zero x [] le also lt = ends_alike d f g (suc k) zero x
behind_alike d _ _ (both t rest more) most f g a (suc k) zero x [] le also lt = absurd (omega (arith, also))
behind_alike d one two tails most f g a (suc k) (suc m) x u le also lt =
    alike_choose d one two tails (is_sign symbols.Comma) u (λ rest. list_at f k rest >>= λ xs. Ok (x ∷ xs.0, xs.1))
    (λ rest. list_at g m rest >>= λ xs. Ok (x ∷ xs.0, xs.1)) (Ok (x ∷ [], u ++ one)) (Ok (x ∷ [], u ++ two))
    (λ v less. alike_bind d one two v (list_at f k (v ++ one)) (list_at g m (v ++ two)) (λ xs ts. Ok (x ∷ xs, ts))
    (λ xs ts. Ok (x ∷ xs, ts))
    (list_from d one two most f g a k m v (omega (arith, lt, less))
    (λ y w short. behind_alike d one two tails most f g a k m y w
    (omega (arith, le, less, short, length-append w one, length-append u one))
    (omega (arith, also, less, short, length-append w two, length-append u two)) (omega (arith, lt, less, short))))
    ((lists_stay f a.stays k).within (v ++ one)) (λ xs w short. same (x ∷ xs) w) (λ xs. record { within = λ ts. omega arith }))
    (record {
      within = λ ts. within_bind (length ts) (list_at f k ts) (λ xs ts. Ok (x ∷ xs, ts)) ((lists_stay f a.stays k).within ts)
          (λ xs. record { within = λ ts. omega arith });
    })
    (same (x ∷ []) u)

lists_agree : {A : Type 0} (d : Bool) (one two : List Lexeme) (tails : Tails one two) (most : ℕ) (f g : List Lexeme → Read A)
    → Agree d one two most f g
    → Agree d one two most (λ ts. list_at f (length ts) ts) (λ ts. list_at g (length ts) ts)
lists_agree d one two tails most f g a = record {
  alike = λ u lt. list_from d one two most f g a (length (u ++ one)) (length (u ++ two)) u lt
      (λ x v short. behind_alike d one two tails most f g a (length (u ++ one)) (length (u ++ two)) x v
      (omega (arith, short, length-append v one, length-append u one)) (omega (arith, short, length-append v two, length-append u two))
      (omega (arith, lt, short)));
  stays = record { within = λ ts. (lists_stay f a.stays (length ts)).within ts };
  stays_too = record { within = λ ts. (lists_stay g a.stays_too (length ts)).within ts };
}

-- ---- clauses and the end

clauses_agree : (d : Bool) (one two : List Lexeme) (tails : Tails one two) (limit upper : ℕ) → Rooms d limit upper → (most : ℕ) (w : List ℕ)
    → Agree d one two most (clause_at limit w) (clause_at upper w)
unfolding clause_at
clauses_agree d one two tails limit upper h most w =
    chooses d one two tails most (is_word w) (λ rest. condition_at limit limit rest >>= λ x. Ok (Some x.0, x.1))
    (λ rest. condition_at upper upper rest >>= λ x. Ok (Some x.0, x.1)) (λ ts. Ok (None, ts)) (λ ts. Ok (None, ts))
    (maps d one two most (condition_at limit limit) (condition_at upper upper) (λ x. Some x)
    ((conditions_agree d one two tails limit upper h most).inside limit upper h))
    (done d one two most None)

keys_agree : (d : Bool) (one two : List Lexeme) (tails : Tails one two) (most : ℕ) → Agree d one two most keys_at keys_at
unfolding keys_at
keys_agree d one two tails most =
    let names : List Lexeme → Read (List (List ℕ)) = λ ts. list_at name_at (length ts) ts in
    chooses d one two tails most (is_word (codes "group")) (λ rest. expect (is_word (codes "by")) rest >>= λ by. names by.1)
    (λ rest. expect (is_word (codes "by")) rest >>= λ by. names by.1) (λ ts. Ok ([], ts)) (λ ts. Ok ([], ts))
    (expects d one two tails most (is_word (codes "by")) names names
    (lists_agree d one two tails most name_at name_at (names_agree d one two tails most)))
    (done d one two most [])

orders_agree : (d : Bool) (one two : List Lexeme) (tails : Tails one two) (most : ℕ) → Agree d one two most order_at order_at
unfolding order_at
orders_agree d one two tails most =
    let terms : List Lexeme → Read (List Term) = λ ts. list_at term_at (length ts) ts in
    chooses d one two tails most (is_word (codes "order")) (λ rest. expect (is_word (codes "by")) rest >>= λ by. terms by.1)
    (λ rest. expect (is_word (codes "by")) rest >>= λ by. terms by.1) (λ ts. Ok ([], ts)) (λ ts. Ok ([], ts))
    (expects d one two tails most (is_word (codes "by")) terms terms
    (lists_agree d one two tails most term_at term_at (terms_agree d one two tails most)))
    (done d one two most [])

arrangements_agree : (d : Bool) (one two : List Lexeme) (tails : Tails one two) (most : ℕ)
    → Agree d one two most arrangement_at arrangement_at
unfolding arrangement_at
arrangements_agree d one two tails most = maps d one two most order_at order_at by_order (orders_agree d one two tails most)

nothing_alike : (d : Bool) (one two : List Lexeme) → Tails one two → (u : List Lexeme)
    → Alike d one two (nothing_at (u ++ one)) (nothing_at (u ++ two))
nothing_alike d one two tails (t ∷ us) = refused (t ∷ us)
nothing_alike d _ _ none [] = same tt []
nothing_alike d _ _ (both t rest more) [] = refused []

nothing_stays : Stays nothing_at
nothing_stays = record { within = go }
  where
    go : (ts : List Lexeme) → Within (length ts) (nothing_at ts)
    go [] = omega arith
    go (t ∷ ts) = omega arith

nothing_agrees : (d : Bool) (one two : List Lexeme) (tails : Tails one two) (most : ℕ) → Agree d one two most nothing_at nothing_at
nothing_agrees d one two tails most = record {
  alike = λ u lt. nothing_alike d one two tails u;
  stays = nothing_stays;
  stays_too =
      nothing_stays;
}

ends_agree : (d : Bool) (one two : List Lexeme) (tails : Tails one two) (most : ℕ) → Agree d one two most end_at end_at
unfolding end_at
ends_agree d one two tails most =
    chooses d one two tails most (is_sign symbols.Semicolon) nothing_at nothing_at nothing_at nothing_at
    (nothing_agrees d one two tails most) (nothing_agrees d one two tails most)

-- ---- the query

arrangement_agrees : (d : Bool) (one two : List Lexeme) (tails : Tails one two) (most : ℕ) (items : List (Named × Option (List ℕ)))
    (condition : Option Named) (names : List (List ℕ)) (having : Option Named)
    → Agree d one two most (from_arrangement items condition names having) (from_arrangement items condition names having)
arrangement_agrees d one two tails most items condition names having =
    let last : Arrangement Term → List Lexeme → Read Asked = λ arrangement ts. end_at ts >>= λ end.
    Ok (made items condition names having arrangement, end.1)
    in
    binds d one two most arrangement_at arrangement_at last last (arrangements_agree d one two tails most)
    (λ arrangement. maps d one two most end_at end_at (λ _. made items condition names having arrangement)
    (ends_agree d one two tails most))

having_agree : (d : Bool) (one two : List Lexeme) (tails : Tails one two) (limit upper : ℕ) → Rooms d limit upper
    → (most : ℕ) (items : List (Named × Option (List ℕ))) (condition : Option Named) (names : List (List ℕ))
    → Agree d one two most (from_having limit items condition names) (from_having upper items condition names)
having_agree d one two tails limit upper h most items condition names =
    binds d one two most (clause_at limit (codes "having")) (clause_at upper (codes "having")) (from_arrangement items condition names)
    (from_arrangement items condition names) (clauses_agree d one two tails limit upper h most (codes "having"))
    (arrangement_agrees d one two tails most items condition names)

keys_on_agree : (d : Bool) (one two : List Lexeme) (tails : Tails one two) (limit upper : ℕ) → Rooms d limit upper
    → (most : ℕ) (items : List (Named × Option (List ℕ))) (condition : Option Named)
    → Agree d one two most (from_keys limit items condition) (from_keys upper items condition)
keys_on_agree d one two tails limit upper h most items condition =
    binds d one two most keys_at keys_at (from_having limit items condition) (from_having upper items condition)
    (keys_agree d one two tails most)
    (having_agree d one two tails limit upper h most items condition)

where_agree : (d : Bool) (one two : List Lexeme) (tails : Tails one two) (limit upper : ℕ) → Rooms d limit upper
    → (most : ℕ) (items : List (Named × Option (List ℕ)))
    → Agree d one two most (from_where limit items) (from_where upper items)
where_agree d one two tails limit upper h most items =
    binds d one two most (clause_at limit (codes "where")) (clause_at upper (codes "where")) (from_keys limit items) (from_keys upper items)
    (clauses_agree d one two tails limit upper h most (codes "where"))
    (keys_on_agree d one two tails limit upper h most items)

queries_agree : (d : Bool) (one two : List Lexeme) (tails : Tails one two) (limit upper : ℕ) → Rooms d limit upper → (most : ℕ)
    → Agree d one two most (query_at limit) (query_at upper)
unfolding query_at
queries_agree d one two tails limit upper h most =
    let behind_from : ℕ → List (Named × Option (List ℕ)) → List Lexeme → Read Asked = λ l items ts. expect (is_word (codes "batches")) ts
    >>= λ batches. from_where l items batches.1 in
    let behind_items : ℕ → List (Named × Option (List ℕ)) → List Lexeme → Read Asked = λ l items ts. expect (is_word (codes "from")) ts >>=
    λ from. behind_from l items from.1 in
    expects d one two tails most (is_word (codes "select")) (from_items limit) (from_items upper)
    (binds d one two most (λ ts. list_at (item_at limit) (length ts) ts) (λ ts. list_at (item_at upper) (length ts) ts) (behind_items limit)
    (behind_items upper)
    (lists_agree d one two tails most (item_at limit) (item_at upper) (items_agree d one two tails limit upper h most))
    (λ items. expects d one two tails most (is_word (codes "from")) (behind_from limit items) (behind_from upper items)
    (expects d one two tails most (is_word (codes "batches")) (from_where limit items) (from_where upper items)
    (where_agree d one two tails limit upper h most items))))

-- ---- with a token that is refused no query goes on

-- what is refused at the first token of the tails, and not for its parentheses, is read before none
not_before : {A : Type 0} (d : Bool) (one two : List Lexeme) (r s : Read A) → Alike d one two r s → (left : ℕ) (x : A × List Lexeme) → r
    ≡ Err (Unexpected left) → s ≡ Ok x → left < length one
not_before d one two _ _ (same y u) left x e f = absurd cc
not_before d one two _ _ (refused u) left x e f = absurd cc
not_before d one two _ _ (deep u) left x e f = absurd cc
not_before d one two _ _ (deeper t l s) left x e f = absurd cc
not_before d one two _ _ (past r s p) left x e f = subst (Past one) e p

-- the same for any fault, where both readers allow as many parentheses
never_before : {A : Type 0} (one two : List Lexeme) (r s : Read A) → Alike false one two r s → (left : ℕ) (x : A × List Lexeme) → r
    ≡ Err (Too_deep left) → s ≡ Ok x → left < length one
never_before one two _ _ (same y u) left x e f = absurd cc
never_before one two _ _ (refused u) left x e f = absurd cc
never_before one two _ _ (deep u) left x e f = absurd cc
never_before one two _ _ (deeper t l s) left x e f = absurd cc
never_before one two _ _ (past r s p) left x e f = subst (Past one) e p

-- a query that begins so is read
is_read : (limit : ℕ) (front : List Lexeme) (t : Lexeme) (b : Begins limit (front ++ t ∷ [])) → query_at limit (front ++ t ∷ b.more)
    ≡ Ok (b.asked, [])
is_read limit front t b = subst (λ (u : List Lexeme). query_at limit u ≡ Ok (b.asked, [])) (append_assoc front (t ∷ []) b.more)
    (query_reads limit ((front ++ t ∷ []) ++ b.more) b.asked b.is_query)

read_alike : (d : Bool) (limit upper : ℕ) → Rooms d limit upper → (front : List Lexeme) (t : Lexeme) (rest more : List Lexeme)
    → Alike d (t ∷ rest) (t ∷ more) (query_at limit (front ++ t ∷ rest)) (query_at upper (front ++ t ∷ more))
read_alike d limit upper h front t rest more = (queries_agree d (t ∷ rest) (t ∷ more) (both t rest more) limit upper h
    (suc (length front))).alike front (omega arith)

pub none_goes_on : (limit upper : ℕ) → limit ≤ upper → (front rest : List Lexeme) (left : ℕ) → query_at limit (front ++ rest)
    ≡ Err (Unexpected left) → length rest ≡ left → NoneGoesOn upper front rest
none_goes_on limit upper h front [] left e place = λ q p. go (query_reads upper front q p)
  where
    go : {q : Asked} → query_at upper front ≡ Ok (q, []) → ⊥
    go {q} r =
        let a = (queries_agree true [] [] none limit upper h (suc (length front))).alike front (omega arith) in
        let b = not_before true [] [] (query_at limit (front ++ [])) (query_at upper (front ++ [])) a left (q, []) e
        (subst (λ (u : List Lexeme). query_at upper u ≡ Ok (q, [])) (sym (append-nil front)) r) in
        omega (arith, b)
none_goes_on limit upper h front (t ∷ rest) left e place = λ b.
    let c = not_before true (t ∷ rest) (t ∷ b.more) (query_at limit (front ++ t ∷ rest)) (query_at upper (front ++ t ∷ b.more))
    (read_alike true limit upper h front t rest b.more) left (b.asked, []) e (is_read upper front t b) in
    omega (arith, c, place)

pub none_goes_deeper : (limit : ℕ) (front : List Lexeme) (t : Lexeme) (rest : List Lexeme) (left : ℕ) → query_at limit (front ++ t ∷ rest)
    ≡ Err (Too_deep left) → length (t ∷ rest) ≡ left → NoneGoesOn limit front (t ∷ rest)
none_goes_deeper limit front t rest left e place = λ b.
    let c = never_before (t ∷ rest) (t ∷ b.more) (query_at limit (front ++ t ∷ rest)) (query_at limit (front ++ t ∷ b.more))
    (read_alike false limit limit refl front t rest b.more) left (b.asked, []) e (is_read limit front t b) in
    omega (arith, c, place)

-- ---- what is left never grows

pub items_stay : (limit : ℕ) → Stays (item_at limit)
items_stay limit = (items_agree false [] [] none limit limit refl 0).stays

pub names_stay : Stays name_at
names_stay = (names_agree false [] [] none 0).stays

pub terms_stay : Stays term_at
terms_stay = (terms_agree false [] [] none 0).stays
