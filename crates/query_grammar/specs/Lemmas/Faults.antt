-- What reading a query gives, in the words of the grammar.
use Rattle.std.proofs.Common.{◌≡◌, ℕ, suc, false, List, [], ◌∷◌, ◌++◌, length, Option, Some, None, Ok, Err, refl, sym, ap, subst, ◌∙◌}
use Rattle.std.proofs.Common.{arith}
use Rattle.std.specs.Prelude.{codes}
use Rattle.std.proofs.lemmas.List.{append-nil}
use Rattle.query_tokens.specs.declared.word.Symbol.TheVariants as symbols
use Rattle.query_grammar.specs.Lemmas.Words.{Lexeme, Asked, is_word, is_sign, Named, opening, IsQuery, Begins, Read, Unexpected, Too_deep}
use Rattle.query_grammar.specs.Lemmas.Words.{after, choose, expect, item_at, list_at, clause_at, keys_at, arrangement_at, nothing_at}
use Rattle.query_grammar.specs.Lemmas.Words.{end_at}
use Rattle.query_grammar.specs.Lemmas.Words.{query_at}
use Rattle.query_grammar.specs.Reading.{◌>>=◌}
use Rattle.query_grammar.specs.Laws.{Means, CanBecome, IsUnexpected, IsTooDeep}
use Rattle.query_grammar.specs.Lemmas.Whole_sound.{Query_part, from_arrangement, from_having, from_keys, from_where, from_items, made}
use Rattle.query_grammar.specs.Lemmas.Whole_sound.{query_means}
use Rattle.query_grammar.specs.Lemmas.Whole_locality.{none_goes_on, none_goes_deeper}

-- ---- a query is read to its end

record Whole {A : Type 0} (r : Read A) : Type 0 where
  all : (x : A × List Lexeme) → r ≡ Ok x → x.1 ≡ []

whole_bind : {A B : Type 0} (r : Read A) (f : A × List Lexeme → Read B) → ((x : A × List Lexeme) → Whole (f x)) → Whole (r >>= f)
whole_bind (Ok x) f h = h x
whole_bind (Err e) f h = record { all = λ x e. absurd cc }

whole_last : {A B : Type 0} (r : Read A) (g : A → B) → Whole r → Whole (r >>= λ x. Ok (g x.0, x.1))
whole_last (Ok x) g h = record { all = λ y e. let same : x.1 ≡ y.1 = cc in sym same ∙ h.all x refl }
whole_last (Err e) g h = record { all = λ x e. absurd cc }

whole_nothing : (ts : List Lexeme) → Whole (nothing_at ts)
whole_nothing [] = record { all = λ x e. cc }
whole_nothing (t ∷ ts) = record { all = λ x e. absurd cc }

whole_choose : {A : Type 0} (o : Option (List Lexeme)) (f : List Lexeme → Read A) (r : Read A) → ((ts : List Lexeme) → Whole (f ts))
    → Whole r → Whole (choose o f r)
whole_choose None f r h k = k
whole_choose (Some ts) f r h k = h ts

whole_end : (ts : List Lexeme) → Whole (end_at ts)
unfolding end_at
whole_end ts = whole_choose (after (is_sign symbols.Semicolon) ts) nothing_at (nothing_at ts) whole_nothing (whole_nothing ts)

whole_arrangement : (items : List (Named × Option (List ℕ))) (condition : Option Named) (names : List (List ℕ)) (having : Option Named)
    (ts : List Lexeme) → Whole (from_arrangement items condition names having ts)
whole_arrangement items condition names having ts =
    whole_bind (arrangement_at ts) (λ arrangement. end_at arrangement.1 >>= λ end.
    Ok (made items condition names having arrangement.0, end.1))
    (λ arrangement. whole_last (end_at arrangement.1) (λ _. made items condition names having arrangement.0) (whole_end arrangement.1))

whole_having : (limit : ℕ) (items : List (Named × Option (List ℕ))) (condition : Option Named) (names : List (List ℕ)) (ts : List Lexeme)
    → Whole (from_having limit items condition names ts)
whole_having limit items condition names ts =
    whole_bind (clause_at limit (codes "having") ts) (λ having. from_arrangement items condition names having.0 having.1)
    (λ having. whole_arrangement items condition names having.0 having.1)

whole_query : (limit : ℕ) (ts : List Lexeme) → Whole (query_at limit ts)
unfolding query_at
whole_query limit ts =
    whole_bind (expect (is_word (codes "select")) ts) (λ select. from_items limit select.1) (λ select.
    whole_bind (list_at (item_at limit) (length select.1) select.1) (λ items. expect (is_word (codes "from")) items.1 >>= λ from. expect
    (is_word (codes "batches")) from.1 >>= λ batches. from_where limit items.0 batches.1) (λ items.
    whole_bind (expect (is_word (codes "from")) items.1) (λ from. expect (is_word (codes "batches")) from.1 >>= λ batches. from_where limit
    items.0 batches.1) (λ from.
    whole_bind (expect (is_word (codes "batches")) from.1) (λ batches. from_where limit items.0 batches.1) (λ batches.
    whole_bind (clause_at limit (codes "where") batches.1) (λ condition. from_keys limit items.0 condition.0 condition.1) (λ condition.
    whole_bind (keys_at condition.1) (λ keys. from_having limit items.0 condition.0 keys.0 keys.1)
    (λ keys. whole_having limit items.0 condition.0 keys.0 keys.1))))))

-- ---- what is read

-- the meaning of what is read, where it is known what is
read_means : (limit : ℕ) (ts : List Lexeme) (r : Read Asked) → query_at limit ts ≡ r → Means (Query_part limit) ts r
read_means limit ts r e = subst (λ (s : Read Asked). Means (Query_part limit) ts s) e (query_means limit ts)

pub is_query : (limit : ℕ) (ts : List Lexeme) (q : Asked) (rest : List Lexeme) → query_at limit ts ≡ Ok (q, rest) → IsQuery limit ts q
is_query limit ts q rest e =
    let m = (read_means limit ts (Ok (q, rest)) e).that in
    let none : rest ≡ [] = (whole_query limit ts).all (q, rest) e in
    let same : m.0 ≡ ts = sym (m.1 ∙ (ap (λ (u : List Lexeme). m.0 ++ u) none ∙ append-nil m.0)) in
    subst (λ (u : List Lexeme). IsQuery limit u q) same (m.2 false)

begins : (limit : ℕ) (front : List Lexeme) → CanBecome (λ ts q. IsQuery limit ts q) front → Begins limit front
begins limit front can = record { more = can.0; asked = can.1; is_query = can.2 }

pub is_unexpected : (limit : ℕ) (ts : List Lexeme) (left : ℕ) → query_at limit ts ≡ Err (Unexpected left) → IsUnexpected limit ts left
is_unexpected limit ts left e =
    let m = (read_means limit ts (Err (Unexpected left)) e).that in
    let here : query_at limit (m.0 ++ m.1) ≡ Err (Unexpected left) = subst (λ (u : List Lexeme). query_at limit u ≡ Err (Unexpected left))
    m.2 e in
    record {
      front = m.0;
      rest = m.1;
      split = m.2;
      place = m.3;
      begins = begins limit m.0 (m.4 false);
      ends = none_goes_on limit limit (omega arith) m.0 m.1 left here m.3;
      ends_also = none_goes_on limit (suc limit) (omega arith) m.0 m.1 left here m.3;
    }

pub is_too_deep : (limit : ℕ) (ts : List Lexeme) (left : ℕ) → query_at limit ts ≡ Err (Too_deep left) → IsTooDeep limit ts left
is_too_deep limit ts left e =
    let m = (read_means limit ts (Err (Too_deep left)) e).that in
    let here : query_at limit (m.0 ++ opening ∷ m.1) ≡ Err (Too_deep left) = subst (λ (u : List Lexeme). query_at limit u
    ≡ Err (Too_deep left)) m.2 e in
    record {
      front = m.0;
      rest = m.1;
      split = m.2;
      place = m.3;
      begins = begins limit m.0 (m.4 false);
      ends = none_goes_deeper limit m.0 opening m.1 left here m.3;
      allowed = begins (suc limit) (m.0 ++ opening ∷ []) m.5;
    }
