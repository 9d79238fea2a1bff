-- What the readers of the code need of the reading functions.
use Rattle.std.proofs.Common.{subst, ◌≡◌, ◌≢◌, ℕ, zero, suc, ◌+◌, ◌-◌, Bool, true, false, List, [], ◌∷◌, ◌++◌, length, map, Some, None, Ok}
use Rattle.std.proofs.Common.{Err, refl, sym, ap, ◌∙◌, arith}
use Rattle.std.specs.Prelude.{codes, Result, IsErrAnd}
use Rattle.query_tokens.specs.Words.{Lexeme}
use Rattle.query_checks.specs.Forms as form
use Rattle.query_grammar.specs.Terminals.{is_word, is_sign}
use Rattle.query_grammar.specs.Grammar.{Named}
use Rattle.query_grammar.specs.Reading.{Read, Fault, Unexpected, Too_deep, Inner, ◌>>=◌, after, expect, enclosed_at, test_at, not_at}
use Rattle.std.proofs.lemmas.List.{map_push}
use Rattle.query_tokens.specs.declared.word.Symbol.TheVariants as symbols
use Rattle.query_grammar.specs.Lists.{list_at}
use Rattle.query_grammar.specs.Lemmas.Alike.{Stays}
use Rattle.query_grammar.specs.Lemmas.Chains.{Lists, list_begins, list_goes, list_stops, list_done}
use Rattle.group_parser.specs.declared.fault.ReadError.{ReadError}
use Rattle.group_parser.specs.declared.fault.ReadError.TheVariants as errors
use Rattle.group_parser.specs.Views.{Fails, Gives}
use Rattle.group_parser.specs.Nots.{nots, negated}

-- ---- NOT

after_not : (inner : Inner) (room : ℕ) (ts behind : List Lexeme) → Some behind ≡ after (is_word (codes "not")) ts
    → not_at inner room ts ≡ (not_at inner room behind >>= λ x. Ok (form.Not x.0, x.1))
unfolding not_at
after_not inner room [] behind e = absurd cc
after_not inner room (t ∷ us) behind e = go (is_word (codes "not") t) refl
  where
    go : (b : Bool) → is_word (codes "not") t ≡ b → not_at inner room (t ∷ us) ≡ (not_at inner room behind >>= λ x. Ok (form.Not x.0, x.1))
    go true h = let e2 : Some behind ≡ Some us = e ∙ rw h refl in let same : behind ≡ us = cc in rw (h, same) refl
    go false h = let e2 : Some behind ≡ None = e ∙ rw h refl in absurd cc

pub no_not : (inner : Inner) (room : ℕ) (ts : List Lexeme) → None ≡ after (is_word (codes "not")) ts → not_at inner room ts
    ≡ test_at inner room ts
unfolding not_at
no_not inner room [] e = refl
no_not inner room (t ∷ us) e = go (is_word (codes "not") t) refl
  where
    go : (b : Bool) → is_word (codes "not") t ≡ b → not_at inner room (t ∷ us) ≡ test_at inner room (t ∷ us)
    go true h = let e2 : None ≡ Some us = e ∙ rw h refl in absurd cc
    go false h = rw h refl

pub one_more_not : (inner : Inner) (room count : ℕ) (whole : Read Named) (ts behind : List Lexeme) → whole
    ≡ nots count (not_at inner room ts) → Some behind ≡ after (is_word (codes "not")) ts
    → whole ≡ nots (count + 1) (not_at inner room behind)
one_more_not inner room count whole ts behind e f =
    let n : count + 1 ≡ suc count = omega arith in
    rw n (e ∙ ap (nots count) (after_not inner room ts behind f))

pub one_more_negated : (count : ℕ) (x : Named) → negated (count + 1) x ≡ form.Not (negated count x)
one_more_negated count x = let n : count + 1 ≡ suc count = omega arith in rw n refl

negated_inside : (n : ℕ) (x : Named) → negated n (form.Not x) ≡ form.Not (negated n x)
negated_inside zero x = refl
negated_inside (suc n) x = ap (λ (y : Named). form.Not y) (negated_inside n x)

nots_read : (n : ℕ) (x : Named) (rest : List Lexeme) → nots n (Ok (x, rest)) ≡ Ok (negated n x, rest)
nots_read zero x rest = refl
nots_read (suc n) x rest = nots_read n (form.Not x) rest ∙ (let e = negated_inside n x in λ i. Ok (e i, rest))

nots_fail : (n : ℕ) (f : Fault) → nots n (Err f) ≡ Err f
nots_fail zero f = refl
nots_fail (suc n) f = nots_fail n f

-- ---- faults go through

pub fails_on : {A B : Type 0} (e : ReadError) (r : Read A) (s : Read B) → ((f : Fault) → r ≡ Err f → s ≡ Err f) → Fails e r → Fails e s
fails_on errors.NoMemory r s h p = tt
fails_on (errors.Unexpected left) r s h p = h (Unexpected left) p
fails_on (errors.TooDeep left) r s h p = h (Too_deep left) p

-- an error is handed on
pub fails_out : {X B : Type 0} (view : X → B × List Lexeme) (result : Result X ReadError) (e : ReadError) (s : Read B)
    → IsErrAnd result (λ f. f ≡ e) → Fails e s → Gives view result s
fails_out view (Ok x) e s is fails = absurd is
fails_out view (Err f) e s is fails = subst (λ (g : ReadError). Fails g s) (sym is) fails

pub not_fails : (inner : Inner) (room n : ℕ) (whole ts : List Lexeme) (f : Fault) → not_at inner room whole ≡ nots n (test_at inner room ts)
    → test_at inner room ts ≡ Err f → not_at inner room whole ≡ Err f
not_fails inner room n whole ts f e h = e ∙ (ap (nots n) h ∙ nots_fail n f)

pub not_reads : (inner : Inner) (room n : ℕ) (whole ts : List Lexeme) (x y : Named) (rest : List Lexeme) → not_at inner room whole
    ≡ nots n (test_at inner room ts) → test_at inner room ts ≡ Ok (x, rest)
    → y ≡ negated n x → not_at inner room whole ≡ Ok (y, rest)
not_reads inner room n whole ts x y rest e h same = e ∙ (ap (nots n) h ∙ (nots_read n x rest ∙ (λ i. Ok (sym same i, rest))))

-- ---- parentheses

-- where one more may be opened, the condition in it is read first
pub inside_first : (inner : Inner) (room : ℕ) (ts : List Lexeme) → room ≢ 0
    → enclosed_at inner room ts
    ≡ (inner.inside (room - 1) ts >>= λ x. (expect (is_sign symbols.Close) x.1 >>= λ closed. Ok (x.0, closed.1)))
unfolding enclosed_at
inside_first inner zero ts some = absurd (some refl)
inside_first inner (suc room) ts some = let e : suc room - 1 ≡ room = omega arith in rw e refl

-- ---- lists

pub list_init : {A X : Type 0} (one : List Lexeme → Read A) → Stays one → (f : X → A) (ts rest : List Lexeme) (start found : List X)
    (first : X) → start ≡ [] → found ≡ start ++ first ∷ [] → one ts ≡ Ok (f first, rest)
    → Lists one (list_at one (length ts) ts) (map f found) rest
list_init one h f ts rest start found first none e g =
    let same : found ≡ first ∷ [] = e ∙ rw none refl in
    rw same (list_begins one h ts (f first) rest g)

pub list_next : {A X : Type 0} (one : List Lexeme → Read A) → Stays one → (f : X → A) (whole : Read (List A)) (found further : List X)
    (more : X) (rest behind next : List Lexeme) → Lists one whole (map f found) rest
    → Some behind ≡ after (is_sign symbols.Comma) rest → one behind ≡ Ok (f more, next) → further ≡ found ++ more ∷ []
    → Lists one whole (map f further) next
list_next one h f whole found further more rest behind next g e k same =
    rw (same, map_push f found more) (list_goes one h whole (map f found) (f more) rest behind next g (sym e) k)

pub list_next_fails : {A : Type 0} (one : List Lexeme → Read A) (whole : Read (List A)) (xs : List A) (rest behind : List Lexeme)
    (f : Fault) → Lists one whole xs rest
    → Some behind ≡ after (is_sign symbols.Comma) rest → one behind ≡ Err f → whole ≡ Err f
list_next_fails one whole xs rest behind f g e k = list_stops one whole xs f rest behind g (sym e) k

pub list_ends : {A : Type 0} (one : List Lexeme → Read A) (whole : Read (List A)) (xs : List A) (rest : List Lexeme)
    → Lists one whole xs rest → None ≡ after (is_sign symbols.Comma) rest → whole ≡ Ok (xs, rest)
list_ends one whole xs rest g e = list_done one whole xs rest g (sym e)
