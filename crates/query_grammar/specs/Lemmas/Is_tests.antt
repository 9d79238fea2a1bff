-- IS tests: what is read is in the grammar, and is read alike before two tails.
use Rattle.std.proofs.Common.{ℕ, suc, Bool, true, false, List, [], ◌∷◌, ◌++◌, length, Ok, sym, subst}
use Rattle.std.specs.Prelude.{codes}
use Rattle.std.proofs.lemmas.List.{append-nil}
use Rattle.query_grammar.specs.Lemmas.Words.{Lexeme, Test, Is_null, all_tests, test_word, is_word, Named, word, IsTest, Inner, cmp_at}
use Rattle.query_grammar.specs.Lemmas.Words.{looked_for_among, looked_for, test_behind, tested, chain_at, test_at}
use Rattle.query_checks.specs.Forms as form
use Rattle.query_grammar.specs.Grammar as grammar
use Rattle.query_grammar.specs.Laws.{Part, Means}
use Rattle.query_grammar.specs.Lemmas.Steps as steps
use Rattle.query_grammar.specs.Lemmas.Steps.{bind, mapped, chosen}
use Rattle.query_grammar.specs.Lemmas.Alike.{Tails, none, Stays, Agree, done, refuses, binds, chooses, maps}
use Rattle.query_grammar.specs.Lemmas.Sound.{InnerMeans, Tested_part, Compared_part, word_law, cmp_means, chain_means}
use Rattle.query_grammar.specs.Lemmas.Locality.{Rooms, Inners, comparisons_agree, chains_agree}

-- ---- what is read is in the grammar

abbrev Test_part : Part Test
Test_part = λ b ts x. IsTest ts x

among_means : (tests : List Test) (ts : List Lexeme) → Means Test_part ts (looked_for_among tests ts)
among_means [] ts = steps.refused Test_part ts (λ b. (word (test_word Is_null) ∷ [], Is_null, grammar.for_word Is_null))
among_means (t ∷ tests) ts =
    chosen Test_part (word (test_word t)) (is_word (test_word t)) (word_law (test_word t)) ts (λ rest. Ok (t, rest))
    (looked_for_among tests ts) (λ rest. steps.done (λ b u s. IsTest (word (test_word t) ∷ u) s) rest t (λ b. grammar.for_word t))
    (among_means tests ts)

looked_for_means : (ts : List Lexeme) → Means Test_part ts (looked_for ts)
unfolding looked_for
looked_for_means ts = among_means all_tests ts

tested_means : (limit room : ℕ) (front : List Lexeme) (x : Named) (ts : List Lexeme) → ((b : Bool) → Tested_part limit room b front x)
    → Means (λ b u y. Tested_part limit room b (front ++ word (codes "is") ∷ u) y) ts (tested x ts)
unfolding tested
tested_means limit room front x ts p =
    chosen (λ b u y. Tested_part limit room b (front ++ word (codes "is") ∷ u) y) (word (codes "not")) (is_word (codes "not"))
    (word_law (codes "not")) ts
    (test_behind true x) (test_behind false x ts)
    (λ rest. mapped Test_part (λ b u y. Tested_part limit room b (front ++ word (codes "is") ∷ word (codes "not") ∷ u) y) rest
    (looked_for rest) (λ t. form.Is_not t x) (looked_for_means rest) (λ b u t q. grammar.by_is_not front u (p b) q))
    (mapped Test_part (λ b u y. Tested_part limit room b (front ++ word (codes "is") ∷ u) y) ts (looked_for ts) (λ t. form.Is t x)
    (looked_for_means ts) (λ b u t q. grammar.by_is front u (p b) q))

pub test_means : (inner : Inner) (h : InnerMeans inner) (room : ℕ) (ts : List Lexeme)
    → Means (Tested_part inner.limit room) ts (test_at inner room ts)
unfolding test_at
test_means inner h room ts =
    bind (Compared_part inner.limit room) (Tested_part inner.limit room) ts (cmp_at inner room ts)
    (λ x. chain_at (codes "is") tested (length x.1) x.0 x.1) (cmp_means inner h room ts)
    (λ front rest x p. chain_means (codes "is") tested (Tested_part inner.limit room) (λ u y us q. tested_means inner.limit room u y us q)
    (length rest) front x rest (λ b. grammar.only_compared (p b)))
    (λ b front x p. (
      [],
      x,
      subst (λ (u : List Lexeme). Tested_part inner.limit room b u x) (sym (append-nil front))
          (grammar.only_compared p),
    ))

-- ---- before two tails the same is read

among_agree : (d : Bool) (one two : List Lexeme) (tails : Tails one two) (most : ℕ) (tests : List Test)
    → Agree d one two most (looked_for_among tests) (looked_for_among tests)
among_agree d one two tails most [] = refuses d one two most
among_agree d one two tails most (t ∷ tests) =
    chooses d one two tails most (is_word (test_word t)) (λ rest. Ok (t, rest)) (λ rest. Ok (t, rest)) (looked_for_among tests)
    (looked_for_among tests) (done d one two most t) (among_agree d one two tails most tests)

looked_agree : (d : Bool) (one two : List Lexeme) (tails : Tails one two) (most : ℕ) → Agree d one two most looked_for looked_for
unfolding looked_for
looked_agree d one two tails most = among_agree d one two tails most all_tests

tested_agree : (d : Bool) (one two : List Lexeme) (tails : Tails one two) (most : ℕ) (x : Named)
    → Agree d one two most (tested x) (tested x)
unfolding tested
tested_agree d one two tails most x =
    chooses d one two tails most (is_word (codes "not")) (test_behind true x) (test_behind true x) (test_behind false x)
    (test_behind false x)
    (maps d one two most looked_for looked_for (λ t. form.Is_not t x) (looked_agree d one two tails most))
    (maps d one two most looked_for looked_for (λ t. form.Is t x) (looked_agree d one two tails most))

pub tests_agree : (d : Bool) (one two : List Lexeme) (most : ℕ) (f g : Inner) → Inners d one two most f g
    → (room wide : ℕ) (fits : Rooms d room wide) → Agree d one two (suc most) (test_at f room) (test_at g wide)
unfolding test_at
tests_agree d one two most f g a room wide fits =
    binds d one two (suc most) (cmp_at f room) (cmp_at g wide) (λ x ts. chain_at (codes "is") tested (length ts) x ts)
    (λ x ts. chain_at (codes "is") tested (length ts) x ts) (comparisons_agree d one two most f g a room wide fits)
    (chains_agree d one two a.tails (suc most) (codes "is") tested tested (tested_agree d one two a.tails (suc most)))

pub tested_stays : (x : Named) → Stays (tested x)
tested_stays x = (tested_agree false [] [] none 0 x).stays
