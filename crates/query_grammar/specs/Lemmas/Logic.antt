-- NOT, AND and OR, and conditions inside: what is read is in the grammar, and is read alike before two tails.
use Rattle.std.proofs.Common.{◌≡◌, ℕ, zero, suc, Bool, true, false, cond, List, [], ◌∷◌, ◌++◌, length, Ok, refl, sym, ap, subst, ◌≤◌, ◌<◌}
use Rattle.std.proofs.Common.{Err, arith}
use Rattle.std.specs.Prelude.{codes}
use Rattle.std.proofs.lemmas.List.{append-nil, length-append}
use Rattle.query_grammar.specs.Lemmas.Words.{Lexeme, is_word, Named, word, Read, Inner, chain_at, test_at, not_at, joined, and_at, or_at}
use Rattle.query_grammar.specs.Lemmas.Words.{nested_at, condition_at, conditions, Unexpected, Too_deep}
use Rattle.query_checks.specs.Forms as form
use Rattle.query_grammar.specs.Grammar as grammar
use Rattle.query_grammar.specs.Reading.{◌>>=◌}
use Rattle.query_grammar.specs.Laws.{Part, Means}
use Rattle.query_grammar.specs.Lemmas.Marks.{the_word}
use Rattle.query_grammar.specs.Lemmas.Steps as steps
use Rattle.query_grammar.specs.Lemmas.Steps.{widen, weaken, bind, mapped}
use Rattle.query_grammar.specs.Lemmas.Alike.{Tails, none, both, Within, Stays, Alike, same, refused, deep, past, deeper, Agree, past_within}
use Rattle.query_grammar.specs.Lemmas.Alike.{within_bind, alike_bind, binds, maps}
use Rattle.query_grammar.specs.Lemmas.Sound.{InnerMeans, Condition_part, And_part, Not_part, Tested_part, null_form, null_condition}
use Rattle.query_grammar.specs.Lemmas.Sound.{chain_means}
use Rattle.query_grammar.specs.Lemmas.Locality.{stays_of, Rooms, InnerAgree, Inners, chains_agree}
use Rattle.query_grammar.specs.Lemmas.Is_tests.{test_means, tests_agree}

-- ---- NOT

not_or_test : (inner : Inner) (h : InnerMeans inner) (room : ℕ) (b : Bool) (t : Lexeme) (ts : List Lexeme) → is_word (codes "not") t ≡ b
    → Means (Not_part inner.limit room) ts (not_at inner room ts)
    → Means (Not_part inner.limit room) (t ∷ ts) (cond b (not_at inner room ts >>= λ x. Ok (form.Not x.0, x.1))
    (test_at inner room (t ∷ ts)))
not_or_test inner h room true t ts e k =
    widen (Not_part inner.limit room) (word (codes "not") ∷ []) ts (t ∷ ts) (not_at inner room ts >>= λ x. Ok (form.Not x.0, x.1))
    (ap (λ (v : Lexeme). v ∷ ts) (the_word (codes "not") t e))
    (mapped (Not_part inner.limit room) (λ b u x. Not_part inner.limit room b (word (codes "not") ∷ u) x) ts (not_at inner room ts)
    (λ x. form.Not x) k (λ b u x p. grammar.by_not p))
not_or_test inner h room false t ts e k = weaken (Tested_part inner.limit room) (Not_part inner.limit room) (t
    ∷ ts) (test_at inner room (t ∷ ts)) (λ b u x p. grammar.only_tested p) (test_means inner h room (t ∷ ts))

pub not_means : (inner : Inner) (h : InnerMeans inner) (room : ℕ) (ts : List Lexeme)
    → Means (Not_part inner.limit room) ts (not_at inner room ts)
unfolding not_at
not_means inner h room [] = weaken (Tested_part inner.limit room) (Not_part inner.limit room) [] (test_at inner room [])
    (λ b u x p. grammar.only_tested p) (test_means inner h room [])
not_means inner h room (t ∷ ts) = not_or_test inner h room (is_word (codes "not") t) t ts refl (not_means inner h room ts)

-- ---- AND and OR

-- operands of one kind, joined by an operator
chained : (operator : List ℕ) (join : Named → Named → Named) (P Q : Part Named) (operand : List Lexeme → Read Named)
    → ((ts : List Lexeme) → Means P ts (operand ts))
    → ((b : Bool) (u : List Lexeme) (x : Named) → P b u x → Q b u x)
    → ((b : Bool) (front u : List Lexeme) (x y : Named) → Q b front x → P b u y → Q b (front ++ word operator ∷ u) (join x y))
    → (ts : List Lexeme) → Means Q ts (operand ts >>= λ x. chain_at operator (joined join operand) (length x.1) x.0 x.1)
chained operator join P Q operand means only by ts =
    bind P Q ts (operand ts) (λ x. chain_at operator (joined join operand) (length x.1) x.0 x.1) (means ts)
    (λ front rest x p. chain_means operator (joined join operand) Q
    (λ front x ts p. mapped P (λ b u y. Q b (front ++ word operator ∷ u) y) ts (operand ts) (λ y. join x y) (means ts)
    (λ b u y q. by b front u x y (p b) q))
    (length rest) front x rest (λ b. only b front x (p b)))
    (λ b front x p. ([], x, subst (λ (u : List Lexeme). Q b u x) (sym (append-nil front)) (only b front x p)))

pub and_means : (inner : Inner) (h : InnerMeans inner) (room : ℕ) (ts : List Lexeme)
    → Means (And_part inner.limit room) ts (and_at inner room ts)
unfolding and_at
and_means inner h room ts =
    chained (codes "and") form.And (Not_part inner.limit room) (And_part inner.limit room) (not_at inner room) (not_means inner h room)
    (λ b u x p. grammar.only_not p) (λ b front u x y p q. grammar.by_and front u p q) ts

pub or_means : (inner : Inner) (h : InnerMeans inner) (room : ℕ) (ts : List Lexeme)
    → Means (Condition_part inner.limit room) ts (or_at inner room ts)
unfolding or_at
or_means inner h room ts =
    chained (codes "or") form.Or (And_part inner.limit room) (Condition_part inner.limit room) (and_at inner room) (and_means inner h room)
    (λ b u x p. grammar.only_and p) (λ b front u x y p q. grammar.by_or front u p q) ts

-- ---- conditions inside

pub nested_means : (limit most : ℕ) → InnerMeans (record { limit = limit; inside = nested_at limit most })
unfolding nested_at
nested_means limit zero room ts = steps.refused (Condition_part limit room) ts
    (λ b. (word (codes "null") ∷ [], null_form, null_condition b limit room))
nested_means limit (suc most) room ts = or_means (record { limit = limit; inside = nested_at limit most }) (nested_means limit most) room ts

pub condition_means : (limit : ℕ) → InnerMeans (conditions limit)
unfolding condition_at
condition_means limit room ts = nested_means limit (suc (length ts)) room ts

-- ---- before two tails the same is read

not_in : (d : Bool) (one two v : List Lexeme) (b : Bool) (r s p q : Read Named) → Alike d one two r s → Within (length (v ++ one)) r
    → Alike d one two p q
    → Alike d one two (cond b (r >>= λ x. Ok (form.Not x.0, x.1)) p) (cond b (s >>= λ x. Ok (form.Not x.0, x.1)) q)
not_in d one two v true r s p q a h k = alike_bind d one two v r s (λ x ts. Ok (form.Not x, ts)) (λ x ts. Ok (form.Not x, ts)) a h
    (λ x u le. same (form.Not x) u) (λ x. record { within = λ ts. omega arith })
not_in d one two v false r s p q a h k = k

not_past : (d : Bool) (t : Lexeme) (rest more : List Lexeme) (b : Bool) (r s p q : Read Named) → Within (length rest) r
    → Alike d (t ∷ rest) (t ∷ more) p q
    → Alike d (t ∷ rest) (t ∷ more) (cond b (r >>= λ x. Ok (form.Not x.0, x.1)) p) (cond b (s >>= λ x. Ok (form.Not x.0, x.1)) q)
not_past d t rest more true r s p q h k =
    past (r >>= λ x. Ok (form.Not x.0, x.1)) (s >>= λ x. Ok (form.Not x.0, x.1))
    (past_within (length rest) (t ∷ rest) (r >>= λ x. Ok (form.Not x.0, x.1)) (omega arith)
    (within_bind (length rest) r (λ x ts. Ok (form.Not x, ts)) h (λ x. record { within = λ ts. omega arith })))
not_past d t rest more false r s p q h k = k

not_alike : (d : Bool) (one two : List Lexeme) (tails : Tails one two) (most : ℕ) (f g : Inner) → Inners d one two most f g
    → (room wide : ℕ) (fits : Rooms d room wide) (u : List Lexeme) → length u < suc most
    → Alike d one two (not_at f room (u ++ one)) (not_at g wide (u ++ two))
unfolding not_at
not_alike d one two tails most f g a room wide fits (t ∷ us) lt =
    not_in d one two us (is_word (codes "not") t) (not_at f room (us ++ one)) (not_at g wide (us ++ two)) (test_at f room (t ∷ (us ++ one)))
    (test_at g wide (t ∷ (us ++ two)))
    (not_alike d one two tails most f g a room wide fits us (omega (arith, lt)))
    ((stays_of _ (not_at f room) (not_means f a.right room)).within (us ++ one))
    ((tests_agree d one two most f g a room wide fits).alike (t ∷ us) lt)
not_alike d _ _ none most f g a room wide fits [] lt = (tests_agree d [] [] most f g a room wide fits).alike [] lt
not_alike d _ _ (both t rest more) most f g a room wide fits [] lt =
    not_past d t rest more (is_word (codes "not") t) (not_at f room rest) (not_at g wide more) (test_at f room (t ∷ rest))
    (test_at g wide (t ∷ more))
    ((stays_of _ (not_at f room) (not_means f a.right room)).within rest)
    ((tests_agree d (t ∷ rest) (t ∷ more) most f g a room wide fits).alike [] lt)

nots_agree : (d : Bool) (one two : List Lexeme) (most : ℕ) (f g : Inner) → Inners d one two most f g
    → (room wide : ℕ) (fits : Rooms d room wide) → Agree d one two (suc most) (not_at f room) (not_at g wide)
nots_agree d one two most f g a room wide fits = record {
  alike = not_alike d one two a.tails most f g a room wide fits;
  stays = stays_of _ (not_at f room) (not_means f a.right room);
  stays_too = stays_of _ (not_at g wide) (not_means g a.right_too wide);
}

-- operands joined by an operator
chained_agree : (d : Bool) (one two : List Lexeme) (tails : Tails one two) (most : ℕ) (operator : List ℕ) (join : Named → Named
    → Named) (f g : List Lexeme → Read Named) → Agree d one two most f g
    → Agree d one two most (λ ts. f ts >>= λ x. chain_at operator (joined join f) (length x.1) x.0 x.1)
    (λ ts. g ts >>= λ x. chain_at operator (joined join g) (length x.1) x.0 x.1)
chained_agree d one two tails most operator join f g agree =
    binds d one two most f g (λ x ts. chain_at operator (joined join f) (length ts) x ts)
    (λ x ts. chain_at operator (joined join g) (length ts) x ts) agree
    (chains_agree d one two tails most operator (joined join f) (joined join g) (λ x. maps d one two most f g (λ y. join x y) agree))

ands_agree : (d : Bool) (one two : List Lexeme) (most : ℕ) (f g : Inner) → Inners d one two most f g
    → (room wide : ℕ) (fits : Rooms d room wide) → Agree d one two (suc most) (and_at f room) (and_at g wide)
unfolding and_at
ands_agree d one two most f g a room wide fits = chained_agree d one two a.tails (suc most) (codes "and") form.And (not_at f room)
    (not_at g wide) (nots_agree d one two most f g a room wide fits)

ors_agree : (d : Bool) (one two : List Lexeme) (most : ℕ) (f g : Inner) → Inners d one two most f g
    → (room wide : ℕ) (fits : Rooms d room wide) → Agree d one two (suc most) (or_at f room) (or_at g wide)
unfolding or_at
ors_agree d one two most f g a room wide fits = chained_agree d one two a.tails (suc most) (codes "or") form.Or (and_at f room)
    (and_at g wide) (ands_agree d one two most f g a room wide fits)

-- ---- conditions inside, before two tails

nothing_before : {A : Type 0} (d : Bool) (one two : List Lexeme) (f g : List Lexeme → Read A) → Stays f → Stays g → Agree d one two 0 f g
nothing_before d one two f g h k = record { alike = λ u lt. absurd (omega (arith, lt)); stays = h; stays_too = k }

inner_stays : (f : Inner) → InnerMeans f → (room : ℕ) → Stays (f.inside room)
inner_stays f h room = stays_of _ (f.inside room) (h room)

-- conditions that are nested less than so deep
abbrev nested : ℕ → ℕ → Inner
nested limit most = record { limit = limit; inside = nested_at limit most }

pub nested_agree : (d : Bool) (one two : List Lexeme) (tails : Tails one two) (limit upper : ℕ) → Rooms d limit upper → (most n m : ℕ)
    → most ≤ n → most ≤ m
    → (room wide : ℕ) → Rooms d room wide → Agree d one two most (nested_at limit n room) (nested_at upper m wide)
unfolding nested_at
nested_agree d one two tails limit upper limits zero n m le also room wide fits =
    nothing_before d one two (nested_at limit n room) (nested_at upper m wide) (inner_stays (nested limit n) (nested_means limit n) room)
    (inner_stays (nested upper m) (nested_means upper m) wide)
nested_agree d one two tails limit upper limits (suc most) zero m le also room wide fits = absurd (omega (arith, le))
nested_agree d one two tails limit upper limits (suc most) (suc n) zero le also room wide fits = absurd (omega (arith, also))
nested_agree d one two tails limit upper limits (suc most) (suc n) (suc m) le also room wide fits =
    ors_agree d one two most (nested limit n) (nested upper m)
    (record {
      tails = tails;
      agree = record {
        inside = nested_agree d one two tails limit upper limits most n m (omega (arith, le)) (omega (arith, also));
        limits =
            limits;
      };
      right = nested_means limit n;
      right_too = nested_means upper m;
    })
    room wide fits

pub conditions_agree : (d : Bool) (one two : List Lexeme) (tails : Tails one two) (limit upper : ℕ) → Rooms d limit upper → (most : ℕ)
    → InnerAgree d one two most (conditions limit) (conditions upper)
unfolding condition_at
conditions_agree d one two tails limit upper limits most = record {
  inside = λ room wide fits. record {
    alike = λ u lt. (nested_agree d one two tails limit upper limits (suc (length u)) (suc (length (u ++ one))) (suc (length (u ++ two)))
        (omega (arith, length-append u one)) (omega (arith, length-append u two)) room wide fits).alike u (omega arith);
    stays = inner_stays (conditions limit) (condition_means limit) room;
    stays_too = inner_stays (conditions upper) (condition_means upper) wide;
  };
  limits = limits;
}

-- ---- before no tail they read the same

pub alike_same : {A : Type 0} (r s : Read A) → Alike false [] [] r s → r ≡ s
alike_same _ _ (same x u) = refl
alike_same _ _ (refused u) = refl
alike_same _ _ (deep u) = refl
alike_same _ _ (deeper t left s) = absurd cc
alike_same (Ok x) _ (past _ _ p) = absurd (omega (arith, p))
alike_same (Err (Unexpected left)) _ (past _ _ p) = absurd (omega (arith, p))
alike_same (Err (Too_deep left)) _ (past _ _ p) = absurd (omega (arith, p))

deep_enough : (limit n : ℕ) → InnerAgree false [] [] n (nested limit n) (conditions limit)
unfolding condition_at
deep_enough limit n = record {
  inside = λ room wide fits. record {
    alike = λ u lt. (nested_agree false [] [] none limit limit refl (suc (length u)) n (suc (length (u ++ []))) (omega (arith, lt))
        (omega (arith, length-append u [])) room wide fits).alike u (omega arith);
    stays = inner_stays (nested limit n) (nested_means limit n) room;
    stays_too = inner_stays (conditions limit) (condition_means limit) wide;
  };
  limits = refl;
}

-- a condition is ORs over conditions inside
pub condition_step : (limit room : ℕ) (ts : List Lexeme) → condition_at limit room ts ≡ or_at (conditions limit) room ts
unfolding condition_at nested_at
condition_step limit room ts =
    let n = length ts in
    let both_ways : Inners false [] [] n (nested limit n) (conditions limit) = record {
      tails = none;
      agree = deep_enough limit n;
      right =
          nested_means limit n;
      right_too = condition_means limit;
    } in
    let a = (ors_agree false [] [] n (nested limit n) (conditions limit) both_ways room room refl).alike ts (omega arith) in
    subst (λ (u : List Lexeme). or_at (nested limit n) room u ≡ or_at (conditions limit) room u) (append-nil ts)
    (alike_same (or_at (nested limit n) room (ts ++ [])) (or_at (conditions limit) room (ts ++ [])) a)

-- ---- what is left never grows

pub joined_stays : (join : Named → Named → Named) (operand : List Lexeme → Read Named) → Stays operand → (x : Named)
    → Stays (joined join operand x)
joined_stays join operand h x = record {
  within = λ ts. within_bind (length ts) (operand ts) (λ y ts. Ok (join x y, ts)) (h.within ts)
      (λ y. record { within = λ ts. omega arith });
}

pub not_stays : (limit room : ℕ) → Stays (not_at (conditions limit) room)
not_stays limit room = stays_of _ (not_at (conditions limit) room) (not_means (conditions limit) (condition_means limit) room)

pub and_stays : (limit room : ℕ) → Stays (and_at (conditions limit) room)
and_stays limit room = stays_of _ (and_at (conditions limit) room) (and_means (conditions limit) (condition_means limit) room)
