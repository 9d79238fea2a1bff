-- What is in the grammar is read.
use Rattle.std.proofs.Common.{◌≡◌, ℕ, suc, ◌≤◌, ◌<◌, Bool, true, false, cond, List, [], ◌∷◌, ◌++◌, length, Option, Some, None, Ok, Err}
use Rattle.std.proofs.Common.{refl, ap, subst, ◌∙◌, append_assoc, arith}
use Rattle.std.specs.Prelude.{codes, is_some, if◌then◌else◌}
use Rattle.std.specs.Str.{bytes_eq}
use Rattle.query_grammar.specs.Lemmas.Words.{Symbol, Lexeme, Name, Integer, Text, Sign, Function, Comparison, Test, Is_null, Named, opening}
use Rattle.query_grammar.specs.Lemmas.Words.{closing, word, IsTest, IsCallArgument, IsCondition, IsAnd, IsNot, IsTested, IsCompared}
use Rattle.query_grammar.specs.Lemmas.Words.{IsOperand, IsCall, is_reserved, comparison_named, test_word, function_named, is_word, is_sign}
use Rattle.query_grammar.specs.Lemmas.Words.{symbol_number, Read, Inner, after, filter_at, is_count, argument_at, call_at}
use Rattle.query_grammar.specs.Lemmas.Words.{function_or_column, enclosed_at, prim_at, with_rest, after_comparison, cmp_at, looked_for}
use Rattle.query_grammar.specs.Lemmas.Words.{tested, chain_at, test_at, not_at, joined, and_at, or_at, condition_at, conditions}
use Rattle.query_tokens.specs.declared.word.Symbol.TheVariants as symbols
use Rattle.query_checks.specs.Forms as form
use Rattle.query_grammar.specs.Reading.{Fault, ◌>>=◌, word_at}
use Rattle.query_grammar.specs.Grammar as grammar
use Rattle.query_grammar.specs.Lemmas.Alike.{Stays}
use Rattle.query_grammar.specs.Lemmas.Is_tests.{tested_stays}
use Rattle.query_grammar.specs.Lemmas.Logic.{joined_stays, not_stays, and_stays, condition_step}
use Rattle.query_grammar.specs.Lemmas.Marks.{the_word, same_bytes, the_sign}
use Rattle.query_grammar.specs.Lemmas.Chains.{chain_ends, chain_goes_on, Goes, chain_goes, chain_fails}

-- ---- what can follow

unfoldable pub sign_rank : Symbol → ℕ
sign_rank symbols.Open = 0
sign_rank symbol = cond (is_some (comparison_named symbol)) 1 5

-- at which level a token carries on what stands before it: 0 a call, 1 a comparison, 2 an IS test, 3 AND, 4 OR, 5 none
abbrev pub rank : Lexeme → ℕ
rank (Name w) =
    if bytes_eq w (codes "filter") then 0 else if bytes_eq w (codes "is") then 2 else if bytes_eq w (codes "and") then 3
    else if bytes_eq w (codes "or") then 4 else 5
rank (Sign s) = sign_rank s
rank (Integer z) = 5
rank (Text s) = 5

abbrev pub StopsAt : ℕ → List Lexeme → Type 0
StopsAt k [] = Unit {0}
StopsAt k (t ∷ ts) = k ≤ rank t

pub record Stops (k : ℕ) (rest : List Lexeme) : Type 0 where
  pub at : StopsAt k rest

later_at : (j k : ℕ) (rest : List Lexeme) → j ≤ k → StopsAt k rest → StopsAt j rest
later_at j k [] le h = tt {0}
later_at j k (t ∷ ts) le h = omega (arith, le, h)

later : (j k : ℕ) (rest : List Lexeme) → j ≤ k → Stops k rest → Stops j rest
later j k rest le h = record { at = later_at j k rest le h.at }

pub no_mark : (tok : Lexeme) (test : Lexeme → Bool) → ((t : Lexeme) → test t ≡ true → t ≡ tok) → (k : ℕ) (rest : List Lexeme) → rank tok < k
    → Stops k rest → after test rest ≡ None
no_mark tok test law k [] lt h = refl
no_mark tok test law k (t ∷ ts) lt h = go (test t) refl
  where
    go : (b : Bool) → test t ≡ b → after test (t ∷ ts) ≡ None
    go false e = rw e refl
    go true e = let same : rank t ≡ rank tok = ap rank (law t e) in absurd (omega (arith, same, lt, h.at))

pub no_word : (w : List ℕ) (k : ℕ) (rest : List Lexeme) → rank (Name w) < k → Stops k rest → after (is_word w) rest ≡ None
no_word w k rest lt h = no_mark (Name w) (is_word w) (the_word w) k rest lt h

no_comparison_at : (o : Option Comparison) (ts : List Lexeme) → 2 ≤ cond (is_some o) 1 5 → with_rest o ts ≡ None
no_comparison_at None ts h = refl
no_comparison_at (Some c) ts h = absurd (omega (arith, h))

no_comparison_sign : (s : Symbol) (ts : List Lexeme) → 2 ≤ sign_rank s → with_rest (comparison_named s) ts ≡ None
unfolding sign_rank comparison_named
no_comparison_sign symbols.Open ts h = refl
no_comparison_sign symbol ts h = no_comparison_at (comparison_named symbol) ts h

no_comparison : (rest : List Lexeme) → Stops 2 rest → after_comparison rest ≡ None
no_comparison [] h = refl
no_comparison (Name w ∷ ts) h = refl
no_comparison (Integer z ∷ ts) h = refl
no_comparison (Text s ∷ ts) h = refl
no_comparison (Sign s ∷ ts) h = no_comparison_sign s ts h.at

no_opening : (rest : List Lexeme) → Stops 1 rest → after (is_sign symbols.Open) rest ≡ None
unfolding sign_rank comparison_named
no_opening rest h = no_mark opening (is_sign symbols.Open) (the_sign symbols.Open) 1 rest (omega arith) h

closing_stops : (k : ℕ) (rest : List Lexeme) → k ≤ 5 → Stops k (closing ∷ rest)
unfolding sign_rank comparison_named
closing_stops k rest le = record { at = le }

-- ---- operands without a condition inside

pub column_reads : (inner : Inner) (w : List ℕ) (o : Option Function) (rest : List Lexeme) → Stops 1 rest
    → function_or_column inner w o rest ≡ Ok (form.Column w, rest)
column_reads inner w None rest h = refl
column_reads inner w (Some f) rest h = rw (no_opening rest h) refl

pub not_this : (w v : List ℕ) → is_reserved w ≡ false → is_reserved v ≡ true → bytes_eq w v ≡ false
not_this w v free taken = go (bytes_eq w v) refl
  where
    go : (b : Bool) → bytes_eq w v ≡ b → bytes_eq w v ≡ false
    go false e = e
    go true e = let same : is_reserved w ≡ true = rw (same_bytes w v e) taken in absurd cc

true_taken : is_reserved (codes "true") ≡ true
unfolding is_reserved
true_taken = refl

false_taken : is_reserved (codes "false") ≡ true
unfolding is_reserved
false_taken = refl

null_taken : is_reserved (codes "null") ≡ true
unfolding is_reserved
null_taken = refl

pub word_free : (inner : Inner) (w : List ℕ) (ts : List Lexeme) → is_reserved w ≡ false → word_at inner w ts
    ≡ function_or_column inner w (function_named w) ts
unfolding word_at
word_free inner w ts free = rw (
  not_this w (codes "true") free true_taken,
  not_this w (codes "false") free false_taken,
  not_this w
      (codes "null") free null_taken,
  free,
) refl

argument_reads : {f : Function} {us : List Lexeme} {c : Function × Option (List ℕ)} → IsCallArgument f us c → (rest : List Lexeme)
    → argument_at f (us ++ rest) ≡ Ok (c, rest)
unfolding argument_at symbol_number
argument_reads grammar.all_rows rest = refl
argument_reads (grammar.a_column {f = f} {w = w} free) rest = rw (none (is_count f), free) refl
  where
    none : (b : Bool) → cond b (after (is_sign symbols.Star) (Name w ∷ rest)) None ≡ None
    none true = refl
    none false = refl

word_tests : (t : Test) (x : Named) (rest : List Lexeme) → tested x (word (test_word t) ∷ rest) ≡ Ok (form.Is t x, rest)
unfolding tested looked_for
word_tests Is_null x rest = refl
word_tests t x rest = refl

word_tests_not : (t : Test) (x : Named) (rest : List Lexeme) → tested x (word (codes "not") ∷ word (test_word t) ∷ rest)
    ≡ Ok (form.Is_not t x, rest)
unfolding tested looked_for
word_tests_not Is_null x rest = refl
word_tests_not t x rest = refl

test_reads : {us : List Lexeme} {t : Test} → IsTest us t → (x : Named) (rest : List Lexeme) → tested x (us ++ rest) ≡ Ok (form.Is t x, rest)
test_reads (grammar.for_word t) x rest = word_tests t x rest

not_test_reads : {us : List Lexeme} {t : Test} → IsTest us t → (x : Named) (rest : List Lexeme)
    → tested x (word (codes "not") ∷ (us ++ rest)) ≡ Ok (form.Is_not t x, rest)
not_test_reads (grammar.for_word t) x rest = word_tests_not t x rest

-- ---- the whole grammar

-- the filter's turn, behind a call's parentheses
no_filter : (inner : Inner) (c : Function × Option (List ℕ)) (rest : List Lexeme) → Stops 1 rest → filter_at inner c rest
    ≡ Ok (form.Call c.0 c.1, rest)
unfolding filter_at
no_filter inner c rest h = rw (no_word (codes "filter") 1 rest (omega arith) h) refl

a_filter : (inner : Inner) (c : Function × Option (List ℕ)) (vs rest : List Lexeme) (x : Named)
    → inner.inside inner.limit (vs ++ closing ∷ rest) ≡ Ok (x, closing ∷ rest)
    → filter_at inner c (word (codes "filter") ∷ opening ∷ word (codes "where") ∷ (vs ++ closing ∷ rest))
    ≡ Ok (form.Call_where c.0 c.1 x, rest)
unfolding filter_at symbol_number
a_filter inner c vs rest x e = rw e refl

call_reads : (inner : Inner) (f : Function) (us tail : List Lexeme) (c : Function × Option (List ℕ)) → IsCallArgument f us c
    → call_at inner f (us ++ closing ∷ tail) ≡ filter_at inner c tail
unfolding call_at symbol_number
call_reads inner f us tail c p = rw (argument_reads p (closing ∷ tail)) refl

function_reads : (inner : Inner) (room : ℕ) (w : List ℕ) (f : Function) (us tail : List Lexeme) (c : Function × Option (List ℕ))
    → is_reserved w ≡ false → function_named w ≡ Some f → IsCallArgument f us c
    → prim_at inner room (Name w ∷ opening ∷ (us ++ closing ∷ tail)) ≡ filter_at inner c tail
unfolding prim_at symbol_number
function_reads inner room w f us tail c free is_f p =
    word_free inner w (opening ∷ (us ++ closing ∷ tail)) free ∙ rw is_f (call_reads inner f us tail c p)

an_enclosed : (inner : Inner) (room : ℕ) (ts rest : List Lexeme) (x : Named) → inner.inside room (ts ++ closing ∷ rest)
    ≡ Ok (x, closing ∷ rest) → prim_at inner (suc room) (opening ∷ (ts ++ closing ∷ rest)) ≡ Ok (x, rest)
unfolding prim_at enclosed_at symbol_number
an_enclosed inner room ts rest x e = rw e refl

-- a chain that has read its operand
begins : (r : Read Named) (x : Named) (rest : List Lexeme) (chain : ℕ → Named → List Lexeme → Read Named) → r ≡ Ok (x, rest)
    → (r >>= λ y. chain (length y.1) y.0 y.1) ≡ chain (length rest) x rest
begins r x rest chain e = rw e refl

no_test : (limit room : ℕ) (ts : List Lexeme) (x : Named) (rest : List Lexeme) → test_at (conditions limit) room (word (codes "not") ∷ ts)
    ≡ Ok (x, rest) → ⊥
unfolding test_at cmp_at prim_at word_at is_reserved
no_test limit room ts x rest e = cc

comparison_rank : (s : Symbol) (c : Comparison) → comparison_named s ≡ Some c → 1 ≤ sign_rank s
unfolding sign_rank comparison_named
comparison_rank symbols.Open c e = absurd cc
comparison_rank symbols.Close c e = absurd cc
comparison_rank symbols.Comma c e = absurd cc
comparison_rank symbols.Star c e = absurd cc
comparison_rank symbols.Semicolon c e = absurd cc
comparison_rank other c e = omega arith

-- an operand is no NOT
not_means_test : (limit room : ℕ) (ts : List Lexeme) (x : Named) (rest : List Lexeme) → test_at (conditions limit) room ts ≡ Ok (x, rest)
    → not_at (conditions limit) room ts ≡ Ok (x, rest)
unfolding not_at
not_means_test limit room [] x rest e = e
not_means_test limit room (t ∷ ts) x rest e = go (is_word (codes "not") t) refl
  where
    go : (b : Bool) → is_word (codes "not") t ≡ b → not_at (conditions limit) room (t ∷ ts) ≡ Ok (x, rest)
    go false h = rw h e
    go true h = absurd (no_test limit room ts x rest (subst (λ (v : Lexeme). test_at (conditions limit) room (v ∷ ts) ≡ Ok (x, rest))
        (the_word (codes "not") t h) e))

-- chains over the conditions inside
abbrev and_step : ℕ → ℕ → Named → List Lexeme → Read Named
and_step limit room = joined form.And (not_at (conditions limit) room)

abbrev or_step : ℕ → ℕ → Named → List Lexeme → Read Named
or_step limit room = joined form.Or (and_at (conditions limit) room)

abbrev tests : ℕ → Named → List Lexeme → Read Named
tests = chain_at (codes "is") tested

abbrev ands : ℕ → ℕ → ℕ → Named → List Lexeme → Read Named
ands limit room = chain_at (codes "and") (and_step limit room)

abbrev ors : ℕ → ℕ → ℕ → Named → List Lexeme → Read Named
ors limit room = chain_at (codes "or") (or_step limit room)

and_step_stays : (limit room : ℕ) (x : Named) → Stays (and_step limit room x)
and_step_stays limit room = joined_stays form.And (not_at (conditions limit) room) (not_stays limit room)

or_step_stays : (limit room : ℕ) (x : Named) → Stays (or_step limit room x)
or_step_stays limit room = joined_stays form.Or (and_at (conditions limit) room) (and_stays limit room)

and_done : (limit room : ℕ) (ts rest : List Lexeme) (x : Named) → Stops 4 rest → and_at (conditions limit) room (ts ++ rest)
    ≡ ands limit room (length rest) x rest → and_at (conditions limit) room (ts ++ rest) ≡ Ok (x, rest)
and_done limit room ts rest x h e = e ∙ chain_ends (codes "and") (and_step limit room) (length rest) x rest
    (no_word (codes "and") 4 rest (omega arith) h)

pub or_done : (limit room : ℕ) (ts rest : List Lexeme) (x : Named) → Stops 5 rest → or_at (conditions limit) room (ts ++ rest)
    ≡ ors limit room (length rest) x rest → condition_at limit room (ts ++ rest) ≡ Ok (x, rest)
or_done limit room ts rest x h e =
    condition_step limit room (ts ++ rest)
    ∙ (e ∙ chain_ends (codes "or") (or_step limit room) (length rest) x rest (no_word (codes "or") 5 rest (omega arith) h))

test_done : (limit room : ℕ) (ts rest : List Lexeme) (x : Named) → Stops 3 rest → test_at (conditions limit) room (ts ++ rest)
    ≡ tests (length rest) x rest → test_at (conditions limit) room (ts ++ rest) ≡ Ok (x, rest)
test_done limit room ts rest x h e = e ∙ chain_ends (codes "is") tested (length rest) x rest (no_word (codes "is") 3 rest (omega arith) h)

one_or : (limit room : ℕ) (x y : Named) (ts rest : List Lexeme) → and_at (conditions limit) room ts ≡ Ok (y, rest)
    → joined form.Or (and_at (conditions limit) room) x ts ≡ Ok (form.Or x y, rest)
one_or limit room x y ts rest e = rw e refl

one_and : (limit room : ℕ) (x y : Named) (ts rest : List Lexeme) → not_at (conditions limit) room ts ≡ Ok (y, rest)
    → joined form.And (not_at (conditions limit) room) x ts ≡ Ok (form.And x y, rest)
one_and limit room x y ts rest e = rw e refl

mutual
  unfolding or_at and_at not_at test_at cmp_at prim_at word_at comparison_named

  pub cond_reads : (limit : ℕ) {room : ℕ} {ts : List Lexeme} {x : Named} → IsCondition limit room ts x → (rest : List Lexeme) → Stops 4 rest
      → or_at (conditions limit) room (ts ++ rest) ≡ ors limit room (length rest) x rest
  cond_reads limit (grammar.only_and {room = room} {ts = ts} {x = x} p) rest h =
      begins (and_at (conditions limit) room (ts ++ rest)) x rest (ors limit room)
      (and_done limit room ts rest x h (and_reads limit p rest (later 3 4 rest (omega arith) h)))
  cond_reads limit (grammar.by_or {room = room} ts us {x = x} {y = y} p q) rest h =
      chain_goes_on (codes "or") (or_step limit room) (or_step_stays limit room) ts us rest x (form.Or x y) (or_at (conditions limit) room)
      refl
      (one_or limit room x y (us ++ rest) rest (and_done limit room us rest y h (and_reads limit q rest (later 3 4 rest (omega arith) h))))
      (cond_reads limit p (word (codes "or") ∷ (us ++ rest)) (record { at = omega arith }))

  and_reads : (limit : ℕ) {room : ℕ} {ts : List Lexeme} {x : Named} → IsAnd limit room ts x → (rest : List Lexeme) → Stops 3 rest
      → and_at (conditions limit) room (ts ++ rest) ≡ ands limit room (length rest) x rest
  and_reads limit (grammar.only_not {room = room} {ts = ts} {x = x} p) rest h =
      begins (not_at (conditions limit) room (ts ++ rest)) x rest (ands limit room) (not_reads limit p rest h)
  and_reads limit (grammar.by_and {room = room} ts us {x = x} {y = y} p q) rest h =
      chain_goes_on (codes "and") (and_step limit room) (and_step_stays limit room) ts us rest x (form.And x y)
      (and_at (conditions limit) room) refl
      (one_and limit room x y (us ++ rest) rest (not_reads limit q rest h))
      (and_reads limit p (word (codes "and") ∷ (us ++ rest)) (record { at = omega arith }))

  not_reads : (limit : ℕ) {room : ℕ} {ts : List Lexeme} {x : Named} → IsNot limit room ts x → (rest : List Lexeme) → Stops 3 rest
      → not_at (conditions limit) room (ts ++ rest) ≡ Ok (x, rest)
  not_reads limit (grammar.only_tested {room = room} {ts = ts} {x = x} p) rest h =
      not_means_test limit room (ts ++ rest) x rest
      (test_done limit room ts rest x h (tested_reads limit p rest (later 2 3 rest (omega arith) h)))
  not_reads limit (grammar.by_not {room = room} {ts = ts} {x = x} p) rest h = rw (not_reads limit p rest h) refl

  tested_reads : (limit : ℕ) {room : ℕ} {ts : List Lexeme} {x : Named} → IsTested limit room ts x → (rest : List Lexeme) → Stops 2 rest
      → test_at (conditions limit) room (ts ++ rest) ≡ tests (length rest) x rest
  tested_reads limit (grammar.only_compared {room = room} {ts = ts} {x = x} p) rest h =
      begins (cmp_at (conditions limit) room (ts ++ rest)) x rest tests (compared_reads limit p rest h)
  tested_reads limit (grammar.by_is {room = room} ts us {x = x} {t = t} p q) rest h =
      chain_goes_on (codes "is") tested tested_stays ts us rest x (form.Is t x) (test_at (conditions limit) room) refl (test_reads q x rest)
      (tested_reads limit p (word (codes "is") ∷ (us ++ rest)) (record { at = omega arith }))
  tested_reads limit (grammar.by_is_not {room = room} ts us {x = x} {t = t} p q) rest h =
      chain_goes_on (codes "is") tested tested_stays ts (word (codes "not") ∷ us) rest x (form.Is_not t x) (test_at (conditions limit) room)
      refl (not_test_reads q x rest)
      (tested_reads limit p (word (codes "is") ∷ word (codes "not") ∷ (us ++ rest)) (record { at = omega arith }))

  compared_reads : (limit : ℕ) {room : ℕ} {ts : List Lexeme} {x : Named} → IsCompared limit room ts x → (rest : List Lexeme) → Stops 2 rest
      → cmp_at (conditions limit) room (ts ++ rest) ≡ Ok (x, rest)
  compared_reads limit (grammar.only_operand {room = room} {ts = ts} {x = x} p) rest h =
      rw (operand_reads limit p rest (later 1 2 rest (omega arith) h), no_comparison rest h) refl
  compared_reads limit (grammar.by_comparison {room = room} ts us {x = x} {y = y} s {c = c} p e q) rest h =
      let left = operand_reads limit p (Sign s ∷ (us ++ rest)) (record { at = comparison_rank s c e }) in
      let right = operand_reads limit q rest (later 1 2 rest (omega arith) h) in
      rw (append_assoc ts (Sign s ∷ us) rest, left, e, right) refl

  operand_reads : (limit : ℕ) {room : ℕ} {ts : List Lexeme} {x : Named} → IsOperand limit room ts x → (rest : List Lexeme) → Stops 1 rest
      → prim_at (conditions limit) room (ts ++ rest) ≡ Ok (x, rest)
  operand_reads limit (grammar.column {w = w} free) rest h = word_free (conditions limit) w rest free
      ∙ column_reads (conditions limit) w (function_named w) rest h
  operand_reads limit (grammar.call {room = room} p) rest h = function_call_reads limit p room rest h
  operand_reads limit grammar.integer rest h = refl
  operand_reads limit grammar.text rest h = refl
  operand_reads limit grammar.true_word rest h = refl
  operand_reads limit grammar.false_word rest h = refl
  operand_reads limit grammar.null_word rest h = refl
  operand_reads limit (grammar.enclosed {room = room} ts {x = x} p) rest h =
      let inside = or_done limit room ts (closing ∷ rest) x (closing_stops 5 rest (omega arith))
      (cond_reads limit p (closing ∷ rest) (closing_stops 4 rest (omega arith))) in
      rw (append_assoc ts (closing ∷ []) rest) (an_enclosed (conditions limit) room ts rest x inside)

  pub function_call_reads : (limit : ℕ) {ts : List Lexeme} {x : Named} → IsCall limit ts x → (room : ℕ) (rest : List Lexeme) → Stops 1 rest
      → prim_at (conditions limit) room (ts ++ rest) ≡ Ok (x, rest)
  function_call_reads limit (grammar.plain {w = w} {f = f} us {c = c} free is_f p) room rest h =
      rw (append_assoc us (closing ∷ []) rest) (function_reads (conditions limit) room w f us rest c free is_f p
      ∙ no_filter (conditions limit) c rest h)
  function_call_reads limit (grammar.filtered {w = w} {f = f} us vs {c = c} {x = x} free is_f p q) room rest h =
      let inside = or_done limit limit vs (closing ∷ rest) x (closing_stops 5 rest (omega arith))
      (cond_reads limit q (closing ∷ rest) (closing_stops 4 rest (omega arith))) in
      rw (
        append_assoc us (closing ∷ word (codes "filter") ∷ opening ∷ word (codes "where") ∷ (vs ++ closing ∷ [])) rest,
        append_assoc vs
            (closing ∷ []) rest,
      )
      (function_reads (conditions limit) room w f us (word (codes "filter") ∷ opening ∷ word (codes "where") ∷ (vs ++ closing ∷ rest)) c
      free is_f p
      ∙ a_filter (conditions limit) c vs rest x inside)

-- a condition is read, whatever follows that doesn't carry it on
pub condition_reads : (limit room : ℕ) (ts : List Lexeme) (x : Named) → IsCondition limit room ts x → (rest : List Lexeme) → Stops 5 rest
    → condition_at limit room (ts ++ rest) ≡ Ok (x, rest)
condition_reads limit room ts x p rest h = or_done limit room ts rest x h (cond_reads limit p rest (later 4 5 rest (omega arith) h))

-- ---- the same as a loop reads it: what was read of some tokens, and what is left of them

abbrev pub Ors : ℕ → ℕ → List Lexeme → Named → List Lexeme → Type 0
Ors limit room ts = Goes (codes "or") (or_step limit room) (condition_at limit room ts)

abbrev pub Ands : ℕ → ℕ → List Lexeme → Named → List Lexeme → Type 0
Ands limit room ts = Goes (codes "and") (and_step limit room) (and_at (conditions limit) room ts)

abbrev pub Tests : ℕ → ℕ → List Lexeme → Named → List Lexeme → Type 0
Tests limit room ts = Goes (codes "is") tested (test_at (conditions limit) room ts)

pub or_begins : (limit room : ℕ) (ts : List Lexeme) (x : Named) (rest : List Lexeme) → and_at (conditions limit) room ts ≡ Ok (x, rest)
    → Ors limit room ts x rest
unfolding or_at
or_begins limit room ts x rest e = record { on = condition_step limit room ts ∙ rw e refl }

pub or_begins_not : (limit room : ℕ) (ts : List Lexeme) (f : Fault) → and_at (conditions limit) room ts ≡ Err f → condition_at limit room ts
    ≡ Err f
unfolding or_at
or_begins_not limit room ts f e = condition_step limit room ts ∙ rw e refl

pub or_goes : (limit room : ℕ) (ts : List Lexeme) (x y : Named) (rest behind next : List Lexeme) → Ors limit room ts x rest
    → after (is_word (codes "or")) rest ≡ Some behind
    → and_at (conditions limit) room behind ≡ Ok (y, next) → Ors limit room ts (form.Or x y) next
or_goes limit room ts x y rest behind next g e h = chain_goes (codes "or") (or_step limit room) (or_step_stays limit room)
    (condition_at limit room ts) x (form.Or x y) rest behind next g e (rw h refl)

pub or_stops : (limit room : ℕ) (ts : List Lexeme) (x : Named) (f : Fault) (rest behind : List Lexeme) → Ors limit room ts x rest
    → after (is_word (codes "or")) rest ≡ Some behind
    → and_at (conditions limit) room behind ≡ Err f → condition_at limit room ts ≡ Err f
or_stops limit room ts x f rest behind g e h = chain_fails (codes "or") (or_step limit room) (condition_at limit room ts) x f rest behind g
    e (rw h refl)

pub and_begins : (limit room : ℕ) (ts : List Lexeme) (x : Named) (rest : List Lexeme) → not_at (conditions limit) room ts ≡ Ok (x, rest)
    → Ands limit room ts x rest
unfolding and_at
and_begins limit room ts x rest e = record { on = rw e refl }

pub and_begins_not : (limit room : ℕ) (ts : List Lexeme) (f : Fault) → not_at (conditions limit) room ts ≡ Err f
    → and_at (conditions limit) room ts ≡ Err f
unfolding and_at
and_begins_not limit room ts f e = rw e refl

pub and_goes : (limit room : ℕ) (ts : List Lexeme) (x y : Named) (rest behind next : List Lexeme) → Ands limit room ts x rest
    → after (is_word (codes "and")) rest ≡ Some behind
    → not_at (conditions limit) room behind ≡ Ok (y, next) → Ands limit room ts (form.And x y) next
and_goes limit room ts x y rest behind next g e h = chain_goes (codes "and") (and_step limit room) (and_step_stays limit room)
    (and_at (conditions limit) room ts) x (form.And x y) rest behind next g e (rw h refl)

pub and_stops : (limit room : ℕ) (ts : List Lexeme) (x : Named) (f : Fault) (rest behind : List Lexeme) → Ands limit room ts x rest
    → after (is_word (codes "and")) rest ≡ Some behind
    → not_at (conditions limit) room behind ≡ Err f → and_at (conditions limit) room ts ≡ Err f
and_stops limit room ts x f rest behind g e h = chain_fails (codes "and") (and_step limit room) (and_at (conditions limit) room ts) x f rest
    behind g e (rw h refl)

pub test_begins : (limit room : ℕ) (ts : List Lexeme) (x : Named) (rest : List Lexeme) → cmp_at (conditions limit) room ts ≡ Ok (x, rest)
    → Tests limit room ts x rest
unfolding test_at
test_begins limit room ts x rest e = record { on = rw e refl }

pub test_begins_not : (limit room : ℕ) (ts : List Lexeme) (f : Fault) → cmp_at (conditions limit) room ts ≡ Err f
    → test_at (conditions limit) room ts ≡ Err f
unfolding test_at
test_begins_not limit room ts f e = rw e refl

pub test_goes : (limit room : ℕ) (ts : List Lexeme) (x y : Named) (rest behind next : List Lexeme) → Tests limit room ts x rest
    → after (is_word (codes "is")) rest ≡ Some behind
    → tested x behind ≡ Ok (y, next) → Tests limit room ts y next
test_goes limit room ts x y rest behind next = chain_goes (codes "is") tested tested_stays (test_at (conditions limit) room ts) x y rest
    behind next

pub test_stops : (limit room : ℕ) (ts : List Lexeme) (x : Named) (f : Fault) (rest behind : List Lexeme) → Tests limit room ts x rest
    → after (is_word (codes "is")) rest ≡ Some behind
    → tested x behind ≡ Err f → test_at (conditions limit) room ts ≡ Err f
test_stops limit room ts = chain_fails (codes "is") tested (test_at (conditions limit) room ts)
