-- Chains and lists, as they are read in a loop: what reading the whole is, from what is still to be read.
use Rattle.std.proofs.Common.{◌≡◌, ℕ, zero, suc, ◌≤◌, Bool, true, false, cond, List, [], ◌∷◌, ◌++◌, length, Option, Some, None, Ok, Err}
use Rattle.std.proofs.Common.{refl, sym, ap, ◌∙◌, append_assoc, arith}
use Rattle.std.specs.Str.{bytes_eq}
use Rattle.std.proofs.lemmas.List.{append-nil, length-append}
use Rattle.query_tokens.specs.declared.word.Symbol.TheVariants as symbols
use Rattle.query_grammar.specs.Lemmas.Words.{Lexeme, is_word, is_sign, Named, word, Read, after, choose, chain_at, list_at}
use Rattle.query_grammar.specs.Reading.{Fault, ◌>>=◌}
use Rattle.query_grammar.specs.Lemmas.Alike.{Within, Stays}
use Rattle.std.proofs.lemmas.Bool.Decides.{nat_tests}
use Rattle.std.proofs.lemmas.Grind.{common_steps}

-- a token that passes a test is the first of one more
one_token : (b : Bool) (t : Lexeme) (us behind : List Lexeme) → cond b (Some us) None ≡ Some behind → us ≡ behind
one_token true t us behind e = cc
one_token false t us behind e = absurd cc

pub behind_token : (test : Lexeme → Bool) (ts behind : List Lexeme) → after test ts ≡ Some behind → length ts ≡ suc (length behind)
behind_token test [] behind e = absurd cc
behind_token test (t ∷ us) behind e = ap (λ (v : List Lexeme). suc (length v)) (one_token (test t) t us behind e)

-- ---- chains

pub chain_ends : (operator : List ℕ) (step : Named → List Lexeme → Read Named) (m : ℕ) (x : Named) (rest : List Lexeme)
    → after (is_word operator) rest ≡ None
    → chain_at operator step m x rest ≡ Ok (x, rest)
unfolding chain_at
chain_ends operator step zero x rest h = refl
chain_ends operator step (suc m) x rest h = rw h refl

-- any number of turns that is enough gives the same
next_turns : (operator : List ℕ) (step : Named → List Lexeme → Read Named) (k m n : ℕ) (r : Read Named) → Within n r
    → ((y : Named) (us : List Lexeme) → length us ≤ n → chain_at operator step k y us ≡ chain_at operator step m y us)
    → (r >>= λ y. chain_at operator step k y.0 y.1) ≡ (r >>= λ y. chain_at operator step m y.0 y.1)
next_turns operator step k m n (Ok y) h e = e y.0 y.1 h
next_turns operator step k m n (Err f) h e = refl

same_turn : (operator : List ℕ) (step : Named → List Lexeme → Read Named) (k m : ℕ) (b : Bool) (x : Named) (t : Lexeme) (us : List Lexeme)
    → (step x us >>= λ y. chain_at operator step k y.0 y.1) ≡ (step x us >>= λ y. chain_at operator step m y.0 y.1)
    → choose (cond b (Some us) None) (λ rest. step x rest >>= λ y. chain_at operator step k y.0 y.1) (Ok (x, t ∷ us))
    ≡ choose (cond b (Some us) None) (λ rest. step x rest >>= λ y. chain_at operator step m y.0 y.1) (Ok (x, t ∷ us))
same_turn operator step k m true x t us e = e
same_turn operator step k m false x t us e = refl

enough_turns : (operator : List ℕ) (step : Named → List Lexeme → Read Named) → ((x : Named) → Stays (step x))
    → (k m : ℕ) (x : Named) (ts : List Lexeme) → length ts ≤ k → length ts ≤ m
    → chain_at operator step k x ts ≡ chain_at operator step m x ts
unfolding chain_at
enough_turns operator step h zero zero x ts le also = refl
enough_turns operator step h zero (suc m) x [] le also = refl
enough_turns operator step h zero (suc m) x (t ∷ us) le also = absurd (omega (arith, le))
enough_turns operator step h (suc k) zero x [] le also = refl
enough_turns operator step h (suc k) zero x (t ∷ us) le also = absurd (omega (arith, also))
enough_turns operator step h (suc k) (suc m) x [] le also = refl
enough_turns operator step h (suc k) (suc m) x (t ∷ us) le also =
    same_turn operator step k m (is_word operator t) x t us
    (next_turns operator step k m (length us) (step x us) ((h x).within us) (λ y vs short. enough_turns operator step h k m y vs
    (omega (arith, le, short)) (omega (arith, also, short))))

-- what reading the whole is, where a chain goes on behind its front
pub chain_goes_on : (operator : List ℕ) (step : Named → List Lexeme → Read Named) → ((x : Named) → Stays (step x))
    → (ts us rest : List Lexeme) (x y : Named) (whole : List Lexeme → Read Named)
    → bytes_eq operator operator ≡ true → step x (us ++ rest) ≡ Ok (y, rest)
    → whole (ts ++ word operator ∷ (us ++ rest)) ≡ chain_at operator step (length (word operator ∷ (us ++ rest))) x (word operator
    ∷ (us ++ rest))
    → whole ((ts ++ word operator ∷ us) ++ rest) ≡ chain_at operator step (length rest) y rest
unfolding chain_at
chain_goes_on operator step h ts us rest x y whole own e c =
    let one : chain_at operator step (suc (length (us ++ rest))) x (word operator ∷ (us ++ rest))
    ≡ chain_at operator step (length (us ++ rest)) y rest = rw (own, e) refl in
    let less : length rest ≤ length (us ++ rest) = omega (arith, length-append us rest) in
    rw (append_assoc ts (word operator ∷ us) rest) (c
    ∙ (one ∙ enough_turns operator step h (length (us ++ rest)) (length rest) y rest less (omega arith)))

pub record Goes (operator : List ℕ) (step : Named → List Lexeme → Read Named) (whole : Read Named) (x : Named) (rest : List Lexeme) :
    Type 0 where
  pub on : whole ≡ chain_at operator step (length rest) x rest

pub chain_done : (operator : List ℕ) (step : Named → List Lexeme → Read Named) (whole : Read Named) (x : Named) (rest : List Lexeme)
    → Goes operator step whole x rest → after (is_word operator) rest ≡ None → whole ≡ Ok (x, rest)
unfolding chain_at
chain_done operator step whole x rest g e = grind (arith, nat_tests, common_steps)

one_turn : (operator : List ℕ) (step : Named → List Lexeme → Read Named) (n : ℕ) (x : Named) (rest behind : List Lexeme)
    → after (is_word operator) rest ≡ Some behind
    → chain_at operator step (suc n) x rest ≡ (step x behind >>= λ y. chain_at operator step n y.0 y.1)
unfolding chain_at
one_turn operator step n x rest behind e = rw e refl

pub chain_turn : (operator : List ℕ) (step : Named → List Lexeme → Read Named) (whole : Read Named) (x : Named) (rest behind : List Lexeme)
    → Goes operator step whole x rest → after (is_word operator) rest ≡ Some behind
    → whole ≡ (step x behind >>= λ y. chain_at operator step (length behind) y.0 y.1)
chain_turn operator step whole x rest behind g e =
    let size = behind_token (is_word operator) rest behind e in
    g.on ∙ (ap (λ n. chain_at operator step n x rest) size ∙ one_turn operator step (length behind) x rest behind e)

pub chain_goes : (operator : List ℕ) (step : Named → List Lexeme → Read Named) → ((x : Named) → Stays (step x))
    → (whole : Read Named) (x y : Named) (rest behind next : List Lexeme) → Goes operator step whole x rest
    → after (is_word operator) rest ≡ Some behind → step x behind ≡ Ok (y, next) → Goes operator step whole y next
chain_goes operator step stays whole x y rest behind next g e s =
    let short : length next ≤ length behind = shorter (step x behind) y next behind s ((stays x).within behind) in
    record {
      on = chain_turn operator step whole x rest behind g e
          ∙ (rw s refl ∙ enough_turns operator step stays (length behind) (length next) y next short (omega arith));
    }
  where
    shorter : (r : Read Named) (y : Named) (next behind : List Lexeme) → r ≡ Ok (y, next) → Within (length behind) r
        → length next ≤ length behind
    shorter (Ok z) y next behind e h = let same : z.1 ≡ next = cc in rw (sym same) h
    shorter (Err f) y next behind e h = absurd cc

pub chain_fails : (operator : List ℕ) (step : Named → List Lexeme → Read Named) (whole : Read Named) (x : Named) (f : Fault)
    (rest behind : List Lexeme) → Goes operator step whole x rest
    → after (is_word operator) rest ≡ Some behind → step x behind ≡ Err f → whole ≡ Err f
chain_fails operator step whole x f rest behind g e s = chain_turn operator step whole x rest behind g e ∙ rw s refl

-- ---- lists

-- the members behind one that was read
abbrev pub others_at : {A : Type 0} → (List Lexeme → Read A) → ℕ → List Lexeme → Read (List A)
others_at one zero ts = Ok ([], ts)
others_at one (suc turns) ts = choose (after (is_sign symbols.Comma) ts) (λ rest. list_at one turns rest) (Ok ([], ts))

-- members before others
abbrev pub with_members : {A : Type 0} → List A → Read (List A) → Read (List A)
with_members xs r = r >>= λ ys. Ok (xs ++ ys.0, ys.1)

joined_on : {A : Type 0} (x : A) (o : Option (List Lexeme)) (f : List Lexeme → Read (List A)) (ts : List Lexeme)
    → choose o (λ rest. f rest >>= λ xs. Ok (x ∷ xs.0, xs.1)) (Ok (x ∷ [], ts)) ≡ with_members (x ∷ []) (choose o f (Ok ([], ts)))
joined_on x None f ts = refl
joined_on {A = A} x (Some rest) f ts = go (f rest)
  where
    go : (r : Read (List A)) → (r >>= λ xs. Ok (x ∷ xs.0, xs.1)) ≡ with_members (x ∷ []) r
    go (Ok y) = refl
    go (Err e) = refl

one_then : {A : Type 0} (one : List Lexeme → Read A) (turns : ℕ) (ts : List Lexeme) (x : A) (rest : List Lexeme) → one ts ≡ Ok (x, rest)
    → list_at one turns ts ≡ with_members (x ∷ []) (others_at one turns rest)
unfolding list_at
one_then one zero ts x rest e = rw e refl
one_then one (suc turns) ts x rest e = rw e (joined_on x (after (is_sign symbols.Comma) rest) (list_at one turns) rest)

one_fault : {A : Type 0} (one : List Lexeme → Read A) (turns : ℕ) (ts : List Lexeme) (f : Fault) → one ts ≡ Err f → list_at one turns ts
    ≡ Err f
unfolding list_at
one_fault one zero ts f e = rw e refl
one_fault one (suc turns) ts f e = rw e refl

shorter : {A : Type 0} (r : Read A) (y : A) (next behind : List Lexeme) → r ≡ Ok (y, next) → Within (length behind) r
    → length next ≤ length behind
shorter (Ok z) y next behind e h = let same : z.1 ≡ next = cc in rw (sym same) h
shorter (Err f) y next behind e h = absurd cc

list_turns : {A : Type 0} (one : List Lexeme → Read A) → Stays one → (k m n : ℕ) (r : Read A) (ts : List Lexeme) → one ts ≡ r
    → length ts ≤ n
    → ((us : List Lexeme) → length us ≤ n → others_at one k us ≡ others_at one m us) → list_at one k ts ≡ list_at one m ts
list_turns one h k m n (Ok x) ts e le same =
    one_then one k ts x.0 x.1 e
    ∙ (ap (λ r. with_members (x.0 ∷ []) r) (same x.1 (omega (arith, le, shorter (one ts) x.0 x.1 ts e (h.within ts))))
    ∙ sym (one_then one m ts x.0 x.1 e))
list_turns one h k m n (Err f) ts e le same = one_fault one k ts f e ∙ sym (one_fault one m ts f e)

other_turns : {A : Type 0} (one : List Lexeme → Read A) (k m : ℕ) (b : Bool) (us ts : List Lexeme) → list_at one k us ≡ list_at one m us
    → choose (cond b (Some us) None) (λ rest. list_at one k rest) (Ok ([], ts))
    ≡ choose (cond b (Some us) None) (λ rest. list_at one m rest) (Ok ([], ts))
other_turns one k m true us ts e = e
other_turns one k m false us ts e = refl

enough_others : {A : Type 0} (one : List Lexeme → Read A) → Stays one → (k m : ℕ) (ts : List Lexeme) → length ts ≤ k → length ts ≤ m
    → others_at one k ts ≡ others_at one m ts
enough_others one h zero zero ts le also = refl
enough_others one h zero (suc m) [] le also = refl
enough_others one h zero (suc m) (t ∷ us) le also = absurd (omega (arith, le))
enough_others one h (suc k) zero [] le also = refl
enough_others one h (suc k) zero (t ∷ us) le also = absurd (omega (arith, also))
enough_others one h (suc k) (suc m) [] le also = refl
enough_others one h (suc k) (suc m) (t ∷ us) le also =
    other_turns one k m (is_sign symbols.Comma t) us (t ∷ us)
    (list_turns one h k m (length us) (one us) us refl (omega arith) (λ vs short. enough_others one h k m vs (omega (arith, le, short))
    (omega (arith, also, short))))

pub record Lists {A : Type 0} (one : List Lexeme → Read A) (whole : Read (List A)) (xs : List A) (rest : List Lexeme) : Type 0 where
  pub on : whole ≡ with_members xs (others_at one (length rest) rest)

pub list_begins : {A : Type 0} (one : List Lexeme → Read A) → Stays one → (ts : List Lexeme) (x : A) (rest : List Lexeme) → one ts
    ≡ Ok (x, rest) → Lists one (list_at one (length ts) ts) (x ∷ []) rest
list_begins one h ts x rest e =
    let short = shorter (one ts) x rest ts e (h.within ts) in
    record {
      on = one_then one (length ts) ts x rest e
          ∙ ap (λ r. with_members (x ∷ []) r) (enough_others one h (length ts) (length rest) rest short (omega arith));
    }

pub list_fails : {A : Type 0} (one : List Lexeme → Read A) (ts : List Lexeme) (f : Fault) → one ts ≡ Err f → list_at one (length ts) ts
    ≡ Err f
list_fails one ts f e = one_fault one (length ts) ts f e

members_join : {A : Type 0} (xs : List A) (x : A) (r : Read (List A)) → with_members xs (with_members (x ∷ []) r)
    ≡ with_members (xs ++ x ∷ []) r
members_join xs x (Ok y) = let e = sym (append_assoc xs (x ∷ []) y.0) in λ i. Ok (e i, y.1)
members_join xs x (Err f) = refl

list_turn : {A : Type 0} (one : List Lexeme → Read A) (whole : Read (List A)) (xs : List A) (rest behind : List Lexeme)
    → Lists one whole xs rest → after (is_sign symbols.Comma) rest ≡ Some behind
    → whole ≡ with_members xs (list_at one (length behind) behind)
list_turn one whole xs rest behind g e = grind (arith, nat_tests, common_steps)

pub list_goes : {A : Type 0} (one : List Lexeme → Read A) → Stays one
    → (whole : Read (List A)) (xs : List A) (x : A) (rest behind next : List Lexeme) → Lists one whole xs rest
    → after (is_sign symbols.Comma) rest ≡ Some behind → one behind ≡ Ok (x, next) → Lists one whole (xs ++ x ∷ []) next
list_goes one h whole xs x rest behind next g e s =
    let short = shorter (one behind) x next behind s (h.within behind) in
    record {
      on = list_turn one whole xs rest behind g e
          ∙ (ap (λ r. with_members xs r) (one_then one (length behind) behind x next s
          ∙ ap (λ r. with_members (x ∷ []) r) (enough_others one h (length behind) (length next) next short (omega arith)))
          ∙ members_join xs x (others_at one (length next) next));
    }

pub list_stops : {A : Type 0} (one : List Lexeme → Read A) (whole : Read (List A)) (xs : List A) (f : Fault) (rest behind : List Lexeme)
    → Lists one whole xs rest
    → after (is_sign symbols.Comma) rest ≡ Some behind → one behind ≡ Err f → whole ≡ Err f
list_stops one whole xs f rest behind g e s = list_turn one whole xs rest behind g e
    ∙ ap (λ r. with_members xs r) (list_fails one behind f s)

none_left : {A : Type 0} (one : List Lexeme → Read A) (n : ℕ) (ts : List Lexeme) → after (is_sign symbols.Comma) ts ≡ None
    → others_at one n ts ≡ Ok ([], ts)
none_left one zero ts e = refl
none_left one (suc n) ts e = rw e refl

pub list_done : {A : Type 0} (one : List Lexeme → Read A) (whole : Read (List A)) (xs : List A) (rest : List Lexeme)
    → Lists one whole xs rest → after (is_sign symbols.Comma) rest ≡ None → whole ≡ Ok (xs, rest)
list_done one whole xs rest g e = g.on ∙ (ap (λ r. with_members xs r) (none_left one (length rest) rest e)
    ∙ (λ i. Ok (append-nil xs i, rest)))
