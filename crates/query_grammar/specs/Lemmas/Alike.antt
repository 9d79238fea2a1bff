-- Reading the same tokens before two tails: it goes the same way until it passes the first token of the tails.
use Rattle.std.proofs.Common.{◌≡◌, ℕ, ◌≤◌, ◌<◌, Bool, true, false, cond, List, [], ◌∷◌, ◌++◌, length, Some, None, Ok, Err, arith}
use Rattle.std.proofs.lemmas.List.{length-append}
use Rattle.query_tokens.specs.Words.{Lexeme}
use Rattle.query_grammar.specs.Reading.{Read, Unexpected, Too_deep, ◌>>=◌, unexpected, after, choose, expect}
use Rattle.std.proofs.lemmas.Bool.Decides.{nat_tests}
use Rattle.std.proofs.lemmas.Grind.{common_steps}

-- two tails: both nothing, or both of one first token
pub data Tails : List Lexeme → List Lexeme → Type 0 where
  none : Tails [] []
  both : (t : Lexeme) (rest more : List Lexeme) → Tails (t ∷ rest) (t ∷ more)

-- what is read lies within so many of the last tokens
abbrev pub Within : {A : Type 0} → ℕ → Read A → Type 0
Within n (Ok x) = length x.1 ≤ n
Within n (Err (Unexpected left)) = left ≤ n
Within n (Err (Too_deep left)) = left ≤ n

pub record Stays {A : Type 0} (f : List Lexeme → Read A) : Type 0 where
  pub within : (ts : List Lexeme) → Within (length ts) (f ts)

-- reading has passed the first token of a tail
abbrev pub Past : {A : Type 0} → List Lexeme → Read A → Type 0
Past tail (Ok x) = length x.1 < length tail
Past tail (Err (Unexpected left)) = left < length tail
Past tail (Err (Too_deep left)) = left < length tail

-- what is read before two tails: the same, or from behind the first token of the tails on; or there is a parenthesis too
-- many, where the second reader may allow more of them (d)
pub data Alike {A : Type 0} (d : Bool) (one two : List Lexeme) : Read A → Read A → Type 0 where
  same : (x : A) (u : List Lexeme) → Alike d one two (Ok (x, u ++ one)) (Ok (x, u ++ two))
  refused : (u : List Lexeme) → Alike d one two (Err (Unexpected (length (u ++ one)))) (Err (Unexpected (length (u ++ two))))
  deep : (u : List Lexeme) → Alike d one two (Err (Too_deep (length (u ++ one)))) (Err (Too_deep (length (u ++ two))))
  past : (r s : Read A) → Past one r → Alike d one two r s
  deeper : d ≡ true → (left : ℕ) (s : Read A) → Alike d one two (Err (Too_deep left)) s

pub within_more : {A : Type 0} (m n : ℕ) (r : Read A) → m ≤ n → Within m r → Within n r
within_more m n (Ok x) le h = omega (arith, le, h)
within_more m n (Err (Unexpected left)) le h = omega (arith, le, h)
within_more m n (Err (Too_deep left)) le h = omega (arith, le, h)

pub past_within : {A : Type 0} (m : ℕ) (tail : List Lexeme) (r : Read A) → m < length tail → Within m r → Past tail r
past_within m tail (Ok x) le h = omega (arith, le, h)
past_within m tail (Err (Unexpected left)) le h = omega (arith, le, h)
past_within m tail (Err (Too_deep left)) le h = omega (arith, le, h)

pub within_bind : {A B : Type 0} (n : ℕ) (r : Read A) (f : A → List Lexeme → Read B) → Within n r → ((x : A) → Stays (f x))
    → Within n (r >>= λ x. f x.0 x.1)
within_bind n (Ok x) f h k = within_more (length x.1) n (f x.0 x.1) h ((k x.0).within x.1)
within_bind n (Err (Unexpected left)) f h k = h
within_bind n (Err (Too_deep left)) f h k = h

past_bind : {A B : Type 0} (tail : List Lexeme) (r : Read A) (f : A → List Lexeme → Read B) → Past tail r → ((x : A) → Stays (f x))
    → Past tail (r >>= λ x. f x.0 x.1)
past_bind tail (Ok x) f h k = past_within (length x.1) tail (f x.0 x.1) h ((k x.0).within x.1)
past_bind tail (Err (Unexpected left)) f h k = h
past_bind tail (Err (Too_deep left)) f h k = h

-- ---- steps, at the place that they begin

-- fewer tokens are left, also in front of the tail
fewer : (u v one : List Lexeme) → length (u ++ one) ≤ length (v ++ one) → length u ≤ length v
fewer u v one h = omega (arith, h, length-append u one, length-append v one)

pub alike_bind : {A B : Type 0} (d : Bool) (one two v : List Lexeme) (r s : Read A) (f g : A → List Lexeme → Read B) → Alike d one two r s
    → Within (length (v ++ one)) r
    → ((x : A) (u : List Lexeme) → length u ≤ length v → Alike d one two (f x (u ++ one)) (g x (u ++ two))) → ((x : A) → Stays (f x))
    → Alike d one two (r >>= λ x. f x.0 x.1) (s >>= λ x. g x.0 x.1)
alike_bind d one two v _ _ f g (same x u) h next k = next x u (fewer u v one h)
alike_bind d one two v _ _ f g (refused u) h next k = refused u
alike_bind d one two v _ _ f g (deep u) h next k = deep u
alike_bind d one two v _ _ f g (deeper t left s) h next k = deeper t left (s >>= λ x. g x.0 x.1)
alike_bind d one two v _ _ f g (past r s p) h next k = past (r >>= λ x. f x.0 x.1) (s >>= λ x. g x.0 x.1) (past_bind one r f p k)

chosen_in : {A : Type 0} (d : Bool) (one two u : List Lexeme) (b : Bool) (there also : List Lexeme → Read A) (otherwise besides : Read A)
    → Alike d one two (there (u ++ one)) (also (u ++ two)) → Alike d one two otherwise besides
    → Alike d one two (choose (cond b (Some (u ++ one)) None) there otherwise) (choose (cond b (Some (u ++ two)) None) also besides)
chosen_in d one two u true there also otherwise besides h k = h
chosen_in d one two u false there also otherwise besides h k = k

chosen_past : {A : Type 0} (d : Bool) (t : Lexeme) (rest more : List Lexeme) (b : Bool) (there also : List Lexeme
    → Read A) (otherwise besides : Read A)
    → Stays there → Alike d (t ∷ rest) (t ∷ more) otherwise besides
    → Alike d (t ∷ rest) (t ∷ more) (choose (cond b (Some rest) None) there otherwise) (choose (cond b (Some more) None) also besides)
chosen_past d t rest more true there also otherwise besides h k = past (there rest) (also more)
    (past_within (length rest) (t ∷ rest) (there rest) (omega arith) (h.within rest))
chosen_past d t rest more false there also otherwise besides h k = k

pub alike_choose : {A : Type 0} (d : Bool) (one two : List Lexeme) (tails : Tails one two) (test : Lexeme → Bool) (u : List Lexeme)
    (there also : List Lexeme → Read A) (otherwise besides : Read A)
    → ((v : List Lexeme) → length v < length u → Alike d one two (there (v ++ one)) (also (v ++ two))) → Stays there
    → Alike d one two otherwise besides
    → Alike d one two (choose (after test (u ++ one)) there otherwise) (choose (after test (u ++ two)) also besides)
alike_choose d one two tails test (t ∷ us) there also otherwise besides h s k = chosen_in d one two us (test t) there also otherwise besides
    (h us (omega arith)) k
alike_choose d _ _ none test [] there also otherwise besides h s k = k
alike_choose d _ _ (both t rest more) test [] there also otherwise besides h s k = chosen_past d t rest more (test t) there also otherwise
    besides s k

-- ---- readers

-- two readers read alike before two tails, where fewer than so many tokens stand before them
pub record Agree {A : Type 0} (d : Bool) (one two : List Lexeme) (most : ℕ) (f g : List Lexeme → Read A) : Type 0 where
  pub alike : (u : List Lexeme) → length u < most → Alike d one two (f (u ++ one)) (g (u ++ two))
  pub stays : Stays f
  pub stays_too : Stays g

pub done : {A : Type 0} (d : Bool) (one two : List Lexeme) (most : ℕ) (x : A) → Agree d one two most (λ ts. Ok (x, ts)) (λ ts. Ok (x, ts))
done d one two most x = record {
  alike = λ u lt. same x u;
  stays = record { within = λ ts. omega arith };
  stays_too = record { within = λ ts. omega arith };
}

pub refuses : {A : Type 0} (d : Bool) (one two : List Lexeme) (most : ℕ) → Agree {A = A} d one two most unexpected unexpected
refuses d one two most = record {
  alike = λ u lt. refused u;
  stays = record { within = λ ts. omega arith };
  stays_too = record { within = λ ts. omega arith };
}

pub binds : {A B : Type 0} (d : Bool) (one two : List Lexeme) (most : ℕ) (f g : List Lexeme → Read A) (h k : A → List Lexeme → Read B)
    → Agree d one two most f g → ((x : A) → Agree d one two most (h x) (k x))
    → Agree d one two most (λ ts. f ts >>= λ x. h x.0 x.1) (λ ts. g ts >>= λ x. k x.0 x.1)
binds d one two most f g h k a next = record {
  alike = λ u lt. alike_bind d one two u (f (u ++ one)) (g (u ++ two)) h k (a.alike u lt) (a.stays.within (u ++ one))
      (λ x v le. (next x).alike v (omega (arith, lt, le))) (λ x. (next x).stays);
  stays = record { within = λ ts. within_bind (length ts) (f ts) h (a.stays.within ts) (λ x. (next x).stays) };
  stays_too = record { within = λ ts. within_bind (length ts) (g ts) k (a.stays_too.within ts) (λ x. (next x).stays_too) };
}

pub within_chosen : {A : Type 0} (test : Lexeme → Bool) (there otherwise : List Lexeme → Read A) → Stays there → Stays otherwise
    → Stays (λ ts. choose (after test ts) there (otherwise ts))
within_chosen test there otherwise s h = grind (arith, nat_tests, common_steps)

pub chooses : {A : Type 0} (d : Bool) (one two : List Lexeme) (tails : Tails one two) (most : ℕ) (test : Lexeme
    → Bool) (there also otherwise besides : List Lexeme → Read A)
    → Agree d one two most there also → Agree d one two most otherwise besides
    → Agree d one two most (λ ts. choose (after test ts) there (otherwise ts)) (λ ts. choose (after test ts) also (besides ts))
chooses d one two tails most test there also otherwise besides a b = record {
  alike = λ u lt. alike_choose d one two tails test u there also (otherwise (u ++ one)) (besides (u ++ two))
      (λ v le. a.alike v (omega (arith, lt, le))) a.stays (b.alike u lt);
  stays = within_chosen test there otherwise a.stays b.stays;
  stays_too = within_chosen test also besides a.stays_too b.stays_too;
}

-- a token that must stand here, and what follows it
pub expects : {A : Type 0} (d : Bool) (one two : List Lexeme) (tails : Tails one two) (most : ℕ) (test : Lexeme → Bool) (f g : List Lexeme
    → Read A) → Agree d one two most f g
    → Agree d one two most (λ ts. expect test ts >>= λ x. f x.1) (λ ts. expect test ts >>= λ x. g x.1)
expects d one two tails most test f g a =
    binds d one two most (expect test) (expect test) (λ _. f) (λ _. g)
    (chooses d one two tails most test (λ rest. Ok (tt {0}, rest)) (λ rest. Ok (tt {0}, rest)) unexpected unexpected
    (done d one two most (tt {0})) (refuses d one two most))
    (λ _. a)

-- a reader's value put into another
pub maps : {A B : Type 0} (d : Bool) (one two : List Lexeme) (most : ℕ) (f g : List Lexeme → Read A) (h : A → B) → Agree d one two most f g
    → Agree d one two most (λ ts. f ts >>= λ x. Ok (h x.0, x.1)) (λ ts. g ts >>= λ x. Ok (h x.0, x.1))
maps d one two most f g h a = binds d one two most f g (λ x ts. Ok (h x, ts)) (λ x ts. Ok (h x, ts)) a (λ x. done d one two most (h x))
