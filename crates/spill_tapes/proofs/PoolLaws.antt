-- Pages that move between tapes and the free ones.
use Rattle.std.specs.Prelude.{◌≡◌, refl, ℕ, ◌+◌, ◌^◌, ◌<◌, ◌≤◌, List, [], ◌∷◌, ◌++◌, length}
use Rattle.std.proofs.Common.{inl, inr, ◌∙◌, ap, arith, length-append}
use Rattle.std.proofs.lemmas.Bool.Decides.{nat_tests}
use Rattle.spill_tapes.specs.Pages.{PoolState, IsPool, HavePages, given_back, once, times, below, IsApart, IsBalanced, IsFresh, FreesNone}
use Rattle.spill_tapes.specs.Pages.{UsesAgain, TakesPages, GivesBack}
use Rattle.std.proofs.lemmas.Grind.{common_steps}

pub times-append : (page : ℕ) (xs ys : List ℕ) → times page (xs ++ ys) ≡ times page xs + times page ys
times-append page [] ys = omega arith
times-append page (x ∷ xs) ys = omega (arith, times-append page xs ys)

pub times_push : (page x : ℕ) (xs : List ℕ) → times page (xs ++ x ∷ []) ≡ times page xs + once page x
times_push page x xs = let e : times page (xs ++ x ∷ []) ≡ times page xs + times page (x ∷ []) = times-append page xs (x ∷ []) in omega
    (arith, e)

-- a page is given out or not
pub below_less : (page count : ℕ) → 0 < below page count → page < count
below_less page count h = grind (arith, nat_tests)

pub same_one : (page : ℕ) → once page page ≡ 1
same_one page = grind (arith, nat_tests)

-- nothing moved
-- one move after the other
pub balanced_twice : (a b c : PoolState) (xs ys zs : List ℕ) → IsBalanced a xs b ys → IsBalanced b ys c zs → IsBalanced a xs c zs
balanced_twice a b c xs ys zs first second = grind (arith, nat_tests, common_steps)

pub frees_twice : (a b c : PoolState) → FreesNone a b → FreesNone b c → FreesNone a c
frees_twice a b c first second = λ page. omega (arith, first page, second page)

pub apart_page : (pool : PoolState) (pages : List ℕ) (page : ℕ) → IsApart pool pages → 0 < times page pages → (page < pool.count)
    × (times page pool.free ≡ 0)
apart_page pool pages page apart there = grind (arith, nat_tests, common_steps)

-- what was taken was fresh
pub fresh_first : (a : PoolState) (page : ℕ) (rest : List ℕ) → a.free ≡ page ∷ rest → IsFresh a page
fresh_first a page rest free none = grind (arith, nat_tests, common_steps)

pub fresh_new : (a : PoolState) (page : ℕ) → page ≡ a.count → IsFresh a page
fresh_new a page is none = omega (arith, is)

pub small_first : (a : PoolState) (pages : List ℕ) (page : ℕ) (rest : List ℕ) → IsPool a → IsApart a pages → a.free ≡ page ∷ rest
    → page < 2 ^ 49
small_first a pages page rest pool apart free =
    let e : times page a.free ≡ once page page + times page rest = ap (times page) free in
    let at : times page a.free + times page pages ≤ below page a.count = apart page in
    let given : page < a.count = below_less page a.count (omega (arith, e, same_one page, at)) in
    omega (arith, given, pool.few)

-- a page that was read is freed
pub balanced_back : (a : PoolState) (pages pages' : List ℕ) (page : ℕ) → pages ≡ page ∷ pages'
    → IsBalanced a pages (given_back a page) pages'
balanced_back a pages pages' page first =
    let gives : (p : ℕ) → times p (a.free ++ page ∷ []) ≡ times p a.free + once p page = λ p. times_push p page a.free in
    let less : (p : ℕ) → times p pages ≡ once p page + times p pages' = λ p. ap (times p) first in
    let long : length (a.free ++ page ∷ []) ≡ length a.free + 1 = length-append a.free (page ∷ []) in
    let short : length pages ≡ length pages' + 1 = omega (arith, ap length first) in
    record {
      each = λ p. omega (arith, gives p, less p);
      all = omega arith;
      grows = omega arith;
    }

pub apart_first : (a : PoolState) (pages pages' : List ℕ) (page : ℕ) → IsPool a → IsApart a pages → pages ≡ page ∷ pages' → page < 2 ^ 49
apart_first a pages pages' page pool apart first =
    let e : times page pages ≡ once page page + times page pages' = ap (times page) first in
    let given : page < a.count = (apart_page a pages page apart (omega (arith, e, same_one page))).0 in
    omega (arith, given, pool.few)

-- all pages of a tape are given back
pub balanced_all : (a b : PoolState) (pages pages' : List ℕ) → b.free ≡ a.free ++ pages → b.count ≡ a.count → pages' ≡ []
    → IsBalanced a pages b pages'
balanced_all a b pages pages' free count none =
    let gives : (p : ℕ) → times p b.free ≡ times p a.free + times p pages = λ p. ap (times p) free ∙ times-append p a.free pages in
    let left : (p : ℕ) → times p pages' ≡ 0 = λ p. ap (times p) none in
    let same : (p : ℕ) → below p b.count ≡ below p a.count = λ p. ap (below p) count in
    let long : length b.free ≡ length a.free + length pages = ap length free ∙ length-append a.free pages in
    let short : length pages' ≡ 0 = ap length none in
    record {
      each = λ p. omega (arith, gives p, left p, same p);
      all = omega arith;
      grows = omega arith;
    }

-- where none is free and none becomes free, none is
none_freed : (free free' : List ℕ) → ((page : ℕ) → times page free' ≤ times page free) → free ≡ [] → free' ≡ []
none_freed free [] fewer none = refl
none_freed free (page ∷ rest) fewer none =
    let e : times page free ≡ 0 = ap (times page) none in
    let at : once page page + times page rest ≤ times page free = fewer page in
    absurd (omega (arith, e, at, same_one page))

pub again_twice : (a b c : PoolState) → FreesNone b c → UsesAgain a b → UsesAgain b c → UsesAgain a c
again_twice a b c frees first (inr none) = inr none
again_twice a b c frees (inl same) (inl same') = inl (same' ∙ same)
again_twice a b c frees (inr none) (inl same') = inr (none_freed b.free c.free frees none)

-- no page moved; and pages moved twice
pub takes_none : (pool : PoolState) (pages pages' : List ℕ) → HavePages pool pages → pages' ≡ pages → TakesPages pool pages pool pages'
takes_none pool pages pages' have same = grind (arith, nat_tests, common_steps)

pub takes_twice : (a b c : PoolState) (xs ys zs : List ℕ) → TakesPages a xs b ys → TakesPages b ys c zs → TakesPages a xs c zs
takes_twice a b c xs ys zs first second = record {
  pool = second.pool;
  balanced = balanced_twice a b c xs ys zs first.balanced second.balanced;
  frees = frees_twice a b c first.frees second.frees;
  again = again_twice a b c second.frees first.again second.again;
}

-- what is moved to no pages is moved to any
pub takes_more : (a b : PoolState) (xs ys : List ℕ) → TakesPages a [] b ys → TakesPages a xs b (xs ++ ys)
takes_more a b xs ys takes = record {
  pool = takes.pool;
  balanced = record {
    each = λ p. omega (arith, takes.balanced.each p, times-append p xs ys);
    all = omega (arith, takes.balanced.all, length-append xs ys);
    grows = takes.balanced.grows;
  };
  frees = takes.frees;
  again = takes.again;
}

-- a page that was read is freed
pub back : (a : PoolState) (pages pages' : List ℕ) (page : ℕ) → HavePages a pages → pages ≡ page ∷ pages'
    → GivesBack a pages (given_back a page) pages'
back a pages pages' page have first = record {
  pool = record { few = have.pool.few; room = have.pool.room };
  balanced = balanced_back a pages pages' page first;
  count = refl;
}
