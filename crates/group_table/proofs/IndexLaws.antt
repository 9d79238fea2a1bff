-- Buckets that are in use, and where they are found.
use Rattle.std.specs.Prelude.{◌≡◌, ◌≢◌, refl, ℕ, zero, suc, ◌+◌, ◌*◌, ◌<◌, ◌≤◌, ◌⊎◌, Bool, true, false, cond, List, Option, Some, None}
use Rattle.std.specs.Prelude.{length, is_some, IfSome}
use Rattle.std.proofs.Common.{inl, inr, sym, ◌∙◌, ap, subst, arith, add-one, rules}
use Rattle.std.proofs.lemmas.Bool.{cases_eq, cases_lt}
use Rattle.group_table.proofs.Words.{bucket_at, start_of, IsPath, IsIndex, Holds, Puts, HasAll, Bucket}
use Rattle.group_table.specs.Index.{in_use}

-- how many of the first n are in use where all are, and at most
pub all_in_use : (array : List ℕ) (n : ℕ) → ((place : ℕ) → place < n → is_some (bucket_at array place) ≡ true) → in_use array n ≡ n
unfolding in_use
all_in_use array zero all = refl
all_in_use array (suc n) all =
    ap (λ b. cond b (in_use array n + 1) (in_use array n)) (all n (omega arith))
    ∙ ap (λ m. m + 1) (all_in_use array n (λ place h. all place (omega (arith, h))))
    ∙ omega arith

pub at_most : (array : List ℕ) (n : ℕ) → in_use array n ≤ n
unfolding in_use
at_most array zero = omega arith
at_most array (suc n) = let few = at_most array n in elim (is_some (bucket_at array n)) as (λ b. cond b (in_use array n
    + 1) (in_use array n) ≤ suc n) [ true ↦ omega (arith, few) | false ↦ omega (arith, few) ]

-- one more place at which something holds
pub one_more : (P : ℕ → Type 0) (from n : ℕ) → ((place : ℕ) → from ≤ place → place < n → P place) → P n → (place : ℕ) → from ≤ place
    → place < n + 1 → P place
one_more P from n all last place low high = elim (cases_eq place n) [
  | inl same ↦ rw same last
  | inr differ ↦ all place low
      (omega (arith, high, differ))
]

-- where some bucket is free, not all are in use
pub not_all : (array : List ℕ) (count start : ℕ) → in_use array count < count
    → ((place : ℕ) → start ≤ place → place < count → is_some (bucket_at array place) ≡ true)
    → ((place : ℕ) → 0 ≤ place → place < start → is_some (bucket_at array place) ≡ true) → ⊥
not_all array count start room high low = omega (arith, room, all_in_use array count all)
  where
    all : (place : ℕ) → place < count → is_some (bucket_at array place) ≡ true
    all place h = elim (cases_lt place start) [ inl below ↦ low place (omega arith) below | inr above ↦ high place above h ]

-- ---- a bucket that is put where a free one was
below : (old new : List ℕ) (place n : ℕ) → ((other : ℕ) → other ≢ place → bucket_at new other ≡ bucket_at old other) → n ≤ place
    → in_use new n ≡ in_use old n
unfolding in_use
below old new place zero others low = refl
below old new place (suc n) others low =
    ap (λ b. cond (is_some b) (in_use new n + 1) (in_use new n)) (others n (λ same. omega (arith, low, same)))
    ∙ ap (λ m. cond (is_some (bucket_at old n)) (m + 1) m) (below old new place n others (omega (arith, low)))

more : (old new : List ℕ) (place n : ℕ) (b : Bucket) → place < n → bucket_at old place ≡ None → bucket_at new place ≡ Some b
    → ((other : ℕ) → other ≢ place → bucket_at new other ≡ bucket_at old other) → in_use new n ≡ in_use old n + 1
unfolding in_use
more old new place zero b within free there others = absurd (omega (arith, within))
more old new place (suc n) b within free there others = elim (cases_eq place n) [
  | inl same ↦
      ap (λ o. cond (is_some o) (in_use new n + 1) (in_use new n)) (ap (bucket_at new) (sym same) ∙ there)
      ∙ ap (λ m. m + 1) (below old new place n others (omega (arith, same)))
      ∙ sym (ap (λ o. cond (is_some o) (in_use old n + 1) (in_use old n) + 1) (ap (bucket_at old) (sym same) ∙ free))
  | inr differ ↦ rw (others n (λ same. differ (sym same)), more old new place n b (omega (arith, within, differ)) free there others)
      (added (is_some (bucket_at old n)))
]
  where
    added : (b : Bool) → cond b (in_use old n + 1 + 1) (in_use old n + 1) ≡ cond b (in_use old n + 1) (in_use old n) + 1
    added true = refl
    added false = refl

pub one_put : (old new : List ℕ) (count : ℕ) (b : Bucket) → Puts old new count b → in_use new count ≡ in_use old count + 1
one_put old new count b put = more old new put.place count b put.within put.free put.there put.others

-- what is in use stays so, and the search for a hash that came to a place still does
stays : (old new : List ℕ) (count : ℕ) (b : Bucket) → Puts old new count b → (place : ℕ) → is_some (bucket_at old place) ≡ true
    → is_some (bucket_at new place) ≡ true
stays old new count b put place is = elim (cases_eq place put.place) [
  | inl same ↦ ap is_some (ap (bucket_at new) same ∙ put.there)
  | inr
      differ ↦ ap is_some (put.others place differ) ∙ is
]

pub index_put : (old new : List ℕ) (count : ℕ) (b : Bucket) → IsIndex old count → length new ≡ length old → (put : Puts old new count b)
    → IsPath old count (start_of b.hash count) put.place → IsIndex new count
index_put old new count b index long put path = search rules

-- ---- buckets that are put one after the other
none_in_use : (array : List ℕ) (n : ℕ) → ((place : ℕ) → place < n → bucket_at array place ≡ None) → in_use array n ≡ 0
unfolding in_use
none_in_use array zero none = refl
none_in_use array (suc n) none =
    ap (λ o. cond (is_some o) (in_use array n + 1) (in_use array n)) (none n (omega arith))
    ∙ none_in_use array n (λ place h. none place (omega (arith, h)))

not_some : (o : Option Bucket) (b : Bucket) → o ≡ None → o ≡ Some b → ⊥
not_some o b none some = subst (λ p. IfSome p (λ _. ⊥)) (sym none ∙ some) tt

next : (array : List ℕ) (n : ℕ) → in_use array (n + 1) ≡ cond (is_some (bucket_at array n)) (in_use array n + 1) (in_use array n)
unfolding in_use
next array n = ap (in_use array) (add-one n)

pub none_yet : (new : List ℕ) (count : ℕ) (old : List ℕ) → length new ≡ 32 * count → ((place : ℕ) → place < count → bucket_at new place
    ≡ None) → HasAll new count old 0
unfolding in_use
none_yet new count old long empty = record {
  index = record { long = long; found = λ place b within is. absurd (not_some (bucket_at new place) b (empty place within) is) };
  number = none_in_use new count empty;
  kept = λ b (place, within, is). absurd (omega (arith, within));
  only = λ b (place, within, is). absurd (not_some (bucket_at new place) b (empty place within) is);
}

-- a free bucket is passed over, and one in use is put
pub passed_over : (new : List ℕ) (count : ℕ) (old : List ℕ) (n : ℕ) → HasAll new count old n → bucket_at old n ≡ None
    → HasAll new count old (n + 1)
passed_over new count old n all free = record {
  index = all.index;
  number = all.number ∙ sym (next old n ∙ ap (λ o. cond (is_some o) (in_use old n + 1) (in_use old n)) free);
  kept = λ b (place, within, is). all.kept b
      (place, omega (arith, within, (λ (same : place ≡ n). not_some (bucket_at old place) b (ap (bucket_at old) same ∙ free) is)), is);
  only = λ b held. let there = all.only b held in (there.0, omega (arith, there.1), there.2);
}

pub put_over : (before new : List ℕ) (count : ℕ) (old : List ℕ) (n : ℕ) (b : Bucket) → HasAll before count old n → bucket_at old n ≡ Some b
    → IsIndex new count → in_use new count ≡ in_use before count + 1 → Puts before new count b → HasAll new count old (n + 1)
put_over before new count old n b all is index more put = record {
  index = index;
  number = more ∙ ap (λ m. m + 1) all.number ∙ sym (next old n ∙ ap (λ o. cond (is_some o) (in_use old n + 1) (in_use old n)) is);
  kept = λ x held. kept x held (cases_eq held.0 n);
  only = λ x held. only x held (cases_eq held.0 put.place);
}
  where
    moved : (x : Bucket) → Holds before count x → Holds new count x
    moved x (place, within, there) = (
      place,
      within,
      put.others place (λ same. not_some (bucket_at before place) x (ap (bucket_at before) same ∙ put.free) there)
          ∙ there,
    )

    kept : (x : Bucket) → (held : Holds old (n + 1) x) → (held.0 ≡ n) ⊎ (held.0 ≡ n → ⊥) → Holds new count x
    kept x (place, within, there) (inl same) = (put.place, put.within, put.there ∙ sym is ∙ ap (bucket_at old) (sym same) ∙ there)
    kept x (place, within, there) (inr differ) = moved x (all.kept x (place, omega (arith, within, differ), there))

    only : (x : Bucket) → (held : Holds new count x) → (held.0 ≡ put.place) ⊎ (held.0 ≡ put.place → ⊥) → Holds old (n + 1) x
    only x (place, within, there) (inl same) = (n, omega arith, is ∙ sym put.there ∙ ap (bucket_at new) (sym same) ∙ there)
    only x (place, within, there) (inr differ) = let was = all.only x (place, within, sym (put.others place differ) ∙ there) in
        (was.0, omega (arith, was.1), was.2)

-- there is room for the next bucket
pub room : (new : List ℕ) (count : ℕ) (old : List ℕ) (n m : ℕ) → HasAll new count old n → n < m → m ≤ count → in_use new count < count
room new count old n m all less most = omega (arith, all.number, at_most old n, less, most)
