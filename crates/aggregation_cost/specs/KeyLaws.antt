-- Laws: the distinct keys of a list; nothing here is a definition.
use Rattle.std.specs.Prelude.{◌≡◌, refl, Bool, true, false, cond, not, ◌||◌, List, [], ◌∷◌, ◌++◌, filter}
use Rattle.std.proofs.Common.{sym, ◌∙◌, ap, subst}
use Rattle.std.specs.List.{AllByRecursion, IsDistinct}
use Rattle.std.proofs.lemmas.Bool.{both_ways, or_right, false_from_ne_true}
use Rattle.std.proofs.lemmas.List.Elements.{filter-append}
use Rattle.list_laws.specs.Each.{each_weaker, each_behind}
use lib.Pointwise.{bytes_decides}
use Rattle.aggregation_cost.specs.Space.{Key}
use Rattle.aggregation_cost.specs.Passes.{same_key, is_one_of, first_of_each}
use Rattle.aggregation_cost.specs.ListLaws.{filter_absorbs, any-filter, filter_swap, filter_none, filter_every}

pub same_key_itself : (key : Key) → same_key key key ≡ true
same_key_itself key = (bytes_decides key key).1 refl

pub same_key-is : (x y : Key) → same_key x y ≡ true → x ≡ y
same_key-is x y = (bytes_decides x y).0

-- ---- filters
distinct_others : (p : Key → Bool) (key : Key) → p key ≡ false → (other : Key) → p other ≡ true → not (same_key key other) ≡ true
distinct_others p key miss other hit = ap not
    (false_from_ne_true (same_key key other) (λ same. both_ways (p other) (ap p (sym (same_key-is key other same)) ∙ miss) hit))

-- the distinct keys that pass a test are the distinct ones of those that pass
pub distinct-filter : (p : Key → Bool) (keys : List Key) → first_of_each (filter p keys) ≡ filter p (first_of_each keys)
distinct-filter p [] = refl
distinct-filter p (key ∷ keys) =
    elim (p key) as (λ b. p key ≡ b → first_of_each (cond b (key ∷ filter p keys) (filter p keys))
    ≡ cond b (key ∷ filter p (filter other (first_of_each keys))) (filter p (filter other (first_of_each keys)))) [
      | true ↦ λ e. ap (λ ys. key ∷ filter other ys) (distinct-filter p keys)
          ∙ ap (λ ys. key ∷ ys) (filter_swap other p (first_of_each keys))
      | false ↦ λ e. distinct-filter p keys ∙ sym (filter_absorbs p other (distinct_others p key e) (first_of_each keys))
    ] refl
  where
    other : Key → Bool
    other x = not (same_key key x)

-- ---- each once
each_kept : (P : Key → Type 0) (t : Key → Bool) (xs : List Key) → AllByRecursion P xs → AllByRecursion P (filter t xs)
each_kept P t [] all = tt
each_kept P t (x ∷ xs) (p, all) =
    elim (t x) as (λ b. AllByRecursion P (cond b (x ∷ filter t xs) (filter t xs))) [
      | true ↦ (p, each_kept P t xs all)
      | false ↦ each_kept P
          t xs all
    ]

filter_distinct : (t : Key → Bool) (xs : List Key) → IsDistinct same_key xs → IsDistinct same_key (filter t xs)
unfolding IsDistinct
filter_distinct t [] apart = tt
filter_distinct t (x ∷ xs) (here, apart) =
    elim (t x) as (λ b. IsDistinct same_key (cond b (x ∷ filter t xs) (filter t xs))) [
      | true ↦ (each_kept (λ y. same_key x y ≡ false) t xs here, filter_distinct t xs apart)
      | false ↦ filter_distinct t xs apart
    ]

all_other : (key : Key) (xs : List Key) → AllByRecursion (λ y. same_key key y ≡ false) (filter (λ other. not (same_key key other)) xs)
all_other key [] = tt
all_other key (x ∷ xs) =
    elim (same_key key x) as (λ b. same_key key x ≡ b
    → AllByRecursion (λ y. same_key key y ≡ false) (cond (not b) (x ∷ filter (λ other. not (same_key key other)) xs)
    (filter (λ other. not (same_key key other)) xs))) [
      | true ↦ λ e. all_other key xs
      | false ↦ λ e. (e, all_other key xs)
    ] refl

pub distinct-apart : (keys : List Key) → IsDistinct same_key (first_of_each keys)
unfolding IsDistinct
distinct-apart [] = tt
distinct-apart (key ∷ keys) = (
  all_other key (first_of_each keys),
  filter_distinct (λ other. not (same_key key other)) (first_of_each keys)
      (distinct-apart keys),
)

-- whether a key is one of a list's distinct keys
pub one_of-distinct : (keys : List Key) (x : Key) → is_one_of (first_of_each keys) x ≡ is_one_of keys x
one_of-distinct [] x = refl
one_of-distinct (key ∷ keys) x =
    elim (same_key x key) as (λ b. same_key x key ≡ b → (b || is_one_of (filter (λ other. not (same_key key other)) (first_of_each keys)) x)
    ≡ (b || is_one_of keys x)) [
      | true ↦ λ e. refl
      | false ↦ λ e.
          any-filter (same_key x) (λ other. not (same_key key other))
          (λ y same. ap not (false_from_ne_true (same_key key y)
          (λ t. both_ways (same_key x key) e (subst (λ z. same_key x z ≡ true) (sym (same_key-is key y t)) same)))) (first_of_each keys)
          ∙ one_of-distinct keys x
    ] refl

-- ---- a prefix, and what is after it
pub same_key_turned : (x y : Key) (b : Bool) → same_key x y ≡ b → same_key y x ≡ b
same_key_turned x y true e = subst (λ z. same_key z x ≡ true) (same_key-is x y e) (same_key_itself x)
same_key_turned x y false e = false_from_ne_true (same_key y x)
    (λ t. both_ways (same_key x y) e (subst (λ z. same_key z y ≡ true) (same_key-is y x t) (same_key_itself y)))

pub each_in_front : (front : List Key) → AllByRecursion (λ x. is_one_of front x ≡ true) front
each_in_front [] = tt
each_in_front (x ∷ xs) = (
  ap (λ b. b || is_one_of xs x) (same_key_itself x),
  each_weaker (λ y. is_one_of xs y ≡ true) (λ y. (same_key y x || is_one_of xs y)
      ≡ true) (λ y among. or_right (same_key y x) (is_one_of xs y) among) xs (each_in_front xs),
)

none_behind : (front rest : List Key) → IsDistinct same_key (front ++ rest) → AllByRecursion (λ x. is_one_of front x ≡ false) rest
unfolding IsDistinct
none_behind [] rest apart = all_none rest
  where
    all_none : (ys : List Key) → AllByRecursion (λ x. false ≡ false) ys
    all_none [] = tt
    all_none (y ∷ ys) = (refl, all_none ys)
none_behind (x ∷ xs) rest (here, apart) = both rest (each_behind (λ y. same_key x y ≡ false) xs rest here) (none_behind xs rest apart)
  where
    both : (ys : List Key) → AllByRecursion (λ y. same_key x y ≡ false) ys → AllByRecursion (λ y. is_one_of xs y ≡ false) ys
        → AllByRecursion (λ y. (same_key y x || is_one_of xs y) ≡ false) ys
    both [] first later = tt
    both (y ∷ ys) (miss, first) (none, later) = (ap (λ b. b || is_one_of xs y) (same_key_turned x y false miss) ∙ none, both ys first later)

-- of distinct keys, those that are not in a prefix are those after it
pub not_in_front : (front rest : List Key) → IsDistinct same_key (front ++ rest) → filter (λ key. not (is_one_of front key)) (front ++ rest)
    ≡ rest
not_in_front front rest apart =
    filter-append other front rest
    ∙ ap (λ ys. ys ++ filter other rest)
    (filter_none other front (each_weaker (λ x. is_one_of front x ≡ true) (λ x. other x ≡ false) (λ x e. ap not e) front
    (each_in_front front)))
    ∙ filter_every other rest (each_weaker (λ x. is_one_of front x ≡ false) (λ x. other x ≡ true) (λ x e. ap not e) rest
    (none_behind front rest apart))
  where
    other : Key → Bool
    other key = not (is_one_of front key)
