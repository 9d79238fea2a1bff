-- Laws of `Every`, `Pairwise`, `first_by` and `filter`; nothing here is a definition.
use Rattle.std.proofs.Common.{◌≡◌, ℕ, zero, suc, ◌<◌, Bool, true, false, List, [], ◌∷◌, map, length, get_or, cond, refl, sym, ap, ◌∙◌}
use Rattle.std.specs.List.{filter, list_any}
use Rattle.std.specs.Prelude.{◌||◌}
use Rattle.std.proofs.lemmas.Bool.{false≢true}
use Rattle.std.proofs.Math.Nat.{not-suc-le-zero, le_of_suc-le-suc}
use Rattle.chunk_layout.specs.Every.{Every, Pairwise, first_by}

-- a fact about `cond` by its cases
pub by_cond : {X : Type 0} (P : X → Type 0) (b : Bool) (x y : X) → (b ≡ true → P x) → (b ≡ false → P y) → P (cond b x y)
by_cond P true x y yes' no' = yes' refl
by_cond P false x y yes' no' = no' refl

pub every_weaker : {X : Type 0} (P Q : X → Type 0) → ((x : X) → P x → Q x) → (xs : List X) → Every P xs → Every Q xs
every_weaker P Q h [] e = tt
every_weaker P Q h (x ∷ xs) e = (h x e.0, every_weaker P Q h xs e.1)

pub every_both : {X : Type 0} (P Q R : X → Type 0) → ((x : X) → P x → Q x → R x) → (xs : List X) → Every P xs → Every Q xs → Every R xs
every_both P Q R h [] e f = tt
every_both P Q R h (x ∷ xs) e f = (h x e.0 f.0, every_both P Q R h xs e.1 f.1)

pub every_filter : {X : Type 0} (P : X → Type 0) (test : X → Bool) (xs : List X) → Every P xs → Every P (filter test xs)
every_filter P test [] e = tt
every_filter P test (x ∷ xs) e = by_cond (Every P) (test x) (x ∷ filter test xs) (filter test xs) (λ _. (e.0, every_filter P test xs e.1))
    (λ _. every_filter P test xs e.1)

-- what the filter keeps passes its test
pub every_passes : {X : Type 0} (test : X → Bool) (xs : List X) → Every (λ x. test x ≡ true) (filter test xs)
every_passes test [] = tt
every_passes {X} test (x ∷ xs) = by_cond (Every (λ (y : X). test y ≡ true)) (test x) (x ∷ filter test xs) (filter test xs)
    (λ t. (t, every_passes test xs)) (λ _. every_passes test xs)

pub every_map : {X Y : Type 0} (P : Y → Type 0) (f : X → Y) (xs : List X) → Every (λ x. P (f x)) xs → Every P (map f xs)
every_map P f [] e = tt
every_map P f (x ∷ xs) e = (e.0, every_map P f xs e.1)

pub every_unmap : {X Y : Type 0} (P : Y → Type 0) (f : X → Y) (xs : List X) → Every P (map f xs) → Every (λ x. P (f x)) xs
every_unmap P f [] e = tt
every_unmap P f (x ∷ xs) e = (e.0, every_unmap P f xs e.1)

pub pairwise_weaker : {X : Type 0} (R S : X → X → Type 0) → ((x y : X) → R x y → S x y) → (xs : List X) → Pairwise R xs → Pairwise S xs
pairwise_weaker R S h [] e = tt
pairwise_weaker R S h (x ∷ xs) e = (every_weaker (R x) (S x) (h x) xs e.0, pairwise_weaker R S h xs e.1)

pub pairwise_through : {X Y : Type 0} (R : Y → Y → Type 0) (f : X → Y) (xs : List X) → Pairwise (λ x y. R (f x) (f y)) xs
    → Pairwise R (map f xs)
pairwise_through R f [] e = tt
pairwise_through R f (x ∷ xs) e = (every_map (R (f x)) f xs e.0, pairwise_through R f xs e.1)

pub pairwise_filter : {X : Type 0} (R : X → X → Type 0) (test : X → Bool) (xs : List X) → Pairwise R xs → Pairwise R (filter test xs)
pairwise_filter R test [] e = tt
pairwise_filter R test (x ∷ xs) e = by_cond (Pairwise R) (test x) (x ∷ filter test xs) (filter test xs)
    (λ _. (every_filter (R x) test xs e.0, pairwise_filter R test xs e.1)) (λ _. pairwise_filter R test xs e.1)

pub filter_map_same : {X Y : Type 0} (test : Y → Bool) (f : X → Y) (xs : List X) → map f (filter (λ x. test (f x)) xs)
    ≡ filter test (map f xs)
filter_map_same test f [] = refl
filter_map_same {X} {Y} test f (x
    ∷ xs) = elim (test (f x)) as (λ b. map f (cond b (x ∷ filter (λ (z : X). test (f z)) xs) (filter (λ (z : X). test (f z)) xs))
    ≡ cond b (f x ∷ filter test (map f xs)) (filter test (map f xs))) [
      | true ↦ ap (λ (t : List Y). f x ∷ t) (filter_map_same test f xs)
      | false ↦ filter_map_same test f xs
    ]

-- a filter that keeps all
pub filter_all : {X : Type 0} (test : X → Bool) (xs : List X) → Every (λ x. test x ≡ true) xs → filter test xs ≡ xs
filter_all test [] e = refl
filter_all {X} test (x ∷ xs) e = (λ i. cond (e.0 i) (x ∷ filter test xs) (filter test xs))
    ∙ ap (λ (t : List X). x ∷ t) (filter_all test xs e.1)

-- equal maps of each element
pub map_same : {X Y : Type 0} (f g : X → Y) (xs : List X) → Every (λ x. f x ≡ g x) xs → map f xs ≡ map g xs
map_same f g [] e = refl
map_same f g (x ∷ xs) e = (λ i. e.0 i ∷ map_same f g xs e.1 i)

-- the first element that passes, if there is one
pub first_has : {X : Type 0} (P : X → Type 0) (test : X → Bool) (d : X) (xs : List X) → list_any test xs ≡ true → Every P xs
    → P (first_by test d xs)
first_has P test d [] some e = absurd (false≢true some)
first_has P test d (x ∷ xs) some e =
    by_cond P (test x) x (first_by test d xs) (λ _. e.0) (λ f. first_has P test d xs (sym (ap (λ (b : Bool). b || list_any test xs) f)
    ∙ some) e.1)

pub first_passes : {X : Type 0} (test : X → Bool) (d : X) (xs : List X) → list_any test xs ≡ true → test (first_by test d xs) ≡ true
first_passes test d [] some = absurd (false≢true some)
first_passes {X} test d (x ∷ xs) some =
    by_cond (λ (y : X). test y ≡ true) (test x) x (first_by test d xs) (λ t. t)
    (λ f. first_passes test d xs (sym (ap (λ (b : Bool). b || list_any test xs) f) ∙ some))

pub first_map : {X Y : Type 0} (test : Y → Bool) (f : X → Y) (d : X) (e : Y) (xs : List X) → list_any test (map f xs) ≡ true
    → first_by test e (map f xs) ≡ f (first_by (λ x. test (f x)) d xs)
first_map test f d e [] some = absurd (false≢true some)
first_map {X} {Y} test f d e (x ∷ xs) some =
    let rest : test (f x) ≡ false → first_by test e (map f xs) ≡ f (first_by (λ (z : X). test (f z)) d xs) = λ no'. first_map test f d e xs
    (sym (ap (λ (b : Bool). b || list_any test (map f xs)) no') ∙ some) in
    let P : Bool → Type 0 = λ b. (b ≡ false → first_by test e (map f xs) ≡ f (first_by (λ (z : X). test (f z)) d xs))
    → cond b (f x) (first_by test e (map f xs)) ≡ f (cond b x (first_by (λ (z : X). test (f z)) d xs)) in
    (elim (test (f x)) as P [ true ↦ λ _. refl | false ↦ λ h. h refl ]) rest

pub any_map : {X Y : Type 0} (test : Y → Bool) (f : X → Y) (xs : List X) → list_any test (map f xs) ≡ list_any (λ x. test (f x)) xs
any_map test f [] = refl
any_map test f (x ∷ xs) = ap (λ (b : Bool). test (f x) || b) (any_map test f xs)

pub every_get : {X : Type 0} (P : X → Type 0) (xs : List X) (k : ℕ) (d : X) → k < length xs → Every P xs → P (get_or xs k d)
every_get P [] k d low e = absurd (not-suc-le-zero low)
every_get P (x ∷ xs) zero d low e = e.0
every_get P (x ∷ xs) (suc k) d low e = every_get P xs k d (le_of_suc-le-suc low) e.1
