-- Laws of the distinct members of a list.
use Rattle.std.proofs.Common.{◌≡◌, ℕ, ◌+◌, ◌<◌, ◌≤◌, Bool, true, false, List, [], ◌∷◌, ◌++◌, map, take, drop, length, get_or, add-one}
use Rattle.std.proofs.Common.{arith, refl, ap, sym, ◌∙◌, subst}
use Rattle.std.proofs.Math.Dec.{ltb}
use Rattle.std.proofs.Math.Nat.{le_trans}
use Rattle.std.proofs.Math.Seq.{take-suc}
use Rattle.std.specs.List.{list_any, AllByRecursion}
use Rattle.std.proofs.lemmas.Bool.{ltb-true, ltb-false, lt-ltb}
use Rattle.std.proofs.lemmas.List.{map-append, length-map, length-append, take-append-drop}
use Rattle.query_checks.specs.Sameness.{with_one, with_each, first_of_each}
use Rattle.query_checks.specs.DistinctLaws.{distinct_image, with_each_append}

-- a member more, where none is the same, and where one is
pub with_one_more : {A : Type 0} (same : A → A → Bool) (xs : List A) (x : A) → list_any (same x) xs ≡ false → xs ++ x ∷ []
    ≡ with_one same xs x
with_one_more same xs x e = rw e refl

pub with_one_there : {A : Type 0} (same : A → A → Bool) (xs : List A) (x : A) → list_any (same x) xs ≡ true → xs ≡ with_one same xs x
with_one_there same xs x e = rw e refl

pub one_more : {A : Type 0} (same : A → A → Bool) (xs : List A) (x : A) → first_of_each same (xs ++ x ∷ [])
    ≡ with_one same (first_of_each same xs) x
one_more same xs x = with_each_append same [] xs (x ∷ [])

-- one member more of a list that is gone over
pub next_front : {A : Type 0} (xs : List A) (i : ℕ) (x : A) → i < length xs → x ≡ get_or xs i x → take (i + 1) xs ≡ take i xs ++ x ∷ []
next_front xs i x low is = ap (λ n. take n xs) (add-one i) ∙ take-suc xs i x low ∙ ap (λ y. take i xs ++ y ∷ []) (sym is)

pub one_step : {A B : Type 0} (same : B → B → Bool) (f : A → B) (xs : List A) (i : ℕ) (x : A) → i < length xs → x ≡ get_or xs i x
    → first_of_each same (map f (take (i + 1) xs)) ≡ with_one same (first_of_each same (map f (take i xs))) (f x)
one_step same f xs i x low is =
    ap (λ front. first_of_each same (map f front)) (next_front xs i x low is)
    ∙ ap (first_of_each same) (map-append f (take i xs) (x ∷ [])) ∙ one_more same (map f (take i xs)) (f x)

pub next_step : {A : Type 0} (same : A → A → Bool) (xs : List A) (i : ℕ) (x : A) → i < length xs → x ≡ get_or xs i x
    → first_of_each same (take (i + 1) xs) ≡ with_one same (first_of_each same (take i xs)) x
next_step same xs i x low is = ap (first_of_each same) (next_front xs i x low is) ∙ one_more same (take i xs) x

-- how many there are: no fewer than of a front of the list, and no more than its members
one_longer : {A : Type 0} (same : A → A → Bool) (members : List A) (x : A) (there : Bool) → list_any (same x) members ≡ there
    → length members ≤ length (with_one same members x)
one_longer same members x true e = rw e (omega arith)
one_longer same members x false e = rw e (let long = length-append members (x ∷ []) in omega (arith, long))

one_shorter : {A : Type 0} (same : A → A → Bool) (members : List A) (x : A) (there : Bool) → list_any (same x) members ≡ there
    → length (with_one same members x) ≤ length members + 1
one_shorter same members x true e = rw e (omega arith)
one_shorter same members x false e = rw e (let long = length-append members (x ∷ []) in omega (arith, long))

each_longer : {A : Type 0} (same : A → A → Bool) (members xs : List A) → length members ≤ length (with_each same members xs)
each_longer same members [] = omega arith
each_longer same members (x ∷ xs) = le_trans (one_longer same members x (list_any (same x) members) refl)
    (each_longer same (with_one same members x) xs)

each_shorter : {A : Type 0} (same : A → A → Bool) (members xs : List A) → length (with_each same members xs) ≤ length members + length xs
each_shorter same members [] = omega arith
each_shorter same members (x ∷ xs) =
    let one = one_shorter same members x (list_any (same x) members) refl in
    let rest = each_shorter same (with_one same members x) xs in
    omega (arith, one, rest)

pub no_fewer : {A : Type 0} (same : A → A → Bool) (n : ℕ) (xs : List A)
    → length (first_of_each same (take n xs)) ≤ length (first_of_each same xs)
no_fewer {A} same n xs =
    subst (λ (those : List A). length (first_of_each same (take n xs)) ≤ length those)
    (sym (with_each_append same [] (take n xs) (drop n xs)) ∙ ap (first_of_each same) (take-append-drop n xs))
    (each_longer same (first_of_each same (take n xs)) (drop n xs))

pub no_more : {A : Type 0} (same : A → A → Bool) (xs : List A) → length (first_of_each same xs) ≤ length xs
no_more same xs =
    let long : length (first_of_each same xs) ≤ 0 + length xs = each_shorter same [] xs in
    omega (arith, long)

-- a list that is gone over, changed twice
pub maps_joined : {A B D : Type 0} (f : A → B) (g : B → D) (xs : List A) → map g (map f xs) ≡ map (λ x. g (f x)) xs
maps_joined f g [] = refl
maps_joined f g (x ∷ xs) = λ i. g (f x) ∷ maps_joined f g xs i

-- of all members, two being the same where their images are
abbrev pub Anything : {A : Type 0} → A → Type 0
Anything x = Unit {0}

pub all_anything : {A : Type 0} (xs : List A) → AllByRecursion Anything xs
all_anything [] = tt
all_anything (x ∷ xs) = (tt, all_anything xs)

pub distinct_mapped : {A B : Type 0} (same : B → B → Bool) (f : A → B) (xs : List A) → map f (first_of_each (λ x y. same (f x) (f y)) xs)
    ≡ first_of_each same (map f xs)
distinct_mapped same f xs = sym (distinct_image Anything f same (λ x y. same (f x) (f y)) (record { agree = λ x y p q. refl }) xs
    (all_anything xs))

-- more than so many members have more than so many distinct images
pub images_longer : {A B : Type 0} (same : B → B → Bool) (f : A → B) (xs : List A) (most : ℕ)
    → most < length (first_of_each (λ x y. same (f x) (f y)) xs) → most < length (first_of_each same (map f xs))
images_longer same f xs most many = subst (λ n. most < n) (sym (length-map (first_of_each (λ x y. same (f x) (f y)) xs) f)
    ∙ ap length (distinct_mapped same f xs)) many

-- a number that was counted up to a limit, and one beyond it
pub exceeds : (most n m : ℕ) (more : Bool) → ltb most n ≡ more → (n ≤ most → n ≡ m) → (most < n → most < m) → ltb most n ≡ ltb most m
exceeds most n m true e all beyond = e ∙ sym (lt-ltb most m (beyond (ltb-true most n e)))
exceeds most n m false e all beyond = ap (ltb most) (all (ltb-false most n e))

pub never_more : (most n m : ℕ) (more : Bool) → ltb most n ≡ more → m ≤ most → (most < n → most < m) → n ≤ most
never_more most n m true e few beyond = let many = beyond (ltb-true most n e) in absurd (omega (arith, few, many))
never_more most n m false e few beyond = ltb-false most n e
