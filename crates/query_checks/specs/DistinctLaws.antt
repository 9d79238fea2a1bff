-- Laws of the distinct members of a list; what is defined here, laws alone say.
use Rattle.std.proofs.Common.{◌≡◌, Bool, true, false, List, [], ◌∷◌, ◌++◌, map, refl, ap, sym, ◌∙◌, subst}
use Rattle.std.specs.List.{list_any, list_all, AllByRecursion}
use Rattle.std.proofs.lemmas.Bool.{and_parts, and_from, cond-true, cond-false}
use Rattle.std.proofs.lemmas.List.{map-append}
use Rattle.std.specs.Prelude.{◌||◌}
use Rattle.list_laws.specs.Each.{each_append}
use Rattle.query_checks.specs.Sameness.{with_one, with_each, first_of_each}

-- the members of two lists, one list after the other
pub with_each_append : {A : Type 0} (same : A → A → Bool) (members xs ys : List A) → with_each same members (xs ++ ys)
    ≡ with_each same (with_each same members xs) ys
with_each_append same members [] ys = refl
with_each_append same members (x ∷ xs) ys = with_each_append same (with_one same members x) xs ys

-- what passes a test is there for each member, and back
pub all_pass : {A : Type 0} (p : A → Bool) (xs : List A) → list_all p xs ≡ true → AllByRecursion (λ x. p x ≡ true) xs
all_pass p [] e = tt
all_pass p (x ∷ xs) e = let parts = and_parts (p x) (list_all p xs) e in (parts.0, all_pass p xs parts.1)

pub pass_all : {A : Type 0} (p : A → Bool) (xs : List A) → AllByRecursion (λ x. p x ≡ true) xs → list_all p xs ≡ true
pass_all p [] h = refl
pass_all p (x ∷ xs) h = and_from (p x) (list_all p xs) h.0 (pass_all p xs h.1)

-- distinct members are members
all_one : {A : Type 0} (P : A → Type 0) (same : A → A → Bool) (members : List A) (x : A) (there : Bool) → list_any (same x) members ≡ there
    → AllByRecursion P members → P x → AllByRecursion P (with_one same members x)
all_one P same members x true e all p = subst (AllByRecursion P) (sym (cond-true (list_any (same x) members) members (members ++ x ∷ []) e))
    all
all_one P same members x false e all p = subst (AllByRecursion P)
    (sym (cond-false (list_any (same x) members) members (members ++ x ∷ []) e)) (each_append P members (x ∷ []) all (p, tt))

pub all_each : {A : Type 0} (P : A → Type 0) (same : A → A → Bool) (members xs : List A) → AllByRecursion P members → AllByRecursion P xs
    → AllByRecursion P (with_each same members xs)
all_each P same members [] all more = all
all_each P same members (x ∷ xs) all more = all_each P same (with_one same members x) xs
    (all_one P same members x (list_any (same x) members) refl all more.0) more.1

pub all_distinct : {A : Type 0} (P : A → Type 0) (same : A → A → Bool) (xs : List A) → AllByRecursion P xs
    → AllByRecursion P (first_of_each same xs)
all_distinct P same xs all = all_each P same [] xs tt all

-- the distinct members of distinct members are these
one_again : {A : Type 0} (same : A → A → Bool) (members : List A) (x : A) (there : Bool) → list_any (same x) members ≡ there
    → first_of_each same members ≡ members → first_of_each same (with_one same members x) ≡ with_one same members x
one_again {A} same members x true e again = subst (λ (those : List A). first_of_each same those
    ≡ those) (sym (cond-true (list_any (same x) members) members (members ++ x ∷ []) e)) again
one_again {A} same members x false e again =
    let added : with_one same members x ≡ members ++ x ∷ [] = cond-false (list_any (same x) members) members (members ++ x ∷ []) e in
    subst (λ (those : List A). first_of_each same those ≡ those) (sym added) (with_each_append same [] members (x ∷ [])
    ∙ ap (λ those. with_one same those x) again ∙ added)

each_again : {A : Type 0} (same : A → A → Bool) (members xs : List A) → first_of_each same members ≡ members
    → first_of_each same (with_each same members xs) ≡ with_each same members xs
each_again same members [] again = again
each_again same members (x ∷ xs) again = each_again same (with_one same members x) xs (one_again same members x (list_any (same x) members)
    refl again)

pub distinct_again : {A : Type 0} (same : A → A → Bool) (xs : List A) → first_of_each same (first_of_each same xs) ≡ first_of_each same xs
distinct_again same xs = each_again same [] xs refl

-- two ways to compare agree on the images of what passes
pub record Agrees {A B : Type 0} (P : A → Type 0) (f : A → B) (after : B → B → Bool) (before : A → A → Bool) : Type 0 where
  pub agree : (x y : A) → P x → P y → after (f x) (f y) ≡ before x y

any_image : {A B : Type 0} (P : A → Type 0) (f : A → B) (after : B → B → Bool) (before : A → A → Bool) → Agrees P f after before
    → (x : A) (members : List A) → P x → AllByRecursion P members
    → list_any (after (f x)) (map f members) ≡ list_any (before x) members
any_image P f after before same x [] p all = refl
any_image P f after before same x (y ∷ ys) p all = λ i. same.agree x y p all.0 i || any_image P f after before same x ys p all.1 i

one_image : {A B : Type 0} (P : A → Type 0) (f : A → B) (after : B → B → Bool) (before : A → A → Bool) → Agrees P f after before
    → (members : List A) (x : A) (there : Bool) → list_any (before x) members ≡ there
    → P x → AllByRecursion P members → with_one after (map f members) (f x) ≡ map f (with_one before members x)
one_image P f after before same members x true e p all =
    cond-true (list_any (after (f x)) (map f members)) (map f members) (map f members ++ f x
    ∷ []) (any_image P f after before same x members p all ∙ e)
    ∙ sym (ap (map f) (cond-true (list_any (before x) members) members (members ++ x ∷ []) e))
one_image P f after before same members x false e p all =
    cond-false (list_any (after (f x)) (map f members)) (map f members) (map f members ++ f x
    ∷ []) (any_image P f after before same x members p all ∙ e)
    ∙ sym (map-append f members (x ∷ []))
    ∙ sym (ap (map f) (cond-false (list_any (before x) members) members (members ++ x ∷ []) e))

-- the distinct images of such members
each_image : {A B : Type 0} (P : A → Type 0) (f : A → B) (after : B → B → Bool) (before : A → A → Bool) → Agrees P f after before
    → (members xs : List A) → AllByRecursion P members → AllByRecursion P xs
    → with_each after (map f members) (map f xs) ≡ map f (with_each before members xs)
each_image P f after before same members [] all more = refl
each_image P f after before same members (x ∷ xs) all more =
    ap (λ those. with_each after those (map f xs)) (one_image P f after before same members x (list_any (before x) members) refl more.0 all)
    ∙ each_image P f after before same (with_one before members x) xs (all_one P before members x (list_any (before x) members) refl all
    more.0) more.1

pub distinct_image : {A B : Type 0} (P : A → Type 0) (f : A → B) (after : B → B → Bool) (before : A → A → Bool) → Agrees P f after before
    → (xs : List A) → AllByRecursion P xs → first_of_each after (map f xs) ≡ map f (first_of_each before xs)
distinct_image P f after before same xs all = each_image P f after before same [] xs tt all
