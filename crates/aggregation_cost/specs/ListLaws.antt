-- Laws: filters, lists that are joined, and a list that is split by a number of each element; nothing here is a definition.
use Rattle.std.specs.Prelude.{◌≡◌, refl, Bool, true, false, cond, ◌||◌, List, [], ◌∷◌, filter, flat_map}
use Rattle.std.proofs.Common.{sym, ◌∙◌, ap}
use Rattle.std.specs.List.{AllByRecursion, list_any}
use Rattle.std.proofs.lemmas.Bool.{both_ways, false_from_ne_true}
use Rattle.list_laws.specs.Each.{each_append}

-- ---- filters

pub filter_absorbs : {X : Type 0} (p q : X → Bool) → ((x : X) → p x ≡ true → q x ≡ true) → (xs : List X) → filter p (filter q xs)
    ≡ filter p xs
filter_absorbs p q also [] = refl
filter_absorbs p q also (x ∷ xs) =
    elim (q x) as (λ c. q x ≡ c → filter p (cond c (x ∷ filter q xs) (filter q xs)) ≡ cond (p x) (x ∷ filter p xs) (filter p xs)) [
      | true ↦ λ e. ap (λ ys. cond (p x) (x ∷ ys) ys) (filter_absorbs p q also xs)
      | false ↦ λ e. elim (p x) as (λ b. p x ≡ b → filter p (filter q xs) ≡ cond b (x ∷ filter p xs) (filter p xs))
          [ true ↦ λ t. absurd (both_ways (q x) e (also x t)) | false ↦ λ t. filter_absorbs p q also xs ] refl
    ] refl

pub filter_swap : {X : Type 0} (p q : X → Bool) (xs : List X) → filter p (filter q xs) ≡ filter q (filter p xs)
filter_swap p q [] = refl
filter_swap p q (x ∷ xs) =
    elim (q x) as (λ c. q x ≡ c → filter p (cond c (x ∷ filter q xs) (filter q xs))
    ≡ filter q (cond (p x) (x ∷ filter p xs) (filter p xs))) [
      | true ↦ λ e. elim (p x) as (λ b. cond b (x ∷ filter p (filter q xs)) (filter p (filter q xs))
          ≡ filter q (cond b (x ∷ filter p xs) (filter p xs))) [
            | true ↦ ap (λ ys. x ∷ ys) (filter_swap p q xs) ∙ ap (λ c. cond c (x ∷ filter q (filter p xs)) (filter q (filter p xs))) (sym e)
            | false ↦ filter_swap p q xs
          ]
      | false ↦ λ e. elim (p x) as (λ b. filter p (filter q xs) ≡ filter q (cond b (x ∷ filter p xs) (filter p xs))) [
        | true ↦ filter_swap p q xs ∙ ap (λ c. cond c (x ∷ filter q (filter p xs)) (filter q (filter p xs))) (sym e)
        | false ↦ filter_swap p q xs
      ]
    ] refl

pub filter_none : {X : Type 0} (p : X → Bool) (xs : List X) → AllByRecursion (λ x. p x ≡ false) xs → filter p xs ≡ []
filter_none p [] all = refl
filter_none p (x ∷ xs) (miss, all) = ap (λ b. cond b (x ∷ filter p xs) (filter p xs)) miss ∙ filter_none p xs all

pub filter_every : {X : Type 0} (p : X → Bool) (xs : List X) → AllByRecursion (λ x. p x ≡ true) xs → filter p xs ≡ xs
filter_every p [] all = refl
filter_every p (x ∷ xs) (hit, all) = ap (λ b. cond b (x ∷ filter p xs) (filter p xs)) hit ∙ ap (λ ys. x ∷ ys) (filter_every p xs all)

-- whether one of the elements passes p, where those that do are kept
pub any-filter : {X : Type 0} (p q : X → Bool) → ((x : X) → p x ≡ true → q x ≡ true) → (xs : List X) → list_any p (filter q xs)
    ≡ list_any p xs
any-filter p q also [] = refl
any-filter p q also (x ∷ xs) =
    elim (q x) as (λ c. q x ≡ c → list_any p (cond c (x ∷ filter q xs) (filter q xs)) ≡ (p x || list_any p xs)) [
      | true ↦ λ e. ap (λ b. p x || b) (any-filter p q also xs)
      | false ↦ λ e. any-filter p q also xs
          ∙ ap (λ b. b || list_any p xs) (sym (false_from_ne_true (p x) (λ t. both_ways (q x) e (also x t))))
    ] refl

-- ---- what holds of each element
pub each_both : {X : Type 0} (P Q : X → Type 0) (xs : List X) → AllByRecursion P xs → AllByRecursion Q xs
    → AllByRecursion (λ x. P x × Q x) xs
each_both P Q [] ps qs = tt
each_both P Q (x ∷ xs) (p, ps) (q, qs) = ((p, q), each_both P Q xs ps qs)

-- of what a filter keeps, the filter's test is true
pub each_of_filter : {X : Type 0} (P : X → Type 0) (t : X → Bool) (xs : List X) → AllByRecursion P xs
    → AllByRecursion (λ x. P x × (t x ≡ true)) (filter t xs)
each_of_filter P t [] all = tt
each_of_filter P t (x ∷ xs) (p, all) =
    elim (t x) as (λ b. t x ≡ b → AllByRecursion (λ x. P x × (t x ≡ true)) (cond b (x ∷ filter t xs) (filter t xs))) [
      | true ↦ λ e. ((p, e), each_of_filter P t xs all)
      | false ↦ λ e. each_of_filter P t xs all
    ] refl

pub each_of_flat_map : {X Y : Type 0} (f : X → List Y) (P : Y → Type 0) (xs : List X) → AllByRecursion (λ x. AllByRecursion P (f x)) xs
    → AllByRecursion P (flat_map f xs)
each_of_flat_map f P [] all = tt
each_of_flat_map f P (x ∷ xs) (here, all) = each_append P (f x) (flat_map f xs) here (each_of_flat_map f P xs all)
