-- Laws: members of lists, by recursion on the list; these definitions serve the laws alone.
use Rattle.std.specs.Prelude.{◌≡◌, refl, ℕ, zero, suc, ◌<◌, ◌⊎◌, Bool, true, false, T, cond, ◌&&◌, ◌||◌, List, [], ◌∷◌, length, map, filter}
use Rattle.std.specs.Prelude.{find, slice_index_or, Contains, Some, is_some, ◌↔◌}
use Rattle.std.proofs.Common.{sym, ◌∙◌, ap, subst, inl, inr, suc-le-suc, zero-le}
use Rattle.std.specs.List.{list_any, list_all}
use Rattle.std.specs.declared.cmp.Ordering.{Ordering}
use Rattle.std.specs.Ordering.{eq_by_cmp, is_eq}
use Rattle.std.specs.Cmp.{IsTotalOrder, tied_itself, Equal-is}
use Rattle.std.specs.FinMap.{IsAntisymmetric}
use Rattle.std.proofs.lemmas.Option.{same_Some}
use Rattle.std.proofs.Math.Nat.{not-suc-le-zero, le_of_suc-le-suc}
use Rattle.grouping_model.specs.Rising.{distinct, is_among}
use Rattle.grouping_model.specs.Rising.Facts.{among-distinct}

pub false_is_not_true : {A : Type 0} → false ≡ true → A
false_is_not_true e = absurd (subst T (sym e) tt)

-- x is one of xs
abbrev pub Member : {X : Type 0} → List X → X → Type 0
Member [] x = ⊥
Member (y ∷ ys) x = (y ≡ x) ⊎ Member ys x

member_at : {X : Type 0} (xs : List X) (x : X) (k : ℕ) → k < length xs → slice_index_or xs k x ≡ x → Member xs x
member_at [] x k l e = absurd (not-suc-le-zero l)
member_at (y ∷ ys) x zero l e = inl e
member_at (y ∷ ys) x (suc k) l e = inr (member_at ys x k (le_of_suc-le-suc l) e)

pub from_contains : {X : Type 0} (xs : List X) (x : X) → Contains xs x → Member xs x
from_contains xs x c = member_at xs x c.0 c.1 c.2

pub to_contains : {X : Type 0} (xs : List X) (x : X) → Member xs x → Contains xs x
to_contains [] x m = absurd m
to_contains (y ∷ ys) x (inl e) = (0, suc-le-suc zero-le, e)
to_contains (y ∷ ys) x (inr m) = let c = to_contains ys x m in (suc c.0, suc-le-suc c.1, c.2)

pub any_member : {X : Type 0} (t : X → Bool) (xs : List X) → list_any t xs ≡ true → (x : X) × Member xs x × (t x ≡ true)
any_member t [] e = false_is_not_true e
any_member {X} t (x ∷ xs) e =
    elim (t x) as (λ b. t x ≡ b → (b || list_any t xs) ≡ true → (y : X) × Member (x ∷ xs) y × (t y ≡ true)) [
      | true ↦ λ p e. (x, inl refl, p)
      | false ↦ λ p e. let m = any_member t xs e in (m.0, inr m.1, m.2)
    ] refl e

pub member_any : {X : Type 0} (t : X → Bool) (xs : List X) (x : X) → Member xs x → t x ≡ true → list_any t xs ≡ true
member_any t [] x m e = absurd m
member_any t (y ∷ ys) x (inl p) e = ap (λ z. t z || list_any t ys) p ∙ ap (λ b. b || list_any t ys) e
member_any t (y ∷ ys) x (inr m) e =
    elim (t y) as (λ b. (b || list_any t ys) ≡ true) [ true ↦ refl | false ↦ member_any t ys x m e ]

pub all_member : {X : Type 0} (t : X → Bool) (xs : List X) (x : X) → list_all t xs ≡ true → Member xs x → t x ≡ true
all_member t [] x e m = absurd m
all_member t (y ∷ ys) x e m =
    elim (t y) as (λ b. t y ≡ b → (b && list_all t ys) ≡ true → t x ≡ true) [
      | true ↦ λ p e. elim m [ inl q ↦ ap t (sym q) ∙ p | inr n ↦ all_member t ys x e n ]
      | false ↦ λ p e. false_is_not_true e
    ] refl e

pub member_all : {X : Type 0} (t : X → Bool) (xs : List X) → ((x : X) → Member xs x → t x ≡ true) → list_all t xs ≡ true
member_all t [] each = refl
member_all t (y ∷ ys) each = ap (λ b. b && list_all t ys) (each y (inl refl)) ∙ member_all t ys (λ x m. each x (inr m))

pub filter_member : {X : Type 0} (t : X → Bool) (xs : List X) (x : X) → Member (filter t xs) x → Member xs x × (t x ≡ true)
filter_member t [] x m = absurd m
filter_member t (y ∷ ys) x m =
    elim (t y) as (λ b. t y ≡ b → Member (cond b (y ∷ filter t ys) (filter t ys)) x → Member (y ∷ ys) x × (t x ≡ true)) [
      | true ↦ λ p m. elim m [ inl q ↦ (inl q, ap t (sym q) ∙ p) | inr n ↦ let r = filter_member t ys x n in (inr r.0, r.1) ]
      | false ↦ λ p m. let r = filter_member t ys x m in (inr r.0, r.1)
    ] refl m

pub member_filter : {X : Type 0} (t : X → Bool) (xs : List X) (x : X) → Member xs x → t x ≡ true → Member (filter t xs) x
member_filter t [] x m e = absurd m
member_filter t (y ∷ ys) x (inl q) e = subst (λ b. Member (cond b (y ∷ filter t ys) (filter t ys)) x) (sym (ap t q ∙ e)) (inl q)
member_filter t (y ∷ ys) x (inr m) e =
    elim (t y) as (λ b. Member (cond b (y ∷ filter t ys) (filter t ys)) x) [
      | true ↦ inr (member_filter t ys x m e)
      | false ↦ member_filter t
          ys x m e
    ]

pub map_member : {X Y : Type 0} (f : X → Y) (xs : List X) (y : Y) → Member (map f xs) y → (x : X) × Member xs x × (f x ≡ y)
map_member f [] y m = absurd m
map_member f (x ∷ xs) y (inl e) = (x, inl refl, e)
map_member f (x ∷ xs) y (inr m) = let r = map_member f xs y m in (r.0, inr r.1, r.2)

pub member_map : {X Y : Type 0} (f : X → Y) (xs : List X) (x : X) → Member xs x → Member (map f xs) (f x)
member_map f [] x m = absurd m
member_map f (y ∷ ys) x (inl e) = inl (ap f e)
member_map f (y ∷ ys) x (inr m) = inr (member_map f ys x m)

pub found_member : {X : Type 0} (t : X → Bool) (xs : List X) (z : X) → find t xs ≡ Some z → Member xs z × (t z ≡ true)
found_member t [] z e = absurd (subst (λ o. T (is_some o)) (sym e) tt)
found_member t (x ∷ xs) z e =
    elim (t x) as (λ b. t x ≡ b → cond b (Some x) (find t xs) ≡ Some z → Member (x ∷ xs) z × (t z ≡ true)) [
      | true ↦ λ p e. let same = same_Some x z e in (inl same, ap t (sym same) ∙ p)
      | false ↦ λ p e. let r = found_member t xs z e in (inr r.0, r.1)
    ] refl e

-- a member that passes is found, or another one that does
pub found_some : {X : Type 0} (t : X → Bool) (xs : List X) (x : X) → Member xs x → t x ≡ true → (z : X) × (find t xs ≡ Some z)
found_some t [] x m e = absurd m
found_some {X} t (y ∷ ys) x m e =
    elim (t y) as (λ b. t y ≡ b → (z : X) × (cond b (Some y) (find t ys) ≡ Some z)) [
      | true ↦ λ p. (y, refl)
      | false ↦ λ p. elim m [ inl q ↦ false_is_not_true (sym p ∙ ap t q ∙ e) | inr n ↦ found_some t ys x n e ]
    ] refl

-- lists under a total order in which only equal members tie
module _ {X : Type 0} {cmp : X → X → Ordering} (total : IsTotalOrder cmp) (ties : IsAntisymmetric cmp) where
  pub among_member : (xs : List X) (x : X) → is_among cmp x xs ≡ true ↔ Member xs x
  among_member xs x = (
    λ e. let found = any_member (eq_by_cmp cmp x) xs e in subst (Member xs) (sym (ties x found.0 ((Equal-is (cmp x found.0)).0 found.2)))
        found.1,
    λ m. member_any (eq_by_cmp cmp x) xs x m (ap is_eq (tied_itself total x)),
  )

  pub distinct_member : (xs : List X) (x : X) → Member (distinct cmp xs) x ↔ Member xs x
  distinct_member xs x = (
    λ m. (among_member xs x).0 (sym (among-distinct total x xs) ∙ (among_member (distinct cmp xs) x).1 m),
    λ m. (among_member (distinct cmp xs) x).0 (among-distinct total x xs ∙ (among_member xs x).1 m),
  )
