-- Lists that rise.
use Rattle.std.proofs.Common.{◌≡◌, refl, suc, arith, ◌-◌, List, [], ◌∷◌, ◌++◌, length, slice_get, Some, sym, ap, subst, ◌∙◌, IfSome}
use Rattle.std.specs.List.{AllByRecursion}
use Rattle.std.specs.List.Sorted.{IsStrictlySortedBy}
use Rattle.std.specs.Cmp.{IsTotalOrder}
use Rattle.std.specs.declared.cmp.Ordering.{Ordering}
use Rattle.std.specs.declared.cmp.Ordering.TheVariants.{Less}
use Rattle.summary_codec.specs.Reading.{IsNext}

-- what is last
pub is_next : {K : Type 0} (order : K → K → Ordering) (before : List K) (last next : K) → slice_get before (length before - 1) ≡ Some last
    → order last next ≡ Less → IsNext order before next
is_next order before last next there less = subst (λ o. IfSome o (λ l. order l next ≡ Less)) (sym there) less

pub next_is : {K : Type 0} (order : K → K → Ordering) (before : List K) (last next : K) → slice_get before (length before - 1) ≡ Some last
    → IsNext order before next → order last next ≡ Less
next_is order before last next there above = subst (λ o. IfSome o (λ l. order l next ≡ Less)) there above

pub all_and : {A : Type 0} (P : A → Type 0) (xs : List A) (x : A) → AllByRecursion P xs → P x → AllByRecursion P (xs ++ x ∷ [])
all_and P [] x all one = (one, tt)
all_and P (y ∷ ys) x all one = (all.0, all_and P ys x all.1 one)

pub last_of_all : {A : Type 0} (P : A → Type 0) (xs : List A) (x : A) → AllByRecursion P (xs ++ x ∷ []) → P x
last_of_all P [] x all = all.0
last_of_all P (y ∷ ys) x all = last_of_all P ys x all.1

-- what is last in a list of two or more is last in its rest
same_last : {K : Type 0} (x y : K) (ys : List K) → slice_get (x ∷ y ∷ ys) (length (x ∷ y ∷ ys) - 1)
    ≡ slice_get (y ∷ ys) (length (y ∷ ys) - 1)
same_last x y ys =
    let whole : length (x ∷ y ∷ ys) - 1 ≡ suc (length ys) = omega arith in
    let rest : length ys ≡ length (y ∷ ys) - 1 = omega arith in
    ap (slice_get (x ∷ y ∷ ys)) whole ∙ ap (slice_get (y ∷ ys)) rest

only_last : {K : Type 0} (x : K) → slice_get (x ∷ []) (length (x ∷ []) - 1) ≡ Some x
only_last x = refl

-- what rises goes on rising with what is above the last
pub rises_next : {K : Type 0} (order : K → K → Ordering) → IsTotalOrder order → (before : List K) (next : K)
    → IsStrictlySortedBy order before → IsNext order before next
    → IsStrictlySortedBy order (before ++ next ∷ [])
unfolding IsStrictlySortedBy
rises_next order total [] next rising above = (tt, tt)
rises_next order total (x ∷ []) next rising above = ((next_is order (x ∷ []) x next (only_last x) above, tt), (tt, tt))
rises_next order total (x ∷ y ∷ ys) next rising above =
    let rest = rises_next order total (y ∷ ys) next rising.1 (subst (λ o. IfSome o (λ l. order l next ≡ Less)) (same_last x y ys) above)
    in (
      (
        rising.0.0,
        all_and (λ z. order x z ≡ Less) ys next rising.0.1
            (total.trans x y next rising.0.0 (last_of_all (λ z. order y z ≡ Less) ys next rest.0)),
      ),
      rest,
    )

-- what goes on rising is above what was last
pub first_above : {A : Type 0} (P : A → Type 0) (xs : List A) (y : A) (ys : List A) → AllByRecursion P (xs ++ y ∷ ys) → P y
first_above P [] y ys all = all.0
first_above P (x ∷ xs) y ys all = first_above P xs y ys all.1

pub next_of : {K : Type 0} (order : K → K → Ordering) (before : List K) (next : K) (after : List K)
    → IsStrictlySortedBy order (before ++ next ∷ after) → IsNext order before next
unfolding IsStrictlySortedBy
next_of order [] next after rising = tt
next_of order (x ∷ []) next after rising = is_next order (x ∷ []) x next (only_last x) rising.0.0
next_of order (x ∷ y ∷ ys) next after rising =
    subst (λ o. IfSome o (λ l. order l next ≡ Less)) (sym (same_last x y ys)) (next_of order (y ∷ ys) next after rising.1)
