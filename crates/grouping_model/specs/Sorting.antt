-- Insertion sort, which leaves what ties in its order, and that it is the one list which rises so.
use Rattle.std.proofs.Common.{sym, ◌∙◌, ap, subst, refl, arith, true≢false}
use Rattle.std.specs.Prelude.{◌≡◌, ℕ, zero, suc, ◌+◌, ◌<◌, Bool, true, false, not, ◌&&◌, List, [], ◌∷◌, map, filter, length, slice_index_or}
use Rattle.std.specs.Prelude.{if◌then◌else◌}
use Rattle.std.specs.Cmp.{IsStrictWeakOrder}
use Rattle.std.specs.List.{AllByRecursion}
use Rattle.std.specs.List.Sorted.{ties, IsSortedBy, IsStableBy, IsPermutation}
use Rattle.std.proofs.lemmas.List.Sorted.{IsPermutation-refl, IsPermutation-cons, IsPermutation-insert, IsPermutation-trans}
use Rattle.std.proofs.lemmas.Bool.{cond-true, cond-false, and_parts, and_from}
use Rattle.list_laws.specs.Each.{each_weaker}

-- x before the first that is not less than it
abbrev pub put_before : {X : Type 0} → (X → X → Bool) → X → List X → List X
put_before lt x [] = x ∷ []
put_before lt x (y ∷ ys) = if lt y x then y ∷ put_before lt x ys else x ∷ y ∷ ys

-- a list in order: members that tie keep their order
abbrev pub sorted_by : {X : Type 0} → (X → X → Bool) → List X → List X
sorted_by lt [] = []
sorted_by lt (x ∷ xs) = put_before lt x (sorted_by lt xs)

-- none is less than one before it
abbrev pub Rises : {X : Type 0} → (X → X → Bool) → List X → Type 0
Rises lt [] = Unit {0}
Rises lt (x ∷ xs) = AllByRecursion (λ y. lt y x ≡ false) xs × Rises lt xs

-- nothing is less than itself
irreflexive : {X : Type 0} (lt : X → X → Bool) → IsStrictWeakOrder lt → (x : X) → lt x x ≡ false
irreflexive lt order x = go (lt x x) refl
  where
    go : (b : Bool) → lt x x ≡ b → lt x x ≡ false
    go false e = e
    go true e = order.one_way x x e

-- ---- a sorted list rises

put_each : {X : Type 0} (lt : X → X → Bool) (P : X → Type 0) (x : X) (ys : List X) → P x → AllByRecursion P ys
    → AllByRecursion P (put_before lt x ys)
put_each lt P x [] px all = (px, tt)
put_each lt P x (y ∷ ys) px all = go (put_each lt P x ys px all.1) (lt y x) refl
  where
    go : AllByRecursion P (put_before lt x ys) → (b : Bool) → lt y x ≡ b → AllByRecursion P (put_before lt x (y ∷ ys))
    go behind true e = subst (AllByRecursion P) (sym (cond-true (lt y x) _ _ e)) (all.0, behind)
    go behind false e = subst (AllByRecursion P) (sym (cond-false (lt y x) _ _ e)) (px, all)

put_rises : {X : Type 0} (lt : X → X → Bool) → IsStrictWeakOrder lt → (x : X) (ys : List X) → Rises lt ys → Rises lt (put_before lt x ys)
put_rises lt order x [] rises = (tt, tt)
put_rises lt order x (y ∷ ys) rises = go (put_rises lt order x ys rises.1) (lt y x) refl
  where
    go : Rises lt (put_before lt x ys) → (b : Bool) → lt y x ≡ b → Rises lt (put_before lt x (y ∷ ys))
    go behind true e =
        subst (Rises lt) (sym (cond-true (lt y x) _ _ e))
        (put_each lt (λ z. lt z y ≡ false) x ys (order.one_way y x e) rises.0, behind)
    go behind false e =
        subst (Rises lt) (sym (cond-false (lt y x) _ _ e))
        ((e, each_weaker (λ z. lt z y ≡ false) (λ z. lt z x ≡ false) (λ z below. order.chain z y x below e) ys rises.0), rises)

pub sorted_rises : {X : Type 0} (lt : X → X → Bool) → IsStrictWeakOrder lt → (xs : List X) → Rises lt (sorted_by lt xs)
sorted_rises lt order [] = tt
sorted_rises lt order (x ∷ xs) = put_rises lt order x (sorted_by lt xs) (sorted_rises lt order xs)

-- ---- what ties stays in its order

-- x and y tie where x ties with z and z with y
ties_with : {X : Type 0} (lt : X → X → Bool) → IsStrictWeakOrder lt → (z x y : X) → ties lt z x ≡ true → ties lt z y ≡ true → lt y x ≡ false
ties_with lt order z x y tx ty = order.chain y z x (not_true (lt y z) (and_parts (not (lt z y)) (not (lt y z)) ty).1)
    (not_true (lt z x) (and_parts (not (lt z x)) (not (lt x z)) tx).0)
  where
    not_true : (b : Bool) → not b ≡ true → b ≡ false
    not_true false e = refl
    not_true true e = sym e

-- a list after a filter
filter_put : {X : Type 0} (lt : X → X → Bool) (p : X → Bool) (x : X) → ((y : X) → p x ≡ true → p y ≡ true → lt y x ≡ false) → (ys : List X)
    → filter p (put_before lt x ys) ≡ filter p (x ∷ ys)
filter_put lt p x apart [] = refl
filter_put {X = X} lt p x apart (y ∷ ys) = go (filter_put lt p x apart ys) (lt y x) refl
  where
    swapped : (bx by : Bool) → (by ≡ true → bx ≡ true → false ≡ true) → (rest : List X) → if by then y ∷ (if bx then x ∷ rest else rest)
        else (if bx then x ∷ rest else rest) ≡ if bx then x ∷ (if by then y ∷ rest else rest) else (if by then y ∷ rest else rest)
    swapped true true never rest = absurd (true≢false (sym (never refl refl)))
    swapped true false never rest = refl
    swapped false true never rest = refl
    swapped false false never rest = refl

    go : filter p (put_before lt x ys) ≡ filter p (x ∷ ys) → (b : Bool) → lt y x ≡ b → filter p (put_before lt x (y ∷ ys))
        ≡ filter p (x ∷ y ∷ ys)
    go behind false e = ap (filter p) (cond-false (lt y x) _ _ e)
    go behind true e =
        ap (filter p) (cond-true (lt y x) _ _ e)
        ∙ ap (λ rest. if p y then y ∷ rest else rest) behind
        ∙ swapped (p x) (p y) (λ py px. sym (apart y px py) ∙ e) (filter p ys)

pub sorted_stable : {X : Type 0} (lt : X → X → Bool) → IsStrictWeakOrder lt → (xs : List X) → IsStableBy lt xs (sorted_by lt xs)
sorted_stable lt order [] z = refl
sorted_stable lt order (x ∷ xs) z =
    filter_put lt (ties lt z) x (λ y tx ty. ties_with lt order z x y tx ty) (sorted_by lt xs)
    ∙ ap (λ rest. if ties lt z x then x ∷ rest else rest) (sorted_stable lt order xs z)

-- ---- it has the same members

put_moves : {X : Type 0} (lt : X → X → Bool) (x : X) (ys : List X) → IsPermutation (x ∷ ys) (put_before lt x ys)
put_moves lt x [] = IsPermutation-refl (x ∷ [])
put_moves lt x (y ∷ ys) = go (put_moves lt x ys) (lt y x) refl
  where
    go : IsPermutation (x ∷ ys) (put_before lt x ys) → (b : Bool) → lt y x ≡ b → IsPermutation (x ∷ y ∷ ys) (put_before lt x (y ∷ ys))
    go behind true e =
        subst (IsPermutation (x ∷ y ∷ ys)) (sym (cond-true (lt y x) _ _ e))
        (IsPermutation-trans (x ∷ y ∷ ys) (y ∷ x ∷ ys) (y ∷ put_before lt x ys) (IsPermutation-insert (y ∷ ys) 1 x)
        (IsPermutation-cons y (x ∷ ys) (put_before lt x ys) behind))
    go behind false e = subst (IsPermutation (x ∷ y ∷ ys)) (sym (cond-false (lt y x) _ _ e)) (IsPermutation-refl (x ∷ y ∷ ys))

pub sorted_moves : {X : Type 0} (lt : X → X → Bool) (xs : List X) → IsPermutation xs (sorted_by lt xs)
sorted_moves lt [] = IsPermutation-refl []
sorted_moves lt (x ∷ xs) =
    IsPermutation-trans (x ∷ xs) (x ∷ sorted_by lt xs) (put_before lt x (sorted_by lt xs))
    (IsPermutation-cons x xs (sorted_by lt xs) (sorted_moves lt xs)) (put_moves lt x (sorted_by lt xs))

-- ---- there is one such list

-- where no member passes a test, a filter leaves none
filter_none : {X : Type 0} (p : X → Bool) (xs : List X) → AllByRecursion (λ x. p x ≡ false) xs → filter p xs ≡ []
filter_none p [] none = refl
filter_none p (x ∷ xs) none = cond-false (p x) _ _ none.0 ∙ filter_none p xs none.1

-- a rising list begins with its least member: nothing in it ties with what is less
none_ties : {X : Type 0} (lt : X → X → Bool) → IsStrictWeakOrder lt → (x z : X) (zs : List X) → Rises lt (z ∷ zs) → lt x z ≡ true
    → filter (ties lt x) (z ∷ zs) ≡ []
none_ties {X = X} lt order x z zs rises less =
    filter_none (ties lt x) (z ∷ zs)
    (apart z (irreflexive lt order z), each_weaker (λ w. lt w z ≡ false) (λ w. ties lt x w ≡ false) apart zs rises.0)
  where
    apart : (w : X) → lt w z ≡ false → ties lt x w ≡ false
    apart w above = go (lt x w) refl
      where
        go : (b : Bool) → lt x w ≡ b → ties lt x w ≡ false
        go true e = ap (λ b. not b && not (lt w x)) e
        go false e = absurd (true≢false (sym less ∙ order.chain x w z e above))

-- two rising lists with the same ties begin with the same member
first_ties : {X : Type 0} (lt : X → X → Bool) → IsStrictWeakOrder lt → (y z : X) (ys zs : List X) → Rises lt (z ∷ zs)
    → filter (ties lt y) (y ∷ ys) ≡ filter (ties lt y) (z ∷ zs) → lt y z ≡ false
first_ties lt order y z ys zs rises same = go (lt y z) refl
  where
    itself : ties lt y y ≡ true
    itself = ap (λ b. not b && not b) (irreflexive lt order y)

    go : (b : Bool) → lt y z ≡ b → lt y z ≡ false
    go false e = e
    go true e =
        let gone : y ∷ filter (ties lt y) ys ≡ [] = sym (cond-true (ties lt y y) _ _ itself) ∙ same ∙ none_ties lt order y z zs rises e in
        cc gone

pub rises_once : {X : Type 0} (lt : X → X → Bool) → IsStrictWeakOrder lt → (ys zs : List X) → Rises lt ys → Rises lt zs
    → IsStableBy lt zs ys → ys ≡ zs
rises_once lt order [] [] up high same = refl
rises_once lt order [] (z ∷ zs) up high same =
    let some : [] ≡ z ∷ filter (ties lt z) zs = same z ∙ cond-true (ties lt z z) _ _ (ap (λ b. not b && not b) (irreflexive lt order z)) in
    cc some
rises_once lt order (y ∷ ys) [] up high same =
    let some : y ∷ filter (ties lt y) ys ≡ [] = sym (cond-true (ties lt y y) _ _ (ap (λ b. not b && not b) (irreflexive lt order y)))
    ∙ same y in
    cc some
rises_once {X = X} lt order (y ∷ ys) (z ∷ zs) up high same =
    let low : lt y z ≡ false = first_ties lt order y z ys zs high (same y) in
    let not_less : lt z y ≡ false = first_ties lt order z y zs ys up (sym (same z)) in
    let tied : ties lt y z ≡ true = and_from (not (lt y z)) (not (lt z y)) (ap not low) (ap not not_less) in
    let itself : ties lt y y ≡ true = ap (λ b. not b && not b) (irreflexive lt order y) in
    let firsts : y ∷ filter (ties lt y) ys ≡ z ∷ filter (ties lt y) zs = sym (cond-true (ties lt y y) _ _ itself) ∙ same y
    ∙ cond-true (ties lt y z) _ _ tied in
    let first : y ≡ z = cc firsts in
    let behind : (x : X) → filter (ties lt x) ys ≡ filter (ties lt x) zs = λ x. left_behind (ties lt x) y z ys zs first (same x) in
    let rest : ys ≡ zs = rises_once lt order ys zs up.1 high.1 behind in
    λ i. first i ∷ rest i
  where
    left_behind : (p : X → Bool) (y z : X) (ys zs : List X) → y ≡ z → filter p (y ∷ ys) ≡ filter p (z ∷ zs) → filter p ys ≡ filter p zs
    left_behind p y z ys zs e all = go (p y) refl
      where
        go : (b : Bool) → p y ≡ b → filter p ys ≡ filter p zs
        go true pe =
            let both : y ∷ filter p ys ≡ z ∷ filter p zs = sym (cond-true (p y) _ _ pe) ∙ all ∙ cond-true (p z) _ _ (ap p (sym e) ∙ pe) in
            cc both
        go false pe = sym (cond-false (p y) _ _ pe) ∙ all ∙ cond-false (p z) _ _ (ap p (sym e) ∙ pe)

-- ---- what a sort ensures

-- a list that is in order place by place rises
index_rises : {X : Type 0} (lt : X → X → Bool) → IsStrictWeakOrder lt → (xs : List X) → IsSortedBy lt xs → Rises lt xs
index_rises lt order [] sorted = tt
index_rises lt order (x ∷ []) sorted = (tt, tt)
index_rises {X = X} lt order (x ∷ y ∷ xs) sorted =
    let behind : Rises lt (y ∷ xs) = index_rises lt order (y
    ∷ xs) (λ k d low high. moved k d (sorted (suc k) d (omega arith) (omega (arith, high)))) in
    let next : lt y x ≡ false = sorted 0 x (omega arith) (omega arith) in
    ((next, each_weaker (λ z. lt z y ≡ false) (λ z. lt z x ≡ false) (λ z above. order.chain z y x above next) xs behind.0), behind)
  where
    moved : (k : ℕ) (d : X) → lt (slice_index_or (x ∷ y ∷ xs) (suc k + 1) d) (slice_index_or (y ∷ xs) k d) ≡ false
        → lt (slice_index_or (y ∷ xs) (k + 1) d) (slice_index_or (y ∷ xs) k d) ≡ false
    moved k d below = let more : suc k + 1
        ≡ suc (k + 1) = omega arith in subst (λ n. lt (slice_index_or (x ∷ y ∷ xs) n d) (slice_index_or (y ∷ xs) k d) ≡ false) more below

-- and the other way round
rises_index : {X : Type 0} (lt : X → X → Bool) (xs : List X) → Rises lt xs → IsSortedBy lt xs
rises_index lt [] rises = λ k d low high. absurd (none_below k high)
  where
    none_below : (k : ℕ) → k + 1 < 0 → ⊥
    none_below k less = omega (arith, less)
rises_index {X = X} lt (x ∷ xs) rises = λ k d low high. at k d high (rises_index lt xs rises.1)
  where
    first : (xs : List X) (d : X) → AllByRecursion (λ y. lt y x ≡ false) xs → 0 < length xs → lt (slice_index_or xs 0 d) x ≡ false
    first [] d all some = absurd (omega (arith, some))
    first (y ∷ ys) d all some = all.0

    at : (k : ℕ) (d : X) → k + 1 < length (x ∷ xs) → IsSortedBy lt xs → lt (slice_index_or (x ∷ xs) (k + 1) d) (slice_index_or (x ∷ xs) k d)
        ≡ false
    at zero d high behind = first xs d rises.0 (omega (arith, high))
    at (suc k) d high behind =
        let more : suc k + 1 ≡ suc (k + 1) = omega arith in
        subst (λ n. lt (slice_index_or (x ∷ xs) n d) (slice_index_or xs k d) ≡ false) (sym more)
        (behind k d (omega arith) (omega (arith, high)))

pub sorted_in_order : {X : Type 0} (lt : X → X → Bool) → IsStrictWeakOrder lt → (xs : List X) → IsSortedBy lt (sorted_by lt xs)
sorted_in_order lt order xs = rises_index lt (sorted_by lt xs) (sorted_rises lt order xs)

-- so a stable sort makes this list
pub sorted_once : {X : Type 0} (lt : X → X → Bool) → IsStrictWeakOrder lt → (xs ys : List X) → IsSortedBy lt ys → IsStableBy lt xs ys → ys
    ≡ sorted_by lt xs
sorted_once lt order xs ys sorted stable =
    rises_once lt order ys (sorted_by lt xs) (index_rises lt order ys sorted) (sorted_rises lt order xs)
    (λ x. stable x ∙ sym (sorted_stable lt order xs x))

-- ---- members that stand for others

put_mapped : {X Y : Type 0} (lt : Y → Y → Bool) (f : X → Y) (x : X) (ys : List X) → map f (put_before (λ a b. lt (f a) (f b)) x ys)
    ≡ put_before lt (f x) (map f ys)
put_mapped lt f x [] = refl
put_mapped lt f x (y ∷ ys) =
    elim (lt (f y) (f x)) as (λ b. map f (if b then y ∷ put_before (λ a b. lt (f a) (f b)) x ys else x ∷ y ∷ ys)
    ≡ (if b then f y ∷ put_before lt (f x) (map f ys) else f x ∷ f y ∷ map f ys)) [
      | true ↦ ap (λ zs. f y ∷ zs) (put_mapped lt f x ys)
      | false ↦ refl
    ]

-- they are sorted as what they stand for
pub sorted_mapped : {X Y : Type 0} (lt : Y → Y → Bool) (f : X → Y) (xs : List X) → map f (sorted_by (λ a b. lt (f a) (f b)) xs)
    ≡ sorted_by lt (map f xs)
sorted_mapped lt f [] = refl
sorted_mapped lt f (x ∷ xs) = put_mapped lt f x (sorted_by (λ a b. lt (f a) (f b)) xs) ∙ ap (put_before lt (f x)) (sorted_mapped lt f xs)
