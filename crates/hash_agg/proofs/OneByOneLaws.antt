-- Lists whose items belong to each other, one by one.
use Rattle.std.specs.Prelude.{◌≡◌, refl, suc, Bool, true, false, cond, List, [], ◌∷◌, ◌++◌, filter, length}
use Rattle.std.proofs.Common.{sym, ap, subst}
use Rattle.hash_agg.proofs.Words.{is_empty, Record, is_none, OneByOne}

-- the last of some, and the one that belongs to it
pub record LastOf {X Y : Type 0} (P : X → Y → Type 0) (xs : List X) (x : X) (all : List Y) : Type 0 where
  pub front : List Y
  pub last : Y
  pub is : all ≡ front ++ last ∷ []
  pub are : OneByOne P xs front
  pub one : P x last

module _ {X Y : Type 0} (P : X → Y → Type 0) where
  pub one_append : (xs more : List X) (ys others : List Y) → OneByOne P xs ys → OneByOne P more others
      → OneByOne P (xs ++ more) (ys ++ others)
  one_append [] more [] others are rest = rest
  one_append [] more (y ∷ ys) others are rest = absurd are
  one_append (x ∷ xs) more [] others are rest = absurd are
  one_append (x ∷ xs) more (y ∷ ys) others (first, are) rest = (first, one_append xs more ys others are rest)

  pub as_long : (xs : List X) (ys : List Y) → OneByOne P xs ys → length xs ≡ length ys
  as_long [] [] are = refl
  as_long [] (y ∷ ys) are = absurd are
  as_long (x ∷ xs) [] are = absurd are
  as_long (x ∷ xs) (y ∷ ys) (first, are) = ap suc (as_long xs ys are)

  pub as_empty : (xs : List X) (ys : List Y) → OneByOne P xs ys → is_empty xs ≡ is_empty ys
  as_empty [] [] are = refl
  as_empty [] (y ∷ ys) are = absurd are
  as_empty (x ∷ xs) [] are = absurd are
  as_empty (x ∷ xs) (y ∷ ys) are = refl

  pub none_to_none : (ys : List Y) → OneByOne P [] ys → ys ≡ []
  none_to_none [] are = refl
  none_to_none (y ∷ ys) are = absurd are

  -- those that pass a test, where what belongs to them passes another
  pub one_filtered : (t : X → Bool) (u : Y → Bool) → ((x : X) (y : Y) → P x y → t x ≡ u y) → (xs : List X) (ys : List Y) → OneByOne P xs ys
      → OneByOne P (filter t xs) (filter u ys)
  one_filtered t u same [] [] are = tt
  one_filtered t u same [] (y ∷ ys) are = absurd are
  one_filtered t u same (x ∷ xs) [] are = absurd are
  one_filtered t u same (x ∷ xs) (y ∷ ys) (first, are) =
      let rest = one_filtered t u same xs ys are in
      subst (λ b. OneByOne P (cond b (x ∷ filter t xs) (filter t xs)) (cond (u y) (y ∷ filter u ys) (filter u ys))) (sym (same x y first))
      (elim (u y) as (λ b. OneByOne P (cond b (x ∷ filter t xs) (filter t xs)) (cond b (y ∷ filter u ys) (filter u ys))) [
        | true ↦ (first, rest)
        | false ↦ rest
      ])

  pub last_of : (xs : List X) (x : X) (ys : List Y) → OneByOne P (xs ++ x ∷ []) ys → LastOf P xs x ys
  last_of [] x [] are = absurd are
  last_of [] x (y ∷ []) (first, are) = record { front = []; last = y; is = refl; are = tt; one = first }
  last_of [] x (y ∷ z ∷ ys) (first, are) = absurd are
  last_of (w ∷ xs) x [] are = absurd are
  last_of (w ∷ xs) x (y ∷ ys) (first, are) =
      let found = last_of xs x ys are in
      record { front = y ∷ found.front; last = found.last; is = ap (λ ys. y ∷ ys) found.is; are = (first, found.are); one = found.one }

-- records on a tape are none where none belong to them
pub as_none : {Y : Type 0} (P : Record → Y → Type 0) (rs : List Record) (ys : List Y) → OneByOne P rs ys → is_none rs ≡ is_empty ys
as_none P [] [] are = refl
as_none P [] (y ∷ ys) are = absurd are
as_none P (r ∷ rs) [] are = absurd are
as_none P (r ∷ rs) (y ∷ ys) are = refl
