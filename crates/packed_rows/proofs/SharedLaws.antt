-- Rows among others, one after the other.
use Rattle.std.specs.Prelude.{refl, Bool, true, false, nat_eq, not}
use Rattle.std.specs.Cmp.Lexicographic.{pointwise, same_text}
use Rattle.std.specs.Prelude.{◌≡◌, ℕ, ◌+◌, ◌-◌, ◌<◌, ◌≤◌, List, [], ◌∷◌, ◌++◌, drop, length, slice_get, slice_index_or, take, Some}
use Rattle.std.proofs.Common.{sym, ◌∙◌, ap, arith}
use Rattle.std.proofs.lemmas.List.{drop-drop, drop-take, get_or-drop, length-drop, take-take, take_more, take_more_same}
use Rattle.std.proofs.lemmas.Option.{get_or_from_slice_get, slice_get_within}

module _ {X : Type 0} where
  -- one more of those from a place on
  pub one_more : (xs : List X) (first i : ℕ) (x : X) → slice_get xs (first + i) ≡ Some x
      → take (i + 1) (drop first xs) ≡ take i (drop first xs) ++ x ∷ []
  one_more xs first i x there =
      let low : first + i < length xs = slice_get_within xs (first + i) x there in
      let long : length (drop first xs) ≡ length xs - first = length-drop first xs in
      take_more (drop first xs) i x (omega (arith, low, long))
      ∙ ap (λ (y : X). take i (drop first xs) ++ y ∷ []) (get_or-drop first xs i x ∙ get_or_from_slice_get xs (first + i) x x there)

  -- the same of the first ones
  pub next_is : (xs : List X) (i : ℕ) (x : X) → slice_get xs i ≡ Some x → take (i + 1) xs ≡ take i xs ++ x ∷ []
  next_is xs i x there =
      take_more xs i x (slice_get_within xs i x there) ∙ ap (λ (y : X). take i xs ++ y ∷ []) (get_or_from_slice_get xs i x x there)

  -- some of some
  pub part_of_part : (xs : List X) (before count first n : ℕ) → first + n ≤ count
      → take n (drop (before + first) xs) ≡ take n (drop first (take count (drop before xs)))
  part_of_part xs before count first n within =
      let more = count - first in
      let all : count ≡ first + more = omega (arith, within) in
      ap (take n) (sym (drop-drop first before xs))
      ∙ sym (take-take n more (drop first (drop before xs)) (omega (arith, within)))
      ∙ ap (take n) (sym (drop-take first more (drop before xs)))
      ∙ ap (λ k. take n (drop first (take k (drop before xs)))) (sym all)

  -- lists that begin alike, with one more that is the same
  pub same_more : (xs ys : List X) (i : ℕ) (x y : X) → slice_get xs i ≡ Some x → slice_get ys i ≡ Some y → x ≡ y
      → take i xs ≡ take i ys → take (i + 1) xs ≡ take (i + 1) ys
  same_more xs ys i x y there there_too same so_far =
      take_more_same xs ys i x (slice_get_within xs i x there) (slice_get_within ys i y there_too) so_far
      (get_or_from_slice_get xs i x x there ∙ same ∙ sym (get_or_from_slice_get ys i y x there_too))

  -- with one more that differs they differ
  pub other_more : (xs ys : List X) (i : ℕ) (x y : X) → slice_get xs i ≡ Some x → slice_get ys i ≡ Some y → xs ≡ ys → x ≡ y
  other_more xs ys i x y there there_too same =
      sym (get_or_from_slice_get xs i x x there) ∙ ap (λ zs. slice_index_or zs i x) same ∙ get_or_from_slice_get ys i y x there_too

-- texts of which it is not told that they differ are the same
pub no_difference : (xs ys : List ℕ) → false ≡ not (pointwise nat_eq xs ys) → xs ≡ ys
no_difference xs ys e = same_text xs ys (go (pointwise nat_eq xs ys) e)
  where
    go : (b : Bool) → false ≡ not b → true ≡ b
    go true e = refl
    go false e = absurd cc
