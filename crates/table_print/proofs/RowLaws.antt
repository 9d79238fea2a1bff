-- The members of a list, and the pieces of a text, one after the other.
use Rattle.std.proofs.Common.{◌≡◌, ◌<◌, ◌+◌, ◌∙◌, ap, sym, ℕ, List, [], ◌∷◌, ◌++◌, flat_map, get_or, length, take, Some, slice_get}
use Rattle.std.proofs.lemmas.List.{flat_map_more, take_more}
use Rattle.std.proofs.lemmas.Option.{slice_get_within, get_or_from_slice_get}

-- one more member of a list
pub one_more : {A : Type 0} (xs : List A) (n : ℕ) (x : A) → slice_get xs n ≡ Some x → take (n + 1) xs ≡ take n xs ++ x ∷ []
one_more xs n x h = take_more xs n x (slice_get_within xs n x h) ∙ ap (λ y. take n xs ++ y ∷ []) (get_or_from_slice_get xs n x x h)

-- a text that is one piece longer
pub longer_text : {A : Type 0} (f : A → List ℕ) (xs : List A) (n : ℕ) (d : A) (old text new : List ℕ) → n < length xs
    → text ≡ old ++ flat_map f (take n xs) → new ≡ text ++ f (get_or xs n d) → new ≡ old ++ flat_map f (take (n + 1) xs)
longer_text f xs n d old text new within is more =
    more ∙ ap (λ l. l ++ f (get_or xs n d)) is ∙ flat_map_more f old (take n xs) (get_or xs n d)
    ∙ ap (λ ys. old ++ flat_map f ys) (sym (take_more xs n d within))
