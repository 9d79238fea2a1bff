-- The function of a name.
use Rattle.std.proofs.Common.{◌≡◌, Bool, true, false, List, [], ◌∷◌, map, option_map, find, refl}

-- what is found in a list of images
found_first : {A B : Type 0} (p : B → Bool) (f : A → B) (x : A) (xs : List A) (there : Bool) → p (f x) ≡ there
    → option_map f (find (λ x. p (f x)) xs) ≡ find p (map f xs)
    → option_map f (find (λ x. p (f x)) (x ∷ xs)) ≡ find p (map f (x ∷ xs))
found_first p f x xs true e more = rw e refl
found_first p f x xs false e more = rw e more

pub find_mapped : {A B : Type 0} (p : B → Bool) (f : A → B) (xs : List A) → option_map f (find (λ x. p (f x)) xs) ≡ find p (map f xs)
find_mapped p f [] = refl
find_mapped p f (x ∷ xs) = found_first p f x xs (p (f x)) refl (find_mapped p f xs)
