-- The first items of a list, and those after them.
use Rattle.std.proofs.Common.{◌≡◌, ◌<◌, ◌++◌, ◌≤◌, ◌+◌, ℕ, List, [], ◌∷◌, length, drop, take, get_or, sym, ap, arith, add-zero, ◌∙◌}
use Rattle.std.proofs.lemmas.List.{take_more, drop_all, take_all, drop-drop, get_or-drop, length-drop}

-- what follows the first n items
pub next-item : {X : Type 0} (n : ℕ) (xs rest : List X) (x : X) → drop n xs ≡ x ∷ rest
    → (take (n + 1) xs ≡ take n xs ++ (x ∷ [])) × (drop (n + 1) xs ≡ rest)
next-item n xs rest x h =
    let short : n < length xs = grind (arith, length-drop, ap length h) in
    let here : get_or xs n x ≡ x = ap (λ k. get_or xs k x) (sym (add-zero n)) ∙ sym (get_or-drop n xs 0 x) ∙ ap (λ l. get_or l 0 x) h in
    (take_more xs n x short ∙ ap (λ y. take n xs ++ (y ∷ [])) here, sym (drop-drop 1 n xs) ∙ ap (drop 1) h)

-- where nothing follows the first n items, they are all
pub no-item : {X : Type 0} (n m : ℕ) (xs : List X) → drop n xs ≡ [] → n ≤ m → (take n xs ≡ take m xs) × (drop m xs ≡ [])
no-item n m xs h le =
    let long : length xs ≤ n = grind (arith, length-drop, ap length h) in
    (take_all n xs long ∙ sym (take_all m xs (omega arith)), drop_all m xs (omega arith))
