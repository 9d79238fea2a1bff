-- The fronts of a list, and the longest that fits.
use Rattle.std.specs.Prelude.{◌≡◌, refl, ℕ, zero, suc, ◌+◌, ◌≤◌, Bool, true, cond, List, [], ◌∷◌, map, take, length}
use Rattle.std.proofs.Common.{sym, ◌∙◌, ap, subst, arith}
use Rattle.std.specs.List.{AllByRecursion, prefix_len}
use Rattle.std.proofs.lemmas.List.{take-map, length-map, take_all}
use Rattle.std.proofs.lemmas.List.Elements.{recursion_from_All}
use Rattle.aggregation_cost.specs.Space.{Key, Setting, fits, fronts}
use Rattle.aggregation_cost.specs.Passes.{taken, AllFit}
use Rattle.std.proofs.lemmas.Bool.Decides.{nat_tests}
use Rattle.std.proofs.lemmas.Grind.{common_steps}

pub fronts-take : {X : Type 0} (n : ℕ) (xs : List X) → fronts (take n xs) ≡ take n (fronts xs)
fronts-take zero xs = refl
fronts-take (suc n) [] = refl
fronts-take (suc n) (x ∷ xs) = ap (λ ys. (x ∷ []) ∷ map (λ front. x ∷ front) ys) (fronts-take n xs)
    ∙ ap (λ ys. (x ∷ []) ∷ ys) (sym (take-map (λ front. x ∷ front) n (fronts xs)))

pub length-fronts : {X : Type 0} (xs : List X) → length (fronts xs) ≡ length xs
length-fronts [] = refl
length-fronts (x ∷ xs) = ap suc (length-map (fronts xs) (λ front. x ∷ front) ∙ length-fronts xs)

-- ---- the longest front that passes

abbrev pub passing : {X : Type 0} → (X → Bool) → List X → Type 0
passing p xs = AllByRecursion (λ x. p x ≡ true) xs

pub no_longer : {X : Type 0} (p : X → Bool) (n : ℕ) (xs : List X) → n ≤ length xs → passing p (take n xs) → n ≤ prefix_len p xs
no_longer p zero xs within pass = omega arith
no_longer p (suc n) [] within pass = absurd (omega arith)
no_longer p (suc n) (x ∷ xs) within (hit, pass) =
    let rest : n ≤ prefix_len p xs = no_longer p n xs (omega arith) pass in
    let more : suc n ≤ 1 + prefix_len p xs = omega arith in
    subst (λ b. suc n ≤ cond b (1 + prefix_len p xs) 0) (sym hit) more

-- ---- the keys that are taken

-- where all fit, all are taken
pub all_taken : (setting : Setting) (keys : List Key) → AllFit setting keys → taken setting keys ≡ keys
all_taken setting keys fit =
    let pass : passing (fits setting) (take (length keys) (fronts keys)) = subst (passing (fits setting))
    (ap fronts (sym (take_all (length keys) keys (omega arith))) ∙ fronts-take (length keys) keys)
    (recursion_from_All (λ front. fits setting front ≡ true) (fronts keys) fit) in
    let of_all : length (fronts keys) ≡ length keys = length-fronts keys in
    let most : length keys ≤ prefix_len (fits setting) (fronts keys) = no_longer (fits setting) (length keys) (fronts keys) (omega arith)
    pass in
    take_all (prefix_len (fits setting) (fronts keys)) keys most

-- where the first key fits by itself, it is taken
pub first_taken : (setting : Setting) (key : Key) (keys : List Key) → fits setting (key ∷ []) ≡ true → taken setting (key ∷ keys) ≡ key
    ∷ take (prefix_len (fits setting) (map (λ front. key ∷ front) (fronts keys))) keys
first_taken setting key keys fit = grind (arith, nat_tests, common_steps)
