-- Files that are a stream, one after the other.
use Rattle.std.specs.Prelude.{◌≡◌, ◌<◌, ◌≤◌, ◌+◌, ℕ, zero, suc, Bool, true, false, List, [], ◌∷◌, length, map, if◌then◌else◌}
use Rattle.std.specs.List.{filter}
use Rattle.std.proofs.Common.{◌∙◌, ap, sym, arith, refl, take, drop, get_or, cond}
use Rattle.std.proofs.lemmas.List.{take-append-drop, length-append}
use Rattle.std.proofs.lemmas.List.Elements.{filter-append}
use Rattle.std.proofs.lemmas.List.Filters.{length-filter_more}
use Rattle.command_words.specs.Streams.{is_stream, streams_of}
use Rattle.command_words.specs.declared.streams.Input.{Input}

-- those that pass among the first are no more than those among all
few : {X : Type 0} (p : X → Bool) (xs : List X) (n : ℕ) → length (filter p (take n xs)) ≤ length (filter p xs)
few p xs n =
    let whole = ap (λ l. length (filter p l)) (sym (take-append-drop n xs)) ∙ ap length (filter-append p (take n xs) (drop n xs)) in
    let both = length-append (filter p (take n xs)) (filter p (drop n xs)) in
    omega (arith, whole, both)

-- a further one that passes makes two
pub two : {X : Type 0} (p : X → Bool) (xs : List X) (i : ℕ) (d : X) → i < length xs → length (filter p (take i xs)) ≡ 1
    → p (get_or xs i d) ≡ true → length (filter p xs) ≤ 1 → ⊥
two p xs i d within one passes most =
    let more = length-filter_more p xs i d within in
    let added : ◌≡◌ {A = ℕ} (cond (p (get_or xs i d)) 1 0) 1 = rw passes refl in
    let front = few p xs (i + 1) in
    omega (arith, more, added, front, one, most)

-- a further one, and its path, are both left out or not
both : {X Y : Type 0} (is : Bool) (x : X) (y : Y) (xs : List X) (ys : List Y) → length xs ≡ length ys
    → length (if is then x ∷ xs else xs) ≡ length (if is then y ∷ ys else ys)
both true x y xs ys same = ap suc same
both false x y xs ys same = same

-- they are as many as their paths that are
by_paths : (inputs : List Input) → streams_of inputs ≡ length (filter is_stream (map (λ input. input.path.now) inputs))
by_paths [] = refl
by_paths (input ∷ inputs) =
    both (is_stream input.path.now) input input.path.now (filter (λ input. is_stream input.path.now) inputs)
    (filter is_stream (map (λ input. input.path.now) inputs)) (by_paths inputs)

-- and so by the paths that a command line tells
pub by_told : (inputs all : List Input) (paths : List (List ℕ)) → inputs ≡ all → map (λ input. input.path.now) all ≡ paths
    → streams_of inputs ≡ length (filter is_stream paths)
by_told inputs all paths same told =
    by_paths inputs ∙ ap (λ paths. length (filter is_stream paths)) (ap (map (λ (input : Input). input.path.now)) same ∙ told)

-- more than one, where they are not one at most
pub several : (n : ℕ) → (n ≤ 1 → ⊥) → 1 < n
several zero not = absurd (not (omega arith))
several (suc zero) not = absurd (not (omega arith))
several (suc (suc n)) not = omega arith
