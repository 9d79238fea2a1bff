-- Reading a string piece by piece.
use Rattle.std.proofs.Common.{◌≡◌, ℕ, suc, ◌+◌, ◌<◌, Bool, true, false, not, cond, eqb, List, [], ◌∷◌, ◌++◌, length, take, drop, Option}
use Rattle.std.proofs.Common.{Some, None, refl, sym, ap, ◌∙◌, arith, append_assoc}
use Rattle.std.specs.List.{position_or_len, before_first, after_first}
use Rattle.std.proofs.lemmas.List.{append-nil}
use Rattle.query_tokens.specs.Tokens.{string_content, and_before}
use Rattle.std.proofs.lemmas.Bool.Decides.{nat_tests}
use Rattle.std.proofs.lemmas.Grind.{common_steps}

-- what was read before, and what is still read
abbrev pub with_front : List ℕ → Option (List ℕ × List ℕ) → Option (List ℕ × List ℕ)
with_front front None = None
with_front front (Some x) = Some (front ++ x.0, x.1)

abbrev pub is_quote : ℕ → Bool
is_quote b = eqb b 39

regroup : (a b : List ℕ) (read : Option (List ℕ × List ℕ)) → with_front a (with_front b read) ≡ with_front (a ++ b) read
regroup a b None = refl
regroup a b (Some x) = ap (λ (t : List ℕ). Some (t, x.1)) (sym (append_assoc a b x.0))

one_before : (b : ℕ) (read : Option (List ℕ × List ℕ)) → and_before b read ≡ with_front (b ∷ []) read
one_before b None = refl
one_before b (Some x) = refl

-- with no quote left, the string is open
open_at : (t : Bool) (b : ℕ) (bs : List ℕ) → is_quote b ≡ t → (position_or_len is_quote bs ≡ length bs → string_content false bs ≡ None)
    → position_or_len is_quote (b ∷ bs) ≡ length (b ∷ bs) → string_content false (b ∷ bs) ≡ None
unfolding string_content
open_at true b bs t more h = let z : cond (not (is_quote b)) (1 + position_or_len is_quote bs) 0
    ≡ 0 = rw t refl in absurd (omega (arith, z, h))
open_at false b bs t more h = grind (arith, nat_tests, common_steps)

pub is_open : (rest : List ℕ) → position_or_len is_quote rest ≡ length rest → string_content false rest ≡ None
unfolding string_content
is_open [] h = refl
is_open (b ∷ bs) h = open_at (is_quote b) b bs refl (is_open bs) h

all_of : (read : Option (List ℕ × List ℕ)) → read ≡ with_front [] read
all_of None = refl
all_of (Some x) = refl

peel : (k n b : ℕ) (bs : List ℕ) → k ≡ suc n → with_front (take k (b ∷ bs)) (string_content true (drop (k + 1) (b ∷ bs)))
    ≡ and_before b (with_front (take n bs) (string_content true (drop (n + 1) bs)))
peel k n b bs e = grind (arith, nat_tests, common_steps)

-- up to the first quote, bytes stand for themselves
piece_at : (t : Bool) (b : ℕ) (bs : List ℕ) → is_quote b ≡ t → (position_or_len is_quote bs < length bs → string_content false bs
    ≡ with_front (before_first is_quote bs) (string_content true (after_first is_quote bs)))
    → position_or_len is_quote (b ∷ bs) < length (b ∷ bs) → string_content false (b ∷ bs)
    ≡ with_front (before_first is_quote (b ∷ bs)) (string_content true (after_first is_quote (b ∷ bs)))
unfolding string_content
piece_at true b bs t more h = rw t (all_of (string_content true bs))
piece_at false b bs t more h =
    let z : cond (not (is_quote b)) (1 + position_or_len is_quote bs) 0 ≡ 1 + position_or_len is_quote bs = rw t refl in
    let p : position_or_len is_quote (b ∷ bs) ≡ suc (position_or_len is_quote bs) = omega (arith, z) in
    let one : string_content false (b ∷ bs) ≡ and_before b (string_content false bs) = rw t refl in
    one ∙ ap (λ (q : Option (List ℕ × List ℕ)). and_before b q) (more (omega (arith, z, h)))
    ∙ sym (peel (position_or_len is_quote (b ∷ bs)) (position_or_len is_quote bs) b bs p)

pub to_quote : (rest : List ℕ) → position_or_len is_quote rest < length rest → string_content false rest
    ≡ with_front (before_first is_quote rest) (string_content true (after_first is_quote rest))
unfolding string_content
to_quote [] h = absurd (omega (arith, h))
to_quote (b ∷ bs) h = piece_at (is_quote b) b bs refl (to_quote bs) h

closing_at : (t : Bool) (b : ℕ) (bs : List ℕ) → is_quote b ≡ t → ((rest : List ℕ) → b ∷ bs ≡ 39 ∷ rest → ⊥) → string_content true (b ∷ bs)
    ≡ Some ([], b ∷ bs)
unfolding string_content
closing_at true b bs t h = absurd (h bs (grind (arith, t)))
closing_at false b bs t h = rw t refl

-- a quote with no second one behind it closes
pub closing : (after : List ℕ) → ((rest : List ℕ) → after ≡ 39 ∷ rest → ⊥) → string_content true after ≡ Some ([], after)
unfolding string_content
closing [] h = refl
closing (b ∷ bs) h = closing_at (is_quote b) b bs refl h

pub ends : (content rest piece after : List ℕ) (total : Option (List ℕ × List ℕ)) → string_content false rest
    ≡ with_front piece (string_content true after) → ((more : List ℕ) → after ≡ 39 ∷ more → ⊥)
    → with_front content (string_content false rest) ≡ total → Some (content ++ piece, after) ≡ total
ends content rest piece after total parts closes so_far =
    let one : with_front content (string_content false rest) ≡ Some (content ++ (piece ++ []), after) = rw (parts, closing after closes)
    refl in
    ap (λ (t : List ℕ). Some (content ++ t, after)) (sym (append-nil piece)) ∙ sym one ∙ so_far

pub goes_on : (content rest piece more : List ℕ) (total : Option (List ℕ × List ℕ)) → string_content false rest
    ≡ with_front piece (string_content true (39 ∷ more))
    → with_front content (string_content false rest) ≡ total → with_front ((content ++ piece) ++ 39 ∷ []) (string_content false more)
    ≡ total
unfolding string_content
goes_on content rest piece more total parts so_far =
    let one : string_content false rest ≡ with_front (piece ++ 39 ∷ []) (string_content false more) =
    rw (parts, one_before 39 (string_content false more)) (regroup piece (39 ∷ []) (string_content false more)) in
    let two : with_front content (string_content false rest) ≡ with_front (content ++ (piece ++ 39 ∷ [])) (string_content false more) =
    rw one (regroup content (piece ++ 39 ∷ []) (string_content false more)) in
    rw (append_assoc content piece (39 ∷ [])) (sym two ∙ so_far)
