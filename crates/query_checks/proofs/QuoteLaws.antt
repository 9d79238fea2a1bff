-- A string's text piece by piece, each quote being written twice.
use Rattle.std.proofs.Common.{◌≡◌, ℕ, suc, ◌+◌, ◌<◌, Bool, true, false, not, cond, eqb, List, [], ◌∷◌, ◌++◌, length, take, drop, refl, sym}
use Rattle.std.proofs.Common.{ap, ◌∙◌, arith}
use Rattle.std.specs.List.{flat_map, position_or_len, before_first, after_first}
use Rattle.query_tokens.specs.Spelling.{spell_byte}

abbrev pub is_quote : ℕ → Bool
is_quote b = eqb b 39

-- without a quote, bytes stand for themselves
bare : (t : Bool) (b : ℕ) (bs : List ℕ) → is_quote b ≡ t → (position_or_len is_quote bs ≡ length bs → flat_map spell_byte bs ≡ bs)
    → position_or_len is_quote (b ∷ bs) ≡ length (b ∷ bs) → flat_map spell_byte (b ∷ bs) ≡ b ∷ bs
bare true b bs t more h = let z : cond (not (is_quote b)) (1 + position_or_len is_quote bs) 0
    ≡ 0 = rw t refl in absurd (omega (arith, z, h))
bare false b bs t more h =
    let z : cond (not (is_quote b)) (1 + position_or_len is_quote bs) 0 ≡ 1 + position_or_len is_quote bs = rw t refl in
    rw (t, more (omega (arith, z, h))) refl

pub no_quote : (rest : List ℕ) → position_or_len is_quote rest ≡ length rest → flat_map spell_byte rest ≡ rest
no_quote [] h = refl
no_quote (b ∷ bs) h = bare (is_quote b) b bs refl (no_quote bs) h

-- up to the first quote, bytes stand for themselves; it is written twice
peel : (k n b : ℕ) (bs : List ℕ) → k ≡ suc n → take k (b ∷ bs) ++ 39 ∷ 39 ∷ flat_map spell_byte (drop (k + 1) (b ∷ bs)) ≡ b
    ∷ (take n bs ++ 39 ∷ 39 ∷ flat_map spell_byte (drop (n + 1) bs))
peel k n b bs e =
    let next : k + 1 ≡ suc (n + 1) = omega arith in
    rw (next, e) refl

quote_at : (t : Bool) (b : ℕ) (bs : List ℕ) → is_quote b ≡ t
    → (position_or_len is_quote bs < length bs → flat_map spell_byte bs ≡ before_first is_quote bs ++ 39 ∷ 39
    ∷ flat_map spell_byte (after_first is_quote bs))
    → position_or_len is_quote (b ∷ bs) < length (b ∷ bs) → flat_map spell_byte (b ∷ bs) ≡ before_first is_quote (b ∷ bs) ++ 39 ∷ 39
    ∷ flat_map spell_byte (after_first is_quote (b ∷ bs))
quote_at true b bs t more h = rw t refl
quote_at false b bs t more h =
    let z : cond (not (is_quote b)) (1 + position_or_len is_quote bs) 0 ≡ 1 + position_or_len is_quote bs = rw t refl in
    let p : position_or_len is_quote (b ∷ bs) ≡ suc (position_or_len is_quote bs) = omega (arith, z) in
    let one : flat_map spell_byte (b ∷ bs) ≡ b ∷ flat_map spell_byte bs = rw t refl in
    one ∙ ap (λ (rest : List ℕ). b ∷ rest) (more (omega (arith, z, h)))
    ∙ sym (peel (position_or_len is_quote (b ∷ bs)) (position_or_len is_quote bs) b bs p)

pub to_quote : (rest : List ℕ) → position_or_len is_quote rest < length rest → flat_map spell_byte rest ≡ before_first is_quote rest ++ 39
    ∷ 39 ∷ flat_map spell_byte (after_first is_quote rest)
to_quote [] h = absurd (omega (arith, h))
to_quote (b ∷ bs) h = quote_at (is_quote b) b bs refl (to_quote bs) h
