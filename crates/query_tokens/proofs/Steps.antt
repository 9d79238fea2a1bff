-- Reading tokens one after the other, as a loop does.
use Rattle.std.proofs.Common.{◌≡◌, ℕ, zero, suc, subst, ◌+◌, ◌-◌, ◌≤◌, ◌<◌, Bool, true, false, List, [], ◌∷◌, ◌++◌, length, get_or}
use Rattle.std.proofs.Common.{drop, Result, Ok, Err, refl}
use Rattle.std.proofs.Common.{sym, ap, ◌∙◌, append_assoc, arith}
use Rattle.std.proofs.lemmas.List.{length-drop}
use Rattle.std.specs.Prelude.{◌≢◌}
use Rattle.query_tokens.specs.declared.fault.Fault.{Fault}
use Rattle.query_tokens.specs.declared.fault.TokenError.{TokenError}
use Rattle.query_tokens.specs.declared.fault.TokenError.TheVariants as errors
use Rattle.query_tokens.specs.Words.{Lexeme, Placed}
use Rattle.query_tokens.specs.Bytes.{is_space}
use Rattle.query_tokens.specs.Tokens.{◌>>=◌, Fails, word_at, tokens_at, begins_with}
use Rattle.std.proofs.lemmas.Bool.Decides.{nat_tests}
use Rattle.std.proofs.lemmas.Grind.{common_steps}
use Rattle.query_tokens.specs.Lemmas.Steps.{passes, begun_passes, word_end}

-- what was read before, and what is still read
abbrev pub with_front : List Placed → Result (List Placed) Fault → Result (List Placed) Fault
with_front front read = read >>= λ ts. Ok (front ++ ts)

regroup : (front : List Placed) (t : Placed) (read : Result (List Placed) Fault) → with_front front (read >>= λ ts. Ok (t ∷ ts))
    ≡ with_front (front ++ t ∷ []) read
regroup front t (Ok ts) = ap (λ (x : List Placed). Ok x) (simp append_assoc)
regroup front t (Err f) = refl

abbrev placed : ℕ → Lexeme → List Placed
placed at w = record { at = at; lexeme = w } ∷ []

-- the invariant of the loop: what was read and what is still read is all, where `size` is the length of the text
abbrev pub Told : ℕ → List Placed → List ℕ → Result (List Placed) Fault → Type 0
Told size front rest total = with_front front (tokens_at 0 (size - length rest) rest) ≡ total

pub passes_space : (size : ℕ) (front : List Placed) (rest : List ℕ) (total : Result (List Placed) Fault) → 0 < length rest
    → length rest ≤ size → is_space (get_or rest 0 0) ≡ true → Told size front rest total → Told size front (drop 1 rest) total
unfolding tokens_at
passes_space size front [] total some within blank so_far = absurd (omega (arith, some))
passes_space size front (b ∷ bs) total some within blank so_far = grind (arith, nat_tests, common_steps)

-- what a word leaves is shorter
pub shorter : (at : ℕ) (rest : List ℕ) (w : Lexeme) (after : List ℕ) → 0 < length rest → word_at at rest ≡ Ok (w, after)
    → length after < length rest
shorter at [] w after some h = absurd (omega (arith, some))
shorter at (b ∷ bs) w after some h =
    let e = word_end at b bs w after h in
    let len : length after ≡ length bs - e.len = ap length e.rest_is ∙ length-drop e.len bs in
    omega (arith, len)

pub goes_on : (size : ℕ) (front : List Placed) (rest : List ℕ) (w : Lexeme) (after : List ℕ) (total : Result (List Placed) Fault)
    → 0 < length rest → length rest ≤ size → is_space (get_or rest 0 0) ≡ false
    → word_at (size - length rest) rest ≡ Ok (w, after) → Told size front rest total
    → Told size (front ++ placed (size - length rest) w) after total
unfolding tokens_at
goes_on size front [] w after total some within solid h so_far = absurd (omega (arith, some))
goes_on size front (b ∷ bs) w after total some within solid h so_far =
    let at = size - length (b ∷ bs) in
    let e = word_end at b bs w after h in
    let len : length after ≡ length bs - e.len = ap length e.rest_is ∙ length-drop e.len bs in
    let skip : length bs - length after ≡ e.len = omega (arith, len, e.within) in
    let here : at + 1 + e.len ≡ size - length after = omega (arith, len, e.within, within) in
    let rest : tokens_at (length bs - length after) (at + 1) bs
    ≡ tokens_at 0 (size - length after) after = rw skip (passes e.len (at + 1) bs ∙ rw (here, ← e.rest_is) refl) in
    let one : with_front front (tokens_at 0 at (b ∷ bs)) ≡ with_front (front ++ placed at w) (tokens_at 0 (size - length after) after) =
    rw (solid, h, rest) (regroup front (record { at = at; lexeme = w }) (tokens_at 0 (size - length after) after)) in
    sym one ∙ so_far

pub ends : (e : TokenError) (size : ℕ) (front : List Placed) (rest : List ℕ) (total : Result (List Placed) Fault) → 0 < length rest
    → is_space (get_or rest 0 0) ≡ false → Fails e (word_at (size - length rest) rest) → Told size front rest total → Fails e total
unfolding tokens_at
ends errors.NoMemory size front rest total some solid h so_far = tt
ends (errors.Fault f) size front [] total some solid h so_far = absurd (omega (arith, some))
ends (errors.Fault f) size front (b ∷ bs) total some solid h so_far = grind (arith, nat_tests, common_steps)

pub is_done : (size : ℕ) (front : List Placed) (rest : List ℕ) (total : Result (List Placed) Fault) → length rest < 1
    → Told size front rest total → total ≡ Ok front
unfolding tokens_at
is_done size front (b ∷ bs) total none so_far = absurd (omega (arith, none))
is_done size front [] total none so_far = grind (arith, nat_tests, common_steps)

-- where a byte is left that is no white space, a text that has tokens has more than were read
pub more_left : (size : ℕ) (front : List Placed) (rest : List ℕ) (total : Result (List Placed) Fault) (ts : List Placed) → 0 < length rest
    → is_space (get_or rest 0 0) ≡ false → Told size front rest total → total ≡ Ok ts → length front < length ts
unfolding tokens_at
more_left size front [] total ts some solid so_far e = absurd (omega (arith, some))
more_left size front (b ∷ bs) total ts some solid so_far e = grind (arith, nat_tests, common_steps)

begins_none : (at : ℕ) (rest : List ℕ) → begins_with 0 0 at rest ≡ true
unfolding begins_with
begins_none at rest = refl

begins_past : (tokens size : ℕ) (rest : List ℕ) (total : Bool) → 0 < length rest → length rest ≤ size
    → is_space (get_or rest 0 0) ≡ true → begins_with tokens 0 (size - length rest) rest ≡ total
    → begins_with tokens 0 (size - length (drop 1 rest)) (drop 1 rest) ≡ total
unfolding begins_with
begins_past tokens size [] total some within blank so_far = absurd (omega (arith, some))
begins_past zero size (b ∷ bs) total some within blank so_far = so_far
begins_past (suc k) size (b ∷ bs) total some within blank so_far = grind (arith, nat_tests, common_steps)

begins_behind : (tokens size : ℕ) (rest : List ℕ) (w : Lexeme) (after : List ℕ) (total : Bool) → 0 < length rest
    → length rest ≤ size → is_space (get_or rest 0 0) ≡ false → word_at (size - length rest) rest ≡ Ok (w, after)
    → begins_with (suc tokens) 0 (size - length rest) rest ≡ total → begins_with tokens 0 (size - length after) after ≡ total
unfolding begins_with
begins_behind tokens size [] w after total some within solid h so_far = absurd (omega (arith, some))
begins_behind tokens size (b ∷ bs) w after total some within solid h so_far =
    let at = size - length (b ∷ bs) in
    let e = word_end at b bs w after h in
    let len : length after ≡ length bs - e.len = ap length e.rest_is ∙ length-drop e.len bs in
    let skip : length bs - length after ≡ e.len = omega (arith, len, e.within) in
    let here : at + 1 + e.len ≡ size - length after = omega (arith, len, e.within, within) in
    let rest : begins_with tokens (length bs - length after) (at + 1) bs
    ≡ begins_with tokens 0 (size - length after) after = rw skip (begun_passes tokens e.len (at + 1) bs ∙ rw (here, ← e.rest_is) refl) in
    let one : begins_with (suc tokens) 0 at (b ∷ bs) ≡ begins_with tokens 0 (size - length after) after = rw (solid, h, rest) refl in
    sym one ∙ so_far

-- whether a text begins with so many tokens is whether the rest begins with those that are left
abbrev pub Begins : ℕ → ℕ → ℕ → List ℕ → Bool → Type 0
Begins most count size rest total = begins_with (most - count) 0 (size - length rest) rest ≡ total

pub begins_past_space : (most count size : ℕ) (rest : List ℕ) (total : Bool) → 0 < length rest
    → length rest ≤ size → is_space (get_or rest 0 0) ≡ true → Begins most count size rest total
    → Begins most count size (drop 1 rest) total
begins_past_space most count size rest total some within blank so_far =
    begins_past (most - count) size rest total some within blank so_far

pub begins_further : (most count size : ℕ) (rest : List ℕ) (w : Lexeme) (after : List ℕ) (total : Bool) → count < most
    → 0 < length rest → length rest ≤ size → is_space (get_or rest 0 0) ≡ false
    → word_at (size - length rest) rest ≡ Ok (w, after) → Begins most count size rest total
    → Begins most (count + 1) size after total
begins_further most count size rest w after total low some within solid h so_far =
    let left : most - count ≡ suc (most - (count + 1)) = omega (arith, low) in
    begins_behind (most - (count + 1)) size rest w after total some within solid h
    (subst (λ n. begins_with n 0 (size - length rest) rest ≡ total) left so_far)

pub begins_all : (most count size : ℕ) (rest : List ℕ) (total : Bool) → count ≡ most → Begins most count size rest total → total ≡ true
begins_all most count size rest total all so_far =
    sym so_far ∙ ap (λ n. begins_with n 0 (size - length rest) rest) (omega (arith, all)) ∙ begins_none (size - length rest) rest

begins_no_word : (tokens at : ℕ) (rest : List ℕ) (f : Fault) → 0 < length rest → is_space (get_or rest 0 0) ≡ false
    → word_at at rest ≡ Err f → begins_with (suc tokens) 0 at rest ≡ false
unfolding begins_with
begins_no_word tokens at [] f some solid h = absurd (omega (arith, some))
begins_no_word tokens at (b ∷ bs) f some solid h = rw (solid, h) refl

-- where a word is malformed before so many were read, the text does not begin with so many
pub begins_short : (e : TokenError) (most count size : ℕ) (rest : List ℕ) (total : Bool) → count < most → 0 < length rest
    → is_space (get_or rest 0 0) ≡ false → Fails e (word_at (size - length rest) rest) → Begins most count size rest total
    → e ≢ errors.NoMemory → total ≡ false
begins_short errors.NoMemory most count size rest total low some solid h so_far other = absurd (other refl)
begins_short (errors.Fault f) most count size rest total low some solid h so_far other =
    let left : most - count ≡ suc (most - (count + 1)) = omega (arith, low) in
    sym so_far ∙ ap (λ n. begins_with n 0 (size - length rest) rest) left
    ∙ begins_no_word (most - (count + 1)) (size - length rest) rest f some solid h
