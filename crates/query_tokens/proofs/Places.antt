-- Where tokens and faults stand.
use Rattle.std.proofs.Common.{◌≡◌, ℕ, zero, suc, ◌+◌, ◌-◌, ◌<◌, ◌≤◌, Bool, true, false, cond, List, [], ◌∷◌, length, Option, Some, None}
use Rattle.std.proofs.Common.{Result, Ok, Err, refl, arith}
use Rattle.std.specs.Prelude.{◌==◌, ◌&&◌}
use Rattle.std.specs.Char.{is_ascii_digit}
use Rattle.std.specs.List.{list_any}
use Rattle.query_tokens.specs.declared.fault.Fault.{Fault}
use Rattle.query_tokens.specs.declared.fault.Fault.TheVariants.{Syntax, NumberTooLarge}
use Rattle.query_tokens.specs.declared.word.Symbol.{Symbol}
use Rattle.query_tokens.specs.Words.{Lexeme, Text, Placed, RiseWithin}
use Rattle.query_tokens.specs.Bytes.{is_space, begins_name, first_is, symbol_of_one, symbol_of_two}
use Rattle.query_tokens.specs.Tokens.{◌>>=◌, name_at, integer_at, string_content, text_or_fault, text_at, symbol_or_fault, longest_symbol}
use Rattle.query_tokens.specs.Tokens.{symbol_at, word_at, tokens_at, tokens_in}
use Rattle.std.proofs.lemmas.Bool.Decides.{nat_tests}
use Rattle.std.proofs.lemmas.Grind.{common_steps}

-- a fault of this place, if one has a place
abbrev pub IsFaultAt : ℕ → Fault → Type 0
IsFaultAt at (Syntax x) = x ≡ at
IsFaultAt at NumberTooLarge = Unit {0}

abbrev IfFault : ℕ → Result (Lexeme × List ℕ) Fault → Type 0
IfFault at (Ok x) = Unit {0}
IfFault at (Err f) = IsFaultAt at f

record FaultsAt (at : ℕ) (read : Result (Lexeme × List ℕ) Fault) : Type 0 where
  fault : IfFault at read

reads : (at : ℕ) (x : Lexeme × List ℕ) → FaultsAt at (Ok x)
reads at x = record { fault = tt {0} }

fails : (at : ℕ) → FaultsAt at (Err (Syntax at))
fails at = record { fault = refl }

too_large : (at : ℕ) → FaultsAt at (Err NumberTooLarge)
too_large at = record { fault = tt {0} }

either : (t : Bool) (at : ℕ) (x y : Result (Lexeme × List ℕ) Fault) → FaultsAt at x → FaultsAt at y → FaultsAt at (cond t x y)
either true at x y h k = h
either false at x y h k = k

name_faults : (at : ℕ) (bytes : List ℕ) → FaultsAt at (name_at at bytes)
unfolding name_at
name_faults at bytes = grind (arith, nat_tests, common_steps)

integer_faults : (at : ℕ) (negative : Bool) (bytes : List ℕ) → FaultsAt at (integer_at at negative bytes)
unfolding integer_at
integer_faults at negative bytes = grind (arith, nat_tests, common_steps)

text_or_faults : (at : ℕ) (q : Option (List ℕ × List ℕ)) → FaultsAt at (text_or_fault at q)
text_or_faults at None = fails at
text_or_faults at (Some x) = either (list_any (λ b. b == 0) x.0) at (Err (Syntax at)) (Ok (Text x.0, x.1)) (fails at)
    (reads at (Text x.0, x.1))

text_faults : (at : ℕ) (bytes : List ℕ) → FaultsAt at (text_at at bytes)
unfolding text_at
text_faults at bytes = text_or_faults at (string_content false bytes)

symbol_or_faults : (at : ℕ) (o : Option Symbol) (rest : List ℕ) → FaultsAt at (symbol_or_fault at o rest)
symbol_or_faults at None rest = fails at
symbol_or_faults at (Some s) rest = reads at _

longest_faults : (at : ℕ) (two one : Option Symbol) (rest : List ℕ) → FaultsAt at (longest_symbol at two one rest)
longest_faults at (Some s) one rest = reads at _
longest_faults at None one rest = symbol_or_faults at one rest

symbol_faults : (at : ℕ) (bytes : List ℕ) → FaultsAt at (symbol_at at bytes)
unfolding symbol_at
symbol_faults at [] = fails at
symbol_faults at (a ∷ []) = symbol_or_faults at (symbol_of_one a) []
symbol_faults at (a ∷ b ∷ bs) = longest_faults at (symbol_of_two a b) (symbol_of_one a) (b ∷ bs)

-- a fault in a word has the word's place
word_faults : (at : ℕ) (bytes : List ℕ) → FaultsAt at (word_at at bytes)
unfolding word_at
word_faults at [] = fails at
word_faults at (b ∷ bs) =
    let word = b ∷ bs in
    let quote = cond (b == 39) (text_at at bs) (symbol_at at word) in
    let minus = cond (b == 45 && first_is is_ascii_digit bs) (integer_at at true bs) quote in
    let digit = cond (is_ascii_digit b) (integer_at at false word) minus in
    either (begins_name b) at (name_at at word) digit (name_faults at word)
    (either (is_ascii_digit b) at (integer_at at false word) minus (integer_faults at false word)
    (either (b == 45 && first_is is_ascii_digit bs) at (integer_at at true bs) quote (integer_faults at true bs)
    (either (b == 39) at (text_at at bs) (symbol_at at word) (text_faults at bs) (symbol_faults at word))))

-- a fault's place, if it has one, is below high
abbrev IsBelow : ℕ → Fault → Type 0
IsBelow high (Syntax x) = x < high
IsBelow high NumberTooLarge = Unit {0}

abbrev IfPlaces : ℕ → ℕ → Result (List Placed) Fault → Type 0
IfPlaces low high (Ok ts) = RiseWithin low high ts
IfPlaces low high (Err f) = IsBelow high f

record StandsWithin (low high : ℕ) (read : Result (List Placed) Fault) : Type 0 where
  places : IfPlaces low high read

either_places : (t : Bool) (low high : ℕ) (x y : Result (List Placed) Fault) → StandsWithin low high x → StandsWithin low high y
    → StandsWithin low high (cond t x y)
either_places true low high x y h k = h
either_places false low high x y h k = k

lower_rise : (low at high : ℕ) (ts : List Placed) → low ≤ at → RiseWithin at high ts → RiseWithin low high ts
lower_rise low at high [] h rise = tt
lower_rise low at high (t ∷ ts) h rise = (omega (arith, h, rise.0), rise.1, rise.2)

lower : (low at high : ℕ) (read : Result (List Placed) Fault) → low ≤ at → StandsWithin at high read → StandsWithin low high read
lower low at high (Ok ts) h k = record { places = lower_rise low at high ts h k.places }
lower low at high (Err f) h k = record { places = k.places }

fault_below : (at high : ℕ) (f : Fault) → at < high → IsFaultAt at f → IsBelow high f
fault_below at high (Syntax x) within is = omega (arith, within, is)
fault_below at high NumberTooLarge within is = tt

one_more : (at high : ℕ) (w : Lexeme) (read : Result (List Placed) Fault) → at < high → StandsWithin (at + 1) high read
    → StandsWithin at high (read >>= λ ts. Ok (record { at = at; lexeme = w } ∷ ts))
one_more at high w (Ok ts) within h = record { places = (omega arith, within, h.places) }
one_more at high w (Err f) within h = record { places = h.places }

word_then : (at high : ℕ) (read : Result (Lexeme × List ℕ) Fault) (after : Lexeme × List ℕ → Result (List Placed) Fault) → at < high
    → FaultsAt at read → ((w : Lexeme × List ℕ) → StandsWithin (at + 1) high (after w))
    → StandsWithin at high (read >>= λ w. after w >>= λ ts. Ok (record { at = at; lexeme = w.0 } ∷ ts))
word_then at high (Ok w) after within h more = one_more at high w.0 (after w) within (more w)
word_then at high (Err f) after within h more = record { places = fault_below at high f within h.fault }

stand_within : (within at high : ℕ) (bytes : List ℕ) → at + length bytes ≡ high → StandsWithin at high (tokens_at within at bytes)
unfolding tokens_at
stand_within zero at high [] end = record { places = tt {0} }
stand_within (suc within) at high [] end = record { places = tt {0} }
stand_within (suc within) at high (b ∷ bs) end = lower at (at + 1) high (tokens_at within (at + 1) bs) (omega arith)
    (stand_within within (at + 1) high bs (omega (arith, end)))
stand_within zero at high (b ∷ bs) end =
    let next : at + 1 + length bs ≡ high = omega (arith, end) in
    let inside : at < high = omega (arith, end) in
    either_places (is_space b) at high _ _ (lower at (at + 1) high (tokens_at 0 (at + 1) bs) (omega arith)
    (stand_within 0 (at + 1) high bs next))
    (word_then at high (word_at at (b ∷ bs)) (λ (w : Lexeme × List ℕ). tokens_at (length bs - length w.1) (at + 1) bs) inside
    (word_faults at (b ∷ bs)) (λ w. stand_within (length bs - length w.1) (at + 1) high bs next))

pub tokens_rise : (text : List ℕ) (ts : List Placed) → tokens_in text ≡ Ok ts → RiseWithin 0 (length text) ts
tokens_rise text ts read = let p = (stand_within 0 0 (length text) text (omega arith)).places in rw read at p

pub fault_within : (text : List ℕ) (at : ℕ) → tokens_in text ≡ Err (Syntax at) → at < length text
fault_within text at read = let p = (stand_within 0 0 (length text) text (omega arith)).places in rw read at p
