-- The tokens of a text make it up, with the white space between them.
use Rattle.std.proofs.Common.{◌≡◌, ℕ, zero, suc, ◌+◌, ◌-◌, Bool, true, false, cond, List, [], ◌∷◌, ◌++◌, length, take, drop, Option, Some}
use Rattle.std.proofs.Common.{None, Result, Ok, Err, refl, sym, ap, subst, ◌∙◌, inl, arith, length-append, length-drop}
use Rattle.std.specs.Prelude.{ℤ, ◌==◌, ◌&&◌, flat_map}
use Rattle.std.specs.Char.{is_ascii_digit}
use Rattle.std.specs.List.{prefix_len, list_all}
use Rattle.std.proofs.lemmas.List.{take-append-drop}
use Rattle.query_tokens.specs.declared.fault.Fault.{Fault}
use Rattle.query_tokens.specs.declared.fault.Fault.TheVariants.{Syntax}
use Rattle.query_tokens.specs.declared.word.Symbol.{Symbol}
use Rattle.query_tokens.specs.Words.{Lexeme, Integer, Sign, Placed}
use Rattle.query_tokens.specs.Bytes.{is_space, begins_name, first_is, symbol_of_one, symbol_of_two}
use Rattle.query_tokens.specs.Tokens.{◌>>=◌, number_after, integer_of, integer_or_fault, name_at, integer_at, string_content, and_before}
use Rattle.query_tokens.specs.Tokens.{text_or_fault, text_at, symbol_or_fault, longest_symbol, symbol_at, word_at, tokens_at, tokens_in}
use Rattle.query_tokens.specs.Spelling.{spell_byte, spell_symbol}
use Rattle.query_tokens.specs.Wholes.{IsTextOf, MakeUp}
use Rattle.query_tokens.specs.Lemmas.Steps.{word_end}
use Rattle.std.proofs.lemmas.Bool.Decides.{nat_tests}
use Rattle.std.proofs.lemmas.Grind.{common_steps}

abbrev IfOwn : List ℕ → Result (Lexeme × List ℕ) Fault → Type 0
IfOwn bytes (Ok x) = (own : List ℕ) × (bytes ≡ own ++ x.1) × IsTextOf x.0 own
IfOwn bytes (Err f) = Unit {0}

-- what is read, if anything is, stands in front of what is left
record ReadsOwn (bytes : List ℕ) (read : Result (Lexeme × List ℕ) Fault) : Type 0 where
  owned : IfOwn bytes read

fails : (bytes : List ℕ) (f : Fault) → ReadsOwn bytes (Err f)
fails bytes f = record { owned = tt {0} }

reads : (bytes : List ℕ) (w : Lexeme) (rest own : List ℕ) → bytes ≡ own ++ rest → IsTextOf w own → ReadsOwn bytes (Ok (w, rest))
reads bytes w rest own is says = record { owned = (own, is, says) }

either : (bytes : List ℕ) (t : Bool) (x y : Result (Lexeme × List ℕ) Fault) → (t ≡ true → ReadsOwn bytes x) → (t ≡ false → ReadsOwn bytes y)
    → ReadsOwn bytes (cond t x y)
either bytes true x y h k = h refl
either bytes false x y h k = k refl

name_own : (at : ℕ) (bytes : List ℕ) → ReadsOwn bytes (name_at at bytes)
unfolding name_at
name_own at bytes = grind (arith, nat_tests, common_steps)

run_step : (p : ℕ → Bool) (t : Bool) (b : ℕ) (bs : List ℕ) → p b ≡ t → list_all p (take (prefix_len p bs) bs) ≡ true
    → list_all p (take (cond t (1 + prefix_len p bs) 0) (b ∷ bs)) ≡ true
run_step p false b bs is h = refl
run_step p true b bs is h = let next : 1 + prefix_len p bs ≡ suc (prefix_len p bs) = omega arith in rw (next, is, h) refl

run_passes : (p : ℕ → Bool) (bs : List ℕ) → list_all p (take (prefix_len p bs) bs) ≡ true
run_passes p [] = refl
run_passes p (b ∷ bs) = run_step p (p b) b bs refl (run_passes p bs)

-- the bytes with a minus sign before them or none
abbrev signed : Bool → List ℕ → List ℕ
signed negative bytes = cond negative (45 ∷ bytes) bytes

signed_parts : (negative : Bool) (len : ℕ) (bytes : List ℕ) → signed negative bytes ≡ signed negative (take len bytes) ++ drop len bytes
signed_parts true len bytes = ap (λ (t : List ℕ). 45 ∷ t) (sym (take-append-drop len bytes))
signed_parts false len bytes = sym (take-append-drop len bytes)

integer_or_own : (bytes : List ℕ) (o : Option ℤ) (rest own : List ℕ) → bytes ≡ own ++ rest
    → ((z : ℤ) → o ≡ Some z → IsTextOf (Integer z) own) → ReadsOwn bytes (integer_or_fault o rest)
integer_or_own bytes None rest own is says = fails bytes _
integer_or_own bytes (Some z) rest own is says = reads bytes (Integer z) rest own is (says z refl)

integer_own : (at : ℕ) (negative : Bool) (bytes : List ℕ) → ReadsOwn (signed negative bytes) (integer_at at negative bytes)
unfolding integer_at
integer_own at negative bytes =
    let len = prefix_len is_ascii_digit bytes in
    let o = integer_of negative (number_after 0 (take len bytes)) in
    either (signed negative bytes) (first_is begins_name (drop len bytes)) (Err (Syntax at)) (integer_or_fault o (drop len bytes))
    (λ _. fails (signed negative bytes) (Syntax at))
    (λ _. integer_or_own (signed negative bytes) o (drop len bytes) (signed negative (take len bytes)) (signed_parts negative len bytes)
    (λ z is. (negative, take len bytes, refl, run_passes is_ascii_digit bytes, is)))

abbrev IfQuoted : List ℕ → Option (List ℕ × List ℕ) → Type 0
IfQuoted bytes None = Unit {0}
IfQuoted bytes (Some x) = bytes ≡ flat_map spell_byte x.0 ++ 39 ∷ x.1

record Quoted (bytes : List ℕ) (q : Option (List ℕ × List ℕ)) : Type 0 where
  parts : IfQuoted bytes q

either_quoted : (bytes : List ℕ) (t : Bool) (x y : Option (List ℕ × List ℕ)) → (t ≡ true → Quoted bytes x) → (t ≡ false → Quoted bytes y)
    → Quoted bytes (cond t x y)
either_quoted bytes true x y h k = h refl
either_quoted bytes false x y h k = k refl

-- bytes up to a quote, where a quote that stands for itself is written twice
abbrev behind : Bool → List ℕ → List ℕ
behind closing bytes = cond closing (39 ∷ bytes) bytes

is_39 : (b : ℕ) → (b == 39) ≡ true → b ≡ 39
is_39 b h = grind (arith, h)

plain_before : (b : ℕ) (bs : List ℕ) (q : Option (List ℕ × List ℕ)) → (b == 39) ≡ false → Quoted bs q → Quoted (b ∷ bs) (and_before b q)
plain_before b bs None plain h = record { parts = tt {0} }
plain_before b bs (Some x) plain h = grind (arith, nat_tests, common_steps)

quote_before : (bs : List ℕ) (q : Option (List ℕ × List ℕ)) → Quoted bs q → Quoted (39 ∷ 39 ∷ bs) (and_before 39 q)
quote_before bs None h = record { parts = tt {0} }
quote_before bs (Some x) h = record { parts = ap (λ (t : List ℕ). 39 ∷ 39 ∷ t) h.parts }

quoted : (closing : Bool) (bytes : List ℕ) → Quoted (behind closing bytes) (string_content closing bytes)
unfolding string_content
quoted false [] = record { parts = tt {0} }
quoted true [] = record { parts = refl }
quoted false (b ∷ bs) =
    either_quoted (b ∷ bs) (b == 39) (string_content true bs) (and_before b (string_content false bs))
    (λ is. subst (λ (n : ℕ). Quoted (n ∷ bs) (string_content true bs)) (sym (is_39 b is)) (quoted true bs))
    (λ plain. plain_before b bs (string_content false bs) plain (quoted false bs))
quoted true (b ∷ bs) =
    either_quoted (39 ∷ b ∷ bs) (b == 39) (and_before 39 (string_content false bs)) (Some ([], b ∷ bs))
    (λ is. subst (λ (n : ℕ). Quoted (39 ∷ n ∷ bs) (and_before 39 (string_content false bs))) (sym (is_39 b is))
    (quote_before bs (string_content false bs) (quoted false bs)))
    (λ _. record { parts = refl })

text_or_own : (at : ℕ) (bytes : List ℕ) (q : Option (List ℕ × List ℕ)) → Quoted bytes q → ReadsOwn (39 ∷ bytes) (text_or_fault at q)
text_or_own at bytes None h = fails (39 ∷ bytes) _
text_or_own at bytes (Some x) h = grind (arith, nat_tests, common_steps)

text_own : (at b : ℕ) (bs : List ℕ) → (b == 39) ≡ true → ReadsOwn (b ∷ bs) (text_at at bs)
unfolding text_at
text_own at b bs is = subst (λ (n : ℕ). ReadsOwn (n ∷ bs) (text_at at bs)) (sym (is_39 b is))
    (text_or_own at bs (string_content false bs) (quoted false bs))

-- the byte of a symbol of one byte
record OwnByte (a : ℕ) (o : Option Symbol) : Type 0 where
  says : (s : Symbol) → o ≡ Some s → a ∷ [] ≡ spell_symbol s

byte_own : (a : ℕ) → OwnByte a (symbol_of_one a)
unfolding symbol_of_one
byte_own a = grind (arith, nat_tests, common_steps)

-- the bytes of a symbol of two bytes
record OwnBytes (a b : ℕ) (o : Option Symbol) : Type 0 where
  says : (s : Symbol) → o ≡ Some s → IsTextOf (Sign s) (a ∷ b ∷ [])

both : (t u : Bool) → (t && u) ≡ true → (t ≡ true) × (u ≡ true)
both true true h = (refl, refl)
both true false h = absurd cc
both false u h = absurd cc

bytes_own : (a b : ℕ) → OwnBytes a b (symbol_of_two a b)
unfolding symbol_of_two
bytes_own a b = grind (arith, nat_tests, common_steps)

symbol_or_own : (at a : ℕ) (o : Option Symbol) (rest : List ℕ) → OwnByte a o → ReadsOwn (a ∷ rest) (symbol_or_fault at o rest)
symbol_or_own at a None rest h = fails (a ∷ rest) _
symbol_or_own at a (Some s) rest h = reads (a ∷ rest) (Sign s) rest (a ∷ []) refl (inl (h.says s refl))

longest_own : (at a b : ℕ) (two one : Option Symbol) (bs : List ℕ) → OwnBytes a b two → OwnByte a one
    → ReadsOwn (a ∷ b ∷ bs) (longest_symbol at two one (b ∷ bs))
longest_own at a b (Some s) one bs h k = reads (a ∷ b ∷ bs) (Sign s) bs (a ∷ b ∷ []) refl (h.says s refl)
longest_own at a b None one bs h k = symbol_or_own at a one (b ∷ bs) k

symbol_own : (at : ℕ) (bytes : List ℕ) → ReadsOwn bytes (symbol_at at bytes)
unfolding symbol_at
symbol_own at [] = fails [] _
symbol_own at (a ∷ []) = symbol_or_own at a (symbol_of_one a) [] (byte_own a)
symbol_own at (a ∷ b ∷ bs) = longest_own at a b (symbol_of_two a b) (symbol_of_one a) bs (bytes_own a b) (byte_own a)

negative_own : (at b : ℕ) (bs : List ℕ) → (b == 45 && first_is is_ascii_digit bs) ≡ true → ReadsOwn (b ∷ bs) (integer_at at true bs)
negative_own at b bs h =
    let minus : 45 ≡ b = grind (arith, (both (b == 45) (first_is is_ascii_digit bs) h).0) in
    subst (λ (n : ℕ). ReadsOwn (n ∷ bs) (integer_at at true bs)) minus (integer_own at true bs)

word_own : (at b : ℕ) (bs : List ℕ) → ReadsOwn (b ∷ bs) (word_at at (b ∷ bs))
unfolding word_at
word_own at b bs =
    let word = b ∷ bs in
    let quote = cond (b == 39) (text_at at bs) (symbol_at at word) in
    let minus = cond (b == 45 && first_is is_ascii_digit bs) (integer_at at true bs) quote in
    let digit = cond (is_ascii_digit b) (integer_at at false word) minus in
    either word (begins_name b) (name_at at word) digit (λ _. name_own at word) (λ _.
    either word (is_ascii_digit b) (integer_at at false word) minus (λ _. integer_own at false word) (λ _.
    either word (b == 45 && first_is is_ascii_digit bs) (integer_at at true bs) quote (λ h. negative_own at b bs h) (λ _.
    either word (b == 39) (text_at at bs) (symbol_at at word) (λ h. text_own at b bs h) (λ _. symbol_own at word))))

abbrev IfMadeUp : ℕ → List ℕ → Result (List Placed) Fault → Type 0
IfMadeUp at bytes (Ok ts) = MakeUp at ts bytes
IfMadeUp at bytes (Err f) = Unit {0}

record MadeUp (at : ℕ) (bytes : List ℕ) (read : Result (List Placed) Fault) : Type 0 where
  made : IfMadeUp at bytes read

either_made : (at : ℕ) (bytes : List ℕ) (t : Bool) (x y : Result (List Placed) Fault) → (t ≡ true → MadeUp at bytes x)
    → (t ≡ false → MadeUp at bytes y) → MadeUp at bytes (cond t x y)
either_made at bytes true x y h k = h refl
either_made at bytes false x y h k = k refl

-- one more byte of white space
blank_first : (at b : ℕ) (bs : List ℕ) (read : Result (List Placed) Fault) → is_space b ≡ true → MadeUp (at + 1) bs read
    → MadeUp at (b ∷ bs) read
unfolding MakeUp
blank_first at b bs (Ok []) blank h = record { made = rw blank h.made }
blank_first at b bs (Ok (t ∷ ts)) blank h =
    let (white, own, rest, is, all, place, says, more) = h.made in
    record { made = (b ∷ white, own, rest, ap (λ (x : List ℕ). b ∷ x) is, rw blank all, omega (arith, place), says, more) }
blank_first at b bs (Err f) blank h = record { made = tt {0} }

-- a token, and what is made up behind it
word_first : (at : ℕ) (bytes : List ℕ) (w : Lexeme × List ℕ) (own : List ℕ) (read : Result (List Placed) Fault) → bytes ≡ own ++ w.1
    → IsTextOf w.0 own → MadeUp (at + length own) w.1 read
    → MadeUp at bytes (read >>= λ ts. Ok (record { at = at; lexeme = w.0 } ∷ ts))
unfolding MakeUp
word_first at bytes w own (Ok ts) is says more = record { made = ([], own, w.1, is, refl, omega arith, says, more.made) }
word_first at bytes w own (Err f) is says more = record { made = tt {0} }

made_up : (within at : ℕ) (bytes : List ℕ) → MadeUp (at + within) (drop within bytes) (tokens_at within at bytes)
unfolding tokens_at MakeUp
made_up zero at [] = record { made = refl }
made_up (suc within) at [] = record { made = refl }
made_up (suc within) at (b ∷ bs) = let here : at + 1 + within ≡ at
    + suc within = omega arith in subst (λ (n : ℕ). MadeUp n (drop within bs) (tokens_at within (at + 1) bs)) here
    (made_up within (at + 1) bs)
made_up zero at (b ∷ bs) =
    let here : at ≡ at + 0 = omega arith in
    subst (λ (n : ℕ). MadeUp n (b ∷ bs) (tokens_at 0 at (b ∷ bs))) here
    (either_made at (b ∷ bs) (is_space b) (tokens_at 0 (at + 1) bs) (word_at at (b ∷ bs) >>= λ w. tokens_at (length bs - length w.1) (at
    + 1) bs >>= λ ts. Ok (record { at = at; lexeme = w.0 } ∷ ts))
    (λ blank. blank_first at b bs (tokens_at 0 (at + 1) bs) blank (let next : at + 1 + 0 ≡ at
    + 1 = omega arith in subst (λ (n : ℕ). MadeUp n bs (tokens_at 0 (at + 1) bs)) next (made_up 0 (at + 1) bs)))
    (λ _. of_word (word_at at (b ∷ bs)) refl (word_own at b bs) (λ n. made_up n (at + 1) bs)))
  where
    of_word : (read : Result (Lexeme × List ℕ) Fault) → word_at at (b ∷ bs) ≡ read → ReadsOwn (b ∷ bs) read
        → ((n : ℕ) → MadeUp (at + 1 + n) (drop n bs) (tokens_at n (at + 1) bs))
        → MadeUp at (b ∷ bs) (read >>= λ w. tokens_at (length bs - length w.1) (at + 1) bs >>= λ ts. Ok (record { at = at; lexeme = w.0 }
        ∷ ts))
    of_word (Err f) is owned next = record { made = tt {0} }
    of_word (Ok w) is owned next =
        let end = word_end at b bs w.0 w.1 is in
        let own : List ℕ = owned.owned.0 in
        let long : length (b ∷ bs) ≡ length own + length w.1 = ap length owned.owned.1 ∙ length-append own w.1 in
        let left : length w.1 ≡ length bs - end.len = ap length end.rest_is ∙ length-drop end.len bs in
        let skip : length bs - length w.1 ≡ end.len = omega (arith, left, end.within) in
        let place : at + 1 + (length bs - length w.1) ≡ at + length own = omega (arith, left, end.within, long) in
        let behind : drop (length bs - length w.1) bs ≡ w.1 = ap (λ (n : ℕ). drop n bs) skip ∙ sym end.rest_is in
        let more : MadeUp (at + 1 + (length bs - length w.1)) (drop (length bs - length w.1) bs)
        (tokens_at (length bs - length w.1) (at + 1) bs) = next (length bs - length w.1) in
        word_first at (b ∷ bs) w own (tokens_at (length bs - length w.1) (at + 1) bs) owned.owned.1 owned.owned.2
        (subst (λ (n : ℕ). MadeUp n w.1 (tokens_at (length bs - length w.1) (at + 1) bs)) place
        (subst (λ (bytes : List ℕ). MadeUp (at + 1 + (length bs - length w.1)) bytes (tokens_at (length bs - length w.1) (at + 1) bs))
        behind more))

pub whole_text : (text : List ℕ) (ts : List Placed) → tokens_in text ≡ Ok ts → MakeUp 0 ts text
whole_text text ts read = let made = (made_up 0 0 text).made in rw read at made
