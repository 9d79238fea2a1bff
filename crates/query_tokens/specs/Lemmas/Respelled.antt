-- A spelled lexeme is read again.
use Rattle.std.proofs.Common.{◌≡◌, ℕ, suc, ◌+◌, ◌<◌, ◌^◌, Bool, true, false, cond, List, [], ◌∷◌, ◌++◌, length, Some, Ok, refl, ◌∙◌}
use Rattle.std.proofs.Common.{append_assoc, arith}
use Rattle.std.specs.Prelude.{ℤ, pos, negsuc, FitsSigned, Contains, ◌==◌, ◌&&◌, ◌||◌}
use Rattle.std.specs.Int.{w64}
use Rattle.std.specs.Char.{is_ascii_digit}
use Rattle.std.specs.List.{prefix_len, list_any, list_all, flat_map}
use Rattle.std.specs.Str.{all_ascii_digits}
use Rattle.std.specs.Fmt.{decimal}
use Rattle.std.proofs.Math.Seq.{take-append_seam, drop-append_seam}
use Rattle.std.proofs.lemmas.Bool.{le-ltb, le-leb, lt-ltb, eqb-true, or_parts}
use Rattle.std.proofs.lemmas.Fmt.{digits_decimal, digits_value-decimal, decimal_nonempty}
use Rattle.grouping_model.specs.declared.limits.TheConstants.{MAX_NAME_LEN}
use Rattle.query_tokens.specs.declared.word.Symbol.{Symbol}
use Rattle.query_tokens.specs.declared.word.Symbol.TheVariants as symbols
use Rattle.query_tokens.specs.Words.{Lexeme, Name, Integer, Text, Sign}
use Rattle.query_tokens.specs.Bytes.{begins_name, is_in_name, first_is, symbol_of_one, symbol_of_two}
use Rattle.query_tokens.specs.Tokens.{integer_of, name_at, integer_at, string_content, text_at, symbol_at, word_at}
use Rattle.query_tokens.specs.Spelling.{IsName, IsLexeme, EndsBefore, spell, spell_byte, spell_symbol}
use Rattle.query_tokens.specs.Lemmas.Numerals.{own}
use Rattle.std.proofs.lemmas.Bool.Decides.{nat_tests}
use Rattle.std.proofs.lemmas.Grind.{common_steps}

-- a run of bytes that pass a test, before one that does not, is as long as it is
run_first : (p : ℕ → Bool) (rest : List ℕ) → first_is p rest ≡ false → prefix_len p rest ≡ 0
run_first p [] h = refl
run_first p (b ∷ bs) h = rw h refl

run_step : (t u : Bool) (m n : ℕ) → (t && u) ≡ true → (u ≡ true → m ≡ n) → cond t (1 + m) 0 ≡ suc n
run_step true true m n h k = omega (arith, k refl)
run_step true false m n h k = absurd cc
run_step false u m n h k = absurd cc

pub run_length : (p : ℕ → Bool) (xs rest : List ℕ) → list_all p xs ≡ true → first_is p rest ≡ false → prefix_len p (xs ++ rest) ≡ length xs
run_length p [] rest passes stops = run_first p rest stops
run_length p (x ∷ xs) rest passes stops = run_step (p x) (list_all p xs) (prefix_len p (xs ++ rest)) (length xs) passes
    (λ h. run_length p xs rest h stops)

name_read : (at : ℕ) (name rest : List ℕ) → IsName name → first_is is_in_name rest ≡ false → name_at at (name ++ rest)
    ≡ Ok (Name name, rest)
unfolding name_at
name_read at name rest legal ends =
    rw (
      run_length is_in_name name rest legal.continues ends,
      le-ltb MAX_NAME_LEN (length name) legal.within,
      take-append_seam name rest,
      drop-append_seam name rest,
      legal.lower,
    ) refl

name_again : (at : ℕ) (name rest : List ℕ) → IsName name → first_is is_in_name rest ≡ false → word_at at (name ++ rest)
    ≡ Ok (Name name, rest)
unfolding word_at
name_again at [] rest legal ends = let clash : false ≡ true = legal.begins in absurd cc
name_again at (b ∷ bs) rest legal ends = rw legal.begins (name_read at (b ∷ bs) rest legal ends)

digits_all : (ds : List ℕ) → all_ascii_digits ds ≡ true → list_all is_ascii_digit ds ≡ true
digits_all [] h = refl
digits_all (d ∷ ds) h = grind (arith, nat_tests, common_steps)

-- a digit or what begins a name is in a name
not_digit : (rest : List ℕ) → first_is is_in_name rest ≡ false → first_is is_ascii_digit rest ≡ false
not_digit [] h = refl
not_digit (b ∷ bs) h = grind (arith, h)

not_beginning : (rest : List ℕ) → first_is is_in_name rest ≡ false → first_is begins_name rest ≡ false
not_beginning [] h = refl
not_beginning (b ∷ bs) h = grind (arith, h)

digits_read : (at : ℕ) (negative : Bool) (n : ℕ) (z : ℤ) (rest : List ℕ) → n < 2 ^ 64 → integer_of negative n ≡ Some z
    → first_is is_in_name rest ≡ false → integer_at at negative (decimal n ++ rest) ≡ Ok (Integer z, rest)
unfolding integer_at
digits_read at negative n z rest small is ends =
    let run : prefix_len is_ascii_digit (decimal n ++ rest) ≡ length (decimal n) = run_length is_ascii_digit (decimal n) rest
    (digits_all (decimal n) (digits_decimal own n small)) (not_digit rest ends) in
    rw (
      run,
      drop-append_seam (decimal n) rest,
      not_beginning rest ends,
      take-append_seam (decimal n) rest,
      digits_value-decimal own n
          small,
      is,
    ) refl

-- digits begin with a digit
pub record IsDigits (ds : List ℕ) : Type 0 where
  pub digits : all_ascii_digits ds ≡ true
  pub some : 0 < length ds

pub decimal_digits : (n : ℕ) → n < 2 ^ 64 → IsDigits (decimal n)
decimal_digits n small = record { digits = digits_decimal own n small; some = decimal_nonempty n small }

pub first_digit : (d : ℕ) (ds : List ℕ) → IsDigits (d ∷ ds) → is_ascii_digit d ≡ true
first_digit d ds h = grind (arith, nat_tests, common_steps)

no_name : (d : ℕ) → is_ascii_digit d ≡ true → begins_name d ≡ false
no_name d h = grind (arith, h)

-- digits at the front of a word are an integer
unsigned_word : (at : ℕ) (ds rest : List ℕ) → IsDigits ds → word_at at (ds ++ rest) ≡ integer_at at false (ds ++ rest)
unfolding word_at
unsigned_word at [] rest h = absurd (omega (arith, h.some))
unsigned_word at (d ∷ ds) rest h = rw (no_name d (first_digit d ds h), first_digit d ds h) refl

signed_word : (at : ℕ) (ds rest : List ℕ) → IsDigits ds → word_at at (45 ∷ ds ++ rest) ≡ integer_at at true (ds ++ rest)
unfolding word_at
signed_word at [] rest h = absurd (omega (arith, h.some))
signed_word at (d ∷ ds) rest h = rw (first_digit d ds h) refl

integer_again : (at : ℕ) (z : ℤ) (rest : List ℕ) → FitsSigned w64 z → first_is is_in_name rest ≡ false
    → word_at at (spell (Integer z) ++ rest) ≡ Ok (Integer z, rest)
integer_again at (pos n) rest fits ends =
    let small : n < 2 ^ 63 = fits.sfits in
    let is : integer_of false n ≡ Some (pos n) = rw (lt-ltb n (2 ^ 63) small) refl in
    unsigned_word at (decimal n) rest (decimal_digits n (omega (arith, small))) ∙ digits_read at false n (pos n) rest (omega (arith, small))
    is ends
integer_again at (negsuc n) rest fits ends =
    let small : n < 2 ^ 63 = fits.sfits in
    let is : integer_of true (suc n) ≡ Some (negsuc n) = rw (le-leb (suc n) (2 ^ 63) (omega (arith, small))) refl in
    signed_word at (decimal (suc n)) rest (decimal_digits (suc n) (omega (arith, small)))
    ∙ digits_read at true (suc n) (negsuc n) rest (omega (arith, small)) is ends

closes : (rest : List ℕ) → first_is (λ b. b == 39) rest ≡ false → string_content true rest ≡ Some ([], rest)
unfolding string_content
closes [] h = refl
closes (b ∷ bs) h = rw h refl

quoted_step : (t : Bool) (b : ℕ) (text spelled rest : List ℕ) → (b == 39) ≡ t → string_content false spelled ≡ Some (text, rest)
    → string_content false (cond t (39 ∷ 39 ∷ []) (b ∷ []) ++ spelled) ≡ Some (b ∷ text, rest)
unfolding string_content
quoted_step true b text spelled rest is h = let same : b ≡ 39 = eqb-true b 39 is in rw (h, same) refl
quoted_step false b text spelled rest is h = rw (is, h) refl

quoted_again : (text rest : List ℕ) → first_is (λ b. b == 39) rest ≡ false → string_content false (flat_map spell_byte text ++ 39 ∷ rest)
    ≡ Some (text, rest)
unfolding string_content
quoted_again [] rest ends = closes rest ends
quoted_again (b ∷ text) rest ends =
    rw (append_assoc (spell_byte b) (flat_map spell_byte text) (39 ∷ rest)) (quoted_step (b == 39) b text (flat_map spell_byte text ++ 39
    ∷ rest) rest refl (quoted_again text rest ends))

no_zero_step : (t : Bool) (b : ℕ) (text : List ℕ) → (b == 0) ≡ t → (Contains (b ∷ text) 0 → ⊥)
    → ((Contains text 0 → ⊥) → list_any (λ b. b == 0) text ≡ false) → (t || list_any (λ b. b == 0) text) ≡ false
no_zero_step true b text is h more = absurd (h (0, omega arith, eqb-true b 0 is))
no_zero_step false b text is h more = more (λ c. h (suc c.0, omega (arith, c.1), c.2))

no_zero : (text : List ℕ) → (Contains text 0 → ⊥) → list_any (λ b. b == 0) text ≡ false
no_zero [] h = refl
no_zero (b ∷ text) h = no_zero_step (b == 0) b text refl h (no_zero text)

text_read : (at : ℕ) (text rest : List ℕ) → (Contains text 0 → ⊥) → first_is (λ b. b == 39) rest ≡ false
    → text_at at ((flat_map spell_byte text ++ 39 ∷ []) ++ rest) ≡ Ok (Text text, rest)
unfolding text_at
text_read at text rest legal ends = rw (
  append_assoc (flat_map spell_byte text) (39 ∷ []) rest,
  quoted_again text rest ends,
  no_zero text
      legal,
) refl

text_again : (at : ℕ) (text rest : List ℕ) → (Contains text 0 → ⊥) → first_is (λ b. b == 39) rest ≡ false
    → word_at at (spell (Text text) ++ rest) ≡ Ok (Text text, rest)
unfolding word_at
text_again at text rest legal ends = text_read at text rest legal ends

symbol_again : (at : ℕ) (symbol : Symbol) (rest : List ℕ) → EndsBefore (Sign symbol) rest → word_at at (spell_symbol symbol ++ rest)
    ≡ Ok (Sign symbol, rest)
unfolding word_at symbol_at symbol_of_one symbol_of_two
symbol_again at symbols.Less [] ends = refl
symbol_again at symbols.Less (b ∷ bs) ends = let no = or_parts (b == 61) (b == 62) ends in rw (no.0, no.1) refl
symbol_again at symbols.More (b ∷ bs) ends = rw ends refl
symbol_again at symbol [] ends = refl
symbol_again at symbol (b ∷ bs) ends = refl

pub word_again : (at : ℕ) (w : Lexeme) (rest : List ℕ) → IsLexeme w → EndsBefore w rest → word_at at (spell w ++ rest) ≡ Ok (w, rest)
word_again at (Name name) rest legal ends = name_again at name rest legal ends
word_again at (Integer z) rest legal ends = integer_again at z rest legal ends
word_again at (Text text) rest legal ends = text_again at text rest legal ends
word_again at (Sign symbol) rest legal ends = symbol_again at symbol rest ends
