-- Which tokens a text has, from left to right, or else its first fault (PostgreSQL 17, 4.1 Lexical Structure; that the
-- first fault from the left is given, and at which byte: own).
use Rattle.std.specs.Prelude.{ℕ, zero, suc, ◌+◌, ◌-◌, ◌*◌, ◌^◌, ◌≡◌, ℤ, pos, neg_ℤ, Bool, true, false, nat_lt, nat_le, ◌==◌, ◌&&◌}
use Rattle.std.specs.Prelude.{if◌then◌else◌, List, [], ◌∷◌, map, length, take, drop, Option, Some, None, Result, Ok, Err}
use Rattle.std.specs.Char.{is_ascii_digit, to_ascii_lowercase}
use Rattle.std.specs.List.{prefix_len, list_any}
use Rattle.grouping_model.specs.declared.limits.TheConstants.{MAX_NAME_LEN}
use Rattle.query_tokens.specs.declared.word.Symbol.{Symbol}
use Rattle.query_tokens.specs.declared.fault.Fault.{Fault}
use Rattle.query_tokens.specs.declared.fault.Fault.TheVariants.{Syntax, NumberTooLarge}
use Rattle.query_tokens.specs.declared.fault.TokenError.{TokenError}
use Rattle.query_tokens.specs.declared.fault.TokenError.TheVariants as errors
use Rattle.query_tokens.specs.Words.{Lexeme, Name, Integer, Text, Sign, Placed}
use Rattle.query_tokens.specs.Bytes.{is_space, begins_name, is_in_name, first_is, symbol_of_one, symbol_of_two}

-- two steps, of which the second takes what the first read; the first fault ends both
infixl 10 ◌>>=◌
abbrev pub ◌>>=◌ : {A B : Type 0} → Result A Fault → (A → Result B Fault) → Result B Fault
(Ok x) >>= f = f x
(Err e) >>= f = Err e

-- an error is the fault that reading gives, unless an allocation failed
abbrev pub Fails : {Y : Type 0} → TokenError → Result Y Fault → Type 0
Fails errors.NoMemory read = Unit {0}
Fails (errors.Fault f) read = read ≡ Err f

-- what a function returned, seen through view, is what reading gives, unless an allocation failed
abbrev pub Gives : {X Y : Type 0} → (X → Y) → Result X TokenError → Result Y Fault → Type 0
Gives view (Ok x) read = read ≡ Ok (view x)
Gives view (Err e) read = Fails e read

-- whether something was read, and what holds of it does
abbrev pub is_read_and : {A : Type 0} → Result A Fault → (A → Bool) → Bool
is_read_and (Ok x) holds = holds x
is_read_and (Err e) holds = false

-- a name: as many bytes as continue it, in lower case (4.1.1 Identifiers and Key Words; a longer one than there may be
-- is refused and not cut: own)
unfoldable pub name_at : ℕ → List ℕ → Result (Lexeme × List ℕ) Fault
name_at at bytes =
    let len = prefix_len is_in_name bytes in
    if nat_lt MAX_NAME_LEN len then Err (Syntax at) else Ok (Name (map to_ascii_lowercase (take len bytes)), drop len bytes)

-- the number that decimal digits stand for, where those before them stand for so_far
abbrev pub number_after : ℕ → List ℕ → ℕ
number_after so_far [] = so_far
number_after so_far (d ∷ ds) = number_after (10 * so_far + (d - 48)) ds

-- the integer, with or without a minus sign before it, if it is in the range of 64 bits (8.1.1 Integer Types)
abbrev pub integer_of : Bool → ℕ → Option ℤ
integer_of true n = if nat_le n (2 ^ 63) then Some (neg_ℤ (pos n)) else None
integer_of false n = if nat_lt n (2 ^ 63) then Some (pos n) else None

-- the same, or else the fault
abbrev pub integer_or_fault : Option ℤ → List ℕ → Result (Lexeme × List ℕ) Fault
integer_or_fault None rest = Err NumberTooLarge
integer_or_fault (Some z) rest = Ok (Integer z, rest)

-- an integer from its first digit on: as many digits as stand there, and then no letter and no underscore, whether the
-- number is in range or not (4.1.2.6 Numeric Constants; no fractions, exponents or other bases, no underscores: own)
unfoldable pub integer_at : ℕ → Bool → List ℕ → Result (Lexeme × List ℕ) Fault
integer_at at negative bytes =
    let len = prefix_len is_ascii_digit bytes in
    if first_is begins_name (drop len bytes) then Err (Syntax at)
    else integer_or_fault (integer_of negative (number_after 0 (take len bytes))) (drop len bytes)

-- one more byte before what stands within the quotes
abbrev pub and_before : ℕ → Option (List ℕ × List ℕ) → Option (List ℕ × List ℕ)
and_before b None = None
and_before b (Some x) = Some (b ∷ x.0, x.1)

-- what stands within the quotes, two quotes being one, and what stands after the closing one; none if the string is
-- unterminated. `string_content false` reads within, and `string_content true` after a quote, which closes if no second
-- one follows. A backslash is an ordinary byte (4.1.2.1 String Constants)
unfoldable pub string_content : Bool → List ℕ → Option (List ℕ × List ℕ)
string_content false [] = None
string_content true [] = Some ([], [])
string_content false (b ∷ bs) = if b == 39 then string_content true bs else and_before b (string_content false bs)
string_content true (b ∷ bs) = if b == 39 then and_before 39 (string_content false bs) else Some ([], b ∷ bs)

-- a string, if it is terminated and the character 0 is not in it (4.1.2.1; 8.3 Character Types)
abbrev pub text_or_fault : ℕ → Option (List ℕ × List ℕ) → Result (Lexeme × List ℕ) Fault
text_or_fault at None = Err (Syntax at)
text_or_fault at (Some x) = if list_any (λ b. b == 0) x.0 then Err (Syntax at) else Ok (Text x.0, x.1)

-- a string from the byte after its opening quote on; at is the place of that quote
unfoldable pub text_at : ℕ → List ℕ → Result (Lexeme × List ℕ) Fault
text_at at bytes = text_or_fault at (string_content false bytes)

-- a symbol, or else the fault
abbrev pub symbol_or_fault : ℕ → Option Symbol → List ℕ → Result (Lexeme × List ℕ) Fault
symbol_or_fault at None rest = Err (Syntax at)
symbol_or_fault at (Some s) rest = Ok (Sign s, rest)

-- a symbol of two bytes, or else one of one byte; rest stands after the first byte
abbrev pub longest_symbol : ℕ → Option Symbol → Option Symbol → List ℕ → Result (Lexeme × List ℕ) Fault
longest_symbol at (Some s) one rest = Ok (Sign s, drop 1 rest)
longest_symbol at None one rest = symbol_or_fault at one rest

-- the longest symbol at the front (4.1.3 Operators)
unfoldable pub symbol_at : ℕ → List ℕ → Result (Lexeme × List ℕ) Fault
symbol_at at [] = Err (Syntax at)
symbol_at at (a ∷ []) = symbol_or_fault at (symbol_of_one a) []
symbol_at at (a ∷ b ∷ bs) = longest_symbol at (symbol_of_two a b) (symbol_of_one a) (b ∷ bs)

-- the lexeme at the front of bytes that stand at a place, and the bytes after it. A minus sign directly before a digit
-- belongs to the integer, whose place it is, and begins no lexeme elsewhere (own)
unfoldable pub word_at : ℕ → List ℕ → Result (Lexeme × List ℕ) Fault
word_at at [] = Err (Syntax at)
word_at at (b ∷ bs) =
    if begins_name b then name_at at (b ∷ bs) else
    if is_ascii_digit b then integer_at at false (b ∷ bs) else
    if b == 45 && first_is is_ascii_digit bs then integer_at at true bs else
    if b == 39 then text_at at bs else symbol_at at (b ∷ bs)

-- the tokens of bytes that stand at a place; the first `within` of these bytes belong to a token that has been read
unfoldable pub tokens_at : ℕ → ℕ → List ℕ → Result (List Placed) Fault
tokens_at within at [] = Ok []
tokens_at (suc within) at (b ∷ bs) = tokens_at within (at + 1) bs
tokens_at zero at (b ∷ bs) =
    if is_space b then tokens_at 0 (at + 1) bs else
    (word_at at (b ∷ bs) >>= λ w. tokens_at (length bs - length w.1) (at + 1) bs >>= λ ts. Ok (record { at = at; lexeme = w.0 } ∷ ts))

-- the tokens of a whole text, or its first fault
abbrev pub tokens_in : List ℕ → Result (List Placed) Fault
tokens_in bytes = tokens_at 0 0 bytes

-- whether bytes that stand at a place begin with this many tokens without a fault, whatever follows them; the first `within` of these bytes
-- belong to a token that has been read (own)
unfoldable pub begins_with : ℕ → ℕ → ℕ → List ℕ → Bool
begins_with zero within at bytes = true
begins_with (suc tokens) within at [] = false
begins_with (suc tokens) (suc within) at (b ∷ bs) = begins_with (suc tokens) within (at + 1) bs
begins_with (suc tokens) zero at (b ∷ bs) =
    if is_space b then begins_with (suc tokens) 0 (at + 1) bs else
    is_read_and (word_at at (b ∷ bs)) (λ w. begins_with tokens (length bs - length w.1) (at + 1) bs)
