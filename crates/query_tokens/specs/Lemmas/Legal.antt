-- Each lexeme that is read is one that a text can have.
use Rattle.std.proofs.Common.{◌≡◌, ℕ, zero, suc, ◌+◌, ◌-◌, ◌<◌, Bool, true, false, cond, ltb, List, [], ◌∷◌, length, get_or, take, drop}
use Rattle.std.proofs.Common.{map, Option, Some, None, Result, Ok, Err, refl, subst, arith}
use Rattle.std.specs.Prelude.{Contains, ◌==◌, ◌&&◌}
use Rattle.std.specs.Char.{is_ascii_digit, to_ascii_lowercase}
use Rattle.std.specs.List.{prefix_len, list_any, list_all, All}
use Rattle.std.proofs.lemmas.Bool.{ltb-false}
use Rattle.std.proofs.lemmas.List.{length-map}
use Rattle.std.proofs.lemmas.List.Elements.{All-cons}
use Rattle.std.proofs.lemmas.List.Folds.{length-prefix_len}
use Rattle.std.proofs.lemmas.Str.Ascii.{lowercase-lowercase}
use Rattle.grouping_model.specs.declared.limits.TheConstants.{MAX_NAME_LEN}
use Rattle.query_tokens.specs.declared.fault.Fault.{Fault}
use Rattle.query_tokens.specs.declared.fault.Fault.TheVariants.{Syntax}
use Rattle.query_tokens.specs.declared.word.Symbol.{Symbol}
use Rattle.query_tokens.specs.declared.word.Token.{Token}
use Rattle.query_tokens.specs.Words.{Lexeme, Name, Text, Sign, Placed, lexeme_of, all_placed}
use Rattle.query_tokens.specs.Bytes.{is_space, begins_name, is_in_name, first_is, symbol_of_one, symbol_of_two}
use Rattle.query_tokens.specs.Tokens.{◌>>=◌, name_at, integer_at, string_content, text_or_fault, text_at, symbol_or_fault, longest_symbol}
use Rattle.query_tokens.specs.Tokens.{symbol_at, word_at, tokens_at, tokens_in}
use Rattle.query_tokens.specs.Spelling.{IsName, IsLexeme, lexemes_of, lexemes_read, text_of, with_spaces}
use Rattle.query_tokens.specs.Lemmas.Pieces.{spaced_again}
use Rattle.std.proofs.lemmas.Bool.Decides.{nat_tests}
use Rattle.std.proofs.lemmas.Grind.{common_steps}

abbrev IfRead : Result (Lexeme × List ℕ) Fault → Type 0
IfRead (Ok x) = IsLexeme x.0
IfRead (Err f) = Unit {0}

-- what is read, if anything is, is a lexeme that a text can have
record ReadsLegal (read : Result (Lexeme × List ℕ) Fault) : Type 0 where
  legal : IfRead read

fails : (f : Fault) → ReadsLegal (Err f)
fails f = record { legal = tt {0} }

reads : (w : Lexeme) (rest : List ℕ) → IsLexeme w → ReadsLegal (Ok (w, rest))
reads w rest h = record { legal = h }

either : (t : Bool) (x y : Result (Lexeme × List ℕ) Fault) → (t ≡ true → ReadsLegal x) → (t ≡ false → ReadsLegal y)
    → ReadsLegal (cond t x y)
either true x y h k = h refl
either false x y h k = k refl

in_name_lower : (b : ℕ) → is_in_name b ≡ true → is_in_name (to_ascii_lowercase b) ≡ true
in_name_lower b h = grind (arith, h)

begins_lower : (b : ℕ) → begins_name b ≡ true → begins_name (to_ascii_lowercase b) ≡ true
begins_lower b h = grind (arith, h)

in_name : (b : ℕ) → begins_name b ≡ true → is_in_name b ≡ true
in_name b h = grind (arith, h)

run_step : (t : Bool) (b : ℕ) (bs : List ℕ) → is_in_name b ≡ t
    → list_all is_in_name (map to_ascii_lowercase (take (prefix_len is_in_name bs) bs)) ≡ true
    → list_all is_in_name (map to_ascii_lowercase (take (cond t (1 + prefix_len is_in_name bs) 0) (b ∷ bs))) ≡ true
run_step false b bs is h = refl
run_step true b bs is h =
    let next : 1 + prefix_len is_in_name bs ≡ suc (prefix_len is_in_name bs) = omega arith in
    rw (next, in_name_lower b is, h) refl

run_in_name : (bs : List ℕ) → list_all is_in_name (map to_ascii_lowercase (take (prefix_len is_in_name bs) bs)) ≡ true
run_in_name [] = refl
run_in_name (b ∷ bs) = run_step (is_in_name b) b bs refl (run_in_name bs)

lower_twice : (bs : List ℕ) → map to_ascii_lowercase (map to_ascii_lowercase bs) ≡ map to_ascii_lowercase bs
lower_twice [] = refl
lower_twice (b ∷ bs) = rw (lowercase-lowercase b, lower_twice bs) refl

run_begins : (b : ℕ) (bs : List ℕ) → begins_name b ≡ true
    → first_is begins_name (map to_ascii_lowercase (take (prefix_len is_in_name (b ∷ bs)) (b ∷ bs))) ≡ true
run_begins b bs h =
    let longer : prefix_len is_in_name (b ∷ bs) ≡ suc (prefix_len is_in_name bs) = rw (in_name b h) (omega arith) in
    rw longer (begins_lower b h)

legal_name : (b : ℕ) (bs : List ℕ) → begins_name b ≡ true → ltb MAX_NAME_LEN (prefix_len is_in_name (b ∷ bs)) ≡ false
    → IsName (map to_ascii_lowercase (take (prefix_len is_in_name (b ∷ bs)) (b ∷ bs)))
legal_name b bs h short =
    let front = take (prefix_len is_in_name (b ∷ bs)) (b ∷ bs) in
    record {
      begins = run_begins b bs h;
      continues = run_in_name (b ∷ bs);
      lower = lower_twice front;
      within = omega (
        arith,
        length-map front to_ascii_lowercase,
        length-prefix_len is_in_name (b ∷ bs),
        ltb-false MAX_NAME_LEN
            (prefix_len is_in_name (b ∷ bs)) short,
      );
    }

name_legal : (at b : ℕ) (bs : List ℕ) → begins_name b ≡ true → ReadsLegal (name_at at (b ∷ bs))
unfolding name_at
name_legal at b bs h =
    let len = prefix_len is_in_name (b ∷ bs) in
    either (ltb MAX_NAME_LEN len) (Err (Syntax at)) (Ok (Name (map to_ascii_lowercase (take len (b ∷ bs))), drop len (b ∷ bs)))
    (λ _. fails (Syntax at))
    (λ short. reads (Name (map to_ascii_lowercase (take len (b ∷ bs)))) (drop len (b ∷ bs)) (legal_name b bs h short))

integer_legal : (at : ℕ) (negative : Bool) (bytes : List ℕ) → ReadsLegal (integer_at at negative bytes)
unfolding integer_at
integer_legal at negative bytes = grind (arith, nat_tests, common_steps)

has_no_zero : (text : List ℕ) → list_any (λ b. b == 0) text ≡ false → Contains text 0 → ⊥
has_no_zero text h c = grind (arith, nat_tests, common_steps)

text_or_legal : (at : ℕ) (q : Option (List ℕ × List ℕ)) → ReadsLegal (text_or_fault at q)
text_or_legal at None = fails _
text_or_legal at (Some x) = either (list_any (λ b. b == 0) x.0) (Err (Syntax at)) (Ok (Text x.0, x.1)) (λ _. fails _)
    (λ h. reads (Text x.0) x.1 (has_no_zero x.0 h))

text_legal : (at : ℕ) (bs : List ℕ) → ReadsLegal (text_at at bs)
unfolding text_at
text_legal at bs = text_or_legal at (string_content false bs)

symbol_or_legal : (at : ℕ) (o : Option Symbol) (rest : List ℕ) → ReadsLegal (symbol_or_fault at o rest)
symbol_or_legal at None rest = fails _
symbol_or_legal at (Some s) rest = reads (Sign s) rest (tt {0})

longest_legal : (at : ℕ) (two one : Option Symbol) (rest : List ℕ) → ReadsLegal (longest_symbol at two one rest)
longest_legal at (Some s) one rest = reads (Sign s) (drop 1 rest) (tt {0})
longest_legal at None one rest = symbol_or_legal at one rest

symbol_legal : (at : ℕ) (bytes : List ℕ) → ReadsLegal (symbol_at at bytes)
unfolding symbol_at
symbol_legal at [] = fails _
symbol_legal at (a ∷ []) = symbol_or_legal at (symbol_of_one a) []
symbol_legal at (a ∷ b ∷ bs) = longest_legal at (symbol_of_two a b) (symbol_of_one a) (b ∷ bs)

word_reads_legal : (at : ℕ) (bytes : List ℕ) → ReadsLegal (word_at at bytes)
unfolding word_at
word_reads_legal at [] = fails _
word_reads_legal at (b ∷ bs) =
    let word = b ∷ bs in
    let quote = cond (b == 39) (text_at at bs) (symbol_at at word) in
    let minus = cond (b == 45 && first_is is_ascii_digit bs) (integer_at at true bs) quote in
    let digit = cond (is_ascii_digit b) (integer_at at false word) minus in
    either (begins_name b) (name_at at word) digit (λ h. name_legal at b bs h) (λ _.
    either (is_ascii_digit b) (integer_at at false word) minus (λ _. integer_legal at false word) (λ _.
    either (b == 45 && first_is is_ascii_digit bs) (integer_at at true bs) quote (λ _. integer_legal at true bs) (λ _.
    either (b == 39) (text_at at bs) (symbol_at at word) (λ _. text_legal at bs) (λ _. symbol_legal at word))))

pub word_legal : (at : ℕ) (bytes : List ℕ) (w : Lexeme) (rest : List ℕ) → word_at at bytes ≡ Ok (w, rest) → IsLexeme w
word_legal at bytes w rest read = let l = (word_reads_legal at bytes).legal in rw read at l

abbrev AllLegal : List Placed → Type 0
AllLegal [] = Unit {0}
AllLegal (t ∷ ts) = IsLexeme t.lexeme × AllLegal ts

abbrev IfAllRead : Result (List Placed) Fault → Type 0
IfAllRead (Ok ts) = AllLegal ts
IfAllRead (Err f) = Unit {0}

record TokensLegal (read : Result (List Placed) Fault) : Type 0 where
  legal : IfAllRead read

either_tokens : (t : Bool) (x y : Result (List Placed) Fault) → TokensLegal x → TokensLegal y → TokensLegal (cond t x y)
either_tokens true x y h k = h
either_tokens false x y h k = k

one_more : (t : Placed) (read : Result (List Placed) Fault) → IsLexeme t.lexeme → TokensLegal read
    → TokensLegal (read >>= λ ts. Ok (t ∷ ts))
one_more t (Ok ts) h more = record { legal = (h, more.legal) }
one_more t (Err f) h more = record { legal = tt {0} }

word_then : (at : ℕ) (read : Result (Lexeme × List ℕ) Fault) (after : Lexeme × List ℕ → Result (List Placed) Fault) → ReadsLegal read
    → ((w : Lexeme × List ℕ) → TokensLegal (after w))
    → TokensLegal (read >>= λ w. after w >>= λ ts. Ok (record { at = at; lexeme = w.0 } ∷ ts))
word_then at (Ok w) after h more = one_more (record { at = at; lexeme = w.0 }) (after w) h.legal (more w)
word_then at (Err f) after h more = record { legal = tt {0} }

all_read_legal : (within at : ℕ) (bytes : List ℕ) → TokensLegal (tokens_at within at bytes)
unfolding tokens_at
all_read_legal zero at [] = record { legal = tt {0} }
all_read_legal (suc within) at [] = record { legal = tt {0} }
all_read_legal (suc within) at (b ∷ bs) = all_read_legal within (at + 1) bs
all_read_legal zero at (b ∷ bs) =
    either_tokens (is_space b) _ _ (all_read_legal 0 (at + 1) bs)
    (word_then at (word_at at (b ∷ bs)) (λ (w : Lexeme × List ℕ). tokens_at (length bs - length w.1) (at + 1) bs)
    (word_reads_legal at (b ∷ bs)) (λ w. all_read_legal (length bs - length w.1) (at + 1) bs))

member_legal : (k : ℕ) (ts : List Placed) (w : Lexeme) → AllLegal ts → k < length (lexemes_of ts) → get_or (lexemes_of ts) k w ≡ w
    → IsLexeme w
member_legal k [] w all within is = absurd (omega (arith, within))
member_legal zero (t ∷ ts) w all within is = subst (λ (v : Lexeme). IsLexeme v) is all.0
member_legal (suc k) (t ∷ ts) w all within is = member_legal k ts w all.1 (omega (arith, within)) is

pub read_legal : (text : List ℕ) (ts : List Placed) (w : Lexeme) → tokens_in text ≡ Ok ts → Contains (lexemes_of ts) w → IsLexeme w
read_legal text ts w read member =
    let l = (all_read_legal 0 0 text).legal in
    member_legal member.0 ts w (rw read at l) member.1 member.2

pub name_read_legal : (text : List ℕ) (ts : List Placed) (name : List ℕ) → tokens_in text ≡ Ok ts → Contains (lexemes_of ts) (Name name)
    → IsName name
name_read_legal text ts name read member = read_legal text ts (Name name) read member

-- what was read is read again from its spelling with spaces
pub respelled : (text : List ℕ) (ts : List Placed) → tokens_in text ≡ Ok ts
    → lexemes_read (tokens_in (text_of (with_spaces (lexemes_of ts)))) ≡ Ok (lexemes_of ts)
respelled text ts read = spaced_again (lexemes_of ts) (λ w member. read_legal text ts w read member)

token_legal : (ts : List Token) → AllLegal (all_placed ts) → All (λ t. IsLexeme (lexeme_of t.word)) ts
token_legal [] all = λ k d within. absurd (omega (arith, within))
token_legal (t ∷ ts) all = All-cons (λ u. IsLexeme (lexeme_of u.word)) t ts all.0 (token_legal ts all.1)

-- the same of tokens of the code
pub tokens_legal : (text : List ℕ) (ts : List Token) → tokens_in text ≡ Ok (all_placed ts) → All (λ t. IsLexeme (lexeme_of t.word)) ts
tokens_legal text ts read = let l = (all_read_legal 0 0 text).legal in token_legal ts (rw read at l)
