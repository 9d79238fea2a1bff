-- The bytes of a token that was read are passed over, and what a reader leaves is an end of the bytes.
use Rattle.std.proofs.Common.{◌≡◌, ℕ, zero, suc, ◌+◌, ◌≤◌, Bool, true, false, cond, ltb, List, [], ◌∷◌, length, drop, take, map}
use Rattle.std.proofs.Common.{Option, Some, None, Result, Ok, Err, refl, ap, ◌∙◌, arith}
use Rattle.query_tokens.specs.declared.fault.Fault.{Fault}
use Rattle.query_tokens.specs.declared.fault.Fault.TheVariants.{Syntax}
use Rattle.query_tokens.specs.Words.{Lexeme, Name}
use Rattle.std.specs.Prelude.{ℤ, ◌==◌, ◌&&◌}
use Rattle.std.specs.Char.{is_ascii_digit, to_ascii_lowercase}
use Rattle.std.specs.List.{prefix_len}
use Rattle.std.proofs.lemmas.List.Sums.{prefix_len-le-length}
use Rattle.grouping_model.specs.declared.limits.TheConstants.{MAX_NAME_LEN}
use Rattle.query_tokens.specs.declared.word.Symbol.{Symbol}
use Rattle.query_tokens.specs.Bytes.{begins_name, is_in_name, first_is, symbol_of_one, symbol_of_two}
use Rattle.query_tokens.specs.Tokens.{number_after, integer_of, name_at, integer_at, integer_or_fault, and_before, string_content}
use Rattle.query_tokens.specs.Tokens.{text_or_fault, text_at, symbol_or_fault, longest_symbol, symbol_at, word_at, tokens_at, begins_with}

-- the bytes of a token that has been read are passed over
pub passes : (within at : ℕ) (bytes : List ℕ) → tokens_at within at bytes ≡ tokens_at 0 (at + within) (drop within bytes)
unfolding tokens_at
passes zero at bytes = ap (λ (k : ℕ). tokens_at 0 k bytes) (omega arith)
passes (suc n) at [] = refl
passes (suc n) at (b ∷ bs) = passes n (at + 1) bs ∙ ap (λ (k : ℕ). tokens_at 0 k (drop n bs)) (omega arith)

pub begun_passes : (tokens within at : ℕ) (bytes : List ℕ)
    → begins_with tokens within at bytes ≡ begins_with tokens 0 (at + within) (drop within bytes)
unfolding begins_with
begun_passes zero within at bytes = refl
begun_passes (suc k) zero at bytes = ap (λ (n : ℕ). begins_with (suc k) 0 n bytes) (omega arith)
begun_passes (suc k) (suc n) at [] = refl
begun_passes (suc k) (suc n) at (b ∷ bs) =
    begun_passes (suc k) n (at + 1) bs ∙ ap (λ (m : ℕ). begins_with (suc k) 0 m (drop n bs)) (omega arith)

-- what a reader leaves is an end of the bytes
pub record IsEnd (bytes rest : List ℕ) : Type 0 where
  pub len : ℕ
  pub within : len ≤ length bytes
  pub rest_is : rest ≡ drop len bytes

further : (b : ℕ) (bs rest : List ℕ) → IsEnd bs rest → IsEnd (b ∷ bs) rest
further b bs rest h = record { len = suc h.len; within = omega (arith, h.within); rest_is = h.rest_is }

abbrev pub LeavesEnd : Result (Lexeme × List ℕ) Fault → List ℕ → Type 0
LeavesEnd (Ok x) bytes = IsEnd bytes x.1
LeavesEnd (Err e) bytes = Unit {0}

pub record Leaves (read : Result (Lexeme × List ℕ) Fault) (bytes : List ℕ) : Type 0 where
  pub end : LeavesEnd read bytes

fails : (f : Fault) (bytes : List ℕ) → Leaves (Err f) bytes
fails f bytes = record { end = tt {0} }

reads : (w : Lexeme) (rest bytes : List ℕ) → IsEnd bytes rest → Leaves (Ok (w, rest)) bytes
reads w rest bytes h = record { end = h }

either : (t : Bool) (x y : Result (Lexeme × List ℕ) Fault) (bytes : List ℕ) → (t ≡ true → Leaves x bytes) → (t ≡ false → Leaves y bytes)
    → Leaves (cond t x y) bytes
either true x y bytes h k = h refl
either false x y bytes h k = k refl

run_longer : (p : ℕ → Bool) (b : ℕ) (bs : List ℕ) → p b ≡ true → prefix_len p (b ∷ bs) ≡ suc (prefix_len p bs)
run_longer p b bs h = rw h (omega arith)

run_end : (p : ℕ → Bool) (b : ℕ) (bs : List ℕ) → p b ≡ true → IsEnd bs (drop (prefix_len p (b ∷ bs)) (b ∷ bs))
run_end p b bs h = record { len = prefix_len p bs; within = prefix_len-le-length p bs; rest_is = rw (run_longer p b bs h) refl }

in_name : (b : ℕ) → begins_name b ≡ true → is_in_name b ≡ true
in_name b h = grind arith

name_leaves : (at b : ℕ) (bs : List ℕ) → begins_name b ≡ true → Leaves (name_at at (b ∷ bs)) bs
unfolding name_at
name_leaves at b bs h =
    let len = prefix_len is_in_name (b ∷ bs) in
    either (ltb MAX_NAME_LEN len) (Err (Syntax at)) (Ok (Name (map to_ascii_lowercase (take len (b ∷ bs))), drop len (b ∷ bs))) bs
    (λ _. fails (Syntax at) bs) (λ _. reads (Name (map to_ascii_lowercase (take len (b ∷ bs)))) (drop len (b ∷ bs)) bs
    (run_end is_in_name b bs (in_name b h)))

integer_or_leaves : (o : Option ℤ) (rest bs : List ℕ) → IsEnd bs rest → Leaves (integer_or_fault o rest) bs
integer_or_leaves None rest bs h = fails _ _
integer_or_leaves (Some z) rest bs h = reads _ _ _ h

integer_leaves : (at : ℕ) (negative : Bool) (b : ℕ) (bs : List ℕ) → is_ascii_digit b ≡ true → Leaves (integer_at at negative (b ∷ bs)) bs
unfolding integer_at
integer_leaves at negative b bs h =
    let len = prefix_len is_ascii_digit (b ∷ bs) in
    let o = integer_of negative (number_after 0 (take len (b ∷ bs))) in
    either (first_is begins_name (drop len (b ∷ bs))) (Err (Syntax at)) (integer_or_fault o (drop len (b ∷ bs))) bs
    (λ _. fails (Syntax at) bs) (λ _. integer_or_leaves o (drop len (b ∷ bs)) bs (run_end is_ascii_digit b bs h))

abbrev LeavesQuotedEnd : Option (List ℕ × List ℕ) → List ℕ → Type 0
LeavesQuotedEnd None bytes = Unit {0}
LeavesQuotedEnd (Some x) bytes = IsEnd bytes x.1

record LeavesQuoted (read : Option (List ℕ × List ℕ)) (bytes : List ℕ) : Type 0 where
  end : LeavesQuotedEnd read bytes

either_quoted : (t : Bool) (x y : Option (List ℕ × List ℕ)) (bytes : List ℕ) → LeavesQuoted x bytes → LeavesQuoted y bytes
    → LeavesQuoted (cond t x y) bytes
either_quoted true x y bytes h k = h
either_quoted false x y bytes h k = k

wider : (b : ℕ) (bs : List ℕ) (q : Option (List ℕ × List ℕ)) → LeavesQuoted q bs → LeavesQuoted q (b ∷ bs)
wider b bs None h = record { end = tt {0} }
wider b bs (Some x) h = record { end = further b bs x.1 h.end }

before_wider : (d b : ℕ) (bs : List ℕ) (q : Option (List ℕ × List ℕ)) → LeavesQuoted q bs → LeavesQuoted (and_before d q) (b ∷ bs)
before_wider d b bs None h = record { end = tt {0} }
before_wider d b bs (Some x) h = record { end = further b bs x.1 h.end }

whole : (bytes : List ℕ) → IsEnd bytes bytes
whole bytes = record { len = 0; within = omega arith; rest_is = refl }

quoted_leaves : (closing : Bool) (bytes : List ℕ) → LeavesQuoted (string_content closing bytes) bytes
unfolding string_content
quoted_leaves false [] = record { end = tt {0} }
quoted_leaves true [] = record { end = whole [] }
quoted_leaves false (b ∷ bs) = either_quoted (b == 39) _ _ (b ∷ bs) (wider b bs (string_content true bs) (quoted_leaves true bs))
    (before_wider b b bs (string_content false bs) (quoted_leaves false bs))
quoted_leaves true (b ∷ bs) = either_quoted (b == 39) _ _ (b ∷ bs) (before_wider 39 b bs (string_content false bs) (quoted_leaves false bs))
    (record { end = whole (b ∷ bs) })

text_or_leaves : (at : ℕ) (q : Option (List ℕ × List ℕ)) (bs : List ℕ) → LeavesQuoted q bs → Leaves (text_or_fault at q) bs
text_or_leaves at None bs h = fails _ _
text_or_leaves at (Some x) bs h = either _ _ _ bs (λ _. fails _ _) (λ _. reads _ _ _ h.end)

text_leaves : (at : ℕ) (bs : List ℕ) → Leaves (text_at at bs) bs
unfolding text_at
text_leaves at bs = text_or_leaves at (string_content false bs) bs (quoted_leaves false bs)

symbol_or_leaves : (at : ℕ) (o : Option Symbol) (rest bs : List ℕ) → IsEnd bs rest → Leaves (symbol_or_fault at o rest) bs
symbol_or_leaves at None rest bs h = fails _ _
symbol_or_leaves at (Some s) rest bs h = reads _ _ _ h

longest_leaves : (at : ℕ) (two one : Option Symbol) (b : ℕ) (bs : List ℕ) → Leaves (longest_symbol at two one (b ∷ bs)) (b ∷ bs)
longest_leaves at (Some s) one b bs = reads _ _ _ (further b bs bs (whole bs))
longest_leaves at None one b bs = symbol_or_leaves at one (b ∷ bs) (b ∷ bs) (whole (b ∷ bs))

symbol_leaves : (at a : ℕ) (bs : List ℕ) → Leaves (symbol_at at (a ∷ bs)) bs
unfolding symbol_at
symbol_leaves at a [] = symbol_or_leaves at (symbol_of_one a) [] [] (whole [])
symbol_leaves at a (b ∷ bs) = longest_leaves at (symbol_of_two a b) (symbol_of_one a) b bs

read_wider : (b : ℕ) (bs : List ℕ) (r : Result (Lexeme × List ℕ) Fault) → Leaves r bs → Leaves r (b ∷ bs)
read_wider b bs (Ok x) h = record { end = further b bs x.1 h.end }
read_wider b bs (Err e) h = record { end = tt {0} }

negative_leaves : (t : Bool) (at : ℕ) (bs : List ℕ) → (t && first_is is_ascii_digit bs) ≡ true → Leaves (integer_at at true bs) bs
negative_leaves true at [] h = absurd cc
negative_leaves false at bs h = absurd cc
negative_leaves true at (b ∷ bs) h = read_wider b bs (integer_at at true (b ∷ bs)) (integer_leaves at true b bs h)

-- a word has at least a byte
pub word_leaves : (at b : ℕ) (bs : List ℕ) → Leaves (word_at at (b ∷ bs)) bs
unfolding word_at
word_leaves at b bs =
    either _ _ _ bs (λ h. name_leaves at b bs h) (λ _.
    either _ _ _ bs (λ h. integer_leaves at false b bs h) (λ _.
    either _ _ _ bs (λ h. negative_leaves (b == 45) at bs h) (λ _.
    either _ _ _ bs (λ _. text_leaves at bs) (λ _. symbol_leaves at b bs))))

pub word_end : (at b : ℕ) (bs : List ℕ) (w : Lexeme) (after : List ℕ) → word_at at (b ∷ bs) ≡ Ok (w, after) → IsEnd bs after
word_end at b bs w after h = let l = (word_leaves at b bs).end in rw h at l
