-- The bytes of canonical texts and the lexemes that are read from them.
use Rattle.std.proofs.Common.{◌≡◌, ℕ, ◌+◌, ◌-◌, Bool, true, false, ltb, List, [], ◌∷◌, ◌++◌, length, map, Ok, Err, refl, ap, sym, subst}
use Rattle.std.proofs.Common.{◌∙◌, append_assoc, arith}
use Rattle.std.specs.Prelude.{codes, Result, ◌&&◌, nat_le}
use Rattle.std.specs.Char.{to_ascii_lowercase}
use Rattle.std.specs.List.{list_all}
use Rattle.std.proofs.Math.Seq.{take-append_seam, drop-append_seam}
use Rattle.std.proofs.lemmas.Bool.{and_parts, false≢true, le-ltb, leb-true}
use Rattle.std.proofs.lemmas.List.{length-drop}
use Rattle.query_tokens.specs.declared.fault.Fault.{Fault}
use Rattle.query_grammar.specs.Lemmas.Words.{Lexeme, Name, Placed, tokens_at, IsLexeme, EndsBefore, spell, lexemes_read, runs_on, test_text}
use Rattle.query_grammar.specs.Lemmas.Words.{test_word, opening, closing}
use Rattle.query_tokens.specs.Bytes.{first_is, is_space, begins_name, is_in_name}
use Rattle.query_tokens.specs.Tokens.{◌>>=◌, name_at, word_at}
use Rattle.query_tokens.specs.Lemmas.Steps.{passes, word_end}
use Rattle.query_tokens.specs.Lemmas.Respelled.{run_length, word_again}
use Rattle.query_tokens.specs.Lemmas.Pieces.{IsSolid, spell_solid}
use Rattle.query_tokens.specs.EndLaws.{before_others}
use Rattle.grouping_model.specs.declared.limits.TheConstants.{MAX_NAME_LEN}
use Rattle.grouping_model.specs.Condition as model
use Rattle.std.proofs.lemmas.Bool.Decides.{nat_tests}
use Rattle.std.proofs.lemmas.Grind.{common_steps}

-- these bytes are read as these lexemes, wherever they stand
pub record Reads (bytes : List ℕ) (lexemes : List Lexeme) : Type 0 where
  pub from : (at : ℕ) → lexemes_read (tokens_at 0 at bytes) ≡ Ok lexemes

pub reads_nothing : Reads [] []
unfolding tokens_at
reads_nothing = record { from = λ at. refl }

pub reads_space : (bytes : List ℕ) (ws : List Lexeme) → Reads bytes ws → Reads (32 ∷ bytes) ws
unfolding tokens_at
reads_space bytes ws more = record { from = λ at. more.from (at + 1) }

one_more : (t : Placed) (ws : List Lexeme) (read : Result (List Placed) Fault) → lexemes_read read ≡ Ok ws
    → lexemes_read (read >>= λ ts. Ok (t ∷ ts)) ≡ Ok (t.lexeme ∷ ws)
one_more t ws (Ok ts) h = cc
one_more t ws (Err f) h = cc

word_first : (at : ℕ) (bytes : List ℕ) (w : Lexeme) (rest : List ℕ) (ws : List Lexeme) → IsSolid bytes → word_at at bytes ≡ Ok (w, rest)
    → Reads rest ws → lexemes_read (tokens_at 0 at bytes) ≡ Ok (w ∷ ws)
unfolding tokens_at
word_first at [] w rest ws solid read more = let some = solid.some in absurd (omega (arith, some))
word_first at (b ∷ bs) w rest ws solid read more =
    let e = word_end at b bs w rest read in
    let len : length rest ≡ length bs - e.len = ap length e.rest_is ∙ length-drop e.len bs in
    let skip : length bs - length rest ≡ e.len = omega (arith, len, e.within) in
    let behind : tokens_at (length bs - length rest) (at + 1) bs ≡ tokens_at 0 (at + 1 + e.len) rest = rw skip (passes e.len (at + 1) bs
    ∙ rw (← e.rest_is) refl) in
    rw (solid.solid, read, behind) (one_more (record { at = at; lexeme = w }) ws (tokens_at 0 (at + 1 + e.len) rest)
    (more.from (at + 1 + e.len)))

reads_word : (bytes : List ℕ) (w : Lexeme) (rest : List ℕ) (ws : List Lexeme) → IsSolid bytes → ((at : ℕ) → word_at at bytes ≡ Ok (w, rest))
    → Reads rest ws → Reads bytes (w ∷ ws)
reads_word bytes w rest ws solid read more = record { from = λ at. word_first at bytes w rest ws solid (read at) more }

pub reads_spelled : (w : Lexeme) (rest : List ℕ) (ws : List Lexeme) → IsLexeme w → EndsBefore w rest → Reads rest ws
    → Reads (spell w ++ rest) (w ∷ ws)
reads_spelled w rest ws legal ends more = reads_word (spell w ++ rest) w rest ws (spell_solid w rest legal)
    (λ at. word_again at w rest legal ends) more

pub never_first : (bytes : List ℕ) → first_is (λ b. false) bytes ≡ false
never_first [] = refl
never_first (b ∷ bs) = refl

-- ---- texts before others

-- bytes that run into no lexeme
abbrev pub Quiet : List ℕ → Type 0
Quiet rest = first_is runs_on rest ≡ false

-- a text is read as these lexemes before what runs into none
pub record Spells (text : List ℕ) (ts : List Lexeme) : Type 0 where
  pub on : (rest : List ℕ) (ws : List Lexeme) → Quiet rest → Reads rest ws → Reads (text ++ rest) (ts ++ ws)

-- a text is read as these lexemes before anything, and runs into nothing
pub record Opens (text : List ℕ) (ts : List Lexeme) : Type 0 where
  pub on : (rest : List ℕ) (ws : List Lexeme) → Reads rest ws → Reads (text ++ rest) (ts ++ ws)

pub spells_lexeme : (w : Lexeme) → IsLexeme w → Spells (spell w) (w ∷ [])
spells_lexeme w legal = record { on = λ rest ws quiet more. reads_spelled w rest ws legal (before_others w rest quiet) more }

-- one text behind another that needs a quiet one
pub spells_two : (a b : List ℕ) (ts us : List Lexeme) → Spells a ts → ((rest : List ℕ) → Quiet rest → Quiet (b ++ rest)) → Spells b us
    → Spells (a ++ b) (ts ++ us)
spells_two a b ts us s quiet t = grind (arith, nat_tests, common_steps)

pub opens_then : (a b : List ℕ) (ts us : List Lexeme) → Opens a ts → Spells b us → Spells (a ++ b) (ts ++ us)
opens_then a b ts us s t = record {
  on = λ rest ws q more. rw (append_assoc a b rest, append_assoc ts us ws) (s.on (b ++ rest) (us ++ ws) (t.on rest ws q more));
}

-- two texts with one between them that is quiet
pub spells_between : (a o b : List ℕ) (ts vs us : List Lexeme) → Spells a ts → ((rest : List ℕ) → Quiet (o ++ rest)) → Opens o vs
    → Spells b us → Spells (a ++ o ++ b) (ts ++ (vs ++ us))
spells_between a o b ts vs us s quiet between t =
    subst (λ (text : List ℕ). Spells text (ts ++ (vs ++ us))) (sym (append_assoc a o b))
    (spells_two a (o ++ b) ts (vs ++ us) s (λ rest q. rw (append_assoc o b rest) (quiet (b ++ rest))) (opens_then o b vs us between t))

-- a text in parentheses
pub spells_enclosed : (text : List ℕ) (ts : List Lexeme) → Spells text ts → Spells (codes "(" ++ text ++ codes ")") (opening
    ∷ (ts ++ closing ∷ []))
spells_enclosed text ts s =
    opens_close (record { on = λ rest ws more. reads_spelled opening rest ws tt (never_first rest) more })
    (spells_two text (codes ")") ts (closing ∷ []) s (λ rest q. refl) (spells_lexeme closing tt))
  where
    opens_close : Opens (codes "(") (opening ∷ []) → Spells (text ++ codes ")") (ts ++ closing ∷ [])
        → Spells (codes "(" ++ text ++ codes ")") (opening ∷ (ts ++ closing ∷ []))
    opens_close o t = opens_then (codes "(") (text ++ codes ")") (opening ∷ []) (ts ++ closing ∷ []) o t

-- ---- key words in capitals: bytes that a name can have

abbrev pub is_key_word : List ℕ → Bool
is_key_word text = first_is begins_name text && (list_all is_in_name text && nat_le (length text) MAX_NAME_LEN)

-- the word that is read
abbrev pub in_small : List ℕ → Lexeme
in_small text = Name (map to_ascii_lowercase text)

quiet_name : (rest : List ℕ) → Quiet rest → first_is is_in_name rest ≡ false
quiet_name [] q = refl
quiet_name (b ∷ bs) q = grind (arith, nat_tests, common_steps)

begins_solid : (b : ℕ) → begins_name b ≡ true → is_space b ≡ false
begins_solid b h = grind (arith, h)

name_in_capitals : (at : ℕ) (text rest : List ℕ) → list_all is_in_name text ≡ true → ltb MAX_NAME_LEN (length text) ≡ false → Quiet rest
    → name_at at (text ++ rest) ≡ Ok (in_small text, rest)
unfolding name_at
name_in_capitals at text rest goes_on short q =
    rw (run_length is_in_name text rest goes_on (quiet_name rest q), short, take-append_seam text rest, drop-append_seam text rest) refl

reads_key_word : (text rest : List ℕ) (ws : List Lexeme) → is_key_word text ≡ true → Quiet rest → Reads rest ws
    → Reads (text ++ rest) (in_small text ∷ ws)
unfolding word_at
reads_key_word [] rest ws h q more = absurd (false≢true h)
reads_key_word (b ∷ bs) rest ws h q more =
    let text = b ∷ bs in
    let begins = and_parts (begins_name b) (list_all is_in_name text && nat_le (length text) MAX_NAME_LEN) h in
    let goes_on = and_parts (list_all is_in_name text) (nat_le (length text) MAX_NAME_LEN) begins.1 in
    let short : ltb MAX_NAME_LEN (length text) ≡ false = le-ltb MAX_NAME_LEN (length text) (leb-true (length text) MAX_NAME_LEN goes_on.1)
    in
    reads_word (text ++ rest) (in_small text) rest ws (record { some = omega arith; solid = begins_solid b begins.0 })
    (λ at. rw begins.0 (name_in_capitals at text rest goes_on.0 short q)) more

pub spells_word : (text : List ℕ) → is_key_word text ≡ true → Spells text (in_small text ∷ [])
spells_word text h = record { on = λ rest ws q more. reads_key_word text rest ws h q more }

-- with a space behind it
pub opens_word : (text : List ℕ) → is_key_word text ≡ true → Opens (text ++ 32 ∷ []) (in_small text ∷ [])
opens_word text h = record {
  on = λ rest ws more. rw (append_assoc text (32 ∷ []) rest)
      (reads_key_word text (32 ∷ rest) ws h refl (reads_space rest ws more));
}

-- with a space before it and one behind
pub opens_between : (text : List ℕ) → is_key_word text ≡ true → Opens (32 ∷ (text ++ 32 ∷ [])) (in_small text ∷ [])
opens_between text h = record {
  on = λ rest ws more. reads_space ((text ++ 32 ∷ []) ++ rest) (in_small text
      ∷ ws) ((opens_word text h).on rest ws more);
}

-- and with one before it alone
pub spells_behind : (text : List ℕ) → is_key_word text ≡ true → Spells (32 ∷ text) (in_small text ∷ [])
spells_behind text h = record {
  on = λ rest ws q more. reads_space (text ++ rest) (in_small text
      ∷ ws) (reads_key_word text rest ws h q more);
}

-- one that opens behind another
pub opens_two : (a b : List ℕ) (ts us : List Lexeme) → Opens a ts → Opens b us → Opens (a ++ b) (ts ++ us)
opens_two a b ts us s t = record {
  on = λ rest ws more. rw (append_assoc a b rest, append_assoc ts us ws)
      (s.on (b ++ rest) (us ++ ws) (t.on rest ws more));
}

pub spells_test : (t : model.Test) → Spells (test_text t) (Name (test_word t) ∷ [])
spells_test model.Is_null = spells_word (codes "NULL") refl
spells_test t = spells_word (test_text t) refl
