-- Texts that begin a query, by how many of their tokens do.
use Rattle.std.specs.Prelude.{◌↔◌, OnOk, Result, Err}
use Rattle.std.proofs.Common.{◌≡◌, ℕ, ◌+◌, List, [], ◌∷◌, ◌++◌, length, Ok, sym, ap, subst, ◌∙◌, arith}
use Rattle.std.proofs.lemmas.List.{append-nil, append_assoc, length-append, length-map}
use Rattle.query_tokens.specs.Words.{Lexeme, Placed}
use Rattle.query_tokens.specs.declared.fault.Fault.{Fault}
use Rattle.query_tokens.specs.Tokens.{tokens_in}
use Rattle.query_tokens.specs.Spelling.{lexemes_of}
use Rattle.query_grammar.specs.Queries.{Begins, IsQuery, most_open}
use Rattle.group_parser.specs.Fronts.{IsFront, IsLongestFront, NoneFollows}

-- a front that has as many tokens as there are is all of them
all_begin : (limit : ℕ) (ts front rest : List Lexeme) → ts ≡ front ++ rest → length front ≡ length ts → Begins limit front
    → Begins limit ts
all_begin limit ts front [] split many b = subst (λ (u : List Lexeme). Begins limit u) (sym (split ∙ append-nil front)) b
all_begin limit ts front (t ∷ rest) split many b =
    let all : length ts ≡ length front + length (t ∷ rest) = ap length split ∙ length-append front (t ∷ rest) in
    absurd (omega (arith, all, many))

pub is_front : (text : List ℕ) (placed : List Placed) (count : ℕ) → tokens_in text ≡ Ok placed
    → IsLongestFront most_open (lexemes_of placed) count → count ≡ length placed → IsFront text
is_front text placed count read a all = record {
  tokens = placed;
  read = read;
  begins = all_begin most_open (lexemes_of placed) a.front a.rest a.split (a.many ∙ all ∙ sym (length-map placed (λ t. t.lexeme)))
      a.begins;
}

-- what begins a query has fronts that do
front_begins : (limit : ℕ) (front : List Lexeme) (t : Lexeme) (rest : List Lexeme) → Begins limit (front ++ t ∷ rest)
    → Begins limit (front ++ t ∷ [])
front_begins limit front t rest b = record {
  more = rest ++ b.more;
  asked = b.asked;
  is_query = subst (λ (u : List Lexeme). IsQuery limit u b.asked)
      (append_assoc front (t ∷ rest) b.more ∙ sym (append_assoc front (t ∷ []) (rest ++ b.more))) b.is_query;
}

-- the longest front of what begins a query is all of it
all_begun : (limit : ℕ) (ts front rest : List Lexeme) → ts ≡ front ++ rest → NoneFollows limit front rest → Begins limit ts
    → length front ≡ length ts
all_begun limit ts front [] split ends b = sym (ap length (split ∙ append-nil front))
all_begun limit ts front (t ∷ rest) split ends b =
    absurd (ends (front_begins limit front t rest (subst (λ (u : List Lexeme). Begins limit u) split b)))

-- the tokens that were read, none where there was a fault
read_tokens : Result (List Placed) Fault → List Placed
read_tokens (Ok placed) = placed
read_tokens (Err fault) = []

pub is_begun : (text : List ℕ) (placed : List Placed) (count : ℕ) → tokens_in text ≡ Ok placed
    → IsLongestFront most_open (lexemes_of placed) count → IsFront text → count ≡ length placed
unfolding read_tokens
is_begun text placed count read a front =
    let same : front.tokens ≡ placed = ap read_tokens (sym front.read ∙ read) in
    sym a.many ∙ all_begun most_open (lexemes_of placed) a.front a.rest a.split a.ends
    (subst (λ (p : List Placed). Begins most_open (lexemes_of p)) same front.begins) ∙ length-map placed (λ t. t.lexeme)

-- a text with a fault begins none
pub is_no_front : (text : List ℕ) (fault : Fault) → tokens_in text ≡ Err fault → ¬ (IsFront text)
is_no_front text fault read front = subst (λ (r : Result (List Placed) Fault). OnOk r ⊥) (sym read ∙ front.read) tt
