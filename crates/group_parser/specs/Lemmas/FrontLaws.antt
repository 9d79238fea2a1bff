-- How far tokens go as a query, by where reading stops.
use Rattle.std.proofs.Common.{◌≡◌, ℕ, ◌+◌, ◌-◌, List, [], ◌∷◌, ◌++◌, length, Ok, Err, refl, sym, ap, subst, ◌∙◌, arith}
use Rattle.std.proofs.lemmas.List.{append-nil, length-append}
use Rattle.query_tokens.specs.Words.{Lexeme}
use Rattle.query_checks.specs.Order.{Asked}
use Rattle.query_grammar.specs.Grammar.{opening}
use Rattle.query_grammar.specs.Queries.{IsQuery, Begins}
use Rattle.query_grammar.specs.Reading.{Read, Unexpected, Too_deep}
use Rattle.query_grammar.specs.Whole.{query_at}
use Rattle.query_grammar.specs.Laws.{NoneGoesOn, IsUnexpected, IsTooDeep}
use Rattle.query_grammar.specs.Lemmas.Faults.{is_query, is_unexpected, is_too_deep}
use Rattle.group_parser.specs.Fronts.{NoneFollows, IsLongestFront, read_of}

all_begin : (limit : ℕ) (ts : List Lexeme) (q : Asked) (rest : List Lexeme) → query_at limit ts ≡ Ok (q, rest)
    → IsLongestFront limit ts (length ts)
all_begin limit ts q rest e =
    record {
      front = ts;
      rest = [];
      split = sym (append-nil ts);
      many = refl;
      begins = record {
        more = [];
        asked = q;
        is_query = subst (λ (u : List Lexeme). IsQuery limit u q) (sym (append-nil ts)) (is_query limit ts q rest e);
      };
      ends = tt;
    }

-- what is not left stands before
before : (ts front rest : List Lexeme) (left : ℕ) → ts ≡ front ++ rest → length rest ≡ left → length front ≡ length ts - left
before ts front rest left split place =
    let all : length ts ≡ length front + length rest = ap length split ∙ length-append front rest in
    omega (arith, all, place)

none_follows : (limit : ℕ) (front rest : List Lexeme) → NoneGoesOn limit front rest → NoneFollows limit front rest
none_follows limit front [] none = tt
none_follows limit front (t ∷ rest) none = none

begin_up_to_unexpected : (limit : ℕ) (ts : List Lexeme) (left : ℕ) → query_at limit ts ≡ Err (Unexpected left)
    → IsLongestFront limit ts (length ts - left)
begin_up_to_unexpected limit ts left e =
    let a = is_unexpected limit ts left e in
    record {
      front = a.front;
      rest = a.rest;
      split = a.split;
      many = before ts a.front a.rest left a.split a.place;
      begins = a.begins;
      ends = none_follows limit a.front a.rest a.ends;
    }

begin_up_to_too_deep : (limit : ℕ) (ts : List Lexeme) (left : ℕ) → query_at limit ts ≡ Err (Too_deep left)
    → IsLongestFront limit ts (length ts - left)
begin_up_to_too_deep limit ts left e =
    let a = is_too_deep limit ts left e in
    record {
      front = a.front;
      rest = opening ∷ a.rest;
      split = a.split;
      many = before ts a.front (opening ∷ a.rest) left a.split a.place;
      begins = a.begins;
      ends = none_follows limit a.front (opening ∷ a.rest) a.ends;
    }

longest_of : (limit : ℕ) (ts : List Lexeme) (r : Read Asked) → query_at limit ts ≡ r → IsLongestFront limit ts (read_of ts r)
longest_of limit ts (Ok x) e = all_begin limit ts x.0 x.1 e
longest_of limit ts (Err (Unexpected left)) e = begin_up_to_unexpected limit ts left e
longest_of limit ts (Err (Too_deep left)) e = begin_up_to_too_deep limit ts left e

pub longest : (limit : ℕ) (ts : List Lexeme) (count : ℕ) → count ≡ read_of ts (query_at limit ts) → IsLongestFront limit ts count
longest limit ts count e = subst (λ n. IsLongestFront limit ts n) (sym e) (longest_of limit ts (query_at limit ts) refl)
