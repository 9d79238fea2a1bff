-- No bytes are without an outcome. Whether bytes are a packing, or a state, or a schema's text, is stated and not computed. So this is said
-- of what would follow if there were none.
use Rattle.std.proofs.Common.{◌≡◌, ◌≢◌, refl, ℕ, zero, suc, ◌<◌, List, [], ◌∷◌, ◌++◌, take, drop, length, slice_index, Result, Ok, Err, inl}
use Rattle.std.proofs.Common.{inr, sym, ap, subst, ◌∙◌, arith}
use Rattle.std.proofs.lemmas.List.{length-take, take-append-drop}
use Rattle.std.proofs.lemmas.Bool.{cases_lt}
use Rattle.byteorder.specs.Endian.{big_from}
use Rattle.byteorder.specs.Numbers.{big_from-lt}
use Rattle.agg_protocol.specs.Lemmas.Bytes.{own_bytes}
use Rattle.summary_codec.specs.Lemmas.Words.{Column, Checked, parsing, opening, Outcome, Reader, done, both, must, taken, number, each}
use Rattle.summary_codec.specs.Lemmas.Words.{columns_in, query_in, opened, ended, SummaryError}
use Rattle.group_parser.specs.declared.error.ParseError.{ParseError}
use Rattle.group_parser.specs.Lemmas.ParseLaws.{parses_accepts, parses_refuses}
use Rattle.summary_codec.specs.declared.error.SummaryError.TheVariants as fault
use Rattle.summary_codec.specs.declared.error.SummaryError.TheVariants.{NotASummary, Truncated, Trailing, BadSchema}
use Rattle.summary_codec.specs.Lemmas.LoopLaws.{goes_on}

-- bytes are numbers below 256
abbrev pub AreBytes : List ℕ → Type 0
AreBytes bytes = (i : ℕ) → slice_index bytes i < 256

rest_of : (front rest : List ℕ) → AreBytes (front ++ rest) → AreBytes rest
rest_of [] rest are = are
rest_of (b ∷ front) rest are = rest_of front rest (λ i. are (suc i))

front_of : (front rest : List ℕ) → AreBytes (front ++ rest) → AreBytes front
front_of [] rest are i = omega arith
front_of (b ∷ front) rest are zero = are zero
front_of (b ∷ front) rest are (suc i) = front_of front rest (λ j. are (suc j)) i

-- what is left of bytes are bytes
abbrev pub LeavesBytes : {A : Type 0} → Outcome A → Type 0
LeavesBytes (Ok found) = AreBytes found.1
LeavesBytes (Err e) = Unit {0}

-- bytes have an outcome: it can't be that they have none
abbrev pub HasOutcome : {A : Type 0} → Reader A → Type 0
HasOutcome {A = A} r = (bytes : List ℕ) → AreBytes bytes → ((out : Outcome A) → r bytes out → LeavesBytes out → ⊥) → ⊥

pub some_done : {A : Type 0} (x : A) → HasOutcome (done x)
some_done x bytes are never = never (Ok (x, bytes)) (refl, refl) are

pub some_both : {A B : Type 0} (first : Reader A) (next : A → Reader B) → HasOutcome first → ((x : A) → HasOutcome (next x))
    → HasOutcome (both first next)
some_both {A} {B} first next some more bytes are never = some bytes are one
  where
    one : (out : Outcome A) → first bytes out → LeavesBytes out → ⊥
    one (Ok found) there left = more found.0 found.1 left
        (λ out behind leaves. never out (goes_on first next bytes found.1 found.0 out there behind) leaves)
    one (Err e) there left = never (Err e) (inl there) tt

pub some_must : {A : Type 0} (right : Type 0) (error : SummaryError) (next : Reader A) → HasOutcome next
    → HasOutcome (must right error next)
some_must {A} right error next some bytes are never = never (Err error) (inr (wrong, refl)) tt
  where
    with_it : (is : right) (out : Outcome A) → next bytes out → LeavesBytes out → ⊥
    with_it is (Ok found) there left = never (Ok found) (is, there) left
    with_it is (Err e) there left = never (Err e) (inl (is, there)) tt

    wrong : right → ⊥
    wrong is = some bytes are (with_it is)

-- bytes in two, where there are so many
in_two : (count : ℕ) (bytes : List ℕ) → bytes ≡ take count bytes ++ drop count bytes
in_two count bytes = sym (take-append-drop count bytes)

pub some_taken : (count : ℕ) → HasOutcome (taken count)
some_taken count bytes are never = elim (cases_lt (length bytes) count) [
  | inl low ↦ never (Err Truncated) (low, refl) tt
  | inr high ↦
      let wide = length-take count bytes in
      never (Ok (take count bytes, drop count bytes)) (in_two count bytes, omega (arith, wide, high))
      (rest_of (take count bytes) (drop count bytes) (subst AreBytes (in_two count bytes) are))
]

pub some_number : (width : ℕ) → HasOutcome (number width)
unfolding number
some_number width bytes are never = elim (cases_lt (length bytes) width) [
  | inl low ↦ never (Err Truncated) (low, refl) tt
  | inr high ↦
      let wide = length-take width bytes in
      let whole = subst AreBytes (in_two width bytes) are in
      let front = front_of (take width bytes) (drop width bytes) whole in
      never (Ok (big_from 0 width (take width bytes), drop width bytes)) (
        in_two width bytes ∙ ap (λ f. f ++ drop width bytes) (own_bytes width (take width bytes) front (omega (arith, wide, high))),
        big_from-lt 0 width (take width bytes) front,
      )
      (rest_of (take width bytes) (drop width bytes) whole)
]

pub some_each : {A : Type 0} (item : List A → Reader A) → ((before : List A) → HasOutcome (item before)) → (n : ℕ) (before : List A)
    → HasOutcome (each item n before)
some_each item some zero before = some_done before
some_each item some (suc n) before = some_both (item before) (λ x. each item n (before ++ x ∷ [])) (some before)
    (λ x. some_each item some n (before ++ x ∷ []))

pub some_columns : (said : List ℕ) → HasOutcome (columns_in said)
some_columns said bytes are never = never (Err BadSchema) ((λ columns is. never (Ok (columns, bytes)) (is, refl) are), refl) tt

pub some_query_in : (columns : List Column) (said : List ℕ) → HasOutcome (query_in columns said)
some_query_in columns said bytes are never = go (parsing columns said) refl
  where
    go : (read : Result Checked ParseError) → parsing columns said ≡ read → ⊥
    go (Ok q) e = never (Ok (q, bytes)) (parses_accepts columns said q e, refl) are
    go (Err why) e = never (Err (fault.Query why)) (why, parses_refuses columns said why e, refl) tt

pub some_opened : HasOutcome opened
unfolding opened
some_opened bytes are never =
    never (Err NotASummary) (
      (λ version rest is. never (Ok (version, rest)) is (rest_of (opening version) rest (subst AreBytes is are))),
      (λ short. never (Err Truncated) short tt),
    ) tt

pub some_ended : HasOutcome ended
some_ended [] are never = never (Ok (tt, [])) (refl, refl) are
some_ended (b ∷ bytes) are never = never (Err Trailing) (not_none, refl) tt
  where
    not_none : b ∷ bytes ≢ []
    not_none same = absurd (let e = ap length same in omega (arith, e))
