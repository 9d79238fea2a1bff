-- The front of a record, as it is read.
use Rattle.std.specs.Prelude.{◌≡◌, ℕ, ◌+◌, ◌^◌, ◌<◌, ◌≤◌, List, [], ◌∷◌, ◌++◌, length, get_or, nat_lt, nat_le, ◌&&◌, ◌||◌, Bool, true}
use Rattle.std.specs.Prelude.{false, ◌==◌, Option, Some, None}
use Rattle.std.proofs.Common.{refl, sym, ◌∙◌, ap, subst, arith, length-append}
use Rattle.std.proofs.lemmas.List.{append_assoc}
use Rattle.std.proofs.lemmas.Bool.Decides.{nat_tests}
use Rattle.std.proofs.lemmas.Nat.{from_be_bytes-to_be_bytes_4}
use Rattle.spill_tapes.specs.Records.{Record, header_of, tape_bytes, number_at}
use Rattle.spill_tapes.specs.Tape.{TapeState, HasAhead, AreAhead, IsAfterHeader, Gives, IsGood, ended, ended_by, join}
use Rattle.spill_tapes.specs.declared.tape.Phase.TheVariants.{Read}
use Rattle.spill_tapes.specs.declared.header.Header.{Header}
use Rattle.std.proofs.lemmas.Grind.{common_steps}

pub header_len : (hash tag len : ℕ) → length (header_of hash tag len) ≡ 9
unfolding header_of
header_len hash tag len = refl

pub header_hash : (hash tag len : ℕ) → hash < 2 ^ 32 → number_at (header_of hash tag len) 0 ≡ hash
unfolding header_of number_at
header_hash hash tag len small = from_be_bytes-to_be_bytes_4 hash small

pub header_tag : (hash tag len : ℕ) → get_or (header_of hash tag len) 4 0 ≡ tag
unfolding header_of
header_tag hash tag len = refl

pub header_count : (hash tag len : ℕ) → len < 2 ^ 32 → number_at (header_of hash tag len) 5 ≡ len
unfolding header_of number_at
header_count hash tag len small = from_be_bytes-to_be_bytes_4 len small

-- a tape with a record has the bytes of its front, at least
pub left_front : (last : ℕ → ℕ → Type 0) (t : TapeState) (rs : List Record) → AreAhead last t rs → 0 < t.records → 9 ≤ t.left
left_front last t [] had some = absurd (omega (arith, had.number, some))
left_front last t (r ∷ rs) had some = omega (
  arith,
  had.left,
  length-append (header_of r.hash r.tag (length r.bytes) ++ r.bytes)
      (tape_bytes rs),
  length-append (header_of r.hash r.tag (length r.bytes)) r.bytes,
  header_len r.hash r.tag (length r.bytes),
)

-- the front was read
pub after_header : (before after : ℕ → ℕ → Type 0) (t t' : TapeState) (h : Header) (bytes : List ℕ) → h.hash ≡ number_at bytes 0 → h.tag
    ≡ get_or bytes 4 0 → h.len ≡ number_at bytes 5
    → ((front rest : List ℕ) → length front ≡ 9 → HasAhead before t (front ++ rest) → (bytes ≡ front) × HasAhead after t' rest) → t'.left
    + 9 ≡ t.left → t'.records ≡ t.records → 0 < t.records → (rs : List Record) → AreAhead before t rs → IsAfterHeader after t' h rs
after_header before after t t' h bytes hash tag len fill left records some [] had = absurd (omega (arith, had.number, some))
after_header before after t t' h bytes hash tag len fill left records some (r ∷ rs) had =
    let front : List ℕ = header_of r.hash r.tag (length r.bytes) in
    let parts : ((front ++ r.bytes) ++ tape_bytes rs) ++ had.rest ≡ front ++ (r.bytes ++ (tape_bytes rs ++ had.rest)) =
    append_assoc (front ++ r.bytes) (tape_bytes rs) had.rest ∙ append_assoc front r.bytes (tape_bytes rs ++ had.rest) in
    let told : (bytes ≡ front) × HasAhead after t' (r.bytes ++ (tape_bytes rs ++ had.rest)) = fill front (r.bytes
    ++ (tape_bytes rs ++ had.rest)) (header_len r.hash r.tag (length r.bytes)) (subst (λ bs. HasAhead before t bs) parts had.bytes) in
    record {
      first = r;
      others = rs;
      is = refl;
      good = had.good.0;
      goods = had.good.1;
      hash = hash ∙ ap (λ bs. number_at bs 0) told.0 ∙ header_hash r.hash r.tag (length r.bytes) had.good.0.hash;
      tag = tag ∙ ap (λ bs. get_or bs 4 0) told.0 ∙ header_tag r.hash r.tag (length r.bytes);
      len = len ∙ ap (λ bs. number_at bs 5) told.0 ∙ header_count r.hash r.tag (length r.bytes) (omega (arith, had.good.0.len));
      number = omega (arith, records, had.number);
      left = omega (
        arith,
        left,
        had.left,
        length-append (front ++ r.bytes) (tape_bytes rs),
        length-append front r.bytes,
        header_len r.hash
            r.tag (length r.bytes),
      );
      rest = had.rest;
      bytes = told.1;
    }

pub can_stand : (last : ℕ → ℕ → Type 0) (t : TapeState) (h : Header) (rs : List Record) → IsAfterHeader last t h rs
    → (nat_lt h.tag 2 && nat_le h.len 65535 && nat_le h.len t.left && (nat_lt 1 t.records || h.len == t.left)) ≡ true
can_stand last t h rs had = grind (arith, nat_tests, common_steps)

-- without its buffer a tape has the same records, if it has none
ended_by_count : (done : Bool) (t : TapeState) → (ended_by done t).records ≡ t.records
ended_by_count true t = refl
ended_by_count false t = refl

pub ended_count : (t : TapeState) → (ended t).records ≡ t.records
ended_count t = ended_by_count (t.records == 0) t

ended_none : (last : ℕ → ℕ → Type 0) (t : TapeState) (rs : List Record) → length rs ≡ 0 → AreAhead last t rs
    → AreAhead last (ended_by true t) rs
ended_none last t [] none had = record {
  good = tt;
  number = had.number;
  left = refl;
  rest = join had.bytes.contents;
  bytes = record { contents = had.bytes.contents; on = had.bytes.on; whole = refl };
}
ended_none last t (r ∷ rs) none had = absurd (omega (arith, none))

ended_at : (last : ℕ → ℕ → Type 0) (t : TapeState) (rs : List Record) (done : Bool) → (done ≡ true → t.records ≡ 0) → AreAhead last t rs
    → AreAhead last (ended_by done t) rs
ended_at last t rs true none had = ended_none last t rs (omega (arith, had.number, none refl)) had
ended_at last t rs false none had = had

pub ended_ahead : (last : ℕ → ℕ → Type 0) (t : TapeState) (rs : List Record) → AreAhead last t rs → AreAhead last (ended t) rs
ended_ahead last t rs had = ended_at last t rs (t.records == 0) (λ h. grind (arith, nat_tests)) had

ended_by_as : (t : TapeState) (done : Bool) → (done ≡ true → t.records ≡ 0) → t.phase ≡ Read → IsGood t
    → ((ended_by done t).pages ≡ t.pages) × ((ended_by done t).phase ≡ Read) × IsGood (ended_by done t)
ended_by_as t true none phase good = grind (arith, nat_tests, common_steps)
ended_by_as t false none phase good = (refl, phase, good)

pub ended_as : (t : TapeState) → t.phase ≡ Read → IsGood t → ((ended t).pages ≡ t.pages) × ((ended t).phase ≡ Read) × IsGood (ended t)
ended_as t phase good = ended_by_as t (t.records == 0) (λ h. grind (arith, nat_tests)) phase good

pub gives_with : (P Q : List Record → Type 0) (rs : List Record) (bytes : List ℕ) (found : Option (ℕ × ℕ))
    → ((xs : List Record) → P xs → Q xs) → Gives P rs bytes found → Gives Q rs bytes found
gives_with P Q rs bytes None f told = (told.0, f [] told.1)
gives_with P Q rs bytes (Some x) f told = (told.0, told.1, f told.0 told.2)

pub ended_gives : (last : ℕ → ℕ → Type 0) (t t' : TapeState) (rs : List Record) (bytes : List ℕ) (found : Option (ℕ × ℕ)) → t' ≡ ended t
    → Gives (AreAhead last t) rs bytes found → Gives (AreAhead last t') rs bytes found
ended_gives last t t' rs bytes found is told = gives_with (AreAhead last t) (AreAhead last t') rs bytes found
    (λ xs had. subst (λ (y : TapeState). AreAhead last y xs) (sym is) (ended_ahead last t xs had)) told

pub stands : (tag len left records : ℕ) → (nat_lt tag 2 && nat_le len 65535 && nat_le len left && (nat_lt 1 records || len == left)) ≡ true
    → (tag < 2) × (len ≤ 65535) × (len ≤ left) × (records ≡ 1 → len ≡ left)
stands tag len left records is = grind (arith, nat_tests, common_steps)
