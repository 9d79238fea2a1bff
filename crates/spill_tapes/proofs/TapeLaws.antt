-- A tape as a list of records.
use Rattle.std.specs.Prelude.{◌≡◌, ℕ, ◌+◌, List, [], ◌∷◌, ◌++◌}
use Rattle.std.proofs.Common.{refl, sym, ◌∙◌, ap, subst, length-append}
use Rattle.std.proofs.lemmas.List.{flat_map_more}
use Rattle.spill_tapes.specs.Records.{Record, IsRecord, AreRecords, record_bytes, tape_bytes}
use Rattle.spill_tapes.specs.Tape.{TapeState, tape_len, HasWritten, AreWritten, AreAhead}
use Rattle.spill_tapes.proofs.PageLaws.{same_written, written_len, rewound}

pub records_push : (rs : List Record) (r : Record) → AreRecords rs → IsRecord r → AreRecords (rs ++ r ∷ [])
records_push [] r good here = (here, tt)
records_push (x ∷ xs) r good here = (good.0, records_push xs r good.1 here)

pub bytes_push : (rs : List Record) (r : Record) → tape_bytes (rs ++ r ∷ []) ≡ tape_bytes rs ++ record_bytes r
bytes_push rs r = sym (flat_map_more record_bytes [] rs r)

-- a record more
pub appended : (before after : ℕ → ℕ → Type 0) (t t1 t' : TapeState) (r : Record) → IsRecord r
    → ((bytes : List ℕ) → HasWritten before t bytes → HasWritten after t1 (bytes ++ record_bytes r)) → t'.pages ≡ t1.pages → t'.buffer
    ≡ t1.buffer → t'.records ≡ t.records + 1 → (rs : List Record) → AreWritten before t rs → AreWritten after t' (rs ++ r ∷ [])
appended before after t t1 t' r good put pages buffer records rs had = record {
  good = records_push rs r had.good good;
  number = records ∙ ap (λ n. n + 1) had.number ∙ sym (length-append rs (r ∷ []));
  bytes = same_written after t1 t' pages buffer (tape_bytes (rs ++ r ∷ [])) (subst (λ bs. HasWritten after t1 bs) (sym (bytes_push rs r))
      (put (tape_bytes rs) had.bytes));
}

-- a tape whose last page was written, and whose buffer was given up then
pub rewound_records : (before after : ℕ → ℕ → Type 0) (t t1 t2 t' : TapeState) → t1.pages ≡ t.pages → t1.buffer ≡ t.buffer
    → ((bytes : List ℕ) → HasWritten before t1 bytes → ((rest : List ℕ) × HasWritten after t2 (bytes ++ rest))) → t2.buffer ≡ []
    → t'.pages ≡ t2.pages → t'.buffer ≡ [] → t'.records ≡ t.records → t'.left ≡ tape_len t → (rs : List Record) → AreWritten before t rs
    → AreAhead after t' rs
rewound_records before after t t1 t2 t' pages buffer put empty same given_up records left rs had =
    let done : (rest : List ℕ) × HasWritten after t2 (tape_bytes rs ++ rest) = put (tape_bytes rs)
    (same_written before t t1 pages buffer (tape_bytes rs) had.bytes) in
    record {
      good = had.good;
      number = records ∙ had.number;
      left = left ∙ sym (written_len before t (tape_bytes rs) had.bytes);
      rest = done.0;
      bytes = rewound after t2 t' same empty given_up (tape_bytes rs ++ done.0) done.1;
    }
