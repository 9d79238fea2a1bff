-- Laws: what a packed batch stands for, by what it was read of.
use Rattle.std.specs.Prelude.{◌≡◌, ◌≤◌, ℕ, suc, refl, List, [], ◌∷◌, length}
use Rattle.std.proofs.Common.{◌∙◌, ap, sym, subst}
use Rattle.std.proofs.lemmas.List.{length-map}
use Rattle.grouping_model.specs.Datum.{Kind, Row}
use Rattle.grouping_model.specs.declared.limits.TheConstants.{MAX_ROWS}
use Rattle.packed_rows.specs.Packing.{packing}
use Rattle.batch_reader.specs.Rows.{ReadsRows, ArePackedRows}
use Rattle.batch_reader.specs.RecordLaws.{built_rows}
use Rattle.batch_reader.specs.declared.batch.Batch.{Batch}
use Rattle.script_io.specs.Records.{Record}
use Rattle.refusals.specs.Batches.{Fed, IsBatch, IsRead}

-- as many records as rows
reads_length : (kinds : List Kind) (records : List (List (List ℕ))) (rows : List Row) → ReadsRows kinds records rows → length records
    ≡ length rows
reads_length kinds [] [] reads = refl
reads_length kinds [] (row ∷ rows) reads = absurd reads
reads_length kinds (fields ∷ records) [] reads = absurd reads
reads_length kinds (fields ∷ records) (row ∷ rows) reads = ap suc (reads_length kinds records rows reads.1)

-- the batch of these rows
abbrev pub fed_of : Batch → List Row → Fed
fed_of read rows = record { origin = read.origin; number = read.number; rows = rows }

-- the batch of the rows that were packed is the one that was fed
pub read_is_fed : (kinds : List Kind) (origin number : List ℕ) (told : ℕ) (owned : List Record) (read : Batch)
    (is : IsRead kinds origin number told owned read) → IsBatch kinds origin number told owned (fed_of read is.rows)
read_is_fed kinds origin number told owned read is =
    record {
      origin_is = is.origin_is;
      number_is = is.number_is;
      few = subst (λ n. n ≤ MAX_ROWS) is.whole is.few;
      whole = reads_length kinds owned is.rows is.rows_are ∙ sym (ap length is.packed ∙ length-map is.rows packing) ∙ is.whole;
      rows_are = is.rows_are;
    }

-- and its rows are packed
pub read_are_packed : (kinds : List Kind) (origin number : List ℕ) (told : ℕ) (owned : List Record) (read : Batch)
    → IsRead kinds origin number told owned read → ArePackedRows kinds read.rows
read_are_packed kinds origin number told owned read is = built_rows kinds owned is.rows read.rows is.rows_are is.packed is.few
