-- What the batch of a batch file is, and how a summary file is refused.
use Rattle.std.specs.Prelude.{◌≡◌, ◌≢◌, ◌≤◌, ℕ, Bool, refl, List, length, Option, Some, None, IsSomeAnd}
use Rattle.std.proofs.Common.{subst}
use Rattle.grouping_model.specs.Datum.{Kind, Row}
use Rattle.grouping_model.specs.declared.delivered.Delivered.{Delivered}
use Rattle.grouping_model.specs.declared.limits.TheConstants.{MAX_ROWS}
use Rattle.packed_rows.specs.Columns.{Column, kinds}
use Rattle.batch_reader.specs.File.{BatchFile, FileFault}
use Rattle.batch_reader.specs.Head.{ReadsOrigin, ReadsBatchNumber}
use Rattle.batch_reader.specs.Rows.{ReadsRows, ArePackedRows, packings}
use Rattle.batch_reader.specs.declared.batch.Batch.{Batch}
use Rattle.batch_reader.specs.declared.error.BatchError.{BatchError}
use Rattle.batch_reader.specs.declared.error.BatchError.TheVariants as batch
use Rattle.hash_agg.specs.Ran.{Refused, faults_of}
use Rattle.replica_merge.specs.Replicas.{Held}
use Rattle.refusals.specs.BatchLaws.{fed_of, read_is_fed, read_are_packed}
use Rattle.refusals.specs.Batches.{IsOfBatch, TakesRead, IsOtherRead}
use Rattle.refusals.specs.Refusals.{batch_refusal, refusal_reason}
use Rattle.refusals.specs.declared.refusal.Refusal.{Refusal}
use Rattle.refusals.specs.declared.refusal.Refusal.TheVariants as refuse
use Rattle.spill_partitions.specs.declared.error.SpillError.TheVariants as spill
use Rattle.command_replicas.specs.Commands.{IsNoBatchFile, IsNoSummary, TakesFile, IsOtherFile, OfBatchFile, IsReadOf}

-- what reading a batch file tells, by columns that are a replica's, is that
pub read_of_file : (told columns : List Column) (file : Option BatchFile) (batch : Batch) → told ≡ columns
    → IsSomeAnd file (λ read. ReadsOrigin read.head.origin batch.origin)
    → IsSomeAnd file (λ read. ReadsBatchNumber read.head.number batch.number)
    → length batch.rows ≤ MAX_ROWS → IsSomeAnd file (λ read. length batch.rows ≡ read.head.told)
    → IsSomeAnd file (λ read. (rows : List Row) × ReadsRows (kinds told) read.records rows × (batch.rows ≡ packings rows))
    → IsReadOf (kinds columns) file batch
read_of_file told columns None batch same reads_origin reads_number few whole rows = absurd reads_origin
read_of_file told columns (Some read) batch same reads_origin reads_number few whole rows =
    subst (λ cs. IsReadOf (kinds cs) (Some read) batch) same
    (record {
      origin_is = reads_origin;
      number_is = reads_number;
      few = few;
      whole = whole;
      rows = rows.0;
      rows_are = rows.1;
      packed =
          rows.2;
    })

-- its rows are packed
pub packed_of_file : (ks : List Kind) (file : Option BatchFile) (batch : Batch) → IsReadOf ks file batch → ArePackedRows ks batch.rows
packed_of_file ks None batch is = absurd is
packed_of_file ks (Some read) batch is = read_are_packed ks read.head.origin read.head.number read.head.told read.records batch is

-- a replica that takes it takes the file
pub takes_file : (honest : Bool) (file : Option BatchFile) (batch : Batch) (old new : Held) (delivered : Delivered)
    → IsReadOf (kinds old.query.columns) file batch
    → TakesRead honest batch old new delivered → TakesFile honest file old new delivered
takes_file honest None batch old new delivered is takes = absurd is
takes_file honest (Some read) batch old new delivered is takes = takes read.head.origin read.head.number read.head.told read.records is

-- what holds of the batch that was read holds of the file
pub of_batch_file : (file : Option BatchFile) (held : Held) (holds : ℕ → ℕ → List (List ℕ) → Type 0) (batch : Batch)
    → IsReadOf (kinds held.query.columns) file batch
    → holds batch.origin batch.number batch.rows → OfBatchFile held file holds
of_batch_file None held holds batch is so = absurd is
of_batch_file (Some read) held holds batch is so =
    record {
      fed = fed_of batch is.rows;
      is_batch = read_is_fed (kinds held.query.columns) read.head.origin read.head.number read.head.told read.records batch is;
      is_so = subst (holds batch.origin batch.number) is.packed so;
    }

-- one that disagrees with it disagrees with the file
pub other_file : (file : Option BatchFile) (batch : Batch) (held : Held) → IsReadOf (kinds held.query.columns) file batch
    → IsOtherRead batch held → IsOtherFile file held
other_file None batch held is other = absurd is
other_file (Some read) batch held is other = other read.head.origin read.head.number read.head.told read.records is

-- why a file is not a batch file, by the refusal of a batch
pub unread_why : (ks : List Kind) (file : Option BatchFile) (error : BatchError) → FileFault ks file error
    → IsOfBatch (batch_refusal error) → IsNoBatchFile ks file (batch_refusal error)
unread_why ks file batch.NoMemory fault of = absurd of
unread_why ks None batch.BadBatchHead fault of = refl
unread_why ks None batch.TooManyRows fault of = absurd fault
unread_why ks None batch.RowCount fault of = absurd fault
unread_why ks None (batch.WrongWidth row) fault of = absurd fault
unread_why ks None (batch.BadField row column) fault of = absurd fault
unread_why ks (Some read) batch.BadBatchHead fault of = record { error = batch.BadBatchHead; found = λ e. cc; fault = fault; named = refl }
unread_why ks (Some read) batch.TooManyRows fault of = record { error = batch.TooManyRows; found = λ e. cc; fault = fault; named = refl }
unread_why ks (Some read) batch.RowCount fault of = record { error = batch.RowCount; found = λ e. cc; fault = fault; named = refl }
unread_why ks (Some read) (batch.WrongWidth row) fault of =
    record { error = batch.WrongWidth row; found = λ e. cc; fault = fault; named = refl }
unread_why ks (Some read) (batch.BadField row column) fault of =
    record { error = batch.BadField row column; found = λ e. cc; fault = fault; named = refl }

-- the refusal of bytes that are not a summary file reports neither a fault of the disk nor damage
pub no_file_fault : (file : List ℕ) (why : Refusal) → IsNoSummary file why → faults_of (Refused (refusal_reason why)) ≡ 0
no_file_fault file refuse.TapeFault is = absurd is
no_file_fault file refuse.NoMemory is = refl
no_file_fault file refuse.TapeDamaged is = refl
no_file_fault file why is = refl

pub no_file_damage : (file : List ℕ) (why : Refusal) → IsNoSummary file why → refusal_reason why ≢ Some spill.TapeDamaged
no_file_damage file refuse.TapeFault is = absurd is
no_file_damage file refuse.NoMemory is = λ same. cc
no_file_damage file refuse.TapeDamaged is = absurd is
no_file_damage file why is = λ same. cc
