-- The rows of a batch that are as many as told, and what is told where they are not.
use Rattle.std.specs.Prelude.{◌≡◌, ◌≢◌, ◌≤◌, ℕ, List, [], ◌∷◌, length, take, drop, refl}
use Rattle.std.proofs.Common.{sym, ap, subst, arith, ◌∙◌}
use Rattle.std.proofs.lemmas.List.{length-drop, take_all}
use Rattle.grouping_model.specs.Datum.{Kind, Row}
use Rattle.grouping_model.specs.declared.limits.TheConstants.{MAX_ROWS}
use Rattle.batch_reader.specs.File.{FileFault}
use Rattle.batch_reader.specs.Head.{ReadsOrigin, ReadsBatchNumber}
use Rattle.batch_reader.specs.Refusal.{HeadReads}
use Rattle.batch_reader.specs.Rows.{ReadsRows, packings}
use Rattle.batch_reader.specs.declared.batch.Batch.{Batch}
use Rattle.batch_reader.specs.declared.error.BatchError.{BatchError}
use Rattle.batch_reader.specs.declared.error.BatchError.TheVariants.{NoMemory, BadBatchHead, TooManyRows, RowCount, WrongWidth, BadField}
use Rattle.script_io.specs.Records.{Record}
use Rattle.refusals.specs.Batches.{IsRead}
use Rattle.engine.specs.Calls.{file_of}

-- no record is there behind those that were taken, so they are all
all_taken : (records : List Record) (told : ℕ) → drop told records ≡ [] → take told records ≡ records
all_taken records told h =
    let left = length-drop told records in
    take_all told records (omega (arith, left, ap length h))

-- a record is there behind those that were taken, so all are not as many
more_there : (records rest : List Record) (next : Record) (told : ℕ) → drop told records ≡ next ∷ rest → length records ≢ told
more_there records rest next told h e = let left = length-drop told records in omega (arith, ap length h)

-- a batch that was read of the records that are told is one of all, where no more are there
pub read_all : (ks : List Kind) (origin number : List ℕ) (told : ℕ) (records : List Record) (batch : Batch)
    → ReadsOrigin origin batch.origin → ReadsBatchNumber number batch.number → length batch.rows ≤ MAX_ROWS → length batch.rows ≡ told
    → ((rows : List Row) × ReadsRows ks (take told records) rows × (batch.rows ≡ packings rows)) → drop told records ≡ []
    → IsRead ks origin number told records batch
read_all ks origin number told records batch reads_origin reads_number few whole rows none =
    record {
      origin_is = reads_origin;
      number_is = reads_number;
      few = few;
      whole = whole;
      rows = rows.0;
      rows_are = subst (λ rs. ReadsRows ks rs rows.0) (all_taken records told none) rows.1;
      packed = rows.2;
    }

module _ (ks : List Kind) (origin number : List ℕ) (told : ℕ) (records : List Record) (otherwise : BatchError)
    (head : HeadReads origin number) (few : told ≤ MAX_ROWS)
    (fault : FileFault ks (file_of origin number told (take told records)) otherwise) where
  -- why they are no batch, where more or none are left behind those that are told
  by_left : (left : List Record) (result : BatchError) → left ≡ drop told records → result ≢ NoMemory
      → (left ≡ [] → result ≢ NoMemory → result ≡ otherwise) → (left ≢ [] → result ≢ NoMemory → result ≡ RowCount)
      → FileFault ks (file_of origin number told records) result
  by_left [] result is there none more =
      subst (FileFault ks (file_of origin number told records)) (sym (none refl there))
      (subst (λ rs. FileFault ks (file_of origin number told rs) otherwise) (all_taken records told (sym is)) fault)
  by_left (next ∷ rest) result is there none more =
      subst (FileFault ks (file_of origin number told records)) (sym (more (λ e. cc) there))
      (head, few, more_there records rest next told (sym is))

  pub unread : (left : List Record) (result : BatchError) → left ≡ drop told records
      → (left ≡ [] → result ≢ NoMemory → result ≡ otherwise) → (left ≢ [] → result ≢ NoMemory → result ≡ RowCount)
      → FileFault ks (file_of origin number told records) result
  unread left NoMemory is none more = tt
  unread left BadBatchHead is none more = by_left left BadBatchHead is (λ e. cc) none more
  unread left TooManyRows is none more = by_left left TooManyRows is (λ e. cc) none more
  unread left RowCount is none more = by_left left RowCount is (λ e. cc) none more
  unread left (WrongWidth row) is none more = by_left left (WrongWidth row) is (λ e. cc) none more
  unread left (BadField row column) is none more = by_left left (BadField row column) is (λ e. cc) none more
