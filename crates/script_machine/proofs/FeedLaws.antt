-- The batch that is read of the records of a feed, and what a replica made of it took.
use Rattle.std.specs.Prelude.{◌≡◌, ◌≤◌, ℕ, List, length, Option, Some, Result, Ok, IfOk}
use Rattle.std.proofs.Common.{subst, sym}
use Rattle.std.proofs.lemmas.Result.{IfOk-at_ok}
use Rattle.script_machine.proofs.Words.{Row, MAX_ROWS, Column, kinds, ReadsRows, packings, BatchError, meaning, Held, part_of, Record}
use Rattle.script_machine.proofs.Words.{IsRead, setting_at, no_work, FeedAlike, FeedApart, FeedFails, FeedWorked}
use Rattle.batch_reader.specs.Head.{ReadsOrigin, ReadsBatchNumber}
use Rattle.batch_reader.specs.declared.batch.Batch.{Batch}
use Rattle.hash_agg.specs.Counting.{AreCounted}
use Rattle.hash_agg.specs.declared.work.Work.{Work}
use Rattle.origin_prefix.specs.Parts.{BatchTells, Disagrees, aggregations_on}
use Rattle.origin_prefix.specs.declared.error.JoinError.TheVariants.{Spill}
use Rattle.refusals.specs.BatchLaws.{fed_of, read_is_fed}
use Rattle.spill_partitions.specs.declared.error.SpillError.{SpillError}

-- what reading records tells, by columns that are a replica's, is that the batch was read of them
pub read_of_feed : (asked columns : List Column) (origin number : List ℕ) (told : ℕ) (owned : List Record)
    (result : Result Batch BatchError) (read : Batch) → asked ≡ columns → result ≡ Ok read
    → IfOk result (λ r. ReadsOrigin origin r.origin) → IfOk result (λ r. ReadsBatchNumber number r.number)
    → IfOk result (λ r. length r.rows ≤ MAX_ROWS) → IfOk result (λ r. length r.rows ≡ told)
    → IfOk result (λ r. (rows : List Row) × ReadsRows (kinds asked) owned rows × (r.rows ≡ packings rows))
    → IsRead (kinds columns) origin number told owned read
read_of_feed asked columns origin number told owned result read same is reads_origin reads_number few whole reads_rows =
    let rows = IfOk-at_ok (λ (r : Batch). (rows : List Row) × ReadsRows (kinds asked) owned rows × (r.rows ≡ packings rows)) is reads_rows
    in
    record {
      origin_is = IfOk-at_ok (λ (r : Batch). ReadsOrigin origin r.origin) is reads_origin;
      number_is = IfOk-at_ok (λ (r : Batch). ReadsBatchNumber number r.number) is reads_number;
      few = IfOk-at_ok (λ (r : Batch). length r.rows ≤ MAX_ROWS) is few;
      whole = IfOk-at_ok (λ (r : Batch). length r.rows ≡ told) is whole;
      rows = rows.0;
      rows_are = subst (λ columns. ReadsRows (kinds columns) owned rows.0) same rows.1;
      packed = rows.2;
    }

-- what taking it took, begun with no work, is what its feed takes
pub feed_worked : (held : Held) (limit : ℕ) (origin number : List ℕ) (told : ℕ) (owned : List Record) (read : Batch) (begun done : Work)
    (writes written : ℕ)
    → IsRead (kinds held.query.columns) origin number told owned read → begun ≡ no_work
    → AreCounted (aggregations_on (part_of held.parts read.origin) read.number read.rows) (meaning held.query)
    (setting_at limit (meaning held.query)) begun writes done written
    → FeedWorked held limit origin number told owned writes written
feed_worked held limit origin number told owned read begun done writes written is none counted =
    let query = meaning held.query in
    let setting = setting_at limit query in
    let part = part_of held.parts read.origin in
    record {
      fed = fed_of read is.rows;
      is_batch = read_is_fed (kinds held.query.columns) origin number told owned read is;
      worked = (
        done,
        subst (λ packed. AreCounted (aggregations_on part read.number packed) query setting no_work writes done written) is.packed
            (subst (λ old. AreCounted (aggregations_on part read.number read.rows) query setting old writes done written) none counted),
      );
    }

-- it disagrees with what the replica holds, or doesn't, as what was read does
pub feed_apart : (held : Held) (origin number : List ℕ) (told : ℕ) (owned : List Record) (read : Batch) (of : ℕ) (at : Option ℕ)
    → IsRead (kinds held.query.columns) origin number told owned read
    → (of ≡ read.origin) × (at ≡ Some read.number) × Disagrees (part_of held.parts read.origin) read.number read.rows
    → FeedApart held origin number told owned of at
feed_apart held origin number told owned read of at is apart = record {
  fed = fed_of read is.rows;
  is_batch = read_is_fed (kinds held.query.columns) origin number told owned read is;
  of_origin = apart.0;
  at_number = apart.1;
  disagrees = subst (λ packed. Disagrees (part_of held.parts read.origin) read.number packed) is.packed apart.2;
}

pub feed_alike : (held : Held) (origin number : List ℕ) (told : ℕ) (owned : List Record) (read : Batch)
    → IsRead (kinds held.query.columns) origin number told owned read
    → ¬ (Disagrees (part_of held.parts read.origin) read.number read.rows) → FeedAlike held origin number told owned
feed_alike held origin number told owned read is agreed = record {
  fed = fed_of read is.rows;
  is_batch = read_is_fed (kinds held.query.columns) origin number told owned read is;
  alike = λ apart. agreed (subst (λ packed. Disagrees (part_of held.parts read.origin) read.number packed) (sym is.packed) apart);
}

-- what it is refused for, as what was read is
pub feed_fails : (held : Held) (origin number : List ℕ) (told : ℕ) (owned : List Record) (read : Batch) (error : SpillError)
    → IsRead (kinds held.query.columns) origin number told owned read
    → BatchTells (Spill error) (part_of held.parts read.origin) read.number read.rows → FeedFails held origin number told owned error
feed_fails held origin number told owned read error is tells = record {
  fed = fed_of read is.rows;
  is_batch = read_is_fed (kinds held.query.columns) origin number told owned read is;
  untaken = subst (λ packed. BatchTells (Spill error) (part_of held.parts read.origin) read.number packed) is.packed tells;
}
