use Rattle.std.proofs.Common.{subst}
use Rattle.packed_rows.specs.Columns.{kinds}
use Rattle.batch_reader.specs.Rows.{ReadsRows, records_of}
use Rattle.batch_reader.specs.RecordLaws.{built_rows}
use Rattle.origin_prefix.specs.Lemmas.PartLaws.{packed_input}
use Rattle.test_aggregation.proofs.towns.packed.Goals as goal

pub returns : goal.returns
returns c =
    let batch = c.in_ok-batch.ensures in
    let reads = subst (λ columns. ReadsRows (kinds columns) (records_of c.deref.result.now) batch.rows.0) c.schema.ensures.columns
    batch.rows.1 in
    let input = packed_input c.args.query.now _ (built_rows _ _ batch.rows.0 _ reads batch.rows.2 batch.few) in
    (input.0, input.1, batch.told)
