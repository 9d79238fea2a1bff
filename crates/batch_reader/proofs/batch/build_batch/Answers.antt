use Rattle.std.specs.Prelude.{◌≡◌, length}
use Rattle.std.proofs.Common.{◌∙◌, arith}
use Rattle.packed_rows.specs.Columns.{kinds}
use Rattle.batch_reader.proofs.RecordLaws.{packed_long}
use Rattle.batch_reader.proofs.batch.build_batch.Goals as goal

pub returns-clause-told : goal.returns-clause-told
returns-clause-told c = packed_long (kinds c.args.schema.now) c.args.records.now c.in_ok-rows.rows c.in_ok-rows.ensures.packed
    ∙ c.if-records-told.false

pub returns-clause-few : goal.returns-clause-few
returns-clause-few c =
    let long : length c.in_ok-rows.rows ≡ c.args.told = packed_long (kinds c.args.schema.now) c.args.records.now c.in_ok-rows.rows
    c.in_ok-rows.ensures.packed ∙ c.if-records-told.false in
    let few = c.in_ok-origin.ensures.few in
    omega (arith, long, few)
