use Rattle.std.proofs.Common.{◌<◌, arith, length}
use Rattle.csv.specs.Records.{fields_of}
use Rattle.plain_batches.proofs.PlainLaws.{places_more}
use Rattle.plain_batches.proofs.columns.places_of.Goals as goal

pub loop-column-preserved : goal.loop-column-preserved
loop-column-preserved c =
    let header = fields_of c.args.header.now in
    let names = fields_of c.args.names.now in
    let alone = rw c.field.ensures at c.in_ok-place.ensures.found in
    let within : c.loop-column.column < length names = omega arith in
    places_more header names c.loop-column.places.items _ c.loop-column.column c.in_ok-place.place within c.loop-column.invariant alone
    c.in-Ok.ensures.items
