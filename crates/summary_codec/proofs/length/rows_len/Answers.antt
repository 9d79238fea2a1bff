use Rattle.std.specs.Prelude.{drop, flat_map, ◌+◌}
use Rattle.std.proofs.Common.{refl, arith}
use Rattle.group_runs.specs.PlaceLaws.{drop_at}
use Rattle.summary_codec.specs.File.{sized_bytes}
use Rattle.summary_codec.proofs.CountedLaws.{counted_none, counted_more, counted_all, sized_long}
use Rattle.summary_codec.proofs.WriteLaws.{none_left}
use Rattle.summary_codec.proofs.length.rows_len.Goals as goal

pub loop-place-init : goal.loop-place-init
loop-place-init c = counted_none sized_bytes (drop 0 c.args.rows.now) (flat_map sized_bytes c.args.rows.now) refl

pub loop-place-preserved : goal.loop-place-preserved
loop-place-preserved c =
    let rows = c.args.rows.now in
    let place = c.loop-place.place in
    let row = c.row.result.now in
    let long = sized_long row in
    counted_more sized_bytes (drop place rows) (drop (place + 1) rows) row c.loop-place.len _ (flat_map sized_bytes rows)
    (drop_at rows place row c.row.ensures) (omega (arith, long, c.longer.ensures, c.longer-len.ensures)) c.loop-place.invariant

pub returns : goal.returns
returns c = counted_all sized_bytes (drop c.loop-place.place c.args.rows.now) c.loop-place.len (flat_map sized_bytes c.args.rows.now)
    (none_left c.loop-place.place c.args.rows.now (omega (arith, c.loop-place-test.false, c.len-place-end.ensures))) c.loop-place.invariant
