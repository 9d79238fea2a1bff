use Rattle.std.specs.Prelude.{drop, ◌+◌}
use Rattle.group_runs.specs.PlaceLaws.{drop_at}
use Rattle.summary_codec.specs.File.{sized_bytes}
use Rattle.summary_codec.specs.Short.{IsShort}
use Rattle.summary_codec.proofs.WriteLaws.{pushed, of_others}
use Rattle.summary_codec.proofs.writing.push_rows.Goals as goal

pub loop-place-preserved : goal.loop-place-preserved
loop-place-preserved c =
    let rows = c.args.rows.now in
    let place = c.loop-place.place in
    let row = c.row.result.now in
    let next = drop_at rows place row c.row.ensures in (
      pushed sized_bytes c.loop-place.out.items c.push_sized.new.out.items _ (drop place rows) (drop (place + 1) rows) row next
          c.in_ok-push_sized.ensures c.loop-place.invariant.0,
      of_others IsShort (drop place rows) (drop (place + 1) rows) row next c.loop-place.invariant.1,
    )
