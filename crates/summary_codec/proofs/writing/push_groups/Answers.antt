use Rattle.std.specs.Prelude.{drop, ◌+◌}
use Rattle.group_runs.specs.Runs.{Entry}
use Rattle.group_runs.specs.PlaceLaws.{drop_at}
use Rattle.summary_codec.specs.File.{group_bytes}
use Rattle.summary_codec.specs.Short.{IsShort}
use Rattle.summary_codec.proofs.WriteLaws.{pushed, of_others}
use Rattle.summary_codec.proofs.writing.push_groups.Goals as goal

pub loop-place-preserved : goal.loop-place-preserved
loop-place-preserved c =
    let run = c.args.run.now in
    let place = c.loop-place.place in
    let entry : Entry = (c.group.result.0.now, c.group.result.1.now) in
    let next = drop_at run place entry c.group.ensures in (
      pushed group_bytes c.loop-place.out.items c.push_group.new.out.items _ (drop place run) (drop (place + 1) run) entry next
          c.in_ok-push_group.ensures c.loop-place.invariant.0,
      of_others (λ (e : Entry). IsShort e.0) (drop place run) (drop (place + 1) run) entry next c.loop-place.invariant.1,
    )
