use Rattle.std.specs.Prelude.{drop, flat_map, ◌+◌}
use Rattle.std.proofs.Common.{refl, arith}
use Rattle.group_runs.specs.Runs.{Entry}
use Rattle.group_runs.specs.PlaceLaws.{drop_at}
use Rattle.summary_codec.specs.File.{group_bytes}
use Rattle.summary_codec.proofs.CountedLaws.{counted_none, counted_more, counted_all, group_long}
use Rattle.summary_codec.proofs.WriteLaws.{none_left}
use Rattle.summary_codec.proofs.length.groups_len.Goals as goal

pub loop-place-init : goal.loop-place-init
loop-place-init c = counted_none group_bytes (drop 0 c.args.run.now) (flat_map group_bytes c.args.run.now) refl

pub loop-place-preserved : goal.loop-place-preserved
loop-place-preserved c =
    let run = c.args.run.now in
    let place = c.loop-place.place in
    let entry : Entry = (c.group.result.0.now, c.group.result.1.now) in
    let long = group_long entry in
    counted_more group_bytes (drop place run) (drop (place + 1) run) entry c.loop-place.len _ (flat_map group_bytes run)
    (drop_at run place entry c.group.ensures) (omega
    (arith, long, c.longer.ensures, c.longer-in-loop-place.ensures, c.longer-len.ensures)) c.loop-place.invariant

pub returns : goal.returns
returns c = counted_all group_bytes (drop c.loop-place.place c.args.run.now) c.loop-place.len (flat_map group_bytes c.args.run.now)
    (none_left c.loop-place.place c.args.run.now (omega (arith, c.loop-place-test.false, c.len-place-end.ensures.length)))
    c.loop-place.invariant
