use Rattle.std.specs.Prelude.{◌+◌, take, slice_get}
use Rattle.std.proofs.Common.{refl, ◌∙◌, ap, arith}
use Rattle.group_runs.proofs.Words.{Entry, packed_keys, HasKey, concatenated}
use Rattle.group_runs.specs.PlaceLaws.{all_at}
use Rattle.group_runs.specs.StandingLaws.{groups_raised}
use Rattle.group_runs.proofs.RunLaws.{room_next, added_next, added_all}
use Rattle.group_runs.proofs.PlaceLaws.{key_at, all_up_to, keys_next}
use Rattle.group_runs.proofs.segments.Segments.combine_all.Goals as goal

pub loop-place-init : goal.loop-place-init
loop-place-init c = record {
  within = omega arith;
  below = λ e at. tt;
  keys = refl;
  added = λ q same m n groups more low are new. groups_raised q m (m + n) (concatenated c.args.self.now) groups (omega arith) are;
}

pub combine_group-from-requires-clause-there : goal.combine_group-from-requires-clause-there
combine_group-from-requires-clause-there c =
    let key = c.group.result.0.now in
    let has : HasKey (concatenated c.args.self.now) key = all_at (HasKey (concatenated c.args.self.now))
    (packed_keys (concatenated c.args.more.now)) c.loop-place.place key c.requires.there
    (key_at (concatenated c.args.more.now) c.loop-place.place (key, c.group.result.1.now) c.group.ensures) in
    (has.0, ap (λ keys. slice_get keys has.0) c.loop-place.invariant.keys ∙ has.1)

pub combine_group-from-requires-clause-room : goal.combine_group-from-requires-clause-room
combine_group-from-requires-clause-room c =
    let (q, same, has) = c.requires.room in
    (q, same, room_next q _ _ _ c.loop-place.place (c.loop-place.invariant.added q same) _ c.group.ensures has)

pub loop-place-preserved : goal.loop-place-preserved
loop-place-preserved c =
    let i = c.loop-place.place in let run = concatenated c.args.more.now in let entry : Entry = (c.group.result.0.now, c.group.result.1.now)
    in
    let after = c.combine_group-from.ensures in
    record {
      within = after.within;
      below = λ e at. all_up_to entry.0 e.0 (take c.combine_group-from.result (concatenated c.combine_group-from.new.self))
          (keys_next run i entry e c.len-place-end.ensures.rises c.group.ensures at) after.up_to;
      keys = after.keys ∙ c.loop-place.invariant.keys;
      added = λ q same. added_next q _ _ _ i (c.loop-place.invariant.added q same) _ entry c.group.ensures c.len-place-end.ensures.rises
          (after.added q same);
    }

pub returns : goal.returns
returns c = λ q same. added_all q _ _ _ c.loop-place.place (c.loop-place.invariant.added q same)
    (omega (arith, c.loop-place-test.false, c.len-place-end.ensures.length))

pub combine_group-from-requires-clause-below : goal.combine_group-from-requires-clause-below
combine_group-from-requires-clause-below c = c.loop-place.invariant.below (c.group.result.0.now, c.group.result.1.now) c.group.ensures
