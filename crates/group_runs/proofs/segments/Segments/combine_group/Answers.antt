use Rattle.std.specs.Prelude.{◌+◌, ◌∷◌, ◌++◌, List, take, drop, length}
use Rattle.std.proofs.Common.{sym, ◌∙◌, ap, subst, arith}
use Rattle.group_runs.proofs.Words.{Entry, packed_keys, CombineWith, HasRoomForGroup, HaveRoomForMore, AddsGroup, AreUpTo, concatenated}
use Rattle.group_runs.proofs.FlatLaws.{same_keys}
use Rattle.std.proofs.lemmas.List.{length-append}
use Rattle.group_runs.specs.Lemmas.PlaceLaws.{KeyStands}
use Rattle.group_runs.proofs.PlaceLaws.{up_to_here, key_stands, found_place, below_front}
use Rattle.group_runs.proofs.SpliceLaws.{present_room, present_added}
use Rattle.group_runs.proofs.segments.Segments.combine_group.Goals.{After-seek-place}
use Rattle.group_runs.proofs.segments.Segments.combine_group.Goals as goal

-- the group of the key
stands : (c : After-seek-place) → KeyStands (concatenated c.args.self.now) c.seek-place.result c.args.key.now
stands c =
    let found = c.seek-place.ensures in
    key_stands _ _ _ (found_place (concatenated c.args.self.now) c.args.from c.args.key.now c.seek-place.result found.rises c.requires.below
    found.place c.requires.there)

pub combine_at-requires : goal.combine_at-requires
combine_at-requires c =
    let (q, same, has) = c.requires.room in
    let run : List Entry = (concatenated c.args.self.now) in
    let place = c.seek-place.result in
    let here = stands (goal.at.combine_at-requires c).After-seek-place in
    record {
      front = take place run;
      entry = (c.args.key.now, here.states);
      back = drop (place + 1) run;
      is = here.is;
      long = here.long;
      room = subst (λ these. HaveRoomForMore these here.states c.args.states.now) same
          (present_room q c.args.key.now here.states c.args.states.now (take place run) (drop (place + 1) run)
          (below_front run c.args.from c.args.key.now place c.requires.below c.seek-place.ensures.place)
          (subst (λ run. HasRoomForGroup q run (c.args.key.now, c.args.states.now)) here.is has));
    }

pub overflow_add-result : goal.overflow_add-result
overflow_add-result c =
    let here = stands (goal.at.overflow_add-result c).After-seek-place in
    omega (arith, here.low, c.seek-place.ensures.few)

pub returns : goal.returns
returns c =
    let run : List Entry = (concatenated c.args.self.now) in
    let place = c.seek-place.result in
    let key = c.args.key.now in
    let here = stands (goal.at.returns c).After-seek-place in
    let front : List Entry = take place run in
    let back : List Entry = drop (place + 1) run in
    let below = below_front run c.args.from key place c.requires.below c.seek-place.ensures.place in
    let given = c.combine_at.ensures front (key, here.states) back here.is here.long in
    let all = ap length given.1 ∙ length-append front ((key, given.0) ∷ back) in
    let long = here.long in
    record {
      added = λ q same. subst (AddsGroup q run (key, c.args.states.now)) (sym given.1)
          (subst (λ run. AddsGroup q run (key, c.args.states.now) (front ++ (key, given.0) ∷ back)) (sym here.is)
          (present_added q key here.states c.args.states.now given.0 front back below
          (subst (λ these. CombineWith these here.states c.args.states.now given.0) (sym same) given.2)));
      keys = ap packed_keys given.1 ∙ same_keys front key given.0 here.states back ∙ ap packed_keys (sym here.is);
      within = omega (arith, all, long);
      up_to = subst (λ new. AreUpTo key (take (place + 1) new)) (sym given.1) (up_to_here front back key given.0 place here.long below);
    }
