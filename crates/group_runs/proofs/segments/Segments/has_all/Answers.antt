use Rattle.std.specs.Prelude.{◌≡◌, ◌<◌, [], ◌∷◌, length, take}
use Rattle.std.proofs.Common.{sym, subst, arith}
use Rattle.std.proofs.lemmas.List.{take_all, length-map}
use Rattle.std.specs.List.{AllByRecursion}
use Rattle.group_runs.proofs.Words.{each_append, Entry, packed_keys, HasKey, HasKeyAt, concatenated}
use Rattle.group_runs.proofs.SegmentLaws.{got_low}
use Rattle.group_runs.specs.PlaceLaws.{take_found}
use Rattle.group_runs.proofs.PlaceLaws.{key_at}
use Rattle.group_runs.proofs.segments.Segments.has_all.Goals as goal

pub loop-place-preserved : goal.loop-place-preserved
loop-place-preserved c =
    let key = c.group.result.0.now in
    let at = key_at (concatenated c.args.more.now) c.loop-place.place (key, c.group.result.1.now) c.group.ensures in
    let here : HasKeyAt (concatenated c.args.self.now) c.seek-from.result key = c.has_at.ensures.0 c.if-not-has_at.false in
    let low : c.seek-from.result < length (packed_keys (concatenated c.args.self.now)) = got_low
    (packed_keys (concatenated c.args.self.now)) c.seek-from.result key here in
    record {
      within = omega (arith, low, length-map (concatenated c.args.self.now) (λ (e : Entry). e.0));
      there =
          subst (AllByRecursion (HasKey (concatenated c.args.self.now)))
          (sym (take_found (packed_keys (concatenated c.args.more.now)) c.loop-place.place key at))
          (each_append (HasKey (concatenated c.args.self.now)) (take c.loop-place.place (packed_keys (concatenated c.args.more.now))) (key
          ∷ []) c.loop-place.invariant.there ((c.seek-from.result, here), tt));
    }

pub returns : goal.returns
returns c =
    λ _.
    let past = c.loop-place-test.false in
    let counted = c.len-place-end.ensures.length in
    let long : length (packed_keys (concatenated c.args.more.now))
    ≡ length (concatenated c.args.more.now) = length-map (concatenated c.args.more.now) (λ (e : Entry). e.0) in
    subst (AllByRecursion (HasKey (concatenated c.args.self.now))) (take_all c.loop-place.place (packed_keys (concatenated c.args.more.now))
    (omega (arith, past, counted, long))) c.loop-place.invariant.there
