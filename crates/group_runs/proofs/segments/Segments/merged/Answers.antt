use Rattle.std.specs.Prelude.{◌≡◌, ◌+◌, ◌++◌, take, drop, slice_range}
use Rattle.std.proofs.Common.{sym, ◌∙◌, ap, subst, arith}
use Rattle.std.proofs.lemmas.List.{take-append-drop}
use Rattle.std.proofs.lemmas.List.Folds.{drop_split}
use Rattle.group_runs.proofs.Words.{HasRoomForRun, AddsRun, concatenated}
use Rattle.group_runs.proofs.SegmentLaws.{got_low, got_same, around, range_rises}
use Rattle.group_runs.proofs.JoinLaws.{room_part}
use Rattle.group_runs.proofs.PartLaws.{Merges, merges_none, merges_next, merges_end}
use Rattle.group_runs.proofs.segments.Segments.merged.Goals as goal

pub loop-from-init : goal.loop-from-init
loop-from-init c =
    λ q same.
    subst (Merges q c.args.self.now (concatenated c.args.more.now) 0 0) (sym c.new-fresh.ensures.items)
    (merges_none q c.args.self.now (concatenated c.args.more.now) c.requires.some)

pub segment-requires : goal.segment-requires
segment-requires c = got_low c.args.self.now c.part-at.result.0 c.part-at.ensures.segment c.part-at.ensures.is

pub merged-requires-clause-room : goal.merged-requires-clause-room
merged-requires-clause-room c =
    let (q, same, has) = c.requires.room in
    let segments = c.args.self.now in
    let more = concatenated c.args.more.now in
    let from = c.loop-from.from in
    let to = c.part-at.result.1 in
    let whole : more ≡ take from more ++ (slice_range more from to ++ drop to more) = sym (take-append-drop from more)
    ∙ ap (λ es. take from more ++ es) (drop_split more from to (omega (arith, c.part-at.ensures.some))) in (
      q,
      same,
      room_part q (concatenated (take c.part-at.result.0 segments)) c.segment.result.now
          (concatenated (drop (c.part-at.result.0 + 1) segments)) (take from more) (slice_range more from to) (drop to more)
          (subst (λ es. HasRoomForRun q es (take from more ++ (slice_range more from to ++ drop to more)))
          (around segments c.part-at.result.0 c.segment.result.now c.segment.ensures) (subst (HasRoomForRun q (concatenated segments)) whole has))
          (range_rises more from to c.len.ensures.rises),
    )

pub overflow_add-first : goal.overflow_add-first
overflow_add-first c =
    let low = got_low c.args.self.now c.part-at.result.0 c.part-at.ensures.segment c.part-at.ensures.is in
    let counted = c.count-few_segments.ensures in
    let few = c.count-few_segments.type_inv in
    omega (arith, low, counted, few)

pub loop-from-preserved : goal.loop-from-preserved
loop-from-preserved c =
    λ q named.
    let segments = c.args.self.now in
    let more = concatenated c.args.more.now in
    let at = c.part-at.result.0 in
    let from = c.loop-from.from in
    let to = c.part-at.result.1 in
    let same = got_same segments at c.segment.result.now c.part-at.ensures.segment c.segment.ensures c.part-at.ensures.is in
    subst (Merges q segments more (at + 1) to) (sym c.in_ok-push.ensures.items)
    (merges_next q segments more c.loop-from.first from at to c.loop-from.fresh.items c.in_ok-segment.segment (c.loop-from.invariant q named)
    c.part-at.ensures c.len.ensures.rises
    (subst (λ es. AddsRun q es (slice_range more from to) c.in_ok-segment.segment) same (c.in_ok-segment.ensures q named)))

pub returns : goal.returns
returns c =
    let past = c.loop-from-test.false in
    let counted = c.len.ensures.length in
    λ q same.
    merges_end q c.args.self.now (concatenated c.args.more.now) c.loop-from.first c.loop-from.from c.loop-from.fresh.items
    (omega (arith, past, counted)) (c.loop-from.invariant q same)
