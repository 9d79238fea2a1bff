use Rattle.std.specs.Prelude.{◌≡◌, ◌-◌, ◌++◌, take}
use Rattle.std.proofs.Common.{sym, ◌∙◌, ap, arith}
use Rattle.std.proofs.lemmas.List.{take_all}
use Rattle.packed_rows.specs.ConcatenatedRows.{concatenated}
use Rattle.group_runs.proofs.SegmentLaws.{concatenated-push, are_pieces}
use Rattle.group_runs.proofs.PlaceLaws.{range_parts}
use Rattle.group_runs.proofs.segment.Segment.pieces.Goals as goal

pub loop-from-preserved : goal.loop-from-preserved
loop-from-preserved c =
    let from = c.loop-from.from in
    let to = c.end_of_piece-to.result in
    let ends = c.end_of_piece-to.ensures in
    record {
      within = ends.within;
      done =
          ap concatenated c.in_ok-push.ensures.items
          ∙ concatenated-push c.loop-from.pieces.items c.in_ok-piece.field-0
          ∙ (λ i. c.loop-from.invariant.done i ++ c.in_ok-piece.ensures i)
          ∙ sym (range_parts c.args.self.now 0 from to (omega arith) (omega (arith, ends.some)));
    }

pub returns : goal.returns
returns c =
    let count = c.len-count.result in
    let long = c.len-count.ensures.length in
    let all : c.loop-from.from ≡ count = omega (arith, c.loop-from.invariant.within, c.loop-from-test.false) in
    let whole : count - 0 ≡ count = omega arith in
    are_pieces c.args.self.now c.loop-from.pieces.items
    (c.loop-from.invariant.done ∙ ap (λ n. take (n - 0) c.args.self.now) all ∙ ap (λ n. take n c.args.self.now) whole
    ∙ take_all count c.args.self.now (omega (arith, long)))
