use Rattle.std.specs.Prelude.{◌++◌, length, ◌<◌}
use Rattle.std.proofs.Common.{◌∙◌, ap, arith}
use Rattle.std.proofs.lemmas.Bool.Decides.{nat_tests}
use Rattle.packed_rows.specs.ConcatenatedRows.{concatenated}
use Rattle.group_runs.proofs.SegmentLaws.{concatenated-append, concatenated-push, pieces_make}
use Rattle.group_runs.proofs.segments.place.Goals as goal

pub returns-then-is_empty-clause-same : goal.returns-then-is_empty-clause-same
returns-then-is_empty-clause-same c =
    ap concatenated c.push_reserved.ensures.items ∙ concatenated-push c.args.placed.now.items c.args.segment

pub returns-clause-same : goal.returns-clause-same
returns-clause-same c =
    let some : 0 < length c.args.pieces.items = grind (arith, nat_tests, c.if-is_empty.false, c.is_empty.ensures) in
    ap concatenated c.in-Ok.ensures.items ∙ concatenated-append c.args.placed.now.items c.args.pieces.items
    ∙ ap (λ es. concatenated c.args.placed.now.items ++ es) (pieces_make c.args.segment c.args.pieces.items some c.requires.pieces)

pub returns-clause-many : goal.returns-clause-many
returns-clause-many c =
    let some : 0 < length c.args.pieces.items = grind (arith, nat_tests, c.if-is_empty.false, c.is_empty.ensures) in
    omega (arith, c.in-Ok.ensures.len, some)
