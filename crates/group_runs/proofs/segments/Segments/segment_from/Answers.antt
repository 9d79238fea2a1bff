use Rattle.std.specs.Prelude.{length}
use Rattle.std.proofs.Common.{ap, arith}
use Rattle.std.proofs.lemmas.List.{take_all}
use Rattle.packed_rows.specs.ConcatenatedRows.{concatenated}
use Rattle.group_runs.proofs.segments.Segments.segment_from.Goals as goal

pub returns : goal.returns
returns c =
    let past = c.if-place-len.false in
    let counted = c.len.ensures.length in
    let all = ap (λ cs. length (concatenated cs))
    (take_all c.count.result c.args.self.now (let many = c.count.ensures in omega (arith, many))) in
    omega (arith, past, counted, all)
