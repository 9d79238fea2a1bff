use Rattle.std.proofs.Common.{◌≤◌, arith, length}
use Rattle.std.proofs.lemmas.List.Sums.{sum_by_more, sum_by-take-le}
use Rattle.agg_protocol.specs.Kinds.{kind_width}
use Rattle.agg_protocol.specs.declared.kind.AggKind.TheVariants.{CountRows}
use Rattle.agg_library.proofs.RowLaws.{initial_more}
use Rattle.agg_library.proofs.state_row.StateRow.init_into.Goals as goal

pub loop-kind-preserved : goal.loop-kind-preserved
loop-kind-preserved c =
    let i = c.loop-kind.kind-index in
    let kinds = c.args.kinds.now in
    let start = c.loop-kind.start in
    let inv = c.loop-kind.invariant in
    let within : start ≤ length c.loop-kind.row = omega (arith, inv.1, c.loop-kind.auto.row, c.requires, sum_by-take-le kind_width kinds i) in (
      initial_more kinds i start c.width.result _ c.loop-kind.row c.init_one.new.part c.loop-kind-test.true inv.0 within c.width.ensures
          c.init_one.ensures,
      omega (arith, inv.1, c.width.ensures, sum_by_more kind_width kinds i CountRows c.loop-kind-test.true),
    )
