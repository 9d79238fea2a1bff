use Rattle.std.specs.Prelude.{slice_range}
use Rattle.std.proofs.Common.{arith, ◌∙◌}
use Rattle.packed_rows.proofs.RowLaws.{part_there}
use Rattle.packed_rows.proofs.unpacking.part_between.Goals as goal

pub part-requires-clause-rises : goal.part-requires-clause-rises
part-requires-clause-rises c =
    let low = (part_there c.args.packed.now c.args.ends.now c.args.from c.args.to c.requires.lie.0 c.requires.rises c.requires.within
    c.requires.lie.1).low in
    let start = c.bound-start.ensures in
    let end = c.bound-end.ensures in
    omega (arith, low, start, end)

pub part-requires-clause-within : goal.part-requires-clause-within
part-requires-clause-within c =
    let high = (part_there c.args.packed.now c.args.ends.now c.args.from c.args.to c.requires.lie.0 c.requires.rises c.requires.within
    c.requires.lie.1).high in
    let end = c.bound-end.ensures in
    omega (arith, high, end)

pub returns : goal.returns
returns c = λ row lie.
    c.part.ensures
    ∙ (λ j. slice_range c.args.packed.now (c.bound-start.ensures j) (c.bound-end.ensures j))
    ∙ (part_there c.args.packed.now c.args.ends.now c.args.from c.args.to row c.requires.rises c.requires.within lie).there
