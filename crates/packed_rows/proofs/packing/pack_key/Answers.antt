use Rattle.std.proofs.Common.{ap, ◌∙◌}
use Rattle.std.proofs.lemmas.List.{take_all}
use Rattle.packed_rows.specs.View.{row_of}
use Rattle.packed_rows.specs.Packing.{packing}
use Rattle.packed_rows.proofs.RowLaws.{packed_next}
use Rattle.packed_rows.proofs.packing.pack_key.Goals as goal

pub loop-value-preserved : goal.loop-value-preserved
loop-value-preserved c =
    packed_next c.args.key.now c.loop-value.value-index _ c.loop-value.out.items c.pack_value.new.out.items c.loop-value-test.true
    c.loop-value.invariant c.in_ok-pack_value.ensures

pub returns : goal.returns
returns c = c.loop-value.invariant
    ∙ ap (λ values. packing (row_of values)) (take_all c.loop-value.value-index c.args.key.now c.loop-value-test.false)
