use Rattle.std.proofs.Common.{◌∙◌, [], ap}
use Rattle.std.proofs.lemmas.List.{take_all}
use Rattle.table_print.specs.Aligned.{shown, shown_byte}
use Rattle.table_print.proofs.RowLaws.{longer_text}
use Rattle.table_print.proofs.aligned_table.fill.Goals as goal

pub bounds-text-byte-index : goal.bounds-text-byte-index
bounds-text-byte-index c = c.loop-byte-test.true

pub loop-byte-init : goal.loop-byte-init
loop-byte-init c = c.clear.ensures.items

pub loop-byte-preserved : goal.loop-byte-preserved
loop-byte-preserved c =
    longer_text shown_byte c.args.text.now c.loop-byte.byte-index 0 [] _ _ c.loop-byte-test.true c.loop-byte.invariant
    c.in_ok-push_shown.ensures

pub returns : goal.returns
returns c = c.loop-byte.invariant ∙ ap shown (take_all c.loop-byte.byte-index c.args.text.now c.loop-byte-test.false)
