use Rattle.std.proofs.Common.{◌∙◌, ◌++◌, ap, append-nil, flat_map, sym}
use Rattle.std.proofs.lemmas.List.{take_all}
use Rattle.table_print.specs.Json.{json_byte}
use Rattle.table_print.proofs.RowLaws.{longer_text}
use Rattle.table_print.proofs.json_table.push_bytes.Goals as goal

pub bounds-text-byte-index : goal.bounds-text-byte-index
bounds-text-byte-index c = c.loop-byte-test.true

pub loop-byte-init : goal.loop-byte-init
loop-byte-init c = sym (append-nil c.args.out.now.items)

pub loop-byte-preserved : goal.loop-byte-preserved
loop-byte-preserved c =
    longer_text json_byte c.args.text.now c.loop-byte.byte-index 0 c.args.out.now.items _ _ c.loop-byte-test.true c.loop-byte.invariant
    c.in_ok-push_byte.ensures

pub returns : goal.returns
returns c =
    c.loop-byte.invariant
    ∙ ap (λ bytes. c.args.out.now.items ++ flat_map json_byte bytes) (take_all c.loop-byte.byte-index c.args.text.now
    c.loop-byte-test.false)
