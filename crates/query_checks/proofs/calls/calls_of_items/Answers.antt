use Rattle.std.proofs.Common.{◌++◌, ap, sym, ◌∙◌, arith}
use Rattle.std.proofs.lemmas.List.{take_all}
use Rattle.query_checks.specs.Forms.{item_form}
use Rattle.query_checks.specs.Reads.{calls_in}
use Rattle.query_checks.proofs.CountLaws.{item_calls, calls_of_front}
use Rattle.query_checks.proofs.calls.calls_of_items.Goals as goal

pub loop-item-preserved : goal.loop-item-preserved
loop-item-preserved g c =
    c.in_ok-push_item_call.ensures ∙ (λ i. c.loop-item.invariant i ++ calls_in (item_form c.item-item.result.0))
    ∙ sym (calls_of_front c.args.items.now c.loop-item.item-index c.item-item.result (omega arith) c.item-item.is)

pub returns : goal.returns
returns g c = c.loop-item.invariant ∙ ap item_calls (take_all c.loop-item.item-index c.args.items.now c.loop-item-test.false)
