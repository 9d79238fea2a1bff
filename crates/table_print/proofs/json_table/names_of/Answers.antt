use Rattle.std.proofs.Common.{ℕ, ◌<◌, ◌≤◌, arith, length, subst}
use Rattle.having_filter.specs.Kept.{headers}
use Rattle.table_print.proofs.AlignedLaws.{length-headers, length-written}
use Rattle.table_print.proofs.JsonLaws.{all_names, longer_names}
use Rattle.table_print.proofs.json_table.names_of.Goals as goal

pub name_of_item-requires-clause-item : goal.name_of_item-requires-clause-item
name_of_item-requires-clause-item c =
    subst (λ (n : ℕ). c.loop-item.item < n) (length-written c.args.query.now c.items-item-end.result.now c.items-item-end.ensures)
    c.loop-item-test.true

pub loop-item-preserved : goal.loop-item-preserved
loop-item-preserved c =
    let q = c.args.query.now in
    let items = length-written q c.items-item-end.result.now c.items-item-end.ensures in
    let within : c.loop-item.item < length (headers q) = omega (arith, items, length-headers q, c.loop-item-test.true) in
    longer_names (headers q) c.loop-item.item _ _ _ within c.loop-item.invariant c.in_ok-push.ensures.items c.in_ok-name.ensures

pub returns : goal.returns
returns c =
    let q = c.args.query.now in
    let items = length-written q c.items-item-end.result.now c.items-item-end.ensures in
    let all : length (headers q) ≤ c.loop-item.item = omega (arith, items, length-headers q, c.loop-item-test.false) in
    all_names (headers q) c.loop-item.item _ all c.loop-item.invariant
