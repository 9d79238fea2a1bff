use Rattle.std.proofs.Common.{ℕ, ◌≡◌, ◌<◌, ◌≤◌, ◌+◌, ◌-◌, ◌^◌, ◌∙◌, List, [], ◌∷◌, ◌++◌, ap, arith, length, rules, subst, sym, take}
use Rattle.std.proofs.lemmas.List.{length-take}
use Rattle.having_filter.specs.Kept.{headers}
use Rattle.table_print.specs.Writer.{IsWithin}
use Rattle.table_print.proofs.RowLaws.{one_more}
use Rattle.table_print.proofs.WriterLaws.{line_begins}
use Rattle.table_print.proofs.csv_table.put_headers.Goals as goal

pub loop-item-init : goal.loop-item-init
loop-item-init c = line_begins c.args.writer.now

pub loop-item-preserved : goal.loop-item-preserved
loop-item-preserved c =
    λ between.
    let names = headers c.args.query.now in
    let n = c.loop-item.item in
    let fits : n + 1 ≤ 2 ^ 64 - 1 = search rules in
    let few : length (take n names) < 2 ^ 64 - 1 = omega (arith, length-take n names, fits) in
    let more : take n names ++ c.as_bytes.result.now ∷ [] ≡ take (n + 1) names
    = ap (λ (name : List ℕ). take n names ++ name ∷ []) c.as_bytes.ensures.value
    ∙ sym (one_more names n c.header.result.now c.header.ensures) in
    subst (IsWithin c.args.writer.now c.put_field.new.writer) more
    (c.in_ok-put_field.ensures c.args.writer.now (take n names) few (c.loop-item.invariant between))
