use Rattle.std.specs.Prelude.{◌≡◌, ◌+◌, drop, length, take}
use Rattle.std.proofs.Common.{sym, ◌∙◌, ap, arith}
use Rattle.std.proofs.lemmas.List.{length-take}
use Rattle.packed_rows.specs.SharedRows.{rows_held}
use Rattle.packed_rows.proofs.SharedLaws.{part_of_part}
use Rattle.packed_rows.proofs.shared_rows.PackedRows.part.Goals as goal

pub returns-in_ok-try_clone-in-Among : goal.returns-in_ok-try_clone-in-Among
returns-in_ok-try_clone-in-Among c =
    let block = c.in-Among.block.value in
    let own : take c.in-Among.count (drop c.in-Among.before block) ≡ c.args.self.now = ap rows_held (sym c.in-Among.is) ∙ c.self.view_is in
    let long = length-take c.in-Among.count (drop c.in-Among.before block) in
    let same = ap length own in
    let within = c.requires in
    ap (λ rows. take c.args.count (drop (c.in-Among.before + c.args.first) rows)) c.in_ok-try_clone-in-Among.ensures
    ∙ part_of_part block c.in-Among.before c.in-Among.count c.args.first c.args.count (omega (arith, within, same, long))
    ∙ ap (λ rows. take c.args.count (drop c.args.first rows)) own
