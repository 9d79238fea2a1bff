use Rattle.std.specs.Prelude.{◌++◌, ◌∷◌, []}
use Rattle.std.proofs.Common.{sym, ◌∙◌, ap}
use Rattle.packed_rows.proofs.SharedLaws.{one_more}
use Rattle.packed_rows.proofs.shared_rows.PackedRows.copied.Goals as goal

pub loop-place-preserved : goal.loop-place-preserved
loop-place-preserved c =
    c.in_ok-push.ensures.pushed
    ∙ ap (λ rows. rows ++ c.row.result.now ∷ []) c.loop-place.invariant
    ∙ sym (one_more c.args.self.now c.args.first c.loop-place.place c.row.result.now c.row.ensures)
