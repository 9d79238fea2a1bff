use Rattle.std.specs.Prelude.{◌++◌, ◌∷◌, [], take}
use Rattle.std.proofs.Common.{sym, ◌∙◌, ap, append_assoc}
use Rattle.packed_rows.proofs.SharedLaws.{next_is}
use Rattle.packed_rows.proofs.shared_rows.PackedRows.append.Goals as goal

pub loop-place-preserved : goal.loop-place-preserved
loop-place-preserved c =
    let row = c.row.result.now in
    c.in_ok-push.ensures.pushed
    ∙ ap (λ rows. rows ++ row ∷ []) c.loop-place.invariant
    ∙ append_assoc c.args.self.now (take c.loop-place.place c.args.other.now) (row ∷ [])
    ∙ ap (λ rows. c.args.self.now ++ rows) (sym (next_is c.args.other.now c.loop-place.place row c.row.ensures))
