use Rattle.std.specs.Prelude.{ℕ, ◌++◌, ◌∷◌, [], take}
use Rattle.std.specs.declared.alloc.Global.{Global}
use Rattle.std.specs.declared.vec.Vec.{Vec}
use Rattle.std.proofs.Common.{sym, ◌∙◌, ap}
use Rattle.std.proofs.lemmas.List.{map_push}
use Rattle.group_runs.specs.PlaceLaws.{take_found}
use Rattle.packed_rows.specs.View.{bytes_of}
use Rattle.test_replicas.proofs.runs.apart.Goals as goal

pub loop-place-preserved : goal.loop-place-preserved
loop-place-preserved c =
    ap bytes_of c.in_ok-push.ensures.items
    ∙ map_push (λ (v : Vec ℕ Global). v.items) c.loop-place.apart.items c.in_ok-to_vec.field-0
    ∙ ap (λ rows. rows ++ c.in_ok-to_vec.field-0.items ∷ []) c.loop-place.invariant
    ∙ ap (λ row. take c.loop-place.place c.args.rows.now ++ row ∷ []) (c.in_ok-to_vec.ensures.items_if_clones_equal (λ x y same. same))
    ∙ sym (take_found c.args.rows.now c.loop-place.place c.row.result.now c.row.ensures)
