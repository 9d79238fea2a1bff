use Rattle.std.specs.Prelude.{◌≡◌, IfOk}
use Rattle.std.proofs.Common.{subst}
use Rattle.std.proofs.lemmas.Result.{IfOk-weaker}
use Rattle.replica_merge.specs.Lemmas.Words.{World, world_file, Held, told, Fits}
use Rattle.replica_merge.proofs.SavedLaws.{saved_world}
use Rattle.replica_merge.proofs.replica.Replica.save.Goals as goal

pub returns-clause-world : goal.returns-clause-world
returns-clause-world c =
    let held : Held = record { query = c.self.inside.query; parts = c.self.inside.parts.entries } in
    subst (λ (h : Held). IfOk c.encode.result (λ bytes. (world : World) → Fits world h → bytes.items
    ≡ world_file h.query world (told h.parts))) c.self.view_is
    (IfOk-weaker c.encode.result _ (λ bytes. (world : World) → Fits world held → bytes.items
    ≡ world_file held.query world (told held.parts))
    (λ bytes is world fits. saved_world held world bytes.items c.self.invariant fits is) c.encode.ensures.spelled)
