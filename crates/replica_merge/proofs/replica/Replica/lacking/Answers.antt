use Rattle.std.specs.Prelude.{◌≡◌, map}
use Rattle.std.proofs.Common.{sym, subst}
use Rattle.replica_merge.specs.Lacking.{told_by, lacked_parts}
use Rattle.replica_merge.specs.Lemmas.Words.{Knowledge, Held, AreHeldParts, known_of}
use Rattle.replica_merge.proofs.LackedLaws.{GoesOut, goes_out, lacked_held}
use Rattle.replica_merge.proofs.replica.Replica.lacking.Goals as goal

pub invariant_of-result : goal.invariant_of-result
invariant_of-result c =
    let known : Knowledge = told_by (map known_of c.args.known.now) in
    let is : c.in_ok-parts.parts.entries ≡ lacked_parts known c.self.inside.parts.entries = c.in_ok-parts.ensures known
    c.in_ok-listed.ensures in
    subst (λ q. AreHeldParts q c.in_ok-parts.parts.entries) (sym c.in_ok-query.ensures)
    (subst (AreHeldParts c.self.inside.query) (sym is) (lacked_held known c.self.inside.query c.self.inside.parts.entries c.self.invariant))

pub returns : goal.returns
returns c =
    let known : Knowledge = told_by (map known_of c.args.known.now) in
    let own : Held = record { query = c.self.inside.query; parts = c.self.inside.parts.entries } in
    let delta : Held = record { query = c.in_ok-query.query; parts = c.in_ok-parts.parts.entries } in
    let goes : GoesOut c.args.self.now known delta = subst (λ (h : Held). GoesOut h known delta) c.self.view_is
    (goes_out own known delta c.self.invariant c.in_ok-query.ensures (c.in_ok-parts.ensures known c.in_ok-listed.ensures)) in
    record { asked = goes.asked; parts = goes.parts; told = goes.tells; none = goes.none; fits = goes.fits }
