use Rattle.std.specs.Prelude.{refl, Ok, Err}
use Rattle.std.proofs.Common.{subst}
use Rattle.engine.specs.Calls.{MergesSession}
use Rattle.engine.specs.Sessions.{SessionState}
use Rattle.engine.specs.contracts.session.Session.{the_view}
use Rattle.engine.proofs.SessionLaws.{carried, merge_refused, merged_by_limit, merged_same}
use Rattle.engine.proofs.session.Session.merge.Goals as goal

pub returns-in-Ok-clause-merges : goal.returns-in-Ok-clause-merges
returns-in-Ok-clause-merges c =
    let new : SessionState = record {
      held = c.merge-merged.new.self;
      limit = c.self.inside.means.limit;
      seed = c.self.inside.means.seed;
      work = c.into_work-self-inside.result;
    } in
    subst (λ (o : SessionState). MergesSession {T = Unit {0}} o c.args.self.now new (Ok tt)) c.other.view_is
    (subst (λ (s : SessionState). MergesSession {T = Unit {0}} (the_view c.other.inside) s new (Ok tt)) c.self.view_is
    (merged_by_limit c.self.inside.means (the_view c.self.inside) new _ _ refl c.new-disk.ensures.count
    (record { limit = refl; seed = refl }) (the_view c.other.inside) c.in-Ok.ensures.merges.merged (carried c.after-executor.ensures c.into_work-self-inside.ensures c.in-Ok.ensures.ran.ran)))

pub returns-clause-merges : goal.returns-clause-merges
returns-clause-merges c =
    let why = c.from.result in
    let new : SessionState = record {
      held = c.merge-merged.new.self;
      limit = c.self.inside.means.limit;
      seed = c.self.inside.means.seed;
      work = c.into_work-self-inside.result;
    } in
    subst (λ (o : SessionState). MergesSession {T = Unit {0}} o c.args.self.now new (Err why)) c.other.view_is
    (subst (λ (s : SessionState). MergesSession {T = Unit {0}} (the_view c.other.inside) s new (Err why)) c.self.view_is
    (merge_refused c.self.inside.means (the_view c.self.inside) new _ _ refl c.new-disk.ensures.count
    (record { limit = refl; seed = refl }) (the_view c.other.inside) c.in-Err.error why c.from.ensures c.in-Err.ensures.merges.same
    c.in-Err.ensures.merges.refused (carried c.after-executor.ensures c.into_work-self-inside.ensures c.in-Err.ensures.ran.ran)))

pub returns-clause-same : goal.returns-clause-same
returns-clause-same c = merged_same {T = Unit {0}} c.args.other.now c.args.self.now _ (Err c.from.result) (returns-clause-merges c)
