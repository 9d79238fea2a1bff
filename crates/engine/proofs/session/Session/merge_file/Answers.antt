use Rattle.std.specs.Prelude.{refl}
use Rattle.std.proofs.Common.{subst}
use Rattle.engine.specs.Calls.{MergesFileSession}
use Rattle.engine.specs.Sessions.{SessionState}
use Rattle.engine.specs.contracts.session.Session.{the_view}
use Rattle.engine.proofs.SessionLaws.{carried, merged_file_by_limit, merged_file_same}
use Rattle.engine.proofs.session.Session.merge_file.Goals as goal

pub returns-clause-merges : goal.returns-clause-merges
returns-clause-merges c =
    let new : SessionState = record {
      held = c.merge-merged.new.replica;
      limit = c.self.inside.means.limit;
      seed = c.self.inside.means.seed;
      work = c.into_work-self-inside.result;
    } in
    subst (λ (s : SessionState). MergesFileSession c.args.file.now s new c.merge-merged.result) c.self.view_is
    (merged_file_by_limit c.self.inside.means (the_view c.self.inside) new _ _ refl c.new-disk.ensures.count
    (record { limit = refl; seed = refl }) c.args.file.now c.merge-merged.result c.merge-merged.ensures.merges (carried c.after-executor.ensures c.into_work-self-inside.ensures c.merge-merged.ensures.ran))

pub returns-clause-same : goal.returns-clause-same
returns-clause-same c = merged_file_same c.args.file.now c.args.self.now _ c.merge-merged.result (returns-clause-merges c)
