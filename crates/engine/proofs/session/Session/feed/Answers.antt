use Rattle.std.specs.Prelude.{refl}
use Rattle.std.proofs.Common.{subst}
use Rattle.batch_reader.specs.File.{read_file}
use Rattle.engine.specs.Calls.{FeedsSession}
use Rattle.engine.specs.Sessions.{SessionState}
use Rattle.engine.specs.contracts.session.Session.{the_view}
use Rattle.engine.proofs.SessionLaws.{carried, fed_by_limit, fed_same}
use Rattle.engine.proofs.session.Session.feed.Goals as goal

pub returns-clause-feeds : goal.returns-clause-feeds
returns-clause-feeds c =
    let new : SessionState = record {
      held = c.feed-fed.new.replica;
      limit = c.self.inside.means.limit;
      seed = c.self.inside.means.seed;
      work = c.into_work-self-inside.result;
    } in
    subst (λ (s : SessionState). FeedsSession (read_file c.args.file.now) s new c.feed-fed.result) c.self.view_is
    (fed_by_limit c.self.inside.means (the_view c.self.inside) new _ _ refl c.new-disk.ensures.count (record { limit = refl; seed = refl })
    (read_file c.args.file.now) c.feed-fed.result c.feed-fed.ensures.feeds (carried c.after-executor.ensures c.into_work-self-inside.ensures c.feed-fed.ensures.ran))

pub returns-clause-same : goal.returns-clause-same
returns-clause-same c = fed_same (read_file c.args.file.now) c.args.self.now _ c.feed-fed.result (returns-clause-feeds c)
