use Rattle.std.specs.Prelude.{refl, Err}
use Rattle.std.proofs.Common.{sym, subst}
use Rattle.std.proofs.lemmas.Result.{err_from_is_err_and}
use Rattle.replica_merge.specs.Lemmas.Words.{MergeRan, MergesReplicas}
use Rattle.replica_merge.proofs.replica.Replica.merge.Goals as goal

pub commit-requires : goal.commit-requires
commit-requires g c = (g.D.TapeDisk.honest c.args.disk.now, c.args.other.now, c.in_ok-joined.ensures.joins.joined)

pub returns-clause-merges : goal.returns-clause-merges
returns-clause-merges g c = record {
  merged = c.commit.ensures (g.D.TapeDisk.honest c.args.disk.now) c.args.other.now c.in_ok-joined.ensures.joins.joined;
  refused = tt;
  same = tt;
}

pub returns-clause-ran : goal.returns-clause-ran
returns-clause-ran g c = record { ran = c.in_ok-joined.ensures.ran.ran; order = tt }

pub returns-in_err-joined-clause-merges : goal.returns-in_err-joined-clause-merges
returns-in_err-joined-clause-merges g c =
    let p = err_from_is_err_and c.from_residual.result c.from_residual.ensures.1 in
    rw p.1 (subst (λ e. MergesReplicas {T = Unit {0}} (g.D.TapeDisk.honest c.args.disk.now) c.args.self.now c.args.other.now
    c.args.self.now (Err e))
    (sym p.2) (record { merged = tt; refused = c.in_err-joined.ensures.joins.refused; same = refl }))

pub returns-in_err-joined-clause-ran : goal.returns-in_err-joined-clause-ran
returns-in_err-joined-clause-ran g c =
    let p = err_from_is_err_and c.from_residual.result c.from_residual.ensures.1 in
    rw p.1 (subst (λ e. MergeRan {T = Unit {0}} g.D.TapeDisk g.H.KeyHash.hash_of c.args.self.now c.args.other.now c.args.means.now (Err e)
    c.args.disk.now c.args.executor.now c.join.new.disk c.join.new.executor) (sym p.2)
    (record { ran = c.in_err-joined.ensures.ran.ran; order = c.in_err-joined.ensures.ran.order }))
