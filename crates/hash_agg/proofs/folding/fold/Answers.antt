use Rattle.std.specs.Prelude.{◌+◌, ◌≤◌, map, Some}
use Rattle.std.proofs.Common.{sym, subst, arith}
use Rattle.tape_disks.specs.DiskLaws.{leaves_none}
use Rattle.agg_protocol.specs.States.{most_rows}
use Rattle.hash_agg.specs.Counting.{IsCounted, Took, no_work}
use Rattle.hash_agg.specs.Lemmas.RanLaws.{ran_as, refused_alike, refused_by, refused_later}
use Rattle.hash_agg.specs.Ran.{Done, Ran, Refused, ended}
use Rattle.hash_agg.specs.declared.work.Work.{Work}
use Rattle.hash_agg.proofs.Words.{NoMemory, meaning, brought, all_rows}
use Rattle.hash_agg.proofs.FoldLaws.{folded, folded_over}
use Rattle.hash_agg.proofs.AnswerLaws.{fold_ran}
use Rattle.hash_agg.proofs.folding.fold.Goals as goal

pub merge_from-requires : goal.merge_from-requires
merge_from-requires g c =
    let few : c.args.rows + all_rows (map brought c.args.more.now) ≤ most_rows = c.requires.few in
    let run = c.requires.run in
    let more = c.in_ok-more.ensures.aggregated.aggregated.run_over.is_run in (
      meaning c.args.query.now,
      sym c.agg_kinds.ensures.functions,
      (c.args.rows, all_rows (map brought c.args.more.now), run.groups, more.groups, run.are, more.are, more.rises, omega (arith, few)),
    )

pub returns-clause-folded : goal.returns-clause-folded
returns-clause-folded g c =
    let few : c.args.rows + all_rows (map brought c.args.more.now) ≤ most_rows = c.requires.few in
    let run = c.requires.run in
    let more = c.in_ok-more.ensures.aggregated.aggregated in
    let added = c.in_ok-merge_from.ensures.added (meaning c.args.query.now) (sym c.agg_kinds.ensures.functions) in
    record {
      aggregate = λ honest.
          folded (meaning c.args.query.now) c.args.rows c.args.run.now c.in_ok-more.more c.merge_from.new.self (map brought c.args.more.now)
          (omega (arith, few)) run (more.aggregate honest) added c.schema-well_formed.ensures.query.well_formed.keys;
      run_over = folded_over (meaning c.args.query.now) c.args.rows c.args.run.now c.in_ok-more.more c.merge_from.new.self
          (map brought c.args.more.now) (omega (arith, few)) run more.run_over added;
    }

pub returns-clause-ran : goal.returns-clause-ran
returns-clause-ran g c =
    let more = map brought c.args.more.now in
    subst (λ (begun : Work). Ran g.D.TapeDisk g.H.KeyHash.hash_of c.args.query.now c.args.means.now (IsCounted more) Done c.args.disk.now begun
    c.aggregate_in.new.disk c.add.new.self) c.executor.view_is
    (fold_ran g.D.TapeDisk g.H.KeyHash.hash_of c.args.query.now c.args.means.now more c.args.disk.now c.aggregate_in.new.disk
    c.executor.inside.work c.in_ok-more.took c.add.new.self c.in_ok-more.ensures.ran c.add.ensures.passes c.add.ensures.spilled
    c.add.ensures.most_held c.add.ensures.grown)

pub returns-in_err-more-clause-ran : goal.returns-in_err-more-clause-ran
returns-in_err-more-clause-ran g c =
    let more = map brought c.args.more.now in
    let error = c.in_err-more.field-0.0 in
    subst (λ (done : Work). Ran g.D.TapeDisk g.H.KeyHash.hash_of c.args.query.now c.args.means.now (IsCounted more)
    (ended c.from_residual.result) c.args.disk.now c.args.executor.now c.aggregate_in.new.disk done) (sym c.executor.view_is)
    (ran_as g.D.TapeDisk g.H.KeyHash.hash_of c.args.query.now c.args.means.now (IsCounted more) (Refused (Some error))
    (ended c.from_residual.result) c.args.disk.now c.args.executor.now c.aggregate_in.new.disk c.args.executor.now
    (sym (refused_by Some c.from_residual.result error c.from_residual.ensures.1))
    (refused_alike g.D.TapeDisk g.H.KeyHash.hash_of c.args.query.now c.args.means.now (Took more) (IsCounted more) (Some error)
    c.args.disk.now no_work c.aggregate_in.new.disk no_work c.args.executor.now c.in_err-more.ensures.ran))

pub returns-in_err-merge_from-clause-ran : goal.returns-in_err-merge_from-clause-ran
returns-in_err-merge_from-clause-ran g c =
    let more = map brought c.args.more.now in
    let result = c.from_residual-in_err-merge_from.result in
    subst (λ (done : Work). Ran g.D.TapeDisk g.H.KeyHash.hash_of c.args.query.now c.args.means.now (IsCounted more) (ended result)
    c.args.disk.now c.args.executor.now c.aggregate_in.new.disk done) (sym c.executor.view_is)
    (ran_as g.D.TapeDisk g.H.KeyHash.hash_of c.args.query.now c.args.means.now (IsCounted more) (Refused (Some NoMemory))
    (ended result) c.args.disk.now c.args.executor.now c.aggregate_in.new.disk c.args.executor.now
    (sym (refused_by Some result NoMemory c.from_residual-in_err-merge_from.ensures.1))
    (refused_later g.D.TapeDisk g.H.KeyHash.hash_of c.args.query.now c.args.means.now (IsCounted more) (Some NoMemory)
    c.args.disk.now c.aggregate_in.new.disk c.aggregate_in.new.disk c.args.executor.now c.in_ok-more.ensures.ran.disk
    (leaves_none g.D.TapeDisk c.aggregate_in.new.disk) (λ honest same. cc)))
