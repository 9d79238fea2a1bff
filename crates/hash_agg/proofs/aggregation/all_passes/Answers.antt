use Rattle.std.specs.Prelude.{List, map, IsTrue}
use Rattle.std.proofs.Common.{sym, ◌∙◌, subst}
use Rattle.tape_disks.specs.DiskLaws.{leaves_twice}
use Rattle.hash_agg.proofs.Words.{spill_faults, meaning, IsSafeRun, query_of, Brought, brought, CountUpTo, MadeAll, all_pieces, Plan}
use Rattle.hash_agg.proofs.AnswerLaws.{plan_counts}
use Rattle.hash_agg.proofs.DiskLaws.{left_out}
use Rattle.hash_agg.proofs.LaterLaws.{begun, made_all}
use Rattle.hash_agg.proofs.ReturnLaws.{no_if_ok}
use Rattle.hash_agg.proofs.StepLaws.{err_out}
use Rattle.hash_agg.proofs.WholeLaws.{all_given}
use Rattle.hash_agg.proofs.aggregation.all_passes.Goals as goal

pub later_passes-requires-clause-run : goal.later_passes-requires-clause-run
later_passes-requires-clause-run g c =
    let made = c.in_ok-first.ensures.made in
    subst (λ (plan : Plan). IsSafeRun (meaning plan.query.now) plan.most c.in_ok-first.first) (sym made.plan) made.safe

pub returns-in_err-first : goal.returns-in_err-first
returns-in_err-first g c =
    record {
      made = no_if_ok c.from_residual.result _ c.from_residual.ensures.0;
      over = no_if_ok c.from_residual.result _ c.from_residual.ensures.0;
      finds = no_if_ok c.from_residual.result _ c.from_residual.ensures.0;
      undamaged = err_out c.from_residual.result c.in_err-first.field-0.0 _ c.from_residual.ensures.1
          (λ honest. c.in_err-first.ensures.undamaged);
      disk =
          left_out g.D.TapeDisk c.from_residual.result c.in_err-first.field-0.0 c.args.disk.now c.first_pass.new.disk
          c.from_residual.ensures.1 c.in_err-first.ensures.disk;
    }

pub returns-in_err-run : goal.returns-in_err-run
returns-in_err-run g c =
    let inputs : List Brought = map brought c.args.inputs.now in
    let pass = c.args.pass.now in
    let first = c.in_ok-first.ensures.made in
    let honesty = c.in_ok-first.ensures.disk.honesty in
    let given = all_given (query_of pass) inputs c.requires.inputs.are in
    record {
      made = no_if_ok c.from_residual-in_err-run.result _ c.from_residual-in_err-run.ensures.0;
      over = no_if_ok c.from_residual-in_err-run.result _ c.from_residual-in_err-run.ensures.0;
      finds = no_if_ok c.from_residual-in_err-run.result _ c.from_residual-in_err-run.ensures.0;
      undamaged =
          err_out c.from_residual-in_err-run.result c.in_err-run.field-0.0 _ c.from_residual-in_err-run.ensures.1
          (λ honest.
          c.in_err-run.ensures.undamaged (subst IsTrue (sym honesty) honest) (all_pieces inputs given.0) c.none-work.result
          (g.D.TapeDisk.writes c.args.disk.now)
          (begun g.H.KeyHash.hash_of g.D.TapeDisk inputs pass c.args.disk.now c.none-work.result c.in_ok-first.first c.first_pass.new.pass
          c.first_pass.new.disk c.first_pass.new.work first given.0 given.1)
          (subst (λ (plan : Plan). CountUpTo (meaning plan.query.now) plan.most (all_pieces inputs given.0)) (sym first.plan)
          (plan_counts pass inputs given.0 c.requires.most c.requires.inputs.are given.1)));
      disk =
          left_out g.D.TapeDisk c.from_residual-in_err-run.result c.in_err-run.field-0.0 c.args.disk.now c.later_passes.new.disk
          c.from_residual-in_err-run.ensures.1
          (leaves_twice g.D.TapeDisk (spill_faults c.in_err-run.field-0.0) c.args.disk.now c.first_pass.new.disk c.later_passes.new.disk
          c.in_ok-first.ensures.disk c.in_err-run.ensures.disk);
    }

pub returns : goal.returns
returns g c =
    let inputs : List Brought = map brought c.args.inputs.now in
    let first = c.in_ok-first.ensures.made in
    record {
      made =
          subst (λ none. MadeAll g.H.KeyHash.hash_of g.D.TapeDisk inputs c.args.pass.now c.args.disk.now none c.in_ok-run.run'
          c.later_passes.new.disk c.later_passes.new.work) c.none-work.ensures
          (made_all g.H.KeyHash.hash_of g.D.TapeDisk inputs c.args.pass.now c.args.disk.now c.none-work.result c.in_ok-first.first
          c.first_pass.new.pass c.first_pass.new.disk c.first_pass.new.work first c.in_ok-run.run' c.later_passes.new.disk
          c.later_passes.new.work c.in_ok-first.ensures.disk.honesty c.in_ok-run.ensures.made);
      over = c.in_ok-run.ensures.over;
      finds = c.in_ok-run.ensures.finds ∙ first.finds;
      undamaged = tt;
      disk =
          leaves_twice g.D.TapeDisk 0 c.args.disk.now c.first_pass.new.disk c.later_passes.new.disk c.in_ok-first.ensures.disk
          c.in_ok-run.ensures.disk;
    }
