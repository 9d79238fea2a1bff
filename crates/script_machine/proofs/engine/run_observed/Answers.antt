use Rattle.std.proofs.Common.{◌∙◌}
use Rattle.refusals.specs.Refusals.{run_error}
use Rattle.script_machine.proofs.EndLaws.{never_fine, runs_passed, faults_passed, fails_passed, runs_read, runs_unread}
use Rattle.script_machine.proofs.EndLaws.{keeps_promise, writes_exactly}
use Rattle.script_machine.proofs.EndLaws.{fails_unread, faults_read, told_as}
use Rattle.script_machine.proofs.engine.run_observed.Goals as goal

pub returns-in_err-script-clause-headline : goal.returns-in_err-script-clause-headline
returns-in_err-script-clause-headline g c =
    never_fine c.from_residual.result (run_error c.in_err-script.field-0.0) c.from_residual.ensures.1 _

pub returns-in_err-script-clause-runs : goal.returns-in_err-script-clause-runs
returns-in_err-script-clause-runs g c =
    let error = c.in_err-script.field-0.0 in
    let passed = c.from_residual.ensures.1 in
    record {
      reads = c.in_err-script.ensures.taken;
      exact = never_fine c.from_residual.result (run_error error) passed _;
      any_disk = runs_passed g.D.TapeDisk c.args.seed c.from_residual.result (run_error error) passed _ _ _
          (runs_unread g.D.TapeDisk c.args.seed c.args.disk.now _ _ _ error c.in_err-script.ensures.why);
      fault = faults_passed c.from_residual.result (run_error error) passed _ (told_as error ∙ c.in_err-script.ensures.fault);
      write_fault = fails_passed c.from_residual.result (run_error error) passed c.args.writer.now c.args.writer.now
          (fails_unread error c.args.writer.now);
    }

pub returns-clause-headline : goal.returns-clause-headline
returns-clause-headline g c =
    let whole = c.in_ok-script.ensures.whole in
    let works = rw c.deref.ensures.value at c.run_script.ensures.works in
    keeps_promise g.D.TapeDisk _ _ _ _ _ (runs_read g.D.TapeDisk _ _ _ _ _ _ _ _ _ whole.0 whole.1 whole.2 works c.run_script.ensures.disk)

pub returns-clause-runs : goal.returns-clause-runs
returns-clause-runs g c =
    let whole = c.in_ok-script.ensures.whole in
    let works = rw c.deref.ensures.value at c.run_script.ensures.works in
    let ran = runs_read g.D.TapeDisk _ _ _ _ _ _ _ _ _ whole.0 whole.1 whole.2 works c.run_script.ensures.disk in
    record {
      reads = c.in_ok-script.ensures.taken;
      exact = writes_exactly g.D.TapeDisk _ _ _ _ _ ran;
      any_disk = ran;
      fault = faults_read g.D.TapeDisk _ _ _ _ _ _ _ c.run_script.ensures.works ∙ c.in_ok-script.ensures.fault;
      write_fault = c.run_script.ensures.write_fault;
    }
