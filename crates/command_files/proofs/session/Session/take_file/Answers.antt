use Rattle.std.specs.Prelude.{Some, Ok, Err}
use Rattle.std.proofs.Common.{◌∙◌, sym}
use Rattle.command_streams.specs.DiskLaws.{honest_in_memory}
use Rattle.command_files.proofs.TakingLaws.{told_as, took_over, ran_as}
use Rattle.command_files.proofs.session.Session.take_file.Goals as goal

pub returns-in-Ok-take-clause-takes : goal.returns-in-Ok-take-clause-takes
returns-in-Ok-take-clause-takes g c = (
  Some c.deref.result.now,
  took_over c.args.kind _ _ c.deref.result.now c.args.replica.now c.take.new.replica (Ok c.in-Ok-take.reply)
      (honest_in_memory c.args.self.now.disk) c.in-Ok-take.ensures.takes,
  c.in-Ok-take.ensures.ran,
)

pub returns-in-Ok-take-clause-disk : goal.returns-in-Ok-take-clause-disk
returns-in-Ok-take-clause-disk g c =
    sym (honest_in_memory c.take.new.disk) ∙ c.in-Ok-take.ensures.ran.disk.honesty
    ∙ honest_in_memory c.args.self.now.disk

pub returns-clause-takes : goal.returns-clause-takes
returns-clause-takes g c = (
  Some c.deref.result.now,
  told_as c.args.kind _ c.deref.result.now c.args.replica.now c.take.new.replica
      c.in-Err-take.why c.refused.result.why c.refused.ensures
      (took_over c.args.kind _ _ c.deref.result.now c.args.replica.now c.take.new.replica (Err c.in-Err-take.why)
      (honest_in_memory c.args.self.now.disk) c.in-Err-take.ensures.takes),
  ran_as c.args.kind (Some c.deref.result.now) c.args.replica.now c.args.means.now c.in-Err-take.why c.refused.result.why
      c.args.self.now.disk c.args.self.now.executor c.take.new.disk c.take.new.executor c.refused.ensures c.in-Err-take.ensures.ran,
)

pub returns-clause-disk : goal.returns-clause-disk
returns-clause-disk g c =
    sym (honest_in_memory c.take.new.disk) ∙ c.in-Err-take.ensures.ran.disk.honesty
    ∙ honest_in_memory c.args.self.now.disk
