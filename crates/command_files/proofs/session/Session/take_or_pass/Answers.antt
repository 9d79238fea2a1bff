use Rattle.std.proofs.Common.{◌∙◌, ap}
use Rattle.command_streams.specs.Disks.{is_in_memory}
use Rattle.command_files.proofs.TakingLaws.{refuses_out, takes_refused, takes_replied}
use Rattle.command_files.proofs.session.Session.take_or_pass.Goals as goal

pub returns-in-Err-clause-takes : goal.returns-in-Err-clause-takes
returns-in-Err-clause-takes g c =
    takes_refused g.W.Write.contents c.args.kind c.args.means.now c.args.place c.in-Err.ensures.takes.0 c.in-Err.problem.why _ _ _ _ _ _ _ _
    c.args.self.now.reporter c.take_file.new.self.reporter c.pass_over.new.self.reporter _ _ _ _ _ c.pass_over.result
    c.in-Err.ensures.takes.1 c.in-Err.ensures.takes.2 c.pass_over.ensures.disk c.pass_over.ensures.work c.in-Err.ensures.says
    c.in-Err.ensures.listed c.in-Err.ensures.passed c.pass_over.ensures.goes_on c.pass_over.ensures.spares c.pass_over.ensures.counted
    c.pass_over.ensures.some c.pass_over.ensures.told

pub returns-in-Err-clause-disk : goal.returns-in-Err-clause-disk
returns-in-Err-clause-disk g c = ap is_in_memory c.pass_over.ensures.disk ∙ c.in-Err.ensures.disk

pub returns-in-Err-clause-why : goal.returns-in-Err-clause-why
returns-in-Err-clause-why g c =
    refuses_out c.args.kind c.args.means.now c.args.place c.in-Err.ensures.takes.0 c.in-Err.problem.why c.args.replica.now _
    c.args.self.now.disk c.args.self.now.reporter c.take_file.new.self.reporter c.pass_over.new.self.reporter _ _ c.pass_over.result
    c.in-Err.ensures.takes.1 c.in-Err.ensures.says c.in-Err.ensures.listed c.pass_over.ensures.stops c.pass_over.ensures.why

pub returns-clause-takes : goal.returns-clause-takes
returns-clause-takes g c =
    takes_replied g.W.Write.contents c.args.kind c.args.means.now c.args.place c.in-Ok.ensures.takes.0 c.in-Ok.reply _ _ _ _ _ _
    c.args.self.now.reporter c.take_file.new.self.reporter c.reply_to.new.self _ _ _
    c.in-Ok.ensures.takes.1 c.in-Ok.ensures.takes.2 c.in-Ok.ensures.says c.in_ok-reply_to.ensures.replied c.in-Ok.ensures.passed
