use Rattle.std.specs.Prelude.{◌≡◌}
use Rattle.refusals.specs.declared.refusal.Refusal.TheVariants.{NoMemory}
use Rattle.command_replicas.specs.Commands.{IsTooLong}
use Rattle.file_sentences.specs.declared.reasons.FileKind.TheVariants.{Batch, Summary}
use Rattle.command_words.specs.declared.subcommands.Subcommand.TheVariants.{New, Feed, Merge, Known, Answer}
use Rattle.command_files.specs.Reporting.{output_of}
use Rattle.command_files.specs.Running.{files_told, standpoint_of}
use Rattle.command_files.proofs.RunningLaws.{stops_alone, stops_counted, stops_named}
use Rattle.command_files.proofs.session.Session.perform.Goals as goal

pub returns-in-Known-clause-why : goal.returns-in-Known-clause-why
returns-in-Known-clause-why g c =
    let old = c.args.self.now in
    stops_named c.args.subcommand Known c.args.matches.now c.args.means.now c.args.replica.now
    (standpoint_of g.W.Write.contents old.disk old.executor old.target.listed old.passed old.reporter) old.reporter
    c.list.new.self.reporter (output_of g.W.Write.contents c.list.new.self.reporter) c.list.result c.in-Known.is
    (stops_alone g.W.Write.contents (λ why. why ≡ NoMemory) old.reporter c.list.new.self.reporter c.list.result c.list.ensures.why)

pub returns-in-Answer-clause-why : goal.returns-in-Answer-clause-why
returns-in-Answer-clause-why g c =
    let old = c.args.self.now in
    stops_named c.args.subcommand Answer c.args.matches.now c.args.means.now c.args.replica.now
    (standpoint_of g.W.Write.contents old.disk old.executor old.target.listed old.passed old.reporter) old.reporter
    c.answer.new.self.reporter (output_of g.W.Write.contents c.answer.new.self.reporter) c.answer.result c.in-Answer.is
    (stops_alone g.W.Write.contents (λ why. why ≡ NoMemory) old.reporter c.answer.new.self.reporter c.answer.result c.answer.ensures.why)

pub returns-in-New-clause-why : goal.returns-in-New-clause-why
returns-in-New-clause-why g c =
    let old = c.args.self.now in
    stops_named c.args.subcommand New c.args.matches.now c.args.means.now c.args.replica.now
    (standpoint_of g.W.Write.contents old.disk old.executor old.target.listed old.passed old.reporter) old.reporter
    c.save.new.self.reporter (output_of g.W.Write.contents c.save.new.self.reporter) c.save.result c.in-New.is
    (stops_alone g.W.Write.contents (λ why. IsTooLong c.args.replica.now why) old.reporter c.save.new.self.reporter c.save.result
    c.save.ensures.why)

pub returns-in-Feed-clause-why : goal.returns-in-Feed-clause-why
returns-in-Feed-clause-why g c =
    let old = c.args.self.now in
    let from = standpoint_of g.W.Write.contents old.disk old.executor old.target.listed old.passed old.reporter in
    let done = c.take_and_save in
    let output = output_of g.W.Write.contents done.new.self.reporter in
    stops_named c.args.subcommand Feed c.args.matches.now c.args.means.now c.args.replica.now from old.reporter done.new.self.reporter
    output done.result c.in-Feed.is
    (stops_counted Batch _ (files_told Feed c.args.matches.now) c.args.means.now c.args.replica.now from old.reporter
    done.new.self.reporter output done.result c.batches_of-paths.ensures done.ensures.why)

pub returns-in-Merge-clause-why : goal.returns-in-Merge-clause-why
returns-in-Merge-clause-why g c =
    let old = c.args.self.now in
    let from = standpoint_of g.W.Write.contents old.disk old.executor old.target.listed old.passed old.reporter in
    let done = c.take_and_save-in-Merge in
    let output = output_of g.W.Write.contents done.new.self.reporter in
    stops_named c.args.subcommand Merge c.args.matches.now c.args.means.now c.args.replica.now from old.reporter done.new.self.reporter
    output done.result c.in-Merge.is
    (stops_counted Summary _ (files_told Merge c.args.matches.now) c.args.means.now c.args.replica.now from old.reporter
    done.new.self.reporter output done.result c.others_of-paths.ensures done.ensures.why)
