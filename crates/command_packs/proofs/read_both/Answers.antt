use Rattle.std.proofs.Common.{ap}
use Rattle.script_io.specs.Fused.{unread}
use Rattle.command_packs.proofs.PackingLaws.{given}
use Rattle.command_packs.proofs.read_both.Goals as goal

pub returns-clause-csv : goal.returns-clause-csv
returns-clause-csv g c =
    let left = unread g.I.Read.remaining in
    given c.args.words (left c.args.inputs.now.reader.now) (left c.schema_of.new.inputs.reader.now) (left c.read.new.self.reader.now)
    c.in_ok-csv.csv.items (λ other. ap left (c.schema_of.ensures.others other)) c.in_ok-csv.ensures.standard
