use Rattle.std.proofs.Common.{ap}
use Rattle.std.specs.Option.{option_copied}
use Rattle.origin_prefix.proofs.EarlyLaws.{differ_from}
use Rattle.origin_prefix.proofs.early.differs_from.Goals as goal

pub returns-in-Some : goal.returns-in-Some
returns-in-Some c = differ_from c.same_rows.result c.args.rows.now c.in-Some.those.now (option_copied c.args.found)
    (ap option_copied c.in-Some.is) c.same_rows.ensures
