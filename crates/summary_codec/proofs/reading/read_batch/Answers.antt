use Rattle.std.proofs.Common.{refl, sym, subst}
use Rattle.summary_codec.specs.Gathered.{Rise}
use Rattle.summary_codec.proofs.GatheringLaws.{rising_on}
use Rattle.summary_codec.proofs.reading.read_batch.Goals as goal

pub returns-clause-rising : goal.returns-clause-rising
returns-clause-rising c =
    subst Rise (sym c.in_ok-push.ensures)
    (rising_on c.args.early.now (c.in_ok-number.field-0, c.in_ok-rows.rows) c.requires (c.if-not-may_follow.ensures.0 refl).1)
