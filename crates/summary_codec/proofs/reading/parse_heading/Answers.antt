use Rattle.std.proofs.Common.{inr}
use Rattle.summary_codec.specs.Reading.{heading}
use Rattle.summary_codec.proofs.FaultLaws.{says}
use Rattle.summary_codec.proofs.reading.parse_heading.Goals as goal

pub returns-clause-fault : goal.returns-clause-fault
unfolding heading
returns-clause-fault c =
    says c.read_query.result _ _ c.read_query.ensures.fault
    (λ e fault memory. inr (c.in_ok-schema.schema, c.read_schema.new.fields, c.in_ok-schema.ensures.read, fault memory))
