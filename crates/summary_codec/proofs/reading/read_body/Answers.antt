use Rattle.std.proofs.Common.{inl, inr}
use Rattle.summary_codec.specs.Reading.{body}
use Rattle.summary_codec.proofs.FaultLaws.{handed_on}
use Rattle.summary_codec.proofs.reading.read_body.Goals as goal

pub returns-in_err-parts-clause-fault : goal.returns-in_err-parts-clause-fault
unfolding body
returns-in_err-parts-clause-fault c =
    handed_on c.from_residual-in_err-parts.result c.in_err-parts.field-0.0 _ c.from_residual-in_err-parts.ensures.1
    (λ memory. inr (c.in_ok-query.query, c.read_heading.new.fields, c.in_ok-query.ensures.read, inl (c.in_err-parts.ensures.fault memory)))
