use Rattle.std.proofs.Common.{inr, refl, ◌∙◌}
use Rattle.summary_codec.specs.Reading.{query}
use Rattle.summary_codec.proofs.FaultLaws.{handed_on}
use Rattle.summary_codec.proofs.reading.read_query.Goals as goal

pub returns-in_err-check_text-clause-fault : goal.returns-in_err-check_text-clause-fault
unfolding query
returns-in_err-check_text-clause-fault c =
    handed_on c.from_residual-in_err-check_text.result c.in_err-check_text.field-0.0 _ c.from_residual-in_err-check_text.ensures.1
    (λ memory.
    let fault = c.in_err-check_text.ensures.fault in
    inr (
      c.in_ok-text.text.now,
      c.read_text.new.fields,
      c.in_ok-text.ensures.read,
      inr (
        c.in_ok-query.query,
        c.read_text.new.fields,
        (c.in_ok-query.ensures.parsed, refl),
        inr
            ((λ same. fault.0 (c.spelling.ensures ∙ same)), fault.1),
      ),
    ))
