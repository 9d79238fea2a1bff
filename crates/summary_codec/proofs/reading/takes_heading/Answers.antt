use Rattle.std.specs.Prelude.{Ok}
use Rattle.std.proofs.Common.{refl, ap, subst, ◌∙◌}
use Rattle.packed_rows.specs.Columns.{printed}
use Rattle.summary_codec.specs.Reading.{text}
use Rattle.summary_codec.specs.Lemmas.WrittenRead.{heading_again}
use Rattle.summary_codec.proofs.reading.takes_heading.Goals as goal

pub returns : goal.returns
returns c = λ taken.
    let columns = subst (λ bytes. text c.args.fields.now (Ok (bytes, c.takes_text.new.fields))) (c.as_str.ensures.value
    ∙ c.in_ok-schema.ensures.printed ∙ ap printed c.schema.ensures.columns) (c.if-not-takes_text.ensures refl) in
    let spelled = subst (λ bytes. text c.takes_text.new.fields (Ok (bytes, c.takes_text-2.new.fields))) c.spelling.ensures
    (c.takes_text-2.ensures taken) in
    heading_again c.args.known.now c.args.fields.now c.takes_text.new.fields c.takes_text-2.new.fields c.schema.ensures.query columns
    spelled
