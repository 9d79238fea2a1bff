use Rattle.std.proofs.Common.{◌≡◌, rules, arith, sym, subst}
use Rattle.summary_codec.specs.Lemmas.LengthLaws.{short_parts, few_parts}
use Rattle.summary_codec.specs.File.{file_bytes}
use Rattle.summary_codec.specs.Reading.{IsSaved}
use Rattle.summary_codec.specs.declared.version.Version.TheVariants.{Second}
use Rattle.summary_codec.specs.Lemmas.VersionLaws.{held_within}
use Rattle.summary_codec.specs.Lemmas.WrittenRead.{read_again}
use Rattle.summary_codec.proofs.writing.encode.Goals as goal

pub push_number-requires-clause-fits : goal.push_number-requires-clause-fits
push_number-requires-clause-fits c =
    let few = few_parts c.args.query.now c.args.parts.now.entries c.requires in
    let len = c.len.ensures in
    omega (arith, few, len)

pub push_parts-requires : goal.push_parts-requires
push_parts-requires c = short_parts c.args.query.now c.args.parts.now.entries c.in_ok-push_heading.ensures.query c.requires

pub returns-clause-read_again : goal.returns-clause-read_again
returns-clause-read_again c =
    let q = c.args.query.now in
    let held = c.args.parts.now.entries in
    let texts = c.in_ok-push_heading.ensures.texts in
    let spelled : c.push_parts.new.out.items ≡ file_bytes q held = search rules in
    subst (λ bytes. IsSaved bytes q held) (sym spelled) (read_again Second q held c.in_ok-push_heading.ensures.query texts.0 texts.1
    c.requires (held_within q held c.requires))
