use Rattle.std.specs.Prelude.{length, IsUtf8}
use Rattle.std.proofs.Common.{◌∙◌, ap, arith, subst}
use Rattle.packed_rows.specs.Columns.{printed}
use Rattle.summary_codec.specs.File.{file_bytes}
use Rattle.summary_codec.specs.declared.version.Version.TheVariants.{Second}
use Rattle.summary_codec.specs.Lemmas.VersionLaws.{held_within}
use Rattle.summary_codec.specs.Lemmas.WrittenRead.{read_again}
use Rattle.summary_codec.proofs.CountedLaws.{file_long}
use Rattle.summary_codec.proofs.length.encoded_len.Goals as goal

pub returns : goal.returns
returns c =
    let q = c.args.query.now in
    let held = c.args.parts.now.entries in
    let printed_is = c.as_str.ensures.value ∙ c.in_ok-schema.ensures.printed ∙ ap printed c.schema.ensures.columns in
    let long = file_long q held in
    let columns = ap length printed_is in
    let text = ap length c.spelling.ensures in
    record {
      file = file_bytes q held;
      is = read_again Second q held c.schema.ensures.query (subst IsUtf8 printed_is c.as_str.utf8)
          (subst IsUtf8 c.spelling.ensures c.spelling.utf8) c.requires (held_within q held c.requires);
      counted = omega (
        arith,
        long,
        columns,
        text,
        c.longer.ensures,
        c.longer-heading.ensures,
        c.parts_len.ensures,
        c.longer-2.ensures,
      );
    }
