use Rattle.std.proofs.Common.{◌∙◌, ap, sym, subst, length, ◌^◌, ◌<◌}
use Rattle.std.specs.Int.{bytes_high_first}
use Rattle.summary_codec.proofs.FieldLaws.{spelled, spelled_fits}
use Rattle.summary_codec.proofs.fields.spelled.Goals as goal

pub returns : goal.returns
returns c = record {
  spelled =
      spelled c.args.bytes.now (λ i. (c.type_inv.bytes i).fits) ∙ ap (bytes_high_first (length c.args.bytes.now)) (sym c.read_uint.ensures);
  fits =
      subst (λ n. n < 256 ^ length c.args.bytes.now) (sym c.read_uint.ensures)
      (spelled_fits c.args.bytes.now (λ i. (c.type_inv.bytes i).fits));
}
