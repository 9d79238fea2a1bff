use Rattle.std.proofs.Common.{◌≡◌, rules, nat_eq, sym, ◌∙◌}
use Rattle.std.specs.List.{starts_with}
use Rattle.summary_codec.specs.Versions.{opening}
use Rattle.summary_codec.proofs.FieldLaws.{front_goes_on, goes_on_front}
use Rattle.summary_codec.proofs.fields.Fields.is_front.Goals as goal

pub returns : goal.returns
returns c =
    let same : c.starts_with.result ≡ starts_with nat_eq (opening c.args.version) c.args.self.now = search rules in (
      (λ is. front_goes_on (opening c.args.version) c.args.self.now (sym same ∙ is)),
      (λ more. same
          ∙ goes_on_front (opening c.args.version) c.args.self.now more),
    )
