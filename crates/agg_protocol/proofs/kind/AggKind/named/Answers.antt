use Rattle.std.proofs.Common.{ap, ◌∙◌, option_map}
use Rattle.agg_protocol.specs.Signatures.{is_named, function_named}
use Rattle.agg_protocol.specs.Kinds.{function_of, kinds}
use Rattle.agg_protocol.proofs.NamedLaws.{find_mapped}
use Rattle.agg_protocol.proofs.kind.AggKind.named.Goals as goal

pub returns : goal.returns
unfolding function_named
returns c =
    ap (option_map function_of) c.first_named.ensures
    ∙ find_mapped (is_named c.args.name.now) function_of
    kinds
