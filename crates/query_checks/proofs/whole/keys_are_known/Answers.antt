use Rattle.std.proofs.Common.{sym, ◌∙◌, rules, tests}
use Rattle.std.proofs.lemmas.Iterator.{YieldsList-from_slice}
use Rattle.std.proofs.lemmas.Iterator.Search.{all_from_yields_List}
use Rattle.std.specs.String.{string_bytes}
use Rattle.query_checks.specs.Checks.{is_column}
use Rattle.query_checks.proofs.WholeLaws.{keys_known}
use Rattle.query_checks.proofs.whole.keys_are_known.Goals as goal

pub returns : goal.returns
returns c =
    all_from_yields_List (λ name. is_column c.args.schema.now (string_bytes name)) _ _ c.all.result c.all.ensures.ran
    (YieldsList-from_slice c.args.names.now cc) (λ x b q k. search (rules, tests))
    ∙ sym (keys_known c.args.schema.now c.args.names.now)
