use Rattle.std.specs.Prelude.{Some}
use Rattle.std.proofs.Common.{◌∙◌, sym, ap}
use Rattle.std.specs.Option.{option_copied}
use Rattle.origin_prefix.specs.Lemmas.ByNumber.{some_is}
use Rattle.origin_prefix.proofs.early.has_rows.Goals as goal

pub returns-in-Some : goal.returns-in-Some
returns-in-Some c =
    let there = ap option_copied c.in-Some.is in (
      λ same. there ∙ ap Some (sym (c.same_rows.ensures.0 same)),
      λ found. c.same_rows.ensures.1 (sym (some_is c.in-Some.those.now c.args.rows.now (sym there ∙ found))),
    )
