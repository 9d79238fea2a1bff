use Rattle.std.specs.Prelude.{take}
use Rattle.std.proofs.Common.{◌∙◌, sym}
use Rattle.std.proofs.lemmas.Bool.{true≢false}
use Rattle.std.proofs.lemmas.Slice.Eq.{bytes_eq-Decides}
use Rattle.plain_batches.proofs.BlankLaws.{byte_order_mark, marked, unmarked}
use Rattle.plain_batches.proofs.blank.past_mark.Goals as goal

pub returns-in-Some-clause-text : goal.returns-in-Some-clause-text
returns-in-Some-clause-text c =
    let cases = rw c.as_slice.ensures at c.in-Some.ensures.cases in
    cases.1 ∙ sym (marked c.args.csv.now ((bytes_eq-Decides (take 3 c.args.csv.now) byte_order_mark).0 cases.0))

pub returns-in-None-clause-text : goal.returns-in-None-clause-text
returns-in-None-clause-text c =
    let differs = rw c.as_slice.ensures at c.in-None.ensures.cases in
    sym (unmarked c.args.csv.now (λ same.
    true≢false (sym ((bytes_eq-Decides (take 3 c.args.csv.now) byte_order_mark).1 same) ∙ differs)))
