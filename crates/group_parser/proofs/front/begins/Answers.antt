use Rattle.std.proofs.Common.{◌≡◌, IsTrue, List, length, subst, arith}
use Rattle.std.proofs.lemmas.Bool.Decides.{nat_tests}
use Rattle.std.proofs.lemmas.Grind.{common_steps}
use Rattle.query_tokens.specs.Words.{all_placed}
use Rattle.query_tokens.specs.Spelling.{lexemes_of}
use Rattle.query_tokens.specs.declared.word.Token.{Token}
use Rattle.query_grammar.specs.Queries.{most_open}
use Rattle.group_parser.specs.Fronts.{IsLongestFront}
use Rattle.group_parser.proofs.Fronts.{is_front, is_begun}
use Rattle.group_parser.proofs.front.begins.Goals as goal

pub returns-in_ok-count_begun-in-Ok : goal.returns-in_ok-count_begun-in-Ok
returns-in_ok-count_begun-in-Ok c =
    let text = c.args.text.now in
    let placed = all_placed c.in-Ok.found.items in
    let count = c.in_ok-count_begun-in-Ok.field-0 in
    let read = c.in-Ok.ensures.exact in
    let longest = subst (λ (ts : List Token). IsLongestFront most_open (lexemes_of (all_placed ts)) count) c.deref.ensures.value
    c.in_ok-count_begun-in-Ok.ensures in (
      λ all. is_front text placed count read longest (grind (arith, nat_tests, common_steps)),
      λ front. let same : count ≡ length placed = is_begun text placed count read longest front in grind (arith, nat_tests, common_steps),
    )
