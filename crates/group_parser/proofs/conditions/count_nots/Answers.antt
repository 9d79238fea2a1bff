use Rattle.std.proofs.Common.{ap, ◌∙◌, arith}
use Rattle.query_grammar.specs.Queries.{most_open}
use Rattle.query_grammar.specs.Reading.{not_at, conditions}
use Rattle.group_parser.specs.Views.{lexemes}
use Rattle.group_parser.proofs.Readers.{one_more_not, no_not}
use Rattle.group_parser.specs.Nots.{nots}
use Rattle.group_parser.proofs.conditions.count_nots.Goals as goal

pub loop-behind-preserved : goal.loop-behind-preserved
loop-behind-preserved c = record {
  counted = λ room. one_more_not (conditions most_open) room c.loop-behind.count
      (not_at (conditions most_open) room (lexemes c.args.tokens.now)) (lexemes c.loop-behind.rest.now) (lexemes c.in-Some.behind.now)
      (c.loop-behind.invariant.counted room) c.in-Some.ensures.found;
  within = omega (arith, c.loop-behind.invariant.within, c.in-Some.ensures.shorter);
}

pub returns-clause-counted : goal.returns-clause-counted
returns-clause-counted c = λ room.
    c.loop-behind.invariant.counted room
    ∙ ap (nots c.loop-behind.count) (no_not (conditions most_open) room (lexemes c.loop-behind.rest.now) c.in_default.ensures.found)
