use Rattle.std.proofs.Common.{◌<◌, length, map}
use Rattle.query_grammar.specs.Lists.{list_at}
use Rattle.query_grammar.specs.Lemmas.Chains.{Lists}
use Rattle.group_parser.specs.Views.{lexemes}
use Rattle.group_parser.proofs.lists.list.Given as goal

abbrev pub invariant-loop-behind : goal.invariant-loop-behind
invariant-loop-behind g l = record {
  lists : Lists g.T.Listed.one_at (list_at g.T.Listed.one_at (length (lexemes l.tokens)) (lexemes l.tokens))
      (map g.T.Listed.said l.found.items) (lexemes l.rest);
  shorter : length l.rest < length l.tokens;
}

abbrev pub decreases-loop-behind : goal.decreases-loop-behind
decreases-loop-behind g l = length l.rest
