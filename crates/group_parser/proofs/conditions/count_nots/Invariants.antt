use Rattle.std.proofs.Common.{◌≡◌, ◌≤◌, length, ℕ, ◌+◌}
use Rattle.query_grammar.specs.Queries.{most_open}
use Rattle.query_grammar.specs.Reading.{not_at, conditions}
use Rattle.group_parser.specs.Views.{lexemes}
use Rattle.group_parser.specs.Nots.{nots}
use Rattle.group_parser.proofs.conditions.count_nots.Given as goal

abbrev pub invariant-loop-behind : goal.invariant-loop-behind
invariant-loop-behind l = record {
  counted : (room : ℕ) → not_at (conditions most_open) room (lexemes l.tokens)
      ≡ nots l.count (not_at (conditions most_open) room (lexemes l.rest));
  within : l.count + length l.rest ≤ length l.tokens;
}

abbrev pub decreases-loop-behind : goal.decreases-loop-behind
decreases-loop-behind l = length l.rest
