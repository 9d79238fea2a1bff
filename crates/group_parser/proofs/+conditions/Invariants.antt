use Rattle.std.proofs.Common.{◌<◌, length, ◌+◌, ◌*◌}
use Rattle.query_grammar.specs.Queries.{most_open}
use Rattle.query_grammar.specs.Lemmas.Complete.{Ors, Ands, Tests}
use Rattle.group_parser.specs.Views.{lexemes, condition_read}
use Rattle.group_parser.proofs.+conditions.Given as goal

abbrev pub decreases-conditions::comparison : goal.decreases-conditions::comparison
decreases-conditions::comparison l = 16 * length l.tokens.now + 5

abbrev pub decreases-conditions::condition : goal.decreases-conditions::condition
decreases-conditions::condition l = 16 * length l.tokens.now + 9

abbrev pub decreases-conditions::conjunction : goal.decreases-conditions::conjunction
decreases-conditions::conjunction l = 16 * length l.tokens.now + 8

abbrev pub decreases-conditions::negation : goal.decreases-conditions::negation
decreases-conditions::negation l = 16 * length l.tokens.now + 7

abbrev pub decreases-conditions::test : goal.decreases-conditions::test
decreases-conditions::test l = 16 * length l.tokens.now + 6

abbrev pub decreases-operands::call : goal.decreases-operands::call
decreases-operands::call l = 16 * length l.tokens.now + 1

abbrev pub decreases-operands::column_or_call : goal.decreases-operands::column_or_call
decreases-operands::column_or_call l = 16 * length l.tokens.now + 2

abbrev pub decreases-operands::enclosed : goal.decreases-operands::enclosed
decreases-operands::enclosed l = 16 * length l.tokens.now + 10

abbrev pub decreases-operands::filtered : goal.decreases-operands::filtered
decreases-operands::filtered l = 16 * length l.tokens.now

abbrev pub decreases-operands::operand : goal.decreases-operands::operand
decreases-operands::operand l = 16 * length l.tokens.now + 4

abbrev pub decreases-operands::word_operand : goal.decreases-operands::word_operand
decreases-operands::word_operand l = 16 * length l.tokens.now + 3

abbrev pub invariant-conditions::condition-loop-behind :
    goal.invariant-conditions::condition-loop-behind
invariant-conditions::condition-loop-behind l = record {
  goes : Ors most_open l.room (lexemes l.tokens) (condition_read l.read) (lexemes l.rest);
  shorter : length l.rest < length l.tokens;
}

abbrev pub decreases-conditions::condition-loop-behind :
    goal.decreases-conditions::condition-loop-behind
decreases-conditions::condition-loop-behind l = length l.rest

abbrev pub invariant-conditions::conjunction-loop-behind :
    goal.invariant-conditions::conjunction-loop-behind
invariant-conditions::conjunction-loop-behind l = record {
  goes : Ands most_open l.room (lexemes l.tokens) (condition_read l.read) (lexemes l.rest);
  shorter : length l.rest < length l.tokens;
}

abbrev pub decreases-conditions::conjunction-loop-behind :
    goal.decreases-conditions::conjunction-loop-behind
decreases-conditions::conjunction-loop-behind l = length l.rest

abbrev pub invariant-conditions::test-loop-behind : goal.invariant-conditions::test-loop-behind
invariant-conditions::test-loop-behind l = record {
  goes : Tests most_open l.room (lexemes l.tokens) (condition_read l.read) (lexemes l.rest);
  shorter : length l.rest < length l.tokens;
}

abbrev pub decreases-conditions::test-loop-behind : goal.decreases-conditions::test-loop-behind
decreases-conditions::test-loop-behind l = length l.rest
