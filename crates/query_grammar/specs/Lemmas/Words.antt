-- The words that the lemmas cite, of this crate and of those below, in one place to import them from.
pub use Rattle.grouping_model.specs.Aggregates.{Function}
pub use Rattle.grouping_model.specs.Order.{Arrangement}
pub use Rattle.grouping_model.specs.Condition.{Comparison, Is_null, Test}
pub use Rattle.packed_rows.specs.Columns.{IsColumnName, IsSchemaText}
pub use Rattle.query_checks.specs.Checks.{Checked, all_of, are_shallow, checked, depth, filters_pass, is_shallow}
unfoldable pub use Rattle.query_checks.specs.Operators.{comparison_named}
pub use Rattle.query_checks.specs.Operators.{all_tests, comparison_text, symbol_for, test_text, test_word}
pub use Rattle.query_checks.specs.Order.{Asked, By_name, By_place, Target, Term, canonical_term, direction_text, nulls_said, order_of}
pub use Rattle.query_checks.specs.Order.{order_text}
pub use Rattle.query_checks.specs.Order.{term_text}
pub use Rattle.query_checks.specs.Arrangement.{CanBeArranged, arrangement_of, canonical_arrangement}
pub use Rattle.query_checks.specs.Parted.{parted}
pub use Rattle.query_checks.specs.Spelling.{Any_value, Argument, Each_row, Values_of, alias_text, call_text, clause_text}
pub use Rattle.query_checks.specs.Spelling.{function_name, functions, is_named, is_value, item_text, kept_alias, keys_text}
pub use Rattle.query_checks.specs.Spelling.{level, operand, own_name, signature, spelled, spelling}
pub use Rattle.query_checks.specs.Writable.{CanBeAsked, IsColumnOrCall, IsForm, IsLiteral, IsWritable, IsWritableArgument}
unfoldable pub use Rattle.query_tokens.specs.Reserved.{is_reserved}
pub use Rattle.query_tokens.specs.Spelling.{EndsBefore, IsLexeme, IsName, lexemes_of, lexemes_read, runs_on, spell}
unfoldable pub use Rattle.query_tokens.specs.Tokens.{tokens_at}
pub use Rattle.query_tokens.specs.Tokens.{tokens_in}
pub use Rattle.query_tokens.specs.Words.{Integer, Lexeme, Name, Placed, Sign, Text}
pub use Rattle.query_tokens.specs.declared.word.Symbol.{Symbol}
pub use Rattle.query_grammar.specs.Grammar.{IsAnd, IsCall, IsCallArgument, IsCompared, IsCondition, IsNot, IsOperand, IsTest, IsTested}
pub use Rattle.query_grammar.specs.Grammar.{Named, closing, opening, word}
pub use Rattle.query_grammar.specs.Queries.{Begins, IsAlias, IsClause, IsEnd, IsItem, IsItemValue, IsKey, IsKeys}
pub use Rattle.query_grammar.specs.Queries.{IsQuery, most_open}
pub use Rattle.query_grammar.specs.Lists.{IsListOf}
unfoldable pub use Rattle.query_grammar.specs.Lists.{list_at}
pub use Rattle.query_grammar.specs.Arrangement.{IsArrangement, IsDirection, IsNulls, IsOrder, IsTarget}
unfoldable pub use Rattle.query_grammar.specs.Arrangement.{arrangement_at, direction_at, first_or_last, nulls_at, order_at, target_at}
unfoldable pub use Rattle.query_grammar.specs.Arrangement.{term_at}
unfoldable pub use Rattle.query_grammar.specs.Reading.{and_at, argument_at, call_at, chain_at, cmp_at, condition_at, enclosed_at, filter_at}
unfoldable pub use Rattle.query_grammar.specs.Reading.{looked_for, nested_at, not_at, or_at, prim_at, test_at, tested}
pub use Rattle.query_grammar.specs.Reading.{Inner, Read, Too_deep, Unexpected, after, after_comparison, choose, conditions, expect}
pub use Rattle.query_grammar.specs.Reading.{function_or_column, is_count, joined, looked_for_among, right_side, test_behind, unexpected}
pub use Rattle.query_grammar.specs.Reading.{with_rest}
unfoldable pub use Rattle.query_grammar.specs.Terminals.{symbol_number}
unfoldable pub use Rattle.query_grammar.specs.Terminals.{function_named}
pub use Rattle.query_grammar.specs.Terminals.{is_sign, is_word}
unfoldable pub use Rattle.query_grammar.specs.Whole.{alias_at, alias_or_none, clause_at, end_at, item_at}
unfoldable pub use Rattle.query_grammar.specs.Whole.{item_value_at, keys_at, query_at}
pub use Rattle.query_grammar.specs.Whole.{nothing_at}
