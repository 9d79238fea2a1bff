-- The comparisons and the IS tests, each with one line of a table, and what follows from the table: how they are told
-- apart, written and named. Their meaning is the model's.
use Rattle.std.specs.Prelude.{◌≡◌, refl, ℕ, List, [], ◌∷◌, ◌++◌, map, codes, slice_index_or, Bool, Option, find}
use Rattle.std.specs.Char.{to_ascii_uppercase}
use Rattle.std.specs.Str.{bytes_eq}
use Rattle.query_tokens.specs.declared.word.Symbol.{Symbol}
use Rattle.query_tokens.specs.declared.word.Symbol.TheVariants as symbols
use Rattle.query_tokens.specs.Spelling.{spell_symbol}
use Rattle.grouping_model.specs.Condition as model
use Rattle.query_checks.specs.declared.operators.Comparison.{Comparison}
use Rattle.query_checks.specs.declared.operators.Comparison.TheVariants as comparison
use Rattle.query_checks.specs.declared.operators.IsTest.{IsTest}
use Rattle.query_checks.specs.declared.operators.IsTest.TheVariants as test

-- ---- comparisons

-- the comparison that the code names
abbrev pub comparison_of : Comparison → model.Comparison
comparison_of comparison.Equal = model.Equal
comparison_of comparison.Unequal = model.Unequal
comparison_of comparison.Less = model.Less
comparison_of comparison.AtMost = model.At_most
comparison_of comparison.More = model.More
comparison_of comparison.AtLeast = model.At_least

-- a comparison's line: a number, which is its place among all, and the symbol that stands for it
pub record Line : Type 0 where
  pub number : ℕ
  pub symbol : Symbol

abbrev pub line : ℕ → Symbol → Line
line number symbol = record { number = number; symbol = symbol }

-- all comparisons (PostgreSQL 17, Table 9.1; the numbers are our own)
abbrev pub comparisons : List model.Comparison
comparisons = model.Equal ∷ model.Unequal ∷ model.Less ∷ model.At_most ∷ model.More ∷ model.At_least ∷ []

abbrev pub line_of : model.Comparison → Line
line_of model.Equal = line 0 symbols.Equal
line_of model.Unequal = line 1 symbols.Unequal
line_of model.Less = line 2 symbols.Less
line_of model.At_most = line 3 symbols.AtMost
line_of model.More = line 4 symbols.More
line_of model.At_least = line 5 symbols.AtLeast

-- numbers that tell comparisons apart, and the comparison of a number
abbrev pub comparison_number : model.Comparison → ℕ
comparison_number comparison = (line_of comparison).number

abbrev pub comparison_at : ℕ → model.Comparison
comparison_at number = slice_index_or comparisons number model.At_least

pub comparison_at_back : (comparison : model.Comparison) → comparison_at (comparison_number comparison) ≡ comparison
comparison_at_back model.Equal = refl
comparison_at_back comparison = refl

-- the symbol that stands for a comparison, and the text between its operands: the symbol's between spaces (own)
abbrev pub symbol_for : model.Comparison → Symbol
symbol_for comparison = (line_of comparison).symbol

abbrev pub comparison_text : model.Comparison → List ℕ
comparison_text comparison = codes " " ++ spell_symbol (symbol_for comparison) ++ codes " "

-- the comparison that a symbol stands for (PostgreSQL 17, Table 9.1)
abbrev pub is_written : Symbol → model.Comparison → Bool
is_written symbol comparison = bytes_eq (spell_symbol (symbol_for comparison)) (spell_symbol symbol)

unfoldable pub comparison_named : Symbol → Option model.Comparison
comparison_named symbol = find (is_written symbol) comparisons

-- ---- IS tests

-- the test that the code names
abbrev pub test_of : IsTest → model.Test
test_of test.IsNull = model.Is_null
test_of test.IsTrue = model.Is_true
test_of test.IsFalse = model.Is_false
test_of test.IsUnknown = model.Is_unknown

-- a test's line: a number, which is its place among all, and the word behind IS
pub record TestLine : Type 0 where
  pub number : ℕ
  pub word : List ℕ

abbrev pub test_line : ℕ → List ℕ → TestLine
test_line number word = record { number = number; word = word }

-- all tests (PostgreSQL 17, Table 9.2; the numbers are our own)
abbrev pub all_tests : List model.Test
all_tests = model.Is_null ∷ model.Is_true ∷ model.Is_false ∷ model.Is_unknown ∷ []

abbrev pub line_of_test : model.Test → TestLine
line_of_test model.Is_null = test_line 0 (codes "null")
line_of_test model.Is_true = test_line 1 (codes "true")
line_of_test model.Is_false = test_line 2 (codes "false")
line_of_test model.Is_unknown = test_line 3 (codes "unknown")

-- numbers that tell tests apart, and the test of a number
abbrev pub test_number : model.Test → ℕ
test_number test = (line_of_test test).number

abbrev pub test_at : ℕ → model.Test
test_at number = slice_index_or all_tests number model.Is_unknown

pub test_at_back : (test : model.Test) → test_at (test_number test) ≡ test
test_at_back model.Is_null = refl
test_at_back test = refl

-- the word that names a test behind IS, and its text, in upper case (own)
abbrev pub test_word : model.Test → List ℕ
test_word test = (line_of_test test).word

abbrev pub test_text : model.Test → List ℕ
test_text test = map to_ascii_uppercase (test_word test)
