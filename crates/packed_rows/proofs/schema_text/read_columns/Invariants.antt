use Rattle.std.specs.Prelude.{length}
use Rattle.packed_rows.proofs.DescribedColumns.{ReadSoFar}
use Rattle.query_tokens.specs.Words.{all_placed}
use Rattle.query_tokens.specs.Spelling.{lexemes_of}
use Rattle.packed_rows.specs.Columns.{columns_of}
use Rattle.packed_rows.proofs.schema_text.read_columns.Given as goal

abbrev pub invariant-loop-name : goal.invariant-loop-name
invariant-loop-name l = ReadSoFar (lexemes_of (all_placed l.tokens)) (lexemes_of (all_placed l.rest)) (columns_of l.columns.entries)

abbrev pub decreases-loop-name : goal.decreases-loop-name
decreases-loop-name l = length (lexemes_of (all_placed l.rest))
