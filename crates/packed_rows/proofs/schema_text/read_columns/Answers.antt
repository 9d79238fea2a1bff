use Rattle.std.proofs.Common.{sym, subst}
use Rattle.std.proofs.lemmas.Result.{err_from_is_err_and}
use Rattle.query_tokens.specs.Words.{all_placed}
use Rattle.query_tokens.specs.Spelling.{lexemes_of}
use Rattle.packed_rows.specs.Columns.{columns_of, names, Describes, AreColumns}
use Rattle.std.specs.List.{IsDistinct}
use Rattle.std.specs.Str.{bytes_eq}
use Rattle.packed_rows.proofs.DescribedColumns.{nothing_read, no_column, fault_read, last_read, no_comma, column_read, fewer_left}
use Rattle.packed_rows.proofs.DescribedColumns.{no_lexemes, some_lexemes, ReadSoFar}
use Rattle.packed_rows.proofs.schema_text.read_columns.Goals as goal

pub loop-name-init : goal.loop-name-init
loop-name-init c =
    let all = lexemes_of (all_placed c.args.tokens.now) in
    subst (λ entries. ReadSoFar all all (columns_of entries)) (sym c.new-columns.ensures.empty) (nothing_read all c.requires)

pub returns-in_default-clause-refused : goal.returns-in_default-clause-refused
returns-in_default-clause-refused c = no_column _ _ _ c.loop-name.invariant c.in_default.ensures.none

pub returns-in_err-add_column-clause-refused : goal.returns-in_err-add_column-clause-refused
returns-in_err-add_column-clause-refused c =
    let p = err_from_is_err_and c.from_residual.result c.from_residual.ensures.1 in
    rw (p.1, p.2) (fault_read _ _ _ _ _ _ _ c.loop-name.invariant c.in-Some.ensures.found c.in_err-add_column.ensures.refused)

pub returns-then-is_empty-clause-described : goal.returns-then-is_empty-clause-described
returns-then-is_empty-clause-described c =
    let all = lexemes_of (all_placed c.args.tokens.now) in
    let added = c.in_ok-add_column.ensures.added in
    subst (Describes all) (sym added)
    (last_read all _ _ _ _ _ c.loop-name.invariant c.in-Some.ensures.found (no_lexemes c.in-Some.after.now c.if-is_empty.ensures)
    c.in_ok-add_column.ensures.right (subst (λ w. IsDistinct bytes_eq (names w)) added c.in_ok-add_column.ensures.distinct)).0

pub returns-then-is_empty-clause-are : goal.returns-then-is_empty-clause-are
returns-then-is_empty-clause-are c =
    let all = lexemes_of (all_placed c.args.tokens.now) in
    let added = c.in_ok-add_column.ensures.added in
    subst AreColumns (sym added)
    (last_read all _ _ _ _ _ c.loop-name.invariant c.in-Some.ensures.found (no_lexemes c.in-Some.after.now c.if-is_empty.ensures)
    c.in_ok-add_column.ensures.right (subst (λ w. IsDistinct bytes_eq (names w)) added c.in_ok-add_column.ensures.distinct)).1

pub returns-in_default-after_comma-clause-refused : goal.returns-in_default-after_comma-clause-refused
returns-in_default-after_comma-clause-refused c =
    no_comma _ _ _ _ _ _ c.loop-name.invariant c.in-Some.ensures.found (some_lexemes c.in-Some.after.now c.if-is_empty.ensures)
    c.in_default-after_comma.ensures.none

pub loop-name-smaller : goal.loop-name-smaller
loop-name-smaller c = fewer_left _ _ _ _ _ c.in-Some.ensures.found c.in-Some-after_comma.ensures.found

pub loop-name-preserved : goal.loop-name-preserved
loop-name-preserved c =
    let all = lexemes_of (all_placed c.args.tokens.now) in
    let more = lexemes_of (all_placed c.in-Some-after_comma.more.now) in
    subst (ReadSoFar all more) (sym c.in_ok-add_column.ensures.added)
    (column_read all _ _ more _ _ _ c.loop-name.invariant c.in-Some.ensures.found c.in-Some-after_comma.ensures.found
    c.in_ok-add_column.ensures.right)
