-- Laws: a query that a text says over columns is over these.
use Rattle.std.specs.Prelude.{◌≡◌, ℕ, Bool, true, false, not, ◌&&◌, if◌then◌else◌, List, Result, Ok, Err}
use Rattle.std.specs.Result.{is_ok}
use Rattle.std.proofs.Common.{ap, sym}
use Rattle.std.proofs.lemmas.Bool.{false≢true}
use Rattle.packed_rows.specs.Columns.{Column}
use Rattle.query_checks.specs.declared.error.QueryError.{QueryError}
use Rattle.query_checks.specs.declared.error.QueryError.TheVariants.{NoSuchColumn, TooMany, TooDeep}
use Rattle.query_checks.specs.declared.order.OrderTerm.{OrderTerm}
use Rattle.query_checks.specs.Forms.{Written}
use Rattle.query_checks.specs.Order.{Asked, names_items}
use Rattle.query_checks.specs.Arrangement.{checked_arrangement}
use Rattle.grouping_model.specs.Order.{Arrangement}
use Rattle.query_checks.specs.Checks.{Checked, checked, checked_places, with_arrangement, placed, has_too_many, all_of}
use Rattle.query_checks.specs.Checks.{filters_pass, is_shallow, are_shallow, has_columns}
use Rattle.group_parser.specs.Parsing.{Accepts}

-- what is accepted was not refused before
behind : (fails : Bool) (error : QueryError) (rest : Result Checked QueryError) (q : Checked) → (if fails then Err error else rest) ≡ Ok q
    → rest ≡ Ok q
behind true error rest q passed = absurd (false≢true (ap (λ (r : Result Checked QueryError). is_ok r) passed))
behind false error rest q passed = passed

over_arrangement : (columns : List Column) (written : Result (Written ℕ) QueryError)
    (arrangement : Result (Arrangement OrderTerm) QueryError) (q : Checked)
    → with_arrangement columns written arrangement ≡ Ok q → q.columns ≡ columns
over_arrangement columns (Err e) arrangement q passed = absurd (false≢true (ap (λ (r : Result Checked QueryError). is_ok r) passed))
over_arrangement columns (Ok written) (Err e) q passed = absurd (false≢true (ap (λ (r : Result Checked QueryError). is_ok r) passed))
over_arrangement columns (Ok written) (Ok arrangement) q passed = sym (ap (λ (r : Result Checked QueryError). columns_or columns r) passed)
  where
    columns_or : List Column → Result Checked QueryError → List Column
    columns_or cs (Ok r) = r.columns
    columns_or cs (Err e) = cs

over_columns : (columns : List Column) (asked : Asked) (q : Checked) → checked columns asked ≡ Ok q → q.columns ≡ columns
unfolding checked
over_columns columns asked q passed =
    over_arrangement columns (checked_places columns (placed columns asked.written)) (checked_arrangement asked) q
    (behind (not (has_columns columns asked.written && names_items asked)) NoSuchColumn _ q
    (behind (not (all_of (filters_pass is_shallow) are_shallow asked.written)) TooDeep _ q
    (behind (has_too_many asked) TooMany _ q passed)))

pub read_over : (columns : List Column) (text : List ℕ) (q : Checked) → Accepts columns text q → q.columns ≡ columns
read_over columns text q read = over_columns columns read.asked q read.passed
