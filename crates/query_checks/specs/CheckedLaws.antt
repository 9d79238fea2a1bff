-- Laws: what each check that fails gives; nothing here is a definition.
use Rattle.std.proofs.Common.{◌≡◌, ◌≢◌, true, false, List, sym, subst, ◌∙◌, ap, not}
use Rattle.std.specs.Prelude.{◌&&◌, Result, Ok, Err, IfErr}
use Rattle.std.specs.Result.{IsErrAnd}
use Rattle.std.proofs.lemmas.Bool.{cond-true, cond-false, and_from}
use Rattle.packed_rows.specs.Columns.{Column}
use Rattle.query_checks.specs.declared.error.QueryError.{QueryError}
use Rattle.query_checks.specs.declared.error.QueryError.TheVariants.{NoMemory, TooMany, TooDeep, NoSuchColumn}
use Rattle.query_checks.specs.Order.{Asked, names_items}
use Rattle.query_checks.specs.Reads.{filters_pass}
use Rattle.query_checks.specs.Checks.{all_of, has_too_many, is_shallow, are_shallow, has_columns, placed, checked, checked_places}
use Rattle.query_checks.specs.Checks.{with_arrangement, PassesFirst}
use Rattle.query_checks.specs.Arrangement.{checked_arrangement}

pub gives_too_many : (columns : List Column) (q : Asked) → has_too_many q ≡ true → checked columns q ≡ Err TooMany
unfolding checked
gives_too_many columns q e = cond-true (has_too_many q) _ _ e

pub gives_too_deep : (columns : List Column) (q : Asked) → has_too_many q ≡ false → all_of (filters_pass is_shallow) are_shallow q.written
    ≡ false → checked columns q ≡ Err TooDeep
unfolding checked
gives_too_deep columns q few deep = cond-false (has_too_many q) _ _ few
    ∙ cond-true (not (all_of (filters_pass is_shallow) are_shallow q.written)) _ _ (ap not deep)

pub gives_no_column : (columns : List Column) (q : Asked) → has_too_many q ≡ false → all_of (filters_pass is_shallow) are_shallow q.written
    ≡ true → (has_columns columns q.written && names_items q) ≡ false → checked columns q ≡ Err NoSuchColumn
unfolding checked
gives_no_column columns q few shallow missing =
    cond-false (has_too_many q) _ _ few
    ∙ cond-false (not (all_of (filters_pass is_shallow) are_shallow q.written)) _ _ (ap not shallow)
    ∙ cond-true (not (has_columns columns q.written && names_items q)) _ _ (ap not missing)

-- an error passed on is that of the checks
pub refused_as : {T : Type 0} (columns : List Column) (q : Asked) (result : Result T QueryError) (e : QueryError)
    → IsErrAnd result (λ x. x ≡ e) → (e ≢ NoMemory → checked columns q ≡ Err e)
    → IfErr result (λ x. x ≢ NoMemory → checked columns q ≡ Err x)
refused_as columns q (Ok x) e failed told = absurd failed
refused_as columns q (Err x) e failed told = subst (λ y. y ≢ NoMemory → checked columns q ≡ Err y) (sym failed) told

-- a query that passes the first checks goes on to the others
pub reaches_places : (columns : List Column) (q : Asked) → PassesFirst columns q → checked columns q
    ≡ with_arrangement columns (checked_places columns (placed columns q.written)) (checked_arrangement q)
unfolding checked
reaches_places columns q first =
    cond-false (has_too_many q) _ _ first.few
    ∙ cond-false (not (all_of (filters_pass is_shallow) are_shallow q.written)) _ _ (ap not first.shallow)
    ∙ cond-false (not (has_columns columns q.written && names_items q)) _ _
    (ap not (and_from (has_columns columns q.written) (names_items q) first.columns_there first.items_there))
