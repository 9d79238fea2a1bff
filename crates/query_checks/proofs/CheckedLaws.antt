-- What the checks of kinds and of grouping give where they fail.
use Rattle.std.proofs.Common.{◌≡◌, ◌≢◌, ℕ, true, false, List, refl}
use Rattle.std.specs.Prelude.{Err}
use Rattle.packed_rows.specs.Columns.{Column, kinds}
use Rattle.query_checks.specs.declared.error.QueryError.TheVariants as error
use Rattle.query_checks.specs.declared.error.QueryError.TheVariants.{NoMemory}
use Rattle.query_checks.specs.Forms.{Written}
use Rattle.query_checks.specs.Checks.{are_plain, is_grouped, checked_places, kinds_fit}

pub gives_mismatch : (columns : List Column) (q : Written ℕ) → are_plain q ≡ true → kinds_fit (kinds columns) q ≡ false
    → error.TypeMismatch ≢ NoMemory → checked_places columns q ≡ Err error.TypeMismatch
unfolding checked_places
gives_mismatch columns q plain fit _ = rw plain (rw fit refl)

pub gives_ungrouped : (columns : List Column) (q : Written ℕ) → are_plain q ≡ true → kinds_fit (kinds columns) q ≡ true → is_grouped q
    ≡ false → error.NotGrouped ≢ NoMemory → checked_places columns q ≡ Err error.NotGrouped
unfolding checked_places
gives_ungrouped columns q plain fit grouped _ = rw plain (rw fit (rw grouped refl))
