-- A query that passes the last checks is given as it is.
use Rattle.std.proofs.Common.{◌≡◌, ℕ, true, List, refl}
use Rattle.std.specs.Prelude.{Ok}
use Rattle.packed_rows.specs.Columns.{Column, kinds}
use Rattle.query_checks.specs.Forms.{Written}
use Rattle.query_checks.specs.Checks.{are_plain, is_grouped, checked_places, kinds_fit}

pub gives_checked : (columns : List Column) (q : Written ℕ) → are_plain q ≡ true → kinds_fit (kinds columns) q ≡ true → is_grouped q ≡ true
    → checked_places columns q ≡ Ok q
unfolding checked_places
gives_checked columns q plain fit grouped = rw plain (rw fit (rw grouped refl))
