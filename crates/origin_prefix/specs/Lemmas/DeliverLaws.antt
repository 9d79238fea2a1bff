-- The number next to a prefix, and those of the early batches, rise.
use Rattle.std.specs.Prelude.{◌≡◌, ℕ, ◌+◌, List, [], ◌∷◌}
use Rattle.std.specs.List.{AllByRecursion}
use Rattle.std.specs.List.Sorted.{IsStrictlySortedBy}
use Rattle.std.specs.Ordering.{nat_cmp}
use Rattle.std.specs.declared.cmp.Ordering.TheVariants.{Less}
use Rattle.grouping_model.specs.Datum.{Kind}
use Rattle.packed_rows.specs.Columns.{kinds}
use Rattle.packed_rows.specs.PackingOrderLaws.{less}
use Rattle.query_checks.specs.Checks.{Checked}
use Rattle.origin_prefix.specs.Parts.{Batches, Part, IsEarly, IsPartOf}
use Rattle.origin_prefix.specs.Lemmas.ByNumber.{numbers}

above_next : (ks : List Kind) (prefix : ℕ) (batches : Batches) → AllByRecursion (IsEarly ks prefix) batches
    → AllByRecursion (λ m. nat_cmp (prefix + 1) m ≡ Less) (numbers batches)
above_next ks prefix [] all = tt
above_next ks prefix (b ∷ batches) all = (less (prefix + 1) b.0 all.0.behind, above_next ks prefix batches all.1)

pub next_rising : (query : Checked) (part : Part) (rows : List (List ℕ)) → IsPartOf query part
    → IsStrictlySortedBy nat_cmp (numbers ((part.prefix + 1, rows) ∷ part.early))
unfolding IsStrictlySortedBy
next_rising query part rows is = (above_next (kinds query.columns) part.prefix part.early is.early, is.rising)
