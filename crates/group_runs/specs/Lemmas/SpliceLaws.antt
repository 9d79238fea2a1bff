-- Groups with rising keys make a run that rises.
use Rattle.std.specs.Prelude.{◌≡◌, ℕ, List, [], ◌∷◌, map}
use Rattle.std.proofs.Common.{sym, ◌∙◌, subst}
use Rattle.std.specs.declared.cmp.Ordering.TheVariants.{Less}
use Rattle.std.specs.Ordering.{nat_cmp}
use Rattle.std.specs.Cmp.Lexicographic.{slice_cmp}
use Rattle.std.specs.List.{AllByRecursion}
use Rattle.std.specs.List.Sorted.{IsStrictlySortedBy}
use Rattle.grouping_model.specs.Datum.{Row, HasKinds, row_cmp}
use Rattle.grouping_model.specs.Query.{Query}
use Rattle.grouping_model.specs.Grouping.{Group}
use Rattle.grouping_model.specs.Parts.{keys_of, key_kinds}
use Rattle.packed_rows.specs.Packing.{packing}
use Rattle.packed_rows.specs.Lemmas.PackingOrder.{packed_order}
use Rattle.group_runs.specs.Runs.{Entry, Rises}
use Rattle.group_runs.specs.Standing.{AreGroups}
use Rattle.group_runs.specs.StandingLaws.{keys_packed, keys_of_kinds}

-- groups with rising keys have rising packed keys
pub packed_rise : (q : Query) (m : ℕ) (run : List Entry) (groups : List Group) → AreGroups q m run groups
    → IsStrictlySortedBy row_cmp (keys_of groups) → Rises run
unfolding IsStrictlySortedBy
packed_rise q m run groups are rising = subst (IsStrictlySortedBy (slice_cmp nat_cmp)) (sym (keys_packed q m run groups are))
    (each (keys_of groups) (keys_of_kinds q m run groups are) rising)
  where
    above : (k : Row) (ks : List Row) → HasKinds (key_kinds q) k → AllByRecursion (HasKinds (key_kinds q)) ks
        → AllByRecursion (λ z. row_cmp k z ≡ Less) ks → AllByRecursion (λ z. slice_cmp nat_cmp (packing k) z ≡ Less) (map packing ks)
    above k [] has all low = tt
    above k (l ∷ ks) has (one, all) (first, low) = (packed_order (key_kinds q) k l has one ∙ first, above k ks has all low)

    each : (ks : List Row) → AllByRecursion (HasKinds (key_kinds q)) ks → IsStrictlySortedBy row_cmp ks
        → IsStrictlySortedBy (slice_cmp nat_cmp) (map packing ks)
    each [] has rising = tt
    each (k ∷ ks) (one, has) (low, rising) = (above k ks one has low, each ks has rising)
