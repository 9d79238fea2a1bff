-- Runs and the groups that they stand for.
use Rattle.std.specs.Prelude.{◌≡◌, ℕ, List, [], ◌∷◌, map}
use Rattle.std.proofs.Common.{sym, ◌∙◌, subst, append-nil}
use Rattle.std.specs.declared.cmp.Ordering.TheVariants.{Less}
use Rattle.std.specs.Ordering.{nat_cmp}
use Rattle.std.specs.Cmp.Lexicographic.{slice_cmp}
use Rattle.std.specs.List.{AllByRecursion}
use Rattle.std.specs.List.Sorted.{IsStrictlySortedBy}
use Rattle.grouping_model.specs.Datum.{Row, Kind, HasKinds, row_cmp}
use Rattle.grouping_model.specs.Query.{Query}
use Rattle.grouping_model.specs.Grouping.{Group}
use Rattle.grouping_model.specs.Parts.{keys_of, key_kinds}
use Rattle.packed_rows.specs.Packing.{packing}
use Rattle.packed_rows.specs.Lemmas.PackingOrder.{packed_order, row_apart}
use Rattle.group_runs.specs.Runs.{Entry, Rises}
use Rattle.group_runs.specs.Standing.{AreGroups}
use Rattle.group_runs.specs.MergeLaws.{AreApart, rising_apart}
use Rattle.group_runs.specs.StandingLaws.{keys_of_kinds, keys_packed}

-- ---- packed rows
pub packed_once : (kinds : List Kind) (bytes : List ℕ) (x y : Row) → HasKinds kinds x → HasKinds kinds y → bytes ≡ packing x → bytes
    ≡ packing y → x ≡ y
packed_once kinds bytes x y hx hy ex ey = (row_apart kinds x y [] [] hx hy (append-nil (packing x) ∙ sym ex ∙ ey
    ∙ sym (append-nil (packing y)))).0

-- rising packed keys are those of rising keys
pub rises_keys : (kinds : List Kind) (ks : List Row) → AllByRecursion (HasKinds kinds) ks
    → IsStrictlySortedBy (slice_cmp nat_cmp) (map packing ks) → IsStrictlySortedBy row_cmp ks
unfolding IsStrictlySortedBy
rises_keys kinds [] has rising = tt
rises_keys kinds (k ∷ ks) (first, has) (above, rising) = (each ks has above, rises_keys kinds ks has rising)
  where
    each : (ls : List Row) → AllByRecursion (HasKinds kinds) ls → AllByRecursion (λ z. slice_cmp nat_cmp (packing k) z
        ≡ Less) (map packing ls) → AllByRecursion (λ z. row_cmp k z ≡ Less) ls
    each [] has all = tt
    each (l ∷ ls) (one, has) (below, all) = (sym (packed_order kinds k l first one) ∙ below, each ls has all)

pub run_apart : (q : Query) (most : ℕ) (run : List Entry) (groups : List Group) → AreGroups q most run groups → Rises run
    → AreApart (keys_of groups)
run_apart q most run groups are rises =
    rising_apart (keys_of groups) (rises_keys (key_kinds q) (keys_of groups) (keys_of_kinds q most run groups are)
    (subst (IsStrictlySortedBy (slice_cmp nat_cmp)) (keys_packed q most run groups are) rises))
