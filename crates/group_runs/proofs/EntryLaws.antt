-- Entries and the groups that they stand for.
use Rattle.std.specs.Prelude.{◌≡◌, ℕ, List}
use Rattle.std.proofs.Common.{◌∙◌}
use Rattle.std.specs.Ordering.{nat_cmp}
use Rattle.std.specs.Cmp.Lexicographic.{slice_cmp}
use Rattle.grouping_model.specs.Datum.{Row, Kind, HasKinds, row_cmp}
use Rattle.packed_rows.specs.Packing.{packing}
use Rattle.packed_rows.specs.Lemmas.PackingOrder.{packed_order}

-- packed keys have the order of keys
pub key_order : (kinds : List Kind) (k l : Row) (x y : List ℕ) → x ≡ packing k → y ≡ packing l → HasKinds kinds k → HasKinds kinds l
    → slice_cmp nat_cmp x y ≡ row_cmp k l
key_order kinds k l x y ex ey hk hl = (λ i. slice_cmp nat_cmp (ex i) (ey i)) ∙ packed_order kinds k l hk hl
