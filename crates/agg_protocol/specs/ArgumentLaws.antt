-- Laws: what one more argument makes of a partial result, where the function takes it; nothing here is a definition.
use Rattle.std.proofs.Common.{◌≡◌, refl, suc, List, [], ◌∷◌, length, ap}
use Rattle.packed_rows.specs.View.{row_of}
use Rattle.packed_rows.specs.declared.Value.{Value}

pub length-row_of : (values : List Value) → length (row_of values) ≡ length values
length-row_of [] = refl
length-row_of (v ∷ values) = ap suc (length-row_of values)
