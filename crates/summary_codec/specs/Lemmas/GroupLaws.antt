-- How many bytes a row of states has.
use Rattle.std.proofs.Common.{◌≡◌, refl, ◌+◌, List, [], ◌∷◌, sym, ap, ◌∙◌}
use Rattle.std.proofs.lemmas.List.Sums.{sum_by-cons}
use Rattle.std.specs.Prelude.{sum_by}
use Rattle.agg_protocol.specs.States.{shape_of, width_of}
use Rattle.agg_protocol.specs.declared.kind.AggKind.{AggKind}
use Rattle.agg_protocol.specs.Kinds.{functions_of, kind_width, row_width}

-- how many bytes a row of states has, by the functions of the aggregates
pub width_by_functions : (kinds : List AggKind) → row_width kinds ≡ sum_by (λ function. width_of (shape_of function)) (functions_of kinds)
width_by_functions [] = refl
width_by_functions (k ∷ ks) =
    sum_by-cons kind_width k ks
    ∙ ap (λ n. kind_width k + n) (width_by_functions ks)
    ∙ sym (sum_by-cons (λ function. width_of (shape_of function)) _ (functions_of ks))
