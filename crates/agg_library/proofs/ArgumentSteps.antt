-- What one more argument makes of a state, where the function takes it.
use Rattle.std.proofs.Common.{◌≡◌, refl, ℕ, zero, suc, ◌<◌, ◌≤◌, List, sym, ap, subst, ◌∙◌, arith, ℤ, Option, Some}
use Rattle.grouping_model.specs.Aggregates.{Function, Sum, Partial, Summed, outcome, Numeric}
use Rattle.grouping_model.specs.Combining.{transition}
use Rattle.packed_rows.specs.View.{datum_of}
use Rattle.packed_rows.specs.declared.Value.{Value}
use Rattle.packed_rows.specs.declared.Value.TheVariants as value
use Rattle.agg_protocol.specs.States.{Denotes, shape_of, rows_of, most_rows}
use Rattle.agg_protocol.specs.DenotingLaws.{within}
use Rattle.agg_library.specs.StateRows.{partial_after}

-- a value that is no number changes no sum
pub sum_kept : (n : ℕ) (y : ℤ) (v : Value) → ((z : ℤ) → v ≡ value.Bigint z → ⊥) → Summed n y ≡ transition Sum (Summed n y) (datum_of v)
sum_kept n y (value.Bigint z) none = absurd (none z refl)
sum_kept n y other none = refl

-- a sum of some numbers
pub outcome_some : (n : ℕ) (z : ℤ) → zero < n → outcome (Summed n z) ≡ Numeric z
outcome_some zero z some = absurd (omega arith)
outcome_some (suc n) z some = refl

-- the state after a row whose value reaches the aggregate
pub advanced : (f : Function) (m : ℕ) (p q : Partial) (reach : Option Value) (v : Value) (new : List ℕ) → reach ≡ Some v → q
    ≡ transition f p (datum_of v) → rows_of (transition f p (datum_of v)) ≤ m → Denotes most_rows (shape_of f) new q
    → Denotes m (shape_of f) new (partial_after f p reach)
advanced f m p q reach v new reached moved few written =
    let moves : q ≡ partial_after f p reach = moved ∙ ap (partial_after f p) (sym reached) in
    let within_m : rows_of q ≤ m = subst (λ r. rows_of r ≤ m) (sym moved) few in
    subst (λ r. Denotes m (shape_of f) new r) moves (within most_rows m (shape_of f) q written.0 within_m, written.1)
