-- Counting up in two parts.
use Rattle.std.specs.Prelude.{◌≡◌, ℕ, zero, suc, ◌+◌, ◌∷◌, ◌++◌}
use Rattle.std.proofs.Common.{◌∙◌, ap, arith}
use Rattle.grouping_model.specs.World.{count_up}

-- counting on from where counting stopped
pub counted_on : (first p q : ℕ) → count_up first (p + q) ≡ count_up first p ++ count_up (first + p) q
counted_on first zero q = (λ i. count_up (first_is i) (zero_is i))
  where
    zero_is : zero + q ≡ q
    zero_is = omega arith

    first_is : first ≡ first + zero
    first_is = omega arith
counted_on first (suc p) q =
    ap (count_up first) moved ∙ ap (λ ns. first ∷ ns) (counted_on (first + 1) p q ∙ ap (λ n. count_up (first + 1) p ++ count_up n q) same)
  where
    moved : suc p + q ≡ suc (p + q)
    moved = omega arith

    same : (first + 1) + p ≡ first + suc p
    same = omega arith
