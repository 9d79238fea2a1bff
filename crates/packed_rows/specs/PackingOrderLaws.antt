-- Laws: packings compare as what is packed, whatever follows them; nothing here is a definition.
use Rattle.std.specs.Prelude.{◌≡◌, ℕ, ◌<◌, nat_lt, cond, ◌==◌}
use Rattle.std.proofs.Common.{refl, ◌∙◌}
use Rattle.std.proofs.Math.Nat.{le_refl}
use Rattle.std.proofs.lemmas.Bool.{cond-true, cond-false, lt-ltb, le-ltb, eq-eqb}
use Rattle.std.specs.declared.cmp.Ordering.TheVariants.{Less, Equal, Greater}
use Rattle.std.specs.Ordering.{nat_cmp}

pub less : (x y : ℕ) → x < y → nat_cmp x y ≡ Less
less x y lt = cond-true (nat_lt x y) Less (cond (x == y) Equal Greater) (lt-ltb x y lt)

pub tied : (x : ℕ) → nat_cmp x x ≡ Equal
tied x = cond-false (nat_lt x x) Less (cond (x == x) Equal Greater) (le-ltb x x (le_refl x))
    ∙ cond-true (x == x) Equal Greater (eq-eqb x x refl)
