-- Numbers that are the same, and numbers that are not.
use Rattle.std.specs.Prelude.{◌≡◌, ◌≢◌, refl, ℕ, ◌⊎◌, Bool, true, false}
use Rattle.std.proofs.Common.{◌∙◌, sym, ap, inl, inr}
use Rattle.std.proofs.lemmas.Bool.{true≢false, false_from_ne_true}
use Rattle.std.specs.Ordering.{eq_by_cmp, nat_cmp, is_eq}
use Rattle.std.specs.Cmp.{nat_cmp_total, tied_itself, Equal-is}
use Rattle.std.specs.FinMap.{nat_cmp-IsAntisymmetric}

pub is_itself : (n : ℕ) → eq_by_cmp nat_cmp n n ≡ true
is_itself n = ap is_eq (tied_itself nat_cmp_total n)

pub is_same : (m n : ℕ) → eq_by_cmp nat_cmp m n ≡ true → m ≡ n
is_same m n e = nat_cmp-IsAntisymmetric m n ((Equal-is (nat_cmp m n)).0 e)

pub is_other : (m n : ℕ) → m ≢ n → eq_by_cmp nat_cmp m n ≡ false
is_other m n other = false_from_ne_true (eq_by_cmp nat_cmp m n) (λ e. other (is_same m n e))

pub same_or_other : (m n : ℕ) → (m ≡ n) ⊎ (m ≢ n)
same_or_other m n = go (eq_by_cmp nat_cmp m n) refl
  where
    go : (b : Bool) → eq_by_cmp nat_cmp m n ≡ b → (m ≡ n) ⊎ (m ≢ n)
    go true e = inl (is_same m n e)
    go false e = inr (λ same. true≢false (sym (ap (eq_by_cmp nat_cmp m) (sym same) ∙ is_itself m) ∙ e))
