-- Where an origin's prefix ends: at the number whose next one is not known.
use Rattle.std.specs.Prelude.{◌≡◌, refl, ℕ, ◌+◌, true, false, IsTrue}
use Rattle.std.proofs.Common.{sym, ◌∙◌, inl, inr, arith}
use Rattle.std.proofs.lemmas.Bool.{cases_lt}
use Rattle.grouping_model.specs.World.{Knowledge, knows, IsUnbroken, prefix}
use Rattle.grouping_model.specs.MemberLaws.{false_is_not_true}
use Rattle.grouping_model.specs.Lemmas.PrefixLaws.{prefix_unbroken, prefix_largest}
use Rattle.std.proofs.lemmas.Bool.Decides.{nat_tests}
use Rattle.std.proofs.lemmas.Grind.{common_steps}

-- the prefix is the number up to which all are known, where the next one is not
pub prefix_is : (knowledge : Knowledge) (origin n : ℕ) → IsUnbroken knowledge origin n → knows knowledge (origin, n + 1) ≡ false
    → prefix knowledge origin ≡ n
prefix_is knowledge origin n unbroken next =
    elim (cases_lt n (prefix knowledge origin)) [
      | inl longer ↦ false_is_not_true (sym next ∙ prefix_unbroken knowledge origin (n + 1) (omega arith) (omega (arith, longer)))
      | inr shorter ↦ let low = prefix_largest knowledge origin n unbroken in omega (arith, shorter, low)
    ]

one_more : (knowledge : Knowledge) (origin n : ℕ) → IsUnbroken knowledge origin n → IsTrue (knows knowledge (origin, n + 1))
    → IsUnbroken knowledge origin (n + 1)
one_more knowledge origin n unbroken known number low high = grind (arith, nat_tests, common_steps)

-- the number next to the prefix is not known
pub next_unknown : (knowledge : Knowledge) (origin : ℕ) → knows knowledge (origin, prefix knowledge origin + 1) ≡ false
next_unknown knowledge origin =
    elim (knows knowledge (origin, prefix knowledge origin + 1)) as (λ b. knows knowledge (origin, prefix knowledge origin + 1) ≡ b → b
    ≡ false) [
      | true ↦ λ known.
          let longer = prefix_largest knowledge origin (prefix knowledge origin
          + 1) (one_more knowledge origin (prefix knowledge origin) (prefix_unbroken knowledge origin) known) in
          absurd (omega (arith, longer))
      | false ↦ λ e. refl
    ] refl
