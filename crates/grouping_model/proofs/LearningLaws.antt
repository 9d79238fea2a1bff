-- What is known after one more batch: its members, and its prefixes.
use Rattle.std.specs.Prelude.{◌≡◌, ◌≢◌, refl, ℕ, ◌+◌, ◌≤◌, ◌<◌, true, false, ◌||◌, IsTrue}
use Rattle.std.proofs.Common.{sym, ◌∙◌, ap, subst, inl, inr, arith}
use Rattle.std.proofs.lemmas.Bool.{cases_lt}
use Rattle.std.specs.Ordering.{eq_by_cmp, is_eq}
use Rattle.std.specs.Cmp.{tied_itself, Equal-is}
use Rattle.grouping_model.specs.World.{Batch, batch_cmp, batch_cmp_total, Knowledge, knows, learn, IsUnbroken, prefix}
use Rattle.grouping_model.specs.KnowledgeLaws.{batch_cmp_ties, knows_learn, same_knowledge}
use Rattle.grouping_model.specs.Lemmas.PrefixLaws.{prefix_unbroken}
use Rattle.grouping_model.specs.Lemmas.LearningLaws.{prefix_is, next_unknown}

-- what is known stays known, and nothing but the new batch is learned
known_before : (knowledge : Knowledge) (new batch : Batch) → IsTrue (knows knowledge batch) → IsTrue (knows (learn knowledge new) batch)
known_before knowledge new batch known =
    knows_learn knowledge new batch ∙ elim (eq_by_cmp batch_cmp batch new) as (λ b. (b || knows knowledge batch)
    ≡ true) [ true ↦ refl | false ↦ known ]

unknown_after : (knowledge : Knowledge) (new batch : Batch) → batch ≢ new → knows (learn knowledge new) batch ≡ knows knowledge batch
unknown_after knowledge new batch other =
    knows_learn knowledge new batch
    ∙ elim (eq_by_cmp batch_cmp batch new) as (λ b. eq_by_cmp batch_cmp batch new ≡ b → (b || knows knowledge batch)
    ≡ knows knowledge batch) [
      | true ↦ λ e. absurd (other (batch_cmp_ties batch new ((Equal-is (batch_cmp batch new)).0 e)))
      | false ↦ λ e. refl
    ] refl

-- a batch that is known is nothing new
pub learn_known : (knowledge : Knowledge) (batch : Batch) → IsTrue (knows knowledge batch) → learn knowledge batch ≡ knowledge
learn_known knowledge batch known =
    same_knowledge (learn knowledge batch) knowledge (λ other.
    knows_learn knowledge batch other
    ∙ elim (eq_by_cmp batch_cmp other batch) as (λ b. eq_by_cmp batch_cmp other batch ≡ b → (b || knows knowledge other)
    ≡ knows knowledge other) [
      | true ↦ λ e. sym (ap (knows knowledge) (batch_cmp_ties other batch ((Equal-is (batch_cmp other batch)).0 e)) ∙ known)
      | false ↦ λ e. refl
    ] refl)

-- a batch that is not next to an origin's prefix leaves that prefix
pub prefix_stays : (knowledge : Knowledge) (batch : Batch) (origin : ℕ) → batch ≢ (origin, prefix knowledge origin + 1)
    → prefix (learn knowledge batch) origin ≡ prefix knowledge origin
prefix_stays knowledge batch origin other =
    prefix_is (learn knowledge batch) origin (prefix knowledge origin)
    (λ number low high. known_before knowledge batch (origin, number) (prefix_unbroken knowledge origin number low high))
    (unknown_after knowledge batch (origin, prefix knowledge origin + 1) (λ e. other (sym e)) ∙ next_unknown knowledge origin)

-- the batch next to the prefix joins it to what follows without a gap
pub prefix_grows : (knowledge : Knowledge) (origin upto : ℕ) → prefix knowledge origin + 1 ≤ upto
    → ((number : ℕ) → prefix knowledge origin + 1 < number → number ≤ upto → IsTrue (knows knowledge (origin, number)))
    → knows knowledge (origin, upto + 1) ≡ false
    → prefix (learn knowledge (origin, prefix knowledge origin + 1)) origin ≡ upto
prefix_grows knowledge origin upto reaches follow gap =
    prefix_is (learn knowledge new) origin upto all (unknown_after knowledge new (origin, upto + 1) apart ∙ gap)
  where
    new : Batch
    new = (origin, prefix knowledge origin + 1)

    apart : ◌≢◌ {A = Batch} (origin, upto + 1) (origin, prefix knowledge origin + 1)
    apart e = let same : upto + 1 ≡ prefix knowledge origin + 1 = ap (λ (batch : Batch). batch.1) e in omega (arith, same, reaches)

    itself : (number : ℕ) → number ≡ prefix knowledge origin + 1
        → IsTrue (knows (learn knowledge (origin, prefix knowledge origin + 1)) (origin, number))
    itself number e =
        subst (λ m. IsTrue (knows (learn knowledge (origin, prefix knowledge origin + 1)) (origin, m))) (sym e)
        (knows_learn knowledge (origin, prefix knowledge origin + 1) (origin, prefix knowledge origin + 1)
        ∙ ap (λ b. b || knows knowledge (origin, prefix knowledge origin + 1))
        (ap is_eq (tied_itself batch_cmp_total (origin, prefix knowledge origin + 1))))

    all : IsUnbroken (learn knowledge (origin, prefix knowledge origin + 1)) origin upto
    all number low high =
        elim (cases_lt (prefix knowledge origin) number) [
          | inl above ↦ elim (cases_lt (prefix knowledge origin + 1) number) [
            | inl later ↦ known_before knowledge (origin, prefix knowledge origin + 1) (origin, number) (follow number later high)
            | inr same ↦ itself number (omega (arith, above, same))
          ]
          | inr within ↦ known_before knowledge (origin, prefix knowledge origin + 1) (origin, number)
              (prefix_unbroken knowledge origin number low within)
        ]
