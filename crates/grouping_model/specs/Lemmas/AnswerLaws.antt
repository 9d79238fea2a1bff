-- An answer depends on what is known of a world alone; and laws of members and of counting up for it.
use Rattle.std.specs.Prelude.{◌≡◌, refl, ℕ, zero, suc, ◌+◌, ◌≤◌, ◌<◌, List, [], ◌∷◌, ◌++◌, flat_map, unwrap_or, IsTrue}
use Rattle.std.proofs.Common.{ap, inl, inr, arith}
use Rattle.grouping_model.specs.Query.{Query}
use Rattle.grouping_model.specs.World.{World, Knowledge, knows, prefix, count_up, origins, origin_rows, batch_rows}
use Rattle.grouping_model.specs.Answer.{answer, answer_over}
use Rattle.grouping_model.specs.MemberLaws.{Member}
use Rattle.grouping_model.specs.Lemmas.PrefixLaws.{prefix_unbroken}

pub flat_map_members : {X Y : Type 0} (f g : X → List Y) (xs : List X) → ((x : X) → Member xs x → f x ≡ g x) → flat_map f xs ≡ flat_map g xs
flat_map_members f g [] same = refl
flat_map_members f g (x ∷ xs) same = λ i. same x (inl refl) i ++ flat_map_members f g xs (λ y m. same y (inr m)) i

pub counted_within : (first n m : ℕ) → Member (count_up first n) m → (first ≤ m) × (m < first + n)
counted_within first zero m listed = absurd listed
counted_within first (suc n) m (inl e) = (omega arith, omega arith)
counted_within first (suc n) m (inr listed) = let rest = counted_within (first + 1) n m listed in (omega arith, omega arith)

-- what is not known of a world has no part in an answer
pub known_alone : (query : Query) (world other : World) (knowledge : Knowledge)
    → ((origin number : ℕ) → IsTrue (knows knowledge (origin, number)) → world origin number ≡ other origin number)
    → answer query world knowledge ≡ answer query other knowledge
known_alone query world other knowledge same =
    ap (answer_over query)
    (flat_map_members (origin_rows world knowledge) (origin_rows other knowledge) (origins knowledge) (λ origin listed.
    flat_map_members (batch_rows world origin) (batch_rows other origin) (count_up 1 (prefix knowledge origin)) (λ number counted.
    let within = counted_within 1 (prefix knowledge origin) number counted in
    ap (λ rows. unwrap_or rows []) (same origin number (prefix_unbroken knowledge origin number within.0 (omega arith))))))
