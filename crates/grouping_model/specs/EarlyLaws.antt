-- Laws: the early numbers of an origin, and the origins of which something is known; these definitions serve the laws alone.
use Rattle.std.specs.Prelude.{◌≡◌, refl, ℕ, ◌<◌, ◌==◌, nat_lt, Bool, true, false, cond, List, [], ◌∷◌, map, filter, Contains, IsTrue, ◌↔◌}
use Rattle.std.proofs.Common.{sym, ◌∙◌, ap, subst}
use Rattle.std.specs.declared.cmp.Ordering.{Ordering}
use Rattle.std.specs.declared.cmp.Ordering.TheVariants.{Less, Equal}
use Rattle.std.specs.Ordering.{nat_cmp, ordering_then}
use Rattle.std.specs.List.{AllByRecursion}
use Rattle.std.specs.List.Sorted.{IsStrictlySortedBy}
use Rattle.std.specs.Cmp.{nat_cmp_total, tied_itself, unsigned_Decides}
use Rattle.std.specs.FinMap.{nat_cmp-IsAntisymmetric}
use Rattle.std.proofs.lemmas.Bool.{ltb-true, lt-ltb}
use Rattle.grouping_model.specs.World.{Batch, batch_cmp, batch_cmp_total, Knowledge, knows, prefix, numbers_of, early, origins}
use Rattle.grouping_model.specs.Rising.Facts.{distinct-rises}
use Rattle.grouping_model.specs.KnowledgeLaws.{batch_cmp_ties}
use Rattle.grouping_model.specs.MemberLaws.{Member, from_contains, to_contains, among_member, distinct_member, map_member, member_map}
use Rattle.grouping_model.specs.MemberLaws.{filter_member, member_filter}

-- what is known is listed, and what is listed is known
known_member : (knowledge : Knowledge) (batch : Batch) → IsTrue (knows knowledge batch) ↔ Member knowledge.batches batch
known_member knowledge batch = among_member batch_cmp_total batch_cmp_ties knowledge.batches batch

filter_all : {X : Type 0} (P : X → Type 0) (t : X → Bool) (xs : List X) → AllByRecursion P xs → AllByRecursion P (filter t xs)
filter_all P t [] all = tt
filter_all P t (x ∷ xs) (p, all) =
    elim (t x) as (λ b. AllByRecursion P (cond b (x ∷ filter t xs) (filter t xs))) [
      | true ↦ (p, filter_all P t xs all)
      | false ↦ filter_all
          P t xs all
    ]

pub filter_rises : {X : Type 0} (cmp : X → X → Ordering) (t : X → Bool) (xs : List X) → IsStrictlySortedBy cmp xs
    → IsStrictlySortedBy cmp (filter t xs)
unfolding IsStrictlySortedBy
filter_rises cmp t [] rising = tt
filter_rises cmp t (x ∷ xs) (below, rising) =
    elim (t x) as (λ b. IsStrictlySortedBy cmp (cond b (x ∷ filter t xs) (filter t xs))) [
      | true ↦ (filter_all (λ y. cmp x y ≡ Less) t xs below, filter_rises cmp t xs rising)
      | false ↦ filter_rises cmp t xs rising
    ]

abbrev of_origin : ℕ → List Batch → List Batch
of_origin origin batches = filter (λ (batch : Batch). batch.0 == origin) batches

-- above a batch of an origin, its other batches have higher numbers
numbers_above : (origin : ℕ) (batch : Batch) → batch.0 ≡ origin → (batches : List Batch)
    → AllByRecursion (λ later. batch_cmp batch later ≡ Less) batches → AllByRecursion (λ number. nat_cmp batch.1 number
    ≡ Less) (map (λ (later : Batch). later.1) (of_origin origin batches))
numbers_above origin batch own [] all = tt
numbers_above origin batch own (later ∷ batches) (below, all) =
    elim (later.0 == origin) as (λ b. (later.0 == origin) ≡ b → AllByRecursion (λ number. nat_cmp batch.1 number
    ≡ Less) (map (λ (later : Batch). later.1) (cond b (later ∷ of_origin origin batches) (of_origin origin batches)))) [
      | true ↦ λ e.
          let same : nat_cmp batch.0 later.0 ≡ Equal = ap (nat_cmp batch.0) ((unsigned_Decides later.0 origin).0 e ∙ sym own)
          ∙ tied_itself nat_cmp_total batch.0 in
          (ap (λ r. ordering_then r (nat_cmp batch.1 later.1)) (sym same) ∙ below, numbers_above origin batch own batches all)
      | false ↦ λ e. numbers_above origin batch own batches all
    ] refl

numbers_rise : (origin : ℕ) (batches : List Batch) → IsStrictlySortedBy batch_cmp batches
    → IsStrictlySortedBy nat_cmp (map (λ (batch : Batch). batch.1) (of_origin origin batches))
unfolding IsStrictlySortedBy
numbers_rise origin [] rising = tt
numbers_rise origin (batch ∷ batches) (below, rising) =
    elim (batch.0 == origin) as (λ b. (batch.0 == origin) ≡ b
    → IsStrictlySortedBy nat_cmp
    (map (λ (batch : Batch). batch.1) (cond b (batch ∷ of_origin origin batches) (of_origin origin batches)))) [
      | true ↦ λ e. (numbers_above origin batch ((unsigned_Decides batch.0 origin).0 e) batches below, numbers_rise origin batches rising)
      | false ↦ λ e. numbers_rise origin batches rising
    ] refl

pub early_rise : (knowledge : Knowledge) (origin : ℕ) → IsStrictlySortedBy nat_cmp (early knowledge origin)
early_rise knowledge origin =
    filter_rises nat_cmp (λ number. nat_lt (prefix knowledge origin) number) (numbers_of knowledge origin)
    (numbers_rise origin knowledge.batches knowledge.rising)

numbers_are : (knowledge : Knowledge) (origin number : ℕ) → Member (numbers_of knowledge origin) number
    ↔ Member knowledge.batches (origin, number)
numbers_are knowledge origin number = (
  λ m.
      let found = map_member (λ (batch : Batch). batch.1) (of_origin origin knowledge.batches) number m in
      let own = filter_member (λ (batch : Batch). batch.0 == origin) knowledge.batches found.0 found.1 in
      let same : found.0 ≡ (origin, number) = λ i. ((unsigned_Decides found.0.0 origin).0 own.1 i, found.2 i) in
      subst (Member knowledge.batches) same own.0,
  λ m.
      member_map (λ (batch : Batch). batch.1) (of_origin origin knowledge.batches) (origin, number)
      (member_filter (λ (batch : Batch). batch.0 == origin) knowledge.batches (origin, number) m ((unsigned_Decides origin origin).1 refl)),
)

pub early_are : (knowledge : Knowledge) (origin number : ℕ) → Contains (early knowledge origin) number
    ↔ (IsTrue (knows knowledge (origin, number)) × (prefix knowledge origin < number))
early_are knowledge origin number = (
  λ c.
      let found = filter_member (nat_lt (prefix knowledge origin)) (numbers_of knowledge origin) number
      (from_contains (early knowledge origin) number c) in (
        (known_member knowledge (origin, number)).1 ((numbers_are knowledge origin number).0 found.0),
        below_of (prefix knowledge origin)
            number found.1,
      ),
  λ (known, later).
      to_contains (early knowledge origin) number
      (member_filter (nat_lt (prefix knowledge origin)) (numbers_of knowledge origin) number
      ((numbers_are knowledge origin number).1 ((known_member knowledge (origin, number)).0 known))
      (of_below (prefix knowledge origin) number later)),
)
  where
    below_of : (m n : ℕ) → nat_lt m n ≡ true → m < n
    below_of m n e = ltb-true m n e

    of_below : (m n : ℕ) → m < n → nat_lt m n ≡ true
    of_below m n l = lt-ltb m n l

pub origins_rise : (knowledge : Knowledge) → IsStrictlySortedBy nat_cmp (origins knowledge)
origins_rise knowledge = distinct-rises nat_cmp_total (map (λ (batch : Batch). batch.0) knowledge.batches)

pub origins_are : (knowledge : Knowledge) (origin : ℕ) → Contains (origins knowledge) origin
    ↔ ((number : ℕ) × IsTrue (knows knowledge (origin, number)))
origins_are knowledge origin = (
  λ c.
      let listed : Member (map (λ (batch : Batch). batch.0) knowledge.batches) origin =
      (distinct_member nat_cmp_total nat_cmp-IsAntisymmetric (map (λ (batch : Batch). batch.0) knowledge.batches) origin).0
      (from_contains (origins knowledge) origin c) in
      let found = map_member (λ (batch : Batch). batch.0) knowledge.batches origin listed in
      let same : found.0 ≡ (origin, found.0.1) = λ i. (found.2 i, found.0.1) in
      (found.0.1, (known_member knowledge (origin, found.0.1)).1 (subst (Member knowledge.batches) same found.1)),
  λ (number, known).
      to_contains (origins knowledge) origin
      ((distinct_member nat_cmp_total nat_cmp-IsAntisymmetric (map (λ (batch : Batch). batch.0) knowledge.batches) origin).1
      (member_map (λ (batch : Batch). batch.0) knowledge.batches (origin, number) ((known_member knowledge (origin, number)).0 known))),
)
