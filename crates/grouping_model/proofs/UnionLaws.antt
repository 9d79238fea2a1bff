-- What a union tells of an origin: its prefix, its early numbers, its rows, and the origins.
use Rattle.std.specs.Prelude.{◌≡◌, refl, ℕ, ◌+◌, ◌-◌, ◌≤◌, ◌<◌, nat_lt, true, false, ◌||◌, List, [], ◌∷◌, ◌++◌, ◌⊎◌, filter, IsTrue, ◌↔◌}
use Rattle.std.proofs.Common.{sym, ◌∙◌, ap, inl, inr, arith, append_assoc}
use Rattle.std.proofs.lemmas.Bool.{cases_lt}
use Rattle.std.specs.Ordering.{nat_cmp}
use Rattle.std.specs.List.{flat_map}
use Rattle.std.specs.List.Sorted.{IsStrictlySortedBy}
use Rattle.std.specs.Cmp.{nat_cmp_total, both_ways}
use Rattle.std.specs.FinMap.{nat_cmp-IsAntisymmetric}
use Rattle.grouping_model.specs.Rising.{distinct, is_among}
use Rattle.grouping_model.specs.Rising.Facts.{distinct-rises, same_members}
use Rattle.grouping_model.specs.World.{World, Batch, Knowledge, knows, union, IsUnbroken, prefix, early, origins, count_up, batch_rows}
use Rattle.grouping_model.specs.World.{origin_rows}
use Rattle.grouping_model.specs.MemberLaws.{Member, from_contains, to_contains, among_member, distinct_member, member_filter, filter_member}
use Rattle.grouping_model.specs.KnowledgeLaws.{knows_union}
use Rattle.grouping_model.specs.Lemmas.PrefixLaws.{prefix_unbroken, prefix_largest}
use Rattle.grouping_model.specs.Lemmas.LearningLaws.{prefix_is}
use Rattle.grouping_model.specs.EarlyLaws.{early_are, early_rise, origins_are, origins_rise, filter_rises}
use Rattle.grouping_model.specs.Lemmas.UnionLaws.{counted_on}

-- the union knows what either side knows
left_known : (a b : Knowledge) (batch : Batch) → IsTrue (knows a batch) → IsTrue (knows (union a b) batch)
left_known a b batch known = knows_union a b batch ∙ ap (λ k. k || knows b batch) known

right_known : (a b : Knowledge) (batch : Batch) → IsTrue (knows b batch) → IsTrue (knows (union a b) batch)
right_known a b batch known = knows_union a b batch ∙ elim (knows a batch) as (λ k. (k || knows b batch)
    ≡ true) [ true ↦ refl | false ↦ known ]

either_known : (a b : Knowledge) (batch : Batch) → IsTrue (knows (union a b) batch) → (IsTrue (knows a batch)) ⊎ (IsTrue (knows b batch))
either_known a b batch known =
    elim (knows a batch) as (λ k. (k || knows b batch) ≡ true → (k ≡ true) ⊎ IsTrue (knows b batch))
    [ true ↦ λ e. inl refl | false ↦ λ e. inr e ] (sym (knows_union a b batch) ∙ known)

-- neither side has a longer prefix
pub left_shorter : (a b : Knowledge) (origin : ℕ) → prefix a origin ≤ prefix (union a b) origin
left_shorter a b origin =
    prefix_largest (union a b) origin (prefix a origin) (λ number low high. left_known a b (origin, number)
    (prefix_unbroken a origin number low high))

pub right_shorter : (a b : Knowledge) (origin : ℕ) → prefix b origin ≤ prefix (union a b) origin
right_shorter a b origin =
    prefix_largest (union a b) origin (prefix b origin) (λ number low high. right_known a b (origin, number)
    (prefix_unbroken b origin number low high))

-- the prefix reaches over what either side knows behind both prefixes, up to the first number that neither knows
pub united_prefix : (a b : Knowledge) (origin upto : ℕ) → prefix a origin ≤ upto → prefix b origin ≤ upto
    → ((number : ℕ) → prefix a origin < number → prefix b origin < number → number ≤ upto
    → IsTrue (knows a (origin, number) || knows b (origin, number)))
    → (knows a (origin, upto + 1) || knows b (origin, upto + 1)) ≡ false → prefix (union a b) origin ≡ upto
united_prefix a b origin upto reaches_a reaches_b follow gap =
    prefix_is (union a b) origin upto all (knows_union a b (origin, upto + 1) ∙ gap)
  where
    all : IsUnbroken (union a b) origin upto
    all number low high =
        elim (cases_lt (prefix a origin) number) [
          | inl above_a ↦ elim (cases_lt (prefix b origin) number) [
            | inl above_b ↦ knows_union a b (origin, number) ∙ follow number above_a above_b high
            | inr within ↦ right_known a b (origin, number) (prefix_unbroken b origin number low (omega (arith, within)))
          ]
          | inr within ↦ left_known a b (origin, number) (prefix_unbroken a origin number low (omega (arith, within)))
        ]

-- rising lists of numbers with the same members are the same
same_numbers : (xs ys : List ℕ) → IsStrictlySortedBy nat_cmp xs → IsStrictlySortedBy nat_cmp ys → ((n : ℕ) → Member xs n → Member ys n)
    → ((n : ℕ) → Member ys n → Member xs n) → xs ≡ ys
same_numbers xs ys rising_x rising_y to back =
    same_members nat_cmp_total nat_cmp-IsAntisymmetric xs ys rising_x rising_y
    (λ n. both_ways (is_among nat_cmp n xs) (is_among nat_cmp n ys)
    (λ e. (among_member nat_cmp_total nat_cmp-IsAntisymmetric ys n).1
    (to n ((among_member nat_cmp_total nat_cmp-IsAntisymmetric xs n).0 e)))
    (λ e. (among_member nat_cmp_total nat_cmp-IsAntisymmetric xs n).1
    (back n ((among_member nat_cmp_total nat_cmp-IsAntisymmetric ys n).0 e))))

in_either : (xs ys : List ℕ) (n : ℕ) → Member (xs ++ ys) n → Member xs n ⊎ Member ys n
in_either [] ys n m = inr m
in_either (x ∷ xs) ys n (inl same) = inl (inl same)
in_either (x ∷ xs) ys n (inr m) = elim (in_either xs ys n m) [ inl left ↦ inl (inr left) | inr right ↦ inr right ]

in_left : (xs ys : List ℕ) (n : ℕ) → Member xs n → Member (xs ++ ys) n
in_left (x ∷ xs) ys n (inl same) = inl same
in_left (x ∷ xs) ys n (inr m) = inr (in_left xs ys n m)
in_left [] ys n m = absurd m

in_right : (xs ys : List ℕ) (n : ℕ) → Member ys n → Member (xs ++ ys) n
in_right [] ys n m = m
in_right (x ∷ xs) ys n m = inr (in_right xs ys n m)

distinct_in : (xs ys : List ℕ) (n : ℕ) → Member (distinct nat_cmp (xs ++ ys)) n ↔ (Member xs n ⊎ Member ys n)
distinct_in xs ys n = (
  λ m. in_either xs ys n ((distinct_member nat_cmp_total nat_cmp-IsAntisymmetric (xs ++ ys) n).0 m),
  λ e. (distinct_member nat_cmp_total nat_cmp-IsAntisymmetric (xs ++ ys) n).1
      (elim e [ inl left ↦ in_left xs ys n left | inr right ↦ in_right xs ys n right ]),
)

below_of : (m n : ℕ) → nat_lt m n ≡ true → m < n
below_of m n e = grind arith

of_below : (m n : ℕ) → m < n → nat_lt m n ≡ true
of_below m n l = grind arith

is_early : (knowledge : Knowledge) (origin n : ℕ) → IsTrue (knows knowledge (origin, n)) → prefix knowledge origin < n
    → Member (early knowledge origin) n
is_early knowledge origin n known above = from_contains (early knowledge origin) n ((early_are knowledge origin n).1 (known, above))

early_known : (knowledge : Knowledge) (origin n : ℕ) → Member (early knowledge origin) n → IsTrue (knows knowledge (origin, n))
    × (prefix knowledge origin < n)
early_known knowledge origin n m = (early_are knowledge origin n).0 (to_contains (early knowledge origin) n m)

-- the early numbers are those of either side above the prefix
pub united_early : (a b : Knowledge) (origin : ℕ) → early (union a b) origin
    ≡ filter (nat_lt (prefix (union a b) origin)) (distinct nat_cmp (early a origin ++ early b origin))
united_early a b origin =
    same_numbers (early (union a b) origin) (filter (nat_lt upto) (distinct nat_cmp both)) (early_rise (union a b) origin)
    (filter_rises nat_cmp (nat_lt upto) (distinct nat_cmp both) (distinct-rises nat_cmp_total both)) to back
  where
    upto : ℕ
    upto = prefix (union a b) origin

    both : List ℕ
    both = early a origin ++ early b origin

    to : (n : ℕ) → Member (early (union a b) origin) n → Member (filter (nat_lt upto) (distinct nat_cmp both)) n
    to n m =
        let found = early_known (union a b) origin n m in
        let left : prefix a origin ≤ upto = left_shorter a b origin in
        let right : prefix b origin ≤ upto = right_shorter a b origin in
        let high : upto < n = found.1 in
        member_filter (nat_lt upto) (distinct nat_cmp both) n
        ((distinct_in (early a origin) (early b origin) n).1 (elim (either_known a b (origin, n) found.0) [
          | inl known ↦ inl (is_early a origin n known (omega (arith, left, high)))
          | inr known ↦ inr (is_early b origin n known (omega (arith, right, high)))
        ])) (of_below upto n high)

    back : (n : ℕ) → Member (filter (nat_lt upto) (distinct nat_cmp both)) n → Member (early (union a b) origin) n
    back n m =
        let found = filter_member (nat_lt upto) (distinct nat_cmp both) n m in
        is_early (union a b) origin n
        (elim ((distinct_in (early a origin) (early b origin) n).0 found.0) [
          | inl left ↦ left_known a b (origin, n) (early_known a origin n left).0
          | inr right ↦ right_known a b (origin, n) (early_known b origin n right).0
        ]) (below_of upto n found.1)

-- the origins are those of either side
pub united_origins : (a b : Knowledge) → origins (union a b) ≡ distinct nat_cmp (origins a ++ origins b)
united_origins a b =
    same_numbers (origins (union a b)) (distinct nat_cmp (origins a ++ origins b)) (origins_rise (union a b))
    (distinct-rises nat_cmp_total (origins a ++ origins b)) to back
  where
    to : (o : ℕ) → Member (origins (union a b)) o → Member (distinct nat_cmp (origins a ++ origins b)) o
    to o m =
        let found = (origins_are (union a b) o).0 (to_contains (origins (union a b)) o m) in
        (distinct_in (origins a) (origins b) o).1 (elim (either_known a b (o, found.0) found.1) [
          | inl known ↦ inl (from_contains (origins a) o ((origins_are a o).1 (found.0, known)))
          | inr known ↦ inr (from_contains (origins b) o ((origins_are b o).1 (found.0, known)))
        ])

    back : (o : ℕ) → Member (distinct nat_cmp (origins a ++ origins b)) o → Member (origins (union a b)) o
    back o m =
        from_contains (origins (union a b)) o ((origins_are (union a b) o).1 (elim ((distinct_in (origins a) (origins b) o).0 m) [
          | inl left ↦ let found = (origins_are a o).0 (to_contains (origins a) o left) in (found.0, left_known a b (o, found.0) found.1)
          | inr right ↦ let found = (origins_are b o).0 (to_contains (origins b) o right) in (found.0, right_known a b (o, found.0) found.1)
        ]))

flat_map_on : {X Y : Type 0} (f : X → List Y) (xs ys : List X) → flat_map f (xs ++ ys) ≡ flat_map f xs ++ flat_map f ys
flat_map_on f [] ys = refl
flat_map_on f (x ∷ xs) ys = ap (λ zs. f x ++ zs) (flat_map_on f xs ys) ∙ sym (append_assoc (f x) (flat_map f xs) (flat_map f ys))

-- the rows of an origin are those up to a number within its prefix, and those of the batches that follow
pub rows_from : (world : World) (knowledge : Knowledge) (origin p : ℕ) → p ≤ prefix knowledge origin
    → origin_rows world knowledge origin ≡ flat_map (batch_rows world origin) (count_up 1 p)
    ++ flat_map (batch_rows world origin) (count_up (p + 1) (prefix knowledge origin - p))
rows_from world knowledge origin p within =
    ap (λ n. flat_map (batch_rows world origin) (count_up 1 n)) whole
    ∙ ap (flat_map (batch_rows world origin)) (counted_on 1 p (prefix knowledge origin - p)
    ∙ ap (λ n. count_up 1 p ++ count_up n (prefix knowledge origin - p)) next)
    ∙ flat_map_on (batch_rows world origin) (count_up 1 p) (count_up (p + 1) (prefix knowledge origin - p))
  where
    whole : prefix knowledge origin ≡ p + (prefix knowledge origin - p)
    whole = omega (arith, within)

    next : 1 + p ≡ p + 1
    next = omega arith

-- the rows of a union are those of a side, and those of the batches that follow its prefix
pub united_rows : (world : World) (a b : Knowledge) (origin : ℕ)
    → origin_rows world (union a b) origin ≡ origin_rows world a origin
    ++ flat_map (batch_rows world origin) (count_up (prefix a origin + 1) (prefix (union a b) origin - prefix a origin))
united_rows world a b origin = rows_from world (union a b) origin (prefix a origin) (left_shorter a b origin)
