-- What parts tell: which batches are known, the prefixes, the early numbers, the origins.
use Rattle.std.specs.Prelude.{◌≡◌, ◌≢◌, refl, ℕ, zero, suc, ◌+◌, ◌<◌, ◌≤◌, ◌⊎◌, ◌↔◌, ◌||◌, ◌&&◌, nat_le, nat_lt, Bool, true, false, List}
use Rattle.std.specs.Prelude.{[], ◌∷◌, ◌++◌, map, flat_map, Option, Some, None, unwrap_or, IsTrue}
use Rattle.std.proofs.Common.{◌∙◌, sym, ap, subst, inl, inr, arith}
use Rattle.std.proofs.lemmas.Bool.{true≢false, cases_lt, and_right, or_right}
use Rattle.std.proofs.Math.Bool.{and-false, or-false, and-or_distrib_left}
use Rattle.std.proofs.lemmas.Map.Made.{is_some-lookup}
use Rattle.std.specs.Option.{is_some}
use Rattle.std.specs.List.{AllByRecursion}
use Rattle.std.specs.List.Sorted.{IsStrictlySortedBy}
use Rattle.std.specs.declared.cmp.Ordering.{Ordering}
use Rattle.std.specs.declared.cmp.Ordering.TheVariants.{Less, Equal, Greater}
use Rattle.std.specs.Ordering.{eq_by_cmp, nat_cmp, is_eq, ordering_then}
use Rattle.std.specs.Cmp.{nat_cmp_total}
use Rattle.std.specs.FinMap.{nat_cmp-IsAntisymmetric}
use Rattle.grouping_model.specs.Rising.{is_among}
use Rattle.grouping_model.specs.Rising.Facts.{among-append, same_members}
use Rattle.replica_merge.specs.Lemmas.Words.{of_origin, known_list, batch_cmp, knows, prefix, early, origins, count_up, kinds, Checked}
use Rattle.replica_merge.specs.Lemmas.Words.{each_both}
use Rattle.replica_merge.specs.Lemmas.Words.{Part, empty, rows_at, tells, IsEarly, IsPartOf, Parts, part_at, part_of, batches_of, told}
use Rattle.replica_merge.specs.Lemmas.Words.{IsHeldPart, AreHeldParts, known_part}
use Rattle.grouping_model.specs.MemberLaws.{Member, from_contains, to_contains, among_member}
use Rattle.grouping_model.specs.KnowledgeLaws.{knows_knowing}
use Rattle.grouping_model.specs.EarlyLaws.{early_are, early_rise, origins_are, origins_rise}
use Rattle.grouping_model.specs.Lemmas.LearningLaws.{prefix_is}
use Rattle.std.specs.Map.{lookup}
use Rattle.origin_prefix.specs.Lemmas.Lists.{is_itself, is_other, same_or_other}
use Rattle.origin_prefix.specs.Lemmas.ByNumber.{numbers, at_head, behind_head, found_holds, none_found, rising_rest, first_alone, all_found}

-- ---- membership

both_equal : (a b : Ordering) → is_eq (ordering_then a b) ≡ (is_eq a && is_eq b)
both_equal Less b = refl
both_equal Equal b = refl
both_equal Greater b = refl

pub same_batch : (o n k m : ℕ) → eq_by_cmp batch_cmp (o, n) (k, m) ≡ (eq_by_cmp nat_cmp o k && eq_by_cmp nat_cmp n m)
same_batch o n k m = both_equal (nat_cmp o k) (nat_cmp n m)

-- among the numbered batches of an origin
pub among_numbered : (o n k : ℕ) (ns : List ℕ) → is_among batch_cmp (o, n) (map (λ (m : ℕ). (k, m)) ns)
    ≡ (eq_by_cmp nat_cmp o k && is_among nat_cmp n ns)
among_numbered o n k [] = sym (and-false (eq_by_cmp nat_cmp o k))
among_numbered o n k (m ∷ ns) =
    (λ i. same_batch o n k m i || among_numbered o n k ns i)
    ∙ sym (and-or_distrib_left (eq_by_cmp nat_cmp o k) (eq_by_cmp nat_cmp n m) (is_among nat_cmp n ns))

-- among the numbers that are counted
pub among_counted : (n first k : ℕ) → is_among nat_cmp n (count_up first k) ≡ (nat_le first n && nat_lt n (first + k))
among_counted n first zero =
    elim (cases_lt n first) [
      | inl below ↦ let low : nat_le first n ≡ false = grind arith in sym (ap (λ b. b && nat_lt n (first + 0)) low)
      | inr above ↦
          let low : nat_le first n ≡ true = grind arith in
          let high : nat_lt n (first + 0) ≡ false = grind arith in
          sym (λ i. low i && high i)
    ]
among_counted n first (suc k) =
    ap (λ b. eq_by_cmp nat_cmp n first || b) (among_counted n (first + 1) k) ∙ go (same_or_other n first)
  where
    go : (n ≡ first) ⊎ (n ≢ first) → (eq_by_cmp nat_cmp n first || (nat_le (first + 1) n && nat_lt n (first + 1 + k)))
        ≡ (nat_le first n && nat_lt n (first + suc k))
    go (inl same) =
        let low : nat_le first n ≡ true = grind arith in
        let high : nat_lt n (first + suc k) ≡ true = grind arith in
        ap (λ b. b || (nat_le (first + 1) n && nat_lt n (first + 1 + k))) (ap (eq_by_cmp nat_cmp n) (sym same) ∙ is_itself n)
        ∙ sym (λ i. low i && high i)
    go (inr other) =
        let same_high : nat_lt n (first + 1 + k) ≡ nat_lt n (first + suc k) = ap (nat_lt n) (let e : first + 1 + k ≡ first
        + suc k = omega arith in e) in
        let same_low : nat_le (first + 1) n ≡ nat_le first n =
        elim (cases_lt first n) [
          | inl above ↦ let one : nat_le (first + 1) n ≡ true = grind arith in let two : nat_le first n ≡ true = grind arith in one
              ∙ sym two
          | inr below ↦
              let apart : n < first = elim (cases_lt n first) [ inl l ↦ l | inr h ↦ absurd (other (omega (arith, below, h))) ] in
              let one : nat_le (first + 1) n ≡ false = grind arith in let two : nat_le first n ≡ false = grind arith in one ∙ sym two
        ] in
        ap (λ b. b || (nat_le (first + 1) n && nat_lt n (first + 1 + k))) (is_other n first other) ∙ (λ i. same_low i && same_high i)

-- among the batches that a part tells
among_part : (o n : ℕ) (held : ℕ × Part) → is_among batch_cmp (o, n) (batches_of held) ≡ (eq_by_cmp nat_cmp o held.0 && tells held.1 n)
among_part o n held =
    among_numbered o n held.0 (count_up 1 held.1.prefix ++ numbers held.1.early)
    ∙ ap (λ b. eq_by_cmp nat_cmp o held.0 && b)
    (among-append nat_cmp n (count_up 1 held.1.prefix) (numbers held.1.early)
    ∙ ap (λ b. b || is_among nat_cmp n (numbers held.1.early)) (among_counted n 1 held.1.prefix ∙ within)
    ∙ ap (λ b. (nat_le 1 n && nat_le n held.1.prefix) || b) (sym (is_some-lookup (eq_by_cmp nat_cmp n) held.1.early)))
  where
    within : (nat_le 1 n && nat_lt n (1 + held.1.prefix)) ≡ (nat_le 1 n && nat_le n held.1.prefix)
    within = ap (λ b. nat_le 1 n && b) (elim (cases_lt held.1.prefix n) [
      | inl above ↦ let one : nat_lt n (1 + held.1.prefix) ≡ false = grind arith in let two : nat_le n held.1.prefix
          ≡ false = grind arith in one ∙ sym two
      | inr below ↦ let one : nat_lt n (1 + held.1.prefix) ≡ true = grind arith in let two : nat_le n held.1.prefix
          ≡ true = grind arith in one ∙ sym two
    ])

pub empty_tells : (n : ℕ) → tells empty n ≡ false
empty_tells n =
    elim (cases_lt 0 n) [
      | inl some ↦ let one : nat_le n 0 ≡ false = grind arith in ap (λ b. b || false) (and_right (nat_le 1 n) (nat_le n 0) one)
      | inr none_is ↦ let one : nat_le 1 n ≡ false = grind arith in ap (λ b. (b && nat_le n 0) || false) one
    ]

-- a batch is told exactly where the part of its origin tells its number
pub told_is : (parts : Parts) → IsStrictlySortedBy nat_cmp (numbers parts) → (o n : ℕ) → knows (told parts) (o, n)
    ≡ tells (part_of parts o) n
told_is parts rising o n = knows_knowing (flat_map batches_of parts) (o, n) ∙ among parts rising
  where
    among : (ps : Parts) → IsStrictlySortedBy nat_cmp (numbers ps) → is_among batch_cmp (o, n) (flat_map batches_of ps)
        ≡ tells (part_of ps o) n
    among [] rise = sym (empty_tells n)
    among (held ∷ ps) rise =
        among-append batch_cmp (o, n) (batches_of held) (flat_map batches_of ps)
        ∙ (λ i. among_part o n held i || among ps (rising_rest held ps rise) i)
        ∙ go (same_or_other o held.0)
      where
        go : (o ≡ held.0) ⊎ (o ≢ held.0) → ((eq_by_cmp nat_cmp o held.0 && tells held.1 n) || tells (part_of ps o) n)
            ≡ tells (part_of (held ∷ ps) o) n
        go (inl same) =
            let alone : part_at ps o ≡ None = ap (part_at ps) same ∙ first_alone held.0 held.1 ps rise in
            let here : part_at (held ∷ ps) o ≡ Some held.1 = ap (part_at (held ∷ ps)) same ∙ at_head held.0 held.1 ps in
            (λ i. (eq_by_cmp nat_cmp o (sym same i) && tells held.1 n) || tells (unwrap_or (alone i) empty) n)
            ∙ (λ i. (is_itself o i && tells held.1 n) || empty_tells n i)
            ∙ or-false (tells held.1 n)
            ∙ sym (ap (λ found. tells (unwrap_or found empty) n) here)
        go (inr other) =
            ap (λ b. (b && tells held.1 n) || tells (part_of ps o) n) (is_other o held.0 other)
            ∙ sym (ap (λ found. tells (unwrap_or found empty) n) (behind_head o held.0 held.1 ps other))

-- ---- prefixes, early numbers, origins

-- a part has a gap after its prefix
abbrev pub HasGap : Part → Type 0
HasGap p = tells p (p.prefix + 1) ≡ false

pub part_gap : (query : Checked) (p : Part) → IsPartOf query p → HasGap p
part_gap query p is =
    let none = none_found (IsEarly (kinds query.columns) p.prefix) p.early (p.prefix + 1) is.early
    (λ rows e. let low = e.behind in omega (arith, low)) in
    let over : nat_le (p.prefix + 1) p.prefix ≡ false = grind arith in
    (λ i. and_right (nat_le 1 (p.prefix + 1)) (nat_le (p.prefix + 1) p.prefix) over i || is_some (none i))

pub prefix_told : (parts : Parts) → IsStrictlySortedBy nat_cmp (numbers parts) → (o : ℕ) → HasGap (part_of parts o) → prefix (told parts) o
    ≡ (part_of parts o).prefix
prefix_told parts rising o gap =
    prefix_is (told parts) o (part_of parts o).prefix
    (λ n low high.
    let one : nat_le 1 n ≡ true = grind arith in
    let two : nat_le n (part_of parts o).prefix ≡ true = grind arith in
    told_is parts rising o n ∙ (λ i. (one i && two i) || is_some (lookup_early n)))
    (told_is parts rising o ((part_of parts o).prefix + 1) ∙ gap)
  where
    lookup_early : (n : ℕ) → Option (List (List ℕ))
    lookup_early n = rows_at (part_of parts o).early n

-- two truth values that follow from each other are the same
pub alike : (a b : Bool) → (a ≡ true → b ≡ true) → (b ≡ true → a ≡ true) → a ≡ b
alike true b to back = sym (to refl)
alike false true to back = back refl
alike false false to back = refl

among_is : (xs : List ℕ) (n : ℕ) → (is_among nat_cmp n xs ≡ true) ↔ Member xs n
among_is xs n = among_member nat_cmp_total nat_cmp-IsAntisymmetric xs n

pub early_told : (query : Checked) (parts : Parts) → IsStrictlySortedBy nat_cmp (numbers parts) → (o : ℕ) (p : Part) → part_of parts o ≡ p
    → IsPartOf query p → early (told parts) o ≡ numbers p.early
early_told query parts rising o p here is =
    same_members nat_cmp_total nat_cmp-IsAntisymmetric (early (told parts) o) (numbers p.early) (early_rise (told parts) o) is.rising
    (λ n. alike (is_among nat_cmp n (early (told parts) o)) (is_among nat_cmp n (numbers p.early)) (to n) (back n))
  where
    upto : prefix (told parts) o ≡ p.prefix
    upto = prefix_told parts rising o (subst HasGap (sym here) (part_gap query p is)) ∙ ap (λ (q : Part). q.prefix) here

    tells_here : (n : ℕ) → knows (told parts) (o, n) ≡ tells p n
    tells_here n = told_is parts rising o n ∙ ap (λ (q : Part). tells q n) here

    behind : (n : ℕ) → p.prefix < n → tells p n ≡ is_some (rows_at p.early n)
    behind n low =
        let over : nat_le n p.prefix ≡ false = grind arith in
        ap (λ b. b || is_some (rows_at p.early n)) (and_right (nat_le 1 n) (nat_le n p.prefix) over)

    to : (n : ℕ) → is_among nat_cmp n (early (told parts) o) ≡ true → is_among nat_cmp n (numbers p.early) ≡ true
    to n e =
        let found = (early_are (told parts) o n).0 (to_contains (early (told parts) o) n ((among_is (early (told parts) o) n).0 e)) in
        let low : p.prefix < n = subst (λ m. m < n) upto found.1 in
        sym (is_some-lookup (eq_by_cmp nat_cmp n) p.early) ∙ sym (behind n low) ∙ sym (tells_here n) ∙ found.0

    back : (n : ℕ) → is_among nat_cmp n (numbers p.early) ≡ true → is_among nat_cmp n (early (told parts) o) ≡ true
    back n e =
        let there : is_some (rows_at p.early n) ≡ true = is_some-lookup (eq_by_cmp nat_cmp n) p.early ∙ e in
        let low : p.prefix < n = found_above (rows_at p.early n) refl there in
        (among_is (early (told parts) o) n).1 (from_contains (early (told parts) o) n
        ((early_are (told parts) o n).1 (tells_here n ∙ behind n low ∙ there, subst (λ m. m < n) (sym upto) low)))
      where
        found_above : (found : Option (List (List ℕ))) → rows_at p.early n ≡ found → is_some found ≡ true → p.prefix < n
        found_above None e there = absurd (true≢false (sym there))
        found_above (Some rows) e there = let gap = (found_holds (IsEarly (kinds query.columns) p.prefix) p.early n rows is.early e).behind
            in omega (arith, gap)

-- a part that tells something has a number that it tells
pub some_told : (query : Checked) (o : ℕ) (p : Part) → IsHeldPart query (o, p) → (n : ℕ) × (1 ≤ n) × (tells p n ≡ true)
some_told query o p held = go held.some
  where
    of_early : (es : List (ℕ × List (List ℕ))) → AllByRecursion (IsEarly (kinds query.columns) p.prefix) es → es ≢ []
        → (e : ℕ × List (List ℕ)) × (1 ≤ e.0) × ((rest : List (ℕ × List (List ℕ))) × (es ≡ e ∷ rest))
    of_early [] all some = absurd (some refl)
    of_early (e ∷ es) all some = let low = all.0.behind in (e, omega (arith, low), (es, refl))

    go : (0 < p.prefix) ⊎ (p.early ≢ []) → (n : ℕ) × (1 ≤ n) × (tells p n ≡ true)
    go (inl low) = let two : nat_le 1 p.prefix ≡ true = grind arith in (1, omega arith, ap (λ b. b || is_some (rows_at p.early 1)) two)
    go (inr some) =
        let first = of_early p.early held.part.early some in
        let there : rows_at p.early first.0.0 ≡ Some first.0.1 = ap (λ es. rows_at es first.0.0) first.2.1
        ∙ at_head first.0.0 first.0.1 first.2.0 in (
          first.0.0,
          first.1,
          or_right (nat_le 1 first.0.0 && nat_le first.0.0 p.prefix) (is_some (rows_at p.early first.0.0))
              (ap is_some there),
        )

pub origins_told : (query : Checked) (parts : Parts) → AreHeldParts query parts → origins (told parts) ≡ numbers parts
origins_told query parts held =
    same_members nat_cmp_total nat_cmp-IsAntisymmetric (origins (told parts)) (numbers parts) (origins_rise (told parts)) held.rising
    (λ o. alike (is_among nat_cmp o (origins (told parts))) (is_among nat_cmp o (numbers parts)) (to o) (back o))
  where
    of_found : (o : ℕ) (found : Option Part) → part_at parts o ≡ found → (n : ℕ) → knows (told parts) (o, n) ≡ true → is_some found ≡ true
    of_found o (Some p) e n known = refl
    of_found o None e n known =
        absurd (true≢false (sym known ∙ told_is parts held.rising o n ∙ ap (λ f. tells (unwrap_or f empty) n) e ∙ empty_tells n))

    to : (o : ℕ) → is_among nat_cmp o (origins (told parts)) ≡ true → is_among nat_cmp o (numbers parts) ≡ true
    to o e =
        let found = (origins_are (told parts) o).0 (to_contains (origins (told parts)) o ((among_is (origins (told parts)) o).0 e)) in
        sym (is_some-lookup (eq_by_cmp nat_cmp o) parts) ∙ of_found o (part_at parts o) refl found.0 found.1

    of_part : (o : ℕ) (found : Option Part) → part_at parts o ≡ found → is_some found ≡ true → (n : ℕ) × IsTrue (knows (told parts) (o, n))
    of_part o None e there = absurd (true≢false (sym there))
    of_part o (Some p) e there =
        let some = some_told query o p (found_holds (IsHeldPart query) parts o p held.each e) in
        (some.0, told_is parts held.rising o some.0 ∙ ap (λ f. tells (unwrap_or f empty) some.0) e ∙ some.2)

    back : (o : ℕ) → is_among nat_cmp o (numbers parts) ≡ true → is_among nat_cmp o (origins (told parts)) ≡ true
    back o e =
        (among_is (origins (told parts)) o).1 (from_contains (origins (told parts)) o
        ((origins_are (told parts) o).1 (of_part o (part_at parts o) refl (is_some-lookup (eq_by_cmp nat_cmp o) parts ∙ e))))

-- each part is the one of its origin
pub each_at : {X : Type 0} (es : List (ℕ × X)) → IsStrictlySortedBy nat_cmp (numbers es)
    → AllByRecursion (λ (e : ℕ × X). lookup (eq_by_cmp nat_cmp e.0) es ≡ Some e.1) es
each_at {X} es rising = all_found (λ (e : ℕ × X). lookup (eq_by_cmp nat_cmp e.0) es ≡ Some e.1) es rising (λ n x there. there)

pub map_same : {X Y : Type 0} (f : ℕ → Y) (g : ℕ × X → Y) (es : List (ℕ × X)) → AllByRecursion (λ (e : ℕ × X). f e.0 ≡ g e) es
    → map f (numbers es) ≡ map g es
map_same f g [] all = refl
map_same f g (e ∷ es) all = (λ i. all.0 i ∷ map_same f g es all.1 i)

-- what holds of the part that is there
pub part_here : (parts : Parts) (o : ℕ) (p : Part) → part_at parts o ≡ Some p → part_of parts o ≡ p
part_here parts o p there = ap (λ found. unwrap_or found empty) there

-- what is known is listed part by part
pub known_told : (query : Checked) (parts : Parts) → AreHeldParts query parts → known_list (told parts) ≡ map known_part parts
known_told query parts held =
    ap (map (of_origin (told parts))) (origins_told query parts held)
    ∙ map_same (of_origin (told parts)) known_part parts
    (each_both (IsHeldPart query) (λ (e : ℕ × Part). part_at parts e.0 ≡ Some e.1) (λ (e : ℕ × Part). of_origin (told parts) e.0
    ≡ known_part e)
    (λ e is there.
    let here : part_of parts e.0 ≡ e.1 = part_here parts e.0 e.1 there in
    let upto : prefix (told parts) e.0
    ≡ e.1.prefix = prefix_told parts held.rising e.0 (subst HasGap (sym here) (part_gap query e.1 is.part))
    ∙ ap (λ (q : Part). q.prefix) here in
    let numbers_are : early (told parts) e.0 ≡ numbers e.1.early = early_told query parts held.rising e.0 e.1 here is.part in
    (λ i. record { origin = e.0; upto = upto i; early = numbers_are i }))
    parts held.each (each_at parts held.rising))

-- ---- each part that is held

pub held_part : (query : Checked) (parts : Parts) → AreHeldParts query parts → (o : ℕ) (p : Part) → part_at parts o ≡ Some p
    → IsHeldPart query (o, p)
held_part query parts held o p there = found_holds (IsHeldPart query) parts o p held.each there
