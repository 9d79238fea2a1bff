-- Groups that are added to parts of a run.
use Rattle.std.specs.Prelude.{◌≡◌, refl, ℕ, ◌+◌, ◌≤◌, true, false, cond, List, [], ◌∷◌, ◌++◌, length, find, Some, option_map}
use Rattle.std.proofs.Common.{sym, ◌∙◌, ap, subst, arith}
use Rattle.std.proofs.lemmas.List.{length-map}
use Rattle.std.specs.declared.cmp.Ordering.TheVariants.{Less, Equal, Greater}
use Rattle.std.specs.Ordering.{match_ordering, is_eq, nat_cmp, ordering_reverse}
use Rattle.std.specs.Cmp.Lexicographic.{slice_cmp}
use Rattle.std.specs.List.{AllByRecursion}
use Rattle.std.specs.List.Sorted.{IsStrictlySortedBy}
use Rattle.std.specs.BTreeMap.{insert_entry}
use Rattle.group_runs.proofs.Words.{each_weaker, Row, row_cmp, same_row, Partial, Query, Group, keys_of, partials_at, key_kinds, Entry}
use Rattle.group_runs.proofs.Words.{packed_keys, Rises, AreGroups, merged, group_added, groups_added, HasRoomForRun, AddsRun, AreBefore}
use Rattle.grouping_model.specs.DatumOrderLaws.{row_cmp_total}
use Rattle.group_runs.specs.StandingLaws.{groups_raised, groups_long, keys_packed, keys_of_kinds}
use Rattle.group_runs.specs.MergeLaws.{puts_rise, keys_of-groups_added}
use Rattle.group_runs.specs.Lemmas.MergeLaws.{puts_long}
use Rattle.group_runs.specs.Lemmas.RunLaws.{rises_keys}
use Rattle.group_runs.specs.Lemmas.SpliceLaws.{packed_rise}
use Rattle.group_runs.proofs.SpliceLaws.{AllBelow, inserted_behind, found_behind, parted, together, groups_below}

-- ---- groups before others

-- each of the first groups has a key below that of each of the others
abbrev pub GroupsBefore : List Group → List Group → Type 0
GroupsBefore groups others = AllByRecursion (λ (h : Group). AllBelow h.0 groups) others

-- each of these groups has a key above this one
abbrev pub AllPast : Row → List Group → Type 0
AllPast key groups = AllByRecursion (λ (h : Group). row_cmp h.0 key ≡ Greater) groups

pub groups_before : (q : Query) (m n : ℕ) (xs ys : List Entry) (gs hs : List Group) → AreGroups q m xs gs → AreGroups q n ys hs
    → AreBefore xs ys → GroupsBefore gs hs
groups_before q m n xs [] gs [] are more before = tt
groups_before q m n xs (e ∷ ys) gs (h ∷ hs) are (first, more) (low, before) = (
  groups_below q m n e.0 h first.key first.of_kinds xs gs are
      low,
  groups_before q m n xs ys gs hs are more before,
)
groups_before q m n xs _ gs _ are more before = absurd more

inserted_before : (key : Row) (ps : List Partial) (front back : List Group) → AllPast key back → insert_entry row_cmp (front ++ back) key ps
    ≡ insert_entry row_cmp front key ps ++ back
inserted_before key ps [] [] past = refl
inserted_before key ps [] (h ∷ back) (first, past) =
    ap (λ r. match_ordering r ((key, ps) ∷ h ∷ back) ((h.0, ps) ∷ back) (h ∷ insert_entry row_cmp back key ps))
    (row_cmp_total.antisymm key h.0 ∙ ap ordering_reverse first)
inserted_before key ps (g ∷ front) back past =
    elim (row_cmp key g.0) as (λ r. match_ordering r ((key, ps) ∷ g ∷ front ++ back) ((g.0, ps) ∷ front ++ back) (g
    ∷ insert_entry row_cmp (front ++ back) key ps) ≡ match_ordering r ((key, ps) ∷ g ∷ front) ((g.0, ps) ∷ front) (g
    ∷ insert_entry row_cmp front key ps) ++ back) [
      | Less ↦ refl
      | Equal ↦ refl
      | Greater ↦ ap (λ gs. g ∷ gs) (inserted_before key ps front back past)
    ]

found_before : (key : Row) (front back : List Group) → AllPast key back → partials_at key (front ++ back) ≡ partials_at key front
found_before key [] [] past = refl
found_before key [] (h ∷ back) (first, past) =
    ap (λ b. option_map (λ (group : Group). group.1) (cond b (Some h) (find (λ (group : Group). same_row group.0 key) back)))
    (ap is_eq first)
    ∙ found_before key [] back past
found_before key (g ∷ front) back past =
    elim (same_row g.0 key) as (λ b. option_map (λ (group : Group). group.1)
    (cond b (Some g) (find (λ (group : Group). same_row group.0 key) (front ++ back)))
    ≡ option_map (λ (group : Group). group.1) (cond b (Some g) (find (λ (group : Group). same_row group.0 key) front))) [
      | true ↦ refl
      | false ↦ found_before key front back past
    ]

-- groups that come before some stay before them
groups_added_before : (q : Query) (front back more : List Group) → GroupsBefore more back → groups_added q (front ++ back) more
    ≡ groups_added q front more ++ back
groups_added_before q front back [] before = refl
groups_added_before q front back (g ∷ more) before =
    let past : AllPast g.0 back = each_weaker (λ (h : Group). AllBelow h.0 (g ∷ more)) (λ (h : Group). row_cmp h.0 g.0 ≡ Greater)
    (λ h both. both.0) back before in
    let rest : GroupsBefore more back = each_weaker (λ (h : Group). AllBelow h.0 (g ∷ more)) (λ (h : Group). AllBelow h.0 more)
    (λ h both. both.1) back before in
    ap (λ gs. groups_added q gs more) (ap (λ o. insert_entry row_cmp (front ++ back) g.0 (merged q o g.1))
    (found_before g.0 front back past) ∙ inserted_before g.0 (merged q (partials_at g.0 front) g.1) front back past)
    ∙ groups_added_before q (group_added q front g) back more rest

-- those that come behind some leave them
groups_added_behind : (q : Query) (front back more : List Group) → GroupsBefore front more → groups_added q (front ++ back) more ≡ front
    ++ groups_added q back more
groups_added_behind q front back [] before = refl
groups_added_behind q front back (g ∷ more) (low, before) =
    ap (λ gs. groups_added q gs more) (ap (λ o. insert_entry row_cmp (front ++ back) g.0 (merged q o g.1)) (found_behind g.0 front back low)
    ∙ inserted_behind g.0 (merged q (partials_at g.0 back) g.1) front back low)
    ∙ groups_added_behind q front (group_added q back g) more before

groups_added_append : (q : Query) (gs more others : List Group) → groups_added q gs (more ++ others)
    ≡ groups_added q (groups_added q gs more) others
groups_added_append q gs [] others = refl
groups_added_append q gs (g ∷ more) others = groups_added_append q (group_added q gs g) more others

all_inserted : (P : Row → Type 0) (key : Row) (ps : List Partial) (gs : List Group) → P key → AllByRecursion (λ (g : Group). P g.0) gs
    → AllByRecursion (λ (g : Group). P g.0) (insert_entry row_cmp gs key ps)
all_inserted P key ps [] here all = (here, tt)
all_inserted P key ps (g ∷ gs) here (first, all) =
    elim (row_cmp key g.0) as (λ r. AllByRecursion (λ (g : Group). P g.0) (match_ordering r ((key, ps) ∷ g ∷ gs) ((g.0, ps) ∷ gs) (g
    ∷ insert_entry row_cmp gs key ps))) [
      | Less ↦ (here, (first, all))
      | Equal ↦ (first, all)
      | Greater ↦ (first, all_inserted P key ps gs here all)
    ]

below_added : (q : Query) (key : Row) (gs more : List Group) → AllBelow key gs → AllBelow key more → AllBelow key (groups_added q gs more)
below_added q key gs [] below all = below
below_added q key gs (g ∷ more) below (first, all) = below_added q key (group_added q gs g) more
    (all_inserted (λ row. row_cmp key row ≡ Greater) g.0 (merged q (partials_at g.0 gs) g.1) gs first below) all

added_before : (q : Query) (gs more others : List Group) → GroupsBefore gs others → GroupsBefore more others
    → GroupsBefore (groups_added q gs more) others
added_before q gs more [] before all = tt
added_before q gs more (h ∷ others) (low, before) (first, all) = (
  below_added q h.0 gs more low first,
  added_before q gs more others before
      all,
)

-- ---- two parts of a run

-- what comes to each of two parts comes to both
pub adds_both : (q : Query) (old more new old' more' new' : List Entry) → AreBefore old more' → AreBefore more old' → AreBefore more more'
    → AddsRun q old more new → AddsRun q old' more' new' → AddsRun q (old ++ old') (more ++ more') (new ++ new')
adds_both q old more new old' more' new' low high apart adds adds' =
    λ m n groups others few are given.
    let two = parted q m old old' groups are in
    let come = parted q n more more' others given in
    let front : List Group = groups_added q two.before come.before in
    let whole : groups_added q groups others ≡ front ++ groups_added q two.after come.after =
    (λ i. groups_added q (two.is i) (come.is i))
    ∙ groups_added_append q (two.before ++ two.after) come.before come.after
    ∙ ap (λ gs. groups_added q gs come.after) (groups_added_before q two.before two.after come.before
    (groups_before q n m more old' come.before two.after come.front_are two.back_are high))
    ∙ groups_added_behind q front two.after come.after
    (added_before q two.before come.before come.after (groups_before q m n old more' two.before come.after two.front_are come.back_are low)
    (groups_before q n n more more' come.before come.after come.front_are come.back_are apart)) in
    subst (AreGroups q (m + n) (new ++ new')) (sym whole)
    (together q (m + n) new new' front (groups_added q two.after come.after) (adds m n two.before come.before few two.front_are
    come.front_are) (adds' m n two.after come.after few two.back_are come.back_are))

-- where nothing comes, all stays
pub adds_nothing : (q : Query) (run : List Entry) → AddsRun q run [] run
adds_nothing q run = λ m n groups more few are new. stays m n groups more are new
  where
    stays : (m n : ℕ) (groups more : List Group) → AreGroups q m run groups → AreGroups q n [] more
        → AreGroups q (m + n) run (groups_added q groups more)
    stays m n groups [] are new = groups_raised q m (m + n) run groups (omega arith) are
    stays m n groups (g ∷ more) are new = absurd new

-- the front of a run that rises is before its back
pub rises_before : (xs ys : List Entry) → Rises (xs ++ ys) → AreBefore xs ys
unfolding IsStrictlySortedBy
rises_before [] ys rises = none_before ys
  where
    none_before : (ys : List Entry) → AreBefore [] ys
    none_before [] = tt
    none_before (e ∷ ys) = (tt, none_before ys)
rises_before (x ∷ xs) ys (above, rises) = both ys (back xs above) (rises_before xs ys rises)
  where
    back : (zs : List Entry) → AllByRecursion (λ z. slice_cmp nat_cmp x.0 z ≡ Less) (packed_keys (zs ++ ys))
        → AllByRecursion (λ z. slice_cmp nat_cmp x.0 z ≡ Less) (packed_keys ys)
    back [] all = all
    back (z ∷ zs) (first, all) = back zs all

    both : (es : List Entry) → AllByRecursion (λ z. slice_cmp nat_cmp x.0 z ≡ Less) (packed_keys es) → AreBefore xs es
        → AreBefore (x ∷ xs) es
    both [] all before = tt
    both (e ∷ es) (first, all) (low, before) = ((first, low), both es all before)

-- what comes to no groups is what comes
pub adds_all : (q : Query) (run : List Entry) → Rises run → AddsRun q [] run run
unfolding IsStrictlySortedBy
adds_all q run rises = λ m n groups more few are new. of_none m n groups more are new
  where
    as_it_is : (n : ℕ) (run : List Entry) (more : List Group) → Rises run → AreGroups q n run more → groups_added q [] more ≡ more
    as_it_is n [] [] rises new = refl
    as_it_is n (e ∷ run) (g ∷ more) (above, rises) (first, new) =
        groups_added_behind q (g ∷ []) [] more (groups_before q n n (e ∷ []) run (g ∷ []) more (first, tt) new
        (rises_before (e ∷ []) run (above, rises)))
        ∙ ap (λ gs. g ∷ gs) (as_it_is n run more rises new)
    as_it_is n _ _ rises new = absurd new

    of_none : (m n : ℕ) (groups more : List Group) → AreGroups q m [] groups → AreGroups q n run more
        → AreGroups q (m + n) run (groups_added q groups more)
    of_none m n [] more are new = subst (AreGroups q (m + n) run) (sym (as_it_is n run more rises new))
        (groups_raised q n (m + n) run more (omega arith) new)
    of_none m n (g ∷ groups) more are new = absurd are

-- ---- a run that more groups came to

pub added_rises : (q : Query) (old more new : List Entry) → Rises old → HasRoomForRun q old more → AddsRun q old more new → Rises new
added_rises q old more new rises r adds =
    packed_rise q (r.0 + r.1) new (groups_added q r.2 r.3) (adds r.0 r.1 r.2 r.3 r.7 r.4 r.5)
    (subst (IsStrictlySortedBy row_cmp) (sym (keys_of-groups_added q r.2 r.3))
    (puts_rise (keys_of r.2) (keys_of r.3)
    (rises_keys (key_kinds q) (keys_of r.2) (keys_of_kinds q r.0 old r.2 r.4)
    (subst (IsStrictlySortedBy (slice_cmp nat_cmp)) (keys_packed q r.0 old r.2 r.4) rises))))

pub added_few : (q : Query) (old more new : List Entry) → HasRoomForRun q old more → AddsRun q old more new → length new ≤ length old
    + length more
added_few q old more new r adds =
    let all = groups_long q (r.0 + r.1) new (groups_added q r.2 r.3) (adds r.0 r.1 r.2 r.3 r.7 r.4 r.5) in
    let first = groups_long q r.0 old r.2 r.4 in
    let second = groups_long q r.1 more r.3 r.5 in
    let here = length-map (groups_added q r.2 r.3) (λ (g : Group). g.0) in
    let there = length-map r.2 (λ (g : Group). g.0) in
    let others = length-map r.3 (λ (g : Group). g.0) in
    let keys = ap length (keys_of-groups_added q r.2 r.3) in
    let few = puts_long (keys_of r.2) (keys_of r.3) in
    omega (arith, all, first, second, here, there, others, keys, few)

-- parts of a run have room for parts of what comes to it
pub room_part : (q : Query) (front segment back front' part back' : List Entry) → HasRoomForRun q (front ++ (segment ++ back)) (front'
    ++ (part ++ back')) → Rises part → HasRoomForRun q segment part
room_part q front segment back front' part back' r rises =
    let old = parted q r.0 front (segment ++ back) r.2 r.4 in
    let old' = parted q r.0 segment back old.after old.back_are in
    let more = parted q r.1 front' (part ++ back') r.3 r.5 in
    let more' = parted q r.1 part back' more.after more.back_are in
    (r.0, r.1, old'.before, more'.before, old'.front_are, more'.front_are, rises, r.7)
