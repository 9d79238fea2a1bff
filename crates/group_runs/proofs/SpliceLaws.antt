-- Groups that come to their place in a run.
use Rattle.std.specs.Prelude.{◌≡◌, refl, ℕ, ◌+◌, cond, List, [], ◌∷◌, ◌++◌, find, Some, None, option_map, IfSome}
use Rattle.std.proofs.Common.{sym, ◌∙◌, ap, subst, arith}
use Rattle.std.specs.declared.cmp.Ordering.TheVariants.{Less, Equal, Greater}
use Rattle.std.specs.Ordering.{match_ordering, is_eq, ordering_reverse}
use Rattle.std.specs.Cmp.{tied_itself}
use Rattle.std.specs.List.{AllByRecursion}
use Rattle.std.specs.BTreeMap.{insert_entry}
use Rattle.group_runs.proofs.Words.{Row, HasKinds, row_cmp, same_row, Partial, combine_all, Query, Group, functions, partials_at, AllWithin}
use Rattle.group_runs.proofs.Words.{key_kinds, Entry, StandsFor, AreGroups, merged, group_added, HasRoomForGroup, AddsGroup}
use Rattle.group_runs.proofs.Words.{HaveRoomForMore, CombineWith}
use Rattle.grouping_model.specs.DatumOrderLaws.{row_cmp_total}
use Rattle.grouping_model.specs.PartLaws.{same_row-swap}
use Rattle.packed_rows.specs.Packing.{packing}
use Rattle.group_runs.specs.Places as places
use Rattle.group_runs.specs.StandingLaws.{states_raised}
use Rattle.group_runs.proofs.StateLaws.{states_lowered}
use Rattle.group_runs.proofs.EntryLaws.{key_order}
use Rattle.group_runs.specs.Lemmas.RunLaws.{packed_once}

-- ---- behind lower keys

-- each of these groups has a key below this one
abbrev pub AllBelow : Row → List Group → Type 0
AllBelow key groups = AllByRecursion (λ (g : Group). row_cmp key g.0 ≡ Greater) groups

pub inserted_behind : (key : Row) (ps : List Partial) (front back : List Group) → AllBelow key front
    → insert_entry row_cmp (front ++ back) key ps ≡ front ++ insert_entry row_cmp back key ps
inserted_behind key ps [] back below = refl
inserted_behind key ps (g ∷ front) back (first, below) =
    ap (λ r. match_ordering r ((key, ps) ∷ g ∷ front ++ back) ((g.0, ps) ∷ front ++ back) (g ∷ insert_entry row_cmp (front ++ back) key ps))
    first
    ∙ ap (λ gs. g ∷ gs) (inserted_behind key ps front back below)

pub found_behind : (key : Row) (front back : List Group) → AllBelow key front → partials_at key (front ++ back) ≡ partials_at key back
found_behind key [] back below = refl
found_behind key (g ∷ front) back (first, below) =
    ap (λ b. option_map (λ (group : Group). group.1) (cond b (Some g) (find (λ (group : Group). same_row group.0 key) (front ++ back))))
    (same_row-swap g.0 key ∙ ap is_eq first)
    ∙ found_behind key front back below

-- ---- groups of two parts of a run
pub record Parted (q : Query) (m : ℕ) (front back : List Entry) (groups : List Group) : Type 0 where
  pub before : List Group
  pub after : List Group
  pub is : groups ≡ before ++ after
  pub front_are : AreGroups q m front before
  pub back_are : AreGroups q m back after

pub parted : (q : Query) (m : ℕ) (front back : List Entry) (groups : List Group) → AreGroups q m (front ++ back) groups
    → Parted q m front back groups
parted q m [] back groups are = record { before = []; after = groups; is = refl; front_are = tt; back_are = are }
parted q m (e ∷ front) back [] are = absurd are
parted q m (e ∷ front) back (g ∷ groups) (first, are) =
    let rest = parted q m front back groups are in
    record {
      before = g ∷ rest.before;
      after = rest.after;
      is = ap (λ gs. g ∷ gs) rest.is;
      front_are = (first, rest.front_are);
      back_are =
          rest.back_are;
    }

pub together : (q : Query) (m : ℕ) (front back : List Entry) (before after : List Group) → AreGroups q m front before
    → AreGroups q m back after → AreGroups q m (front ++ back) (before ++ after)
together q m [] back [] after are more = more
together q m (e ∷ front) back (g ∷ before) after (first, are) more = (first, together q m front back before after are more)
together q m _ back _ after are more = absurd are

module _ (q : Query) (m n : ℕ) (key : List ℕ) (group : Group) (is : key ≡ packing group.0) (has : HasKinds (key_kinds q) group.0) where
  -- what is below and above in bytes is so in keys
  pub groups_below : (front : List Entry) (before : List Group) → AreGroups q m front before → places.AllBelow key front
      → AllBelow group.0 before
  groups_below [] [] are below = tt
  groups_below (e ∷ front) (g ∷ before) (first, are) (low, below) = (
    row_cmp_total.antisymm group.0 g.0
        ∙ ap ordering_reverse (sym (key_order (key_kinds q) g.0 group.0 e.0 key first.key is first.of_kinds has) ∙ low),
    groups_below
        front before are below,
  )
  groups_below _ _ are below = absurd are

  -- a key that is below all is not among them, and comes first
  none_above : (back : List Entry) (after : List Group) → AreGroups q m back after → places.AllAbove key back → partials_at group.0 after
      ≡ None
  none_above [] [] are above = refl
  none_above (e ∷ back) (g ∷ after) (first, are) (high, above) =
      let order : row_cmp group.0 g.0 ≡ Less = sym (key_order (key_kinds q) group.0 g.0 key e.0 is first.key has first.of_kinds) ∙ high in
      ap (λ b. option_map (λ (group : Group). group.1) (cond b (Some g) (find (λ (g : Group). same_row g.0 group.0) after)))
      (same_row-swap g.0 group.0 ∙ ap is_eq order)
      ∙ none_above back after are above
  none_above _ _ are above = absurd are

  comes_first : (ps : List Partial) (back : List Entry) (after : List Group) → AreGroups q m back after → places.AllAbove key back
      → insert_entry row_cmp after group.0 ps ≡ (group.0, ps) ∷ after
  comes_first ps [] [] are above = refl
  comes_first ps (e ∷ back) (g ∷ after) (first, are) (high, above) =
      let order : row_cmp group.0 g.0 ≡ Less = sym (key_order (key_kinds q) group.0 g.0 key e.0 is first.key has first.of_kinds) ∙ high in
      ap (λ r. match_ordering r ((group.0, ps) ∷ g ∷ after) ((g.0, ps) ∷ after) (g ∷ insert_entry row_cmp after group.0 ps)) order
  comes_first ps _ _ are above = absurd are

  -- a group behind those below its key
  added_after : (front : List Entry) (before after : List Group) → AreGroups q m front before → places.AllBelow key front
      → group_added q (before ++ after) group ≡ before ++ insert_entry row_cmp after group.0 (merged q (partials_at group.0 after) group.1)
  added_after front before after are below =
      let low = groups_below front before are below in
      inserted_behind group.0 (merged q (partials_at group.0 (before ++ after)) group.1) before after low
      ∙ ap (λ o. before ++ insert_entry row_cmp after group.0 (merged q o group.1)) (found_behind group.0 before after low)

-- a group whose key isn't there comes between those below and those above
pub absent_added : (q : Query) (key more : List ℕ) (front back : List Entry) → places.AllBelow key front → places.AllAbove key back
    → AddsGroup q (front ++ back) (key, more) (front ++ (key, more) ∷ back)
absent_added q key more front back below above =
    λ m n groups group low are few given.
    let two = parted q (m + n) front back groups are in
    let added : group_added q groups group ≡ two.before ++ (group.0, group.1) ∷ two.after =
    ap (λ gs. group_added q gs group) two.is
    ∙ added_after q (m + n) n key group given.key given.of_kinds front two.before two.after two.front_are below
    ∙ ap (λ o. two.before ++ insert_entry row_cmp two.after group.0 (merged q o group.1))
    (none_above q (m + n) n key group given.key given.of_kinds back two.after two.back_are above)
    ∙ ap (λ gs. two.before ++ gs) (comes_first q (m + n) n key group given.key given.of_kinds group.1 back two.after two.back_are above) in
    let own : StandsFor q (m + n) (key, more) (group.0, group.1) = record {
      key = given.key;
      of_kinds = given.of_kinds;
      states =
          states_raised (functions q) n (m + n) more group.1 (omega arith) given.states;
    } in
    subst (AreGroups q (m + n) (front ++ (key, more) ∷ back)) (sym added)
    (together q (m + n) front ((key, more) ∷ back) two.before ((group.0, group.1) ∷ two.after) two.front_are (own, two.back_are))

-- the group of a key that is there
pub record Present (q : Query) (m : ℕ) (key states : List ℕ) (front back : List Entry) (groups : List Group) (k : Row) : Type 0 where
  pub before : List Group
  pub found : Group
  pub after : List Group
  pub is : groups ≡ before ++ found ∷ after
  pub front_are : AreGroups q m front before
  pub stands : StandsFor q m (key, states) found
  pub back_are : AreGroups q m back after
  pub order : row_cmp k found.0 ≡ Equal
  pub at : partials_at k (found ∷ after) ≡ Some found.1

pub present : (q : Query) (m n : ℕ) (key states : List ℕ) (front back : List Entry) (groups : List Group) (group : Group) → key
    ≡ packing group.0 → HasKinds (key_kinds q) group.0 → AreGroups q m (front ++ (key, states) ∷ back) groups
    → Present q m key states front back groups group.0
present q m n key states front back groups group is has are = of_parts (parted q m front ((key, states) ∷ back) groups are)
  where
    of_found : (before : List Group) (found : Group) (after : List Group) → groups ≡ before ++ found ∷ after → AreGroups q m front before
        → AreGroups q m ((key, states) ∷ back) (found ∷ after) → Present q m key states front back groups group.0
    of_found before found after whole first (own, rest) =
        let same : group.0 ≡ found.0 = packed_once (key_kinds q) key group.0 found.0 has own.of_kinds is own.key in
        let order : row_cmp group.0 found.0 ≡ Equal = ap (row_cmp group.0) (sym same) ∙ equal_itself in
        record {
          before = before;
          found = found;
          after = after;
          is = whole;
          front_are = first;
          stands = own;
          back_are = rest;
          order = order;
          at = ap (λ b. option_map (λ (g : Group). g.1) (cond b (Some found) (find (λ (g : Group). same_row g.0 group.0) after)))
              (same_row-swap found.0 group.0 ∙ ap is_eq order);
        }
      where
        equal_itself : row_cmp group.0 group.0 ≡ Equal
        equal_itself = tied_itself row_cmp_total group.0

    of_parts : Parted q m front ((key, states) ∷ back) groups → Present q m key states front back groups group.0
    of_parts two = cases two.after two.is two.back_are
      where
        cases : (after : List Group) → groups ≡ two.before ++ after → AreGroups q m ((key, states) ∷ back) after
            → Present q m key states front back groups group.0
        cases [] whole rest = absurd rest
        cases (found ∷ after) whole rest = of_found two.before found after whole two.front_are rest

-- it can be combined with another
pub present_room : (q : Query) (key states more : List ℕ) (front back : List Entry) → places.AllBelow key front
    → HasRoomForGroup q (front ++ (key, states) ∷ back) (key, more) → HaveRoomForMore (functions q) states more
present_room q key states more front back below (m, n, groups, group, are, few, given, low) =
    let here = present q (m + n) n key states front back groups group given.key given.of_kinds are in
    let at : partials_at group.0 groups ≡ Some here.found.1 =
    ap (partials_at group.0) here.is
    ∙ found_behind group.0 here.before (here.found ∷ here.after) (groups_below q (m + n) n key group given.key given.of_kinds front
    here.before here.front_are below)
    ∙ here.at in (
      m,
      n,
      here.found.1,
      group.1,
      states_lowered (functions q) m (m + n) states here.found.1 (subst (λ o. IfSome o (AllWithin m)) at few)
          here.stands.states,
      given.states,
      low,
    )

-- and is
pub present_added : (q : Query) (key states more new : List ℕ) (front back : List Entry) → places.AllBelow key front
    → CombineWith (functions q) states more new → AddsGroup q (front ++ (key, states) ∷ back) (key, more) (front ++ (key, new) ∷ back)
present_added q key states more new front back below combines =
    λ m n groups group low are few given.
    let here = present q (m + n) n key states front back groups group given.key given.of_kinds are in
    let behind = groups_below q (m + n) n key group given.key given.of_kinds front here.before here.front_are below in
    let at : partials_at group.0 groups ≡ Some here.found.1 =
    ap (partials_at group.0) here.is
    ∙ found_behind group.0 here.before (here.found ∷ here.after) behind
    ∙ here.at in
    let both : List Partial = combine_all (functions q) here.found.1 group.1 in
    let added : group_added q groups group ≡ here.before ++ (here.found.0, both) ∷ here.after =
    ap (λ gs. group_added q gs group) here.is
    ∙ added_after q (m + n) n key group given.key given.of_kinds front here.before (here.found ∷ here.after) here.front_are below
    ∙ ap (λ o. here.before ++ insert_entry row_cmp (here.found ∷ here.after) group.0 (merged q o group.1)) here.at
    ∙ ap (λ r. here.before ++ match_ordering r ((group.0, both) ∷ here.found ∷ here.after) ((here.found.0, both) ∷ here.after) (here.found
    ∷ insert_entry row_cmp here.after group.0 both)) here.order in
    let own : StandsFor q (m + n) (key, new) (here.found.0, both) =
    record {
      key = here.stands.key;
      of_kinds = here.stands.of_kinds;
      states = combines m n here.found.1 group.1 low (states_lowered (functions q) m (m + n) states here.found.1
          (subst (λ o. IfSome o (AllWithin m)) at few) here.stands.states) given.states;
    } in
    subst (AreGroups q (m + n) (front ++ (key, new) ∷ back)) (sym added)
    (together q (m + n) front ((key, new) ∷ back) here.before ((here.found.0, both) ∷ here.after) here.front_are (own, here.back_are))
