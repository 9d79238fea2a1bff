-- The contexts of a table in their tree, when they are made and taken back.
use Rattle.std.specs.Prelude.{◌≡◌, ◌≢◌, refl, ℕ, zero, suc, ◌+◌, ◌<◌, ◌≤◌, ◌==◌, ◌&&◌, ◌||◌, not, nat_lt, if◌then◌else◌, Bool, true, false}
use Rattle.std.specs.Prelude.{cond, List, [], ◌∷◌, Option, Some, None, length, get_or, is_some}
use Rattle.std.proofs.Common.{inl, inr, sym, ◌∙◌, ap, arith, rules}
use Rattle.std.proofs.lemmas.Bool.{cases_eq, cond-true, cond-false, eq-eqb, ne_eqb, leb-true, false_from_ne_true, false≢true}
use Rattle.context_tree.specs.SlotLaws.{placed-here, placed-other, tests-agree, parent-is}
use Rattle.chunk_contexts.specs.declared.error.ContextError.{ContextError}
use Rattle.chunk_contexts.specs.declared.error.ContextError.TheVariants.{TooLarge}
use Rattle.group_table.proofs.Words.{no_context, new_context, kind_refusal, held_by, parent_of, stamp_of, is_true_of, leads_to, is_below}
use Rattle.group_table.proofs.Words.{is_under, cleared, IsForest, TreeState, IsWhole, IsNotMade, has_stamp, is_there, context_at, deleted}
use Rattle.group_table.proofs.Words.{held_below, held_from, Context, ContextId, Link, AreMade, AreNew, IsNew, IsRefusedOf, IsAsBefore}
use Rattle.group_table.proofs.Words.{IsSameBySlot, IsChild, IsApart, IsPlaced, MOST, TableState}
use Rattle.context_tree.specs.declared.error.TreeError.{TreeError}
use Rattle.context_tree.specs.declared.kind.Kind.{Kind}
use Rattle.context_tree.specs.declared.kind.Kind.TheVariants as kind
use Rattle.group_table.specs.declared.children.Children.{Children}
use Rattle.std.proofs.lemmas.Bool.Decides.{nat_tests}
use Rattle.std.proofs.lemmas.Grind.{common_steps}

-- lists by slots, of which some are cleared
module _ {X : Type 0} where
  cond_same : (b : Bool) (x : X) → cond b x x ≡ x
  cond_same true x = refl
  cond_same false x = refl

  cleared_from : (gone : ℕ → Bool) (x : X) (place : ℕ) (ys : List X) (i : ℕ) → get_or (cleared gone x place ys) i x
      ≡ cond (gone (place + i)) x (get_or ys i x)
  cleared_from gone x place [] i = sym (cond_same (gone (place + i)) x)
  cleared_from gone x place (y ∷ ys) zero = let here : place + 0 ≡ place = omega arith in rw here
  cleared_from gone x place (y ∷ ys) (suc i) = let next : place + 1 + i ≡ place
      + suc i = omega arith in rw (cleared_from gone x (place + 1) ys i, next)

  pub cleared_at : (gone : ℕ → Bool) (x : X) (ys : List X) (i : ℕ) → get_or (cleared gone x 0 ys) i x ≡ cond (gone i) x (get_or ys i x)
  cleared_at gone x ys i = let same : 0 + i ≡ i = omega arith in cleared_from gone x 0 ys i
      ∙ ap (λ (k : ℕ). cond (gone k) x (get_or ys i x)) same

-- a test of a parent that fails
test_fails : (p : Option ℕ) (f : ℕ → Bool) → ((x : ℕ) → p ≡ Some x → f x ≡ false) → is_true_of p f ≡ false
test_fails None f fails = refl
test_fails (Some x) f fails = fails x refl

-- one comes from each slot to itself
leads_self : (steps : ℕ) (ls : List (Option Link)) (slot : ℕ) → leads_to steps ls slot slot ≡ true
unfolding leads_to
leads_self zero ls slot = eq-eqb slot slot refl
leads_self (suc steps) ls slot = ap (λ (b : Bool). b || is_true_of (parent_of (get_or ls slot None)) (leads_to steps ls slot))
    (eq-eqb slot slot refl)

-- links that are the same slot by slot lead alike
leads_alike : (steps : ℕ) (ls now : List (Option Link)) → ((slot : ℕ) → get_or now slot None ≡ get_or ls slot None) → (above slot : ℕ)
    → leads_to steps now above slot ≡ leads_to steps ls above slot
unfolding leads_to
leads_alike zero ls now same above slot = refl
leads_alike (suc steps) ls now same above slot =
    ap (λ (l : Option Link). (slot == above) || is_true_of (parent_of l) (leads_to steps now above)) (same slot)
    ∙ ap (λ (b : Bool). (slot == above) || b) (tests-agree (parent_of (get_or ls slot None)) (leads_to steps now above)
    (leads_to steps ls above) (λ p e. leads_alike steps ls now same above p))

-- in a forest
module _ (ls : List (Option Link)) (forest : IsForest ls) where
  abbrev stamp_at : ℕ → ℕ
  stamp_at slot = stamp_of (get_or ls slot None)

  -- one never comes to a context that was made later
  pub not_above : (steps above slot : ℕ) → stamp_at slot < stamp_at above → leads_to steps ls above slot ≡ false
  unfolding leads_to
  not_above zero above slot less = ne_eqb slot above (λ e. omega (arith, ap stamp_at e, less))
  not_above (suc steps) above slot less =
      ap (λ (b : Bool). b || is_true_of (parent_of (get_or ls slot None)) (leads_to steps ls above))
      (ne_eqb slot above (λ e. omega (arith, ap stamp_at e, less)))
      ∙ test_fails (parent_of (get_or ls slot None)) (leads_to steps ls above)
      (λ p e. not_above steps above p (omega (arith, less, (parent-is ls forest slot (get_or ls slot None) refl p e).0)))

  -- a context is below the one that it was made below
  child_by : (steps slot p : ℕ) → parent_of (get_or ls slot None) ≡ Some p → leads_to (suc steps) ls p slot ≡ true
  unfolding leads_to
  child_by steps slot p up = search rules

  below_of : (steps slot p : ℕ) → (0 < steps) → parent_of (get_or ls slot None) ≡ Some p → leads_to steps ls p slot ≡ true
  below_of zero slot p some up = absurd (omega (arith, some))
  below_of (suc steps) slot p some up = child_by steps slot p up

  pub child_below : (slot p : ℕ) → parent_of (get_or ls slot None) ≡ Some p → is_below ls p slot ≡ true
  unfolding is_below
  child_below slot p up = below_of (stamp_at slot) slot p (omega (arith, (parent-is ls forest slot (get_or ls slot None) refl p up).0)) up

  -- and not below another that was made there
  beside_by : (steps a b p : ℕ) → stamp_at p < stamp_at a → parent_of (get_or ls b None) ≡ Some p → b ≢ a → leads_to steps ls a b ≡ false
  unfolding leads_to
  beside_by zero a b p low up differ = ne_eqb b a differ
  beside_by (suc steps) a b p low up differ =
      ap (λ (c : Bool). c || is_true_of (parent_of (get_or ls b None)) (leads_to steps ls a)) (ne_eqb b a differ)
      ∙ ap (λ (q : Option ℕ). is_true_of q (leads_to steps ls a)) up
      ∙ not_above steps a p low

  beside : (a b p : ℕ) → parent_of (get_or ls a None) ≡ Some p → parent_of (get_or ls b None) ≡ Some p → b ≢ a → is_under ls a b ≡ false
  unfolding is_below
  beside a b p first last differ =
      ap (λ (c : Bool). c && not (b == a)) (beside_by (stamp_at b) a b p (parent-is ls forest a (get_or ls a None) refl p first).0 last
      differ)

  pub are_apart : (a b : ContextId) (p : ℕ) → parent_of (get_or ls a.slot None) ≡ Some p → parent_of (get_or ls b.slot None) ≡ Some p
      → a.slot ≢ b.slot → IsApart ls a b
  are_apart a b p first last differ = record {
    differ = differ;
    not_first = beside a.slot b.slot p first last (λ e. differ (sym e));
    not_last = beside b.slot a.slot p last first differ;
  }

  -- other links are the same but for one slot that was free
  module _ (free_slot : ℕ) (free : get_or ls free_slot None ≡ None) (now : List (Option Link)) (other : (k : ℕ) → k ≢ free_slot
      → get_or now k None ≡ get_or ls k None) where
    not_free : (k : ℕ) → is_some (get_or ls k None) ≡ true → k ≢ free_slot
    not_free k there e = false≢true (sym (ap is_some (ap (λ (j : ℕ). get_or ls j None) e ∙ free)) ∙ there)

    -- from the others one comes where one came before
    leads_other : (steps above k : ℕ) → k ≢ free_slot → leads_to steps now above k ≡ leads_to steps ls above k
    unfolding leads_to
    leads_other zero above k differ = refl
    leads_other (suc steps) above k differ =
        ap (λ (l : Option Link). (k == above) || is_true_of (parent_of l) (leads_to steps now above)) (other k differ)
        ∙ ap (λ (b : Bool). (k == above) || b)
        (tests-agree (parent_of (get_or ls k None)) (leads_to steps now above) (leads_to steps ls above)
        (λ p e. leads_other steps above p (not_free p (parent-is ls forest k (get_or ls k None) refl p e).1)))

    -- and to that slot from none
    leads_none : (steps k : ℕ) → k ≢ free_slot → leads_to steps now free_slot k ≡ false
    unfolding leads_to
    leads_none zero k differ = ne_eqb k free_slot differ
    leads_none (suc steps) k differ =
        ap (λ (b : Bool). b || is_true_of (parent_of (get_or now k None)) (leads_to steps now free_slot)) (ne_eqb k free_slot differ)
        ∙ ap (λ (l : Option Link). is_true_of (parent_of l) (leads_to steps now free_slot)) (other k differ)
        ∙ test_fails (parent_of (get_or ls k None)) (leads_to steps now free_slot)
        (λ p e. leads_none steps p (not_free p (parent-is ls forest k (get_or ls k None) refl p e).1))

    pub below_other : (above k : ℕ) → k ≢ free_slot → is_below now above k ≡ is_below ls above k
    unfolding is_below
    below_other above k differ =
        ap (λ (l : Option Link). leads_to (stamp_of l) now above k) (other k differ)
        ∙ leads_other (stamp_at k) above k differ

    pub below_none : (k : ℕ) → k ≢ free_slot → is_below now free_slot k ≡ false
    unfolding is_below
    below_none k differ = leads_none (stamp_of (get_or now k None)) k differ

pub below_self : (ls : List (Option Link)) (slot : ℕ) → is_below ls slot slot ≡ true
unfolding is_below
below_self ls slot = leads_self (stamp_of (get_or ls slot None)) ls slot

pub below_alike : (ls now : List (Option Link)) → ((slot : ℕ) → get_or now slot None ≡ get_or ls slot None) → (above slot : ℕ)
    → is_below now above slot ≡ is_below ls above slot
unfolding is_below
below_alike ls now same above slot =
    ap (λ (l : Option Link). leads_to (stamp_of l) now above slot) (same slot)
    ∙ leads_alike (stamp_of (get_or ls slot None)) ls now same above slot

-- a slot in which there is a context is one of the list
low_there : (ls : List (Option Link)) (slot : ℕ) → is_some (get_or ls slot None) ≡ true → slot < length ls
low_there ls slot there = grind (arith, nat_tests, common_steps)

some_there : (link : Option Link) (stamp : ℕ) → has_stamp link stamp ≡ true → is_some link ≡ true
some_there None stamp there = there
some_there (Some link) stamp there = refl

-- as much is held where each slot holds as much
abbrev counted : List (Option Link) → ℕ → ℕ → List Context → ℕ → ℕ
counted ls above place cs k = cond (is_below ls above (place + k)) (held_by (get_or cs k no_context)) 0

module _ (ls now : List (Option Link)) (above : ℕ) where
  shifted : (place : ℕ) (cs : List Context) (links : List (Option Link)) (c : Context) (k : ℕ) → counted links above place (c ∷ cs) (suc k)
      ≡ counted links above (place + 1) cs k
  shifted place cs links c k = let next : place + suc k ≡ place + 1 + k = omega arith in rw next

  first_is : (links : List (Option Link)) (place : ℕ) (c : Context) (cs : List Context) → counted links above place (c ∷ cs) 0
      ≡ cond (is_below links above place) (held_by c) 0
  first_is links place c cs = let here : place + 0 ≡ place = omega arith in rw here

  none_is : (links : List (Option Link)) (place k : ℕ) → counted links above place [] k ≡ 0
  none_is links place k = cond_same (is_below links above (place + k)) 0

  held_alike : (place : ℕ) (cs ds : List Context) → ((k : ℕ) → counted now above place ds k ≡ counted ls above place cs k)
      → held_from now above place ds ≡ held_from ls above place cs
  held_alike place [] [] same = refl
  held_alike place [] (d ∷ ds) same =
      let rest = held_alike (place + 1) [] ds (λ k. sym (shifted place ds now d k) ∙ same (suc k) ∙ none_is ls place (suc k)
      ∙ sym (none_is ls (place + 1) k)) in
      omega (arith, rest, first_is now place d ds, same 0, none_is ls place 0)
  held_alike place (c ∷ cs) [] same =
      let rest = held_alike (place + 1) cs [] (λ k. none_is now (place + 1) k ∙ sym (none_is now place (suc k)) ∙ same (suc k)
      ∙ shifted place cs ls c k) in
      omega (arith, rest, first_is ls place c cs, same 0, none_is now place 0)
  held_alike place (c ∷ cs) (d ∷ ds) same =
      let rest = held_alike (place + 1) cs ds (λ k. sym (shifted place ds now d k) ∙ same (suc k) ∙ shifted place cs ls c k) in
      omega (arith, rest, first_is now place d ds, first_is ls place c cs, same 0)

-- trees that are the same slot by slot
pub as_before : (before after : TreeState) → IsSameBySlot before after → IsAsBefore before after
as_before before after same = record {
  there = λ id. ap (λ (l : Option Link). has_stamp l id.stamp) (same.links id.slot);
  same = λ id there. same.contexts id.slot;
  links = λ id there. same.links id.slot;
  held = λ above. held_alike before.links after.links above.slot 0 before.contexts after.contexts (λ k.
      ap (λ (b : Bool). cond b (held_by (get_or after.contexts k no_context)) 0) (below_alike before.links after.links same.links above.slot
      (0 + k))
      ∙ ap (λ (c : Context). cond (is_below before.links above.slot (0 + k)) (held_by c) 0) (same.contexts k));
}

pub same_as_itself : (t : TreeState) → IsSameBySlot t t
same_as_itself t = record { links = λ slot. refl; contexts = λ slot. refl }

-- a new context holds nothing
nothing_held : (made : Kind) → held_by (new_context made) ≡ 0
nothing_held kind.AllocSet = refl
nothing_held (kind.Slab size) = refl
nothing_held kind.Generation = refl
nothing_held kind.Bump = refl

-- a context is made in a whole tree
module _ (before : TreeState) (whole : IsWhole before) (after : TreeState) (parent id : ContextId) (made : Kind)
    (new : IsNew before after parent made id) where
  pub link_is : get_or after.links id.slot None ≡ Some (record { stamp = id.stamp; parent = Some parent.slot })
  link_is = ap (λ (t : TreeState). get_or t.links id.slot None) new.is
      ∙ placed-here before.links id.slot (Some (record { stamp = id.stamp; parent = Some parent.slot })) None new.low

  pub parent_made : parent_of (get_or after.links id.slot None) ≡ Some parent.slot
  parent_made = ap parent_of link_is

  pub there_made : is_there after id ≡ true
  there_made = ap (λ (l : Option Link). has_stamp l id.stamp) link_is ∙ eq-eqb id.stamp id.stamp refl

  pub context_made : context_at after id ≡ new_context made
  context_made =
      ap (λ (t : TreeState). get_or t.contexts id.slot no_context) new.is
      ∙ placed-here before.contexts id.slot (new_context made) no_context (omega (arith, new.low, whole.long))

  pub links_other : (k : ℕ) → k ≢ id.slot → get_or after.links k None ≡ get_or before.links k None
  links_other k differ = ap (λ (t : TreeState). get_or t.links k None) new.is
      ∙ placed-other before.links id.slot k (Some (record { stamp = id.stamp; parent = Some parent.slot })) None new.low differ

  pub contexts_other : (k : ℕ) → k ≢ id.slot → get_or after.contexts k no_context ≡ get_or before.contexts k no_context
  contexts_other k differ =
      ap (λ (t : TreeState). get_or t.contexts k no_context) new.is
      ∙ placed-other before.contexts id.slot k (new_context made) no_context (omega (arith, new.low, whole.long)) differ

  -- what is there is in another slot, and stays
  pub other_slot : (k : ContextId) → is_there before k ≡ true → k.slot ≢ id.slot
  other_slot k there = not_free before.links whole.forest id.slot new.free after.links links_other k.slot
      (some_there (get_or before.links k.slot None) k.stamp there)

  pub there_still : (k : ContextId) → is_there before k ≡ true → is_there after k ≡ true
  there_still k there = ap (λ (l : Option Link). has_stamp l k.stamp) (links_other k.slot (other_slot k there)) ∙ there

  pub context_still : (k : ContextId) → is_there before k ≡ true → context_at after k ≡ context_at before k
  context_still k there = contexts_other k.slot (other_slot k there)

  pub parent_still : (k : ContextId) → is_there before k ≡ true → parent_of (get_or after.links k.slot None)
      ≡ parent_of (get_or before.links k.slot None)
  parent_still k there = ap parent_of (links_other k.slot (other_slot k there))

  pub not_root : 0 < id.slot
  not_root = grind (arith, nat_tests, common_steps)

  pub last_is : after.last ≡ id.stamp
  last_is = ap (λ (t : TreeState). t.last) new.is

  -- as much is held
  pub held_made : (above : ContextId) → held_below after above ≡ held_below before above
  held_made above = held_alike before.links after.links above.slot 0 before.contexts after.contexts (λ k. elim (cases_eq k id.slot) [
    | inl same ↦
        ap (λ (c : Context). cond (is_below after.links above.slot (0 + k)) (held_by c) 0)
        (ap (λ (j : ℕ). get_or after.contexts j no_context) same ∙ context_made)
        ∙ ap (λ (n : ℕ). cond (is_below after.links above.slot (0 + k)) n 0) (nothing_held made)
        ∙ cond_same (is_below after.links above.slot (0 + k)) 0
        ∙ sym (ap (λ (c : Context). cond (is_below before.links above.slot (0 + k)) (held_by c) 0)
        (ap (λ (j : ℕ). get_or before.contexts j no_context) same ∙ whole.empty id.slot new.free)
        ∙ cond_same (is_below before.links above.slot (0 + k)) 0)
    | inr ne ↦
        ap (λ (b : Bool). cond b (held_by (get_or after.contexts k no_context)) 0) (below_other before.links whole.forest id.slot new.free
        after.links links_other above.slot (0 + k) (λ e. ne (omega (arith, e))))
        ∙ ap (λ (c : Context). cond (is_below before.links above.slot (0 + k)) (held_by c) 0) (contexts_other k ne)
  ])

  -- it is deleted again, also where others were made and deleted since
  pub taken_back : (now : TreeState) → IsSameBySlot after now → IsSameBySlot before (deleted now id)
  taken_back now same = record {
    links = λ k. cleared_at (is_below now.links id.slot) None now.links k ∙ elim (cases_eq k id.slot) [
      | inl e ↦ cond-true (is_below now.links id.slot k) None (get_or now.links k None) (itself k e)
          ∙ sym (ap (λ (j : ℕ). get_or before.links j None) e ∙ new.free)
      | inr ne ↦ cond-false (is_below now.links id.slot k) None (get_or now.links k None) (others k ne) ∙ now_links k ne
    ];
    contexts = λ k. cleared_at (is_below now.links id.slot) no_context now.contexts k ∙ elim (cases_eq k id.slot) [
      | inl e ↦ cond-true (is_below now.links id.slot k) no_context (get_or now.contexts k no_context) (itself k e)
          ∙ sym (ap (λ (j : ℕ). get_or before.contexts j no_context) e ∙ whole.empty id.slot new.free)
      | inr ne ↦ cond-false (is_below now.links id.slot k) no_context (get_or now.contexts k no_context) (others k ne) ∙ same.contexts k
          ∙ contexts_other k ne
    ];
  }
    where
      now_links : (k : ℕ) → k ≢ id.slot → get_or now.links k None ≡ get_or before.links k None
      now_links k ne = same.links k ∙ links_other k ne

      itself : (k : ℕ) → k ≡ id.slot → is_below now.links id.slot k ≡ true
      itself k e = ap (λ (j : ℕ). is_below now.links j k) (sym e) ∙ below_self now.links k

      others : (k : ℕ) → k ≢ id.slot → is_below now.links id.slot k ≡ false
      others k ne = below_none before.links whole.forest id.slot new.free now.links now_links k ne

-- a context that is there and was made below another is its child
pub is_child : (t : TreeState) → IsWhole t → (parent id : ContextId) → is_there t id ≡ true → parent_of (get_or t.links id.slot None)
    ≡ Some parent.slot → IsChild t parent id
is_child t whole parent id there up = record {
  there = there;
  within = omega (arith, whole.long, low_there t.links id.slot (some_there (get_or t.links id.slot None) id.stamp there));
  up = up;
  below = child_below t.links whole.forest id.slot parent.slot up;
}

-- a table stays in its place in a tree in which the links of its contexts and of its parent are the same
pub placed_alike : {H : Type 0} (t : TableState H) (before after : TreeState) → IsWhole after → get_or after.links t.parent.slot None
    ≡ get_or before.links t.parent.slot None → get_or after.links t.buckets.slot None ≡ get_or before.links t.buckets.slot None
    → get_or after.links t.keys.slot None ≡ get_or before.links t.keys.slot None → get_or after.links t.states.slot None
    ≡ get_or before.links t.states.slot None → IsPlaced t before → IsPlaced t after
placed_alike t before after whole parent buckets keys states was =
    let child = λ (id : ContextId) (link : get_or after.links id.slot None ≡ get_or before.links id.slot None)
    (is : IsChild before t.parent id). is_child after whole t.parent id (ap (λ (l : Option Link). has_stamp l id.stamp) link ∙ is.there)
    (ap parent_of link ∙ is.up) in
    let b = child t.buckets buckets was.buckets in let k = child t.keys keys was.keys in let s = child t.states states was.states in
    record {
      parent = ap (λ (l : Option Link). has_stamp l t.parent.stamp) parent ∙ was.parent;
      buckets = b;
      keys = k;
      states = s;
      keys_apart = are_apart after.links whole.forest t.buckets t.keys t.parent.slot b.up k.up was.keys_apart.differ;
      states_apart = are_apart after.links whole.forest t.buckets t.states t.parent.slot b.up s.up was.states_apart.differ;
      both_apart = are_apart after.links whole.forest t.keys t.states t.parent.slot k.up s.up was.both_apart.differ;
    }

-- why one is not made, below a context that is there, of a kind that is allowed
pub refused_of : (before : TreeState) (number : ℕ) (there spent : Bool) (refusal : Option ContextError) (e : TreeError) → there ≡ true
    → refusal ≡ None
    → (spent ≡ true → 18446744073709551615 < before.last + number) → IsNotMade there spent refusal e → IsRefusedOf number before e
refused_of before number false spent refusal e there allowed few is = absurd (false≢true there)
refused_of before number true true refusal e there allowed few is = inl (is, few refl)
refused_of before number true false None e there allowed few is = inr is
refused_of before number true false (Some own) e there allowed few is = absurd (false≢true (ap is_some (sym allowed)))

pub slab_allowed : (width : ℕ) → width ≤ 65535 → kind_refusal (kind.Slab width) ≡ None
slab_allowed width low = ap (λ b. if b then Some TooLarge else None)
    (false_from_ne_true (nat_lt MOST width) (λ is. omega (arith, low, leb-true (suc MOST) width is)))

-- the three are made: first the buckets, then the others
pub all_made : (before one after : TreeState) (parent : ContextId) (width : ℕ) (made : Children) → IsWhole before
    → IsNew before one parent kind.AllocSet made.buckets → IsWhole one → is_there before parent ≡ true
    → one.last ≡ before.last + 1 → AreNew one after parent width made.keys made.states → AreMade before after parent width made
all_made before one after parent width made whole first one_whole there spent rest =
    let two = rest.between in
    let buckets = made.buckets in let keys = made.keys in let states = made.states in
    let there1 : (id : ContextId) → is_there before id ≡ true → is_there one id
    ≡ true = there_still before whole one parent buckets kind.AllocSet first in
    let there2 : (id : ContextId) → is_there one id ≡ true → is_there two id ≡ true = there_still one one_whole two parent keys kind.Bump
    rest.keys_new in
    let there3 : (id : ContextId) → is_there two id ≡ true → is_there after id
    ≡ true = there_still two rest.between_whole after parent states (kind.Slab width) rest.states_new in
    let same1 : (id : ContextId) → is_there before id ≡ true → context_at one id
    ≡ context_at before id = context_still before whole one parent buckets kind.AllocSet first in
    let same2 : (id : ContextId) → is_there one id ≡ true → context_at two id ≡ context_at one id = context_still one one_whole two parent
    keys kind.Bump rest.keys_new in
    let same3 : (id : ContextId) → is_there two id ≡ true → context_at after id
    ≡ context_at two id = context_still two rest.between_whole after parent states (kind.Slab width) rest.states_new in
    let apart1 : (id : ContextId) → is_there before id ≡ true → id.slot ≢ buckets.slot = other_slot before whole one parent buckets
    kind.AllocSet first in
    let apart2 : (id : ContextId) → is_there one id ≡ true → id.slot ≢ keys.slot = other_slot one one_whole two parent keys kind.Bump
    rest.keys_new in
    let apart3 : (id : ContextId) → is_there two id ≡ true → id.slot ≢ states.slot = other_slot two rest.between_whole after parent states
    (kind.Slab width) rest.states_new in
    let up2 = parent_still one one_whole two parent keys kind.Bump rest.keys_new in
    let up3 = parent_still two rest.between_whole after parent states (kind.Slab width) rest.states_new in
    let b1 = there_made before whole one parent buckets kind.AllocSet first in
    let b2 = there2 buckets b1 in
    let k2 = there_made one one_whole two parent keys kind.Bump rest.keys_new in
    let s3 = there_made two rest.between_whole after parent states (kind.Slab width) rest.states_new in
    let b_up = up3 buckets b2 ∙ up2 buckets b1 ∙ parent_made before whole one parent buckets kind.AllocSet first in
    let k_up = up3 keys k2 ∙ parent_made one one_whole two parent keys kind.Bump rest.keys_new in
    let s_up = parent_made two rest.between_whole after parent states (kind.Slab width) rest.states_new in
    record {
      parent_there = there3 parent (there2 parent (there1 parent there));
      buckets = is_child after rest.whole parent buckets (there3 buckets b2) b_up;
      keys = is_child after rest.whole parent keys (there3 keys k2) k_up;
      states = is_child after rest.whole parent states s3 s_up;
      keys_apart = are_apart after.links rest.whole.forest buckets keys parent.slot b_up k_up (apart2 buckets b1);
      states_apart = are_apart after.links rest.whole.forest buckets states parent.slot b_up s_up (apart3 buckets b2);
      both_apart = are_apart after.links rest.whole.forest keys states parent.slot k_up s_up (apart3 keys k2);
      stamps = let two_more = rest.stamps in omega (arith, spent, two_more);
      set = same3 buckets b2 ∙ same2 buckets b1 ∙ context_made before whole one parent buckets kind.AllocSet first;
      run = same3 keys k2 ∙ context_made one one_whole two parent keys kind.Bump rest.keys_new;
      slab = context_made two rest.between_whole after parent states (kind.Slab width) rest.states_new;
      held = λ above.
          held_made two rest.between_whole after parent states (kind.Slab width) rest.states_new above
          ∙ held_made one one_whole two parent keys kind.Bump rest.keys_new above
          ∙ held_made before whole one parent buckets kind.AllocSet first above;
      fresh = λ id is. (
        there3 id (there2 id (there1 id is)),
        same3 id (there2 id (there1 id is)) ∙ same2 id (there1 id is) ∙ same1 id is,
        apart1 id is,
        apart2 id (there1 id is),
        apart3 id (there2 id (there1 id is)),
      );
      links = λ id is.
          links_other two rest.between_whole after parent states (kind.Slab width) rest.states_new id.slot
          (apart3 id (there2 id (there1 id is)))
          ∙ links_other one one_whole two parent keys kind.Bump rest.keys_new id.slot (apart2 id (there1 id is))
          ∙ links_other before whole one parent buckets kind.AllocSet first id.slot (apart1 id is);
    }
