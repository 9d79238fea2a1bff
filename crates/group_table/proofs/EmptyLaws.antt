-- What the clearing of a table leaves of its tree, and what is held then.
use Rattle.std.specs.Prelude.{◌≡◌, ◌≢◌, refl, ℕ, ◌+◌, ◌≤◌, ◌==◌, ◌&&◌, not, Bool, false, List, [], None, length, get_or, ◌⊎◌, slice_get}
use Rattle.std.specs.Prelude.{is_some, Some}
use Rattle.std.proofs.Common.{sym, ◌∙◌, ap, subst, arith, inl, inr}
use Rattle.std.proofs.lemmas.Bool.{false≢true}
use Rattle.std.proofs.lemmas.List.{length-set}
use Rattle.group_table.proofs.Words.{no_context, reset_context, held_by, is_below, is_under, cleared, TreeState, IsWhole, context_at, reset}
use Rattle.group_table.proofs.Words.{held_below, ContextId, TableState, held_in, IsEmptied, IsFirst, HasArray, IsPlaced, IsTableIn}
use Rattle.group_table.proofs.Words.{KeepsBeside, IsBump, IsSlabOf, HasSpace, IsRunWith, IsSlabWith, HoldsArray, HoldsKeyBlocks}
use Rattle.group_table.proofs.Words.{HoldsStates, HoldsKeys, total, SetState, set_reset, AllocSet, IsCleared, Slot}
use Rattle.group_table.proofs.ChildLaws.{below_self, placed_alike}
use Rattle.group_table.proofs.ClearLaws.{length_cleared, link_kept, context_kept, not_self, not_parent, context_reset, IsReset}
use Rattle.group_table.proofs.ClearLaws.{set_is_reset, bump_reset, slab_reset_of}
use Rattle.group_table.proofs.SpaceLaws.{set_map, run_empty, slab_empty}
use Rattle.group_table.proofs.HeldLaws.{below_less, held_at_least, held_reset}
use Rattle.group_table.proofs.StandLaws.{SetOf, set_of, set_with}

-- a context is reset: those beside it are as they were
module _ (tree after : TreeState) (id : ContextId) (is : after ≡ reset tree id) where
  not_under : (slot : ℕ) → is_below tree.links id.slot slot ≡ false → is_under tree.links id.slot slot ≡ false
  not_under slot beside = ap (λ (b : Bool). b && not (slot == id.slot)) beside

  pub link_beside : (slot : ℕ) → is_below tree.links id.slot slot ≡ false → get_or after.links slot None ≡ get_or tree.links slot None
  link_beside slot beside = ap (λ (x : TreeState). get_or x.links slot None) is ∙ link_kept tree id slot (not_under slot beside)

  pub context_beside : (slot : ℕ) → is_below tree.links id.slot slot ≡ false → get_or after.contexts slot no_context
      ≡ get_or tree.contexts slot no_context
  context_beside slot beside =
      ap (λ (x : TreeState). get_or x.contexts slot no_context) is
      ∙ context_kept tree id (record { slot = slot; stamp = 0 }) (not_under slot beside)
      (λ same. false≢true (sym beside ∙ ap (λ (k : ℕ). is_below tree.links id.slot k) same ∙ below_self tree.links id.slot))

  pub still_beside : (above slot : ℕ) → is_below tree.links above slot ≡ false → is_below after.links above slot ≡ false
  still_beside above slot beside = ap (λ (x : TreeState). is_below x.links above slot) is
      ∙ below_less (is_under tree.links id.slot) tree.links above slot beside

  pub last_kept : after.last ≡ tree.last
  last_kept = ap (λ (x : TreeState). x.last) is

  pub number_kept : length after.contexts ≡ length tree.contexts
  number_kept =
      ap (λ (x : TreeState). length x.contexts) is
      ∙ length-set (cleared (is_under tree.links id.slot) no_context 0 tree.contexts) id.slot (reset_context (context_at tree id))
      ∙ length_cleared tree id (is_under tree.links id.slot) no_context 0 tree.contexts

  pub other_kept : (other : ContextId) → is_under tree.links id.slot other.slot ≡ false → other.slot ≢ id.slot
      → held_by (context_at after other) ≡ held_by (context_at tree other)
  other_kept other stays differ = ap (λ (x : TreeState). held_by (context_at x other)) is
      ∙ ap held_by (context_kept tree id other stays differ)

abbrev pub cleared_with : {H : Type 0} → TableState H → ℕ → TableState H
cleared_with t n = record {
  parent = t.parent;
  buckets = t.buckets;
  keys = t.keys;
  states = t.states;
  width = t.width;
  hash = t.hash;
  array = None;
  slots = [];
  spare = n;
}

-- what is so once a table was cleared
pub record Clears {H : Type 0} (hash_of : H → List ℕ → ℕ) (t : TableState H) (before after : TreeState) : Type 0 where
  pub table : (n : ℕ) → IsTableIn hash_of (cleared_with t n) after
  pub held : IsCleared t after
  pub beside : KeepsBeside t before after
  pub rest : held_below after t.parent + held_in t before ≤ held_below before t.parent + held_in t after
  pub emptied : (n : ℕ) → held_below before t.parent ≡ held_in t before → IsEmptied (cleared_with t n) after
  pub holds : (n : ℕ) → held_below before t.parent ≡ held_in t before → HoldsKeys (cleared_with t n) after

module _ {H : Type 0} (hash_of : H → List ℕ → ℕ) (t : TableState H) (t0 t1 t2 t3 : TreeState) (is : IsTableIn hash_of t t0)
    (e1 : t1 ≡ reset t0 t.buckets) (w0 : IsWhole t0) (w1 : IsWhole t1) where
  p0 : IsPlaced t t0
  p0 = is.standing.placed

  pub p1 : IsPlaced t t1
  p1 = rw e1 (placed_alike t t0 (reset t0 t.buckets) (subst IsWhole e1 w1)
      (link_kept t0 t.buckets t.parent.slot (not_parent t0 t.buckets w0 t.parent.slot p0.buckets.up))
      (link_kept t0 t.buckets t.buckets.slot (not_self t0 t.buckets)) (link_kept t0 t.buckets t.keys.slot p0.keys_apart.not_first)
      (link_kept t0 t.buckets t.states.slot p0.states_apart.not_first) p0)

  module _ (e2 : t2 ≡ reset t1 t.keys) (w2 : IsWhole t2) where
    pub p2 : IsPlaced t t2
    p2 = rw e2 (placed_alike t t1 (reset t1 t.keys) (subst IsWhole e2 w2)
        (link_kept t1 t.keys t.parent.slot (not_parent t1 t.keys w1 t.parent.slot p1.keys.up))
        (link_kept t1 t.keys t.buckets.slot p1.keys_apart.not_last) (link_kept t1 t.keys t.keys.slot (not_self t1 t.keys))
        (link_kept t1 t.keys t.states.slot p1.both_apart.not_first) p1)

    module _ (e3 : t3 ≡ reset t2 t.states) (w3 : IsWhole t3) where
      p3 : IsPlaced t t3
      p3 = rw e3 (placed_alike t t2 (reset t2 t.states) (subst IsWhole e3 w3)
          (link_kept t2 t.states t.parent.slot (not_parent t2 t.states w2 t.parent.slot p2.states.up))
          (link_kept t2 t.states t.buckets.slot p2.states_apart.not_last) (link_kept t2 t.states t.keys.slot p2.both_apart.not_last)
          (link_kept t2 t.states t.states.slot (not_self t2 t.states)) p2)

      b3 : context_at t3 t.buckets ≡ reset_context (context_at t0 t.buckets)
      b3 =
          ap (λ (x : TreeState). context_at x t.buckets) e3 ∙ context_kept t2 t.states t.buckets p2.states_apart.not_last
          p2.states_apart.differ
          ∙ ap (λ (x : TreeState). context_at x t.buckets) e2 ∙ context_kept t1 t.keys t.buckets p1.keys_apart.not_last p1.keys_apart.differ
          ∙ ap (λ (x : TreeState). context_at x t.buckets) e1 ∙ context_reset t0 t.buckets p0.buckets.within

      k3 : context_at t3 t.keys ≡ reset_context (context_at t0 t.keys)
      k3 =
          ap (λ (x : TreeState). context_at x t.keys) e3 ∙ context_kept t2 t.states t.keys p2.both_apart.not_last p2.both_apart.differ
          ∙ ap (λ (x : TreeState). context_at x t.keys) e2 ∙ context_reset t1 t.keys p1.keys.within
          ∙ ap reset_context (ap (λ (x : TreeState). context_at x t.keys) e1
          ∙ context_kept t0 t.buckets t.keys p0.keys_apart.not_first (λ same. p0.keys_apart.differ (sym same)))

      s3 : context_at t3 t.states ≡ reset_context (context_at t0 t.states)
      s3 =
          ap (λ (x : TreeState). context_at x t.states) e3 ∙ context_reset t2 t.states p2.states.within
          ∙ ap reset_context (ap (λ (x : TreeState). context_at x t.states) e2
          ∙ context_kept t1 t.keys t.states p1.both_apart.not_first (λ same. p1.both_apart.differ (sym same))
          ∙ ap (λ (x : TreeState). context_at x t.states) e1 ∙ context_kept t0 t.buckets t.states p0.states_apart.not_first
          (λ same. p0.states_apart.differ (sym same)))

      abbrev P : SetState → Type 0
      P s = IsFirst s × HasArray hash_of t (context_at t0 t.keys) t.array s

      set : SetOf P (context_at t0 t.buckets)
      set = set_of P (context_at t0 t.buckets) is.standing.stands.set

      set_now : context_at t3 t.buckets ≡ AllocSet (set_reset set.state)
      set_now = b3 ∙ ap reset_context set.is

      now : IsReset (set_reset set.state)
      now = set_is_reset set.state set.with.0

      run : IsBump (reset_context (context_at t0 t.keys)) × (held_by (reset_context (context_at t0 t.keys)) ≡ 0)
      run = bump_reset (context_at t0 t.keys) is.standing.stands.run

      slab : IsSlabOf t.width (reset_context (context_at t0 t.states)) × (held_by (reset_context (context_at t0 t.states)) ≡ 0)
      slab = slab_reset_of t.width (context_at t0 t.states) is.standing.stands.slab

      none_at : (i : ℕ) (x : Slot) → slice_get [] i ≡ Some x → ⊥
      none_at i x e = false≢true (ap is_some e)

      table_cleared : (n : ℕ) → IsTableIn hash_of (cleared_with t n) t3
      table_cleared n = record {
        standing = record {
          placed = record {
            parent = p3.parent;
            buckets = p3.buckets;
            keys = p3.keys;
            states = p3.states;
            keys_apart = p3.keys_apart;
            states_apart = p3.states_apart;
            both_apart = p3.both_apart;
          };
          stands = record {
            set = set_with (λ s. IsFirst s × HasArray hash_of (cleared_with t n) (context_at t3 t.keys) None s) (context_at t3 t.buckets)
                (set_reset set.state) set_now (now.first, refl);
            run = subst IsBump (sym k3) run.0;
            slab = subst (IsSlabOf t.width) (sym s3) slab.0;
            width = is.standing.stands.width;
            groups = record {
              keys_live = λ x there. absurd (none_at there.0 x there.1);
              states_live = λ x there. absurd (none_at there.0 x there.1);
              widths = λ x there. absurd (none_at there.0 x there.1);
              once = λ i j x y at_i at_j same. absurd (none_at i x at_i);
              own = λ i j x y at_i at_j same. absurd (none_at i x at_i);
            };
          };
        };
        space = set_with (HasSpace None) (context_at t3 t.buckets) (set_reset set.state) set_now now.space;
      }

      held_of : (total (set_reset set.state).blocks ≡ 0) ⊎ (total (set_reset set.state).blocks ≡ 16384)
          → (held_by (context_at t3 t.buckets) ≡ 0) ⊎ (held_by (context_at t3 t.buckets) ≡ 16384)
      held_of (inl nothing) = inl (ap held_by set_now ∙ nothing)
      held_of (inr block) = inr (ap held_by set_now ∙ block)

      is_cleared : IsCleared t t3
      is_cleared = record { buckets = held_of now.held; keys = ap held_by k3 ∙ run.1; states = ap held_by s3 ∙ slab.1 }

      keeps_beside : KeepsBeside t t0 t3
      keeps_beside = record {
        last = last_kept t2 t3 t.states e3 ∙ last_kept t1 t2 t.keys e2 ∙ last_kept t0 t1 t.buckets e1;
        number = number_kept t2 t3 t.states e3 ∙ number_kept t1 t2 t.keys e2 ∙ number_kept t0 t1 t.buckets e1;
        links = λ slot beside.
            link_beside t2 t3 t.states e3 slot
            (still_beside t1 t2 t.keys e2 t.states.slot slot (still_beside t0 t1 t.buckets e1 t.states.slot slot beside.states))
            ∙ link_beside t1 t2 t.keys e2 slot (still_beside t0 t1 t.buckets e1 t.keys.slot slot beside.keys)
            ∙ link_beside t0 t1 t.buckets e1 slot beside.buckets;
        contexts = λ slot beside.
            context_beside t2 t3 t.states e3 slot
            (still_beside t1 t2 t.keys e2 t.states.slot slot (still_beside t0 t1 t.buckets e1 t.states.slot slot beside.states))
            ∙ context_beside t1 t2 t.keys e2 slot (still_beside t0 t1 t.buckets e1 t.keys.slot slot beside.keys)
            ∙ context_beside t0 t1 t.buckets e1 slot beside.buckets;
      }

      less_held : held_below t3 t.parent + held_in t t0 ≤ held_below t0 t.parent + held_in t t3
      less_held =
          let one = held_reset t0 t1 t.buckets t.parent e1 p0.buckets.within p1.buckets.below in
          let two = held_reset t1 t2 t.keys t.parent e2 p1.keys.within p2.keys.below in
          let three = held_reset t2 t3 t.states t.parent e3 p2.states.within p3.states.below in
          let b2 = other_kept t1 t2 t.keys e2 t.buckets p1.keys_apart.not_last p1.keys_apart.differ in
          let b3 = other_kept t2 t3 t.states e3 t.buckets p2.states_apart.not_last p2.states_apart.differ in
          let k1 = other_kept t0 t1 t.buckets e1 t.keys p0.keys_apart.not_first (λ same. p0.keys_apart.differ (sym same)) in
          let k_last = other_kept t2 t3 t.states e3 t.keys p2.both_apart.not_last p2.both_apart.differ in
          let s1 = other_kept t0 t1 t.buckets e1 t.states p0.states_apart.not_first (λ same. p0.states_apart.differ (sym same)) in
          let s2 = other_kept t1 t2 t.keys e2 t.states p1.both_apart.not_first (λ same. p1.both_apart.differ (sym same)) in
          omega (arith, one, two, three, b2, b3, k1, k_last, s1, s2)

      is_emptied : (n : ℕ) → held_below t0 t.parent ≡ held_in t t0 → IsEmptied (cleared_with t n) t3
      is_emptied n alone = record {
        array = refl;
        keys = is_cleared.keys;
        states = is_cleared.states;
        buckets = omega (
          arith,
          alone,
          less_held,
          is_cleared.keys,
          is_cleared.states,
          held_at_least t3 t.parent t.buckets p3.buckets.below
              p3.buckets.within,
        );
      }

      holds_none : (n : ℕ) → held_below t0 t.parent ≡ held_in t t0 → HoldsKeys (cleared_with t n) t3
      holds_none n alone = record {
        alone = omega (arith, (is_emptied n alone).buckets, is_cleared.keys, is_cleared.states);
        in_buckets = set_map (λ s. IsFirst s × HasArray hash_of (cleared_with t n) (context_at t3 t.keys) None s) (HoldsArray None 0)
            (context_at t3 t.buckets) (λ s held. refl) (table_cleared n).standing.stands.set;
        in_keys = subst (IsRunWith (HoldsKeyBlocks [])) (sym k3) (run_empty (context_at t0 t.keys) is.standing.stands.run);
        in_states = subst (IsSlabWith (HoldsStates t.width 0)) (sym s3)
            (slab_empty t.width (context_at t0 t.states) is.standing.stands.slab);
      }

      pub clears : Clears hash_of t t0 t3
      clears = record {
        table = table_cleared;
        held = is_cleared;
        beside = keeps_beside;
        rest = less_held;
        emptied = is_emptied;
        holds =
            holds_none;
      }
