-- Chunks for a group are taken.
use Rattle.std.specs.Prelude.{◌≡◌, ◌≢◌, refl, ℕ, suc, ◌+◌, List, [], ◌∷◌, Some, map, slice_get, IsTrue}
use Rattle.std.proofs.Common.{sym, ◌∙◌, ap, subst, arith}
use Rattle.group_table.proofs.Words.{ChunkContents, ChunkName, Keeps, chunks_of, has_chunk, chunk_bytes, with_chunk, held_by, TreeState}
use Rattle.group_table.proofs.Words.{context_at, with_context, held_below, Context, TableState, IsSlot, group_in, groups, IsBump, IsSlabOf}
use Rattle.group_table.proofs.Words.{AreGroups, IsStanding, OnlyIn, ContextId, Slot}
use Rattle.group_table.specs.Standing.{KeepsOthers, IsChild, Stands}
use Rattle.group_table.proofs.StandLaws.{bump_with, slab_with, set_by}
use Rattle.group_table.proofs.TreeFacts.{at_same, at_other, only_with, placed_kept, same_links, same_number, held_changed, only_its_own}
use Rattle.std.proofs.lemmas.Bool.Decides.{nat_tests}
use Rattle.std.proofs.lemmas.Grind.{common_steps}

-- functions that are the same at each member
pub map_same : {X Y : Type 0} → (f g : X → Y) → (xs : List X) → ((i : ℕ) → (x : X) → slice_get xs i ≡ Some x → f x ≡ g x) → map f xs
    ≡ map g xs
map_same f g [] same = refl
map_same f g (x ∷ xs) same = ap (λ y. y ∷ map f xs) (same 0 x refl) ∙ ap (λ ys. g x ∷ ys) (map_same f g xs (λ i y is. same (suc i) y is))

-- what is so of a table once a chunk was taken from one of its contexts, which is this one then
pub record TakesFrom {H : Type 0} (hash_of : H → List ℕ → ℕ) (t : TableState H) (id : ContextId) (tree after : TreeState) (now : Context) :
    Type 0 where
  pub own : context_at after id ≡ now
  pub rest : (other : ContextId) → other.slot ≢ id.slot → context_at after other ≡ context_at tree other
  pub standing : IsStanding hash_of t after
  pub others : KeepsOthers t tree after
  pub same : groups t after ≡ groups t tree
  pub held : (growth : ℕ) → held_by (context_at after id) ≡ held_by (context_at tree id) + growth → held_below after t.parent
      ≡ held_below tree t.parent + growth

module _ {H : Type 0} (hash_of : H → List ℕ → ℕ) (t : TableState H) where
  -- groups whose keys are in another context, or whose states are
  other_keys : (keys others states : Context) → ((slot : Slot) → IsSlot t slot → IsTrue (has_chunk others slot.key)
      × (chunk_bytes others slot.key ≡ chunk_bytes keys slot.key)) → AreGroups t keys states → AreGroups t others states
  other_keys keys others states same is = grind (arith, nat_tests, common_steps)

  pub other_states : (keys states others : Context) → ((slot : Slot) → IsSlot t slot → IsTrue (has_chunk others slot.state))
      → AreGroups t keys states → AreGroups t keys others
  other_states keys states others live is = record {
    keys_live = is.keys_live;
    states_live = live;
    widths = is.widths;
    once = is.once;
    own =
        is.own;
  }

  module _ (tree after : TreeState) (is : IsStanding hash_of t tree) where
    -- one of its contexts is another now
    module _ (id : ContextId) (child : IsChild tree t.parent id) (now : Context) (space : after ≡ with_context tree id now) where
      own_is : context_at after id ≡ now
      own_is = ap (λ (x : TreeState). context_at x id) space ∙ at_same tree id now child.within

      other_is : (other : ContextId) → other.slot ≢ id.slot → context_at after other ≡ context_at tree other
      other_is other differ = ap (λ (x : TreeState). context_at x other) space ∙ at_other tree id now other differ

      takes : ((slot : ℕ) → slot ≢ t.buckets.slot → slot ≢ t.keys.slot → slot ≢ t.states.slot → slot ≢ id.slot)
          → Stands hash_of t (context_at after t.buckets) (context_at after t.keys) (context_at after t.states) → groups t after
          ≡ groups t tree → TakesFrom hash_of t id tree after now
      takes mine stands same =
          let only : OnlyIn id tree after = only_with id tree after now space child.within in
          record {
            own = own_is;
            rest = other_is;
            standing = record {
              placed = placed_kept t tree after (same_links id tree after only) (same_number id tree after only)
                  is.placed;
              stands = stands;
            };
            others = only_its_own t id tree after only mine;
            same = same;
            held = λ growth more. omega (arith, more, held_changed tree after t.parent id only child.below child.within);
          }

    module _ (n : ℕ) (p : ChunkContents) (name : ChunkName) where
      -- a chunk is taken from the context of the keys
      pub key_taken : after ≡ with_context tree t.keys (with_chunk (context_at tree t.keys) n p)
          → Keeps (chunks_of (context_at tree t.keys)) (chunks_of (context_at after t.keys)) name
          → TakesFrom hash_of t t.keys tree after (with_chunk (context_at tree t.keys) n p)
      key_taken space keeps =
          let kept : (slot : Slot) → IsSlot t slot → IsTrue (has_chunk (context_at after t.keys) slot.key)
          × (chunk_bytes (context_at after t.keys) slot.key ≡ chunk_bytes (context_at tree t.keys) slot.key) =
          λ slot there. let told = keeps slot.key (is.stands.groups.keys_live slot there) in (told.1, told.2) in
          let buckets : context_at after t.buckets ≡ context_at tree t.buckets = other_is t.keys is.placed.keys _ space t.buckets
          is.placed.keys_apart.differ in
          let states : context_at after t.states ≡ context_at tree t.states = other_is t.keys is.placed.keys _ space t.states
          (λ same. is.placed.both_apart.differ (sym same)) in
          takes t.keys is.placed.keys _ space (λ slot not_buckets not_keys not_states. not_keys)
          (record {
            set = rw buckets (set_by hash_of t (context_at tree t.keys) (context_at after t.keys) (context_at tree t.buckets)
                (λ slot there. (kept slot there).1) is.stands.set);
            run = subst IsBump (sym (own_is t.keys is.placed.keys _ space)) (bump_with (context_at tree t.keys) n p is.stands.run);
            slab = subst (IsSlabOf t.width) (sym states) is.stands.slab;
            width = is.stands.width;
            groups = subst (AreGroups t (context_at after t.keys)) (sym states)
                (other_keys (context_at tree t.keys) (context_at after t.keys) (context_at tree t.states) kept is.stands.groups);
          })
          (map_same (group_in t after) (group_in t tree) t.slots (λ i slot there. rw ((kept slot (i, there)).1, states)))

      -- from that of the states
      pub state_taken : after ≡ with_context tree t.states (with_chunk (context_at tree t.states) n p)
          → Keeps (chunks_of (context_at tree t.states)) (chunks_of (context_at after t.states)) name
          → TakesFrom hash_of t t.states tree after (with_chunk (context_at tree t.states) n p)
      state_taken space keeps =
          let buckets : context_at after t.buckets ≡ context_at tree t.buckets = other_is t.states is.placed.states _ space t.buckets
          is.placed.states_apart.differ in
          let keys : context_at after t.keys ≡ context_at tree t.keys = other_is t.states is.placed.states _ space t.keys
          is.placed.both_apart.differ in
          let live : (slot : Slot) → IsSlot t slot → IsTrue (has_chunk (context_at after t.states) slot.state) = λ slot there.
          (keeps slot.state (is.stands.groups.states_live slot there)).1 in
          takes t.states is.placed.states _ space (λ slot not_buckets not_keys not_states. not_states)
          (record {
            set = simp (buckets, keys) is.stands.set;
            run = subst IsBump (sym keys) is.stands.run;
            slab = subst (IsSlabOf t.width) (sym (own_is t.states is.placed.states _ space))
                (slab_with t.width (context_at tree t.states) n p is.stands.slab);
            width = is.stands.width;
            groups = subst (λ (k : Context). AreGroups t k (context_at after t.states)) (sym keys)
                (other_states (context_at tree t.keys) (context_at tree t.states) (context_at after t.states) live is.stands.groups);
          })
          (map_same (group_in t after) (group_in t tree) t.slots
          (λ i slot there. rw ((keeps slot.state (is.stands.groups.states_live slot (i, there))).2, keys)))
