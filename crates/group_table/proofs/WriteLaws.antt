-- The state of a group is written over.
use Rattle.std.specs.Prelude.{◌≡◌, ◌≢◌, refl, ℕ, zero, suc, false, List, [], ◌∷◌, Some, map, slice_get, slice_set, unwrap_or, IsTrue}
use Rattle.std.proofs.Common.{sym, ◌∙◌, ap, subst, arith, rules}
use Rattle.group_table.proofs.Words.{same_place, place_of, Place, chunks_of, has_chunk, chunk_bytes, with_bytes, TreeState, context_at}
use Rattle.group_table.proofs.Words.{with_context, Context, Slab, TableState, key_in, group_in, groups, IsSlot, IsSetWith, IsBump, IsSlabOf}
use Rattle.group_table.proofs.Words.{HasSpace, AreGroups, IsTableIn, OnlyIn, Slot}
use Rattle.chunk_contexts.specs.Chunks.{KeepsOthers as KeepsChunks}
use Rattle.group_table.specs.Standing.{KeepsOthers}
use Rattle.group_table.proofs.GroupLaws.{other_states, map_same}
use Rattle.group_table.proofs.TreeFacts.{at_same, at_other, placed_kept, same_links, same_number, only_its_own}
use Rattle.std.proofs.lemmas.Bool.Decides.{nat_tests}
use Rattle.std.proofs.lemmas.Grind.{common_steps}

slab_wrote : (width : ℕ) (c : Context) (place : Place) (ws : List ℕ) → IsSlabOf width c → IsSlabOf width (with_bytes c place ws)
slab_wrote width (Slab s) place ws is = is
slab_wrote width _ place ws none = absurd none

-- a function that is another one but at one member
map_set : {X Y : Type 0} → (f g : X → Y) → (xs : List X) → (i : ℕ) → (x : X) → slice_get xs i ≡ Some x
    → ((j : ℕ) → (y : X) → slice_get xs j ≡ Some y → j ≢ i → f y ≡ g y) → map f xs ≡ slice_set (map g xs) i (f x)
map_set f g [] i x is same = refl
map_set f g (z ∷ xs) zero x is same =
    ap (λ y. f y ∷ map f xs) (ap (λ o. unwrap_or o x) is)
    ∙ ap (λ ys. f x ∷ ys) (map_same f g xs (λ j y at_j. same (suc j) y at_j (λ e. omega (arith, e))))
map_set f g (z ∷ xs) (suc i) x is same =
    ap (λ v. v ∷ map f xs) (same 0 z refl (λ e. omega (arith, e)))
    ∙ ap (λ vs. g z ∷ vs) (map_set f g xs i x is (λ j y at_j differ. same (suc j) y at_j (λ equal. differ (omega (arith, equal)))))

module _ {H : Type 0} (hash_of : H → List ℕ → ℕ) (t : TableState H) (tree : TreeState) (is : IsTableIn hash_of t tree) (slot : Slot)
    (there : IsSlot t slot) where
  abbrev states : Context
  states = context_at tree t.states

  pub state_live : IsTrue (has_chunk states slot.state)
  state_live = is.standing.stands.groups.states_live slot there

  module _ (ws : List ℕ) (lives : IsTrue (has_chunk (with_bytes states (place_of slot.state) ws) slot.state))
      (keeps : KeepsChunks (chunks_of states) (chunks_of (with_bytes states (place_of slot.state) ws)) slot.state slot.state) where
    abbrev after : TreeState
    after = with_context tree t.states (with_bytes states (place_of slot.state) ws)

    states_is : context_at after t.states ≡ with_bytes states (place_of slot.state) ws
    states_is = at_same tree t.states (with_bytes states (place_of slot.state) ws) is.standing.placed.states.within

    only : OnlyIn t.states tree after
    only = ap (λ (c : Context). with_context tree t.states c) (sym states_is)

    buckets_same : context_at after t.buckets ≡ context_at tree t.buckets
    buckets_same = at_other tree t.states (with_bytes states (place_of slot.state) ws) t.buckets is.standing.placed.states_apart.differ

    keys_same : context_at after t.keys ≡ context_at tree t.keys
    keys_same = at_other tree t.states (with_bytes states (place_of slot.state) ws) t.keys is.standing.placed.both_apart.differ

    -- another group's state is in another chunk
    apart : (i j : ℕ) → (x : Slot) → slice_get t.slots i ≡ Some slot → slice_get t.slots j ≡ Some x → j ≢ i
        → same_place (place_of slot.state) (place_of x.state) ≡ false
    apart i j x at_i at_j differ = grind (arith, nat_tests, common_steps)

    live_at : (x : Slot) → IsSlot t x → IsTrue (has_chunk (context_at after t.states) x.state)
    live_at x (j, at_j) = search rules

    pub table_written : IsTableIn hash_of t after
    table_written = record {
      standing = record {
        placed = placed_kept t tree after (same_links t.states tree after only) (same_number t.states tree after only) is.standing.placed;
        stands = record {
          set = simp (buckets_same, keys_same) is.standing.stands.set;
          run = subst IsBump (sym keys_same) is.standing.stands.run;
          slab = subst (IsSlabOf t.width) (sym states_is) (slab_wrote t.width states (place_of slot.state) ws is.standing.stands.slab);
          width = is.standing.stands.width;
          groups = subst (λ (k : Context). AreGroups t k (context_at after t.states)) (sym keys_same)
              (other_states hash_of t (context_at tree t.keys) states (context_at after t.states) live_at is.standing.stands.groups);
        };
      };
      space = subst (IsSetWith (HasSpace t.array)) (sym buckets_same) is.space;
    }

    pub others_written : KeepsOthers t tree after
    others_written = only_its_own t t.states tree after only (λ slot not_buckets not_keys not_states. not_states)

    pub groups_written : (i : ℕ) → slice_get t.slots i ≡ Some slot → chunk_bytes (with_bytes states (place_of slot.state) ws) slot.state
        ≡ ws → groups t after ≡ slice_set (groups t tree) i (key_in t tree slot, ws)
    groups_written i at_i holds =
        map_set (group_in t after) (group_in t tree) t.slots i slot at_i other
        ∙ ap (λ v. slice_set (groups t tree) i v)
        (ap (λ (c : Context). (chunk_bytes c slot.key, chunk_bytes (context_at after t.states) slot.state)) keys_same
        ∙ ap (λ (c : Context). (key_in t tree slot, chunk_bytes c slot.state)) states_is
        ∙ ap (λ bs. (key_in t tree slot, bs)) holds)
      where
        other : (j : ℕ) → (x : Slot) → slice_get t.slots j ≡ Some x → j ≢ i → group_in t after x ≡ group_in t tree x
        other j x at_j differ =
            ap (λ (c : Context). (chunk_bytes c x.key, chunk_bytes (context_at after t.states) x.state)) keys_same
            ∙ ap (λ (c : Context). (key_in t tree x, chunk_bytes c x.state)) states_is
            ∙ ap (λ bs. (key_in t tree x, bs))
            (keeps x.state (apart i j x at_i at_j differ) (is.standing.stands.groups.states_live x (j, at_j))).2
