-- What a table holds is what is counted for its keys.
use Rattle.std.specs.Prelude.{◌≡◌, ◌≢◌, refl, ℕ, zero, suc, ◌+◌, ◌-◌, ◌*◌, ◌<◌, ◌≤◌, ◌⊎◌, ◌==◌, ◌&&◌, ◌^◌, nat_le, ◌/◌, if◌then◌else◌, true}
use Rattle.std.specs.Prelude.{false, cond, List, [], ◌∷◌, ◌++◌, Option, Some, None, map, length, replicate, get_or, is_some, IsTrue, Result}
use Rattle.std.specs.Prelude.{Ok, Err, OnOk}
use Rattle.std.proofs.Common.{inl, inr, sym, ◌∙◌, ap, subst, arith, rules}
use Rattle.std.proofs.lemmas.Bool.{le-leb, leb-true, false_from_ne_true, false≢true, eq-eqb, ne_eqb, and_right}
use Rattle.std.proofs.lemmas.List.{length-map, length_push}
use Rattle.std.proofs.lemmas.Simd.{map-map}
use Rattle.group_table.proofs.Words.{ChunkContents, total, rewritten, is_at, with_bytes_of, Place, ChunkName, rounded, SetState, set_room}
use Rattle.group_table.proofs.Words.{set_growth, set_taken, blocks_of, chunk_bytes, with_bytes, with_chunk, reset_context, room_in}
use Rattle.group_table.proofs.Words.{growth_of, held_by, IsCounted, TreeState, context_at, with_context, held_below, Context, AllocSet}
use Rattle.group_table.proofs.Words.{Slab, Bump, Key, buckets, bucket_blocks, key_blocks, state_blocks, need, held_after, fits, TableState}
use Rattle.group_table.proofs.Words.{groups, buckets_in, buckets_for, most_buckets, array_growth, group_growth, held_in, IsSameBut}
use Rattle.group_table.proofs.Words.{IsSetWith, IsBump, IsSlabOf, IsFirst, HasArray, HasSpace, IsPlaced, IsTableIn, IsSameFor, OnlyIn}
use Rattle.group_table.proofs.Words.{with_next, with_spare, AreMade, ContextId, key_of, keys_in, IsRunWith, IsSlabWith, HoldsArray}
use Rattle.group_table.proofs.Words.{AreArraysHeld, HoldsNext, HoldsKeyBlocks, AreOfSize, HoldsStates, HoldsKeys, Slot}
use Rattle.block_memory.specs.Cells.{zeros}
use Rattle.chunk_contexts.specs.Chunks.{chunk_of as as_chunk}
use Rattle.chunk_contexts.specs.Run.{RunState}
use Rattle.chunk_contexts.specs.Slab.{SlabState, slab_block, slab_growth, slab_taken}
use Rattle.group_table.specs.declared.children.Children.{Children}
use Rattle.group_table.proofs.BlockLaws.{same_or_twice, wanted_is, count_is, array_grows, space_held, still_held, first_taken, larger_taken}
use Rattle.group_table.proofs.CountLaws.{key_grows, state_grows, state_growth_is, one_state_more}
use Rattle.group_table.proofs.StandLaws.{StateOf, SetOf, set_of, set_with}
use Rattle.group_table.proofs.InsertLaws.{keys_left, states_left}
use Rattle.group_table.proofs.TakeLaws.{not_over}
use Rattle.group_table.proofs.TreeFacts.{at_same, at_other, held_with}
use Rattle.group_table.proofs.ClearLaws.{total_none}
use Rattle.std.proofs.Math.Bool.{and-true}
use Rattle.std.proofs.lemmas.Bool.Decides.{nat_tests}
use Rattle.std.proofs.lemmas.Grind.{common_steps}

-- the run of a bump, and what a slab holds
pub run_of : (P : RunState → Type 0) (c : Context) → IsRunWith P c → StateOf Bump P c
run_of P (Bump s) with = record { state = s; is = refl; with = with }
run_of P _ none = absurd none

pub slab_of : (P : SlabState → Type 0) (c : Context) → IsSlabWith P c → StateOf Slab P c
slab_of P (Slab s) with = record { state = s; is = refl; with = with }
slab_of P _ none = absurd none

-- no state takes no block
pub no_states : (width : ℕ) → state_blocks width 0 ≡ 0
no_states width = grind (arith, nat_tests, common_steps)

module _ {H : Type 0} (t : TableState H) where
  -- keys are those of one context
  keys_from : (tree : TreeState) → keys_in t tree ≡ map (λ (slot : Slot). chunk_bytes (context_at tree t.keys) slot.key) t.slots
  keys_from tree = map-map key_of (λ (slot : Slot). (
    chunk_bytes (context_at tree t.keys) slot.key,
    chunk_bytes (context_at tree t.states)
        slot.state,
  )) t.slots

  pub keys_alone : (before after : TreeState) → context_at after t.keys ≡ context_at before t.keys → keys_in t after ≡ keys_in t before
  keys_alone before after same = keys_from after ∙ ap (λ (c : Context). map (λ (slot : Slot). chunk_bytes c slot.key) t.slots) same
      ∙ sym (keys_from before)

  pub as_many_keys : (tree : TreeState) → length (keys_in t tree) ≡ length t.slots
  as_many_keys tree = ap length (keys_from tree) ∙ length-map t.slots (λ (slot : Slot). chunk_bytes (context_at tree t.keys) slot.key)

  keys_more : (tree : TreeState) (key : Key) → length (keys_in t tree ++ key ∷ []) ≡ length t.slots + 1
  keys_more tree key = length_push (keys_in t tree) key ∙ ap (λ n. n + 1) (as_many_keys tree)

-- ---- one group more
module _ {H : Type 0} (hash_of : H → List ℕ → ℕ) (t : TableState H) (tree : TreeState) (is : IsTableIn hash_of t tree)
    (holds : HoldsKeys t tree) where
  abbrev b : Context
  b = context_at tree t.buckets

  abbrev n : ℕ
  n = length t.slots

  abbrev P : SetState → Type 0
  P s = IsFirst s × HasArray hash_of t (context_at tree t.keys) t.array s

  set : SetOf P b
  set = set_of P b is.standing.stands.set

  array_held : HoldsArray t.array n set.state
  array_held = subst (IsSetWith (HoldsArray t.array n)) set.is holds.in_buckets

  has_space : HasSpace t.array set.state
  has_space = subst (IsSetWith (HasSpace t.array)) set.is is.space

  wanted : buckets_for (buckets_in t.array) n ≡ buckets (n + 1)
  wanted = wanted_is t.array n set.state array_held

  module _ (key : Key) where
    abbrev keys : List Key
    keys = keys_in t tree ++ key ∷ []

    -- more buckets than there may be
    pub none_fit : most_buckets < buckets_for (buckets_in t.array) n → (limit : ℕ) (hash : Key → ℕ) → false
        ≡ fits (record { limit = limit; width = t.width; hash = hash }) keys
    none_fit many limit hash =
        let over : nat_le (buckets (length keys)) (2 ^ 24) ≡ false = ap (λ m. nat_le (buckets m) (2 ^ 24)) (keys_more t tree key)
        ∙ false_from_ne_true (nat_le (buckets (n + 1)) (2 ^ 24))
        (λ low. omega (arith, wanted, many, leb-true (buckets (n + 1)) (2 ^ 24) low)) in
        sym (and_right (nat_le (need t.width keys) limit) (nat_le (buckets (length keys)) (2 ^ 24)) over)

    module _ (short : length key ≤ 65535) (counted : IsCounted (context_at tree t.states))
        (few : buckets_for (buckets_in t.array) n ≤ most_buckets) where
      buckets_grow : held_by b + array_growth t tree ≡ bucket_blocks (buckets n) (buckets (n + 1))
      buckets_grow =
          ap (λ (c : Context). held_by c + cond (buckets_for (buckets_in t.array) n == buckets_in t.array) 0
          (growth_of c (buckets_for (buckets_in t.array) n * 32))) set.is
          ∙ ap (λ w. total set.state.blocks + cond (w == buckets_in t.array) 0 (set_growth set.state (w * 32))) wanted
          ∙ array_grows t.array n set.state set.with.0 has_space array_held (subst (λ w. w ≤ most_buckets) wanted few)

      keys_grow : held_by (context_at tree t.keys) + growth_of (context_at tree t.keys) (length key) ≡ key_blocks keys
      keys_grow =
          let run = run_of (HoldsKeyBlocks (keys_in t tree)) (context_at tree t.keys) holds.in_keys in
          ap (λ (c : Context). held_by c + growth_of c (length key)) run.is
          ∙ key_grows run.state (keys_in t tree) key run.with (not_over (length key) (omega (arith, short)))

      states_grow : held_by (context_at tree t.states) + growth_of (context_at tree t.states) t.width ≡ state_blocks t.width (n + 1)
      states_grow =
          let slab = slab_of (HoldsStates t.width n) (context_at tree t.states) holds.in_states in
          let free = subst IsCounted slab.is counted in
          ap (λ (c : Context). held_by c + growth_of c t.width) slab.is
          ∙ ap (λ m. total slab.state.blocks + m) (state_growth_is t.width n slab.state slab.with free is.standing.stands.width)
          ∙ state_grows t.width n slab.state slab.with free

      pub need_is : held_below tree t.parent + group_growth t tree (length key) ≡ need t.width keys
      need_is =
          let before : n + 1 - 1 ≡ n = omega arith in
          let counts : need t.width keys ≡ bucket_blocks (buckets n) (buckets (n + 1)) + key_blocks keys + state_blocks t.width (n + 1) =
          ap (λ m. bucket_blocks (buckets (m - 1)) (buckets m) + key_blocks keys + state_blocks t.width m) (keys_more t tree key)
          ∙ ap (λ m. bucket_blocks (buckets m) (buckets (n + 1)) + key_blocks keys + state_blocks t.width (n + 1)) before in
          omega (arith, holds.alone, buckets_grow, keys_grow, states_grow, counts)

      pub fit_is : (bytes : ℕ) → bytes ≡ held_below tree t.parent + group_growth t tree (length key) → (limit : ℕ) (hash : Key → ℕ)
          → nat_le bytes limit ≡ fits (record { limit = limit; width = t.width; hash = hash }) keys
      fit_is bytes told limit hash =
          let low : nat_le (buckets (length keys)) (2 ^ 24) ≡ true = ap (λ m. nat_le (buckets m) (2 ^ 24)) (keys_more t tree key)
          ∙ le-leb (buckets (n + 1)) (2 ^ 24) (omega (arith, wanted, few)) in
          ap (λ m. nat_le m limit) (told ∙ need_is) ∙ sym (ap (λ b. nat_le (need t.width keys) limit && b) low
          ∙ and-true (nat_le (need t.width keys) limit))

  -- what is held between two groups
  key_blocks_held : held_by (context_at tree t.keys) ≡ key_blocks (keys_in t tree)
  key_blocks_held = let run = run_of (HoldsKeyBlocks (keys_in t tree)) (context_at tree t.keys) holds.in_keys in ap held_by run.is
      ∙ run.with.held

  state_blocks_held : held_by (context_at tree t.states) ≡ state_blocks t.width n
  state_blocks_held = let slab = slab_of (HoldsStates t.width n) (context_at tree t.states) holds.in_states in ap held_by slab.is
      ∙ slab.with.held

  some_held_by : (array : Option ChunkName) → 0 < n → HoldsArray array n set.state → total set.state.blocks
      ≡ bucket_blocks (buckets n) (buckets n)
  some_held_by None some held = absurd (omega (arith, some, held))
  some_held_by (Some name) some held = held.held

  pub some_held : 0 < n → held_below tree t.parent ≡ held_after t.width (keys_in t tree)
  some_held some =
      let array : held_by b ≡ bucket_blocks (buckets n) (buckets n) = ap held_by set.is ∙ some_held_by t.array some array_held in
      let counts : held_after t.width (keys_in t tree) ≡ bucket_blocks (buckets n) (buckets n) + key_blocks (keys_in t tree)
      + state_blocks t.width n =
      ap (λ m. bucket_blocks (buckets m) (buckets m) + key_blocks (keys_in t tree) + state_blocks t.width m) (as_many_keys t tree) in
      omega (arith, holds.alone, array, key_blocks_held, state_blocks_held, counts)

  none_held_by : (array : Option ChunkName) → n ≡ 0 → HoldsArray array n set.state → HasSpace array set.state
      → total set.state.blocks ≤ 16384
  none_held_by None none held space = space_held set.state space
  none_held_by (Some name) none held space = absurd (omega (arith, none, held.some))

  no_keys : (ks : List Key) → length ks ≡ 0 → key_blocks ks ≡ 0
  no_keys [] none = refl
  no_keys (k ∷ ks) none = absurd (omega (arith, none))

  pub none_held : n ≡ 0 → held_below tree t.parent ≤ 16384
  none_held none =
      let keys : key_blocks (keys_in t tree) ≡ 0 = no_keys (keys_in t tree) (as_many_keys t tree ∙ none) in
      let states : state_blocks t.width n ≡ 0 = ap (state_blocks t.width) none ∙ no_states t.width in
      omega (
        arith,
        holds.alone,
        ap held_by set.is,
        none_held_by t.array none array_held has_space,
        key_blocks_held,
        keys,
        state_blocks_held,
        states,
      )

-- ---- the same groups
module _ {H : Type 0} (t : TableState H) (before after : TreeState) where
  pub holds_stay : IsSameFor t before after → held_below after t.parent ≡ held_below before t.parent → HoldsKeys t before
      → HoldsKeys t after
  holds_stay same held holds = grind (arith, nat_tests, common_steps)

pub holds_spare : {H : Type 0} (t : TableState H) (n : ℕ) (tree : TreeState) → HoldsKeys t tree → HoldsKeys (with_spare t n) tree
holds_spare t n tree holds = record {
  alone = holds.alone;
  in_buckets = holds.in_buckets;
  in_keys = holds.in_keys;
  in_states =
      holds.in_states;
}

-- ---- one group more was taken
module _ {H : Type 0} (t : TableState H) (tree : TreeState) (now : TableState H) (after : TreeState) (same : IsSameBut t now)
    (key state : List ℕ) (slot : Slot) where
  pub holds_more : now.slots ≡ t.slots ++ slot ∷ [] → groups now after ≡ groups t tree ++ (key, state) ∷ [] → held_below after t.parent
      ≡ held_in t after
      → IsSetWith (HoldsArray now.array (length t.slots + 1)) (context_at after t.buckets)
      → IsRunWith (HoldsKeyBlocks (keys_in t tree ++ key ∷ [])) (context_at after t.keys)
      → IsSlabWith (HoldsStates t.width (length t.slots + 1)) (context_at after t.states) → HoldsKeys now after
  holds_more slots more alone in_buckets in_keys in_states = grind (arith, nat_tests, common_steps)

-- ---- a chunk is taken for a key, and for a state
pub run_more : (c now : Context) (key : Key) (name : ChunkName) → now
    ≡ with_chunk c (length key) (as_chunk name (room_in c (length key)) key) → held_by now ≡ held_by c + growth_of c (length key)
    → length key ≤ 65535
    → (keys : List Key) → IsRunWith (HoldsKeyBlocks keys) c → IsRunWith (HoldsKeyBlocks (keys ++ key ∷ [])) now
run_more c now key name is more short keys holds = grind (arith, nat_tests, common_steps)

pub slab_more : (c now : Context) (width : ℕ) (state : List ℕ) (name : ChunkName) → now
    ≡ with_chunk c (length state) (as_chunk name (room_in c (length state)) state) → held_by now ≡ held_by c + growth_of c (length state)
    → length state ≡ width
    → width ≤ 65535 → IsCounted c → (number : ℕ) → IsSlabWith (HoldsStates width number) c → IsSlabWith (HoldsStates width (number + 1)) now
slab_more c now width state name is more long low counted number holds =
    let slab = slab_of (HoldsStates width number) c holds in
    let free = subst IsCounted slab.is counted in
    let p : ChunkContents = as_chunk name (rounded (length state)) state in
    let taken : now ≡ Slab (slab_taken slab.state p) = is
    ∙ ap (λ (x : Context). with_chunk x (length state) (as_chunk name (room_in x (length state)) state)) slab.is in
    let grown : held_by now ≡ total slab.state.blocks + slab_growth slab.state width =
    more ∙ ap (λ (x : Context). held_by x + growth_of x (length state)) slab.is
    ∙ ap (λ n. total slab.state.blocks + slab_growth slab.state n) long in
    subst (IsSlabWith (HoldsStates width (number + 1))) (sym taken)
    (one_state_more width number slab.state slab.with free p (sym (ap held_by taken) ∙ grown
    ∙ ap (λ n. total slab.state.blocks + n) (state_growth_is width number slab.state slab.with free low)))

-- ---- a chunk is taken for the next array
pub set_map : (P Q : SetState → Type 0) (c : Context) → ((s : SetState) → P s → Q s) → IsSetWith P c → IsSetWith Q c
set_map P Q c f holds = let set = set_of P c holds in set_with Q c set.state set.is (f set.state set.with)

module _ {H : Type 0} (hash_of : H → List ℕ → ℕ) (t : TableState H) (tree : TreeState) (is : IsTableIn hash_of t tree) where
  abbrev w : ℕ
  w = buckets_for (buckets_in t.array) (length t.slots)

  pub none_taken : (wanted count : ℕ) → wanted ≡ w → count ≡ buckets_in t.array → wanted ≡ count
      → IsSetWith (HoldsArray t.array (length t.slots)) (context_at tree t.buckets)
      → IsSetWith (HoldsNext t.array None (length t.slots)) (context_at tree t.buckets)
  none_taken wanted count is_wanted is_count same =
      set_map (HoldsArray t.array (length t.slots)) (HoldsNext t.array None (length t.slots)) (context_at tree t.buckets) (λ s held.
      still_held t.array (length t.slots) s held (sym is_count ∙ sym same ∙ is_wanted ∙ wanted_is t.array (length t.slots) s held))

  module _ (after : TreeState) (n : ℕ) (name : ChunkName) (few : w ≤ most_buckets) (grows : w ≢ buckets_in t.array) (long : n ≡ w * 32)
      (space : after ≡ with_context tree t.buckets
      (with_chunk (context_at tree t.buckets) n (as_chunk name (room_in (context_at tree t.buckets) n) (zeros n))))
      (len : name.len ≡ n) (more : held_by (context_at after t.buckets) ≡ held_by (context_at tree t.buckets)
      + growth_of (context_at tree t.buckets) n)
      (there : IsTrue (is_some (get_or (blocks_of (context_at after t.buckets)) name.block None)))
      (holds : IsSetWith (HoldsArray t.array (length t.slots)) (context_at tree t.buckets)) where
    abbrev before : Context
    before = context_at tree t.buckets

    abbrev old : SetOf (λ s. IsFirst s × HasArray hash_of t (context_at tree t.keys) t.array s) before
    old = set_of (λ s. IsFirst s × HasArray hash_of t (context_at tree t.keys) t.array s) before is.standing.stands.set

    abbrev s : SetState
    s = old.state

    abbrev k : ℕ
    k = length t.slots

    array_was : HoldsArray t.array k s
    array_was = subst (IsSetWith (HoldsArray t.array k)) old.is holds

    space_was : HasSpace t.array s
    space_was = subst (IsSetWith (HasSpace t.array)) old.is is.space

    wanted_now : w ≡ buckets (k + 1)
    wanted_now = wanted_is t.array k s array_was

    abbrev taken_for : ℕ → SetState
    taken_for m = set_taken s m (as_chunk name (set_room m) (zeros m))

    length_is : n ≡ buckets (k + 1) * 32
    length_is = long ∙ ap (λ m. m * 32) wanted_now

    abbrev taken : SetState
    taken = taken_for (buckets (k + 1) * 32)

    is_taken : context_at after t.buckets ≡ AllocSet taken
    is_taken =
        ap (λ (x : TreeState). context_at x t.buckets) space
        ∙ at_same tree t.buckets (with_chunk before n (as_chunk name (room_in before n) (zeros n))) is.standing.placed.buckets.within
        ∙ ap (λ (c : Context). with_chunk c n (as_chunk name (room_in c n) (zeros n))) old.is
        ∙ ap (λ m. AllocSet (taken_for m)) length_is

    not_same : (buckets (k + 1) == buckets_in t.array) ≡ false
    not_same = ne_eqb (buckets (k + 1)) (buckets_in t.array) (λ same. grows (wanted_now ∙ same))

    sum : total taken.blocks ≡ bucket_blocks (buckets k) (buckets (k + 1))
    sum =
        ap held_by (sym is_taken) ∙ more ∙ ap (λ (c : Context). held_by c + growth_of c n) old.is
        ∙ ap (λ m. total s.blocks + set_growth s m) length_is
        ∙ sym (ap (λ b. total s.blocks + cond b 0 (set_growth s (buckets (k + 1) * 32))) not_same)
        ∙ array_grows t.array k s old.with.0 space_was array_was (subst (λ m. m ≤ most_buckets) wanted_now few)

    block_there : is_some (get_or taken.blocks name.block None) ≡ true
    block_there = subst (λ (c : Context). is_some (get_or (blocks_of c) name.block None) ≡ true) is_taken there

    abbrev p : ChunkContents
    p = as_chunk name (set_room (buckets (k + 1) * 32)) (zeros (buckets (k + 1) * 32))

    taken_by : (array : Option ChunkName) → HoldsArray array k s → (buckets (k + 1) == buckets_in array) ≡ false
        → AreArraysHeld taken array name k
    taken_by None was differ = first_taken s k name p was (len ∙ length_is) sum
    taken_by (Some other) was differ = larger_taken s k name p (twice (same_or_twice k)) refl refl (len ∙ length_is) block_there sum other
        was
      where
        twice : (buckets (k + 1) ≡ buckets k) ⊎ (buckets (k + 1) ≡ 2 * buckets k) → buckets (k + 1) ≡ 2 * buckets k
        twice (inl same) = absurd
            (false≢true (sym differ ∙ eq-eqb (buckets (k + 1)) (other.len / 32) (same ∙ sym (count_is other k s was))))
        twice (inr is) = is

    pub next_taken : IsSetWith (HoldsNext t.array (Some name) k) (context_at after t.buckets)
    next_taken = set_with (HoldsNext t.array (Some name) k) (context_at after t.buckets) taken is_taken
        (taken_by t.array array_was not_same)

-- ---- the state of a group is written over
length_rewritten : (ps : List ChunkContents) (place : Place) (bytes : List ℕ) → length (rewritten ps place bytes) ≡ length ps
length_rewritten [] place bytes = refl
length_rewritten (p ∷ ps) place bytes = elim (is_at place p) as (λ b. length (if b then with_bytes_of p bytes ∷ ps else p
    ∷ rewritten ps place bytes) ≡ length (p ∷ ps)) [
      | true ↦ refl
      | false ↦ omega (arith, length_rewritten ps place bytes)
    ]

slab_alone : (width number : ℕ) (c : Context) (place : Place) (ws : List ℕ) → IsSlabWith (HoldsStates width number) c
    → IsSlabWith (HoldsStates width number) (with_bytes c place ws) × (held_by (with_bytes c place ws) ≡ held_by c)
slab_alone width number (Slab s) place ws is = (
  record {
    size = is.size;
    chunks = length_rewritten s.chunks place ws
        ∙ is.chunks;
    alike = is.alike;
    held = is.held;
  },
  refl,
)
slab_alone width number _ place ws none = absurd none

module _ {H : Type 0} (t : TableState H) (tree : TreeState) (placed : IsPlaced t tree) (place : Place) (ws : List ℕ) where
  abbrev now : Context
  now = with_bytes (context_at tree t.states) place ws

  abbrev after : TreeState
  after = with_context tree t.states now

  pub holds_written : HoldsKeys t tree → HoldsKeys t after
  holds_written holds =
      let told = slab_alone t.width (length t.slots) (context_at tree t.states) place ws holds.in_states in
      let states : context_at after t.states ≡ now = at_same tree t.states now placed.states.within in
      let keys : context_at after t.keys ≡ context_at tree t.keys = at_other tree t.states now t.keys placed.both_apart.differ in
      let array : context_at after t.buckets ≡ context_at tree t.buckets = at_other tree t.states now t.buckets placed.states_apart.differ
      in
      record {
        alone = omega (
          arith,
          held_with tree t.parent t.states now placed.states.below placed.states.within,
          holds.alone,
          told.1,
          ap held_by
              states,
          ap held_by keys,
          ap held_by array,
        );
        in_buckets = subst (IsSetWith (HoldsArray t.array (length t.slots))) (sym array) holds.in_buckets;
        in_keys = subst (λ ks. IsRunWith (HoldsKeyBlocks ks) (context_at after t.keys)) (sym (keys_alone t tree after keys))
            (subst (IsRunWith (HoldsKeyBlocks (keys_in t tree))) (sym keys) holds.in_keys);
        in_states = subst (IsSlabWith (HoldsStates t.width (length t.slots))) (sym states) told.0;
      }

-- ---- no group
none_of_size : (size n : ℕ) → AreOfSize size (replicate n None)
none_of_size size zero = tt
none_of_size size (suc n) = none_of_size size n

pub run_empty : (c : Context) → IsBump c → IsRunWith (HoldsKeyBlocks []) (reset_context c)
run_empty (Bump s) is = record { held = total_none (length s.blocks); left = refl }
run_empty _ none = absurd none

pub slab_empty : (width : ℕ) (c : Context) → IsSlabOf width c → IsSlabWith (HoldsStates width 0) (reset_context c)
slab_empty width (Slab s) is = record {
  size = is;
  chunks = refl;
  alike = none_of_size (slab_block (rounded width)) (length s.blocks);
  held = total_none (length s.blocks) ∙ sym (no_states width);
}
slab_empty width _ none = absurd none

-- a table that was just made
module _ {H : Type 0} (before after : TreeState) (parent : ContextId) (width : ℕ) (made : Children)
    (is : AreMade before after parent width made) (hash : H) (spare : ℕ) where
  abbrev fresh : TableState H
  fresh = record {
    parent = parent;
    buckets = made.buckets;
    keys = made.keys;
    states = made.states;
    width = width;
    hash = hash;
    array =
        None;
    slots = [];
    spare = spare;
  }

  pub holds_fresh : held_below before parent ≡ 0 → HoldsKeys fresh after
  holds_fresh none = search rules

-- ---- what is kept while a group is taken
pub ok_map : {T E P Q : Type 0} → (r : Result T E) → (P → Q) → OnOk r P → OnOk r Q
ok_map (Ok x) f p = f p
ok_map (Err e) f p = tt

module _ {H : Type 0} (t : TableState H) (next : Option ChunkName) (replaced : TableState H) (is : replaced ≡ with_next t next)
    (b e d : TreeState)
    (placed_b : IsPlaced t b) (only_e : OnlyIn t.buckets b e) (placed_e : IsPlaced replaced e) (only_d : OnlyIn replaced.buckets e d) where
  pub buckets_at : replaced.buckets ≡ t.buckets
  buckets_at = ap (λ (x : TableState H). x.buckets) is

  keys_at : replaced.keys ≡ t.keys
  keys_at = ap (λ (x : TableState H). x.keys) is

  states_at : replaced.states ≡ t.states
  states_at = ap (λ (x : TableState H). x.states) is

  pub keys_after : context_at d t.keys ≡ context_at b t.keys
  keys_after = subst (λ id. context_at d id ≡ context_at e id) keys_at (keys_left replaced e d only_d placed_e)
      ∙ keys_left t b e only_e placed_b

  pub states_after : context_at d t.states ≡ context_at b t.states
  states_after = subst (λ id. context_at d id ≡ context_at e id) states_at (states_left replaced e d only_d placed_e)
      ∙ states_left t b e only_e placed_b
