-- A chunk for the next array is taken.
use Rattle.std.specs.Prelude.{◌≡◌, ◌≢◌, refl, ℕ, suc, ◌+◌, ◌*◌, ◌/◌, ◌<◌, ◌≤◌, max, nat_le, nat_lt, Bool, true, false, if◌then◌else◌, List}
use Rattle.std.specs.Prelude.{[], Option, Some, None, length, get_or, slice_range, is_some, unwrap_or, IsTrue}
use Rattle.std.proofs.Common.{sym, ◌∙◌, ap, subst, arith}
use Rattle.std.proofs.lemmas.Bool.{leb-true, false_from_ne_true}
use Rattle.block_memory.specs.Cells.{zeros}
use Rattle.group_table.proofs.Words.{total, ChunkName, is_live, Keeps, over_most, SetState, set_room, set_growth, set_taken, chunks_of}
use Rattle.group_table.proofs.Words.{blocks_of, has_chunk, chunk_bytes, with_chunk, room_in, growth_of, held_by, TreeState, context_at}
use Rattle.group_table.proofs.Words.{with_context, Context, AllocSet, number_at, bucket_in, bucket_at, TableState, buckets_in, buckets_for}
use Rattle.group_table.proofs.Words.{most_buckets, array_growth, IsSetWith, IsFirst, IsBesideFirst, HasArray, HasSpace, IsBump, IsSlabOf}
use Rattle.group_table.proofs.Words.{AreGroups, IsPlaced, IsStanding, IsTableIn, IsArrayIn, OnlyIn, IsSpare, count_of, MOST}
use Rattle.chunk_contexts.specs.Chunks.{chunk_of}
use Rattle.chunk_contexts.specs.declared.error.ContextError.TheVariants.{TooLarge}
use Rattle.group_table.proofs.SetFacts.{large_first, large_some, large_chunks, large_same, large_beside, first_first, first_some}
use Rattle.group_table.proofs.SetFacts.{first_beside, taken_first}
use Rattle.group_table.proofs.StandLaws.{SetOf, set_of, set_with, array_beside}
use Rattle.group_table.proofs.TreeFacts.{at_same, placed_kept, same_links, same_number}
use Rattle.group_table.proofs.InsertLaws.{keys_left, states_left}
use Rattle.std.proofs.lemmas.Option.{none-some}
use Rattle.std.proofs.lemmas.Bool.Decides.{nat_tests}
use Rattle.std.proofs.lemmas.Grind.{common_steps}

-- how many buckets are wanted
module _ (count number : ℕ) (full : 4 * number ≤ 3 * count) where
  abbrev wanted : ℕ
  wanted = buckets_for count number

  pub larger : wanted ≢ count → wanted ≡ max 256 (2 * count)
  larger differ = grind (arith, nat_tests)

  pub roomy : 256 ≤ count → wanted ≢ count → 4 * (number + 1) ≤ 3 * wanted
  roomy some differ = omega (arith, some, full, larger differ)

-- where no more are wanted, there is room for one more group
room_by : (b : Bool) (count number : ℕ) → nat_le (4 * (number + 1)) (3 * count) ≡ b → (if b then count else max 256 (2 * count)) ≡ count → 4
    * (number + 1) ≤ 3 * count
room_by true count number is same = leb-true (4 * (number + 1)) (3 * count) is
room_by false count number is same = absurd (omega (arith, same))

pub room_left : (a : Option ChunkName) (number : ℕ) → buckets_for (buckets_in a) number ≡ buckets_in a → (name : ChunkName)
    × (a ≡ Some name) × (4 * (number + 1) ≤ 3 * count_of name)
room_left None number same = absurd (omega (arith, room_by (nat_le (4 * (number + 1)) (3 * 0)) 0 number refl same))
room_left (Some name) number same = (name, refl, room_by (nat_le (4 * (number + 1)) (3 * (name.len / 32))) (name.len / 32) number refl same)

-- and else the next array grows by what it takes
pub array_grown : {H : Type 0} (t : TableState H) (tree : TreeState) → buckets_for (buckets_in t.array) (length t.slots) ≢ buckets_in
    t.array → array_growth t tree ≡ growth_of (context_at tree t.buckets) (buckets_for (buckets_in t.array) (length t.slots) * 32)
array_grown t tree differ = grind (arith, nat_tests, common_steps)

-- zeros are free buckets
zero_at : (n i : ℕ) → get_or (zeros n) i 0 ≡ 0
unfolding zeros
zero_at n i = search (Rattle.std.proofs.Common.rules, Rattle.std.proofs.lemmas.List.places)

zero_in : (xs : List ℕ) → ((i : ℕ) → get_or xs i 0 ≡ 0) → (a b i : ℕ) → get_or (slice_range xs a b) i 0 ≡ 0
zero_in xs none a b i = grind (arith, nat_tests, common_steps)

no_number : (bytes : List ℕ) (at : ℕ) → ((i : ℕ) → get_or bytes i 0 ≡ 0) → number_at bytes at ≡ 0
unfolding number_at
no_number bytes at none = rw (none at, none (at + 1), none (at + 2), none (at + 3))

pub none_in_zeros : (n place : ℕ) → bucket_at (zeros n) place ≡ None
unfolding bucket_at bucket_in
none_in_zeros n place = rw (no_number (slice_range (zeros n) (place * 32) (place * 32 + 32)) 28
    (zero_in (zeros n) (zero_at n) (place * 32) (place * 32 + 32)))

pub not_over : (n : ℕ) → n ≤ MOST → over_most n ≡ None
not_over n low = ap (λ b. if b then Some TooLarge else None)
    (false_from_ne_true (nat_lt MOST n) (λ is. omega (arith, low, leb-true (suc MOST) n is)))

-- the chunk that is taken
pub record Taken {H : Type 0} (hash_of : H → List ℕ → ℕ) (t : TableState H) (tree after : TreeState) (name : ChunkName) : Type 0 where
  pub standing : IsStanding hash_of t after
  pub spare : IsSpare t after name

module _ {H : Type 0} (hash_of : H → List ℕ → ℕ) (t : TableState H) (tree after : TreeState) (is : IsTableIn hash_of t tree) (n : ℕ)
    (name : ChunkName) where
  abbrev b : Context
  b = context_at tree t.buckets

  abbrev keys : Context
  keys = context_at tree t.keys

  abbrev w : ℕ
  w = buckets_for (buckets_in t.array) (length t.slots)

  module _ (few : w ≤ most_buckets) (grows : w ≢ buckets_in t.array) (long : n ≡ w * 32)
      (space : after ≡ with_context tree t.buckets (with_chunk b n (chunk_of name (room_in b n) (zeros n))))
      (len : name.len ≡ n) (lives : IsTrue (has_chunk (context_at after t.buckets) name))
      (holds : chunk_bytes (context_at after t.buckets) name ≡ zeros n)
      (keeps : Keeps (chunks_of b) (chunks_of (context_at after t.buckets)) name)
      (more : held_by (context_at after t.buckets) ≡ held_by b + growth_of b n)
      (there : IsTrue (is_some (get_or (blocks_of (context_at after t.buckets)) name.block None))) where
    abbrev P : SetState → Type 0
    P s = IsFirst s × HasArray hash_of t keys t.array s

    abbrev now : SetOf P b
    now = set_of P b is.standing.stands.set

    abbrev s : SetState
    s = now.state

    abbrev taken : SetState
    taken = set_taken s n (chunk_of name (set_room n) (zeros n))

    is_taken : context_at after t.buckets ≡ AllocSet taken
    is_taken =
        ap (λ (x : TreeState). context_at x t.buckets) space
        ∙ at_same tree t.buckets (with_chunk b n (chunk_of name (room_in b n) (zeros n))) is.standing.placed.buckets.within
        ∙ ap (λ (c : Context). with_chunk c n (chunk_of name (room_in c n) (zeros n))) now.is

    only : OnlyIn t.buckets tree after
    only = space ∙ ap (λ (c : Context). with_context tree t.buckets c) (sym (ap (λ (x : TreeState). context_at x t.buckets) space
        ∙ at_same tree t.buckets (with_chunk b n (chunk_of name (room_in b n) (zeros n))) is.standing.placed.buckets.within))

    placed : IsPlaced t after
    placed = placed_kept t tree after (same_links t.buckets tree after only) (same_number t.buckets tree after only) is.standing.placed

    same_keys : context_at after t.keys ≡ keys
    same_keys = keys_left t tree after only is.standing.placed

    same_states : context_at after t.states ≡ context_at tree t.states
    same_states = states_left t tree after only is.standing.placed

    kept : Keeps s.chunks taken.chunks name
    kept = subst (λ (c : Context). Keeps s.chunks (chunks_of c) name) is_taken
        (subst (λ (c : Context). Keeps (chunks_of c) (chunks_of (context_at after t.buckets)) name) now.is keeps)

    sum : total taken.blocks ≡ total s.blocks + set_growth s n
    sum = ap held_by (sym is_taken) ∙ more ∙ ap (λ (c : Context). held_by c + growth_of c n) now.is

    block_there : is_some (get_or taken.blocks name.block None) ≡ true
    block_there = subst (λ (c : Context). is_some (get_or (blocks_of c) name.block None) ≡ true) is_taken there

    count_is : count_of name ≡ w
    count_is = omega (arith, len, long)

    stands : IsFirst taken → HasArray hash_of t keys t.array taken → IsStanding hash_of t after
    stands first array = record {
      placed = placed;
      stands = record {
        set = set_with (λ x. IsFirst x × HasArray hash_of t (context_at after t.keys) t.array x) (context_at after t.buckets) taken is_taken
            (first, subst (λ (k : Context). HasArray hash_of t k t.array taken) (sym same_keys) array);
        run = subst IsBump (sym same_keys) is.standing.stands.run;
        slab = subst (IsSlabOf t.width) (sym same_states) is.standing.stands.slab;
        width = is.standing.stands.width;
        groups = subst (λ (k : Context). AreGroups t k (context_at after t.states)) (sym same_keys)
            (subst (λ (c : Context). AreGroups t keys c) (sym same_states) is.standing.stands.groups);
      };
    }

    spare : 256 ≤ w → 4 * (length t.slots + 1) ≤ 3 * w → ((old : ChunkName) → t.array ≡ Some old → old.len ≤ name.len)
        → ((old : ChunkName) → t.array ≡ Some old → IsTrue (has_chunk b old)) → is_some taken.first ≡ true → IsBesideFirst taken name
        → IsSpare t after name
    spare some room longer lived first beside = record {
      array = record {
        there = placed.buckets.there;
        within = placed.buckets.within;
        set = taken;
        is_set = is_taken;
        lives = lives;
        whole =
            omega (arith, len, long);
      };
      some = subst (λ m. 256 ≤ m) (sym count_is) some;
      most = subst (λ m. m ≤ most_buckets) (sym count_is) few;
      room = subst (λ m. 4 * (length t.slots + 1) ≤ 3 * m) (sym count_is) room;
      empty = λ place low. ap (λ bs. bucket_at bs place) holds ∙ none_in_zeros n place;
      apart = λ old array. (keeps old (lived old array)).0;
      longer = longer;
      beside = set_with (λ x. (is_some x.first ≡ true) × IsBesideFirst x name) (context_at after t.buckets) taken is_taken (first, beside);
    }

    -- the first array, or a larger one
    set_is : (a : Option ChunkName) → t.array ≡ a → IsFirst s × HasArray hash_of t keys a s
    set_is a array = subst (λ x. IsFirst s × HasArray hash_of t keys x s) array now.with

    space_is : (a : Option ChunkName) → t.array ≡ a → HasSpace a s
    space_is a array = subst (λ x. HasSpace x s) array (subst (IsSetWith (HasSpace t.array)) now.is is.space)

    first_array : t.array ≡ None → Taken hash_of t tree after name
    first_array array =
        let empty : t.slots ≡ [] = (set_is None array).1 in
        let few_buckets : w ≡ 256 = ap (λ a. buckets_for (buckets_in a) (length t.slots)) array
        ∙ ap (λ xs. buckets_for 0 (length xs)) empty in
        let short : n ≡ 8192 = omega (arith, long, few_buckets) in
        let same : taken ≡ taken_first s name (zeros n) = ap (λ m. set_taken s m (chunk_of name (set_room m) (zeros n))) short in
        let block : is_some (get_or (taken_first s name (zeros n)).blocks name.block None)
        ≡ true = subst (λ (x : SetState). is_some (get_or x.blocks name.block None) ≡ true) same block_there in
        let space = space_is None array in
        record {
          standing = stands (subst IsFirst (sym same) (first_first s name (zeros n) (set_is None array).0 space block))
              (subst (λ a. HasArray hash_of t keys a taken) (sym array) empty);
          spare = spare (omega (arith, few_buckets)) (omega (arith, few_buckets, ap length empty))
              (λ old is_old. absurd (none-some old (sym array ∙ is_old))) (λ old is_old. absurd (none-some old (sym array ∙ is_old)))
              (ap (λ (x : SetState). is_some x.first) same ∙ first_some s name (zeros n) (set_is None array).0 space block)
              (subst (λ (x : SetState). IsBesideFirst x name) (sym same) (first_beside s name (zeros n) (set_is None array).0 space block
              (len ∙ short)));
        }

    larger_array : (old : ChunkName) → t.array ≡ Some old → Taken hash_of t tree after name
    larger_array old array =
        let was : IsArrayIn hash_of t keys s old = (set_is (Some old) array).1 in
        let first = (set_is (Some old) array).0 in
        let count : buckets_in t.array ≡ old.len / 32 = ap buckets_in array in
        let full : 4 * length t.slots ≤ 3 * buckets_in t.array = omega (arith, was.full, count) in
        let more_buckets : w ≡ max 256 (2 * buckets_in t.array) = larger (buckets_in t.array) (length t.slots) full grows in
        let large : 8192 < n = omega (arith, long, more_buckets, count, was.some) in
        let allowed : over_most n ≡ None = not_over n (omega (arith, long, few)) in
        record {
          standing = stands (large_first s n name (zeros n) large allowed sum len first was.first)
              (subst (λ a. HasArray hash_of t keys a taken) (sym array)
              (array_beside hash_of t keys s taken name old (set_room n) (zeros n) (large_chunks s n name (zeros n) large allowed sum len
              first was.first) (large_same s n name (zeros n) large allowed sum len first was.first) kept was));
          spare = spare (omega (arith, more_buckets)) (roomy (buckets_in t.array) (length t.slots) full (omega (arith, count, was.some))
              grows)
              (λ other is_other. let one : old.len ≡ other.len = ap (λ o. (unwrap_or o old).len) (sym array ∙ is_other) in omega
              (arith, one, len, long, more_buckets, count, was.whole))
              (λ other is_other. subst (λ (c : Context). IsTrue (has_chunk c other)) (sym now.is)
              (subst (λ (x : ChunkName). IsTrue (is_live s.chunks x)) (ap (λ o. unwrap_or o old) (sym array ∙ is_other)) was.lives))
              (large_some s n name (zeros n) large allowed sum len first was.first)
              (large_beside s n name (zeros n) large allowed sum len first was.first);
        }

    pub taken_by_array : (a : Option ChunkName) → t.array ≡ a → Taken hash_of t tree after name
    taken_by_array None array = first_array array
    taken_by_array (Some old) array = larger_array old array
