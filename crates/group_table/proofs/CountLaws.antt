-- What each of the three contexts of a table takes for one group more, where it holds what is counted.
use Rattle.std.specs.Prelude.{◌≡◌, refl, ℕ, zero, suc, ◌+◌, ◌-◌, ◌*◌, ◌/◌, ◌≤◌, max, not, nat_le, nat_lt, Bool, true, false, cond}
use Rattle.std.specs.Prelude.{if◌then◌else◌, List, [], ◌∷◌, ◌++◌, Option, Some, None, length}
use Rattle.std.proofs.Common.{inl, inr, sym, ◌∙◌, ap, subst, arith}
use Rattle.std.proofs.lemmas.Bool.{cases_lt, lt-ltb, le-ltb}
use Rattle.std.proofs.Math.Nat.{div_self, eq_of_mul-eq-mul_left}
use Rattle.group_table.proofs.Words.{ChunkContents, total, with_block, rounded, over_most, Key, Blocks, quotient_up, key_room, state_blocks}
use Rattle.group_table.proofs.Words.{HoldsKeyBlocks, AreOfSize, HoldsStates}
use Rattle.chunk_contexts.specs.Run.{RunState, run_growth, run_taken_by}
use Rattle.chunk_contexts.specs.Slab.{SlabState, slab_block, per_block, block_count, has_spare, slab_grows, slab_growth, slab_taken}
use Rattle.aggregation_cost.specs.Space.{chunk_of}
use Rattle.std.proofs.lemmas.Bool.Decides.{nat_tests}
use Rattle.std.proofs.lemmas.Nat.{le-div}
use Rattle.std.proofs.lemmas.Grind.{common_steps}

-- ---- keys
room_by : (large fits : Bool) → ℕ → Blocks → Blocks
room_by large fits n blocks =
    if large
    then record { held = blocks.held + n; left = blocks.left }
    else (if fits then record { held = blocks.held; left = blocks.left - n } else record { held = blocks.held + 8192; left = 8192 - n })

room_left : (short fits : Bool) (n held : ℕ) (s : RunState) (p : ChunkContents) → (run_taken_by short fits n s p).left
    ≡ (room_by (not short) fits n (record { held = held; left = s.left })).left
unfolding room_by
room_left false fits n held s p = refl
room_left true true n held s p = refl
room_left true false n held s p = refl

module _ (s : RunState) (keys : List Key) (key : Key) (is : HoldsKeyBlocks keys s) where
  abbrev n : ℕ
  n = 0 + rounded (length key)

  abbrev now : Blocks
  now = room_by (not (nat_le n 8192)) (nat_le n s.left) n (record { held = (key_room keys).held; left = s.left })

  pub key_grows : over_most (length key) ≡ None → total s.blocks + run_growth 0 s (length key) ≡ (key_room (keys ++ key ∷ [])).held
  key_grows allowed = grind (arith, nat_tests, common_steps)

-- ---- states
pub total_of_size : (size : ℕ) (bs : List (Option ℕ)) → AreOfSize size bs → total bs ≡ size * block_count bs
total_of_size size [] is = omega arith
total_of_size size (None ∷ bs) is = omega (arith, total_of_size size bs is)
total_of_size size (Some b ∷ bs) is =
    let rest = total_of_size size bs is.1 in
    let first : b ≡ size = is.0 in
    omega (arith, rest, first)

pub block_of_size : (size : ℕ) (bs : List (Option ℕ)) (block : ℕ) → AreOfSize size bs → AreOfSize size (with_block bs block size)
block_of_size size [] block is = (refl, tt)
block_of_size size (None ∷ bs) zero is = (refl, is)
block_of_size size (Some b ∷ bs) zero is = (refl, is.1)
block_of_size size (None ∷ bs) (suc block) is = block_of_size size bs block is
block_of_size size (Some b ∷ bs) (suc block) is = (is.0, block_of_size size bs block is.1)

-- a chunk is longer than a block
long_grows : (c n count : ℕ) → 1 ≤ c → c * count ≡ n * c → c * count + cond (nat_lt n (c / c * count)) 0 c ≡ (n + 1) * c
long_grows c n count some held =
    let one : c / c ≡ 1 = div_self some in
    let same : count ≡ n = eq_of_mul-eq-mul_left c some count n (omega (arith, held)) in
    let none : nat_lt n (c / c * count) ≡ false = ap (λ q. nat_lt n (q * count)) one ∙ le-ltb n (1 * count) (omega (arith, same)) in
    ap (λ b. c * count + cond b 0 c) none ∙ omega (arith, held)

-- a block has some chunks
short_grows : (per n count : ℕ) → 1 ≤ per → 8192 * count ≡ 8192 * quotient_up n per → 8192 * count + cond (nat_lt n (per * count)) 0 8192
    ≡ 8192 * quotient_up (n + 1) per
short_grows per n count some held = grind (arith, nat_tests, common_steps)

pub some_fit : (c : ℕ) → 1 ≤ c → c ≤ 8192 → 1 ≤ 8192 / c
some_fit c some short = le-div 1 8192 c some (omega (arith, short))

-- so many blocks for chunks of this size, with a header each
blocks_grow : (c n count : ℕ) → 1 ≤ c → max 8192 c * count ≡ (if nat_lt 8192 c then n * c else 8192 * quotient_up n (8192 / c))
    → max 8192 c * count + cond (nat_lt n (max 8192 c / c * count)) 0 (max 8192 c)
    ≡ (if nat_lt 8192 c then (n + 1) * c else 8192 * quotient_up (n + 1) (8192 / c))
blocks_grow c n count some = elim (cases_lt 8192 c) [
  | inl long ↦
      let is : nat_lt 8192 c ≡ true = lt-ltb 8192 c long in
      let size : c ≡ max 8192 c = omega (arith, long) in
      subst (λ b. max 8192 c * count ≡ (if b then n * c else 8192 * quotient_up n (8192 / c)) → max 8192 c * count
      + cond (nat_lt n (max 8192 c / c * count)) 0 (max 8192 c) ≡ (if b then (n + 1) * c else 8192 * quotient_up (n + 1) (8192 / c)))
      (sym is)
      (subst (λ m. m * count ≡ n * c → m * count + cond (nat_lt n (m / c * count)) 0 m ≡ (n + 1) * c) size (long_grows c n count some))
  | inr short ↦
      let is : nat_lt 8192 c ≡ false = le-ltb 8192 c short in
      let size : 8192 ≡ max 8192 c = omega (arith, short) in
      subst (λ b. max 8192 c * count ≡ (if b then n * c else 8192 * quotient_up n (8192 / c)) → max 8192 c * count
      + cond (nat_lt n (max 8192 c / c * count)) 0 (max 8192 c) ≡ (if b then (n + 1) * c else 8192 * quotient_up (n + 1) (8192 / c)))
      (sym is)
      (subst (λ m. m * count ≡ 8192 * quotient_up n (8192 / c) → m * count + cond (nat_lt n (m / c * count)) 0 m ≡ 8192
      * quotient_up (n + 1) (8192 / c)) size (short_grows (8192 / c) n count (some_fit c some short)))
]

module _ (width number : ℕ) (s : SlabState) (is : HoldsStates width number s) (counted : has_spare s
    ≡ nat_lt (length s.chunks) (per_block (rounded s.size) * block_count s.blocks)) where
  abbrev c : ℕ
  c = 8 + rounded width

  same_chunk : chunk_of width ≡ c
  same_chunk = omega arith

  abbrev in_blocks : ℕ → ℕ → ℕ
  in_blocks m k = if nat_lt 8192 m then k * m else 8192 * quotient_up k (8192 / m)

  spare_is : has_spare s ≡ nat_lt number (max 8192 c / c * block_count s.blocks)
  unfolding per_block
  spare_is = grind (arith, nat_tests, common_steps)

  blocks_held : max 8192 c * block_count s.blocks ≡ in_blocks c number
  blocks_held = sym (total_of_size (slab_block (rounded width)) s.blocks is.alike) ∙ is.held ∙ ap (λ m. in_blocks m number) same_chunk

  pub state_grows : total s.blocks + slab_grows s ≡ state_blocks width (number + 1)
  state_grows =
      ap (λ t. t + slab_grows s) (total_of_size (slab_block (rounded width)) s.blocks is.alike)
      ∙ ap (λ w. max 8192 c * block_count s.blocks + cond (has_spare s) 0 (slab_block (rounded w))) is.size
      ∙ ap (λ b. max 8192 c * block_count s.blocks + cond b 0 (max 8192 c)) spare_is
      ∙ blocks_grow c number (block_count s.blocks) (omega arith) blocks_held
      ∙ sym (ap (λ m. in_blocks m (number + 1)) same_chunk)

  pub state_growth_is : width ≤ 65535 → slab_growth s width ≡ slab_grows s
  state_growth_is low = grind (arith, nat_tests, common_steps)

  -- a state more
  alike_by : (spare : Bool) (block size : ℕ) → AreOfSize size s.blocks
      → AreOfSize size (cond spare s.blocks (with_block s.blocks block size))
  alike_by true block size alike = alike
  alike_by false block size alike = block_of_size size s.blocks block alike

  pub one_state_more : (p : ChunkContents) → total (slab_taken s p).blocks ≡ total s.blocks + slab_grows s
      → HoldsStates width (number + 1) (slab_taken s p)
  one_state_more p more = record {
    size = is.size;
    chunks = omega (arith, is.chunks);
    alike = subst (λ w. AreOfSize (slab_block (rounded width))
        (cond (has_spare s) s.blocks (with_block s.blocks p.place.block (slab_block (rounded w))))) (sym is.size)
        (alike_by (has_spare s) p.place.block (slab_block (rounded width)) is.alike);
    held = more ∙ state_grows;
  }
