-- What chunks that are apart take of their blocks together: each byte of a block is one of at most one chunk.
use Rattle.std.proofs.Common.{◌≡◌, ℕ, zero, suc, ◌+◌, ◌<◌, ◌≤◌, Bool, List, [], ◌∷◌, Option, cond, refl, arith}
use Rattle.chunk_contexts.proofs.Words.{◌==◌, ◌&&◌, nat_le, nat_lt, unwrap_or, Every, Pairwise, ChunkContents, size_at, total, AreApart}
use Rattle.chunk_contexts.proofs.Words.{IsInside, AreLaid, lengths}
use Rattle.chunk_contexts.proofs.Laws.{nat_tests, common_steps}

-- a byte of a block is one of a chunk
abbrev covers : ChunkContents → ℕ → ℕ → Bool
covers p b o = (p.place.block == b) && (nat_le p.place.offset o && nat_lt o (p.place.offset + p.room))

abbrev hit : ChunkContents → ℕ → ℕ → ℕ
hit p b o = cond (covers p b o) 1 0

abbrev hits : List ChunkContents → ℕ → ℕ → ℕ
hits [] b o = 0
hits (p ∷ ps) b o = hit p b o + hits ps b o

record IsHit (p : ChunkContents) (b o : ℕ) : Type 0 where
  block : p.place.block ≡ b
  after : p.place.offset ≤ o
  before : o < p.place.offset + p.room

none-hits : (p : ChunkContents) (ps : List ChunkContents) (b o : ℕ) → IsHit p b o → Every (AreApart p) ps → hits ps b o ≡ 0
none-hits p [] b o is apart = refl
none-hits p (q ∷ ps) b o is apart = grind (arith, nat_tests, common_steps, none-hits p ps b o is apart.1)

one-hit : (ps : List ChunkContents) → Pairwise AreApart ps → (b o : ℕ) → hits ps b o ≤ 1
one-hit [] apart b o = omega arith
one-hit (p ∷ ps) apart b o = grind (arith, nat_tests, common_steps, one-hit ps apart.1 b o, none-hits p ps b o)

-- sums over the bytes of a block, and of all blocks
abbrev along : (ℕ → ℕ) → ℕ → ℕ
along f zero = 0
along f (suc n) = along f n + f n

abbrev over : (ℕ → ℕ → ℕ) → ℕ → List (Option ℕ) → ℕ
over f b [] = 0
over f b (x ∷ xs) = along (f b) (unwrap_or x 0) + over f (b + 1) xs

along-add : (f g : ℕ → ℕ) (n : ℕ) → along (λ o. f o + g o) n ≡ along f n + along g n
along-add f g zero = refl
along-add f g (suc n) = let rest = along-add f g n in omega (arith, rest)

over-add : (f g : ℕ → ℕ → ℕ) (b : ℕ) (xs : List (Option ℕ)) → over (λ c o. f c o + g c o) b xs ≡ over f b xs + over g b xs
over-add f g b [] = refl
over-add f g b (x ∷ xs) = let here = along-add (f b) (g b) (unwrap_or x 0) in let rest = over-add f g (b + 1) xs in omega
    (arith, here, rest)

along-most : (f : ℕ → ℕ) → ((o : ℕ) → f o ≤ 1) → (n : ℕ) → along f n ≤ n
along-most f most zero = omega arith
along-most f most (suc n) = let rest = along-most f most n in let one = most n in omega (arith, rest, one)

over-most : (f : ℕ → ℕ → ℕ) → ((b o : ℕ) → f b o ≤ 1) → (b : ℕ) (xs : List (Option ℕ)) → over f b xs ≤ total xs
over-most f most b [] = omega arith
over-most f most b (x ∷ xs) = let here = along-most (f b) (most b) (unwrap_or x 0) in let rest = over-most f most (b + 1) xs in omega
    (arith, here, rest)

-- a chunk takes its room of its block
along-room : (f : ℕ → ℕ) (start room n : ℕ) → start + room ≤ n → ((o : ℕ) → start ≤ o → o < start + room → f o ≡ 1) → room ≤ along f n
along-room f start zero n low one = omega arith
along-room f start (suc room) zero low one = omega (arith, low)
along-room f start (suc room) (suc n) low one = grind (
  arith,
  nat_tests,
  common_steps,
  along-room f start (suc room) n,
  along-room f start
      room n (omega (arith, low)),
)

over-room : (p : ChunkContents) (b k : ℕ) (xs : List (Option ℕ)) → p.place.block ≡ b + k → p.place.offset + p.room ≤ size_at xs k
    → p.room ≤ over (hit p) b xs
over-room p b k [] block inside = omega (arith, inside)
over-room p b zero (x ∷ xs) block inside = grind (
  arith,
  nat_tests,
  common_steps,
  along-room (hit p b) p.place.offset p.room (unwrap_or x 0)
      inside,
)
over-room p b (suc k) (x ∷ xs) block inside = let rest = over-room p (b + 1) k xs (omega (arith, block)) inside in omega (arith, rest)

lengths-hits : (blocks : List (Option ℕ)) (ps : List ChunkContents) → Every (IsInside blocks) ps → lengths ps ≤ over (hits ps) 0 blocks
lengths-hits blocks [] inside = omega arith
lengths-hits blocks (p ∷ ps) inside = grind (
  arith,
  nat_tests,
  common_steps,
  lengths-hits blocks ps inside.1,
  over-room p 0 p.place.block
      blocks (omega arith) inside.0.1,
  over-add (hit p) (hits ps) 0 blocks,
)

-- so they have no more bytes than the blocks
pub laid-enough : (blocks : List (Option ℕ)) (ps : List ChunkContents) → AreLaid blocks ps → lengths ps ≤ total blocks
laid-enough blocks ps laid = grind (
  arith,
  nat_tests,
  common_steps,
  lengths-hits blocks ps laid.inside,
  over-most (hits ps)
      (one-hit ps laid.apart) 0 blocks,
)
