-- What a set of arrays keeps when chunks are taken and given up.
use Rattle.std.specs.Prelude.{◌≡◌, ◌≢◌, refl, ℕ, zero, suc, ◌+◌, ◌<◌, ◌⊎◌, nat_le, true, false, List, [], ◌∷◌, Option, Some, None, get_or}
use Rattle.std.specs.Prelude.{unwrap_or, is_some}
use Rattle.std.proofs.Common.{inl, inr, sym, ◌∙◌, ap, subst, arith}
use Rattle.std.proofs.lemmas.Bool.{leb-true, false≢true, false_from_ne_true, cond-true}
use Rattle.group_table.proofs.Words.{ChunkContents, place_of, is_at, has, contents_at, size_at, total, with_block, ChunkName, over_most}
use Rattle.group_table.proofs.Words.{rooms}
use Rattle.group_table.proofs.Words.{room_of, class_of, SetState, new_set, set_room, set_growth, set_taken, taken_by, dedicated, IsFirst}
use Rattle.group_table.proofs.Words.{IsBesideFirst, HasFirst, LARGEST}
use Rattle.chunk_contexts.specs.Chunks.{chunk_of}
use Rattle.chunk_contexts.specs.Free.{is_in}
use Rattle.chunk_layout.specs.FindingLaws.{place-same}
use Rattle.std.proofs.lemmas.Bool.Decides.{nat_tests}
use Rattle.std.proofs.lemmas.Grind.{common_steps}

-- the size of a block, where another one came, and the sum of all
pub size_beside : (bs : List (Option ℕ)) (block x other : ℕ) → 0 < size_at bs other → other ≢ block → size_at (with_block bs block x) other
    ≡ size_at bs other
size_beside [] block x other some differ = absurd (omega (arith, some))
size_beside (b ∷ bs) zero x zero some differ = absurd (differ refl)
size_beside (b ∷ bs) zero x (suc other) some differ = refl
size_beside (b ∷ bs) (suc block) x zero some differ = refl
size_beside (b ∷ bs) (suc block) x (suc other) some differ = size_beside bs block x other some (λ same. differ (ap suc same))

pub sum_with : (bs : List (Option ℕ)) (block x : ℕ) → total (with_block bs block x) + size_at bs block ≡ total bs + x
sum_with [] block x = omega arith
sum_with (b ∷ bs) zero x = omega arith
sum_with (b ∷ bs) (suc block) x = omega (arith, sum_with bs block x)

-- a chunk that is longer than each class has
pub not_classed : (n : ℕ) → 8192 < n → nat_le n LARGEST ≡ false
not_classed n large = false_from_ne_true (nat_le n LARGEST) (λ is. omega (arith, large, leb-true n LARGEST is))

pub large_grows : (s : SetState) (n : ℕ) → 8192 < n → over_most n ≡ None → set_growth s n ≡ set_room n + 8
large_grows s n large allowed = grind (arith, nat_tests, common_steps)

-- the first block is not the one of a chunk that got a block of its own
pub not_first : (s : SetState) (block x : ℕ) → IsFirst s → total (with_block s.blocks block x) ≡ total s.blocks + x → s.first ≢ Some block
not_first s block x first more same = omega (arith, more, sum_with s.blocks block x, first.size block same)

-- a chunk with a block of its own is taken
pub first_kept : (s : SetState) (p : ChunkContents) → IsFirst s → is_some s.first ≡ true → total (dedicated s p).blocks ≡ total s.blocks
    + (p.room + 8) → IsFirst (dedicated s p)
first_kept s p first some more = record {
  none = λ no. absurd (false≢true (sym (ap is_some no) ∙ some));
  size = λ block is. size_beside s.blocks p.place.block (p.room + 8) block (omega (arith, first.size block is))
      (λ same. not_first s p.place.block (p.room + 8) first more (is ∙ ap (λ b. Some b) same)) ∙ first.size block is;
}

-- a chunk is taken
module _ (s : SetState) (n : ℕ) (name : ChunkName) (bytes : List ℕ) where
  abbrev pub p : ChunkContents
  p = chunk_of name (set_room n) bytes

  abbrev pub taken : SetState
  taken = set_taken s n p

  room_of_new : (chunks : List ChunkContents) → (contents_at (p ∷ chunks) (place_of name)).room ≡ set_room n
  room_of_new chunks = ap (λ (x : ChunkContents). x.room) (cond-true (is_at (place_of name) p) p (contents_at chunks (place_of name))
      (place-same (place_of name)))

  -- one with a block of its own
  module _ (large : 8192 < n) (allowed : over_most n ≡ None) (more : total taken.blocks ≡ total s.blocks + set_growth s n) (len : name.len
      ≡ n) (first : IsFirst s) (some : is_some s.first ≡ true) where
    is_dedicated : taken ≡ dedicated s p
    is_dedicated = ap (λ b. taken_by b (is_in p.room s.free) (nat_le (p.room + 8) s.left) s p) (not_classed n large)

    sum : total (dedicated s p).blocks ≡ total s.blocks + (p.room + 8)
    sum = ap (λ (x : SetState). total x.blocks) (sym is_dedicated) ∙ more ∙ ap (λ m. total s.blocks + m) (large_grows s n large allowed)

    pub large_first : IsFirst taken
    large_first = subst IsFirst (sym is_dedicated) (first_kept s p first some sum)

    pub large_some : is_some taken.first ≡ true
    large_some = ap (λ (x : SetState). is_some x.first) is_dedicated ∙ some

    pub large_chunks : taken.chunks ≡ p ∷ s.chunks
    large_chunks = ap (λ (x : SetState). x.chunks) is_dedicated

    pub large_same : taken.first ≡ s.first
    large_same = ap (λ (x : SetState). x.first) is_dedicated

    pub large_beside : IsBesideFirst taken name
    large_beside = record {
      room = ap (λ ps. (contents_at ps (place_of name)).room) large_chunks ∙ room_of_new s.chunks ∙ ap set_room (sym len);
      own = λ long is. not_first s name.block (p.room + 8) first sum (sym large_same ∙ is);
    }

-- the first one of a set
module _ (s : SetState) (name : ChunkName) (bytes : List ℕ) where
  abbrev pub q : ChunkContents
  q = chunk_of name (set_room 8192) bytes

  abbrev pub taken_first : SetState
  taken_first = set_taken s 8192 q

  abbrev one_block : List (Option ℕ)
  one_block = Some 16384 ∷ []

  only_zero : (block : ℕ) → is_some (get_or one_block block None) ≡ true → size_at one_block block ≡ 16384
  only_zero zero there = refl
  only_zero (suc block) there = absurd (false≢true there)

  new_blocks : s ≡ new_set → (taken_first.blocks ≡ one_block) × (taken_first.first ≡ Some name.block) × (taken_first.chunks ≡ q ∷ s.chunks)
  unfolding room_of class_of rooms
  new_blocks new = (
    ap (λ (x : SetState). (set_taken x 8192 q).blocks) new,
    ap (λ (x : SetState). (set_taken x 8192 q).first) new,
    ap
        (λ (x : SetState). (set_taken x 8192 q).chunks) new ∙ sym (ap (λ (x : SetState). q ∷ x.chunks) new),
  )

  fits : HasFirst s → (taken_first.blocks ≡ s.blocks) × (taken_first.first ≡ s.first) × (taken_first.chunks ≡ q ∷ s.chunks)
  unfolding room_of class_of rooms
  fits has = grind (arith, nat_tests, common_steps)

  module _ (first : IsFirst s) (space : (s ≡ new_set) ⊎ HasFirst s) (there : is_some (get_or taken_first.blocks name.block None)
      ≡ true) where
    first_some_by : (s ≡ new_set) ⊎ HasFirst s → is_some taken_first.first ≡ true
    first_some_by (inl new) = ap is_some (new_blocks new).1
    first_some_by (inr has) = ap is_some (fits has).1 ∙ has.some

    pub first_some : is_some taken_first.first ≡ true
    first_some = first_some_by space

    first_first_by : (s ≡ new_set) ⊎ HasFirst s → IsFirst taken_first
    first_first_by (inl new) = record {
      none = λ no. absurd (false≢true (sym (ap is_some no) ∙ ap is_some (new_blocks new).1));
      size = λ block is.
          let same : name.block ≡ block = ap (λ o. unwrap_or o block) (sym (new_blocks new).1 ∙ is) in
          ap (λ bs. size_at bs block) (new_blocks new).0
          ∙ only_zero block (subst (λ b. is_some (get_or one_block b None) ≡ true) same (subst (λ bs. is_some (get_or bs name.block None)
          ≡ true) (new_blocks new).0 there));
    }
    first_first_by (inr has) = record {
      none = λ no. absurd (false≢true (sym (ap is_some no) ∙ ap is_some (fits has).1 ∙ has.some));
      size = λ block is. ap (λ bs. size_at bs block) (fits has).0 ∙ first.size block (sym (fits has).1 ∙ is);
    }

    pub first_first : IsFirst taken_first
    first_first = first_first_by space

    pub first_beside : name.len ≡ 8192 → IsBesideFirst taken_first name
    first_beside len = grind (arith, nat_tests, common_steps)
