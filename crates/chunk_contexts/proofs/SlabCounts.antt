-- Whether a block of a slab has a free chunk, by how many chunks and blocks there are.
use Rattle.std.proofs.Common.{◌≡◌, ◌≢◌, ℕ, suc, ◌+◌, ◌*◌, ◌<◌, ◌≤◌, inl, inr, Bool, true, false, List, [], ◌∷◌, Option, Some, None, length}
use Rattle.std.proofs.Common.{get_or, refl, sym, ap, ◌∙◌, subst, arith}
use Rattle.chunk_contexts.proofs.Words.{IsTrue, is_some, nat_lt, ◌||◌, Every, ChunkContents}
use Rattle.chunk_contexts.proofs.Laws.{cases_Bool, cases_lt, lt-ltb, le-ltb, true≢false, false≢true, every_weaker, common_steps, nat_tests}
use Rattle.chunk_contexts.specs.Generation.{in_block}
use Rattle.chunk_contexts.specs.Slab.{spare_from, block_count}
use Rattle.chunk_contexts.proofs.GenLaws.{in-none}

-- how many of the chunks are in blocks from a number on
unfoldable pub in-blocks : List ChunkContents → ℕ → List (Option ℕ) → ℕ
in-blocks ps k [] = 0
in-blocks ps k (b ∷ bs) = in_block ps k + in-blocks ps (k + 1) bs

none-in : (k : ℕ) (bs : List (Option ℕ)) → in-blocks [] k bs ≡ 0
unfolding in-blocks
none-in k [] = refl
none-in k (b ∷ bs) = omega (arith, none-in (k + 1) bs)

-- a chunk more, before these blocks or in one of them
more-before : (p : ChunkContents) (ps : List ChunkContents) (k : ℕ) (bs : List (Option ℕ)) → p.place.block < k → in-blocks (p ∷ ps) k bs
    ≡ in-blocks ps k bs
unfolding in-blocks
more-before p ps k [] low = refl
more-before p ps k (b ∷ bs) low = grind (arith, nat_tests, common_steps, more-before p ps (k + 1) bs (omega (arith, low)))

more-in : (p : ChunkContents) (ps : List ChunkContents) (k : ℕ) (bs : List (Option ℕ)) → k ≤ p.place.block → p.place.block < k + length bs
    → in-blocks (p ∷ ps) k bs ≡ in-blocks ps k bs + 1
unfolding in-blocks
more-in p ps k [] from to = absurd (omega (arith, from, to))
more-in p ps k (b ∷ bs) from to = grind (arith, nat_tests, common_steps, more-before p ps (k + 1) bs, more-in p ps (k + 1) bs)

pub all-in : (ps : List ChunkContents) (bs : List (Option ℕ))
    → Every (λ (p : ChunkContents). IsTrue (is_some (get_or bs p.place.block None))) ps → in-blocks ps 0 bs ≡ length ps
all-in [] bs every = none-in 0 bs
all-in (p ∷ ps) bs every = grind (arith, nat_tests, common_steps, more-in p ps 0 bs (omega arith), all-in ps bs every.1)

module _ (per : ℕ) (ps : List ChunkContents) (few : (k : ℕ) → in_block ps k ≤ per) where
  -- nothing is in a number without a block
  abbrev Empty : ℕ → List (Option ℕ) → Type 0
  Empty k bs = (j : ℕ) → is_some (get_or bs j None) ≡ false → j < length bs → in_block ps (k + j) ≡ 0

  later : (k : ℕ) (b : Option ℕ) (bs : List (Option ℕ)) → Empty k (b ∷ bs) → Empty (k + 1) bs
  later k b bs empty j none low =
      let next : k + 1 + j ≡ k + suc j = omega arith in
      ap (in_block ps) next ∙ empty (suc j) none (omega (arith, low))

  at-most : (k : ℕ) (bs : List (Option ℕ)) → Empty k bs → in-blocks ps k bs ≤ per * block_count bs
  unfolding in-blocks
  at-most k [] empty = omega arith
  at-most k (None ∷ bs) empty =
      let same : k + 0 ≡ k = omega arith in
      let here : in_block ps k ≡ 0 = ap (in_block ps) (sym same) ∙ empty 0 refl (omega arith) in
      omega (arith, here, at-most (k + 1) bs (later k None bs empty))
  at-most k (Some n ∷ bs) empty = omega (arith, few k, at-most (k + 1) bs (later k (Some n) bs empty))

  full : (k : ℕ) (bs : List (Option ℕ)) → Empty k bs → spare_from per ps k bs ≡ false → in-blocks ps k bs ≡ per * block_count bs
  unfolding in-blocks
  full k [] empty none = omega arith
  full k (None ∷ bs) empty none =
      let same : k + 0 ≡ k = omega arith in
      let here : in_block ps k ≡ 0 = ap (in_block ps) (sym same) ∙ empty 0 refl (omega arith) in
      omega (arith, here, full (k + 1) bs (later k None bs empty) none)
  full k (Some n ∷ bs) empty none = elim (cases_lt (in_block ps k) per) [
    | inl less ↦ absurd (true≢false (sym (ap (λ (x : Bool). x || spare_from per ps (k + 1) bs) (lt-ltb (in_block ps k) per less)) ∙ none))
    | inr most ↦
        let rest : spare_from per ps (k + 1) bs
        ≡ false = sym (ap (λ (x : Bool). x || spare_from per ps (k + 1) bs) (le-ltb (in_block ps k) per most)) ∙ none in
        omega (arith, few k, most, full (k + 1) bs (later k (Some n) bs empty) rest)
  ]

  fewer : (k : ℕ) (bs : List (Option ℕ)) → Empty k bs → spare_from per ps k bs ≡ true → in-blocks ps k bs < per * block_count bs
  unfolding in-blocks
  fewer k [] empty some = absurd (false≢true some)
  fewer k (None ∷ bs) empty some =
      let same : k + 0 ≡ k = omega arith in
      let here : in_block ps k ≡ 0 = ap (in_block ps) (sym same) ∙ empty 0 refl (omega arith) in
      omega (arith, here, fewer (k + 1) bs (later k None bs empty) some)
  fewer k (Some n ∷ bs) empty some = elim (cases_lt (in_block ps k) per) [
    | inl less ↦ omega (arith, less, at-most (k + 1) bs (later k (Some n) bs empty))
    | inr most ↦
        let rest : spare_from per ps (k + 1) bs
        ≡ true = sym (ap (λ (x : Bool). x || spare_from per ps (k + 1) bs) (le-ltb (in_block ps k) per most)) ∙ some in
        omega (arith, few k, fewer (k + 1) bs (later k (Some n) bs empty) rest)
  ]

  pub spare-by-count : (bs : List (Option ℕ)) → Every (λ (p : ChunkContents). IsTrue (is_some (get_or bs p.place.block None))) ps
      → ((k : ℕ) → is_some (get_or bs k None) ≡ false → in_block ps k ≡ 0)
      → spare_from per ps 0 bs ≡ nat_lt (length ps) (per * block_count bs)
  spare-by-count bs there empty =
      let all = all-in ps bs there in
      let nothing : Empty 0 bs = λ j none _. let same : 0 + j ≡ j = omega arith in ap (in_block ps) same ∙ empty j none in
      elim (cases_Bool (spare_from per ps 0 bs)) [
        | inl some ↦ some ∙ sym
            (lt-ltb (length ps) (per * block_count bs) (subst (λ (n : ℕ). n < per * block_count bs) all (fewer 0 bs nothing some)))
        | inr none ↦ none ∙ sym
            (le-ltb (length ps) (per * block_count bs)
            (subst (λ (n : ℕ). per * block_count bs ≤ n) all (omega (arith, full 0 bs nothing none))))
      ]

-- no chunk is in a number without a block
pub none-there : (ps : List ChunkContents) (bs : List (Option ℕ))
    → Every (λ (p : ChunkContents). IsTrue (is_some (get_or bs p.place.block None))) ps → (k : ℕ) → is_some (get_or bs k None) ≡ false
    → in_block ps k ≡ 0
none-there ps bs there k none = in-none ps k (every_weaker (λ (p : ChunkContents). IsTrue (is_some (get_or bs p.place.block None)))
    (λ (p : ChunkContents). p.place.block ≢ k)
    (λ p some e. false≢true (sym none ∙ ap (λ (j : ℕ). is_some (get_or bs j None)) (sym e) ∙ some)) ps there)
