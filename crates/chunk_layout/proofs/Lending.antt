-- The bytes of a chunk are lent, and come back changed.
use Rattle.chunk_layout.proofs.Laws.{nat_tests, length-take, holds_kept, length-word_bytes, written_kept, first_has, every_both, map_same}
use Rattle.chunk_layout.proofs.Laws.{apart-sym, found-place, found-stands, some-header, contents-found}
use Rattle.std.proofs.Common.{◌≡◌, ℕ, ◌+◌, ◌≤◌, Bool, true, false, List, [], ◌∷◌, map, length, take, cond, refl, sym, ap, ◌∙◌, subst, arith}
use Rattle.chunk_layout.proofs.Words.{◌||◌, Cells, Every, Pairwise, ChunkContents, has, contents_at, rewritten, with_bytes_of, Blocks}
use Rattle.chunk_layout.proofs.Words.{block_at, poke, contents_of, header_is_at, has_header, header_at, no_header, Stands, Apart, IsLayout}
use Rattle.chunk_layout.proofs.Words.{Place}
use Rattle.chunk_layout.proofs.Words.{ChunkHeader}
use Rattle.chunk_layout.proofs.Reading.{read-refilled, length-read}
use Rattle.chunk_layout.proofs.Pokes.{poke-here, length-poke, some-poke, chunk-poke, stands-poke}

-- a chunk t of the blocks, of which other bytes come back
module _ (head : ℕ) (bs : Blocks) (t : ChunkHeader) (stands : Stands head bs t) (ws : List ℕ) where
  abbrev cells : Cells
  cells = block_at bs t.place.block

  abbrev bytes : List ℕ
  bytes = take t.len ws

  abbrev after : Blocks
  after = poke bs t.place.block t.place.offset bytes

  few : length bytes ≤ t.len
  few = omega (arith, length-take t.len ws)

  room : t.place.offset + length bytes ≤ length cells
  room = omega (arith, few, stands.fits, stands.inside)

  stands-other : (s : ChunkHeader) → Stands head bs s → Apart head s t → Stands head after s
  stands-other s h away = grind (arith, nat_tests, stands-poke bs t.place.block t.place.offset bytes stands.there head, room, few)

  chunk-other : (s : ChunkHeader) → Stands head bs s → Apart head s t → contents_of after s ≡ contents_of bs s
  chunk-other s h away = grind (arith, nat_tests, chunk-poke bs t.place.block t.place.offset bytes stands.there head, room, few)

  stands-lent : Stands head after t
  stands-lent = grind (arith, nat_tests, some-poke, length-poke, poke-here, written_kept, room, holds_kept, length-word_bytes)

  chunk-lent : contents_of after t ≡ with_bytes_of (contents_of bs t) ws
  chunk-lent = grind (arith, nat_tests, poke-here, read-refilled, length-read, room)

  stand-lent : (place : Place) (ss : List ChunkHeader) → has_header ss place ≡ true → header_at ss place ≡ t → Pairwise (Apart head) ss
      → Every (Stands head bs) ss → Every (Stands head after) ss
  stand-lent place [] some is pairs stand = tt
  stand-lent place (s ∷ ss) some is pairs stand =
      let Goal : Bool → Type 0 = λ b. ((b || has_header ss place) ≡ true) → cond b s (header_at ss place) ≡ t
      → Every (Stands head after) (s ∷ ss) in
      (elim (header_is_at place s) as Goal [
        | true ↦ λ _ same. (
          subst (Stands head after) (sym same) stands-lent,
          every_both (Stands head bs) (Apart head s) (Stands head after)
              (λ x h away. stands-other x h (apart-sym head t x (subst (λ (y : ChunkHeader). Apart head y x) same away))) ss stand.1
              pairs.0,
        )
        | false ↦ λ there same. (
          stands-other s stand.0 (subst (Apart head s) same (first_has (Apart head s) (header_is_at place) no_header ss there pairs.0)),
          stand-lent place ss there same pairs.1 stand.1,
        )
      ]) some is

  contents-lent : (place : Place) (ss : List ChunkHeader) → has_header ss place ≡ true → header_at ss place ≡ t → Pairwise (Apart head) ss
      → Every (Stands head bs) ss → map (contents_of after) ss ≡ rewritten (map (contents_of bs) ss) place ws
  contents-lent place [] some is pairs stand = refl
  contents-lent place (s ∷ ss) some is pairs stand = grind (
    arith,
    nat_tests,
    chunk-lent,
    map_same (contents_of after) (contents_of bs) ss,
    every_both (Stands head bs) (Apart head s) (λ (x : ChunkHeader). contents_of after x ≡ contents_of bs x),
    chunk-other,
    apart-sym head t,
    chunk-other s stand.0,
    first_has (Apart head s) (header_is_at place) no_header ss,
    contents-lent place ss,
  )

-- the same by the place and the number of bytes
module _ (head : ℕ) (bs : Blocks) (ss : List ChunkHeader) (laid : IsLayout head bs ss) (place : Place)
    (some : has (map (contents_of bs) ss) place ≡ true) (n : ℕ)
    (count : length (contents_at (map (contents_of bs) ss) place).bytes ≡ n) (ws : List ℕ) where
  abbrev t : ChunkHeader
  t = header_at ss place

  abbrev lent : Blocks
  lent = poke bs place.block place.offset (take n ws)

  stands : Stands head bs t
  stands = found-stands bs ss place some head laid.stand

  len : t.len ≡ n
  len = sym (length-read (block_at bs t.place.block) t.place.offset t.len stands.written)
      ∙ ap (λ (p : ChunkContents). length p.bytes) (sym (contents-found bs ss place some)) ∙ count

  same : poke bs t.place.block t.place.offset (take t.len ws) ≡ lent
  same = λ i. let p : Place = found-place bs ss place some i in poke bs p.block p.offset (take (len i) ws)

  pub laid-lent_back : IsLayout head lent ss
  laid-lent_back = grind (arith, nat_tests, same, stand-lent, stands, some-header)

  pub contents-lent_back : map (contents_of lent) ss ≡ rewritten (map (contents_of bs) ss) place ws
  contents-lent_back = ap (λ (z : Blocks). map (contents_of z) ss) (sym same)
      ∙ contents-lent head bs t stands ws place ss (some-header bs ss place some) refl laid.apart laid.stand
