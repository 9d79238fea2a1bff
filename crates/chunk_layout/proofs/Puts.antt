-- Bytes are written to a chunk, behind some that it keeps.
use Rattle.chunk_layout.proofs.Laws.{nat_tests, cases_lt, length-take-le, length-append, get_or_append_left, get_or-append_right, holds_at}
use Rattle.chunk_layout.proofs.Laws.{holds_each, holds_kept, holds_by_write, holds_part, written_of_holds, length-word_bytes, every_both}
use Rattle.chunk_layout.proofs.Laws.{every_weaker, every_filter, pairwise_filter, map_same, found-place, contents-found, found-stands}
use Rattle.chunk_layout.proofs.Laws.{some-header, apart-found, without-header}
use Rattle.std.proofs.Common.{◌≡◌, ◌≢◌, ℕ, ◌+◌, ◌-◌, ◌≤◌, ◌⊎◌, inl, Bool, true, List, ◌∷◌, ◌++◌, map, length, take, sym, ap, subst, arith}
use Rattle.chunk_layout.proofs.Words.{Cells, Holds, with_bytes, word_bytes, Every, ChunkContents, contents_at, has, without, Blocks}
use Rattle.chunk_layout.proofs.Words.{block_at}
use Rattle.chunk_layout.proofs.Words.{poke, read, contents_of, header_at, header_with, without_header, Stands, Apart, IsLayout, Place}
use Rattle.chunk_layout.proofs.Words.{ChunkHeader}
use Rattle.chunk_layout.proofs.Reading.{read-holds, holds-read, length-read}
use Rattle.chunk_layout.proofs.Pokes.{poke-here, length-poke, some-poke, chunk-poke, stands-poke}

-- bytes that stand one after the other
pub holds_append : (cells : Cells) (at : ℕ) (xs ys : List ℕ) → Holds cells at xs → Holds cells (at + length xs) ys
    → Holds cells at (xs ++ ys)
holds_append cells at xs ys h k = grind (
  arith,
  nat_tests,
  length-append xs ys,
  holds_each cells at (xs ++ ys),
  cases_lt,
  holds_at cells at
      xs h,
  get_or_append_left xs ys 0,
  holds_at cells (at + length xs) ys k,
  get_or-append_right xs ys (length xs),
)

module _ (head : ℕ) (bs : Blocks) (ss : List ChunkHeader) (laid : IsLayout head bs ss) (place : Place)
    (some : has (map (contents_of bs) ss) place ≡ true) (kept : ℕ) (bytes : List ℕ) (live : Bool)
    (few : kept ≤ length (contents_at (map (contents_of bs) ss) place).bytes) (fits : kept
    + length bytes ≤ (contents_at (map (contents_of bs) ss) place).room) where
  abbrev t : ChunkHeader
  t = header_at ss place

  abbrev contents : List ChunkContents
  contents = map (contents_of bs) ss

  abbrev cells : Cells
  cells = block_at bs place.block

  abbrev after : Blocks
  after = poke bs place.block (place.offset + kept) bytes

  -- the chunk as it was, told by its place
  abbrev here : ChunkHeader
  here = record { place = place; room = t.room; len = t.len; is_live = t.is_live }

  is-here : t ≡ here
  is-here = ap (λ (p : Place). let s : ChunkHeader = record { place = p; room = t.room; len = t.len; is_live = t.is_live } in s)
      (found-place bs ss place some)

  stands : Stands head bs here
  stands = subst (Stands head bs) is-here (found-stands bs ss place some head laid.stand)

  count : t.len ≡ length (contents_at contents place).bytes
  count = grind (arith, nat_tests, length-read cells place.offset t.len stands.written, contents-found, contents_of, is-here)

  big : t.room ≡ (contents_at contents place).room
  big = grind (arith, nat_tests, contents-found, contents_of, is-here)

  room : place.offset + kept + length bytes ≤ length cells
  room = omega (arith, fits, big, stands.inside)

  abbrev old : List ℕ
  old = take kept (read cells place.offset t.len)

  long : length old ≡ kept
  long = length-take-le kept (read cells place.offset t.len)
      (omega (arith, length-read cells place.offset t.len stands.written, count, few))

  abbrev new : List ℕ
  new = old ++ bytes

  holds : Holds (block_at after place.block) place.offset new
  holds = grind (
    arith,
    nat_tests,
    poke-here bs place.block (place.offset + kept) bytes stands.there,
    holds_append
        (with_bytes cells (place.offset + kept) bytes) place.offset old bytes,
    holds_kept cells place.offset old (place.offset + kept) bytes,
    room,
    long,
    holds_by_write cells (place.offset + kept) bytes,
    holds_part cells place.offset (read cells place.offset t.len) 0 kept,
    length-read cells place.offset t.len stands.written,
    count,
    holds-read cells place.offset t.len stands.written,
  )

  abbrev n : ℕ
  n = kept + length bytes

  new-long : length new ≡ n
  new-long = omega (arith, length-append old bytes, long)

  -- the chunk as it is then
  abbrev then' : ChunkHeader
  then' = header_with ss place n live

  stands-put : Stands head after then'
  stands-put = record {
    there = some-poke bs place.block (place.offset + kept) bytes stands.there place.block stands.there;
    after = stands.after;
    inside = omega (arith, stands.inside, length-poke bs place.block (place.offset + kept) bytes stands.there place.block);
    fits = omega (arith, fits, big);
    written = written_of_holds (block_at after place.block) place.offset n new new-long holds;
    header = λ eight. subst (λ (cs : Cells). Holds cs (place.offset - 8) (word_bytes t.room))
        (sym (poke-here bs place.block (place.offset + kept) bytes stands.there))
        (holds_kept cells (place.offset - 8) (word_bytes t.room) (place.offset + kept) bytes room
        (inl (omega (arith, length-word_bytes t.room, stands.after, eight))) (stands.header eight));
  }

  others : Every (λ (s : ChunkHeader). Apart head s here) (without_header ss place)
  others = subst (λ (x : ChunkHeader). Every (λ (s : ChunkHeader). Apart head s x) (without_header ss place)) is-here
      (apart-found head ss place (some-header bs ss place some) laid.apart)

  untouched : (s : ChunkHeader) → Apart head s here → (s.place.block ≢ place.block) ⊎ ((s.place.offset + s.room ≤ place.offset + kept)
      ⊎ (place.offset + kept + length bytes + head ≤ s.place.offset))
  untouched s v1 = grind (arith, nat_tests, big)

  pub laid-put : IsLayout head after (then' ∷ without_header ss place)
  laid-put = grind (
    arith,
    nat_tests,
    stands-put,
    every_both (Stands head bs) (λ (s : ChunkHeader). Apart head s here) (Stands head after),
    stands-poke bs place.block (place.offset + kept) bytes stands.there head,
    room,
    untouched,
    every_filter (Stands head bs),
    others,
    every_weaker (λ (s : ChunkHeader). Apart head s here) (Apart head then'),
    pairwise_filter (Apart head),
  )

  pub contents-put : map (contents_of after) (then' ∷ without_header ss place)
      ≡ (record {
        place = place;
        room = (contents_at contents place).room;
        is_live = live;
        bytes = take kept (contents_at contents place).bytes
            ++ bytes;
      }) ∷ without contents place
  contents-put = grind (
    arith,
    nat_tests,
    room,
    big,
    read-holds,
    block_at after place.block,
    new-long,
    holds,
    map_same,
    contents_of after,
    contents_of bs,
    without_header ss place,
    every_both (Stands head bs) (λ (s : ChunkHeader). Apart head s here),
    chunk-poke bs place.block
        (place.offset + kept) bytes stands.there head,
    untouched,
    every_filter (Stands head bs),
    others,
    without-header bs ss place,
    contents-found,
    contents_of,
    is-here,
  )
