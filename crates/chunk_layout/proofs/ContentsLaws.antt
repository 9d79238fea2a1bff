-- Laws of chunks by their places.
use Rattle.std.proofs.Common.{◌≡◌, ℕ, ◌+◌, ◌-◌, min, ◌≤◌, Bool, true, false, List, ◌++◌, Option, length, take, drop, ◌∙◌, arith}
use Rattle.chunk_layout.proofs.Laws.{length-replicate, length-set, length-take-le, take_all, take-take, drop-take, take-append-drop}
use Rattle.chunk_layout.proofs.Laws.{place-same, has-later, has-without, contents_at-first, contents_at-later, contents_at-without}
use Rattle.chunk_layout.proofs.Laws.{without-first}
use Rattle.chunk_layout.proofs.Laws.{without-twice, nat_tests, common_steps}
use Rattle.chunk_layout.proofs.Words.{zeros, Layout, ChunkContents, same_place, has, contents_at, without, put_at, only, resized, Place}

-- ---- one call of `put` after another
module _ (l : Layout) (place : Place) where
  abbrev p : ChunkContents
  p = contents_at l.contents place

  pub contents_at-put : (kept : ℕ) (bytes : List ℕ) (live : Bool) → contents_at (put_at l place kept bytes live).contents place
      ≡ record { place = place; room = p.room; is_live = live; bytes = take kept p.bytes ++ bytes }
  contents_at-put kept bytes live = contents_at-first (record {
    place = place;
    room = p.room;
    is_live = live;
    bytes = take kept p.bytes
        ++ bytes;
  }) (without l.contents place) place (place-same place)

  pub has-put_other : (kept : ℕ) (bytes : List ℕ) (live : Bool) (other : Place) → same_place place other ≡ false
      → has (put_at l place kept bytes live).contents other ≡ has l.contents other
  has-put_other kept bytes live other ne = has-later (record {
    place = place;
    room = p.room;
    is_live = live;
    bytes = take kept p.bytes
        ++ bytes;
  }) (without l.contents place) other ne ∙ has-without l.contents place other ne

  pub contents_at-put_other : (kept : ℕ) (bytes : List ℕ) (live : Bool) (other : Place) → same_place place other ≡ false
      → contents_at (put_at l place kept bytes live).contents other ≡ contents_at l.contents other
  contents_at-put_other kept bytes live other ne = contents_at-later
      (record { place = place; room = p.room; is_live = live; bytes = take kept p.bytes ++ bytes }) (without l.contents place) other ne
      ∙ contents_at-without l.contents place other ne

  -- bytes behind those that were written are bytes that were written at once
  pub put-more : (xs ys : List ℕ) (n : ℕ) → length xs ≡ n → put_at (put_at l place 0 xs true) place n ys true
      ≡ put_at l place 0 (xs ++ ys) true
  put-more xs ys n long = grind (arith, nat_tests, contents_at-put, take_all, without-first, place-same, without-twice)

  -- one part of a copy after the others
  pub put-part : (src : List ℕ) (k m : ℕ) (part : List ℕ) → k + m ≤ length src → part ≡ take m (drop k src)
      → put_at (put_at l place 0 (take k src) true) place k part true ≡ put_at l place 0 (take (k + m) src) true
  put-part src k m part few is = grind (
    arith,
    nat_tests,
    take-take k (k + m) src,
    drop-take k m src,
    take-append-drop k (take (k + m) src),
    put-more (take k src) part k,
    length-take-le k src,
  )

-- ---- bytes of another length
pub resized-is : (bytes : List ℕ) (old n : ℕ) → length bytes ≡ old → take (min old n) bytes ++ zeros (n - min old n) ≡ resized bytes n
resized-is bytes old n long = grind (arith, nat_tests, common_steps)

-- and a copy with zeros behind it is one of another length
pub put-resized : (l t m : Layout) (from to : Place) (len n kept : ℕ) → length (contents_at l.contents from).bytes ≡ len → kept
    ≡ min len n → t
    ≡ put_at l to 0 (take kept (contents_at l.contents from).bytes) true → m ≡ put_at t to kept (zeros (n - kept)) true
    → m ≡ put_at l to 0 (resized (contents_at l.contents from).bytes n) true
put-resized l t m from to len n kept long is copied zeroed = grind (arith, nat_tests, put-more, length-take-le, resized-is)

-- ---- the blocks of which one is kept
pub length-only : (xs : List (Option ℕ)) (keep : Option ℕ) → length (only xs keep) ≡ length xs
length-only xs v1 = grind (arith, nat_tests, length-replicate, length-set)
