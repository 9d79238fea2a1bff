-- What is known of the fields of a layout at a chunk, and after they changed.
use Rattle.chunk_layout.proofs.Laws.{false≢true}
use Rattle.std.proofs.Common.{◌≡◌, ℕ, ◌+◌, ◌-◌, ◌<◌, ◌≤◌, Bool, true, List, [], ◌∷◌, Option, None, map, length, get_or, set, take, sym, ap}
use Rattle.std.proofs.Common.{◌∙◌, subst, arith, ◌⊎◌, inl, inr}
use Rattle.chunk_layout.proofs.Words.{IsTrue, is_some, unwrap_or, option_map, Cells, Holds, IsWritten, word_bytes, Every, Layout}
use Rattle.chunk_layout.proofs.Words.{ChunkContents, has, contents_at, put_at, with_block, outside, total, with_contents, IsInside, AreLaid}
use Rattle.chunk_layout.proofs.Words.{AreTaken, IsClear, size_at, Blocks, block_at, poke, headed, contents_of, sizes_of, headers_of}
use Rattle.chunk_layout.proofs.Words.{header_at}
use Rattle.chunk_layout.proofs.Words.{Stands, IsLayout, AreVacant, Place, ChunkHeader, Inside}
use Rattle.chunk_layout.proofs.Laws.{get_or-map, length-map, length-set, get_or_past, map-set, every_get, every_weaker, every_map}
use Rattle.chunk_layout.proofs.Laws.{pairwise_weaker, pairwise_through, found-place, found-stands, contents-found, total-with_block}
use Rattle.chunk_layout.proofs.Laws.{total-set_none, with_block-other, length-with_block, cases_lt, cond-true, cond-false, eq-eqb, ne_eqb}
use Rattle.chunk_layout.proofs.Laws.{nat_tests, common_steps}
use Rattle.chunk_layout.specs.Fields.{layout_of, AreFields}
use Rattle.chunk_layout.specs.Lends.{layout_with}
use Rattle.chunk_layout.specs.declared.place.ChunkEvent.{ChunkEvent}
use Rattle.chunk_layout.specs.declared.place.ChunkEvent.TheVariants.{Chunk, Written, Returned}
use Rattle.chunk_layout.proofs.Reading.{length-read, holds-read}
use Rattle.chunk_layout.proofs.Pokes.{some-within, sizes-poke}
use Rattle.chunk_layout.proofs.Puts.{laid-put, contents-put}
use Rattle.chunk_layout.proofs.Carves.{laid-same, contents-same, laid-dropped, contents-dropped, laid-carved, contents-carved}
use Rattle.chunk_layout.proofs.Numbers.{map-with_block, length-with_block_low, every-with_block, every-set}
use Rattle.chunk_layout.proofs.Lending.{laid-lent_back, contents-lent_back}

-- the size of a block by its number
pub size-at : (bs : Blocks) (b : ℕ) → b < length bs → size_at (sizes_of bs) b ≡ length (block_at bs b)
size-at bs b low = grind (arith, nat_tests, unwrap_or, get_or-map, option_map)

-- a chunk at a place
module _ (x : Inside) (ok : AreFields x) (l : Layout) (e : layout_of x ≡ l) (place : Place) (some : IsTrue (has l.contents place)) where
  abbrev bs : Blocks
  bs = x.blocks.items

  abbrev ss : List ChunkHeader
  ss = headers_of x.notes.notes

  abbrev p : ChunkContents
  p = contents_at l.contents place

  pub here : has (map (contents_of bs) ss) place ≡ true
  here = ap (λ (z : Layout). has z.contents place) e ∙ some

  abbrev t : ChunkHeader
  t = header_at ss place

  abbrev t' : ChunkHeader
  t' = record { place = place; room = t.room; len = t.len; is_live = t.is_live }

  same : t ≡ t'
  same = ap (λ (q : Place). let s : ChunkHeader = record { place = q; room = t.room; len = t.len; is_live = t.is_live } in s)
      (found-place bs ss place here)

  stands : Stands x.head bs t'
  stands = subst (Stands x.head bs) same (found-stands bs ss place here x.head ok.laid.stand)

  found : contents_of bs t' ≡ p
  found = ap (contents_of bs) (sym same) ∙ sym (contents-found bs ss place here) ∙ ap (λ (z : Layout). contents_at z.contents place) e

  pub found-some : IsTrue (is_some (get_or bs place.block None))
  found-some = stands.there

  pub found-low : place.block < length bs
  found-low = some-within bs place.block stands.there

  len : t.len ≡ length p.bytes
  len = sym (length-read (block_at bs place.block) place.offset t.len stands.written) ∙ ap (λ (q : ChunkContents). length q.bytes) found

  pub found-inside : place.offset + p.room ≤ length (block_at bs place.block)
  found-inside = subst (λ (q : ChunkContents). place.offset + q.room ≤ length (block_at bs place.block)) found stands.inside

  pub found-small : length (block_at bs place.block) ≤ 2147483648
  found-small = grind (arith, nat_tests, found-low, every_get, length-map, size-at)

  pub found-written : IsWritten (block_at bs place.block) place.offset (length p.bytes)
  found-written = subst (IsWritten (block_at bs place.block) place.offset) len stands.written

  pub found-bytes : Holds (block_at bs place.block) place.offset p.bytes
  found-bytes = subst (λ (q : ChunkContents). Holds (block_at bs place.block) place.offset q.bytes) found
      (holds-read (block_at bs place.block) place.offset t.len stands.written)

  pub found-header : x.head ≡ 8 → (8 ≤ place.offset) × Holds (block_at bs place.block) (place.offset - 8) (word_bytes p.room)
  found-header eight = (
    omega (arith, stands.after, eight),
    subst (λ (q : ChunkContents). Holds (block_at bs place.block) (place.offset - 8)
        (word_bytes q.room)) found (stands.header eight),
  )

  -- bytes are written to it
  module _ (kept : ℕ) (bytes : List ℕ) (live : Bool) (few : kept ≤ length p.bytes) (fits : kept + length bytes ≤ p.room) where
    few' : kept ≤ length (contents_at (map (contents_of bs) ss) place).bytes
    few' = grind (arith, nat_tests)

    fits' : kept + length bytes ≤ (contents_at (map (contents_of bs) ss) place).room
    fits' = grind (arith, nat_tests)

    module _ (y : Inside) (head : y.head ≡ x.head) (held : y.held ≡ x.held) (marks : y.vacant ≡ x.vacant) (blocks : y.blocks.items
        ≡ poke bs place.block (place.offset + kept) bytes)
        (notes : y.notes.notes ≡ Written place (kept + length bytes) live ∷ x.notes.notes) where
      sizes : sizes_of bs ≡ sizes_of y.blocks.items
      sizes = sym (sizes-poke bs place.block (place.offset + kept) bytes found-some) ∙ ap sizes_of (sym blocks)

      pub fields-put : AreFields y
      fields-put = record {
        laid = subst (λ (z : ℕ × (Blocks × List ChunkEvent)). IsLayout z.0 z.1.0 (headers_of z.1.1))
            (λ i. (sym head i, (sym blocks i, sym notes i))) (laid-put x.head bs ss ok.laid place here kept bytes live few' fits');
        held = held ∙ ok.held ∙ ap total sizes;
        small = subst (Every (λ (o : Option ℕ). unwrap_or o 0 ≤ 2147483648)) sizes ok.small;
        few = subst (λ (z : List (Option ℕ)). length z < 4294967296) sizes ok.few;
        vacant = grind (arith, nat_tests, sizes);
      }

      pub layout-put : layout_of y ≡ put_at l place kept bytes live
      layout-put = let contents = ap (λ (z : Blocks × List ChunkEvent). map (contents_of z.0) (headers_of z.1)) (λ i. (blocks i, notes i))
          ∙ contents-put x.head bs ss ok.laid place here kept bytes live few' fits' in grind (arith, nat_tests, sizes)

  -- its bytes are lent
  module _ (n : ℕ) (count : length p.bytes ≡ n) (ws : List ℕ) where
    count' : length (contents_at (map (contents_of bs) ss) place).bytes ≡ n
    count' = grind (arith, nat_tests)

    module _ (y : Inside) (head : y.head ≡ x.head) (held : y.held ≡ x.held) (marks : y.vacant ≡ x.vacant) (blocks : y.blocks.items
        ≡ poke bs place.block place.offset (take n ws)) (notes : y.notes.notes ≡ x.notes.notes) where
      sizes-lent : sizes_of bs ≡ sizes_of y.blocks.items
      sizes-lent = sym (sizes-poke bs place.block place.offset (take n ws) found-some) ∙ ap sizes_of (sym blocks)

      pub fields-lent : AreFields y
      fields-lent = record {
        laid = grind (arith, nat_tests, laid-lent_back, here, count');
        held = held ∙ ok.held ∙ ap total sizes-lent;
        small = subst (Every (λ (o : Option ℕ). unwrap_or o 0 ≤ 2147483648)) sizes-lent ok.small;
        few = subst (λ (z : List (Option ℕ)). length z < 4294967296) sizes-lent ok.few;
        vacant = grind (arith, nat_tests, sizes-lent);
      }

      pub layout-lent : layout_of y ≡ layout_with l place ws
      layout-lent = grind (arith, nat_tests, contents-lent_back, here, count', sizes-lent)

-- a chunk is made
module _ (x : Inside) (ok : AreFields x) (l : Layout) (e : layout_of x ≡ l) (place : Place) (room : ℕ) (some' : 1 ≤ room)
    (inside' : place.offset + room ≤ size_at l.blocks place.block)
    (after : l.head ≤ place.offset) (clear : Every (IsClear l.head place room) l.contents) where
  abbrev cs : Blocks
  cs = x.blocks.items

  pub carve-low : place.block < length cs
  carve-low = grind (arith, nat_tests, common_steps)

  pub carve-inside : place.offset + room ≤ length (block_at cs place.block)
  carve-inside = grind (arith, nat_tests, size-at, carve-low, size_at)

  pub carve-some : IsTrue (is_some (get_or cs place.block None))
  carve-some = grind (arith, nat_tests, common_steps)

  pub carve-after : x.head ≤ place.offset
  carve-after = subst (λ (z : Layout). z.head ≤ place.offset) (sym e) after

  clear' : Every (IsClear x.head place room) (map (contents_of cs) (headers_of x.notes.notes))
  clear' = subst (λ (z : Layout). Every (IsClear z.head place room) z.contents) (sym e) clear

  module _ (y : Inside) (head : y.head ≡ x.head) (held : y.held ≡ x.held) (marks : y.vacant ≡ x.vacant) (blocks : y.blocks.items
      ≡ headed x.head cs place room)
      (notes : y.notes.notes ≡ Chunk (record { place = place; room = room; len = 0; is_live = true }) ∷ x.notes.notes) where
    same-sizes : sizes_of cs ≡ sizes_of y.blocks.items
    same-sizes = grind (arith, nat_tests, cond-false, ne_eqb, cond-true, eq-eqb, sizes-poke, carve-some)

    pub fields-carved : AreFields y
    fields-carved = record {
      laid = grind (arith, nat_tests, laid-carved, carve-some, carve-after, carve-inside, clear');
      held = held ∙ ok.held ∙ ap total same-sizes;
      small = subst (Every (λ (o : Option ℕ). unwrap_or o 0 ≤ 2147483648)) same-sizes ok.small;
      few = subst (λ (z : List (Option ℕ)). length z < 4294967296) same-sizes ok.few;
      vacant = grind (arith, nat_tests, same-sizes);
    }

    pub layout-carved : layout_of y ≡ with_contents l (record { place = place; room = room; is_live = true; bytes = [] })
    layout-carved = grind (
      arith,
      nat_tests,
      contents-carved x.head cs (headers_of x.notes.notes) ok.laid place room,
      carve-some,
      carve-after,
      carve-inside,
      clear',
      same-sizes,
    )

-- a number is new only where each has a block
pub all-taken : (x : Inside) (l : Layout) → layout_of x ≡ l → (b : ℕ) → (b ≡ length x.blocks.items → AreTaken (sizes_of x.blocks.items)) → b
    ≡ length l.blocks → AreTaken l.blocks
all-taken x l e b taken new = grind (arith, nat_tests, common_steps)

-- a block is taken
module _ (x : Inside) (ok : AreFields x) (l : Layout) (e : layout_of x ≡ l) (b len : ℕ) (low : b ≤ length x.blocks.items)
    (none : get_or x.blocks.items b None ≡ None) (small : len ≤ 2147483648)
    (few : (b < 4294967295) ⊎ (b < length x.blocks.items)) (block : Cells) (long : length block ≡ len) where
  abbrev ds : Blocks
  ds = x.blocks.items

  pub vacant : get_or l.blocks b None ≡ None
  vacant = grind (arith, nat_tests, common_steps)

  total-taken : total (with_block (sizes_of ds) b len) ≡ total (sizes_of ds) + len
  total-taken = total-with_block (sizes_of ds) b len (ap (λ (z : Layout). get_or z.blocks b None) e ∙ vacant)

  module _ (y : Inside) (head : y.head ≡ x.head) (held : y.held ≡ x.held + len) (blocks : y.blocks.items ≡ with_block ds b block)
      (notes : y.notes.notes ≡ x.notes.notes) (marked : AreVacant (sizes_of y.blocks.items) y.vacant) where
    sizes' : sizes_of y.blocks.items ≡ with_block (sizes_of ds) b len
    sizes' = grind (arith, nat_tests, sizes_of, map-with_block length ds b block, with_block, sizes_of ds)

    same-blocks : Every (λ (s : ChunkHeader). get_or (with_block ds b block) s.place.block None ≡ get_or ds s.place.block None)
        (headers_of x.notes.notes)
    same-blocks = grind (arith, nat_tests, with_block, headers_of, with_block-other, every_weaker, false≢true)

    pub fields-taken : AreFields y
    fields-taken = record {
      laid = grind (arith, nat_tests, laid-same ds (with_block ds b block) x.head (headers_of x.notes.notes), same-blocks);
      held = held ∙ ap (λ (n : ℕ). n + len) ok.held ∙ sym (ap total sizes' ∙ total-taken);
      small = grind (arith, nat_tests, sizes', every-with_block, len);
      few = subst (λ (z : List (Option ℕ)). length z < 4294967296) (sym sizes') (count few);
      vacant = marked;
    }
      where
        count : (b < 4294967295) ⊎ (b < length ds) → length (with_block (sizes_of ds) b len) < 4294967296
        count h = elim (cases_lt b (length (sizes_of ds))) [
          | inl inside ↦ let f = ok.few in omega (arith, length-with_block_low (sizes_of ds) b len inside, f)
          | inr past ↦ elim h [
            | inl lower ↦ omega (arith, length-with_block (sizes_of ds) b len, lower, past)
            | inr inside ↦ absurd (omega (arith, inside, past, length-map ds (option_map {T = Cells} length)))
          ]
        ]

    pub layout-taken : layout_of y ≡ record { head = l.head; blocks = with_block l.blocks b len; contents = l.contents }
    layout-taken = grind (
      arith,
      nat_tests,
      contents-same ds (with_block ds b block) x.head (headers_of x.notes.notes),
      same-blocks,
      sizes',
      len,
    )

-- a block is freed
module _ (x : Inside) (ok : AreFields x) (l : Layout) (e : layout_of x ≡ l) (b : ℕ) where
  abbrev gs : Blocks
  gs = x.blocks.items

  held-dropped : b < length gs → total (set (sizes_of gs) b None) + length (block_at gs b) ≡ x.held
  held-dropped low = let t = total-set_none (sizes_of gs) b in let h = ok.held in let s = size-at gs b low in omega (arith, t, h, s)

  pub held-enough : b < length gs → length (block_at gs b) ≤ x.held
  held-enough low = omega (arith, held-dropped low)

  module _ (low : b < length gs) (y : Inside) (head : y.head ≡ x.head) (held : y.held ≡ x.held - length (block_at gs b))
      (blocks : y.blocks.items ≡ set gs b None) (notes : y.notes.notes ≡ Returned b ∷ x.notes.notes)
      (marked : AreVacant (sizes_of y.blocks.items) y.vacant) where
    sizes-back : sizes_of y.blocks.items ≡ set (sizes_of gs) b None
    sizes-back = grind (arith, nat_tests, sizes_of, map-set, option_map)

    pub fields-dropped : AreFields y
    fields-dropped = grind (arith, nat_tests, laid-dropped, held-dropped, sizes-back, every-set, length-set, vacant)

    pub layout-dropped : layout_of y ≡ record { head = l.head; blocks = set l.blocks b None; contents = outside l.contents b }
    layout-dropped = grind (arith, nat_tests, contents-dropped, sizes-back)

pub small-any : (x : Inside) → AreFields x → (b : ℕ) → length (block_at x.blocks.items b) ≤ 2147483648
small-any x ok b = grind (arith, nat_tests, cases_lt, get_or_past, every_get, length-map, size-at)

inside-block : (head : ℕ) (bs : Blocks) (s : ChunkHeader) → Stands head bs s → IsInside (sizes_of bs) (contents_of bs s)
inside-block head bs s stands = grind (arith, nat_tests, common_steps)

pub laid-is : (x : Inside) → AreFields x → AreLaid (sizes_of x.blocks.items) (map (contents_of x.blocks.items) (headers_of x.notes.notes))
laid-is x ok = grind (arith, nat_tests, common_steps, pairwise_through, pairwise_weaker, every_map, every_weaker, inside-block)
