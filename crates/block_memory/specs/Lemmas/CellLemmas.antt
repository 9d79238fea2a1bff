-- Laws of `Holds`, `IsWritten` and `with_bytes`, for whoever keeps track of what stands in a block.
use Rattle.std.proofs.Common.{◌≡◌, ℕ, suc, ◌+◌, ◌-◌, ◌^◌, ◌<◌, ◌≤◌, ◌&&◌, ◌⊎◌, inl, inr, List, [], ◌∷◌, ◌++◌, Option, Some, None, length}
use Rattle.std.proofs.Common.{take, drop, map, replicate, get_or, set, refl, sym, ap, ◌∙◌, subst, arith}
use Rattle.std.specs.Prelude.{IsTrue, is_some, unwrap_or}
use Rattle.std.specs.List.{list_all, splice}
use Rattle.std.proofs.lemmas.Bool.{false≢true, cases_lt}
use Rattle.std.proofs.lemmas.List.{append_assoc, map-append, take-append-drop, length-take-le, length-append, length-replicate, length-map}
use Rattle.std.proofs.lemmas.List.{length-drop, drop-drop, take_at, drop_at, get_or-take, get_or-drop, get_or-map, ext_get_or, same_lists}
use Rattle.std.proofs.lemmas.List.{get_or_default, take_more, replicate_more, set_split}
use Rattle.std.proofs.lemmas.Nat.{be_bytes_8}
use Rattle.std.specs.Int.{w64, from_be_bytes}
use Rattle.block_memory.specs.Cells.{Cells, IsWritten, Holds, blank_cells, with_bytes}
use Rattle.block_memory.specs.Words.{word_bytes}
use Rattle.std.proofs.lemmas.Bool.Decides.{nat_tests}
use Rattle.std.proofs.lemmas.Grind.{common_steps}

-- ---- the lists that do not unfold
pub length-blank_cells : (n : ℕ) → length (blank_cells n) ≡ n
unfolding blank_cells
length-blank_cells n = length-replicate n None

-- ---- a list of which n elements from `at` on are replaced by as many
module _ {X : Type 0} (xs : List X) (at n : ℕ) (ys : List X) (long : length ys ≡ n) (room : at + n ≤ length xs) where
  front : length (take at xs) ≡ at
  front = length-take-le at xs (omega (arith, room))

  length_spliced : length (splice xs at (at + n) ys) ≡ length xs
  length_spliced = omega (
    arith,
    long,
    room,
    front,
    length-append (take at xs) (ys ++ drop (at + n) xs),
    length-append ys
        (drop (at + n) xs),
    length-drop (at + n) xs,
  )

  spliced_before : (k : ℕ) (d : X) → k < at → get_or (splice xs at (at + n) ys) k d ≡ get_or xs k d
  spliced_before k d low = grind (arith, nat_tests, common_steps)

  spliced_inside : (k : ℕ) (d : X) → k < n → get_or (splice xs at (at + n) ys) (at + k) d ≡ get_or ys k d
  spliced_inside k d inside = grind (arith, nat_tests, common_steps)

  spliced_after : (k : ℕ) (d : X) → at + n ≤ k → get_or (splice xs at (at + n) ys) k d ≡ get_or xs k d
  spliced_after k d high = grind (arith, nat_tests, common_steps)

-- ---- what a write leaves, and what it means that bytes stand
module _ (cells : Cells) (at : ℕ) (bytes : List ℕ) where
  -- a write keeps the length
  pub length-with_bytes : length (with_bytes cells at bytes) ≡ length cells
  length-with_bytes = grind (arith, nat_tests, common_steps)

  -- where the bytes have room, nothing is left out
  pub with_bytes_is : at + length bytes ≤ length cells → with_bytes cells at bytes ≡ splice cells at (at + length bytes) (map Some bytes)
  with_bytes_is room = grind (arith, nat_tests, common_steps)

  -- a cell before the bytes, one of theirs, and a cell after them
  pub cell_before : at + length bytes ≤ length cells → (k : ℕ) → k < at → get_or (with_bytes cells at bytes) k None ≡ get_or cells k None
  cell_before room k low = grind (arith, nat_tests, common_steps)

  pub cell_inside : at + length bytes ≤ length cells → (k : ℕ) → k < length bytes → get_or (with_bytes cells at bytes) (at + k) None
      ≡ Some (get_or bytes k 0)
  cell_inside room k inside = grind (arith, nat_tests, common_steps)

  pub cell_after : at + length bytes ≤ length cells → (k : ℕ) → at + length bytes ≤ k → get_or (with_bytes cells at bytes) k None
      ≡ get_or cells k None
  cell_after room k high = grind (arith, nat_tests, common_steps)

  -- the bytes stand from `at` on just where each stands at its place
  pub holds_at : Holds cells at bytes → (k : ℕ) → k < length bytes → get_or cells (at + k) None ≡ Some (get_or bytes k 0)
  holds_at h k inside = grind (arith, nat_tests, common_steps)

  pub holds_each : at + length bytes ≤ length cells → ((k : ℕ) → k < length bytes → get_or cells (at + k) None ≡ Some (get_or bytes k 0))
      → Holds cells at bytes
  holds_each room each =
      let long : length (take (length bytes) (drop at cells)) ≡ length bytes = length-take-le (length bytes) (drop at cells)
      (omega (arith, length-drop at cells)) in
      record {
        within = room;
        values = ext_get_or None (take (length bytes) (drop at cells)) (map Some bytes) (long ∙ sym (length-map bytes Some)) (λ k inside.
            let here : k < length bytes = subst (λ (n : ℕ). k < n) long inside in
            get_or-take (length bytes) (drop at cells) k None here ∙ get_or-drop at cells k None ∙ each k here
            ∙ sym (get_or-map Some bytes k 0 None here));
      }

-- ---- from one write or read to the next
-- bytes that were written stand where they were written
pub holds_by_write : (cells : Cells) (at : ℕ) (bytes : List ℕ) → at + length bytes ≤ length cells
    → Holds (with_bytes cells at bytes) at bytes
holds_by_write cells at bytes room = grind (arith, nat_tests, common_steps)

-- a write elsewhere keeps bytes that stand
pub holds_kept : (cells : Cells) (at : ℕ) (bytes : List ℕ) (i : ℕ) (new : List ℕ) → i + length new ≤ length cells
    → (at + length bytes ≤ i) ⊎ (i + length new ≤ at) → Holds cells at bytes → Holds (with_bytes cells i new) at bytes
holds_kept cells at bytes i new room apart h =
    let within = h.within in
    holds_each (with_bytes cells i new) at bytes (omega (arith, length-with_bytes cells i new)) (λ k inside.
    elim apart [
      | inl low ↦ cell_before cells i new room (at + k) (omega arith) ∙ holds_at cells at bytes h k inside
      | inr high ↦ cell_after cells i new room (at + k) (omega arith) ∙ holds_at cells at bytes h k inside
    ])

-- bytes that stand are written over in part
pub holds_over : (cells : Cells) (at : ℕ) (bytes : List ℕ) (i : ℕ) (new : List ℕ) → i + length new ≤ length bytes → Holds cells at bytes
    → Holds (with_bytes cells (at + i) new) at (splice bytes i (i + length new) new)
holds_over cells at bytes i new room h =
    let within = h.within in
    let fits : at + i + length new ≤ length cells = omega arith in
    let long : length (splice bytes i (i + length new) new) ≡ length bytes = length_spliced bytes i (length new) new refl room in
    holds_each (with_bytes cells (at + i) new) at (splice bytes i (i + length new) new)
    (omega (arith, length-with_bytes cells (at + i) new, long)) (λ k inside.
    let here : k < length bytes = omega (arith, long) in
    elim (cases_lt k i) [
      | inl low ↦ cell_before cells (at + i) new fits (at + k) (omega arith) ∙ holds_at cells at bytes h k here
          ∙ ap Some (sym (spliced_before bytes i (length new) new refl room k 0 low))
      | inr high ↦ elim (cases_lt k (i + length new)) [
        | inl low ↦
            let j : ℕ = k - i in
            let new_one : j < length new = omega arith in
            let place : at + k ≡ at + i + j = omega arith in
            let index : i + j ≡ k = omega arith in
            ap (λ (m : ℕ). get_or (with_bytes cells (at + i) new) m None) place ∙ cell_inside cells (at + i) new fits j new_one
            ∙ ap Some (sym (spliced_inside bytes i (length new) new refl room j 0 new_one)
            ∙ ap (λ (m : ℕ). get_or (splice bytes i (i + length new) new) m 0) index)
        | inr past ↦ cell_after cells (at + i) new fits (at + k) (omega arith) ∙ holds_at cells at bytes h k here
            ∙ ap Some (sym (spliced_after bytes i (length new) new refl room k 0 past))
      ]
    ])

-- as many bytes stand then
pub length_over : (bytes : List ℕ) (i : ℕ) (new : List ℕ) → i + length new ≤ length bytes → length (splice bytes i (i + length new) new)
    ≡ length bytes
length_over bytes i new room = length_spliced bytes i (length new) new refl room

-- a part of bytes that stand stands
pub holds_part : (cells : Cells) (at : ℕ) (bytes : List ℕ) (i n : ℕ) → i + n ≤ length bytes → Holds cells at bytes
    → Holds cells (at + i) (take n (drop i bytes))
holds_part cells at bytes i n room h =
    let within = h.within in
    let long : length (take n (drop i bytes)) ≡ n = length-take-le n (drop i bytes) (omega (arith, length-drop i bytes)) in
    holds_each cells (at + i) (take n (drop i bytes)) (omega (arith, long)) (λ k inside.
    let here : k < n = omega (arith, long) in
    let place : at + i + k ≡ at + (i + k) = omega arith in
    ap (λ (m : ℕ). get_or cells m None) place ∙ holds_at cells at bytes h (i + k) (omega arith)
    ∙ ap Some (sym (get_or-take n (drop i bytes) k 0 here ∙ get_or-drop i bytes k 0)))

-- the same cells hold the same bytes
pub holds_unique : (cells : Cells) (at : ℕ) (xs ys : List ℕ) → length xs ≡ length ys → Holds cells at xs → Holds cells at ys → xs ≡ ys
holds_unique cells at xs ys long h h' = same_lists xs ys long (λ k d inside.
    let here : k < length ys = omega (arith, long) in
    get_or_default xs k d 0 inside ∙ ap (λ (c : Option ℕ). unwrap_or c 0) (sym (holds_at cells at xs h k inside)
    ∙ holds_at cells at ys h' k here)
    ∙ get_or_default ys k 0 d here)

-- to write again what stands changes nothing
pub with_bytes_same : (cells : Cells) (at : ℕ) (bytes : List ℕ) → Holds cells at bytes → with_bytes cells at bytes ≡ cells
with_bytes_same cells at bytes h =
    let n = length bytes in
    let back : map Some bytes ++ drop (at + n) cells ≡ drop at cells =
    (λ i. sym h.values i ++ sym (drop-drop n at cells) i) ∙ take-append-drop n (drop at cells) in
    with_bytes_is cells at bytes h.within ∙ ap (λ (t : Cells). take at cells ++ t) back ∙ take-append-drop at cells

-- one write after the bytes of another is one write of both
pub with_bytes-append : (cells : Cells) (at : ℕ) (xs ys : List ℕ) → at + length xs + length ys ≤ length cells
    → with_bytes (with_bytes cells at xs) (at + length xs) ys ≡ with_bytes cells at (xs ++ ys)
with_bytes-append cells at xs ys room =
    let before : Cells = take at cells in
    let first : Cells = map Some xs in
    let after : Cells = drop (at + length xs) cells in
    let end : ℕ = at + length xs in
    let fits : at + length xs ≤ length cells = omega arith in
    let long : length (before ++ first)
    ≡ end = omega (arith, length-append before first, length-map xs Some, length-take-le at cells (omega arith)) in
    let once : with_bytes cells at xs ≡ before ++ first ++ after = with_bytes_is cells at xs fits ∙ sym (append_assoc before first after) in
    let taken : take end (with_bytes cells at xs) ≡ before ++ first = ap (take end) once ∙ take_at (before ++ first) after end long in
    let dropped : drop (end + length ys) (with_bytes cells at xs) ≡ drop (end + length ys) cells =
    sym (drop-drop (length ys) end (with_bytes cells at xs))
    ∙ ap (drop (length ys)) (ap (drop end) once ∙ drop_at (before ++ first) after end long)
    ∙ drop-drop (length ys) end cells in
    let both : end + length ys ≡ at + length (xs ++ ys) = omega (arith, length-append xs ys) in
    with_bytes_is (with_bytes cells at xs) end ys (omega (arith, length-with_bytes cells at xs))
    ∙ (λ i. taken i ++ (map Some ys ++ dropped i)) ∙ append_assoc before first (map Some ys ++ drop (end + length ys) cells)
    ∙ ap (λ (t : Cells). before ++ t) (sym (append_assoc first (map Some ys) (drop (end + length ys) cells))
    ∙ (λ i. sym (map-append Some xs ys) i ++ drop (both i) cells))
    ∙ sym (with_bytes_is cells at (xs ++ ys) (omega (arith, both)))

-- one more byte is written after others
pub set-with_bytes : (cells : Cells) (at : ℕ) (xs : List ℕ) (k x : ℕ) → k ≡ at + length xs → k < length cells
    → set (with_bytes cells at xs) k (Some x) ≡ with_bytes cells at (xs ++ x ∷ [])
set-with_bytes cells at xs k x place inside =
    let first : Cells = with_bytes cells at xs in
    let long : length first ≡ length cells = length-with_bytes cells at xs in
    let here : k < length first = omega (arith, long) in
    let one_more : suc k ≡ k + 1 = omega arith in
    set_split first k (Some x) here ∙ ap (λ (n : ℕ). take k first ++ Some x ∷ drop n first) one_more
    ∙ sym (with_bytes_is first k (x ∷ []) (omega (arith, here))) ∙ ap (λ (n : ℕ). with_bytes first n (x ∷ [])) place
    ∙ with_bytes-append cells at xs (x ∷ []) (omega (arith, place))

-- the loops that write byte for byte
pub write_more : (cells : Cells) (at : ℕ) (bytes : List ℕ) (i : ℕ) → i < length bytes → at + length bytes ≤ length cells
    → set (with_bytes cells at (take i bytes)) (at + i) (Some (get_or bytes i 0)) ≡ with_bytes cells at (take (i + 1) bytes)
write_more cells at bytes i inside room =
    let count : length (take i bytes) ≡ i = length-take-le i bytes (omega arith) in
    set-with_bytes cells at (take i bytes) (at + i) (get_or bytes i 0) (ap (λ (n : ℕ). at + n) (sym count)) (omega arith)
    ∙ ap (with_bytes cells at) (sym (take_more bytes i 0 inside))

pub fill_more : (cells : Cells) (at i n x : ℕ) → i < n → at + n ≤ length cells → set (with_bytes cells at (replicate i x)) (at + i) (Some x)
    ≡ with_bytes cells at (replicate (i + 1) x)
fill_more cells at i n x inside room =
    set-with_bytes cells at (replicate i x) (at + i) x (ap (λ (k : ℕ). at + k) (sym (length-replicate i x))) (omega arith)
    ∙ ap (with_bytes cells at) (replicate_more i x)

-- ---- what was written
-- cells that were all written are some bytes, and bytes are cells that were all written
all_bytes : (cells : Cells) → IsTrue (list_all is_some cells) → (bytes : List ℕ) × (cells ≡ map Some bytes)
all_bytes [] all = ([], refl)
all_bytes (Some x ∷ cells) all = let rest = all_bytes cells all in (x ∷ rest.0, ap (λ (t : Cells). Some x ∷ t) rest.1)
all_bytes (None ∷ cells) all = absurd (false≢true all)

bytes_all : (bytes : List ℕ) → IsTrue (list_all is_some (map Some bytes))
bytes_all [] = refl
bytes_all (x ∷ bytes) = bytes_all bytes

-- cells were all written where each was
all_each : (cells : Cells) → ((k : ℕ) → k < length cells → IsTrue (is_some (get_or cells k None))) → IsTrue (list_all is_some cells)
all_each [] each = refl
all_each (c ∷ cells) each =
    (λ i. each 0 (omega arith) i && list_all is_some cells) ∙ all_each cells (λ k inside. each (suc k) (omega (arith, inside)))

-- written cells hold some bytes
pub bytes_of_written : (cells : Cells) (at n : ℕ) → IsWritten cells at n → (bytes : List ℕ) × (length bytes ≡ n) × Holds cells at bytes
bytes_of_written cells at n w =
    let room = w.0 in
    let all = all_bytes (take n (drop at cells)) w.1 in
    let bytes : List ℕ = all.0 in
    let long : length bytes ≡ n =
    sym (length-map bytes Some) ∙ ap length (sym all.1) ∙ length-take-le n (drop at cells) (omega (arith, length-drop at cells)) in
    (bytes, long, record { within = omega (arith, long); values = ap (λ (k : ℕ). take k (drop at cells)) long ∙ all.1 })

-- cells that hold bytes were written
pub written_of_holds : (cells : Cells) (at n : ℕ) (bytes : List ℕ) → length bytes ≡ n → Holds cells at bytes → IsWritten cells at n
written_of_holds cells at n bytes long h =
    subst (λ (k : ℕ). IsWritten cells at k) long (h.within, ap (list_all is_some) h.values ∙ bytes_all bytes)

-- a write leaves written cells
pub written_by_write : (cells : Cells) (at : ℕ) (bytes : List ℕ) → at + length bytes ≤ length cells
    → IsWritten (with_bytes cells at bytes) at (length bytes)
written_by_write cells at bytes room = written_of_holds (with_bytes cells at bytes) at (length bytes) bytes refl
    (holds_by_write cells at bytes room)

-- a part of what was written was written
pub written_part : (cells : Cells) (at n i k : ℕ) → i + k ≤ n → IsWritten cells at n → IsWritten cells (at + i) k
written_part cells at n i k room w =
    let some = bytes_of_written cells at n w in
    let long = some.1 in
    let fits : i + k ≤ length some.0 = omega (arith, long) in
    written_of_holds cells (at + i) k (take k (drop i some.0)) (length-take-le k (drop i some.0) (omega (arith, length-drop i some.0)))
    (holds_part cells at some.0 i k fits some.2)

-- what was written stays written, whatever is written later
pub written_kept : (cells : Cells) (at n i : ℕ) (new : List ℕ) → i + length new ≤ length cells → IsWritten cells at n
    → IsWritten (with_bytes cells i new) at n
written_kept cells at n i new room w =
    let some = bytes_of_written cells at n w in
    let long = some.1 in let within = some.2.within in
    let fits : at + n ≤ length (with_bytes cells i new) = omega (arith, length-with_bytes cells i new, long) in
    let count : length (take n (drop at (with_bytes cells i new))) ≡ n =
    length-take-le n (drop at (with_bytes cells i new)) (omega (arith, length-drop at (with_bytes cells i new))) in (
      fits,
      all_each (take n (drop at (with_bytes cells i new))) (λ k inside.
          let here : k < n = omega (arith, count) in
          let old : get_or cells (at + k) None ≡ Some (get_or some.0 k 0) = holds_at cells at some.0 some.2 k (omega (arith, long)) in
          ap is_some (get_or-take n (drop at (with_bytes cells i new)) k None here ∙ get_or-drop at (with_bytes cells i new) k None)
          ∙ elim (cases_lt (at + k) i) [
            | inl low ↦ ap is_some (cell_before cells i new room (at + k) low ∙ old)
            | inr high ↦ elim (cases_lt (at + k) (i + length new)) [
              | inl low ↦
                  let place : at + k ≡ i + (at + k - i) = omega arith in
                  ap is_some (ap (λ (m : ℕ). get_or (with_bytes cells i new) m None) place
                  ∙ cell_inside cells i new room (at + k - i) (omega arith))
              | inr past ↦ ap is_some (cell_after cells i new room (at + k) past ∙ old)
            ]
          ]),
    )

-- ---- words
-- a word has eight bytes
pub length-word_bytes : (word : ℕ) → length (word_bytes word) ≡ 8
unfolding word_bytes
length-word_bytes word = refl

-- a word that was written stands, and can be read
pub holds_by_set_word : (cells : Cells) (at word : ℕ) → at + 8 ≤ length cells
    → Holds (with_bytes cells at (word_bytes word)) at (word_bytes word)
unfolding word_bytes
holds_by_set_word cells at word room = holds_by_write cells at (word_bytes word) room

pub written_by_set_word : (cells : Cells) (at word : ℕ) → at + 8 ≤ length cells → IsWritten (with_bytes cells at (word_bytes word)) at 8
unfolding word_bytes
written_by_set_word cells at word room = written_by_write cells at (word_bytes word) room

-- a word that is read is the word that was written
pub word_read_back : (cells : Cells) (at v w : ℕ) → v < 2 ^ 64 → w < 2 ^ 64 → Holds cells at (word_bytes v) → Holds cells at (word_bytes w)
    → v ≡ w
unfolding word_bytes
word_read_back cells at v w low low' h h' = grind (arith, nat_tests, common_steps)

-- the eight bytes of a list of eight
eight : (xs : List ℕ) → length xs ≡ 8 → get_or xs 0 0 ∷ get_or xs 1 0 ∷ get_or xs 2 0 ∷ get_or xs 3 0 ∷ get_or xs 4 0 ∷ get_or xs 5 0
    ∷ get_or xs 6 0 ∷ get_or xs 7 0 ∷ [] ≡ xs
eight xs long = grind (arith, nat_tests, common_steps)

-- the number of eight bytes, the highest first, is the word that they are
pub word_of_bytes : (xs : List ℕ) (w : ℕ) → length xs ≡ 8 → ((i : ℕ) → get_or xs i 0 < 256)
    → w ≡ from_be_bytes w64 (get_or xs 0 0 ∷ get_or xs 1 0 ∷ get_or xs 2 0 ∷ get_or xs 3 0 ∷ get_or xs 4 0 ∷ get_or xs 5 0 ∷ get_or xs 6 0
    ∷ get_or xs 7 0 ∷ []) → word_bytes w ≡ xs
unfolding word_bytes
word_of_bytes xs w long small is = be_bytes_8 xs w long small (is ∙ ap (from_be_bytes w64) (eight xs long))
