use Rattle.std.proofs.Common.{◌≡◌, ◌+◌, ◌≤◌, ◌∷◌, [], ◌∙◌, List, ℕ, length, set, take, get_or, arith, subst, sym, ap, refl}
use Rattle.std.specs.List.{splice}
use Rattle.block_memory.specs.Cells.{Cells, Holds, with_bytes}
use Rattle.block_memory.specs.Lemmas.CellLemmas.{holds_by_write, holds_over, holds_unique, length_over, written_by_write, written_of_holds}
use Rattle.block_memory.specs.Lemmas.CellLemmas.{written_part}
use Rattle.test_memory.proofs.tests.blocks.write_twice.Goals as goal

set_one : (xs : List ℕ) (x : ℕ) → length xs ≡ 1 → take 1 (set xs 0 x) ≡ x ∷ []
set_one [] x long = absurd (omega (arith, long))
set_one (y ∷ []) x long = refl
set_one (y ∷ z ∷ xs) x long = absurd (omega (arith, long))

second_is : (src : List ℕ) (x : ℕ) → 2 ≤ length src → get_or (splice src 1 2 (x ∷ [])) 1 0 ≡ x
second_is [] x long = absurd (omega (arith, long))
second_is (a ∷ []) x long = absurd (omega (arith, long))
second_is (a ∷ b ∷ src) x long = refl

-- the bytes that stand in the end
stands : (old : Cells) (at : ℕ) (src part : List ℕ) (second : ℕ) → at + length src ≤ length old → 2 ≤ length src → length part ≡ 1
    → Holds (with_bytes (with_bytes old at src) (at + 1) (take 1 (set part 0 second))) at (splice src 1 2 (second ∷ []))
stands old at src part second room long one =
    subst (λ (ws : List ℕ). Holds (with_bytes (with_bytes old at src) (at + 1) ws) at (splice src 1 2 (second ∷ [])))
    (sym (set_one part second one))
    (holds_over (with_bytes old at src) at src 1 (second ∷ []) long (holds_by_write old at src room))

pub bytes-requires : goal.bytes-requires
bytes-requires c = rw c.copy_in.ensures.written (written_by_write c.args.block.now c.args.at c.args.src.now c.requires.room)

pub bytes_mut-part-requires : goal.bytes_mut-part-requires
bytes_mut-part-requires c =
    rw c.copy_in.ensures.written (written_part _ c.args.at (length c.args.src.now) 1 1 c.requires.long
    (written_by_write c.args.block.now c.args.at c.args.src.now c.requires.room))

pub bytes-requires-2 : goal.bytes-requires-2
bytes-requires-2 c =
    rw c.copy_in.ensures.written (written_of_holds _ c.args.at (length c.args.src.now) _ (length_over c.args.src.now 1 (c.args.second
    ∷ []) c.requires.long)
    (stands c.args.block.now c.args.at c.args.src.now c.bytes_mut-part.result.now c.args.second c.requires.room c.requires.long
    c.bytes_mut-part.ensures.len))

pub returns-clause-stands : goal.returns-clause-stands
returns-clause-stands c =
    rw c.copy_in.ensures.written (stands c.args.block.now c.args.at c.args.src.now c.bytes_mut-part.result.now c.args.second c.requires.room
    c.requires.long c.bytes_mut-part.ensures.len)

pub returns-clause-after : goal.returns-clause-after
returns-clause-after c =
    let src = c.args.src.now in
    let over = stands c.args.block.now c.args.at src c.bytes_mut-part.result.now c.args.second c.requires.room c.requires.long
    c.bytes_mut-part.ensures.len in
    let read = rw c.copy_in.ensures.written at c.bytes-2.ensures.value in
    let same = holds_unique _ c.args.at c.bytes-2.result.now (splice src 1 2 (c.args.second ∷ []))
    (c.bytes-2.ensures.len ∙ sym (length_over src 1 (c.args.second ∷ []) c.requires.long)) read over in
    ap (λ (ws : List ℕ). get_or ws 1 0) same ∙ second_is src c.args.second c.requires.long
