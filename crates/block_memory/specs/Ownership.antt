-- What the owner of a block has of its memory, and what a `&` to the owner shows of it.
use Rattle.std.specs.Prelude.{ℕ, ◌+◌, [], ◌∷◌, Option, Some, None, length}
use Rattle.std.specs.Borrow.{Fml, ftrue, ffalse, fsep, full_share, u8}
use Rattle.std.specs.Global.{Global}
use Rattle.std.specs.contracts.impls.GlobalAllocator.TheImpl.{ghosts}
use base.Fml.{Lft, fex, froom}
use mir.Syntax.{Ty, w8, ty_int, ty_array}
use denote.Memory.{part_at, shared_of}
use denote.RawPtr.{Ptr, block_ptr, null_ptr}
use Rattle.block_memory.specs.Cells.{Cells}

-- the type of one byte of memory, and that of a block of n bytes
abbrev pub byte : Ty
byte = ty_int w8

abbrev pub block_of : ℕ → Ty
block_of n = ty_array byte n

-- cells side by side from (b, o) on, where F says what there is of one
abbrev pub each_cell : (Option ℕ → ℕ → ℕ → Fml) → Cells → ℕ → ℕ → Fml
each_cell F [] b o = ftrue
each_cell F (c ∷ cs) b o = fsep (F c b o) (each_cell F cs b (o + 1))

-- a written cell owns its byte, and an unwritten one the room for a byte, whatever lies there
abbrev pub cell_owns : Option ℕ → ℕ → ℕ → Fml
cell_owns None b o = froom byte b o
cell_owns (Some x) b o = part_at u8 full_share x b o

abbrev pub cells_own : Cells → ℕ → ℕ → Fml
cells_own = each_cell cell_owns

-- the right to give a block of n bytes back. It names no handle, since each is to the one allocator
abbrev pub may_give_back : ℕ → Ptr → Fml
may_give_back n p = fex Global (λ heap. ghosts.dealloc_token heap (block_of n) p)

-- the cells of the block that begins at a pointer, and the right to give it back
abbrev pub memory_owns : Ptr → Cells → Fml
memory_owns (block_ptr b o) cs = fsep (cells_own cs b o) (may_give_back (length cs) (block_ptr b o))
memory_owns null_ptr cs = ffalse

-- a `&` shows the byte of a written cell, and nothing of an unwritten one
abbrev pub cell_shares : Lft → Option ℕ → ℕ → ℕ → Fml
cell_shares κ None b o = ftrue
cell_shares κ (Some x) b o = shared_of u8 x b o κ

abbrev pub cells_share : Lft → Cells → ℕ → ℕ → Fml
cells_share κ = each_cell (cell_shares κ)

abbrev pub memory_shares : Ptr → Cells → Lft → Fml
memory_shares (block_ptr b o) cs κ = cells_share κ cs b o
memory_shares null_ptr cs κ = ffalse
