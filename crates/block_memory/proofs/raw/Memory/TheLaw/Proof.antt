-- What a `&` to a block's memory shows can be made of a borrow, copied and used at a shorter lifetime.
use Rattle.std.proofs.Common.{ℕ, ◌+◌, [], ◌∷◌, Option, Some, None, w8}
use seplogic.Ra.Ura.{Ura}
use base.Fraction.{full_share}
use base.Fml.{Lft, ftrue, ffalse}
use types.Logic.{Logic}
use denote.Copied.{uint_Copied}
use denote.Plain.{uint_row_laws}
use denote.RawPtr.{Ptr, block_ptr, null_ptr}
use denote.Sharing.{ShrLaws, said}
use denote.SharingLaws.{nothing_shr_laws, beside_shr_laws, said_shr_laws}
use denote.Struct.Lending.{Lends, Lends-nothing, Lends-false, Lends-first, Lends-both, of_Lends}
use Rattle.block_memory.specs.Cells.{Cells}
use Rattle.block_memory.specs.Ownership.{cell_owns, cells_own, memory_owns, cell_shares, cells_share, memory_shares}
use Rattle.block_memory.specs.contracts.raw.Memory as M
use Rattle.block_memory.proofs.raw.Memory.TheLaw.Statement.{statement}

cell_laws : (c : Option ℕ) (b o : ℕ) → ShrLaws (λ κ. cell_shares κ c b o)
cell_laws None b o = nothing_shr_laws
cell_laws (Some x) b o = uint_row_laws w8 x b o

cells_laws : (cs : Cells) (b o : ℕ) → ShrLaws (λ κ. cells_share κ cs b o)
cells_laws [] b o = nothing_shr_laws
cells_laws (c ∷ cs) b o =
    beside_shr_laws (λ κ. cell_shares κ c b o) (λ κ. cells_share κ cs b (o + 1)) (cell_laws c b o) (cells_laws cs b (o + 1))

memory_laws : (p : Ptr) (cs : Cells) → ShrLaws (memory_shares p cs)
memory_laws (block_ptr b o) cs = cells_laws cs b o
memory_laws null_ptr cs = said_shr_laws ffalse tt

module _ {L : Type 1} {𝓤 : Ura L} (𝓛 : Logic 𝓤) (l : Lft) where
  cell_lends : (c : Option ℕ) (b o : ℕ) → Lends 𝓛 (cell_owns c b o) (λ κ. cell_shares κ c b o) l
  cell_lends None b o = Lends-nothing 𝓛 _ l
  cell_lends (Some x) b o = λ κ ts inc sp. (uint_Copied 𝓛 w8).shares full_share l x κ ts b o inc sp

  cells_lend : (cs : Cells) (b o : ℕ) → Lends 𝓛 (cells_own cs b o) (λ κ. cells_share κ cs b o) l
  cells_lend [] b o = Lends-nothing 𝓛 ftrue l
  cells_lend (c ∷ cs) b o =
      Lends-both 𝓛 (cell_owns c b o) (cells_own cs b (o + 1)) (λ κ. cell_shares κ c b o) (λ κ. cells_share κ cs b (o + 1)) l
      (cell_lends c b o) (cells_lend cs b (o + 1))

  memory_lends : (p : Ptr) (cs : Cells) → Lends 𝓛 (memory_owns p cs) (memory_shares p cs) l
  memory_lends (block_ptr b o) cs = Lends-first 𝓛 (cells_own cs b o) _ (λ κ. cells_share κ cs b o) l (cells_lend cs b o)
  memory_lends null_ptr cs = Lends-false 𝓛 (said ffalse) l

pub shares : statement
shares =
    of_Lends M.struct M.the_codes M.the_heap M.the_lent (λ m _. memory_laws m.start m.cells) tt
    (λ L 𝓤 𝓛 m _. memory_lends 𝓛 M.the_row.lives m.start m.cells)
