-- A `&` to notes shows nothing, so it is made of any borrow.
use base.Fml.{ftrue}
use denote.RattleType.{RattleType}
use denote.Param.Laws.{Laws}
use denote.SharingLaws.{nothing_shr_laws}
use denote.Struct.Lending.{Lends-nothing, of_Lends}
use Rattle.std.specs.contracts.marker.PhantomData as mark
use Rattle.std.proofs.marker.PhantomData.TheLaws.{the_field_shared}
use Rattle.block_memory.specs.contracts.notes.GhostNotes as C
use Rattle.block_memory.proofs.notes.GhostNotes.TheLaw.Statement.{statement}

pub shares : (T : RattleType) (L : Laws T) → statement T L
shares T L =
    of_Lends (C.struct T) (C.the_codes T.Denot T.coded (mark.the_row T).coded) (C.the_heap T) (C.the_lent T) (λ n _. nothing_shr_laws)
    (the_field_shared T L, tt)
    (λ M 𝓤 𝓛 n _. Lends-nothing 𝓛 ftrue (C.the_row T).lives)
