-- The names that the walks of `raw.rt` share.
pub use Rattle.std.proofs.Common.{◌≡◌, ℕ, ◌+◌, ◌*◌, ◌<◌, ◌^◌, List, [], ◌∷◌, ◌++◌, Option, Some, None, length, map, replicate, set, refl}
pub use Rattle.std.proofs.Common.{sym, ap, ◌∙◌, subst, arith, lit<, w8, w64, Bor, MutBor}
pub use Rattle.std.proofs.raw_atomic.Walks.{proved}
pub use base.Fraction.{full_share}
pub use base.Logic.{emp, id⊢, ent, sep, SProp}
pub use base.Fml.{Fml, ftrue, fhide, fsep, fat, froom, flft}
pub use mir.Syntax.{ty_ptr, named}
pub use mir.Val.{Val, vunit, vint, vptr}
pub use contract.Monad.{fact, fact_i}
pub use contract.Running.{tables}
pub use types.Kit.{‵, raw, ◌⊛◌, some, later, given, at_ret, ◌$◌, ◌∵◌, !, qed, done, move, keep, drop as forgets, use0, use1, use2, use3}
pub use types.Kit.{split, split3, join, fsplit, fsplit3, fjoin, fpick, fpack, feq_i, feq_l, pick, learn, check, show, await, rewrite}
pub use types.Kit.{suffices, frame, group}
pub use types.Run.{enter, of_opd, lit, unit_lit, bin, init, stop, no_more, and_then, assigns_last, first, switches, blocks, exec, returns}
pub use types.Part.{agg}
pub use types.ByLocal.{is, alloc_all, pass_all, free_all, look_at, take_at, give_at, get, get_in, get_tag, through, sets, sets_last}
pub use types.ByLocal.{lands_as, lands_last, env}
pub use denote.Builtin.{u8, usize, unit}
pub use denote.Exit.{yes, no}
pub use denote.Laws.{shows}
pub use denote.Plain.{uint_Makes, uint_vals, uint_Tells}
pub use denote.RattleType.{owns}
pub use denote.RawPtr.{Ptr, RawPtr, block_ptr, ptr_val, in_a_block, rawptr_vals, rawptr_Tells, rawptr_Lawful}
pub use denote.Ref.{MutRef, mut_vals, mut_Tells, ShrRef, shr_vals, shr_Tells}
pub use denote.Signature.{plain}
pub use denote.Steps.{nothing, owned, facts, opens, closes, heard, only}
pub use denote.Triple.Call.{calls_at, calls_at_last}
pub use denote.Triple.Clauses.{lasts}
pub use denote.Triple.Spec.{triple_of}
pub use denote.Triple.Walked.{Stays, walk_of, says, stay_dropped, Goes-dropped, Goes-spent_ref, stay_ref, Goes-ref, ends_at}
pub use denote.Triple.Table.{framed}
use seplogic.Ra.Ura.{Ura}
use types.Kit.{Goal, Item, Step}
use types.Logic.{Logic}

module _ {M : Type 1} {𝓤 : Ura M} {𝓛 : Logic 𝓤} {K : Type 0} {Γ : List (Item 𝓤)} {G : Goal 𝓤 𝓛.H} where
  -- ⌜φ⌝ is put into the context
  pub states : K → (φ : Type 0) → φ → Step K 𝓛 (raw (fact 𝓤 φ) ∷ Γ) G Γ G
  states t φ p = use0 𝓛 (raw (fact 𝓤 φ)) (fact_i 𝓤 φ (emp 𝓤) p)
