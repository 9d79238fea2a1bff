-- `new` makes notes of nothing.
use Rattle.block_memory.proofs.Steps.{List, [], ◌∷◌, refl, proved, emp, sep, ftrue, flft, Val, fact, raw, ‵, ◌⊛◌, ◌$◌, ◌∵◌, !, qed, done}
use Rattle.block_memory.proofs.Steps.{move, keep, split, fjoin, fpack, feq_i, suffices, enter, agg, and_then, no_more, returns, alloc_all}
use Rattle.block_memory.proofs.Steps.{pass_all, free_all, look_at, get, sets, nothing, owned, walk_of, says, ends_at}
use contract.BorrowLft.{◌⊑◌}
use mir.MapTy.{inst_fn}
use mir.Syntax.{a_type}
use mir.Val.{vstruct, vnil, of_list}
use denote.Laws.{Is}
use denote.Param.{param, layouts}
use denote.RattleType.{Valss}
use denote.Struct.Declared as declared
use denote.Struct.Owning.{shape, to}
use denote.Struct.Struct.{Struct, Struct-Makes, within}
use Rattle.std.specs.contracts.marker.PhantomData as mark
use Rattle.block_memory.specs.declared.notes.GhostNotes.{GhostNotes}
use Rattle.block_memory.specs.contracts.notes.GhostNotes.{the_type}
use Rattle.block_memory.specs.contracts.notes.GhostNotes.new as f
use Rattle.block_memory.proofs.notes.GhostNotes.new.Statement.{statement}
use Rattle.block_memory.proofs.notes.GhostNotes.new.Code as code

abbrev none_val : Val
none_val = vstruct (of_list (vstruct vnil ∷ []))

pub new_spec : {M : Type 1} → statement M
new_spec 𝓤 𝓛 𝓜 𝓡 wired T laws =
    let c = f.clauses T 𝓛 𝓜.mem 𝓡.returns in let W = walk_of 𝓛 (f.ended T) tt c in
    proved 𝓛 (f.ended T) tt c 𝓜 𝓡 tt
    (f.Key.name (layouts (a_type ∷ []) (T, tt))) (inst_fn (layouts (a_type ∷ []) (T, tt)) code.function)
    (code.unfolded 𝓤 𝓛.H 𝓜 𝓡 wired (T, tt))
    (λ κs. tt) (λ κs. tt)
    (λ κs qs bounds a _ are.
    let y : W.Ghost = ((κs, qs, bounds, tt, tt), tt) in
    let n : GhostNotes T.Denot = record { mark = record {}; notes = [] } in
    let S = declared.shape (mark.the_type (param 0 T)) in let N = the_type (param 0 T) in
    qed 𝓛 (((‵ (flft κs.0 qs.0) ⊛ ‵ ftrue) ⊛ ‵ ftrue) ∷ raw (sep 𝓤 (fact 𝓤 (κs.0 ⊑ T.lives)) (emp 𝓤)) ∷ []) ∵
    split ! $ keep ! (0 ∷ []) $
    enter ! _ _ _ _ _ $ alloc_all ! (λ l. pass_all ! refl tt $
    sets ! (agg ! (no_more !)) refl (tt, tt) $
    sets ! (agg ! (and_then ! (get ! refl) (no_more !))) refl (tt, (tt, tt)) $
    returns ! (look_at ! 0 refl) $ free_all ! refl $ keep ! (0 ∷ []) $
    suffices ! _ (ends_at 𝓛 (f.ended T) tt c y none_val n tt tt) $ says ! refl $
    nothing ! $ nothing ! $ owned ! (Struct S) (Is (Struct S)) (Struct-Makes 𝓛 S tt) tt (vstruct vnil ∷ []) (tt, (refl, tt)) $ fjoin ! $
    feq_i ! (List Val) (none_val ∷ []) (none_val ∷ []) refl $ fjoin ! $
    fpack ! (Valss (mark.the_row (param 0 T) ∷ [])) (within (shape N) (to N n) (none_val ∷ [])) (vstruct vnil ∷ [], tt) $ fjoin ! $
    nothing ! $ move ! (2 ∷ 0 ∷ []) $ done !))
