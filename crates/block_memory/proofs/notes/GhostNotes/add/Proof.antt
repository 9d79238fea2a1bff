-- `add` does nothing but change what the notes are.
use Rattle.block_memory.proofs.Steps.{List, [], ◌∷◌, refl, proved, emp, sep, ftrue, flft, named, Val, vunit, fact, ‵, raw, ◌⊛◌, ◌$◌}
use Rattle.block_memory.proofs.Steps.{◌∵◌, ! }
use Rattle.block_memory.proofs.Steps.{qed, done, move, keep, split, join, fsplit3, feq_i, suffices, frame, group, enter, of_opd, unit_lit}
use Rattle.block_memory.proofs.Steps.{returns, alloc_all, pass_all, free_all, look_at, sets, yes, MutRef, mut_vals, mut_Tells, ShrRef}
use Rattle.block_memory.proofs.Steps.{shr_vals, shr_Tells, plain, nothing, opens, closes, Stays, walk_of, says, stay_dropped, Goes-dropped}
use Rattle.block_memory.proofs.Steps.{stay_ref, Goes-ref, ends_at}
use mir.Syntax.{a_type}
use mir.MapTy.{inst_fn}
use contract.BorrowLft.{◌⊑◌}
use denote.Builtin.{RefOf}
use denote.Param.{param, layouts}
use denote.RattleType.{RattleType}
use Rattle.block_memory.specs.declared.notes.GhostNotes.{GhostNotes}
use Rattle.block_memory.specs.contracts.notes.GhostNotes.{the_row}
use Rattle.block_memory.specs.contracts.notes.GhostNotes.add as f
use Rattle.block_memory.proofs.notes.GhostNotes.add.Statement.{statement}
use Rattle.block_memory.proofs.notes.GhostNotes.add.Code as code

abbrev R : RattleType → RattleType
R T = the_row (param 0 T)

abbrev stayed : (T : RattleType) → Stays (f.ended T).signature.params (f.ended T).kept
stayed T = (stay_ref (0 ∷ []) tt (plain (λ _. R T)), (stay_dropped _ yes, tt))

pub add_spec : {M : Type 1} → statement M
add_spec 𝓤 𝓛 𝓜 𝓡 wired T laws =
    let c = f.clauses T 𝓛 𝓜.mem 𝓡.returns in let W = walk_of 𝓛 (f.ended T) (stayed T) c in
    proved 𝓛 (f.ended T) (stayed T) c 𝓜 𝓡 (
      Goes-ref 𝓛 3 0 tt (plain (λ _. R T)),
      (
        Goes-dropped 𝓛 3 (RefOf (1 ∷ []) tt (plain (λ _. param 0 T)) (λ _. tt)) yes (λ κs x w. refl),
        tt,
      ),
    )
    (f.Key.name (layouts (a_type ∷ []) (T, tt))) (inst_fn (layouts (a_type ∷ []) (T, tt)) code.function)
    (code.unfolded 𝓤 𝓛.H 𝓜 𝓡 wired (T, tt))
    (λ κs. (mut_vals, (shr_vals, tt))) (λ κs. (mut_Tells (named 0) κs.0 (R T), (shr_Tells (named 1) κs.1.0 (param 0 T), tt)))
    (λ κs qs bounds a _ are.
    let b = a.0.ref_ptr.0 in let o = a.0.ref_ptr.1 in let n = a.0.now in
    let n' : GhostNotes T.Denot = record n { notes = a.1.0.now ∷ n.notes } in
    let vss : List Val × (List Val × Unit {0}) = (mut_vals a.0, (shr_vals a.1.0, tt)) in
    let y : W.Ghost = ((κs, qs, bounds, a, vss), tt) in
    qed 𝓛 (((‵ (flft κs.0 qs.0) ⊛ (‵ (flft κs.1.0 qs.1.0) ⊛ (‵ (flft κs.1.1.0 qs.1.1.0) ⊛ ‵ ftrue)))
    ⊛ (‵ ((MutRef (named 0) κs.0 (R T)).own_val a.0 vss.0) ⊛ (‵ ((ShrRef (named 1) κs.1.0 (param 0 T)).own_val a.1.0 vss.1.0) ⊛ ‵ ftrue)))
    ∷ raw (sep 𝓤 (fact 𝓤 (κs.1.1.0 ⊑ T.lives)) (emp 𝓤)) ∷ []) ∵
    split ! $ split ! $ move ! (2 ∷ []) $ split ! $ keep ! (0 ∷ 2 ∷ 3 ∷ []) $
    enter ! _ _ _ _ _ $ alloc_all ! (λ l. pass_all ! refl ((tt, tt), ((tt, tt), tt)) $
    fsplit3 ! $ move ! (1 ∷ 2 ∷ 3 ∷ []) $ opens ! tt (R T) b o (λ us. closes ! tt (R T) n' us b o $
    sets ! (of_opd ! (unit_lit !)) refl (tt, tt) $
    -- [two parts of `self`; its lifetime's token; its first part; the other tokens]
    returns ! (look_at ! 0 refl) $ free_all ! refl $ move ! (3 ∷ []) $
    suffices ! _ (ends_at 𝓛 (f.ended T) (stayed T) c y vunit tt (n', (tt, tt)) (tt, (tt, tt))) $ says ! refl $
    group ! 3 $ move ! (1 ∷ 2 ∷ []) $ join ! $ nothing ! $ nothing ! $ join ! $ move ! (2 ∷ 0 ∷ []) $ join ! $ move ! (1 ∷ 0 ∷ []) $
    frame ! $ frame ! $ feq_i ! _ (vunit ∷ []) _ refl $ done !)))
