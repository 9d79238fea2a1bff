-- `put` stores a byte in a cell of the memory that it was lent.
use Rattle.block_memory.proofs.Steps.{◌≡◌, ℕ, ◌+◌, ◌<◌, List, [], ◌∷◌, Some, length, set, refl, sym, ap, ◌∙◌, w8, w64, proved, full_share}
use Rattle.block_memory.proofs.Steps.{id⊢, ftrue, fat, froom, flft, ty_ptr, named, Val, vunit, fact, tables, ‵, raw, ◌⊛◌, at_ret, ◌$◌, ◌∵◌}
use Rattle.block_memory.proofs.Steps.{ !, qed, done, move, keep, use1, use3, split, join, fsplit, fsplit3, fjoin, feq_i, rewrite, suffices}
use Rattle.block_memory.proofs.Steps.{group, enter, of_opd, unit_lit, bin, init, stop, assigns_last, first, blocks, exec, returns}
use Rattle.block_memory.proofs.Steps.{alloc_all, pass_all, free_all, look_at, take_at, give_at, get, through, sets, env, u8, usize, yes}
use Rattle.block_memory.proofs.Steps.{uint_vals, uint_Tells, owns, Ptr, RawPtr, block_ptr, ptr_val, in_a_block, rawptr_vals, rawptr_Tells}
use Rattle.block_memory.proofs.Steps.{rawptr_Lawful, MutRef, mut_vals, mut_Tells, plain, nothing, opens, closes, heard, Stays, walk_of}
use Rattle.block_memory.proofs.Steps.{states, stay_dropped, Goes-dropped, stay_ref, Goes-ref, ends_at}
use Rattle.std.proofs.lemmas.List.{length-set}
use Rattle.block_memory.specs.Ownership.{byte, cells_own, memory_owns, may_give_back}
use Rattle.block_memory.specs.declared.raw.Memory.{Memory}
use Rattle.block_memory.specs.contracts.raw.Memory.{the_row as R}
use Rattle.block_memory.specs.contracts.raw.Memory.put as f
use Rattle.block_memory.proofs.raw.Memory.put.Statement.{statement}
use Rattle.block_memory.proofs.raw.Memory.put.Code as code
use Rattle.block_memory.proofs.MemoryLemmas.{before, after, take_cell, put_cell}

abbrev stayed : Stays f.ended.signature.params f.ended.kept
stayed = (stay_ref (0 ∷ []) tt (plain (λ _. R)), (stay_dropped _ yes, (stay_dropped _ yes, (stay_dropped _ yes, tt))))

pub put_spec : {M : Type 1} → statement M
put_spec 𝓤 𝓛 𝓜 𝓡 wired =
    let c = f.clauses 𝓛 𝓜.mem 𝓡.returns in let W = walk_of 𝓛 f.ended stayed c in let 𝓣 = tables 𝓤 𝓛.H 𝓜 𝓡 𝓡.env in
    proved 𝓛 f.ended stayed c 𝓜 𝓡 (
      Goes-ref 𝓛 1 0 tt (plain (λ _. R)),
      (
        Goes-dropped 𝓛 1 (plain (λ _. RawPtr)) yes (λ κs x w. refl),
        (Goes-dropped 𝓛 1 (plain (λ _. usize)) yes (λ κs x w. refl), (Goes-dropped 𝓛 1 (plain (λ _. u8)) yes (λ κs x w. refl), tt)),
      ),
    )
    f.Key.name code.function (code.unfolded 𝓤 𝓛.H 𝓜 𝓡 wired)
    (λ κs. (mut_vals, (rawptr_vals, (uint_vals w64, (uint_vals w8, tt)))))
    (λ κs. (mut_Tells (named 0) κs.0 R, (rawptr_Tells, (uint_Tells w64, (uint_Tells w8, tt)))))
    (λ κs qs bounds a _ are.
    let b = a.0.ref_ptr.0 in let o = a.0.ref_ptr.1 in let m = a.0.now in let start = a.1.0 in let at = a.1.1.0 in let x = a.1.1.1.0 in
    let rest : List Val × (List Val × (List Val × Unit {0})) = (rawptr_vals start, (uint_vals w64 at, (uint_vals w8 x, tt))) in
    let m' : Memory = record m { cells = set m.cells at (Some x) } in
    let y : W.Ghost = ((κs, qs, bounds, a, (mut_vals a.0, rest)), tt) in
    qed 𝓛 (((‵ (flft κs.0 qs.0) ⊛ ‵ ftrue) ⊛ ‵ ((MutRef (named 0) κs.0 R).own_val a.0 (mut_vals a.0)) ⊛ ‵
    (owns (RawPtr ∷ usize ∷ u8 ∷ []) a.1 rest))
    ∷ (raw (fact 𝓤 (start ≡ m.start)) ⊛ raw (fact 𝓤 (at < length m.cells))) ∷ []) ∵
    move ! (1 ∷ []) $ split ! $ heard ! _ (λ here. heard ! _ (λ inside. split ! $ split ! $ move ! (2 ∷ []) $ split ! $ keep ! (0 ∷ 2
    ∷ []) $
    enter ! _ _ _ _ _ $ alloc_all
    ! (λ l. pass_all ! refl (
      (tt, tt),
      (
        ((rawptr_Lawful 𝓛).typed start _ refl).0,
        ((tt, record { fits = are.1.1.0.1 }), ((tt, record { fits = are.1.1.1.0.1 }), tt)),
      ),
    ) $
    fsplit3 ! $ move ! (1 ∷ 2 ∷ 3 ∷ []) $ opens ! tt R b o (λ us.
    move ! (1 ∷ []) $ fsplit ! $ move ! (1 ∷ []) $
    in_a_block ! m.start (λ p. memory_owns p m.cells) (id⊢ 𝓤 _) (λ b' o' e. fsplit ! $
    use1 𝓛 (‵ (cells_own (before 𝓛 b' m.cells o' at inside) b' o') ⊛ ‵ (froom byte b' (at + o')) ⊛ ‵
    (cells_own (after 𝓛 b' m.cells o' at inside) b' (at + o' + 1)))
    (take_cell 𝓛 b' m.cells o' at inside) $ split ! $ move ! (1 ∷ []) $ split ! $
    -- [the cell's room; the cells after it; those before; the right to give back; the fields; the owner's place; the open borrow, in three
    -- entries]
    take_at ! 2 $ rewrite ! 0 (λ (v : Val). ‵ (fat full_share ty_ptr (l 2) 0 v)) (ap ptr_val (here ∙ e)) refl $ give_at ! 2 $
    first ! $ blocks ! $
    sets ! (bin ! (get ! refl) (get ! refl) tt) refl (tt, tt) $
    assigns_last ! (of_opd ! (get ! refl)) (through ! refl (stop !)) (init ! 0 refl (tt, record { fits = are.1.1.1.0.1 })) $
    exec ! 𝓣.C 𝓣.Λ (env code.Mir.locals l) code.Mir.t-2 (at_ret _ (W.post y)) $
    sets ! (of_opd ! (unit_lit !)) refl (tt, tt) $
    move ! (2 ∷ 0 ∷ 1 ∷ []) $ use3 𝓛 (‵ (cells_own m'.cells b' o')) (put_cell 𝓛 b' m.cells o' at inside x) $
    rewrite ! 1 (λ (n : ℕ). ‵ (may_give_back n (block_ptr b' o'))) (sym (length-set m.cells at (Some x))) refl $ fjoin ! $
    rewrite ! 0 (λ (p : Ptr). ‵ (memory_owns p m'.cells)) (sym e) refl $
    move ! (1 ∷ []) $ fjoin ! $ move ! (1 ∷ []) $ closes ! tt R m' us b o $
    -- [two parts of `self`; its lifetime's token; its first part]
    returns ! (look_at ! 0 refl) $ free_all ! refl $ move ! (3 ∷ []) $
    suffices ! _ (ends_at 𝓛 f.ended stayed c y vunit tt (m', (tt, (tt, (tt, tt)))) (tt, (tt, (tt, (tt, tt))))) $
    group ! 3 $ nothing ! $ nothing ! $ join ! $ nothing ! $ join ! $ nothing ! $ join ! $ move ! (1 ∷ 0 ∷ []) $ join ! $
    nothing ! $ move ! (2 ∷ 0 ∷ []) $ join ! $
    states ! (m'.cells ≡ set m.cells at (Some x)) refl $ states ! (m'.start ≡ m.start) refl $ feq_i ! _ (vunit ∷ []) _ refl $
    move ! (3 ∷ 4 ∷ 0 ∷ []) $ group ! 3 $ done !))))))
