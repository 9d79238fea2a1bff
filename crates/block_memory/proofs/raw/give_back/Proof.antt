-- `give_back` hands the memory, as room for bytes, and the right to give it back to the allocator.
use Rattle.block_memory.proofs.Steps.{◌≡◌, ◌<◌, ◌^◌, List, [], ◌∷◌, length, refl, sym, ap, ◌∙◌, subst, arith, lit<, w64, proved, full_share}
use Rattle.block_memory.proofs.Steps.{id⊢, emp, ftrue, fat, froom, flft, ty_ptr, named, Val, vunit, vint, vptr, fact, fact_i, tables, ‵}
use Rattle.block_memory.proofs.Steps.{raw, ◌⊛◌, some, later, at_ret, ◌$◌, ◌∵◌, !, qed, done, move, keep, use0, use1, split, join, fsplit}
use Rattle.block_memory.proofs.Steps.{fjoin, fpick, feq_i, feq_l, pick, await, rewrite, suffices, group, enter, of_opd, lit, unit_lit}
use Rattle.block_memory.proofs.Steps.{and_then, no_more, first, blocks, exec, returns, alloc_all, pass_all, free_all, look_at, take_at}
use Rattle.block_memory.proofs.Steps.{give_at, get, sets, lands_last, env, usize, unit, yes, uint_vals, uint_Tells, uint_Makes, RawPtr}
use Rattle.block_memory.proofs.Steps.{block_ptr, ptr_val, in_a_block, rawptr_vals, rawptr_Tells, rawptr_Lawful, ShrRef, shr_vals, shr_Tells}
use Rattle.block_memory.proofs.Steps.{plain, nothing, owned, heard, only, calls_at_last, lasts, triple_of, framed, Stays, walk_of}
use Rattle.block_memory.proofs.Steps.{stay_dropped, Goes-dropped, ends_at}
use denote.Builtin.{RefOf}
use lib.Dec.{T}
use mir.Syntax.{ty_unit}
use mir.Val.{has_ty, WT}
use prog.Memory.{capped, size, align}
use Rattle.std.specs.contracts.alloc.Global.{the_row as Handle}
use Rattle.std.specs.contracts.impls.GlobalAllocator.deallocate as g
use Rattle.std.proofs.impls.GlobalAllocator.deallocate.Met.{met}
use Rattle.block_memory.specs.Ownership.{block_of, memory_owns}
use Rattle.block_memory.specs.contracts.raw.Memory.{the_row as R}
use Rattle.block_memory.proofs.raw.Memory.TheLaws.{lowers}
use Rattle.block_memory.specs.contracts.raw.give_back as f
use Rattle.block_memory.proofs.raw.give_back.Statement.{statement}
use Rattle.block_memory.proofs.raw.give_back.Code as code
use Rattle.block_memory.proofs.MemoryLemmas.{cells_room, layout}

abbrev stayed : Stays f.ended.signature.params f.ended.kept
stayed = (stay_dropped _ _, (stay_dropped _ _, (stay_dropped _ _, (stay_dropped _ _, tt))))

pub give_back_spec : {M : Type 1} → statement M
give_back_spec 𝓤 𝓛 𝓜 𝓡 wired =
    let c = f.clauses 𝓛 𝓜.mem 𝓡.returns in let W = walk_of 𝓛 f.ended stayed c in let 𝓣 = tables 𝓤 𝓛.H 𝓜 𝓡 𝓡.env in
    proved 𝓛 f.ended stayed c 𝓜 𝓡 (
      Goes-dropped 𝓛 1 (RefOf (0 ∷ []) tt (plain (λ _. Handle)) (λ _. tt)) yes (λ κs x w. refl),
      (
        Goes-dropped 𝓛 1 (plain (λ _. RawPtr)) yes (λ κs x w. refl),
        (
          Goes-dropped 𝓛 1 (plain (λ _. usize)) yes (λ κs x w. refl),
          (Goes-dropped 𝓛 1 (plain (λ _. R)) yes (λ κs x w. refl), tt),
        ),
      ),
    )
    f.Key.name code.function (code.unfolded 𝓤 𝓛.H 𝓜 𝓡 wired)
    (λ κs. (shr_vals, (rawptr_vals, (uint_vals w64, ((λ m. lowers.lowered m ∷ []), tt)))))
    (λ κs. (shr_Tells (named 0) κs.0 Handle, (rawptr_Tells, (uint_Tells w64, (lowers.val_is, tt)))))
    (λ κs qs bounds a _ are.
    let start = a.1.0 in let len = a.1.1.0 in let m = a.1.1.1.0 in
    let vss : List Val × (List Val × (List Val × (List Val × Unit {0}))) =
    (shr_vals a.0, (rawptr_vals start, (uint_vals w64 len, (lowers.lowered m ∷ [], tt)))) in
    let y : W.Ghost = ((κs, qs, bounds, a, vss), tt) in
    qed 𝓛 (((‵ (flft κs.0 qs.0) ⊛ ‵ ftrue) ⊛ (‵ ((ShrRef (named 0) κs.0 Handle).own_val a.0 vss.0) ⊛
    (‵ (RawPtr.own_val start vss.1.0) ⊛ (‵ (usize.own_val len vss.1.1.0) ⊛ (‵ (R.own_val m vss.1.1.1.0) ⊛ ‵ ftrue)))))
    ∷ (raw (fact 𝓤 (start ≡ m.start)) ⊛ (raw (fact 𝓤 (len ≡ length m.cells)) ⊛ raw (fact 𝓤 (len < 2 ^ 63)))) ∷ []) ∵
    move ! (1 ∷ []) $ split ! $ heard ! _ (λ here. split ! $ heard ! _ (λ count. heard ! _ (λ small.
    let low : length m.cells < 2 ^ 63 = omega (arith, count, small) in
    split ! $ split ! $ move ! (2 ∷ []) $ split ! $ move ! (1 ∷ []) $ split ! $ move ! (1 ∷ []) $ split ! $ move ! (1 ∷ []) $ split ! $ keep
    ! (0 ∷ 4 ∷ 5 ∷ []) $
    enter ! _ _ _ _ _ $ alloc_all
    ! (λ l. pass_all ! refl
    ((tt, tt), (((rawptr_Lawful 𝓛).typed start _ refl).0, ((tt, record { fits = are.1.1.0.1 }), ((tt, tt), tt)))) $
    fsplit ! $ move ! (1 ∷ []) $
    in_a_block ! m.start (λ p. memory_owns p m.cells) (id⊢ 𝓤 _) (λ b o e. fsplit ! $ move ! (1 ∷ []) $ fpick ! (λ heap. move ! (1 ∷ []) $
    let τ = block_of (length m.cells) in
    let laid : (capped (size τ) ≡ len) × (capped (align τ) ≡ 1) = ((layout (length m.cells) low).0 ∙ sym count, refl) in
    let G = triple_of 𝓛 g.signature (g.spec 𝓛 𝓜.mem 𝓡.returns) in
    let z : G.Ghost = ((
      (
        κs,
        qs,
        tt,
        (a.0, (block_ptr b o, (len, (1, tt)))),
        (shr_vals a.0, (vptr b o ∷ [], (vint w64 len ∷ [], (vint w64 1 ∷ [], tt)))),
      ),
      τ,
    )) in
    use1 𝓛 (‵ (froom τ b o)) (cells_room 𝓛 b m.cells o) $ fjoin ! $
    take_at ! 2 $ rewrite ! 0 (λ (v : Val). ‵ (fat full_share ty_ptr (l 2) 0 v)) (ap ptr_val (here ∙ e)) refl $ give_at ! 2 $
    -- [the block; the fields; the handle; its lifetime's token]
    use0 𝓛 (raw (fact 𝓤 ((capped (size τ) ≡ len) × (capped (align τ) ≡ 1)))) (fact_i 𝓤 ((capped (size τ) ≡ len) × (capped (align τ) ≡ 1))
    (emp 𝓤) laid) $ join ! $
    nothing ! $ owned ! usize _ (uint_Makes 𝓛 w64) 1 _ (refl, lit< tt) $ fjoin ! $ owned ! usize _ (uint_Makes 𝓛 w64) len _
    (refl, are.1.1.0.1) $ fjoin ! $
    feq_i ! (List Val) (vptr b o ∷ []) (vptr b o ∷ []) refl $ fjoin ! $ move ! (3 ∷ 0 ∷ []) $ fjoin ! $
    nothing ! $ move ! (4 ∷ 0 ∷ []) $ join ! $ join ! $ join ! $ use1 𝓛 (raw (G.pre z)) (id⊢ 𝓤 _) $
    first ! $ blocks ! $
    calls_at_last ! (framed 𝓤 𝓛.H 𝓜 𝓣) G (met 𝓤 𝓛 𝓜 𝓡 (code.calls-std_heap::GlobalAllocator::deallocate 𝓡.env wired)) z
    (and_then ! (get ! refl) (and_then ! (get ! refl) (and_then ! (get ! refl) (and_then ! (lit ! tt) (no_more !))))) (λ v.
    use1 𝓛 (later (some (λ (r : Unit {0}). ((‵ (flft κs.0 qs.0) ⊛ ‵ ftrue) ⊛ ‵ (unit.own_val r (v ∷ [])))
    ⊛ some (λ (ws : Unit {0} × (Unit {0} × (Unit {0} × (Unit {0} × Unit {0})))). ‵ (lasts g.ended κs z.0.3 ws) ⊛ ‵ ftrue)))) (id⊢ 𝓤 _) $
    await ! tt $ pick ! (λ r.
    split ! $ split ! $ split ! $ move ! (2 ∷ []) $ feq_l ! (λ is_unit.
    lands_last ! refl (subst (λ (u : Val). T (has_ty ty_unit u) × WT u) (sym (ap only is_unit)) (tt, tt)) $
    exec ! 𝓣.C 𝓣.Λ (env code.Mir.locals l) code.Mir.t-2 (at_ret _ (W.post y)) $
    sets ! (of_opd ! (unit_lit !)) refl (tt, tt) $
    returns ! (look_at ! 0 refl) $ free_all ! refl $ keep ! (0 ∷ 1 ∷ []) $ join ! $
    suffices ! _ (ends_at 𝓛 f.ended stayed c y vunit tt (tt, (tt, (tt, (tt, tt)))) (tt, (tt, (tt, (tt, tt))))) $
    nothing ! $ feq_i ! _ (vunit ∷ []) _ refl $ nothing ! $ nothing ! $ join ! $ nothing ! $ join ! $ nothing ! $ join ! $ nothing ! $ join
    ! $
    move ! (3 ∷ 0 ∷ []) $ group ! 3 $ done !))))))))))
