-- `run` shows a run of written bytes as a slice.
use Rattle.block_memory.proofs.Steps.{◌≡◌, ℕ, ◌+◌, ◌*◌, ◌<◌, ◌^◌, List, [], ◌∷◌, Some, length, map, refl, sym, ap, ◌∙◌, arith, w64, Bor}
use Rattle.block_memory.proofs.Steps.{proved, full_share, id⊢, ftrue, fhide, fat, flft, ty_ptr, named, Val, fact, tables, ‵, raw, ◌⊛◌}
use Rattle.block_memory.proofs.Steps.{at_ret, ◌$◌, ◌∵◌, !, qed, done, move, keep, use1, split, join, fsplit, fjoin, rewrite, suffices}
use Rattle.block_memory.proofs.Steps.{group, enter, of_opd, bin, and_then, no_more, first, blocks, exec, returns, agg, is, alloc_all}
use Rattle.block_memory.proofs.Steps.{pass_all, free_all, look_at, take_at, give_at, get, sets, sets_last, env, u8, usize, no, uint_vals}
use Rattle.block_memory.proofs.Steps.{uint_Tells, owns, RawPtr, ptr_val, in_a_block, rawptr_vals, rawptr_Tells, rawptr_Lawful, ShrRef}
use Rattle.block_memory.proofs.Steps.{shr_vals, shr_Tells, plain, nothing, heard, Stays, walk_of, states, stay_dropped, Goes-dropped}
use Rattle.block_memory.proofs.Steps.{ends_at}
use denote.Builtin.{RefOf}
use denote.Opens.{hide, unhide}
use denote.Memory.{hidden_shr}
use denote.Shadow.{pure_i}
use denote.Slice.{slice_val, shr_slice_at, elements_shared}
use denote.Struct.Struct.{Struct}
use denote.Struct.Owning.{shape, to}
use denote.Struct.Lending.{lent_out}
use Rattle.block_memory.specs.Cells.{Holds, IsWritten}
use Rattle.block_memory.specs.Ownership.{cell_shares, cells_share, memory_shares}
use Rattle.block_memory.specs.contracts.raw.Memory as M
use Rattle.block_memory.specs.contracts.raw.Memory.{the_row as R, the_type}
use Rattle.block_memory.specs.contracts.raw.Memory.run as f
use Rattle.block_memory.proofs.raw.Memory.run.Statement.{statement}
use Rattle.block_memory.proofs.raw.Memory.run.Code as code
use Rattle.block_memory.specs.Lemmas.CellLemmas.{bytes_of_written}
use Rattle.block_memory.proofs.MemoryLemmas.{front, back, run_out, bytes_shared}

abbrev stayed : Stays f.ended.signature.params f.ended.kept
stayed = (stay_dropped _ _, (stay_dropped _ _, (stay_dropped _ _, (stay_dropped _ _, tt))))

pub run_spec : {M : Type 1} → statement M
run_spec 𝓤 𝓛 𝓜 𝓡 wired =
    let c = f.clauses 𝓛 𝓜.mem 𝓡.returns in let W = walk_of 𝓛 f.ended stayed c in let 𝓣 = tables 𝓤 𝓛.H 𝓜 𝓡 𝓡.env in
    proved 𝓛 f.ended stayed c 𝓜 𝓡 (
      Goes-dropped 𝓛 1 (RefOf (0 ∷ []) tt (plain (λ _. R)) (λ _. tt)) no (λ κs x w. refl),
      (
        Goes-dropped 𝓛 1 (plain (λ _. RawPtr)) no (λ κs x w. refl),
        (
          Goes-dropped 𝓛 1 (plain (λ _. usize)) no (λ κs x w. refl),
          (Goes-dropped 𝓛 1 (plain (λ _. usize)) no (λ κs x w. refl), tt),
        ),
      ),
    )
    f.Key.name code.function (code.unfolded 𝓤 𝓛.H 𝓜 𝓡 wired)
    (λ κs. (shr_vals, (rawptr_vals, (uint_vals w64, (uint_vals w64, tt)))))
    (λ κs. (shr_Tells (named 0) κs.0 R, (rawptr_Tells, (uint_Tells w64, (uint_Tells w64, tt)))))
    (λ κs qs bounds a _ are.
    let b = a.0.ref_ptr.0 in let o = a.0.ref_ptr.1 in let m = a.0.now in let start = a.1.0 in let at = a.1.1.0 in let n = a.1.1.1.0 in
    let rest : List Val × (List Val × (List Val × Unit {0})) = (rawptr_vals start, (uint_vals w64 at, (uint_vals w64 n, tt))) in
    let y : W.Ghost = ((κs, qs, bounds, a, (shr_vals a.0, rest)), tt) in
    qed 𝓛 (((‵ (flft κs.0 qs.0) ⊛ ‵ ftrue) ⊛ ‵ ((ShrRef (named 0) κs.0 R).own_val a.0 (shr_vals a.0)) ⊛ ‵
    (owns (RawPtr ∷ usize ∷ usize ∷ []) a.1 rest))
    ∷ (raw (fact 𝓤 (start ≡ m.start)) ⊛ (raw (fact 𝓤 (IsWritten m.cells at n)) ⊛ raw (fact 𝓤 (n < 2 ^ 63)))) ∷ []) ∵
    move ! (1 ∷ []) $ split ! $ heard ! _
    (λ here. split ! $ heard ! _ (λ written. heard ! _ (λ low. split ! $ split ! $ move ! (2 ∷ []) $ split ! $ keep ! (0 ∷ 2 ∷ []) $
    let bytes = bytes_of_written m.cells at n written in let xs = bytes.0 in let long = bytes.1 in let h = bytes.2 in
    let small : length xs < 2 ^ 63 = omega (arith, low, long) in
    let fits : length xs < 2 ^ 64 = omega (arith, small) in
    let room : length xs * 1 < 2 ^ 63 = omega (arith, small) in
    enter ! _ _ _ _ _ $ alloc_all
    ! (λ l. pass_all ! refl (
      (tt, tt),
      (
        ((rawptr_Lawful 𝓛).typed start _ refl).0,
        ((tt, record { fits = are.1.1.0.1 }), ((tt, record { fits = are.1.1.1.0.1 }), tt)),
      ),
    ) $
    fsplit ! $ move ! (1 ∷ []) $
    use1 𝓛 (‵ (hidden_shr (Struct (shape the_type)) κs.0 (to the_type m) b o) ⊛ ‵ (fhide (memory_shares m.start m.cells κs.0)))
    (lent_out 𝓛 M.struct M.the_codes M.the_heap M.the_lent κs.0 m b o) $ split ! $
    move ! (1 ∷ []) $ unhide ! $
    in_a_block ! m.start (λ p. memory_shares p m.cells κs.0) (id⊢ 𝓤 _) (λ b' o' e.
    use1 𝓛 (‵ (cells_share κs.0 (map Some xs) b' (at + o')) ⊛ (‵ (cells_share κs.0 (front 𝓛 b' m.cells o' at xs h) b' o') ⊛ ‵
    (cells_share κs.0 (back 𝓛 b' m.cells o' at xs h) b' (at + o' + length xs))))
    (run_out 𝓛 b' m.cells o' at xs h (cell_shares κs.0)) $ split ! $ use1 𝓛 (‵ (elements_shared u8 xs b' (at + o') κs.0))
    (bytes_shared 𝓛 b' κs.0 xs (at + o')) $
    -- [what is shown of the bytes; of the others; of the fields; the reference's place; its lifetime's token]
    take_at ! 2 $ rewrite ! 0 (λ (v : Val). ‵ (fat full_share ty_ptr (l 2) 0 v)) (ap ptr_val (here ∙ e)) refl $ give_at ! 2 $
    first ! $ blocks ! $
    sets ! (bin ! (get ! refl) (get ! refl) tt) refl (tt, tt) $
    sets_last ! (is ! (agg ! (and_then ! (get ! refl) (and_then ! (get ! refl) (no_more !)))) (ap (slice_val (b', at + o')) (sym long)))
    refl (tt, (tt, (record { fits = fits }, tt))) $
    exec ! 𝓣.C 𝓣.Λ (env code.Mir.locals l) code.Mir.t-2 (at_ret _ (W.post y)) $
    sets ! (of_opd ! (get ! refl)) refl (tt, (tt, (record { fits = fits }, tt))) $
    returns ! (look_at ! 0 refl) $ free_all ! refl $ keep ! (0 ∷ 4 ∷ []) $
    let r : Bor (List ℕ) = record { ref_ptr = (b', at + o'); now = xs } in
    hide ! $ pure_i ! (shr_slice_at u8 r (slice_val (b', at + o') (length xs) ∷ [])) (tt, (tt, tt)) (refl, (fits, room)) $ fjoin ! $
    suffices ! _ (ends_at 𝓛 f.ended stayed c y (slice_val (b', at + o') (length xs)) r (tt, (tt, (tt, (tt, tt))))
    (tt, (tt, (tt, (tt, tt))))) $
    states ! (length xs ≡ n) long $ states ! (Holds m.cells at xs) h $ move ! (3 ∷ 2 ∷ []) $ nothing ! $ move ! (1 ∷ 0 ∷ []) $ join ! $
    nothing ! $ nothing ! $ join ! $ nothing ! $ join ! $ nothing ! $ join ! $ nothing ! $ join ! $
    move ! (1 ∷ 0 ∷ []) $ group ! 3 $ done !))))))
