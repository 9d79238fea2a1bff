-- `run_mut` lends a run of written bytes as a slice, and the memory ends with what the slice ends with.
use Rattle.block_memory.proofs.Steps.{◌≡◌, ℕ, ◌+◌, ◌*◌, ◌<◌, ◌^◌, List, [], ◌∷◌, Some, length, map, refl, sym, ap, ◌∙◌, arith, w64, MutBor}
use Rattle.block_memory.proofs.Steps.{proved, full_share, id⊢, ent, sep, SProp, ftrue, fsep, fat, flft, ty_ptr, named, Val, fact, tables, ‵}
use Rattle.block_memory.proofs.Steps.{raw, ◌⊛◌, some, later, at_ret, ◌$◌, ◌∵◌, !, qed, done, move, keep, use1, split, split3, join, fsplit}
use Rattle.block_memory.proofs.Steps.{fsplit3, fjoin, fpack, pick, await, rewrite, suffices, group, enter, of_opd, bin, and_then, no_more}
use Rattle.block_memory.proofs.Steps.{first, blocks, exec, returns, agg, is, alloc_all, pass_all, free_all, look_at, take_at, give_at, get}
use Rattle.block_memory.proofs.Steps.{sets, sets_last, env, u8, usize, no, uint_vals, uint_Tells, owns, Ptr, RawPtr, block_ptr, ptr_val}
use Rattle.block_memory.proofs.Steps.{in_a_block, rawptr_vals, rawptr_Tells, rawptr_Lawful, MutRef, mut_vals, mut_Tells, plain, nothing}
use Rattle.block_memory.proofs.Steps.{opens, heard, Stays, walk_of, states, stay_dropped, Goes-dropped, Goes-spent_ref, ends_at}
use seplogic.Ra.Ura.{Ura}
use types.Logic.{Logic, sem}
use types.SemTy.{cells as bytes_lie}
use denote.Array.{Array}
use denote.Follow.{follows}
use denote.FollowSlice.{lends_Elements}
use denote.Memory.{mem, cell_at, part_of}
use denote.Slice.{MutSlice, slice_val}
use denote.Struct.Struct.{Struct}
use denote.Struct.Owning.{shape, to}
use Rattle.block_memory.specs.Cells.{Holds, IsWritten, with_bytes}
use Rattle.block_memory.specs.Lends.{memory_with}
use Rattle.block_memory.specs.Ownership.{cell_owns, cells_own, memory_owns, may_give_back}
use Rattle.block_memory.specs.declared.raw.Memory.{Memory}
use Rattle.block_memory.specs.contracts.raw.Memory.{the_row as R, the_type}
use Rattle.block_memory.specs.contracts.raw.Memory.run_mut as f
use Rattle.block_memory.proofs.raw.Memory.run_mut.Statement.{statement}
use Rattle.block_memory.proofs.raw.Memory.run_mut.Code as code
use Rattle.std.proofs.lemmas.List.{take_all}
use Rattle.std.proofs.Common.{take}
use Rattle.block_memory.specs.Lemmas.CellLemmas.{bytes_of_written, length-with_bytes}
use Rattle.block_memory.proofs.MemoryLemmas.{front, back, run_out, run_in, bytes_out, bytes_in}

abbrev stayed : Stays f.ended.signature.params f.ended.kept
stayed = (stay_dropped _ _, (stay_dropped _ _, (stay_dropped _ _, (stay_dropped _ _, tt))))

-- the memory m at the block b', of which xs are lent from `at` on, and whose owner lies at (b, o)
module _ {L : Type 1} {𝓤 : Ura L} (𝓛 : Logic 𝓤) (m : Memory) (at n : ℕ) (xs : List ℕ) (count : length xs ≡ n) (h : Holds m.cells at xs)
    (b o b' o' : ℕ) (us : List Val) where
  -- what stays behind: the other cells, the right to give back, and the owner itself
  abbrev others : SProp 𝓤
  others = sep 𝓤 (sep 𝓤 (sem 𝓛 (cells_own (front 𝓛 b' m.cells o' at xs h) b' o'))
      (sem 𝓛 (cells_own (back 𝓛 b' m.cells o' at xs h) b' (at + o' + length xs))))
      (sep 𝓤 (sem 𝓛 (may_give_back (length m.cells) (block_ptr b' o')))
      (sep 𝓤 (sem 𝓛 ((Struct (shape the_type)).own_val (to the_type m) us)) (sem 𝓛 (cell_at full_share R.mir us b o))))

  -- with other bytes in the place of xs they are the memory with those bytes
  whole : m.start ≡ block_ptr b' o' → (ws : List ℕ) → length ws ≡ length xs
      → ent 𝓤 (sep 𝓤 (sem 𝓛 (bytes_lie (mem u8) ws b' (at + o'))) others) (sem 𝓛 ((mem R).own_at (memory_with m at n ws) b o))
  unfolding part_of
  whole e ws same =
      let all : take n ws ≡ ws = take_all n ws (omega (arith, same, count)) in
      let long : length (with_bytes m.cells at ws) ≡ length m.cells = length-with_bytes m.cells at ws in
      qed 𝓛 (‵ (bytes_lie (mem u8) ws b' (at + o'))
      ∷ ((‵ (cells_own (front 𝓛 b' m.cells o' at xs h) b' o') ⊛ ‵ (cells_own (back 𝓛 b' m.cells o' at xs h) b' (at + o' + length xs)))
      ⊛ (‵ (may_give_back (length m.cells) (block_ptr b' o')) ⊛ (‵ ((Struct (shape the_type)).own_val (to the_type m) us) ⊛ ‵
      (cell_at full_share R.mir us b o)))) ∷ []) ∵
      use1 𝓛 (‵ (cells_own (map Some ws) b' (at + o'))) (bytes_in 𝓛 b' ws (at + o')) $ move ! (1 ∷ []) $ split ! $ move ! (2 ∷ 0
      ∷ []) $ join ! $
      use1 𝓛 (‵ (cells_own (with_bytes m.cells at ws) b' o')) (run_in 𝓛 b' m.cells o' at xs h cell_owns ws same) $ move ! (1 ∷ []) $ split
      ! $
      rewrite ! 0 (λ (n : ℕ). ‵ (may_give_back n (block_ptr b' o'))) (sym long) refl $ move ! (2 ∷ 0 ∷ []) $ fjoin ! $
      rewrite ! 0 (λ (p : Ptr). ‵ (memory_owns p (with_bytes m.cells at ws))) (sym e) refl $ rewrite ! 0
      (λ (ys : List ℕ). ‵ (memory_owns m.start (with_bytes m.cells at ys))) (sym all) refl $ move ! (1 ∷ []) $ split ! $ move ! (0 ∷ 2
      ∷ []) $ fjoin ! $
      move ! (1 ∷ []) $ fjoin ! $ fpack ! (List Val) (λ vs. fsep (cell_at full_share R.mir vs b o) (R.own_val (memory_with m at n ws) vs))
      us $ done !

pub run_mut_spec : {M : Type 1} → statement M
run_mut_spec 𝓤 𝓛 𝓜 𝓡 wired =
    let c = f.clauses 𝓛 𝓜.mem 𝓡.returns in let W = walk_of 𝓛 f.ended stayed c in let 𝓣 = tables 𝓤 𝓛.H 𝓜 𝓡 𝓡.env in
    proved 𝓛 f.ended stayed c 𝓜 𝓡 (
      Goes-spent_ref 𝓛 1 (0 ∷ []) tt (plain (λ _. R)),
      (
        Goes-dropped 𝓛 1 (plain (λ _. RawPtr)) no (λ κs x w. refl),
        (Goes-dropped 𝓛 1 (plain (λ _. usize)) no (λ κs x w. refl), (Goes-dropped 𝓛 1 (plain (λ _. usize)) no (λ κs x w. refl), tt)),
      ),
    )
    f.Key.name code.function (code.unfolded 𝓤 𝓛.H 𝓜 𝓡 wired)
    (λ κs. (mut_vals, (rawptr_vals, (uint_vals w64, (uint_vals w64, tt)))))
    (λ κs. (mut_Tells (named 0) κs.0 R, (rawptr_Tells, (uint_Tells w64, (uint_Tells w64, tt)))))
    (λ κs qs bounds a _ are.
    let b = a.0.ref_ptr.0 in let o = a.0.ref_ptr.1 in let m = a.0.now in let start = a.1.0 in let at = a.1.1.0 in let n = a.1.1.1.0 in
    let rest : List Val × (List Val × (List Val × Unit {0})) = (rawptr_vals start, (uint_vals w64 at, (uint_vals w64 n, tt))) in
    let y : W.Ghost = ((κs, qs, bounds, a, (mut_vals a.0, rest)), tt) in
    qed 𝓛 (((‵ (flft κs.0 qs.0) ⊛ ‵ ftrue) ⊛ ‵ ((MutRef (named 0) κs.0 R).own_val a.0 (mut_vals a.0)) ⊛ ‵
    (owns (RawPtr ∷ usize ∷ usize ∷ []) a.1 rest))
    ∷ (raw (fact 𝓤 (start ≡ m.start)) ⊛ (raw (fact 𝓤 (IsWritten m.cells at n)) ⊛ raw (fact 𝓤 (n < 2 ^ 63)))) ∷ []) ∵
    move ! (1 ∷ []) $ split ! $ heard ! _
    (λ here. split ! $ heard ! _ (λ written. heard ! _ (λ low. split ! $ split ! $ move ! (2 ∷ []) $ split ! $ keep ! (0 ∷ 2 ∷ []) $
    let bytes = bytes_of_written m.cells at n written in let xs = bytes.0 in let long = bytes.1 in let h = bytes.2 in
    let small : length xs < 2 ^ 63 = omega (arith, low, long) in
    let fits : length xs < 2 ^ 64 = omega (arith, small) in
    let room : length xs * 1 < 2 ^ 63 = omega (arith, small) in
    enter ! _ _ _ _ _ $ alloc_all
    ! (λ l. pass_all ! refl (
      (tt, tt),
      (
        ((rawptr_Lawful 𝓛).typed start _ refl).0,
        ((tt, record { fits = are.1.1.0.1 }), ((tt, record { fits = are.1.1.1.0.1 }), tt)),
      ),
    ) $
    fsplit3 ! $ move ! (1 ∷ 2 ∷ 3 ∷ []) $ opens ! tt R b o (λ us.
    move ! (1 ∷ []) $ fsplit ! $ move ! (1 ∷ []) $
    in_a_block ! m.start (λ p. memory_owns p m.cells) (id⊢ 𝓤 _) (λ b' o' e. fsplit ! $
    use1 𝓛 (‵ (cells_own (map Some xs) b' (at + o')) ⊛ (‵ (cells_own (front 𝓛 b' m.cells o' at xs h) b' o') ⊛ ‵
    (cells_own (back 𝓛 b' m.cells o' at xs h) b' (at + o' + length xs))))
    (run_out 𝓛 b' m.cells o' at xs h cell_owns) $ split ! $ use1 𝓛 (‵ (bytes_lie (mem u8) xs b' (at + o'))) (bytes_out 𝓛 b' xs (at + o')) $
    -- [the bytes; the cells round them; the right to give back; the fields; the owner's place; the open borrow, in three entries]
    take_at ! 2 $ rewrite ! 0 (λ (v : Val). ‵ (fat full_share ty_ptr (l 2) 0 v)) (ap ptr_val (here ∙ e)) refl $ give_at ! 2 $
    first ! $ blocks ! $
    sets ! (bin ! (get ! refl) (get ! refl) tt) refl (tt, tt) $
    sets_last ! (is ! (agg ! (and_then ! (get ! refl) (and_then ! (get ! refl) (no_more !)))) (ap (slice_val (b', at + o')) (sym long)))
    refl (tt, (tt, (record { fits = fits }, tt))) $
    exec ! 𝓣.C 𝓣.Λ (env code.Mir.locals l) code.Mir.t-2 (at_ret _ (W.post y)) $
    sets ! (of_opd ! (get ! refl)) refl (tt, (tt, (record { fits = fits }, tt))) $
    move ! (3 ∷ 4 ∷ []) $ join ! $ move ! (3 ∷ 0 ∷ []) $ join ! $ move ! (2 ∷ 0 ∷ []) $ join ! $ move ! (2 ∷ 3 ∷ 4 ∷ 1 ∷ 0 ∷ []) $ group ! 5
    $
    use1 𝓛 (later (some (λ (γ : ℕ). ‵ ((MutSlice (named 0) κs.0 u8).own_val (record { ref_ptr = (b', at + o'); ghost_name = γ; now = xs })
    (slice_val (b', at + o') (length xs) ∷ []))
    ⊛ (‵ (flft κs.0 qs.0) ⊛ ‵ (follows R (Array u8 0) a.0.ghost_name γ (memory_with m at n))))))
    (lends_Elements 𝓛 R u8 (memory_with m at n) (named 0) κs.0 qs.0 b o b' (at + o') a.0.ghost_name xs (fits, room)
    (others 𝓛 m at n xs long h b o b' o' us) (whole 𝓛 m at n xs long h b o b' o' us e) _ _) $
    await ! tt $ pick ! (λ γ. split3 ! $
    returns ! (look_at ! 0 refl) $ free_all ! refl $ keep ! (1 ∷ 0 ∷ 2 ∷ []) $
    let r : MutBor (List ℕ) = record { ref_ptr = (b', at + o'); ghost_name = γ; now = xs } in
    suffices ! _ (ends_at 𝓛 f.ended stayed c y (slice_val (b', at + o') (length xs)) r (tt, (tt, (tt, (tt, tt))))
    (tt, (tt, (tt, (tt, tt))))) $
    states ! (length xs ≡ n) long $ states ! (Holds m.cells at xs) h $ move ! (2 ∷ 3 ∷ 4 ∷ []) $
    nothing ! $ move ! (1 ∷ 0 ∷ []) $ join ! $ nothing ! $ nothing ! $ join ! $ nothing ! $ join ! $ nothing ! $ join ! $ nothing ! $ join
    ! $
    move ! (1 ∷ 0 ∷ []) $ group ! 3 $ done !))))))))
