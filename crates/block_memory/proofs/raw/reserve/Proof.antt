-- `reserve` takes a block from the allocator, and makes of it the right to a memory of which nothing was written.
use Rattle.block_memory.proofs.Steps.{◌≡◌, ℕ, ◌<◌, ◌^◌, List, [], ◌∷◌, Option, Some, None, refl, sym, ap, ◌∙◌, arith, lit<, w64, proved}
use Rattle.block_memory.proofs.Steps.{id⊢, ent, sep, emp, Fml, ftrue, fsep, froom, flft, named, Val, vint, vptr, fact, fact_i, tables, ‵}
use Rattle.block_memory.proofs.Steps.{raw, ◌⊛◌, some, later, given, at_ret, ◌$◌, ◌∵◌, !, qed, done, move, keep, forgets, use0, use1, use2}
use Rattle.block_memory.proofs.Steps.{split, join, fsplit, fjoin, fpack, feq_i, pick, learn, check, show, await, rewrite, suffices, group}
use Rattle.block_memory.proofs.Steps.{enter, of_opd, lit, and_then, no_more, first, switches, exec, returns, agg, alloc_all, pass_all}
use Rattle.block_memory.proofs.Steps.{free_all, look_at, get, get_in, get_tag, sets, sets_last, lands_as, env, usize, yes, shows, uint_vals}
use Rattle.block_memory.proofs.Steps.{uint_Tells, uint_Makes, Ptr, RawPtr, block_ptr, in_a_block, ShrRef, shr_vals, shr_Tells, plain}
use Rattle.block_memory.proofs.Steps.{nothing, owned, facts, heard, only, calls_at, lasts, triple_of, framed, Stays, walk_of, states}
use Rattle.block_memory.proofs.Steps.{stay_dropped, Goes-dropped, ends_at}
use seplogic.Ra.Ura.{Ura}
use mir.Val.{vstruct, vnil, of_list}
use base.Logic.{guard, ex, never, fst∗}
use types.Kit.{Item, Seq, Goal}
use prog.Memory.{capped, size, align}
use types.Logic.{Logic, sem}
use types.Match.{live, vrt, in_variant}
use types.Part.{whole}
use types.Run.{fld, stop}
use denote.Builtin.{RefOf}
use denote.Laws.{Is}
use denote.RattleType.{RattleType, Valss}
use denote.RawPtr.{null_ptr}
use denote.Struct.Declared as declared
use denote.Struct.Struct.{Struct, Struct-Makes, within}
use denote.Struct.Owning.{shape}
use Rattle.std.specs.Allocator.{block_if_ok}
use Rattle.std.specs.Prelude.{Result, Ok, Err}
use Rattle.std.specs.Global.{Global}
use Rattle.std.specs.declared.alloc.AllocError.{AllocError}
use Rattle.std.specs.contracts.alloc.Global.{the_row as Handle}
use Rattle.std.specs.contracts.alloc.AllocError as refusal
use Rattle.std.specs.contracts.alloc.AllocError.{the_row as Refusal}
use Rattle.std.specs.contracts.result.Result as result
use Rattle.std.proofs.result.Made.{Ok-of, Err-of}
use Rattle.std.proofs.result.Result.TheLaws as result_laws
use Rattle.std.proofs.alloc.AllocError.TheLaws as refusal_laws
use borrow.Table.RawPtr.{ptr_laws}
use denote.Lowered.{Lowered}
use denote.Param.Laws.{field_told}
use denote.Struct.Field.{RawPtr-field}
use denote.Struct.Laws.{RawPtr-laws}
use Rattle.std.specs.contracts.impls.GlobalAllocator.allocate as g
use Rattle.std.specs.contracts.impls.GlobalAllocator.TheImpl.{ghosts}
use Rattle.std.proofs.impls.GlobalAllocator.allocate.Met.{met}
use Rattle.block_memory.specs.Cells.{Cells, blank_cells}
use Rattle.block_memory.specs.Ownership.{block_of, cells_own, may_give_back}
use Rattle.block_memory.specs.declared.raw.Memory.{Memory}
use Rattle.block_memory.specs.declared.raw.Reserved.{Reserved}
use Rattle.block_memory.specs.contracts.raw.Reserved as reserved
use Rattle.block_memory.specs.contracts.raw.Memory.{the_row as R, the_type}
use Rattle.block_memory.specs.contracts.raw.reserve as f
use Rattle.block_memory.proofs.raw.reserve.Statement.{statement}
use Rattle.block_memory.proofs.raw.reserve.Code as code
use Rattle.block_memory.specs.Lemmas.CellLemmas.{length-blank_cells}
use Rattle.block_memory.proofs.MemoryLemmas.{fresh_cells, layout}

abbrev stayed : Stays f.ended.signature.params f.ended.kept
stayed = (stay_dropped _ _, (stay_dropped _ _, tt))

abbrev Answer : RattleType
Answer = result.the_row RawPtr Refusal

-- the machine's value of an answer
abbrev stored : Lowered Answer
stored = result_laws.lowers RawPtr Refusal ptr_laws refusal_laws.the_row_laws (field_told RawPtr-field RawPtr-laws) refusal_laws.the_told

-- an answer, and what comes with it: a block at a place, or a refusal
abbrev answer : Option (ℕ × ℕ) → Val
answer (Some p) = live 0 (of_list (vptr p.0 p.1 ∷ []))
answer None = live 1 (of_list (vstruct vnil ∷ []))

abbrev granted : ℕ → Option (ℕ × ℕ) → Fml
granted n (Some p) = fsep (froom (block_of n) p.0 p.1) (may_give_back n (block_ptr p.0 p.1))
granted n None = ftrue

-- the right to a memory of which nothing was written
abbrev fresh : ℕ → ℕ → ℕ → Memory
fresh n b o = record { start = block_ptr b o; cells = blank_cells n }

abbrev taken : ℕ → ℕ → ℕ → Reserved
taken n b o = record { start = block_ptr b o; memory = fresh n b o }

abbrev taken_val : ℕ → ℕ → Val
taken_val b o = vstruct (of_list (vptr b o ∷ vstruct vnil ∷ []))

module _ {L : Type 1} {𝓤 : Ura L} (𝓛 : Logic 𝓤) (n : ℕ) where
  abbrev promised : Global → Result Ptr AllocError → Fml
  promised heap = block_if_ok (ghosts.dealloc_token heap) (block_of n)

  answers : (heap : Global) (r : Result Ptr AllocError) (v : Val)
      → ent 𝓤 (sep 𝓤 (sem 𝓛 (Answer.own_val r (v ∷ []))) (sem 𝓛 (promised heap r)))
      (ex 𝓤 (λ c. guard 𝓤 (v ≡ answer c) (sem 𝓛 (granted n c))))
  answers heap (Ok p) v =
      qed 𝓛 (‵ (Answer.own_val (Ok p) (v ∷ [])) ∷ ‵ (promised heap (Ok p)) ∷ []) ∵
      facts ! Answer (Is Answer) (shows 𝓛 Answer) (Ok p) (v ∷ []) (λ is.
      in_a_block ! p (λ z. promised heap (Ok z)) (fst∗ 𝓤 (never 𝓤) (sem 𝓛 (ghosts.dealloc_token heap (block_of n) null_ptr))) (λ b o e.
      fsplit ! $ move ! (1 ∷ []) $ fpack ! Global (λ h. ghosts.dealloc_token h (block_of n) (block_ptr b o)) heap $ move ! (1 ∷ []) $ fjoin
      ! $
      show ! (λ c. guard 𝓤 (v ≡ answer c) (sem 𝓛 (granted n c))) (Some (b, o)) $
      check ! (ap only (stored.val_is (Ok p) (v ∷ []) is) ∙ ap (λ (z : Ptr). stored.lowered (Ok z)) e) $ done !))
  answers heap (Err e) v =
      qed 𝓛 (‵ (Answer.own_val (Err e) (v ∷ [])) ∷ ‵ ftrue ∷ []) ∵
      facts ! Answer (Is Answer) (shows 𝓛 Answer) (Err e) (v ∷ []) (λ is.
      show ! (λ c. guard 𝓤 (v ≡ answer c) (sem 𝓛 (granted n c))) None $
      check ! (ap only (stored.val_is (Err e) (v ∷ []) is)) $ done !)

  -- a fresh block is owned as `taken`
  makes : (b o : ℕ) → ent 𝓤 (sep 𝓤 (sem 𝓛 (froom (block_of n) b o)) (sem 𝓛 (may_give_back n (block_ptr b o))))
      (sem 𝓛 (reserved.the_row.own_val (taken n b o) (taken_val b o ∷ [])))
  makes b o =
      qed 𝓛 (‵ (froom (block_of n) b o) ∷ ‵ (may_give_back n (block_ptr b o)) ∷ []) ∵
      use1 𝓛 (‵ (cells_own (blank_cells n) b o)) (fresh_cells 𝓛 b n o) $
      rewrite ! 1 (λ (k : ℕ). ‵ (may_give_back k (block_ptr b o))) (sym (length-blank_cells n)) refl $ fjoin ! $
      owned ! (Struct (shape the_type)) (Is (Struct (shape the_type))) (Struct-Makes 𝓛 (shape the_type) tt) tt (vstruct vnil
      ∷ []) (tt, (refl, tt)) $ fjoin ! $
      nothing ! $ move ! (1 ∷ 0 ∷ []) $ fjoin ! $ feq_i ! (List Val) (vptr b o ∷ []) (vptr b o ∷ []) refl $ fjoin ! $
      feq_i ! (List Val) (taken_val b o ∷ []) (taken_val b o ∷ []) refl $ fjoin ! $
      fpack ! (Valss (RawPtr ∷ R ∷ [])) (within (declared.shape reserved.the_type) (block_ptr b o, (fresh n b o, tt)) (taken_val b o ∷ []))
      (vptr b o ∷ [], (vstruct vnil ∷ [], tt)) $ done !

  -- a refusal owns nothing
  refuses : ent 𝓤 (emp 𝓤) (sem 𝓛 (Refusal.own_val (record {}) (vstruct vnil ∷ [])))
  refuses =
      let S = declared.shape refusal.the_type in
      qed 𝓛 [] ∵ owned ! (Struct S) (Is (Struct S)) (Struct-Makes 𝓛 S tt) tt (vstruct vnil ∷ []) (tt, (refl, tt)) $ done !

-- the two cases of an answer
module _ {L : Type 1} {𝓤 : Ura L} {𝓛 : Logic 𝓤} {K : Type 0} {Γ : List (Item 𝓤)} {G : Goal 𝓤 𝓛.H} where
  by_answer : K → (n : ℕ) (v : Val) (c : Option (ℕ × ℕ)) → v ≡ answer c
      → ((b o : ℕ) → v ≡ answer (Some (b, o)) → Seq K 𝓛 (‵ (froom (block_of n) b o) ∷ ‵ (may_give_back n (block_ptr b o)) ∷ Γ) G)
      → (v ≡ answer None → Seq K 𝓛 Γ G) → Seq K 𝓛 (‵ (granted n c) ∷ Γ) G
  by_answer t n v (Some p) e ok none = fsplit t $ ok p.0 p.1 e
  by_answer t n v None e ok none = forgets t $ none e

no_other : ◌≡◌ {A = ℕ} 0 1 → ⊥
no_other e = omega (arith, e)

pub reserve_spec : {M : Type 1} → statement M
reserve_spec 𝓤 𝓛 𝓜 𝓡 wired =
    let c = f.clauses 𝓛 𝓜.mem 𝓡.returns in let W = walk_of 𝓛 f.ended stayed c in let 𝓣 = tables 𝓤 𝓛.H 𝓜 𝓡 𝓡.env in
    proved 𝓛 f.ended stayed c 𝓜 𝓡 (
      Goes-dropped 𝓛 1 (RefOf (0 ∷ []) tt (plain (λ _. Handle)) (λ _. tt)) yes (λ κs x w. refl),
      (Goes-dropped 𝓛 1 (plain (λ _. usize)) yes (λ κs x w. refl), tt),
    )
    f.Key.name code.function (code.unfolded 𝓤 𝓛.H 𝓜 𝓡 wired)
    (λ κs. (shr_vals, (uint_vals w64, tt))) (λ κs. (shr_Tells (named 0) κs.0 Handle, (uint_Tells w64, tt)))
    (λ κs qs bounds a _ are.
    let len = a.1.0 in
    let vss : List Val × (List Val × Unit {0}) = (shr_vals a.0, (uint_vals w64 len, tt)) in
    let y : W.Ghost = ((κs, qs, bounds, a, vss), tt) in
    let τ = block_of len in
    qed 𝓛 (((‵ (flft κs.0 qs.0) ⊛ ‵ ftrue) ⊛ (‵ ((ShrRef (named 0) κs.0 Handle).own_val a.0 vss.0) ⊛
    (‵ (usize.own_val len vss.1.0) ⊛ ‵ ftrue))) ∷ raw (fact 𝓤 (len < 2 ^ 63)) ∷ []) ∵
    move ! (1 ∷ []) $ heard ! _ (λ low.
    split ! $ split ! $ move ! (2 ∷ []) $ split ! $ keep ! (0 ∷ 2 ∷ []) $
    enter ! _ _ _ _ _ $ alloc_all ! (λ l. pass_all ! refl ((tt, tt), ((tt, record { fits = are.1.0.1 }), tt)) $
    let G = triple_of 𝓛 g.signature (g.spec 𝓛 𝓜.mem 𝓡.returns) in
    let z : G.Ghost = ((κs, qs, tt, (a.0, (len, (1, tt))), (shr_vals a.0, (vint w64 len ∷ [], (vint w64 1 ∷ [], tt)))), τ) in
    -- [the handle; its lifetime's token]
    use0 𝓛 (raw (fact 𝓤 ((capped (size τ) ≡ len) × (capped (align τ) ≡ 1)))) (fact_i 𝓤 ((capped (size τ) ≡ len) × (capped (align τ) ≡ 1))
    (emp 𝓤) (layout len low)) $
    nothing ! $ owned ! usize _ (uint_Makes 𝓛 w64) 1 _ (refl, lit< tt) $ fjoin ! $ owned ! usize _ (uint_Makes 𝓛 w64) len _
    (refl, are.1.0.1) $ fjoin ! $
    move ! (2 ∷ 0 ∷ []) $ fjoin ! $ nothing ! $ move ! (3 ∷ 0 ∷ []) $ join ! $ join ! $ join ! $ use1 𝓛 (raw (G.pre z)) (id⊢ 𝓤 _) $
    calls_at ! (framed 𝓤 𝓛.H 𝓜 𝓣) G (met 𝓤 𝓛 𝓜 𝓡 (code.calls-std_heap::GlobalAllocator::allocate 𝓡.env wired)) z
    (and_then ! (get ! refl) (and_then ! (get ! refl) (and_then ! (lit ! tt) (no_more !)))) (λ v.
    use1 𝓛 (later (some (λ (r : Result Ptr AllocError). ((‵ (flft κs.0 qs.0) ⊛ ‵ ftrue) ⊛ ‵ (Answer.own_val r (v ∷ [])))
    ⊛ some (λ (ws : Unit {0} × (Unit {0} × (Unit {0} × Unit {0}))). ‵ (lasts g.ended κs z.0.3 ws) ⊛ ‵ (promised 𝓛 len a.0.now r)))))
    (id⊢ 𝓤 _) $ await ! tt $ pick ! (λ r.
    split ! $ split ! $ move ! (2 ∷ []) $ pick ! (λ ws. split ! $ forgets ! $ move ! (2 ∷ 0 ∷ []) $
    use2 𝓛 (some (λ (p : Option (ℕ × ℕ)). given (v ≡ answer p) (‵ (granted len p)))) (answers 𝓛 len a.0.now r v) $ pick
    ! (λ p. learn ! (λ is.
    by_answer ! len v p is
    (λ b o e.
    lands_as ! e refl (tt, (record { fits = lit< tt }, (tt, tt))) $
    first ! $ switches ! (get_tag ! (vrt ! refl (fld ! refl (stop !))) (whole !)) (
      λ _.
          sets ! (of_opd ! (get_in ! (vrt ! refl (fld ! refl (stop !))) (in_variant ! 0 0 refl refl (whole !)))) refl (tt, tt) $
          sets ! (agg ! (no_more !)) refl (tt, tt) $
          sets ! (agg ! (and_then ! (get ! refl) (and_then ! (get ! refl) (no_more !)))) refl (tt, (tt, (tt, tt))) $
          sets_last ! (agg ! (and_then ! (lit ! tt) (and_then ! (get ! refl) (no_more !)))) refl
          (tt, (record { fits = lit< tt }, ((tt, (tt, tt)), tt))) $
          exec ! 𝓣.C 𝓣.Λ (env code.Mir.locals l) code.Mir.t-3 (at_ret _ (W.post y)) $
          sets ! (of_opd ! (get ! refl)) refl (tt, (record { fits = lit< tt }, ((tt, (tt, tt)), tt))) $
          returns ! (look_at ! 0 refl) $ free_all ! refl $ keep ! (0 ∷ 1 ∷ 2 ∷ []) $
          use2 𝓛 (‵ (reserved.the_row.own_val (taken len b o) (taken_val b o ∷ []))) (makes 𝓛 len b o) $
          use1 𝓛 (‵ ((result.the_row reserved.the_row Refusal).own_val (Ok (taken len b o)) (live 0 (of_list (taken_val b o ∷ [])) ∷ [])))
          (Ok-of 𝓛 reserved.the_row Refusal (taken len b o) (taken_val b o)) $
          suffices ! _ (ends_at 𝓛 f.ended stayed c y (live 0 (of_list (taken_val b o ∷ []))) (Ok (taken len b o)) (tt, (tt, tt))
          (tt, (tt, tt))) $
          states ! (◌≡◌ {A = Cells} (fresh len b o).cells (blank_cells len)) refl $ states
          ! (◌≡◌ {A = Ptr} (fresh len b o).start (block_ptr b o)) refl $ move ! (2 ∷ 3 ∷ []) $
          nothing ! $ nothing ! $ join ! $ nothing ! $ join ! $ move ! (2 ∷ 0 ∷ []) $ group ! 3 $ done !,
      (λ h. absurd (no_other h), λ none. absurd (none.0.1 refl)),
    ))
    (λ e.
    lands_as ! e refl (tt, (record { fits = lit< tt }, (tt, tt))) $
    first ! $ switches ! (get_tag ! (vrt ! refl (fld ! refl (stop !))) (whole !)) (
      λ h. absurd (no_other (sym h)),
      (
        λ _.
            sets ! (of_opd ! (get_in ! (vrt ! refl (fld ! refl (stop !))) (in_variant ! 1 0 refl refl (whole !)))) refl (tt, tt) $
            sets_last ! (agg ! (and_then ! (lit ! tt) (and_then ! (get ! refl) (no_more !)))) refl
            (tt, (record { fits = lit< tt }, (tt, tt))) $
            exec ! 𝓣.C 𝓣.Λ (env code.Mir.locals l) code.Mir.t-3 (at_ret _ (W.post y)) $
            sets ! (of_opd ! (get ! refl)) refl (tt, (record { fits = lit< tt }, (tt, tt))) $
            returns ! (look_at ! 0 refl) $ free_all ! refl $ keep ! (0 ∷ []) $
            use0 𝓛 (‵ (Refusal.own_val (record {}) (vstruct vnil ∷ []))) (refuses 𝓛 len) $
            use1 𝓛 (‵ ((result.the_row reserved.the_row Refusal).own_val (Err (record {})) (live 1 (of_list (vstruct vnil ∷ [])) ∷ [])))
            (Err-of 𝓛 reserved.the_row Refusal (record {}) (vstruct vnil)) $
            suffices ! _ (ends_at 𝓛 f.ended stayed c y (live 1 (of_list (vstruct vnil ∷ []))) (Err (record {})) (tt, (tt, tt))
            (tt, (tt, tt))) $
            states ! (Unit {0}) tt $ states ! (Unit {0}) tt $ move ! (2 ∷ 3 ∷ []) $
            nothing ! $ nothing ! $ join ! $ nothing ! $ join ! $ move ! (2 ∷ 0 ∷ []) $ group ! 3 $ done !,
        λ none. absurd (none.1 refl),
      ),
    ))))))))))
