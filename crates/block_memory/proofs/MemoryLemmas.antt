-- The memory of a block, cut into parts and put together again. Assumes `Logic`.
use Rattle.std.proofs.Common.{◌≡◌, ℕ, zero, suc, ◌+◌, ◌^◌, ◌<◌, ◌≤◌, List, [], ◌∷◌, ◌++◌, Option, Some, None, length, take, drop, map}
use Rattle.std.proofs.Common.{replicate, get_or, set, refl, sym, ap, ◌∙◌, arith, w8, drop-cons}
use Rattle.std.proofs.lemmas.List.{take-append-drop, length-take-le, length-map, set_split}
use seplogic.Ra.Ura.{Ura}
use base.Fraction.{full_share}
use base.Logic.{SProp, ent, sep, via, id⊢, mono_r, mono∗}
use base.Fml.{Fml, Lft, ftrue, fat, froom}
use mir.Val.{vint}
use prog.Memory.{capped, size, align}
use types.Logic.{Logic, sem}
use types.Kit.{‵, ◌⊛◌, ◌$◌, ◌∵◌, !, qed, done, move, drop as forgets, use1, use2, split, fsplit, fjoin, rewrite}
use types.SemTy.{cells as bytes_lie}
use denote.Builtin.{u8}
use denote.Memory.{mem}
use denote.Plain.{uint_in, uint_out}
use denote.Slice.{elements_shared}
use denote.Steps.{nothing}
use Rattle.block_memory.specs.Cells.{Cells, Holds, blank_cells, with_bytes}
use Rattle.block_memory.specs.Lemmas.CellLemmas.{with_bytes_is, with_bytes_same}
use Rattle.block_memory.specs.Ownership.{byte, block_of, each_cell, cell_owns, cells_own, cell_shares, cells_share}
use Rattle.std.proofs.lemmas.Bool.Decides.{nat_tests}
use Rattle.std.proofs.lemmas.Grind.{common_steps}

-- a block of n bytes has the size n and no wish for a place
pub layout : (n : ℕ) → n < 2 ^ 63 → (capped (size (block_of n)) ≡ n) × (capped (align (block_of n)) ≡ 1)
layout n low = grind (arith, nat_tests, common_steps)

module _ {M : Type 1} {𝓤 : Ura M} (𝓛 : Logic 𝓤) (b : ℕ) where
  abbrev ◌⊢◌ : SProp 𝓤 → SProp 𝓤 → Type 1
  P ⊢ Q = ent 𝓤 P Q

  abbrev ◌∗◌ : SProp 𝓤 → SProp 𝓤 → SProp 𝓤
  P ∗ Q = sep 𝓤 P Q

  abbrev ⟦◌⟧ : Fml → SProp 𝓤
  ⟦ P ⟧ = sem 𝓛 P

  infix 26 ◌⊢◌
  infixr 35 ◌∗◌
  -- two runs of cells lie side by side
  module _ (F : Option ℕ → ℕ → ℕ → Fml) where
    pub cut : (xs ys : Cells) (o : ℕ) → ⟦ each_cell F (xs ++ ys) b o ⟧ ⊢ ⟦ each_cell F xs b o ⟧ ∗ ⟦ each_cell F ys b (o + length xs) ⟧
    cut [] ys o =
        let same : o ≡ o + 0 = omega arith in
        qed 𝓛 (‵ (each_cell F ys b o) ∷ []) ∵ rewrite ! 0 (λ (k : ℕ). ‵ (each_cell F ys b k)) same refl $ nothing ! $ done !
    cut (c ∷ xs) ys o =
        let same : o + 1 + length xs ≡ o + suc (length xs) = omega arith in
        qed 𝓛 (‵ (each_cell F (c ∷ (xs ++ ys)) b o) ∷ []) ∵ fsplit ! $ move ! (1 ∷ []) $
        use1 𝓛 (‵ (each_cell F xs b (o + 1)) ⊛ ‵ (each_cell F ys b (o + 1 + length xs))) (cut xs ys (o + 1)) $ split ! $
        rewrite ! 1 (λ (k : ℕ). ‵ (each_cell F ys b k)) same refl $ move ! (2 ∷ 0 ∷ []) $ fjoin ! $ done !

    pub glue : (xs ys : Cells) (o : ℕ) → ⟦ each_cell F xs b o ⟧ ∗ ⟦ each_cell F ys b (o + length xs) ⟧ ⊢ ⟦ each_cell F (xs ++ ys) b o ⟧
    glue [] ys o =
        let same : o + 0 ≡ o = omega arith in
        qed 𝓛 (‵ ftrue ∷ ‵ (each_cell F ys b (o + 0)) ∷ []) ∵ forgets ! $ rewrite ! 0 (λ (k : ℕ). ‵ (each_cell F ys b k)) same refl $ done !
    glue (c ∷ xs) ys o =
        let same : o + suc (length xs) ≡ o + 1 + length xs = omega arith in
        qed 𝓛 (‵ (each_cell F (c ∷ xs) b o) ∷ ‵ (each_cell F ys b (o + suc (length xs))) ∷ []) ∵ fsplit ! $
        rewrite ! 2 (λ (k : ℕ). ‵ (each_cell F ys b k)) same refl $ move ! (1 ∷ 2 ∷ []) $
        use2 𝓛 (‵ (each_cell F (xs ++ ys) b (o + 1))) (glue xs ys (o + 1)) $ move ! (1 ∷ 0 ∷ []) $ fjoin ! $ done !

  -- whatever a cell owns is room for a byte
  pub cell_room : (c : Option ℕ) (o : ℕ) → ⟦ cell_owns c b o ⟧ ⊢ ⟦ froom byte b o ⟧
  cell_room None o = id⊢ 𝓤 _
  cell_room (Some x) o = via 𝓤 ⟦ fat full_share byte b o (vint w8 x) ⟧ (uint_out 𝓛 full_share w8 x b o)
      (𝓛.laws.at_room byte b o (vint w8 x))

  pub cells_room : (cs : Cells) (o : ℕ) → ⟦ cells_own cs b o ⟧ ⊢ ⟦ froom (block_of (length cs)) b o ⟧
  cells_room [] o = 𝓛.laws.room_nil byte b o
  cells_room (c ∷ cs) o =
      via 𝓤 (⟦ froom byte b o ⟧ ∗ ⟦ froom (block_of (length cs)) b (o + 1) ⟧) (mono∗ 𝓤 (cell_room c o) (cells_room cs (o + 1)))
      (𝓛.laws.room_cons byte (length cs) b o)

  -- a fresh block has room for each of its unwritten cells
  fresh_each : (n o : ℕ) → ⟦ froom (block_of n) b o ⟧ ⊢ ⟦ cells_own (replicate n None) b o ⟧
  fresh_each zero o = qed 𝓛 (‵ (froom (block_of zero) b o) ∷ []) ∵ forgets ! $ nothing ! $ done !
  fresh_each (suc n) o =
      via 𝓤 (⟦ froom byte b o ⟧ ∗ ⟦ froom (block_of n) b (o + 1) ⟧) (𝓛.laws.room_uncons byte n b o)
      (mono_r 𝓤 ⟦ froom byte b o ⟧ (fresh_each n (o + 1)))

  pub fresh_cells : (n o : ℕ) → ⟦ froom (block_of n) b o ⟧ ⊢ ⟦ cells_own (blank_cells n) b o ⟧
  unfolding blank_cells
  fresh_cells n o = fresh_each n o

  -- written cells are bytes that lie side by side
  pub bytes_out : (xs : List ℕ) (o : ℕ) → ⟦ cells_own (map Some xs) b o ⟧ ⊢ ⟦ bytes_lie (mem u8) xs b o ⟧
  bytes_out [] o = id⊢ 𝓤 _
  bytes_out (x ∷ xs) o = mono_r 𝓤 ⟦ cell_owns (Some x) b o ⟧ (bytes_out xs (o + 1))

  pub bytes_in : (xs : List ℕ) (o : ℕ) → ⟦ bytes_lie (mem u8) xs b o ⟧ ⊢ ⟦ cells_own (map Some xs) b o ⟧
  bytes_in [] o = id⊢ 𝓤 _
  bytes_in (x ∷ xs) o = mono_r 𝓤 ⟦ cell_owns (Some x) b o ⟧ (bytes_in xs (o + 1))

  pub bytes_shared : (κ : Lft) (xs : List ℕ) (o : ℕ) → ⟦ cells_share κ (map Some xs) b o ⟧ ⊢ ⟦ elements_shared u8 xs b o κ ⟧
  bytes_shared κ [] o = id⊢ 𝓤 _
  bytes_shared κ (x ∷ xs) o = mono_r 𝓤 ⟦ cell_shares κ (Some x) b o ⟧ (bytes_shared κ xs (o + 1))

  -- one cell is taken out as room, and put back with a byte
  module _ (cs : Cells) (o at : ℕ) (inside : at < length cs) where
    abbrev pub before : Cells
    before = take at cs

    abbrev pub after : Cells
    after = drop (suc at) cs

    long : length (take at cs) ≡ at
    long = length-take-le at cs (omega (arith, inside))

    place : o + length before ≡ at + o
    place = omega (arith, long)

    pub take_cell : ⟦ cells_own cs b o ⟧ ⊢ ⟦ cells_own before b o ⟧ ∗ (⟦ froom byte b (at + o) ⟧ ∗ ⟦ cells_own after b (at + o + 1) ⟧)
    take_cell =
        let c : Option ℕ = get_or cs at None in
        let parts : cs ≡ before ++ c ∷ after = sym (take-append-drop at cs)
        ∙ ap (λ (t : Cells). take at cs ++ t) (drop-cons cs at None inside) in
        qed 𝓛 (‵ (cells_own cs b o) ∷ []) ∵ rewrite ! 0 (λ (t : Cells). ‵ (cells_own t b o)) parts refl $
        use1 𝓛 (‵ (cells_own before b o) ⊛ ‵ (cells_own (c ∷ after) b (o + length before))) (cut cell_owns before (c ∷ after) o) $ split ! $
        move ! (1 ∷ []) $ rewrite ! 0 (λ (k : ℕ). ‵ (cells_own (c ∷ after) b k)) place refl $ fsplit ! $
        use1 𝓛 (‵ (froom byte b (at + o))) (cell_room c (at + o)) $ move ! (2 ∷ 0 ∷ []) $ done !

    pub put_cell : (x : ℕ) → ⟦ cells_own before b o ⟧ ∗ (⟦ fat full_share byte b (at + o) (vint w8 x) ⟧ ∗ ⟦ cells_own after b (at + o
        + 1) ⟧) ⊢ ⟦ cells_own (set cs at (Some x)) b o ⟧
    put_cell x =
        qed 𝓛 (‵ (cells_own before b o) ∷ ‵ (fat full_share byte b (at + o) (vint w8 x)) ∷ ‵ (cells_own after b (at + o + 1)) ∷ []) ∵
        move ! (1 ∷ 2 ∷ []) $ use1 𝓛 (‵ (cell_owns (Some x) b (at + o))) (uint_in 𝓛 full_share w8 x b (at + o)) $ fjoin ! $
        rewrite ! 0 (λ (k : ℕ). ‵ (cells_own (Some x ∷ after) b k)) (sym place) refl $ move ! (1 ∷ []) $
        use2 𝓛 (‵ (cells_own (before ++ Some x ∷ after) b o)) (glue cell_owns before (Some x ∷ after) o) $
        rewrite ! 0 (λ (t : Cells). ‵ (cells_own t b o)) (sym (set_split cs at (Some x) inside)) refl $ done !

  -- bytes that stand are taken out, and others put back in their place
  module _ (cs : Cells) (o at : ℕ) (xs : List ℕ) (h : Holds cs at xs) where
    abbrev pub front : Cells
    front = take at cs

    abbrev pub back : Cells
    back = drop (at + length xs) cs

    module _ (ws : List ℕ) (same : length ws ≡ length xs) where
      room : at + length ws ≤ length cs
      room = let within = h.within in omega (arith, same)

      front_end : o + length front ≡ at + o
      front_end = omega (arith, length-take-le at cs (omega (arith, room)))

      run_end : at + o + length (map Some ws) ≡ at + o + length xs
      run_end = omega (arith, length-map ws Some, same)

      with_ws : front ++ (map Some ws ++ back) ≡ with_bytes cs at ws
      with_ws = ap (λ (n : ℕ). front ++ (map Some ws ++ drop (at + n) cs)) (sym same) ∙ sym (with_bytes_is cs at ws room)

    module _ (F : Option ℕ → ℕ → ℕ → Fml) where
      pub run_out : ⟦ each_cell F cs b o ⟧ ⊢ ⟦ each_cell F (map Some xs) b (at
          + o) ⟧ ∗ (⟦ each_cell F front b o ⟧ ∗ ⟦ each_cell F back b (at + o + length xs) ⟧)
      run_out =
          let parts : cs ≡ front ++ (map Some xs ++ back) = sym (with_bytes_same cs at xs h) ∙ with_bytes_is cs at xs h.within in
          qed 𝓛 (‵ (each_cell F cs b o) ∷ []) ∵ rewrite ! 0 (λ (t : Cells). ‵ (each_cell F t b o)) parts refl $
          use1 𝓛 (‵ (each_cell F front b o) ⊛ ‵ (each_cell F (map Some xs ++ back) b (o + length front)))
          (cut F front (map Some xs ++ back) o) $ split ! $
          move ! (1 ∷ []) $ rewrite ! 0 (λ (k : ℕ). ‵ (each_cell F (map Some xs ++ back) b k)) (front_end xs refl) refl $
          use1 𝓛 (‵ (each_cell F (map Some xs) b (at + o)) ⊛ ‵ (each_cell F back b (at + o + length (map Some xs))))
          (cut F (map Some xs) back (at + o)) $ split ! $
          rewrite ! 1 (λ (k : ℕ). ‵ (each_cell F back b k)) (run_end xs refl) refl $ move ! (0 ∷ 2 ∷ 1 ∷ []) $ done !

      pub run_in : (ws : List ℕ) → length ws ≡ length xs
          → ⟦ each_cell F (map Some ws) b (at + o) ⟧ ∗ (⟦ each_cell F front b o ⟧ ∗ ⟦ each_cell F back b (at + o + length xs) ⟧) ⊢ ⟦
          each_cell F (with_bytes cs at ws) b o ⟧
      run_in ws same =
          qed 𝓛 (‵ (each_cell F (map Some ws) b (at + o)) ∷ ‵ (each_cell F front b o) ∷ ‵ (each_cell F back b (at + o + length xs)) ∷ []) ∵
          rewrite ! 2 (λ (k : ℕ). ‵ (each_cell F back b k)) (sym (run_end ws same)) refl $ move ! (0 ∷ 2 ∷ []) $
          use2 𝓛 (‵ (each_cell F (map Some ws ++ back) b (at + o))) (glue F (map Some ws) back (at + o)) $
          rewrite ! 0 (λ (k : ℕ). ‵ (each_cell F (map Some ws ++ back) b k)) (sym (front_end ws same)) refl $ move ! (1 ∷ []) $
          use2 𝓛 (‵ (each_cell F (front ++ (map Some ws ++ back)) b o)) (glue F front (map Some ws ++ back) o) $
          rewrite ! 0 (λ (t : Cells). ‵ (each_cell F t b o)) (with_ws ws same) refl $ done !
