-- The groups of some passes together.
use Rattle.std.specs.Prelude.{◌≡◌, ◌≢◌, refl, ℕ, zero, suc, ◌⊎◌, true, false, cond, ◌||◌, List, [], ◌∷◌, ◌++◌, slice_get, slice_set}
use Rattle.std.specs.Prelude.{slice_index_or, Some, None, is_some}
use Rattle.std.proofs.Common.{sym, ◌∙◌, ap, subst, inl, inr, arith, append-nil}
use Rattle.std.proofs.lemmas.List.Sorted.{Contains-permutation, IsPermutation-sym}
use Rattle.std.proofs.lemmas.Grind.{flat_map-append}
use Rattle.std.specs.List.{swap}
use Rattle.std.specs.List.Sorted.{IsPermutation, IsStrictlySortedBy, SwapsInRange, apply_swaps}
use Rattle.hash_agg.proofs.Words.{Row, row_cmp, same_row, is_among, Partial, Query, Group, keys_of, partials_at, Record, Entry, Rises}
use Rattle.hash_agg.proofs.Words.{StandsFor, AreGroups, IsRun, concatenated, Piece, IsPiece, made_of, rows_at, CountUpTo, AreOnce}
use Rattle.hash_agg.proofs.Words.{AreGroupsBy, AreSafe, Stands}
use Rattle.grouping_model.specs.Rising.Facts.{same_members}
use Rattle.grouping_model.specs.DatumOrderLaws.{row_cmp_total, row_cmp_ties, same_row-is}
use Rattle.grouping_model.specs.MemberLaws.{Member, from_contains, to_contains}
use Rattle.grouping_model.specs.PartLaws.{same_row-swap}
use Rattle.hash_agg.specs.Lemmas.FoldLaws.{run_keys_rise}
use Rattle.group_runs.specs.MergeLaws.{AreApart, apart_from, rising_apart}
use Rattle.hash_agg.proofs.PassLaws.{at_cons, missing, by_uniform, by_append, by_set, once_apart, same_itself}
use Rattle.hash_agg.proofs.OneByOneLaws.{as_long, none_to_none}
use Rattle.hash_agg.proofs.SortLaws.{once_permuted, rises_once}

-- ---- groups in another order

by_index : (q : Query) (m : Row → ℕ) (es : List Entry) (gs : List Group) (i : ℕ) (x : Entry) (h : Group) → AreGroupsBy q m es gs
    → StandsFor q (m h.0) x h → StandsFor q (m (slice_index_or gs i h).0) (slice_index_or es i x) (slice_index_or gs i h)
by_index q m [] [] i x h are one = one
by_index q m [] (g ∷ gs) i x h are one = absurd are
by_index q m (e ∷ es) [] i x h are one = absurd are
by_index q m (e ∷ es) (g ∷ gs) zero x h (first, are) one = first
by_index q m (e ∷ es) (g ∷ gs) (suc i) x h (first, are) one = by_index q m es gs i x h are one

by_swap : (q : Query) (m : Row → ℕ) (es : List Entry) (gs : List Group) (i j : ℕ) → AreGroupsBy q m es gs
    → AreGroupsBy q m (swap es i j) (swap gs i j)
by_swap q m [] [] i j are = tt
by_swap q m [] (g ∷ gs) i j are = absurd are
by_swap q m (e ∷ es) [] i j are = absurd are
by_swap q m (e ∷ es) (g ∷ gs) i j (first, are) =
    by_set q m (slice_set (e ∷ es) i (slice_index_or (e ∷ es) j e)) (slice_set (g ∷ gs) i (slice_index_or (g ∷ gs) j g)) j
    (slice_index_or (e ∷ es) i e) (slice_index_or (g ∷ gs) i g)
    (by_set q m (e ∷ es) (g ∷ gs) i (slice_index_or (e ∷ es) j e) (slice_index_or (g ∷ gs) j g) (first, are)
    (by_index q m (e ∷ es) (g ∷ gs) j e g (first, are) first))
    (by_index q m (e ∷ es) (g ∷ gs) i e g (first, are) first)

by_swaps : (q : Query) (m : Row → ℕ) (es : List Entry) (gs : List Group) (moves : List (ℕ × ℕ)) → AreGroupsBy q m es gs
    → AreGroupsBy q m (apply_swaps es moves) (apply_swaps gs moves)
by_swaps q m es gs [] are = are
by_swaps q m es gs (p ∷ moves) are = by_swap q m (apply_swaps es moves) (apply_swaps gs moves) p.0 p.1 (by_swaps q m es gs moves are)

-- what is found at a key is a member
found_member : (k : Row) (gs : List Group) (ps : List Partial) → partials_at k gs ≡ Some ps → Member gs (k, ps)
found_member k [] ps e = absurd cc
found_member k (g ∷ gs) ps e =
    elim (same_row g.0 k) as (λ b. same_row g.0 k ≡ b → cond b (Some g.1) (partials_at k gs) ≡ Some ps → Member (g ∷ gs) (k, ps)) [
      | true ↦ λ s e. let same : g.1 ≡ ps = cc in inl (λ i. ((same_row-is g.0 k).0 s i, same i))
      | false ↦ λ s e. inr (found_member k gs ps e)
    ] refl (sym (at_cons k g gs) ∙ e)

among_member : (gs : List Group) (g : Group) → Member gs g → is_among row_cmp g.0 (keys_of gs) ≡ true
among_member [] g m = absurd m
among_member (h ∷ gs) g (inl e) = ap (λ (x : Group). same_row g.0 x.0 || is_among row_cmp g.0 (keys_of gs)) e
    ∙ ap (λ b. b || is_among row_cmp g.0 (keys_of gs)) (same_itself g.0)
among_member (h ∷ gs) g (inr m) =
    elim (same_row g.0 h.0) as (λ b. (b || is_among row_cmp g.0 (keys_of gs)) ≡ true) [
      | true ↦ refl
      | false ↦ among_member gs g m
    ]

member_found : (gs : List Group) (k : Row) (ps : List Partial) → AreApart (keys_of gs) → Member gs (k, ps) → partials_at k gs ≡ Some ps
member_found [] k ps apart m = absurd m
member_found (g ∷ gs) k ps (none, apart) (inl e) = at_cons k g gs
    ∙ ap (λ b. cond b (Some g.1) (partials_at k gs)) (ap (λ (g : Group). same_row g.0 k) e ∙ same_itself k) ∙ ap (λ (g : Group). Some g.1) e
member_found (g ∷ gs) k ps (none, apart) (inr m) =
    at_cons k g gs
    ∙ ap (λ b. cond b (Some g.1) (partials_at k gs)) (same_row-swap g.0 k ∙ apart_from g.0 k (keys_of gs) none (among_member gs (k, ps) m))
    ∙ member_found gs k ps apart m

found_moved : (gs hs : List Group) (k : Row) (ps : List Partial) → IsPermutation gs hs → AreApart (keys_of hs) → partials_at k gs ≡ Some ps
    → partials_at k hs ≡ Some ps
found_moved gs hs k ps moved apart found = member_found hs k ps apart
    (from_contains hs (k, ps) (Contains-permutation gs hs (k, ps) moved (to_contains gs (k, ps) (found_member k gs ps found))))

same_found : (gs hs : List Group) → IsPermutation gs hs → AreApart (keys_of gs) → AreApart (keys_of hs) → (k : Row) → partials_at k hs
    ≡ partials_at k gs
same_found gs hs moved here there k =
    elim (partials_at k gs) as (λ o. partials_at k gs ≡ o → partials_at k hs ≡ o) [
      | Some ps ↦ λ e. found_moved gs hs k ps moved there e
      | None ↦ λ e.
          elim (partials_at k hs) as (λ o. partials_at k hs ≡ o → o ≡ None) [
            | Some ps ↦ λ f. let back : partials_at k gs ≡ Some ps = found_moved hs gs k ps (IsPermutation-sym gs hs moved) here f in absurd
                cc
            | None ↦ λ f. refl
          ] refl
    ] refl

-- entries in another order stand for the same
pub moved_stands : (q : Query) (hf : List ℕ → ℕ) (ps : List Piece) (es fs : List Entry) (left : List Record) → IsPermutation es fs
    → AreOnce es → Stands q hf ps es left → Stands q hf ps fs left
moved_stands q hf ps es fs left moved once s =
    let m : Row → ℕ = λ k. rows_at q k ps in
    let gs : List Group = apply_swaps s.entered moved.moves in
    let are : AreGroupsBy q m fs gs = subst (λ fs. AreGroupsBy q m fs gs) (sym moved.is) (by_swaps q m es s.entered moved.moves s.are) in
    let same : IsPermutation s.entered gs = record {
      moves = moved.moves;
      below = subst (λ n. SwapsInRange n moved.moves)
          (as_long (λ entry group. StandsFor q (m group.0) entry group) es s.entered s.are) moved.below;
      is = refl;
    } in
    let found = same_found s.entered gs same (once_apart q m es s.entered s.are once)
    (once_apart q m fs gs are (once_permuted es fs moved once)) in
    record {
      entered = gs;
      rest = s.rest;
      are = are;
      read = s.read;
      parted = λ k. subst (λ o. ((partials_at k (made_of q ps) ≡ o) × (partials_at k (made_of q s.rest) ≡ None))
          ⊎ ((partials_at k (made_of q ps) ≡ partials_at k (made_of q s.rest)) × (o ≡ None))) (sym (found k)) (s.parted k);
      fewer = s.fewer;
    }

-- ---- two runs on end

get_append : {X : Type 0} (xs ys : List X) (i : ℕ) (x : X) → slice_get (xs ++ ys) i ≡ Some x → ((j : ℕ) × (slice_get xs j ≡ Some x))
    ⊎ ((j : ℕ) × (slice_get ys j ≡ Some x))
get_append [] ys i x at = inr (i, at)
get_append (y ∷ xs) ys zero x at = inl (zero, at)
get_append {X} (y ∷ xs) ys (suc i) x at = further (get_append xs ys i x at)
  where
    further : ((j : ℕ) × (slice_get xs j ≡ Some x)) ⊎ ((j : ℕ) × (slice_get ys j ≡ Some x)) → ((j : ℕ) × (slice_get (y ∷ xs) j ≡ Some x))
        ⊎ ((j : ℕ) × (slice_get ys j ≡ Some x))
    further (inl (j, e)) = inl (suc j, e)
    further (inr e) = inr e

pub once_append : (es fs : List Entry) → AreOnce es → AreOnce fs → ((i j : ℕ) (x y : Entry) → slice_get es i ≡ Some x → slice_get fs j
    ≡ Some y → x.0 ≢ y.0) → AreOnce (es ++ fs)
once_append [] fs a b c i j x y at bt same = b i j x y at bt same
once_append (e ∷ es) fs a b c zero zero x y at bt same = refl
once_append (e ∷ es) fs a b c zero (suc j) x y at bt same = gone (get_append es fs j y bt)
  where
    gone : ((k : ℕ) × (slice_get es k ≡ Some y)) ⊎ ((k : ℕ) × (slice_get fs k ≡ Some y)) → zero ≡ suc j
    gone (inl (k, et)) = let is : zero ≡ suc k = a zero (suc k) x y at et same in absurd (omega (arith, is))
    gone (inr (k, ft)) = absurd (c zero k x y at ft same)
once_append (e ∷ es) fs a b c (suc i) zero x y at bt same = gone (get_append es fs i x at)
  where
    gone : ((k : ℕ) × (slice_get es k ≡ Some x)) ⊎ ((k : ℕ) × (slice_get fs k ≡ Some x)) → suc i ≡ zero
    gone (inl (k, et)) = let is : zero ≡ suc k = a zero (suc k) y x bt et (sym same) in absurd (omega (arith, is))
    gone (inr (k, ft)) = absurd (c zero k y x bt ft (sym same))
once_append (e ∷ es) fs a b c (suc i) (suc j) x y at bt same =
    ap suc (once_append es fs (λ i j x y at bt same. let both : suc i ≡ suc j = a (suc i) (suc j) x y at bt same in omega (arith, both)) b
    (λ i j. c (suc i) j) i j x y at bt same)

-- ---- all groups

among_found : (k : Row) (gs : List Group) → is_among row_cmp k (keys_of gs) ≡ is_some (partials_at k gs)
among_found k [] = refl
among_found k (g ∷ gs) =
    (elim (same_row k g.0) as (λ b. (b || is_among row_cmp k (keys_of gs)) ≡ is_some (cond b (Some g.1) (partials_at k gs))) [
      | true ↦ refl
      | false ↦ among_found k gs
    ])
    ∙ ap (λ b. is_some (cond b (Some g.1) (partials_at k gs))) (same_row-swap k g.0)
    ∙ ap is_some (sym (at_cons k g gs))

by_keys : (gs hs : List Group) → keys_of gs ≡ keys_of hs → AreApart (keys_of gs) → ((k : Row) → partials_at k gs ≡ partials_at k hs) → gs
    ≡ hs
by_keys [] [] keys apart found = refl
by_keys [] (h ∷ hs) keys apart found = absurd cc
by_keys (g ∷ gs) [] keys apart found = absurd cc
by_keys (g ∷ gs) (h ∷ hs) keys (none, apart) found =
    let first : g.0 ≡ h.0 = cc in
    let others : keys_of gs ≡ keys_of hs = cc in
    let both : Some g.1 ≡ Some h.1 =
    sym (at_cons g.0 g gs ∙ ap (λ b. cond b (Some g.1) (partials_at g.0 gs)) (same_itself g.0))
    ∙ found g.0
    ∙ at_cons g.0 h hs
    ∙ ap (λ b. cond b (Some h.1) (partials_at g.0 hs)) (ap (λ x. same_row x g.0) (sym first) ∙ same_itself g.0) in
    let values : g.1 ≡ h.1 = cc in
    (λ i. (first i, values i) ∷ by_keys gs hs others apart rest i)
  where
    rest : (k : Row) → partials_at k gs ≡ partials_at k hs
    rest k =
        let first : g.0 ≡ h.0 = cc in
        let others : keys_of gs ≡ keys_of hs = cc in
        elim (same_row g.0 k) as (λ b. same_row g.0 k ≡ b → partials_at k gs ≡ partials_at k hs) [
          | true ↦ λ e.
              let gone : is_among row_cmp k (keys_of gs) ≡ false = subst (λ k. is_among row_cmp k (keys_of gs)
              ≡ false) ((same_row-is g.0 k).0 e) none in
              missing k gs gone ∙ sym (missing k hs (ap (is_among row_cmp k) (sym others) ∙ gone))
          | false ↦ λ e.
              sym (at_cons k g gs ∙ ap (λ b. cond b (Some g.1) (partials_at k gs)) e)
              ∙ found k
              ∙ at_cons k h hs
              ∙ ap (λ b. cond b (Some h.1) (partials_at k hs)) (ap (λ x. same_row x k) (sym first) ∙ e)
        ] refl

-- entries in the order of their keys, with nothing left, stand for all groups
pub all_stand : (q : Query) (hf : List ℕ → ℕ) (most : ℕ) (ps : List Piece) (run : List Entry) → Stands q hf ps run [] → CountUpTo q most ps
    → Rises run → IsStrictlySortedBy row_cmp (keys_of (made_of q ps)) → AreGroups q most run (made_of q ps)
all_stand q hf most ps run s count rises rising =
    let are : AreGroups q most run s.entered = by_uniform q (λ k. rows_at q k ps) most run s.entered count s.are in
    let below : IsStrictlySortedBy row_cmp (keys_of s.entered) = run_keys_rise q most run s.entered are rises in
    let keys : keys_of s.entered ≡ keys_of (made_of q ps) =
    same_members row_cmp_total row_cmp_ties (keys_of s.entered) (keys_of (made_of q ps)) below rising (λ k. among_found k s.entered
    ∙ ap is_some (sym (found k)) ∙ sym (among_found k (made_of q ps))) in
    subst (AreGroups q most run) (by_keys s.entered (made_of q ps) keys (rising_apart (keys_of s.entered) below) (λ k. sym (found k))) are
  where
    found : (k : Row) → partials_at k (made_of q ps) ≡ partials_at k s.entered
    found k = chosen (s.parted k)
      where
        none : partials_at k (made_of q s.rest) ≡ None
        none = ap (λ rest. partials_at k (made_of q rest)) (none_to_none (IsPiece q hf) s.rest s.read)

        chosen : ((partials_at k (made_of q ps) ≡ partials_at k s.entered) × (partials_at k (made_of q s.rest) ≡ None))
            ⊎ ((partials_at k (made_of q ps) ≡ partials_at k (made_of q s.rest)) × (partials_at k s.entered ≡ None))
            → partials_at k (made_of q ps) ≡ partials_at k s.entered
        chosen (inl (is, gone)) = is
        chosen (inr (is, gone)) = is ∙ none ∙ sym gone

-- ---- one pass after the other

-- a pass that ends
pub ends : (q : Query) (hf : List ℕ → ℕ) (pieces : List Piece) (es run : List Entry) (left after : List Record) → IsPermutation es run
    → Rises run → after ≡ left → Stands q hf pieces es left → Stands q hf pieces run after
ends q hf pieces es run left after moved rises is s =
    subst (λ l. Stands q hf pieces run l) (sym is)
    (moved_stands q hf pieces es run left moved (once_permuted run es (IsPermutation-sym es run moved) (rises_once run rises)) s)

pub nothing_stands : (q : Query) (hf : List ℕ → ℕ) (es : List Entry) (left : List Record) → es ≡ [] → left ≡ [] → Stands q hf [] es left
nothing_stands q hf es left none empty =
    subst (λ es. Stands q hf [] es left) (sym none)
    (subst (λ left. Stands q hf [] [] left) (sym empty)
    (record { entered = []; rest = []; are = tt; read = tt; parted = λ k. inl (refl, refl); fewer = λ k. omega arith }))

pub one_run_more : (runs : List (List Entry)) (run : List Entry) → concatenated (runs ++ run ∷ []) ≡ concatenated runs ++ run
one_run_more runs run = flat_map-append (λ (run : List Entry). run) runs (run ∷ []) ∙ ap (λ es. concatenated runs ++ es) (append-nil run)

-- ---- over any disk

pub none_safe : (q : Query) (most : ℕ) → AreSafe q most []
none_safe q most = ([], tt)

pub safe_append : (q : Query) (most : ℕ) (es more : List Entry) → AreSafe q most es → AreSafe q most more → AreSafe q most (es ++ more)
safe_append q most es more (gs, are) (hs, these) = (gs ++ hs, by_append q (λ k. most) es more gs hs are these)

pub safe_moved : (q : Query) (most : ℕ) (es run : List Entry) → AreSafe q most es → IsPermutation es run → AreSafe q most run
safe_moved q most es run (gs, are) moved = (
  apply_swaps gs moved.moves,
  subst (λ fs. AreGroupsBy q (λ k. most) fs (apply_swaps gs moved.moves)) (sym moved.is)
      (by_swaps q (λ k. most) es gs moved.moves are),
)

pub safe_run : (q : Query) (most : ℕ) (run : List Entry) → AreSafe q most run → Rises run → IsRun q most run
safe_run q most run (gs, are) rises = record {
  groups = gs;
  are = by_uniform q (λ k. most) most run gs (λ k. omega arith) are;
  rises = rises;
}
