-- The groups that a pass holds.
use Rattle.std.specs.Prelude.{◌≡◌, refl, ℕ, zero, suc, ◌+◌, ◌≤◌, ◌⊎◌, true, false, cond, ◌||◌, List, [], ◌∷◌, ◌++◌, find, slice_get}
use Rattle.std.specs.Prelude.{slice_set, Option, Some, None, option_map, unwrap_or}
use Rattle.std.proofs.Common.{sym, ◌∙◌, ap, subst, inl, inr, arith}
use Rattle.std.proofs.lemmas.List.Sums.{sum_by-cons, sum_by-append}
use Rattle.std.specs.declared.cmp.Ordering.TheVariants.{Less, Equal, Greater}
use Rattle.std.specs.Ordering.{match_ordering, is_eq}
use Rattle.std.specs.Option.{option_or}
use Rattle.std.specs.Cmp.{tied_itself}
use Rattle.std.specs.BTreeMap.{insert_entry}
use Rattle.hash_agg.proofs.Words.{Row, HasKinds, row_cmp, same_row, is_among, Partial, is_met, Query, Group, column_of, partials, functions}
use Rattle.hash_agg.proofs.Words.{keys_of, partials_at, advanced, with_row, packing, key_kinds, Record, Entry, AreStates, StandsFor}
use Rattle.hash_agg.proofs.Words.{AreGroups, merged, Piece, Of_row, Of_group, IsPiece, ArePieces, piece_key, piece_added, pieces_added}
use Rattle.hash_agg.proofs.Words.{made_of, weight, rows_at, AreOnce, IsParted, AreGroupsBy, Stands}
use Rattle.grouping_model.specs.Grouping.{key_of}
use Rattle.grouping_model.specs.DatumOrderLaws.{row_cmp_total, same_row-is}
use Rattle.grouping_model.specs.PartLaws.{same_row-swap}
use Rattle.grouping_model.specs.MemberLaws.{false_is_not_true}
use Rattle.group_runs.specs.MergeLaws.{AreApart, apart_from}
use Rattle.group_runs.specs.Lemmas.MergeLaws.{found_among, found_others}
use Rattle.group_runs.specs.Lemmas.RunLaws.{packed_once}
use Rattle.group_runs.specs.StandingLaws.{states_raised}
use Rattle.hash_agg.proofs.TableLaws.{HasNoKey}
use Rattle.hash_agg.proofs.OneByOneLaws.{one_append, none_to_none}

-- ---- what is found at a key

pub at_cons : (k : Row) (g : Group) (gs : List Group) → partials_at k (g ∷ gs) ≡ cond (same_row g.0 k) (Some g.1) (partials_at k gs)
at_cons k g gs =
    elim (same_row g.0 k) as (λ b. option_map (λ (group : Group). group.1)
    (cond b (Some g) (find (λ (group : Group). same_row group.0 k) gs))
    ≡ cond b (Some g.1) (option_map (λ (group : Group). group.1) (find (λ (group : Group). same_row group.0 k) gs))) [
      | true ↦ refl
      | false ↦ refl
    ]

pub same_itself : (k : Row) → same_row k k ≡ true
same_itself k = ap is_eq (tied_itself row_cmp_total k)

-- what is found among groups of which one was written at a key
abbrev pub IsWith : Row → List Partial → List Group → List Group → Type 0
IsWith key ps old new = (k : Row) → partials_at k new ≡ cond (same_row key k) (Some ps) (partials_at k old)

found_itself : (l : Row) (v : List Partial) (gs : List Group) → partials_at l (insert_entry row_cmp gs l v) ≡ Some v
found_itself l v [] = at_cons l (l, v) [] ∙ ap (λ b. cond b (Some v) None) (same_itself l)
found_itself l v (g ∷ gs) =
    elim (row_cmp l g.0) as (λ r. row_cmp l g.0 ≡ r
    → partials_at l (match_ordering r ((l, v) ∷ g ∷ gs) ((g.0, v) ∷ gs) (g ∷ insert_entry row_cmp gs l v)) ≡ Some v) [
      | Less ↦ λ e. at_cons l (l, v) (g ∷ gs) ∙ ap (λ b. cond b (Some v) (partials_at l (g ∷ gs))) (same_itself l)
      | Equal ↦ λ e. at_cons l (g.0, v) gs ∙ ap (λ b. cond b (Some v) (partials_at l gs)) (same_row-swap g.0 l ∙ ap is_eq e)
      | Greater ↦ λ e. at_cons l g (insert_entry row_cmp gs l v) ∙ ap (λ b. cond b (Some g.1) (partials_at l (insert_entry row_cmp gs l v)))
          (same_row-swap g.0 l ∙ ap is_eq e) ∙ found_itself l v gs
    ] refl

pub inserted_with : (l : Row) (v : List Partial) (gs : List Group) → IsWith l v gs (insert_entry row_cmp gs l v)
inserted_with l v gs k =
    elim (same_row l k) as (λ b. same_row l k ≡ b → partials_at k (insert_entry row_cmp gs l v) ≡ cond b (Some v) (partials_at k gs)) [
      | true ↦ λ e. subst (λ k. partials_at k (insert_entry row_cmp gs l v) ≡ Some v) ((same_row-is l k).0 e) (found_itself l v gs)
      | false ↦ λ e. found_others k l v gs e
    ] refl

-- a key that is not among those of groups
pub missing : (k : Row) (gs : List Group) → is_among row_cmp k (keys_of gs) ≡ false → partials_at k gs ≡ None
missing k [] e = refl
missing k (g ∷ gs) e =
    at_cons k g gs
    ∙ (elim (same_row k g.0) as (λ b. same_row k g.0 ≡ b → (b || is_among row_cmp k (keys_of gs)) ≡ false
    → cond (same_row g.0 k) (Some g.1) (partials_at k gs) ≡ None) [
      | true ↦ λ s e. false_is_not_true (sym e)
      | false ↦ λ s e. ap (λ b. cond b (Some g.1) (partials_at k gs)) (same_row-swap g.0 k ∙ s) ∙ missing k gs e
    ] refl e)

pub or_none : {X : Type 0} (x : Option X) → option_or x None ≡ x
or_none (Some x) = refl
or_none None = refl

pub at_append : (k : Row) (gs hs : List Group) → partials_at k (gs ++ hs) ≡ option_or (partials_at k gs) (partials_at k hs)
at_append k [] hs = refl
at_append k (g ∷ gs) hs =
    at_cons k g (gs ++ hs)
    ∙ (elim (same_row g.0 k) as (λ b. cond b (Some g.1) (partials_at k (gs ++ hs))
    ≡ option_or (cond b (Some g.1) (partials_at k gs)) (partials_at k hs)) [
      | true ↦ refl
      | false ↦ at_append k gs hs
    ])
    ∙ ap (λ o. option_or o (partials_at k hs)) (sym (at_cons k g gs))

-- one more group behind others, whose key none of them has
pub behind_with : (key : Row) (ps : List Partial) (gs : List Group) → partials_at key gs ≡ None → IsWith key ps gs (gs ++ (key, ps) ∷ [])
behind_with key ps gs none k =
    at_append k gs ((key, ps) ∷ [])
    ∙ ap (option_or (partials_at k gs)) (at_cons k (key, ps) [])
    ∙ (elim (same_row key k) as (λ b. same_row key k ≡ b → option_or (partials_at k gs) (cond b (Some ps) None)
    ≡ cond b (Some ps) (partials_at k gs)) [
      | true ↦ λ e. ap (λ o. option_or o (Some ps)) (ap (λ k. partials_at k gs) (sym ((same_row-is key k).0 e)) ∙ none)
      | false ↦ λ e. or_none (partials_at k gs)
    ] refl)

-- a group that is written anew at its place
pub set_with : (key : Row) (ps old : List Partial) (gs : List Group) (i : ℕ) → AreApart (keys_of gs) → slice_get gs i ≡ Some (key, old)
    → IsWith key ps gs (slice_set gs i (key, ps)) × (partials_at key gs ≡ Some old)
set_with key ps old [] i apart at = absurd cc
set_with key ps old (g ∷ gs) zero (none, apart) at =
    let is : g ≡ (key, old) = cc in
    let named : g.0 ≡ key = ap (λ (g : Group). g.0) is in (
      λ k.
          at_cons k (key, ps) gs
          ∙ (elim (same_row key k) as (λ b. same_row key k ≡ b → cond b (Some ps) (partials_at k gs)
          ≡ cond b (Some ps) (partials_at k (g ∷ gs))) [
            | true ↦ λ e. refl
            | false ↦ λ e. sym (at_cons k g gs ∙ ap (λ b. cond b (Some g.1) (partials_at k gs)) (ap (λ x. same_row x k) named ∙ e))
          ] refl),
      at_cons key g gs ∙ ap (λ b. cond b (Some g.1) (partials_at key gs)) (ap (λ x. same_row x key) named ∙ same_itself key)
          ∙ ap (λ (g : Group). Some g.1) is,
    )
set_with key ps old (g ∷ gs) (suc i) (none, apart) at =
    let rest = set_with key ps old gs i apart at in
    let other : same_row key g.0 ≡ false = apart_from g.0 key (keys_of gs) none (found_among gs i (key, old) at) in (
      λ k.
          at_cons k g (slice_set gs i (key, ps))
          ∙ ap (cond (same_row g.0 k) (Some g.1)) (rest.0 k)
          ∙ (elim (same_row key k) as (λ b. same_row key k ≡ b → cond (same_row g.0 k) (Some g.1) (cond b (Some ps) (partials_at k gs))
          ≡ cond b (Some ps) (partials_at k (g ∷ gs))) [
            | true ↦ λ e. ap (λ b. cond b (Some g.1) (Some ps)) (ap (same_row g.0) (sym ((same_row-is key k).0 e)) ∙ same_row-swap g.0 key
                ∙ other)
            | false ↦ λ e. sym (at_cons k g gs)
          ] refl),
      at_cons key g gs ∙ ap (λ b. cond b (Some g.1) (partials_at key gs)) (same_row-swap g.0 key ∙ other) ∙ rest.1,
    )

-- ---- groups that are parted

pub parted_both : (key : Row) (ps : List Partial) (all all' some some' others : List Group) → IsWith key ps all all'
    → IsWith key ps some some' → partials_at key others ≡ None → IsParted all some others → IsParted all' some' others
parted_both key ps all all' some some' others new put none parted k =
    elim (same_row key k) as (λ b. same_row key k ≡ b → partials_at k all' ≡ cond b (Some ps) (partials_at k all) → partials_at k some'
    ≡ cond b (Some ps) (partials_at k some) → ((partials_at k all' ≡ partials_at k some') × (partials_at k others ≡ None))
    ⊎ ((partials_at k all' ≡ partials_at k others) × (partials_at k some' ≡ None))) [
      | true ↦ λ e a s. inl (a ∙ sym s, ap (λ k. partials_at k others) (sym ((same_row-is key k).0 e)) ∙ none)
      | false ↦ λ e a s. moved a s (parted k)
    ] refl (new k) (put k)
  where
    moved : partials_at k all' ≡ partials_at k all → partials_at k some' ≡ partials_at k some
        → ((partials_at k all ≡ partials_at k some) × (partials_at k others ≡ None))
        ⊎ ((partials_at k all ≡ partials_at k others) × (partials_at k some ≡ None))
        → ((partials_at k all' ≡ partials_at k some') × (partials_at k others ≡ None))
        ⊎ ((partials_at k all' ≡ partials_at k others) × (partials_at k some' ≡ None))
    moved a s (inl (same, none)) = inl (a ∙ same ∙ sym s, none)
    moved a s (inr (same, none)) = inr (a ∙ same, s ∙ none)

pub parted_swap : (all some others : List Group) → IsParted all some others → IsParted all others some
parted_swap all some others parted k = swapped (parted k)
  where
    swapped : ((partials_at k all ≡ partials_at k some) × (partials_at k others ≡ None))
        ⊎ ((partials_at k all ≡ partials_at k others) × (partials_at k some ≡ None))
        → ((partials_at k all ≡ partials_at k others) × (partials_at k some ≡ None))
        ⊎ ((partials_at k all ≡ partials_at k some) × (partials_at k others ≡ None))
    swapped (inl both) = inr both
    swapped (inr both) = inl both

-- where a key is in one part, and where it isn't
pub found_in : (all some others : List Group) (k : Row) (ps : List Partial) → IsParted all some others → partials_at k some ≡ Some ps
    → (partials_at k all ≡ Some ps) × (partials_at k others ≡ None)
found_in all some others k ps parted there = chosen (parted k)
  where
    chosen : ((partials_at k all ≡ partials_at k some) × (partials_at k others ≡ None))
        ⊎ ((partials_at k all ≡ partials_at k others) × (partials_at k some ≡ None)) → (partials_at k all ≡ Some ps)
        × (partials_at k others ≡ None)
    chosen (inl (same, none)) = (same ∙ there, none)
    chosen (inr (same, none)) = absurd cc

pub found_out : (all some others : List Group) (k : Row) → IsParted all some others → partials_at k some ≡ None → partials_at k all
    ≡ partials_at k others
found_out all some others k parted none = chosen (parted k)
  where
    chosen : ((partials_at k all ≡ partials_at k some) × (partials_at k others ≡ None))
        ⊎ ((partials_at k all ≡ partials_at k others) × (partials_at k some ≡ None)) → partials_at k all ≡ partials_at k others
    chosen (inl (same, gone)) = same ∙ none ∙ sym gone
    chosen (inr (same, gone)) = same

-- ---- pieces

-- a piece that WHERE keeps; and the partial results of its key after it
abbrev pub IsKept : Query → Piece → Type 0
IsKept q (Of_row row) = is_met (column_of row) q.condition ≡ true
IsKept q (Of_group group most) = Unit {0}

abbrev pub after : Query → Option (List Partial) → Piece → List Partial
after q found (Of_row row) = advanced q.aggregates (unwrap_or found (partials q [])) row
after q found (Of_group group most) = merged q found group.1

pub added_with : (q : Query) (p : Piece) (gs : List Group) → IsKept q p
    → IsWith (piece_key q p) (after q (partials_at (piece_key q p) gs) p) gs (piece_added q gs p)
added_with q (Of_row row) gs met =
    subst (λ b. IsWith (key_of q row) (after q (partials_at (key_of q row) gs) (Of_row row)) gs (cond b (with_row q gs row) gs)) (sym met)
    (inserted_with (key_of q row) (after q (partials_at (key_of q row) gs) (Of_row row)) gs)
added_with q (Of_group group most) gs met = inserted_with group.0 (merged q (partials_at group.0 gs) group.1) gs

pub pieces_append : (q : Query) (gs : List Group) (ps more : List Piece) → pieces_added q gs (ps ++ more)
    ≡ pieces_added q (pieces_added q gs ps) more
pieces_append q gs [] more = refl
pieces_append q gs (p ∷ ps) more = pieces_append q (piece_added q gs p) ps more

-- how many rows the pieces of a key count, with more of them
pub rows_append : (q : Query) (k : Row) (ps more : List Piece) → rows_at q k (ps ++ more) ≡ rows_at q k ps + rows_at q k more
rows_append q k ps more = sum_by-append _ ps more

pub rows_one : (q : Query) (p : Piece) → rows_at q (piece_key q p) (p ∷ []) ≡ weight p
rows_one q p = sum_by-cons (λ x. cond (same_row (piece_key q x) (piece_key q p)) (weight x) 0) p []
    ∙ ap (λ b. cond b (weight p) 0 + 0) (same_itself (piece_key q p)) ∙ omega arith

-- ---- entries and groups

pub by_raised : (q : Query) (m n : Row → ℕ) (es : List Entry) (gs : List Group) → ((k : Row) → m k ≤ n k) → AreGroupsBy q m es gs
    → AreGroupsBy q n es gs
by_raised q m n [] [] low are = tt
by_raised q m n [] (g ∷ gs) low are = absurd are
by_raised q m n (e ∷ es) [] low are = absurd are
by_raised q m n (e ∷ es) (g ∷ gs) low (first, rest) = (
  record {
    key = first.key;
    of_kinds = first.of_kinds;
    states = states_raised (functions q) (m g.0) (n g.0) e.1 g.1 (low g.0)
        first.states;
  },
  by_raised q m n es gs low rest,
)

pub by_uniform : (q : Query) (m : Row → ℕ) (n : ℕ) (es : List Entry) (gs : List Group) → ((k : Row) → m k ≤ n) → AreGroupsBy q m es gs
    → AreGroups q n es gs
by_uniform q m n [] [] low are = tt
by_uniform q m n [] (g ∷ gs) low are = absurd are
by_uniform q m n (e ∷ es) [] low are = absurd are
by_uniform q m n (e ∷ es) (g ∷ gs) low (first, rest) = (
  record { key = first.key; of_kinds = first.of_kinds; states = states_raised (functions q) (m g.0) n e.1 g.1 (low g.0) first.states },
  by_uniform q m n es gs low rest,
)

pub by_append : (q : Query) (m : Row → ℕ) (es fs : List Entry) (gs hs : List Group) → AreGroupsBy q m es gs → AreGroupsBy q m fs hs
    → AreGroupsBy q m (es ++ fs) (gs ++ hs)
by_append q m = one_append (λ entry group. StandsFor q (m group.0) entry group)

pub by_set : (q : Query) (m : Row → ℕ) (es : List Entry) (gs : List Group) (i : ℕ) (x : Entry) (h : Group) → AreGroupsBy q m es gs
    → StandsFor q (m h.0) x h → AreGroupsBy q m (slice_set es i x) (slice_set gs i h)
by_set q m [] [] i x h are new = tt
by_set q m [] (g ∷ gs) i x h are new = absurd are
by_set q m (e ∷ es) [] i x h are new = absurd are
by_set q m (e ∷ es) (g ∷ gs) zero x h (first, are) new = (new, are)
by_set q m (e ∷ es) (g ∷ gs) (suc i) x h (first, are) new = (first, by_set q m es gs i x h are new)

-- an entry at a place, and its group
pub record ByAt (q : Query) (m : Row → ℕ) (gs : List Group) (i : ℕ) (e : Entry) : Type 0 where
  pub group : Group
  pub at : slice_get gs i ≡ Some group
  pub stands : StandsFor q (m group.0) e group

pub by_at : (q : Query) (m : Row → ℕ) (es : List Entry) (gs : List Group) (i : ℕ) (x : Entry) → AreGroupsBy q m es gs → slice_get es i
    ≡ Some x → ByAt q m gs i x
by_at q m [] gs i x are at = absurd cc
by_at q m (e ∷ es) [] i x are at = absurd are
by_at q m (e ∷ es) (g ∷ gs) zero x (first, rest) at =
    let same : e ≡ x = cc in
    record { group = g; at = refl; stands = subst (λ e. StandsFor q (m g.0) e g) same first }
by_at q m (e ∷ es) (g ∷ gs) (suc i) x (first, rest) at =
    let found = by_at q m es gs i x rest at in
    record { group = found.group; at = found.at; stands = found.stands }

pub none_among : (q : Query) (m : Row → ℕ) (es : List Entry) (gs : List Group) (bytes : List ℕ) (k : Row) → AreGroupsBy q m es gs
    → HasNoKey es bytes → bytes ≡ packing k → is_among row_cmp k (keys_of gs) ≡ false
none_among q m [] [] bytes k are absent is = refl
none_among q m [] (g ∷ gs) bytes k are absent is = absurd are
none_among q m (e ∷ es) [] bytes k are absent is = absurd are
none_among q m (e ∷ es) (g ∷ gs) bytes k (first, rest) absent is =
    elim (same_row k g.0) as (λ b. same_row k g.0 ≡ b → (b || is_among row_cmp k (keys_of gs)) ≡ false) [
      | true ↦ λ s. absurd (absent zero e refl (first.key ∙ ap packing (sym ((same_row-is k g.0).0 s)) ∙ sym is))
      | false ↦ λ s. none_among q m es gs bytes k rest (λ i x at. absent (suc i) x at) is
    ] refl

pub once_apart : (q : Query) (m : Row → ℕ) (es : List Entry) (gs : List Group) → AreGroupsBy q m es gs → AreOnce es → AreApart (keys_of gs)
once_apart q m [] [] are once = tt
once_apart q m [] (g ∷ gs) are once = absurd are
once_apart q m (e ∷ es) [] are once = absurd are
once_apart q m (e ∷ es) (g ∷ gs) (first, rest) once = (
  none_among q m es gs e.0 g.0 rest (λ i x at same. let e : zero ≡ suc i = once zero (suc i) e x refl at (sym same) in absurd
      (omega (arith, e))) first.key,
  once_apart q m es gs rest (λ i j x y at bt same. let e : suc i ≡ suc j = once (suc i) (suc j) x y at bt same in omega (arith, e)),
)

-- ---- one more record

module _ (q : Query) (hf : List ℕ → ℕ) (es : List Entry) (left : List Record) (ps : List Piece) (p : Piece) (bytes : List ℕ) (is : bytes
    ≡ packing (piece_key q p)) (has : HasKinds (key_kinds q) (piece_key q p)) (kept : IsKept q p) (s : Stands q hf ps es left) where
  rows_more : (k : Row) → rows_at q k ps ≤ rows_at q k (ps ++ p ∷ [])
  rows_more k = let both = rows_append q k ps (p ∷ []) in omega (arith, both)

  rows_here : rows_at q (piece_key q p) (ps ++ p ∷ []) ≡ rows_at q (piece_key q p) ps + weight p
  rows_here = rows_append q (piece_key q p) ps (p ∷ []) ∙ ap (λ n. rows_at q (piece_key q p) ps + n) (rows_one q p)

  added : made_of q (ps ++ p ∷ []) ≡ piece_added q (made_of q ps) p
  added = pieces_append q [] ps (p ∷ [])

  -- it goes to the group of its key
  pub reads_there : (place : ℕ) (old new : List ℕ) → AreOnce es → slice_get es place ≡ Some (bytes, old)
      → ((found : List Partial) → AreStates (functions q) (rows_at q (piece_key q p) ps) old found
      → AreStates (functions q) (rows_at q (piece_key q p) ps + weight p) new (after q (Some found) p))
      → Stands q hf (ps ++ p ∷ []) (slice_set es place (bytes, new)) left
  reads_there place old new once at moves =
      let all : List Group = made_of q ps in
      let found = by_at q (λ k. rows_at q k ps) es s.entered place (bytes, old) s.are at in
      let named : found.group.0 ≡ piece_key q p = packed_once (key_kinds q) bytes found.group.0 (piece_key q p) found.stands.of_kinds has
      found.stands.key is in
      let fs : List Partial = found.group.1 in
      let now : Group = (piece_key q p, after q (Some fs) p) in
      let there : slice_get s.entered place ≡ Some (piece_key q p, fs) = found.at ∙ (λ i. Some (named i, fs)) in
      let set = set_with (piece_key q p) (after q (Some fs) p) fs s.entered place (once_apart q (λ k. rows_at q k ps) es s.entered s.are
      once) there in
      let both = found_in all s.entered (made_of q s.rest) (piece_key q p) fs s.parted set.1 in
      let new_all : IsWith (piece_key q p) (after q (Some fs) p) all (piece_added q all p) =
      subst (λ o. IsWith (piece_key q p) (after q o p) all (piece_added q all p)) both.0 (added_with q p all kept) in
      let moved : AreStates (functions q) (rows_at q (piece_key q p) (ps ++ p ∷ [])) new (after q (Some fs) p) =
      subst (λ n. AreStates (functions q) n new (after q (Some fs) p)) (sym rows_here)
      (moves fs (subst (λ k. AreStates (functions q) (rows_at q k ps) old fs) named found.stands.states)) in
      record {
        entered = slice_set s.entered place now;
        rest = s.rest;
        are =
            by_set q (λ k. rows_at q k (ps ++ p ∷ [])) es s.entered place (bytes, new) now
            (by_raised q (λ k. rows_at q k ps) (λ k. rows_at q k (ps ++ p ∷ [])) es s.entered rows_more s.are)
            (record { key = is; of_kinds = has; states = moved });
        read = s.read;
        parted =
            subst (λ (gs : List Group). IsParted gs (slice_set s.entered place now) (made_of q s.rest)) (sym added)
            (parted_both (piece_key q p) (after q (Some fs) p) all (piece_added q all p) s.entered (slice_set s.entered place now)
            (made_of q s.rest) new_all set.0 both.1 s.parted);
        fewer = λ k. let a = s.fewer k in let b = rows_more k in omega (arith, a, b);
      }

  -- it makes a group of its own
  pub reads_new : (new : List ℕ) → left ≡ [] → HasNoKey es bytes → AreStates (functions q) (weight p) new (after q None p)
      → Stands q hf (ps ++ p ∷ []) (es ++ (bytes, new) ∷ []) left
  reads_new new none without makes =
      let all : List Group = made_of q ps in
      let now : Group = (piece_key q p, after q None p) in
      let apart : partials_at (piece_key q p) s.entered
      ≡ None = missing (piece_key q p) s.entered (none_among q (λ k. rows_at q k ps) es s.entered bytes (piece_key q p) s.are without
      is) in
      let gone : partials_at (piece_key q p) (made_of q s.rest) ≡ None = ap (λ rest. partials_at (piece_key q p) (made_of q rest))
      (none_to_none (IsPiece q hf) s.rest (subst (λ left. ArePieces q hf left s.rest) none s.read)) in
      let absent : partials_at (piece_key q p) all ≡ None = found_out all s.entered (made_of q s.rest) (piece_key q p) s.parted apart
      ∙ gone in
      let new_all : IsWith (piece_key q p) (after q None p) all (piece_added q all p) = subst (λ o. IsWith (piece_key q p) (after q o p) all
      (piece_added q all p)) absent (added_with q p all kept) in
      let here = rows_here in
      record {
        entered = s.entered ++ now ∷ [];
        rest = s.rest;
        are =
            by_append q (λ k. rows_at q k (ps ++ p ∷ [])) es ((bytes, new) ∷ []) s.entered (now ∷ [])
            (by_raised q (λ k. rows_at q k ps) (λ k. rows_at q k (ps ++ p ∷ [])) es s.entered rows_more s.are) (
              record {
                key = is;
                of_kinds = has;
                states = states_raised (functions q) (weight p) (rows_at q (piece_key q p) (ps ++ p ∷ []))
                    new (after q None p) (omega (arith, here)) makes;
              },
              tt,
            );
        read = s.read;
        parted =
            subst (λ (gs : List Group). IsParted gs (s.entered ++ now ∷ []) (made_of q s.rest)) (sym added)
            (parted_both (piece_key q p) (after q None p) all (piece_added q all p) s.entered (s.entered ++ now ∷ []) (made_of q s.rest)
            new_all (behind_with (piece_key q p) (after q None p) s.entered apart) gone s.parted);
        fewer = λ k. let a = s.fewer k in let b = rows_more k in omega (arith, a, b);
      }

  -- it is left for the next pass
  pub reads_left : (r : Record) → IsPiece q hf r p → HasNoKey es bytes → Stands q hf (ps ++ p ∷ []) es (left ++ r ∷ [])
  reads_left r piece without =
      let all : List Group = made_of q ps in
      let others : List Group = made_of q s.rest in
      let apart : partials_at (piece_key q p) s.entered
      ≡ None = missing (piece_key q p) s.entered (none_among q (λ k. rows_at q k ps) es s.entered bytes (piece_key q p) s.are without
      is) in
      let same : partials_at (piece_key q p) all ≡ partials_at (piece_key q p) others = found_out all s.entered others (piece_key q p)
      s.parted apart in
      let new_all : IsWith (piece_key q p) (after q (partials_at (piece_key q p) others) p) all (piece_added q all p) =
      subst (λ o. IsWith (piece_key q p) (after q o p) all (piece_added q all p)) same (added_with q p all kept) in
      let more : IsParted (piece_added q all p) (piece_added q others p) s.entered =
      parted_both (piece_key q p) (after q (partials_at (piece_key q p) others) p) all (piece_added q all p) others (piece_added q others p)
      s.entered new_all (added_with q p others kept) apart (parted_swap all s.entered others s.parted) in
      let back : IsParted (piece_added q all p) s.entered (piece_added q others p) = parted_swap (piece_added q all p)
      (piece_added q others p) s.entered more in
      record {
        entered = s.entered;
        rest = s.rest ++ p ∷ [];
        are = by_raised q (λ k. rows_at q k ps) (λ k. rows_at q k (ps ++ p ∷ [])) es s.entered rows_more s.are;
        read = one_append (IsPiece q hf) left (r ∷ []) s.rest (p ∷ []) s.read (piece, tt);
        parted = subst (λ (gs : List Group). IsParted gs s.entered (made_of q (s.rest ++ p ∷ []))) (sym added)
            (subst (IsParted (piece_added q all p) s.entered) (sym (pieces_append q [] s.rest (p ∷ []))) back);
        fewer = λ k.
            let a = s.fewer k in
            let b = rows_append q k ps (p ∷ []) in
            let c = rows_append q k s.rest (p ∷ []) in
            omega (arith, a, b, c);
      }

-- a piece that changes no group
pub reads_over : (q : Query) (hf : List ℕ → ℕ) (es : List Entry) (left : List Record) (ps : List Piece) (p : Piece)
    → piece_added q (made_of q ps) p ≡ made_of q ps → Stands q hf ps es left → Stands q hf (ps ++ p ∷ []) es left
reads_over q hf es left ps p same s =
    let more : (k : Row) → rows_at q k ps ≤ rows_at q k (ps ++ p ∷ []) = λ k. let both = rows_append q k ps (p ∷ []) in omega (arith, both)
    in
    record {
      entered = s.entered;
      rest = s.rest;
      are = by_raised q (λ k. rows_at q k ps) (λ k. rows_at q k (ps ++ p ∷ [])) es s.entered more s.are;
      read = s.read;
      parted = subst (λ (gs : List Group). IsParted gs s.entered (made_of q s.rest)) (sym (pieces_append q [] ps (p ∷ []) ∙ same)) s.parted;
      fewer = λ k. let a = s.fewer k in let b = more k in omega (arith, a, b);
    }
