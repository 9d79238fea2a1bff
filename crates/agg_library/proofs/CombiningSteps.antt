-- Combining rows of states, one state after the other.
use Rattle.std.proofs.Common.{◌≡◌, refl, ℕ, ◌+◌, ◌-◌, ◌≤◌, List, [], ◌∷◌, ◌++◌, length, take, drop, sym, ap, subst, ◌∙◌, arith}
use Rattle.std.proofs.lemmas.List.{drop-drop, length-drop, length-take}
use Rattle.std.proofs.lemmas.Slice.{drop-put_mid, take-put_mid}
use Rattle.std.proofs.Common.{append_assoc}
use borrow.Rule.Slice.PartMut.{put_mid}
use Rattle.grouping_model.specs.Combining.{combine, combine_all}
use Rattle.agg_protocol.specs.DenotingLaws.{state_rows, width_known}
use Rattle.agg_protocol.specs.Kinds.{function_of, functions_of, kind_shape, kind_width}
use Rattle.agg_protocol.specs.declared.kind.AggKind.{AggKind}
use Rattle.agg_library.specs.Combinations.{CanCombine, CanCombineOne, Combines, CombinesOne}
use Rattle.agg_library.specs.StateRows.{AllWithin, DenotesAll}
use Rattle.agg_library.proofs.RowLaws.{both_split, combined_cons, denotes_cons, denotes_end, denotes_nothing}

-- a combined state counts no more rows than it may
pub one_can : (m : ℕ) (kind : AggKind) (first second both : List ℕ) → CombinesOne m kind first second both
    → CanCombineOne m kind first second
one_can m kind first second both (p, q, dp, dq, (state, spelled)) =
    (p, q, dp, dq, state_rows m (kind_shape kind) (combine (function_of kind) p q) state)

module _ (m : ℕ) (kind : AggKind) (kinds ks : List AggKind) (begins : kinds ≡ kind ∷ ks) (into a b from x y : List ℕ)
    (into_front : a ≡ take (kind_width kind) into) (into_back : b ≡ drop (kind_width kind) into)
    (from_front : x ≡ take (kind_width kind) from) (from_back : y ≡ drop (kind_width kind) from) where
  -- the first states of rows that can be combined can be combined, and so can the others
  pub first_can : CanCombine m kinds into from → CanCombineOne m kind a x
  first_can (ps, qs, dp, dq, few) =
      let parts = both_split m kind kinds ks into a b from x y begins into_front into_back from_front from_back ps qs dp dq few in
      (parts.0, parts.1, parts.4, parts.5, parts.6)

  pub rest_can : CanCombine m kinds into from → CanCombine m ks b y
  rest_can (ps, qs, dp, dq, few) =
      let parts = both_split m kind kinds ks into a b from x y begins into_front into_back from_front from_back ps qs dp dq few in
      (parts.2, parts.3, parts.7, parts.8, parts.9)

  -- rows whose first states can be combined, and whose others can be, too
  pub both_can : CanCombineOne m kind a x → CanCombine m ks b y → CanCombine m kinds into from
  both_can (p, q, dp, dq, few) (ps, qs, dps, dqs, within) = (
    p ∷ ps,
    q ∷ qs,
    denotes_cons m kind kinds ks into a b p ps begins into_front into_back dp dps,
    denotes_cons m kind kinds ks from x y q qs begins from_front from_back dq dqs,
    subst (λ k. AllWithin m (combine_all (functions_of k) (p ∷ ps) (q ∷ qs))) (sym begins) (few, within),
  )

  -- the same of what they were combined to
  pub both_were : (front back : List ℕ) → CombinesOne m kind a x front → Combines m ks b y back → Combines m kinds into from (front ++ back)
  both_were front back (p, q, dp, dq, d) (ps, qs, dps, dqs, ds) = (
    p ∷ ps,
    q ∷ qs,
    denotes_cons m kind kinds ks into a b p ps begins into_front into_back dp dps,
    denotes_cons m kind kinds ks from x y q qs begins from_front from_back dq dqs,
    combined_cons m kind kinds ks front back p q ps qs begins d ds,
  )

-- the first states of such rows are there
pub long_enough : (m : ℕ) (kind : AggKind) (kinds ks : List AggKind) (into from : List ℕ) → kinds ≡ kind ∷ ks → CanCombine m kinds into from
    → (kind_width kind ≤ length into) × (kind_width kind ≤ length from)
long_enough m kind kinds ks into from begins can =
    let w = kind_width kind in
    let one = first_can m kind kinds ks begins into (take w into) (drop w into) from (take w from) (drop w from) refl refl refl refl can in
    let first = width_known m (kind_shape kind) (take w into) one.0 one.2 in
    let second = width_known m (kind_shape kind) (take w from) one.1 one.3 in
    (omega (arith, first, length-take w into), omega (arith, second, length-take w from))

-- of no states there are no bytes, and these can be combined
pub end_can : (m : ℕ) (kinds : List AggKind) (into from : List ℕ) → kinds ≡ [] → into ≡ [] → from ≡ [] → CanCombine m kinds into from
end_can m kinds into from none i f = (
  [],
  [],
  denotes_end m kinds into none i,
  denotes_end m kinds from none f,
  subst (λ k. AllWithin m (combine_all (functions_of k) [] [])) (sym none) tt,
)

pub ends : (m : ℕ) (kinds : List AggKind) (into from : List ℕ) → kinds ≡ [] → CanCombine m kinds into from → (into ≡ []) × (from ≡ [])
ends m kinds into from none (ps, qs, dp, dq, few) = (denotes_nothing m kinds into none ps dp, denotes_nothing m kinds from none qs dq)

pub end_was : (m : ℕ) (kinds : List AggKind) (into from : List ℕ) → kinds ≡ [] → into ≡ [] → from ≡ [] → Combines m kinds into from []
end_was m kinds into from none i f = (
  [],
  [],
  denotes_end m kinds into none i,
  denotes_end m kinds from none f,
  subst (λ k. DenotesAll m k [] (combine_all (functions_of k) [] [])) (sym none) refl,
)

-- at a place of two rows, whose states before it were combined, so that what is there is what was: the state there, and those behind it
module _ (m : ℕ) (kind : AggKind) (kinds ks : List AggKind) (begins : kinds ≡ kind ∷ ks) (old new from : List ℕ) (start width : ℕ)
    (wide : width ≡ kind_width kind) (low : start ≤ length old) (below : start ≤ length from) (same_length : length new ≡ length old)
    (untouched : drop start new ≡ drop start old) (can : CanCombine m kinds (drop start old) (drop start from)) where
  count : start + width - start ≡ kind_width kind
  count = omega (arith, wide)

  front_into : take (start + width - start) (drop start new) ≡ take (kind_width kind) (drop start old)
  front_into = ap (λ n. take n (drop start new)) count ∙ ap (take (kind_width kind)) untouched

  front_from : take (start + width - start) (drop start from) ≡ take (kind_width kind) (drop start from)
  front_from = ap (λ n. take n (drop start from)) count

  back : (row : List ℕ) → drop (start + width) row ≡ drop (kind_width kind) (drop start row)
  back row = ap (λ n. drop (start + n) row) wide ∙ sym (drop-drop (kind_width kind) start row)

  pub long_there : (start + width ≤ length old) × (start + width ≤ length from)
  long_there =
      let long = long_enough m kind kinds ks (drop start old) (drop start from) begins can in
      (omega (arith, wide, low, long.0, length-drop start old), omega (arith, wide, below, long.1, length-drop start from))

  pub can_there : CanCombineOne m kind (take (start + width - start) (drop start new)) (take (start + width - start) (drop start from))
  can_there =
      first_can m kind kinds ks begins (drop start old) (take (start + width - start) (drop start new)) (drop (start + width) old)
      (drop start from) (take (start + width - start) (drop start from)) (drop (start + width) from) front_into (back old) front_from
      (back from) can

  pub can_behind : CanCombine m ks (drop (start + width) old) (drop (start + width) from)
  can_behind =
      rest_can m kind kinds ks begins (drop start old) (take (start + width - start) (drop start new)) (drop (start + width) old)
      (drop start from) (take (start + width - start) (drop start from)) (drop (start + width) from) front_into (back old) front_from
      (back from) can

  module _ (part : List ℕ)
      (one : CombinesOne m kind (take (start + width - start) (drop start new)) (take (start + width - start) (drop start from)) part) where
    part_wide : length part ≡ kind_width kind
    part_wide = width_known m (kind_shape kind) part _ one.4

    within : start ≤ length new
    within = omega (arith, low, same_length)

    pub untouched_behind : drop (start + width) (put_mid start (start + width - start) new part) ≡ drop (start + width) old
    untouched_behind =
        drop-put_mid start (start + width - start) new part (start + width) (omega arith) within (part_wide ∙ sym count)
        ∙ back new ∙ ap (drop (kind_width kind)) untouched ∙ sym (back old)

    pub were_behind : (rest : List ℕ) (result : List ℕ → Type 0)
        → ((rest : List ℕ) → Combines m kinds (drop start old) (drop start from) rest → result (take start new ++ rest))
        → Combines m ks (drop (start + width) old) (drop (start + width) from) rest
        → result (take (start + width) (put_mid start (start + width - start) new part) ++ rest)
    were_behind rest result whole were =
        let bytes : take (start + width) (put_mid start (start + width - start) new part) ++ rest ≡ take start new ++ (part ++ rest)
        = ap (λ b. b ++ rest) (take-put_mid start (start + width - start) new part (start + width)
        (ap (λ n. start + n) (wide ∙ sym part_wide)) within) ∙ append_assoc (take start new) part rest in
        subst result (sym bytes) (whole (part ++ rest)
        (both_were m kind kinds ks begins (drop start old) (take (start + width - start) (drop start new)) (drop (start + width) old)
        (drop start from) (take (start + width - start) (drop start from)) (drop (start + width) from) front_into (back old) front_from
        (back from) part rest one were))
