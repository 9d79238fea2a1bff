-- Entries in the order of their keys.
use Rattle.std.specs.Prelude.{◌≡◌, ◌≢◌, refl, ℕ, zero, suc, ◌+◌, ◌-◌, ◌<◌, ◌≤◌, true, false, List, [], ◌∷◌, ◌++◌, length, take, slice_get}
use Rattle.std.specs.Prelude.{slice_index_or, Some}
use Rattle.std.proofs.Common.{sym, ◌∙◌, ap, subst, arith, add-one, inl, inr}
use Rattle.std.proofs.lemmas.Bool.{cases_lt}
use Rattle.std.proofs.lemmas.List.{map-append, append-nil, length-map, length-take, take_all}
use Rattle.std.proofs.lemmas.List.Sorted.{IsPermutation-map}
use Rattle.std.proofs.lemmas.Map.Keys.{IsDistinct-IsPermutation, IsDistinct-from_sorted}
use Rattle.std.specs.declared.cmp.Ordering.{Ordering}
use Rattle.std.specs.declared.cmp.Ordering.TheVariants.{Less, Equal, Greater}
use Rattle.std.specs.Ordering.{is_lt, is_eq, eq_by_cmp, nat_cmp, ordering_then, ordering_reverse}
use Rattle.std.specs.Cmp.{Equal-is, tied_itself}
use Rattle.std.specs.Cmp.Lexicographic.{slice_cmp}
use Rattle.std.specs.FinMap.{slice_cmp-IsAntisymmetric, nat_cmp-IsAntisymmetric}
use Rattle.std.specs.List.{All, AllByRecursion, IsDistinct}
use Rattle.std.specs.List.Sorted.{IsPermutation, IsSorted}
use Rattle.grouping_model.specs.MemberLaws.{false_is_not_true}
use Rattle.packed_rows.specs.PackingOrderLaws.{less, tied}
use Rattle.hash_agg.proofs.Words.{Entry, packed_keys, Rises, AreOnce, AbbreviatedKey, IsAbbreviated, pairs}
use Rattle.group_runs.specs.Places.{AllBelow}
use Rattle.group_runs.specs.PlaceLaws.{key_total, take_found, smaller_first}
use Rattle.group_runs.specs.Lemmas.PlaceLaws.{below_to, rises_between}
use Rattle.hash_agg.proofs.TableLaws.{HasNoKey}

-- ---- keys that differ

abbrev bytes_cmp : List ℕ → List ℕ → Ordering
bytes_cmp = slice_cmp nat_cmp

same_key : (x y : List ℕ) → eq_by_cmp bytes_cmp x y ≡ true → x ≡ y
same_key x y e = slice_cmp-IsAntisymmetric nat_cmp-IsAntisymmetric x y ((Equal-is (bytes_cmp x y)).0 e)

key_itself : (x : List ℕ) → eq_by_cmp bytes_cmp x x ≡ true
key_itself x = ap is_eq (tied_itself key_total x)

distinct_by : (x : Entry) (es : List Entry) → HasNoKey es x.0 → AllByRecursion (λ y. eq_by_cmp bytes_cmp x.0 y ≡ false) (packed_keys es)
distinct_by x [] absent = tt
distinct_by x (e ∷ es) absent = (
  (elim (eq_by_cmp bytes_cmp x.0 e.0) as (λ b. eq_by_cmp bytes_cmp x.0 e.0 ≡ b → b ≡ false) [
    | true ↦ λ t. absurd (absent zero e refl (sym (same_key x.0 e.0 t)))
    | false ↦ λ t. refl
  ] refl),
  distinct_by x es (λ i y at. absent (suc i) y at),
)

once_distinct : (es : List Entry) → AreOnce es → IsDistinct (eq_by_cmp bytes_cmp) (packed_keys es)
unfolding IsDistinct
once_distinct [] once = tt
once_distinct (e ∷ es) once = (
  distinct_by e es (λ i y at same. let zero_is : zero ≡ suc i = once zero (suc i) e y refl at (sym same) in absurd
      (omega (arith, zero_is))),
  once_distinct es (λ i j x y at bt same. let both : suc i ≡ suc j = once (suc i) (suc j) x y at bt same in omega (arith, both)),
)

not_at : (x : List ℕ) (es : List Entry) (i : ℕ) (y : Entry) → AllByRecursion (λ y. eq_by_cmp bytes_cmp x y ≡ false) (packed_keys es)
    → slice_get es i ≡ Some y → x ≢ y.0
not_at x [] i y all at = absurd cc
not_at x (e ∷ es) zero y (first, all) at = λ same.
    let is : e ≡ y = cc in
    false_is_not_true (sym first ∙ ap (eq_by_cmp bytes_cmp x) (ap (λ (e : Entry). e.0) is ∙ sym same) ∙ key_itself x)
not_at x (e ∷ es) (suc i) y (first, all) at = not_at x es i y all at

distinct_once : (es : List Entry) → IsDistinct (eq_by_cmp bytes_cmp) (packed_keys es) → AreOnce es
unfolding IsDistinct
distinct_once [] all i j x y at bt same = absurd cc
distinct_once (e ∷ es) (first, rest) zero zero x y at bt same = refl
distinct_once (e ∷ es) (first, rest) zero (suc j) x y at bt same = let is : e
    ≡ x = cc in absurd (not_at e.0 es j y first bt (ap (λ (e : Entry). e.0) is ∙ same))
distinct_once (e ∷ es) (first, rest) (suc i) zero x y at bt same = let is : e
    ≡ y = cc in absurd (not_at e.0 es i x first at (ap (λ (e : Entry). e.0) is ∙ sym same))
distinct_once (e ∷ es) (first, rest) (suc i) (suc j) x y at bt same = ap suc (distinct_once es rest i j x y at bt same)

reversed : (r s : Ordering) → r ≡ ordering_reverse s → is_eq r ≡ is_eq s
reversed r Less e = ap is_eq e
reversed r Equal e = ap is_eq e
reversed r Greater e = ap is_eq e

pub once_permuted : (es fs : List Entry) → IsPermutation es fs → AreOnce es → AreOnce fs
once_permuted es fs moved once =
    distinct_once fs
    (IsDistinct-IsPermutation (eq_by_cmp bytes_cmp) (λ x y. reversed (bytes_cmp x y) (bytes_cmp y x) (key_total.antisymm x y))
    (packed_keys es) (packed_keys fs) (IsPermutation-map (λ (e : Entry). e.0) es fs moved) (once_distinct es once))

pub rises_once : (es : List Entry) → Rises es → AreOnce es
rises_once es rises = distinct_once es (IsDistinct-from_sorted bytes_cmp (packed_keys es) rises)

-- ---- a sort by keys

abbrev entry_cmp : AbbreviatedKey → AbbreviatedKey → Ordering
entry_cmp x y = ordering_then (nat_cmp x.0 y.0) (ordering_then (bytes_cmp x.1.0.now y.1.0.now) (bytes_cmp x.1.1.now y.1.1.now))

-- one whose key differs, and that does not come before another, comes behind it
key_above : (x y : AbbreviatedKey) → is_lt (ordering_then (bytes_cmp y.1.0.now x.1.0.now) (bytes_cmp y.1.1.now x.1.1.now)) ≡ false
    → x.1.0.now ≢ y.1.0.now → bytes_cmp x.1.0.now y.1.0.now ≡ Less
key_above x y low other =
    elim (bytes_cmp y.1.0.now x.1.0.now) as (λ r. bytes_cmp y.1.0.now x.1.0.now ≡ r
    → is_lt (ordering_then r (bytes_cmp y.1.1.now x.1.1.now)) ≡ false → bytes_cmp x.1.0.now y.1.0.now ≡ Less) [
      | Less ↦ λ e low. false_is_not_true (sym low)
      | Equal ↦ λ e low. absurd (other (sym (slice_cmp-IsAntisymmetric nat_cmp-IsAntisymmetric y.1.0.now x.1.0.now e)))
      | Greater ↦ λ e low. key_total.antisymm x.1.0.now y.1.0.now ∙ ap ordering_reverse e
    ] refl low

next_above : (x y : AbbreviatedKey) → is_lt (entry_cmp y x) ≡ false → x.1.0.now ≢ y.1.0.now → IsAbbreviated x → IsAbbreviated y
    → bytes_cmp x.1.0.now y.1.0.now ≡ Less
next_above x y low other led_x led_y =
    elim (cases_lt x.0 y.0) [
      | inl lt ↦ smaller_first 8 x.1.0.now y.1.0.now led_x.bytes led_y.bytes (let p = led_x.number in let q = led_y.number in omega
          (arith, p, q, lt))
      | inr le ↦ elim (cases_lt y.0 x.0) [
        | inl gt ↦ false_is_not_true (sym low
            ∙ ap (λ o. is_lt (ordering_then o (ordering_then (bytes_cmp y.1.0.now x.1.0.now) (bytes_cmp y.1.1.now x.1.1.now))))
            (less y.0 x.0 gt))
        | inr ge ↦
            let same : y.0 ≡ x.0 = omega (arith, le, ge) in
            key_above x y (sym (ap
            (λ o. is_lt (ordering_then o (ordering_then (bytes_cmp y.1.0.now x.1.0.now) (bytes_cmp y.1.1.now x.1.1.now))))
            (ap (λ z. nat_cmp z x.0) same ∙ tied x.0)) ∙ low) other
      ]
    ]

-- ---- places

pub more_pairs : (ps : List AbbreviatedKey) (p : AbbreviatedKey) → pairs (ps ++ p ∷ []) ≡ pairs ps ++ (p.1.0.now, p.1.1.now) ∷ []
more_pairs ps p = map-append (λ (e : AbbreviatedKey). (e.1.0.now, e.1.1.now)) ps (p ∷ [])

pub take_next : (es : List Entry) (i : ℕ) (key states : List ℕ) → slice_get es i ≡ Some (key, states) → take (i + 1) es ≡ take i es
    ++ (key, states) ∷ []
take_next es i key states at = take_found es i (key, states) at

pub pair_at : (ps : List AbbreviatedKey) (i : ℕ) (d : AbbreviatedKey) → i < length ps → slice_get (pairs ps) i
    ≡ Some ((slice_index_or ps i d).1.0.now, (slice_index_or ps i d).1.1.now)
pair_at [] i d low = absurd (omega (arith, low))
pair_at (p ∷ ps) zero d low = refl
pair_at (p ∷ ps) (suc i) d low = pair_at ps i d (omega (arith, low))

pub pairs_moved : (ps qs : List AbbreviatedKey) → IsPermutation ps qs → IsPermutation (pairs ps) (pairs qs)
pairs_moved ps qs moved = IsPermutation-map (λ (e : AbbreviatedKey). (e.1.0.now, e.1.1.now)) ps qs moved

pub all_taken : (ps : List AbbreviatedKey) (run : List Entry) (i : ℕ) → run ≡ take i (pairs ps) → length ps ≤ i → run ≡ pairs ps
all_taken ps run i is past =
    let same : length (pairs ps) ≡ length ps = length-map ps (λ (e : AbbreviatedKey). (e.1.0.now, e.1.1.now)) in
    is ∙ take_all i (pairs ps) (omega (arith, same, past))

-- ---- keys that are told apart

taken_get : (es : List Entry) (n i : ℕ) (e : Entry) → i < n → slice_get es i ≡ Some e → slice_get (take n es) i ≡ Some e
taken_get [] n i e low at = absurd cc
taken_get (x ∷ es) zero i e low at = absurd (omega (arith, low))
taken_get (x ∷ es) (suc n) zero e low at = at
taken_get (x ∷ es) (suc n) (suc i) e low at = taken_get es n i e (omega (arith, low)) at

-- the keys before one are below it, if the one before it differs
told_below : (ps : List AbbreviatedKey) (run : List Entry) (i : ℕ) (d : AbbreviatedKey) → IsSorted entry_cmp ps → All IsAbbreviated ps
    → Rises run → run ≡ take i (pairs ps) → i < length ps
    → (0 < i → (slice_index_or ps (i - 1) d).1.0.now ≢ (slice_index_or ps i d).1.0.now) → AllBelow (slice_index_or ps i d).1.0.now run
told_below ps run zero d sorted abbreviated rises is low other = subst (AllBelow (slice_index_or ps zero d).1.0.now) (sym is) tt
told_below ps run (suc i) d sorted abbreviated rises is low other =
    let x : AbbreviatedKey = slice_index_or ps i d in
    let y : AbbreviatedKey = slice_index_or ps (suc i) d in
    let next : is_lt (entry_cmp y x) ≡ false = subst (λ n. is_lt (entry_cmp (slice_index_or ps n d) x) ≡ false) (add-one i)
    (sorted i d (omega arith) (omega (arith, low))) in
    let before : suc i - 1 ≡ i = omega arith in
    let above : bytes_cmp x.1.0.now y.1.0.now
    ≡ Less = next_above x y next (subst (λ n. (slice_index_or ps n d).1.0.now ≢ y.1.0.now) before (other (omega arith)))
    (abbreviated i d (omega (arith, low))) (abbreviated (suc i) d low) in
    let at : slice_get run i ≡ Some (x.1.0.now, x.1.1.now) = ap (λ es. slice_get es i) is
    ∙ taken_get (pairs ps) (suc i) i (x.1.0.now, x.1.1.now) (omega arith) (pair_at ps i d (omega (arith, low))) in
    let short : length run ≤ i + 1 = omega (arith, ap length is, length-take (suc i) (pairs ps)) in
    subst (AllBelow y.1.0.now) (take_all (i + 1 - 0) run (omega (arith, short))) (below_to run 0 i (x.1.0.now, x.1.1.now) y.1.0.now rises
    (omega arith) at above)

-- the next one goes on with the run of those before it, if the one before it has another key
pub told_rises : (ps : List AbbreviatedKey) (run : List Entry) (i : ℕ) (d : AbbreviatedKey) → IsSorted entry_cmp ps → All IsAbbreviated ps
    → Rises run → run ≡ take i (pairs ps) → i < length ps
    → (0 < i → (slice_index_or ps (i - 1) d).1.0.now ≢ (slice_index_or ps i d).1.0.now)
    → Rises (run ++ ((slice_index_or ps i d).1.0.now, (slice_index_or ps i d).1.1.now) ∷ [])
told_rises ps run i d sorted abbreviated rises is low other =
    rises_between run [] (slice_index_or ps i d).1.0.now (slice_index_or ps i d).1.1.now (subst Rises (sym (append-nil run)) rises)
    (told_below ps run i d sorted abbreviated rises is low other) tt

-- where neighbours have the same key, a key is there twice
pub told_twice : (ps : List AbbreviatedKey) (i : ℕ) (d : AbbreviatedKey) → AreOnce (pairs ps) → 0 < i → i < length ps
    → (slice_index_or ps (i - 1) d).1.0.now ≢ (slice_index_or ps i d).1.0.now
told_twice ps zero d once some low = absurd (omega (arith, some))
told_twice ps (suc i) d once some low = λ same.
    let before : suc i - 1 ≡ i = omega arith in
    let both : i ≡ suc i = once i (suc i) _ _ (pair_at ps i d (omega (arith, low))) (pair_at ps (suc i) d low)
    (subst (λ n. (slice_index_or ps n d).1.0.now ≡ (slice_index_or ps (suc i) d).1.0.now) before same) in
    absurd (omega (arith, both))
