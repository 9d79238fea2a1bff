-- What the table of a pass needs.
use Rattle.std.specs.Prelude.{◌≡◌, refl, ℕ, zero, suc, ◌<◌, ◌≤◌, nat_le, true, false, max, List, [], ◌∷◌, ◌++◌, map, length, slice_get}
use Rattle.std.specs.Prelude.{slice_set, Bool, Option, Some, Ok, Err, IfOk, OnOk, OnErr}
use Rattle.std.specs.declared.result.Result.{Result}
use Rattle.std.proofs.Common.{sym, ◌∙◌, ap, subst, arith}
use Rattle.std.proofs.lemmas.Result.{on_ok_weaker, on_err_weaker}
use Rattle.std.proofs.lemmas.Bool.Decides.{nat_tests}
use Rattle.std.proofs.lemmas.List.{map-append}
use Rattle.hash_agg.proofs.Words.{greatest, Key, Setting, need, fits, fronts, low_hash, TableState, IsSlot, IsSameBut, key_in, state_in}
use Rattle.hash_agg.proofs.Words.{group_in, groups, Slot, Entry, packed_keys, GroupsState, AreHeld, WritesAt, entries_of}
use Rattle.aggregation_cost.specs.Lemmas.CostLaws.{one_fits}
use Rattle.context_tree.specs.Tree.{TreeState}
use Rattle.group_table.specs.Space.{HoldsKeys, is_within, key_of, keys_in}
use Rattle.group_table.specs.Standing.{IsTableIn}
use Rattle.hash_agg.proofs.TableLaws.{get_mapped}

-- one key more has one front more
fronts_more : {X : Type 0} (xs : List X) (x : X) → fronts (xs ++ x ∷ []) ≡ fronts xs ++ (xs ++ x ∷ []) ∷ []
fronts_more [] x = refl
fronts_more (y ∷ ys) x =
    ap (λ fs. (y ∷ []) ∷ map (λ front. y ∷ front) fs) (fronts_more ys x)
    ∙ ap (λ fs. (y ∷ []) ∷ fs) (map-append (λ front. y ∷ front) (fronts ys) ((ys ++ x ∷ []) ∷ []))

greatest_more : (ns : List ℕ) (n : ℕ) → greatest (ns ++ n ∷ []) ≡ max (greatest ns) n
greatest_more [] n = omega arith
greatest_more (m ∷ ms) n = let rest = greatest_more ms n in omega (arith, rest)

-- what is needed at most while one key more enters
pub most_more : (width : ℕ) (keys : List Key) (key : Key) → greatest (map (need width) (fronts (keys ++ key ∷ [])))
    ≡ max (greatest (map (need width) (fronts keys))) (need width (keys ++ key ∷ []))
most_more width keys key =
    ap (λ fs. greatest (map (need width) fs)) (fronts_more keys key)
    ∙ ap greatest (map-append (need width) (fronts keys) ((keys ++ key ∷ []) ∷ []))
    ∙ greatest_more (map (need width) (fronts keys)) (need width (keys ++ key ∷ []))

-- other states are for the same keys
pub keys_set : (es : List Entry) (place : ℕ) (key states more : List ℕ) → slice_get es place ≡ Some (key, states)
    → packed_keys (slice_set es place (key, more)) ≡ packed_keys es
keys_set [] place key states more at = absurd cc
keys_set (e ∷ es) zero key states more at = let same : e ≡ (key, states) = cc in ap (λ (e : Entry). e.0 ∷ packed_keys es) (sym same)
keys_set (e ∷ es) (suc place) key states more at = ap (λ ks. e.0 ∷ ks) (keys_set es place key states more at)

pub held_by_both : (limit before now after : ℕ) → after ≡ max before now → before ≤ limit → now ≤ limit → after ≤ limit
held_by_both limit before now after is a b = omega (arith, is, a, b)

-- within a limit, and not
pub within_told : (bytes limit : ℕ) → bytes ≤ limit → nat_le bytes limit ≡ true
within_told bytes limit low = grind (arith, nat_tests)

pub beyond_told : (bytes limit : ℕ) → limit < bytes → nat_le bytes limit ≡ false
beyond_told bytes limit high = grind (arith, nat_tests)

-- one group more entered
pub most_entered : {Hash : Type 0} (t u : TableState Hash) (before after : TreeState) (most held : ℕ) (key states : List ℕ) → IsSameBut t u
    → most ≡ greatest (map (need t.width) (fronts (keys_in t before))) → held ≡ need t.width (keys_in t before ++ key ∷ [])
    → groups u after ≡ groups t before ++ (key, states) ∷ [] → max most held ≡ greatest (map (need u.width) (fronts (keys_in u after)))
most_entered t u before after most held key states same is needed entered =
    let keys : keys_in u after ≡ keys_in t before ++ key ∷ [] = ap (map key_of) entered ∙ map-append key_of (groups t before) ((key, states)
    ∷ []) in
    (λ i. max (is i) (needed i))
    ∙ sym (most_more t.width (keys_in t before) key)
    ∙ (λ i. greatest (map (need (sym same.width i)) (fronts (sym keys i))))

-- none entered
pub none_needed : {Hash : Type 0} (t : TableState Hash) (tree : TreeState) → t.slots ≡ [] → 0
    ≡ greatest (map (need t.width) (fronts (keys_in t tree)))
none_needed t tree none = ap (λ slots. greatest (map (need t.width) (fronts (map key_of (map (group_in t tree) slots))))) (sym none)

-- the states of one were written anew
pub same_needed : {Hash : Type 0} (t : TableState Hash) (before after : TreeState) (place most : ℕ) (key states more : List ℕ)
    → slice_get (groups t before) place ≡ Some (key, states) → groups t after ≡ slice_set (groups t before) place (key, more) → most
    ≡ greatest (map (need t.width) (fronts (keys_in t before))) → most ≡ greatest (map (need t.width) (fronts (keys_in t after)))
same_needed t before after place most key states more at written is =
    is ∙ ap (λ keys. greatest (map (need t.width) (fronts keys)))
    (sym (ap (map key_of) written ∙ keys_set (groups t before) place key states more at))

-- the states of a group are written over
pub still_held : {H : Type 0} (x old : GroupsState H) (slot : Slot) (after : TreeState) (states : List ℕ) → x ≡ old → AreHeld x
    → IsSlot old.table slot → IsTableIn low_hash x.table after
    → (HoldsKeys x.table x.tree → HoldsKeys x.table after)
    → ((place : ℕ) → slice_get x.table.slots place ≡ Some slot → groups x.table after
    ≡ slice_set (groups x.table x.tree) place (key_in x.table x.tree slot, states))
    → AreHeld (record { table = x.table; tree = after; most_held = x.most_held; hash = x.hash })
still_held {H = H} x old slot after states view are is stands holds written =
    let at = subst (λ (y : GroupsState H). slice_get y.table.slots is.0 ≡ Some slot) (sym view) is.1 in
    record {
      in_tree = stands;
      by_keys = holds are.by_keys;
      most =
          same_needed x.table x.tree after is.0 x.most_held (key_in x.table x.tree slot) (state_in x.table x.tree slot) states
          (get_mapped (group_in x.table x.tree) x.table.slots is.0 slot at)
          (written is.0 at) are.most;
    }

-- by such as these, or by none, since there was no room
module _ {H T E : Type 0} (r : Result T E) (x old : GroupsState H) (slot : Slot) (was : List ℕ) (view : x ≡ old) (state : was
    ≡ state_in x.table x.tree slot) where
  own : was ≡ state_in old.table old.tree slot
  own = state ∙ ap (λ (y : GroupsState H). state_in y.table y.tree slot) view

  pub written_over : (after : TreeState) (states : List ℕ) (Moved : List ℕ → List ℕ → Type 0)
      → ((place : ℕ) → slice_get x.table.slots place ≡ Some slot → groups x.table after
      ≡ slice_set (groups x.table x.tree) place (key_in x.table x.tree slot, states))
      → OnOk r (Moved was states)
      → OnOk r (WritesAt old slot (Moved (state_in old.table old.tree slot))
      (record { table = x.table; tree = after; most_held = x.most_held; hash = x.hash }))
  written_over after states Moved written moved =
      let new : GroupsState H = record { table = x.table; tree = after; most_held = x.most_held; hash = x.hash } in
      on_ok_weaker r
      (λ moved. subst (λ (y : GroupsState H). WritesAt y slot (Moved (state_in old.table old.tree slot)) new) view
      (λ place at. (states, subst (λ b. Moved b states) own moved, written place at)))
      moved

  pub no_room_over : (HasRoom : List ℕ → Type 0) → OnErr r (¬ (HasRoom was)) → OnErr r (¬ (HasRoom (state_in old.table old.tree slot)))
  no_room_over HasRoom none = on_err_weaker r (λ none. subst (λ b. ¬ (HasRoom b)) own none) none

-- whether one group more fits, as it is told
pub fits_by : {H : Type 0} (x old : GroupsState H) (key : Key) (limit : ℕ) (hash : Key → ℕ) (told need : Option ℕ) (result : Bool) → x ≡ old
    → told ≡ need
    → is_within told limit ≡ fits (record { limit = limit; width = x.table.width; hash = hash }) (packed_keys (entries_of x) ++ key ∷ [])
    → result ≡ is_within need limit → result ≡ fits (record { limit = limit; width = old.table.width; hash = hash })
    (packed_keys (entries_of old) ++ key ∷ [])
fits_by {H = H} x old key limit hash told need result view is fit same =
    same ∙ sym (ap (λ bytes. is_within bytes limit) is) ∙ fit
    ∙ ap (λ (y : GroupsState H). fits (record { limit = limit; width = y.table.width; hash = hash }) (packed_keys (entries_of y) ++ key
    ∷ [])) view

-- what a success tells holds of all that it leaves
pub ok_from : {T E : Type 0} (r : Result T E) (P : T → Type 0) {A : Type 0} → ((x : T) → P x → A) → IfOk r P → OnOk r A
ok_from (Ok x) P gives p = gives x p
ok_from (Err e) P gives p = tt

-- the first key fits
pub first_fits : (set : Setting) (key : Key) → 32768 ≤ set.limit → set.width ≤ 8184 → length key ≤ 8192 → fits set (key ∷ []) ≡ true
first_fits set key limit narrow short = one_fits set key (omega (arith, limit, narrow, short))
