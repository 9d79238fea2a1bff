-- A group comes into the table.
use Rattle.std.specs.Prelude.{◌≡◌, refl, ℕ, zero, suc, ◌+◌, ◌*◌, ◌/◌, ◌<◌, ◌≤◌, ◌⊎◌, true, false, List, [], ◌∷◌, ◌++◌, Some, None, length}
use Rattle.std.specs.Prelude.{slice_get, is_some, unwrap_or, IsTrue, Bool, IfSome, cond}
use Rattle.std.proofs.Common.{inl, inr, sym, ◌∙◌, ap, subst, arith, rules}
use Rattle.std.proofs.lemmas.Bool.{cases_eq, false≢true}
use Rattle.std.proofs.lemmas.List.{length_push}
use Rattle.group_table.proofs.Words.{same_place, place_of, contents_at, ChunkName, SetState, has_chunk, chunk_bytes, TreeState, context_at}
use Rattle.group_table.proofs.Words.{Context, bucket_at, IsIndex, Holds, Puts, TableState, IsSlot, HasNo, IsSetWith, IsBump, IsSlabOf}
use Rattle.group_table.proofs.Words.{IsFirst, HasArray, AreGroups, IsStanding, IsArrayIn, IsArrayOf, bucket_of, slot_of, IsRewritten}
use Rattle.group_table.proofs.Words.{IsArrayAt, OnlyIn, HasNext, IsNext, bytes_at, count_of, with_slot, Bucket, Slot}
use Rattle.group_table.specs.Index.{in_use}
use Rattle.group_table.proofs.ArrayLaws.{one_set}
use Rattle.group_table.proofs.MoveLaws.{same_back}
use Rattle.group_table.proofs.StandLaws.{SetOf, set_of, set_with}
use Rattle.group_table.proofs.TreeFacts.{placed_kept, same_links, same_number}
use Rattle.group_table.proofs.InsertLaws.{keys_left, states_left}

-- what a search met, unless the array is another one
pub met_or : (P : ℕ → Type 0) (replaced : Bool) (place : ℕ) → (replaced ≡ false → P place) → IfSome (cond replaced None (Some place)) P
met_or P true place met = tt
met_or P false place met = met refl

-- a member of a list with one more
module _ {X : Type 0} where
  pub at_push : (xs : List X) (x y : X) (i : ℕ) → slice_get (xs ++ x ∷ []) i ≡ Some y → (slice_get xs i ≡ Some y)
      ⊎ ((i ≡ length xs) × (x ≡ y))
  at_push [] x y zero is = inr (refl, ap (λ o. unwrap_or o y) is)
  at_push [] x y (suc i) is = inl is
  at_push (z ∷ xs) x y zero is = inl is
  at_push (z ∷ xs) x y (suc i) is = elim (at_push xs x y i is) [ inl there ↦ inl there | inr last ↦ inr (ap suc last.0, last.1) ]

  pub old_at : (xs : List X) (x y : X) (i : ℕ) → slice_get xs i ≡ Some y → slice_get (xs ++ x ∷ []) i ≡ Some y
  old_at [] x y i is = absurd (false≢true (ap is_some is))
  old_at (z ∷ xs) x y zero is = is
  old_at (z ∷ xs) x y (suc i) is = old_at xs x y i is

  pub new_at : (xs : List X) (x : X) → slice_get (xs ++ x ∷ []) (length xs) ≡ Some x
  new_at [] x = refl
  new_at (z ∷ xs) x = new_at xs x

module _ {H : Type 0} (hash_of : H → List ℕ → ℕ) (t : TableState H) (slot : Slot) where
  abbrev more : TableState H
  more = with_slot t slot

  old_slot : (x : Slot) → IsSlot t x → IsSlot more x
  old_slot x (place, there) = (place, old_at t.slots slot x place there)

  new_slot : IsSlot more slot
  new_slot = (length t.slots, new_at t.slots slot)

  which : (x : Slot) → IsSlot more x → (IsSlot t x) ⊎ (slot ≡ x)
  which x (place, there) = by (at_push t.slots slot x place there)
    where
      by : (slice_get t.slots place ≡ Some x) ⊎ ((place ≡ length t.slots) × (slot ≡ x)) → (IsSlot t x) ⊎ (slot ≡ x)
      by (inl old) = inl (place, old)
      by (inr new) = inr new.1

  -- its bucket is in the array
  array_more : (keys : Context) (old new : List ℕ) (count : ℕ) → IsArrayOf hash_of t keys old count → IsIndex new count → in_use new count
      ≡ in_use old count + 1 → Puts old new count (bucket_of hash_of t keys slot) → IsArrayOf hash_of more keys new count
  array_more keys old new count is index number put = record {
    index = index;
    number = number ∙ ap (λ n. n + 1) is.number ∙ sym (length_push t.slots slot);
    kept = λ x there. kept x (which x there);
    only = λ b held. only b held (cases_eq held.0 put.place);
  }
    where
      used : (b : Bucket) → bucket_at old put.place ≡ Some b → ⊥
      used b there = false≢true (ap is_some (sym put.free ∙ there))

      kept : (x : Slot) → (IsSlot t x) ⊎ (slot ≡ x) → Holds new count (bucket_of hash_of t keys x)
      kept x (inl there) =
          let held = is.kept x there in
          (held.0, held.1, put.others held.0 (λ same. used (bucket_of hash_of t keys x) (ap (bucket_at old) (sym same) ∙ held.2)) ∙ held.2)
      kept x (inr same) = subst (λ (y : Slot). Holds new count (bucket_of hash_of t keys y)) same (put.place, put.within, put.there)

      only : (b : Bucket) → (held : Holds new count b) → (held.0 ≡ put.place) ⊎ (held.0 ≡ put.place → ⊥) → IsSlot more (slot_of b)
          × (b.hash ≡ hash_of t.hash (chunk_bytes keys b.key))
      only b (place, within, there) (inl same) =
          let it : bucket_of hash_of t keys slot ≡ b = ap (λ o. unwrap_or o b) (sym put.there ∙ ap (bucket_at new) (sym same) ∙ there) in
          subst (λ (x : Bucket). IsSlot more (slot_of x) × (x.hash ≡ hash_of t.hash (chunk_bytes keys x.key))) it (new_slot, refl)
      only b (place, within, there) (inr differ) =
          let was = is.only b (place, within, sym (put.others place differ) ∙ there) in
          (old_slot (slot_of b) was.0, was.1)

  module _ (tree : TreeState) (is : IsStanding hash_of t tree) (key state : List ℕ) (next : IsNext t tree key state slot)
      (absent : HasNo t tree key) where
    abbrev b : Context
    b = context_at tree t.buckets

    abbrev keys : Context
    keys = context_at tree t.keys

    abbrev states : Context
    states = context_at tree t.states

    groups_more : AreGroups more keys states
    groups_more = record {
      keys_live = λ x there. elim (which x there) [
        | inl old ↦ is.stands.groups.keys_live x old
        | inr same ↦
            subst (λ (y : Slot). IsTrue (has_chunk keys y.key)) same next.key_live
      ];
      states_live = λ x there. elim (which x there) [
        | inl old ↦ is.stands.groups.states_live x old
        | inr same ↦
            subst (λ (y : Slot). IsTrue (has_chunk states y.state)) same next.state_live
      ];
      widths = λ x there. elim (which x there) [
        | inl old ↦ is.stands.groups.widths x old
        | inr same ↦ subst (λ (y : Slot). y.state.len
            ≡ t.width) same next.width
      ];
      once = λ i j x y at_i at_j same. once i j x y (at_push t.slots slot x i at_i) (at_push t.slots slot y j at_j) same;
      own = λ i j x y at_i at_j same. own i j x y (at_push t.slots slot x i at_i) (at_push t.slots slot y j at_j) same;
    }
      where
        once : (i j : ℕ) (x y : Slot) → (slice_get t.slots i ≡ Some x) ⊎ ((i ≡ length t.slots) × (slot ≡ x))
            → (slice_get t.slots j ≡ Some y) ⊎ ((j ≡ length t.slots) × (slot ≡ y)) → chunk_bytes keys x.key ≡ chunk_bytes keys y.key → i ≡ j
        once i j x y (inl at_i) (inl at_j) same = is.stands.groups.once i j x y at_i at_j same
        once i j x y (inl at_i) (inr (last, it)) same = absurd
            (absent x (i, at_i) (same ∙ ap (λ (s : Slot). chunk_bytes keys s.key) (sym it) ∙ next.key_is))
        once i j x y (inr (last, it)) (inl at_j) same = absurd
            (absent y (j, at_j) (sym same ∙ ap (λ (s : Slot). chunk_bytes keys s.key) (sym it) ∙ next.key_is))
        once i j x y (inr (last, it)) (inr (last_too, it_too)) same = last ∙ sym last_too

        own : (i j : ℕ) (x y : Slot) → (slice_get t.slots i ≡ Some x) ⊎ ((i ≡ length t.slots) × (slot ≡ x)) → (slice_get t.slots j ≡ Some y)
            ⊎ ((j ≡ length t.slots) × (slot ≡ y)) → same_place (place_of x.state) (place_of y.state) ≡ true → i ≡ j
        own i j x y (inl at_i) (inl at_j) same = is.stands.groups.own i j x y at_i at_j same
        own i j x y (inl at_i) (inr (last, it)) same =
            absurd (false≢true (sym (subst (λ (s : Slot). same_place (place_of x.state) (place_of s.state) ≡ false) it
            (same_back (place_of slot.state) (place_of x.state) (next.own x (i, at_i)))) ∙ same))
        own i j x y (inr (last, it)) (inl at_j) same =
            absurd (false≢true (sym (subst (λ (s : Slot). same_place (place_of s.state) (place_of y.state) ≡ false) it
            (next.own y (j, at_j))) ∙ same))
        own i j x y (inr (last, it)) (inr (last_too, it_too)) same = last ∙ sym last_too

    module _ (name : ChunkName) (array : t.array ≡ Some name) (room : HasNext t tree None) where
      abbrev P : SetState → Type 0
      P s = IsFirst s × HasArray hash_of t keys (Some name) s

      abbrev set : SetOf P b
      set = set_of P b (subst (λ a. IsSetWith (λ s. IsFirst s × HasArray hash_of t keys a s) b) array is.stands.set)

      abbrev s : SetState
      s = set.state

      was : IsArrayIn hash_of t keys s name
      was = set.with.1

      pub array_at : IsArrayAt tree t.buckets name
      array_at = record {
        there = is.placed.buckets.there;
        within = is.placed.buckets.within;
        set = s;
        is_set = set.is;
        lives =
            subst (λ (c : Context). IsTrue (has_chunk c name)) (sym set.is) was.lives;
        whole = was.whole;
      }

      pub index_at : IsIndex (bytes_at tree t.buckets name) (count_of name)
      index_at = subst (λ (c : Context). IsIndex (chunk_bytes c name) (count_of name)) (sym set.is) was.array.index

      pub room_at : in_use (bytes_at tree t.buckets name) (count_of name) < count_of name
      room_at = search rules

      module _ (after : TreeState) (only : OnlyIn t.buckets tree after) (written : IsRewritten b (context_at after t.buckets) name)
          (index : IsIndex (bytes_at after t.buckets name) (count_of name))
          (number : in_use (bytes_at after t.buckets name) (count_of name) ≡ in_use (bytes_at tree t.buckets name) (count_of name)
          + 1) (hash : ℕ) (hashed : hash ≡ hash_of t.hash key)
          (put : Puts (bytes_at tree t.buckets name) (bytes_at after t.buckets name) (count_of name)
          (record { key = slot.key; state = slot.state; hash = hash })) where
        abbrev n : SetState
        n = written.new

        same_set : written.old ≡ s
        same_set = one_set written.old s (sym written.before_is ∙ set.is)

        first_same : n.first ≡ s.first
        first_same = written.first ∙ ap (λ (x : SetState). x.first) same_set

        first_kept : IsFirst n
        first_kept = search rules

        one_name : (other : ChunkName) → t.array ≡ Some other → other ≡ name
        one_name other is_other = ap (λ o. unwrap_or o name) (sym is_other ∙ array)

        in_array : IsArrayIn hash_of more keys n name
        in_array = record {
          lives = subst (λ (c : Context). IsTrue (has_chunk c name)) written.after_is written.lives;
          whole = was.whole;
          some = was.some;
          most = was.most;
          full = omega (
            arith,
            length_push t.slots slot,
            subst (λ (x : ChunkName). 4 * (length t.slots + 1) ≤ 3 * (x.len / 32))
                (one_name room.0 room.1) room.2,
          );
          first = ap is_some first_same ∙ was.first;
          beside = record {
            room = written.rooms (place_of name) ∙ ap (λ (x : SetState). (contents_at x.chunks (place_of name)).room) same_set
                ∙ was.beside.room;
            own = λ long here. was.beside.own long (sym first_same ∙ here);
          };
          array = subst (λ (c : Context). IsArrayOf hash_of more keys (chunk_bytes c name) (count_of name)) written.after_is
              (array_more keys (bytes_at tree t.buckets name) (bytes_at after t.buckets name) (count_of name)
              (subst (λ (c : Context). IsArrayOf hash_of t keys (chunk_bytes c name) (count_of name)) (sym set.is) was.array) index number
              (subst (λ h. Puts (bytes_at tree t.buckets name) (bytes_at after t.buckets name) (count_of name)
              (record { key = slot.key; state = slot.state; hash = h })) (hashed ∙ ap (hash_of t.hash) (sym next.key_is)) put));
        }

        same_keys : context_at after t.keys ≡ keys
        same_keys = keys_left t tree after only is.placed

        same_states : context_at after t.states ≡ states
        same_states = states_left t tree after only is.placed

        pub stands_more : IsStanding hash_of more after
        stands_more =
            let placed = placed_kept t tree after (same_links t.buckets tree after only) (same_number t.buckets tree after only) is.placed
            in
            record {
              placed = record {
                parent = placed.parent;
                buckets = placed.buckets;
                keys = placed.keys;
                states = placed.states;
                keys_apart =
                    placed.keys_apart;
                states_apart = placed.states_apart;
                both_apart = placed.both_apart;
              };
              stands = record {
                set = set_with (λ x. IsFirst x × HasArray hash_of more (context_at after t.keys) t.array x) (context_at after t.buckets) n
                    written.after_is (
                      first_kept,
                      subst (λ a. HasArray hash_of more (context_at after t.keys) a n) (sym array)
                          (subst (λ (k : Context). IsArrayIn hash_of more k n name) (sym same_keys) in_array),
                    );
                run = subst IsBump (sym same_keys) is.stands.run;
                slab = subst (IsSlabOf t.width) (sym same_states) is.stands.slab;
                width = is.stands.width;
                groups = subst (λ (k : Context). AreGroups more k (context_at after t.states)) (sym same_keys)
                    (subst (λ (c : Context). AreGroups more keys c) (sym same_states) groups_more);
              };
            }
