-- A group is taken, step by step.
use Rattle.std.specs.Prelude.{◌≡◌, refl, ℕ, ◌+◌, ◌/◌, ◌≤◌, List, [], ◌∷◌, ◌++◌, Option, Some, None, option_map, slice_get}
use Rattle.std.proofs.Common.{sym, ◌∙◌, ap, subst, arith, rules}
use Rattle.group_table.proofs.Words.{ChunkName, growth_of, held_by, TreeState, context_at, held_below, Context, TableState, group_in}
use Rattle.group_table.proofs.Words.{groups, HasNo, IsSameBut, array_growth, group_growth, IsSetWith, HasSpace, IsArrayOf, HasArray}
use Rattle.group_table.proofs.Words.{IsPlaced, IsTableIn, OnlyIn, HasNext, IsNext, with_next, with_slot, with_spare, Slot}
use Rattle.group_table.proofs.Words.{IsFreeFor, IsMet, chunk_bytes, count_of}
use Rattle.group_table.specs.Standing.{KeepsOthers}
use Rattle.group_table.specs.declared.table.Vacancy.{Vacancy}
use Rattle.group_table.proofs.StandLaws.{set_of, set_with}
use Rattle.group_table.proofs.TreeFacts.{at_other, held_changed, only_its_own}
use Rattle.std.proofs.lemmas.Option.{slice_get-map}
use Rattle.group_table.proofs.GroupLaws.{map_same}
use Rattle.std.proofs.lemmas.Bool.Decides.{nat_tests}
use Rattle.std.proofs.lemmas.Grind.{common_steps}

module _ {H : Type 0} (t : TableState H) where
  pub has_no_kept : (a b : TreeState) (key : List ℕ) → groups t b ≡ groups t a → HasNo t a key → HasNo t b key
  has_no_kept a b key same absent slot (place, there) is =
      let at_b = slice_get-map (group_in t b) t.slots place ∙ ap (option_map (group_in t b)) there in
      let at_a = slice_get-map (group_in t a) t.slots place ∙ ap (option_map (group_in t a)) there in
      let both : Some (group_in t b slot) ≡ Some (group_in t a slot) = sym at_b ∙ ap (λ gs. slice_get gs place) same ∙ at_a in
      absent slot (place, there) (sym (ap (λ o. (Rattle.std.specs.Prelude.unwrap_or o (group_in t b slot)).0) both) ∙ is)

  -- the next array changes no group
  pub next_next : (next : Option ChunkName) (tree : TreeState) (key state : List ℕ) (slot : Slot) → IsNext t tree key state slot
      → IsNext (with_next t next) tree key state slot
  next_next next tree key state slot is = record {
    key_live = is.key_live;
    key_is = is.key_is;
    state_live = is.state_live;
    state_is =
        is.state_is;
    width = is.width;
    own = is.own;
  }

  pub next_but : (next : Option ChunkName) → IsSameBut t (with_next t next)
  next_but next = record { parent = refl; buckets = refl; keys = refl; states = refl; width = refl; hash = refl }

  pub next_same : (next : Option ChunkName) (slot : Slot) → IsSameBut t (with_slot (with_next t next) slot)
  next_same next slot = record { parent = refl; buckets = refl; keys = refl; states = refl; width = refl; hash = refl }

  -- a change of the buckets leaves keys and states
  module _ (a b : TreeState) (only : OnlyIn t.buckets a b) (placed : IsPlaced t a) where
    pub keys_left : context_at b t.keys ≡ context_at a t.keys
    keys_left = ap (λ (x : TreeState). context_at x t.keys) only
        ∙ at_other a t.buckets (context_at b t.buckets) t.keys (λ same. placed.keys_apart.differ (sym same))

    pub states_left : context_at b t.states ≡ context_at a t.states
    states_left = ap (λ (x : TreeState). context_at x t.states) only
        ∙ at_other a t.buckets (context_at b t.buckets) t.states (λ same. placed.states_apart.differ (sym same))

    pub groups_left : groups t b ≡ groups t a
    groups_left = map_same (group_in t b) (group_in t a) t.slots (λ i slot there. rw (keys_left, states_left))

    pub next_left : (key state : List ℕ) (slot : Slot) → IsNext t a key state slot → IsNext t b key state slot
    next_left key state slot is = grind (arith, nat_tests, common_steps)

    pub others_left : KeepsOthers t a b
    others_left = only_its_own t t.buckets a b only (λ slot not_buckets not_keys not_states. not_buckets)

    pub held_left : held_below b t.parent + held_by (context_at a t.buckets) ≡ held_below a t.parent + held_by (context_at b t.buckets)
    held_left = held_changed a b t.parent t.buckets only placed.buckets.below placed.buckets.within

  pub others_none : (a b : TreeState) → b ≡ a → KeepsOthers t a b
  others_none a b same = subst (KeepsOthers t a) (sym same)
      (record { links = refl; last = refl; number = refl; others = λ slot not_buckets not_keys not_states. refl })

  pub others_twice : (a b c : TreeState) → KeepsOthers t a b → KeepsOthers t b c → KeepsOthers t a c
  others_twice a b c first second = grind (arith, nat_tests, common_steps)

  -- all groups with one more
  pub groups_pushed : (tree : TreeState) (key state : List ℕ) (slot : Slot) → IsNext t tree key state slot → groups (with_slot t slot) tree
      ≡ groups t tree ++ (key, state) ∷ []
  groups_pushed tree key state slot is = grind (arith, nat_tests, common_steps)

  -- room for more notes changes nothing
  module _ (hash_of : H → List ℕ → ℕ) (n : ℕ) where
    array_spare : (keys : Context) (bytes : List ℕ) (count : ℕ) → IsArrayOf hash_of t keys bytes count
        → IsArrayOf hash_of (with_spare t n) keys bytes count
    array_spare keys bytes count is = record { index = is.index; number = is.number; kept = is.kept; only = is.only }

    has_spare : (keys : Context) (array : Option ChunkName) (s : Rattle.chunk_contexts.specs.Set.SetState) → HasArray hash_of t keys array s
        → HasArray hash_of (with_spare t n) keys array s
    has_spare keys None s is = is
    has_spare keys (Some name) s is = record {
      lives = is.lives;
      whole = is.whole;
      some = is.some;
      most = is.most;
      full = is.full;
      first =
          is.first;
      beside = is.beside;
      array = array_spare keys (Rattle.chunk_contexts.specs.Chunks.bytes_of s.chunks name) (name.len / 32)
          is.array;
    }

    pub spare_table : (tree : TreeState) → IsTableIn hash_of t tree → IsTableIn hash_of (with_spare t n) tree
    spare_table tree is = search rules

-- where the buckets are as they were, so is the next array
pub next_kept : {H : Type 0} (t : TableState H) (a b : TreeState) (next : Option ChunkName) → context_at b t.buckets
    ≡ context_at a t.buckets → IsPlaced t b → HasNext t a next → HasNext t b next
next_kept t a b None same placed is = is
next_kept t a b (Some name) same placed is = grind (arith, nat_tests, common_steps)

-- up to where the next array is that of the table
module _ {H : Type 0} (t : TableState H) (next : Option ChunkName) (tree a b e : TreeState) (placed : IsPlaced t tree)
    (first : OnlyIn t.buckets tree a)
    (others : KeepsOthers t a b) (buckets : context_at b t.buckets ≡ context_at a t.buckets) (same : groups t b ≡ groups t a)
    (placed_b : IsPlaced t b) (last : OnlyIn t.buckets b e) where
  pub replaced_groups : groups (with_next t next) e ≡ groups t tree
  replaced_groups = groups_left t b e last placed_b ∙ same ∙ groups_left t tree a first placed

  pub replaced_others : KeepsOthers t tree e
  replaced_others = others_twice t tree b e (others_twice t tree a b (others_left t tree a first placed) others)
      (others_left t b e last placed_b)

  pub replaced_next : (key state : List ℕ) (slot : Slot) → IsNext t b key state slot → IsNext (with_next t next) e key state slot
  replaced_next key state slot is = next_next t next e key state slot (next_left t b e last placed_b key state slot is)

  pub replaced_absent : (key : List ℕ) → HasNo t tree key → HasNo (with_next t next) e key
  replaced_absent key absent = has_no_kept t tree e key replaced_groups absent

  module _ (n : ℕ) (one : held_by (context_at a t.buckets) ≤ held_by (context_at tree t.buckets) + array_growth t tree)
      (two : held_below b t.parent ≤ held_below a t.parent + growth_of (context_at a t.keys) n + growth_of (context_at a t.states) t.width)
      (three : held_by (context_at e t.buckets) ≤ held_by (context_at b t.buckets)) where
    pub replaced_held : held_below e t.parent ≤ held_below tree t.parent + group_growth t tree n
    replaced_held =
        let key : growth_of (context_at a t.keys) n ≡ growth_of (context_at tree t.keys) n = ap (λ (c : Context). growth_of c n)
        (keys_left t tree a first placed) in
        let state : growth_of (context_at a t.states) t.width
        ≡ growth_of (context_at tree t.states) t.width = ap (λ (c : Context). growth_of c t.width) (states_left t tree a first placed)
        in
        let by : held_by (context_at b t.buckets) ≡ held_by (context_at a t.buckets) = ap held_by buckets in
        omega (arith, one, two, three, key, state, by, held_left t tree a first placed, held_left t b e last placed_b)

module _ {H : Type 0} (t : TableState H) where
  pub next_others : (next : Option ChunkName) (a b : TreeState) → KeepsOthers (with_next t next) a b → KeepsOthers t a b
  next_others next a b is = record { links = is.links; last = is.last; number = is.number; others = is.others }

-- where no other array is taken, what a search met in it stays
pub met_kept : {H : Type 0} (t : TableState H) (next : Option ChunkName) (tree e : TreeState) (v : Vacancy) → next ≡ None
    → context_at e t.buckets ≡ context_at tree t.buckets → IsMet t tree v → IsMet (with_next t next) e v
met_kept t next tree e v none same met = subst (λ n. IsMet (with_next t n) e v) (sym none)
    (λ name is. subst (λ (c : Context). IsFreeFor (chunk_bytes c name) (count_of name) v.hash v.place) (sym same) (met name is))

-- with an array there is nothing to ask of the space
pub any_space : (P : Rattle.chunk_contexts.specs.Set.SetState → Type 0) (c : Context) (a : Option ChunkName) (name : ChunkName) → a
    ≡ Some name → IsSetWith P c → IsSetWith (HasSpace a) c
any_space P c a name is with = let set = set_of P c with in set_with (HasSpace a) c set.state set.is
    (subst (λ x. HasSpace x set.state) (sym is) tt)
