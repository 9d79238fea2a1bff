-- The table of a pass.
use Rattle.std.specs.Prelude.{◌≡◌, ◌≢◌, refl, ℕ, zero, suc, ◌+◌, ◌%◌, ◌^◌, List, [], ◌∷◌, map, slice_get, Some, Bool, true, false, cond}
use Rattle.std.proofs.Common.{sym, ◌∙◌, ap, subst, arith}
use Rattle.context_tree.specs.Contexts.{held_by}
use Rattle.context_tree.specs.Links.{is_below}
use Rattle.context_tree.specs.Tree.{TreeState, context_at, held_below, new_tree}
use Rattle.context_tree.specs.declared.links.ContextId.{ContextId}
use Rattle.group_table.specs.Standing.{IsTableIn}
use Rattle.key_hashes.specs.SipHashes.{low_hash, sip_hash}
use Rattle.key_hashes.specs.declared.sip_hash.Seed.{Seed}
use Rattle.key_hashes.specs.declared.sip_hash.SipHash.{SipHash}
use Rattle.hash_agg.specs.Passes.{FindsBy}
use Rattle.hash_agg.proofs.Words.{TableState, IsSameBut, held_in, HasNo, key_in, state_in, group_in, groups, Slot, Entry, GroupsState}
use Rattle.hash_agg.proofs.Words.{entries_of, AreOnce}

-- no entry has this key
abbrev pub HasNoKey : List Entry → List ℕ → Type 0
HasNoKey entries key = (i : ℕ) (x : Entry) → slice_get entries i ≡ Some x → x.0 ≢ key

-- what stands at a place of a list that was mapped
pub mapped_get : {X Y : Type 0} (f : X → Y) (xs : List X) (i : ℕ) (y : Y) → slice_get (map f xs) i ≡ Some y → (x : X)
    × (slice_get xs i ≡ Some x) × (f x ≡ y)
mapped_get f [] i y at = absurd cc
mapped_get f (x ∷ xs) zero y at = (x, refl, cc)
mapped_get f (x ∷ xs) (suc i) y at = mapped_get f xs i y at

pub get_mapped : {X Y : Type 0} (f : X → Y) (xs : List X) (i : ℕ) (x : X) → slice_get xs i ≡ Some x → slice_get (map f xs) i ≡ Some (f x)
get_mapped f [] i x at = absurd cc
get_mapped f (y ∷ xs) zero x at = let same : y ≡ x = cc in ap (λ x. Some (f x)) same
get_mapped f (y ∷ xs) (suc i) x at = get_mapped f xs i x at

pub nothing_mapped : {X Y : Type 0} (f : X → Y) (xs : List X) → map f xs ≡ [] → xs ≡ []
nothing_mapped f [] none = refl
nothing_mapped f (x ∷ xs) none = absurd cc

pub once_groups : {Hash : Type 0} (hash_of : Hash → List ℕ → ℕ) (t : TableState Hash) (tree : TreeState) → IsTableIn hash_of t tree
    → AreOnce (groups t tree)
once_groups hash_of t tree is i j x y at bt same =
    let a = mapped_get (group_in t tree) t.slots i x at in
    let b = mapped_get (group_in t tree) t.slots j y bt in
    is.standing.stands.groups.once i j a.0 b.0 a.1 b.1 (ap (λ (e : Entry). e.0) a.2 ∙ same ∙ ap (λ (e : Entry). e.0) (sym b.2))

-- a key that no group of the table has, and one that a group has
pub no_key : {Hash : Type 0} (g : GroupsState Hash) (key : List ℕ) → HasNo g.table g.tree key → HasNoKey (entries_of g) key
no_key g key none i x at same =
    let a = mapped_get (group_in g.table g.tree) g.table.slots i x at in
    none a.0 (i, a.1) (ap (λ (e : Entry). e.0) a.2 ∙ same)

pub named_at : {Hash : Type 0} (g : GroupsState Hash) (slot : Slot) (key : List ℕ) (place : ℕ) → slice_get g.table.slots place ≡ Some slot
    → key_in g.table g.tree slot ≡ key → slice_get (entries_of g) place ≡ Some (key, state_in g.table g.tree slot)
named_at g slot key place at named = get_mapped (group_in g.table g.tree) g.table.slots place slot at
    ∙ (λ i. Some (named i, state_in g.table g.tree slot))

-- where no more was held below the parent than in the table, no more is
pub held_alone : {Hash : Type 0} (t u : TableState Hash) (before after : TreeState) → IsSameBut t u → held_below before t.parent
    ≡ held_in t before → held_below after t.parent + held_in t before ≡ held_below before t.parent + held_in t after
    → held_below after u.parent ≡ held_in u after
held_alone t u before after same alone rest =
    let now : held_below after t.parent ≡ held_in t after = omega (arith, alone, rest) in
    ap (held_below after) same.parent
    ∙ now
    ∙ (λ i. held_by (context_at after (sym same.buckets i)) + held_by (context_at after (sym same.keys i))
    + held_by (context_at after (sym same.states i)))

-- a table that was made with a hash function finds keys by the seed of that, and by one that is the same
pub finds_made : (seed : Seed) (made hash : SipHash) → made ≡ hash → ((key : List ℕ) → low_hash hash key ≡ sip_hash seed key % 2 ^ 32)
    → (key : List ℕ) → low_hash made key ≡ sip_hash seed key % 2 ^ 32
finds_made seed made hash same finds key = ap (λ h. low_hash h key) same ∙ finds key

pub finds_same : {Hash : Type 0} (g : GroupsState Hash) (told seed : Seed) → told ≡ seed → FindsBy told g → FindsBy seed g
finds_same g told seed same finds = subst (λ s. FindsBy s g) same finds

-- so does a later table with the same hash function
pub finds_later : {Hash : Type 0} (g h : GroupsState Hash) (seed : Seed) → h.table.hash ≡ g.table.hash → FindsBy seed g → FindsBy seed h
finds_later g h seed same finds key = ap (λ (hash : SipHash). low_hash hash key) same ∙ finds key

-- a new tree holds nothing
nothing_where : (b : Bool) → cond b 0 0 + 0 ≡ 0
nothing_where true = refl
nothing_where false = refl

pub nothing_held : (tree : TreeState) (stamp : ℕ) (id : ContextId) → tree ≡ new_tree stamp → held_below tree id ≡ 0
nothing_held tree stamp id new = ap (λ (t : TreeState). held_below t id) new ∙ nothing_where (is_below (new_tree stamp).links id.slot 0)
