-- What is known of a table in its tree.
use Rattle.std.specs.Prelude.{◌≡◌, ℕ, ◌*◌, ◌/◌, ◌<◌, ◌≤◌, List, [], Some, None, length, slice_get, unwrap_or, IsTrue}
use Rattle.std.proofs.Common.{sym, ◌∙◌, ap, subst, arith}
use Rattle.group_table.proofs.Words.{ChunkName, has_chunk, chunk_bytes, TreeState, context_at, Context, AllocSet, Holds, HasNone}
use Rattle.group_table.proofs.Words.{IsFreeFor, TableState}
use Rattle.group_table.proofs.Words.{Names, HasNo, most_buckets, IsSetWith, IsFirst, HasArray, IsArrayOf, IsStanding, bucket_of, slot_of}
use Rattle.group_table.proofs.Words.{Bucket, bytes_at, count_of}
use Rattle.group_table.specs.Index.{in_use}
use Rattle.std.proofs.lemmas.Option.{none-some}

module _ {H : Type 0} (hash_of : H → List ℕ → ℕ) (t : TableState H) (tree : TreeState) where
  -- what is known of the array, whatever context has it
  pub record ArrayFacts (keys c : Context) (name : ChunkName) : Type 0 where
    pub lives : IsTrue (has_chunk c name)
    pub whole : name.len ≡ 32 * (name.len / 32)
    pub some : 256 ≤ name.len / 32
    pub most : name.len / 32 ≤ most_buckets
    pub full : 4 * length t.slots ≤ 3 * (name.len / 32)
    pub array : IsArrayOf hash_of t keys (chunk_bytes c name) (name.len / 32)

  array_at : (keys c : Context) (name : ChunkName) → IsSetWith (λ s. IsFirst s × HasArray hash_of t keys (Some name) s) c
      → ArrayFacts keys c name
  array_at keys (AllocSet s) name (first, is) = record {
    lives = is.lives;
    whole = is.whole;
    some = is.some;
    most = is.most;
    full = is.full;
    array = is.array;
  }
  array_at keys _ name none = absurd none

  no_slots_at : (keys c : Context) → IsSetWith (λ s. IsFirst s × HasArray hash_of t keys None s) c → t.slots ≡ []
  no_slots_at keys (AllocSet s) (first, is) = is
  no_slots_at keys _ none = absurd none

  module _ (is : IsStanding hash_of t tree) where
    abbrev buckets : Context
    buckets = context_at tree t.buckets

    abbrev keys : Context
    keys = context_at tree t.keys

    pub array_facts : (name : ChunkName) → t.array ≡ Some name → ArrayFacts keys buckets name
    array_facts name array = array_at keys buckets name (subst (λ a. IsSetWith (λ s. IsFirst s × HasArray hash_of t keys a s) buckets) array
        is.stands.set)

    pub no_slots : t.array ≡ None → t.slots ≡ []
    no_slots array = no_slots_at keys buckets (subst (λ a. IsSetWith (λ s. IsFirst s × HasArray hash_of t keys a s) buckets) array
        is.stands.set)

    pub has_none : (key : List ℕ) → t.array ≡ None → HasNo t tree key
    has_none key array slot (place, there) = absurd (none-some slot (ap (λ slots. slice_get slots place) (sym (no_slots array)) ∙ there))

    -- the bytes of the array
    module _ (name : ChunkName) (array : t.array ≡ Some name) (bytes : List ℕ) (read : bytes ≡ chunk_bytes buckets name)
        (long : length bytes ≡ name.len) where
      abbrev count : ℕ
      count = length bytes / 32

      pub facts : ArrayFacts keys buckets name
      facts = array_facts name array

      pub told : IsArrayOf hash_of t keys bytes count
      told = subst (λ bs. IsArrayOf hash_of t keys bs count) (sym read)
          (subst (λ n. IsArrayOf hash_of t keys (chunk_bytes buckets name) (n / 32)) (sym long) facts.array)

      pub some_buckets : 0 < count
      some_buckets = subst (λ n. 0 < n / 32) (sym long) (omega (arith, facts.some))

      -- one of the buckets is free
      pub some_free : in_use bytes count < count
      some_free =
          let full : 4 * length t.slots ≤ 3 * count = subst (λ n. 4 * length t.slots ≤ 3 * (n / 32)) (sym long) facts.full in
          omega (arith, told.number, full, some_buckets)

      -- what is free for a hash in the bytes is so in the array
      pub free_for : (hash place : ℕ) → IsFreeFor bytes count hash place → (other : ChunkName) → t.array ≡ Some other
          → IsFreeFor (bytes_at tree t.buckets other) (count_of other) hash place
      free_for hash place free other is_other =
          subst (λ (x : ChunkName). IsFreeFor (bytes_at tree t.buckets x) (count_of x) hash place)
          (ap (λ o. unwrap_or o name) (sym array ∙ is_other))
          (subst (λ bs. IsFreeFor bs (count_of name) hash place) read (subst (λ n. IsFreeFor bytes (n / 32) hash place) long free))

      -- the keys of the buckets in use are live
      pub keys_live : (b : Bucket) → Holds bytes count b → IsTrue (has_chunk keys b.key)
      keys_live b held = is.stands.groups.keys_live (slot_of b) (told.only b held).0

      module _ (key : List ℕ) (hash : ℕ) (hashed : hash ≡ hash_of t.hash key) where
        pub found : (b : Bucket) → Holds bytes count b × (chunk_bytes keys b.key ≡ key) → Names t tree (slot_of b) key
        found b (held, same) = ((told.only b held).0, same)

        pub not_found : HasNone keys bytes count hash key → HasNo t tree key
        not_found none slot there same = none (bucket_of hash_of t keys slot) (told.kept slot there) (ap (hash_of t.hash) same ∙ sym hashed)
            same
