-- A table stands, whatever else its contexts hold.
use Rattle.std.specs.Prelude.{◌≡◌, refl, ℕ, ◌/◌, List, ◌∷◌, Option, Some, None}
use Rattle.std.proofs.Common.{sym, ◌∙◌, ap, subst, arith}
use Rattle.group_table.proofs.Words.{ChunkContents, ChunkName, bytes_of, Keeps, SetState, chunk_bytes, with_chunk, Context, AllocSet, Slab}
use Rattle.group_table.proofs.Words.{Bump, Holds, TableState, IsSlot, IsSetWith, IsBump, IsSlabOf, IsFirst, HasArray, IsArrayIn, IsArrayOf}
use Rattle.group_table.proofs.Words.{slot_of, Slot}
use Rattle.chunk_contexts.specs.Chunks.{chunk_of}
use Rattle.std.proofs.lemmas.Bool.Decides.{nat_tests}
use Rattle.std.proofs.lemmas.Grind.{common_steps}

-- the state of a context of a kind
pub record StateOf {S : Type 0} (kind : S → Context) (P : S → Type 0) (c : Context) : Type 0 where
  pub state : S
  pub is : c ≡ kind state
  pub with : P state

abbrev pub SetOf : (SetState → Type 0) → Context → Type 0
SetOf P c = StateOf AllocSet P c

pub set_of : (P : SetState → Type 0) (c : Context) → IsSetWith P c → SetOf P c
set_of P (AllocSet s) with = record { state = s; is = refl; with = with }
set_of P _ none = absurd none

pub set_with : (P : SetState → Type 0) (c : Context) (s : SetState) → c ≡ AllocSet s → P s → IsSetWith P c
set_with P c s is with = subst (IsSetWith P) (sym is) with

-- a bump and a slab with one more chunk
pub bump_with : (c : Context) (n : ℕ) (p : ChunkContents) → IsBump c → IsBump (with_chunk c n p)
bump_with (Bump s) n p is = is
bump_with _ n p none = absurd none

pub slab_with : (width : ℕ) (c : Context) (n : ℕ) (p : ChunkContents) → IsSlabOf width c → IsSlabOf width (with_chunk c n p)
slab_with width (Slab s) n p is = is
slab_with width _ n p none = absurd none

module _ {H : Type 0} (hash_of : H → List ℕ → ℕ) (t : TableState H) where
  -- an array by keys that are the same
  pub array_by : (keys others : Context) (bytes : List ℕ) (count : ℕ) → ((slot : Slot) → IsSlot t slot → chunk_bytes others slot.key
      ≡ chunk_bytes keys slot.key) → IsArrayOf hash_of t keys bytes count → IsArrayOf hash_of t others bytes count
  array_by keys others bytes count same is = record {
    index = is.index;
    number = is.number;
    kept = λ slot there. subst (λ (k : List ℕ). Holds bytes count (record { key = slot.key; state = slot.state; hash = hash_of t.hash k }))
        (sym (same slot there)) (is.kept slot there);
    only = λ b held. let was = is.only b held in (was.0, was.1 ∙ ap (hash_of t.hash) (sym (same (slot_of b) was.0)));
  }

  pub has_array_by : (keys others : Context) (array : Option ChunkName) (s : SetState)
      → ((slot : Slot) → IsSlot t slot → chunk_bytes others slot.key ≡ chunk_bytes keys slot.key) → HasArray hash_of t keys array s
      → HasArray hash_of t others array s
  has_array_by keys others None s same is = is
  has_array_by keys others (Some name) s same is = record {
    lives = is.lives;
    whole = is.whole;
    some = is.some;
    most = is.most;
    full = is.full;
    first = is.first;
    beside = is.beside;
    array = array_by keys others (bytes_of s.chunks name) (name.len / 32) same is.array;
  }

  pub set_by : (keys others c : Context) → ((slot : Slot) → IsSlot t slot → chunk_bytes others slot.key ≡ chunk_bytes keys slot.key)
      → IsSetWith (λ s. IsFirst s × HasArray hash_of t keys t.array s) c → IsSetWith (λ s. IsFirst s × HasArray hash_of t others t.array s)
      c
  set_by keys others (AllocSet s) same (first, is) = (first, has_array_by keys others t.array s same is)
  set_by keys others _ same none = absurd none

  -- an array beside another chunk that is taken
  pub array_beside : (keys : Context) (s after : SetState) (name old : ChunkName) (room : ℕ) (bytes : List ℕ) → after.chunks
      ≡ chunk_of name room bytes ∷ s.chunks → after.first ≡ s.first
      → Keeps s.chunks after.chunks name → IsArrayIn hash_of t keys s old → IsArrayIn hash_of t keys after old
  array_beside keys s after name old room bytes chunks first keeps is = grind (arith, nat_tests, common_steps)
