-- What a table has for a key. (Our own.)
use Rattle.std.specs.Prelude.{◌≡◌, ℕ, List, Some}
use Rattle.chunk_layout.specs.declared.place.ChunkName.{ChunkName}
use Rattle.context_tree.specs.Tree.{TreeState}
use Rattle.group_table.specs.Arrays.{bytes_at, count_of}
use Rattle.group_table.specs.Index.{IsFreeFor}
use Rattle.group_table.specs.Table.{TableState, Names, HasNo}
use Rattle.group_table.specs.declared.table.Lookup.{Lookup}
use Rattle.group_table.specs.declared.table.Lookup.TheVariants.{Found, Vacant}
use Rattle.group_table.specs.declared.table.Vacancy.{Vacancy}

-- where a table has an array, a vacancy names a free bucket of it, to which the search for its hash comes first
abbrev pub IsMet : {H : Type 0} → TableState H → TreeState → Vacancy → Type 0
IsMet t tree v = (name : ChunkName) → t.array ≡ Some name → IsFreeFor (bytes_at tree t.buckets name) (count_of name) v.hash v.place

-- and the hash is that of this key
pub record IsVacancy {H : Type 0} (hash_of : H → List ℕ → ℕ) (t : TableState H) (tree : TreeState) (key : List ℕ) (v : Vacancy) :
    Type 0 where
  pub hash : v.hash ≡ hash_of t.hash key
  pub met : IsMet t tree v

-- the slot of the group of a key, or, where no group has it, a vacancy for it
abbrev pub LooksUp : {H : Type 0} → (H → List ℕ → ℕ) → TableState H → TreeState → List ℕ → Lookup → Type 0
LooksUp hash_of t tree key (Found slot) = Names t tree slot key
LooksUp hash_of t tree key (Vacant v) = HasNo t tree key × IsVacancy hash_of t tree key v
