-- What is true of the fields of a `Slab`.
use Rattle.std.specs.Prelude.{◌≡◌, length}
use Rattle.chunk_layout.specs.Every.{Every}
use Rattle.chunk_contexts.specs.Chunks.{live}
use Rattle.chunk_contexts.specs.Slab.{SlabState, slab_of, AreChunks}
use Rattle.chunk_contexts.specs.declared.slab.Slab.TheInside.{Inside}

abbrev pub slab_state : Inside → SlabState
slab_state s = slab_of s.inner

-- each live chunk has the bytes that were asked for
pub record AreFields (s : Inside) : Type 0 where
  pub chunks : AreChunks s.inner
  pub sizes : Every (λ p. length p.bytes ≡ s.inner.size) (live s.inner.layout.contents)
