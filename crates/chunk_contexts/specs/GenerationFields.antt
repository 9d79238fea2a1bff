-- What is true of the fields of a `Generation`.
use Rattle.chunk_contexts.specs.Run.{RunState, run_of}
use Rattle.chunk_contexts.specs.Generation.{IsCounted}
use Rattle.chunk_contexts.specs.declared.generation.Generation.TheInside.{Inside}

abbrev pub generation_of : Inside → RunState
generation_of g = run_of g.runs

abbrev pub AreFields : Inside → Type 0
AreFields g = IsCounted g.runs g.counts.items
