-- What is true of the fields of a `Bump`.
use Rattle.chunk_contexts.specs.Run.{RunState, run_of, IsRun}
use Rattle.chunk_contexts.specs.declared.bump.Bump.TheInside.{Inside}

abbrev pub bump_of : Inside → RunState
bump_of b = run_of b.runs

abbrev pub AreFields : Inside → Type 0
AreFields b = IsRun 0 b.runs
