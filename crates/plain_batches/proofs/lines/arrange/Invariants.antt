use Rattle.std.proofs.Common.{◌≡◌, [], take}
use Rattle.csv.specs.Records.{fields_of, partial_of}
use Rattle.plain_batches.specs.Columns.{arranged}
use Rattle.plain_batches.proofs.lines.arrange.Given as goal

abbrev pub invariant-loop-place : goal.invariant-loop-place
invariant-loop-place l = (fields_of l.line ≡ arranged l.null (take l.place-index l.places) (fields_of l.plain)) × (partial_of l.line ≡ [])
