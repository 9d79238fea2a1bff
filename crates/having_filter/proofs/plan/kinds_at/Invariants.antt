use Rattle.std.specs.Prelude.{◌≡◌, map, take, slice_index_or}
use Rattle.having_filter.proofs.Words.{Bigint_kind, kinds_of}
use Rattle.having_filter.proofs.plan.kinds_at.Given as goal

abbrev pub invariant-loop-place : goal.invariant-loop-place
invariant-loop-place l = kinds_of l.found.items ≡ map (λ at. slice_index_or (kinds_of l.kinds) at Bigint_kind) (take l.place-index l.places)
