use Rattle.std.specs.Prelude.{◌≡◌, map, take}
use Rattle.hash_agg.proofs.Words.{at_place, packing, row_of}
use Rattle.hash_agg.proofs.plan.pack_key_of.Given as goal

abbrev pub invariant-loop-place : goal.invariant-loop-place
invariant-loop-place l = l.key.items ≡ packing (map (at_place (row_of l.row)) (take l.place-index l.place-items))
