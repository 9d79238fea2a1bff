use Rattle.std.specs.Prelude.{◌≡◌, ◌==◌, map, take, string_bytes}
use Rattle.query_checks.specs.Checks.{place}
use Rattle.query_checks.specs.Sameness.{first_of_each}
use Rattle.query_checks.proofs.parts.placed_keys.Given as goal

abbrev pub invariant-loop-name : goal.invariant-loop-name
invariant-loop-name l = l.places.items ≡ first_of_each ◌==◌ (map (λ name. place l.schema (string_bytes name)) (take l.name-index l.names))
