-- The calls of a query, as it is written. All of this is our own.
use Rattle.std.specs.Prelude.{Bool, List, [], ◌++◌}
use Rattle.std.specs.List.{flat_map}
use Rattle.std.specs.Option.{option_map_or}
use Rattle.query_checks.specs.Forms.{Form, Written}
use Rattle.query_checks.specs.Reads.{calls_in}
use Rattle.query_checks.specs.Sameness.{form_eq, first_of_each}

-- the calls of the items, then those of HAVING
abbrev pub calls_of : {C : Type 0} → Written C → List (Form C)
calls_of q = flat_map (λ item. calls_in item.0) q.items ++ option_map_or calls_in q.having []

-- the distinct calls, by the first of each
abbrev pub distinct_calls : {C : Type 0} → (C → C → Bool) → Written C → List (Form C)
distinct_calls same q = first_of_each (form_eq same) (calls_of q)
