-- A key is one of the keys of some records exactly if one of them has it.
use Rattle.std.specs.Prelude.{◌≡◌, refl, true, false, cond, not, ◌||◌, List, [], ◌∷◌}
use Rattle.aggregation_cost.specs.Space.{Key}
use Rattle.aggregation_cost.specs.Passes.{Record, keys_of, same_key, is_one_of, of_key, is_empty}

pub one_of-filled : (key : Key) (records : List Record) → is_one_of (keys_of records) key ≡ not (is_empty (of_key key records))
one_of-filled key [] = refl
one_of-filled key (entry ∷ records) =
    elim (same_key key entry.key) as (λ b. (b || is_one_of (keys_of records) key)
    ≡ not (is_empty (cond b (entry ∷ of_key key records) (of_key key records)))) [ true ↦ refl | false ↦ one_of-filled key records ]
