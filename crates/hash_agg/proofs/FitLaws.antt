-- Each group of what is given fits into the table by itself.
use Rattle.std.specs.Prelude.{refl, ℕ, ◌≤◌, true, false, cond, List, [], ◌∷◌, map, length}
use Rattle.std.specs.List.{AllByRecursion}
use Rattle.std.proofs.lemmas.List.Elements.{All-from_recursion}
use Rattle.hash_agg.proofs.Words.{each_append, each_weaker, is_met, Row, HasKinds, Query, Group, column_of, packing, Setting, IsWellFormed}
use Rattle.hash_agg.proofs.Words.{key_kinds, Entry, AreGroups, Brought, Packed, Counted, Given, Of_rows, Of_groups, AllGive, Piece, Of_row}
use Rattle.hash_agg.proofs.Words.{Of_group, piece_key, cost_records, records_of, given_pieces, all_pieces}
use Rattle.grouping_model.specs.Grouping.{key_of}
use Rattle.aggregation_cost.specs.Passes as cost
use Rattle.aggregation_cost.specs.Lemmas.CostLaws.{each_fits}
use Rattle.aggregation_cost.specs.ListLaws.{each_of_flat_map}
use Rattle.hash_agg.specs.Inputs.{Gives}
use Rattle.hash_agg.specs.Lemmas.KeyLaws.{key_has}
use Rattle.hash_agg.proofs.StepLaws.{key_brief}

abbrev HasShort : cost.Record → Type 0
HasShort one = length one.key ≤ 8192

abbrev HasKey : Query → Piece → Type 0
HasKey q p = HasKinds (key_kinds q) (piece_key q p)

short_key : (q : Query) (width : ℕ) → IsWellFormed q → (p : Piece) → HasKey q p → AllByRecursion HasShort (cost_records q width p)
short_key q width formed (Of_row row) has =
    elim (is_met (column_of row) q.condition) as (λ b. AllByRecursion HasShort (cond b (cost.of_row (packing (key_of q row)) (packing row)
    ∷ []) [])) [
      | true ↦ (key_brief q (packing (key_of q row)) (key_of q row) formed refl has, tt)
      | false ↦ tt
    ]
short_key q width formed (Of_group group most) has = (key_brief q (packing group.0) group.0 formed refl has, tt)

rows_have : (q : Query) (rows : List Row) → IsWellFormed q → AllByRecursion (HasKinds q.kinds) rows
    → AllByRecursion (HasKey q) (map Of_row rows)
rows_have q [] formed all = tt
rows_have q (row ∷ rows) formed (first, all) = (key_has q row formed.keys first, rows_have q rows formed all)

groups_have : (q : Query) (m most : ℕ) (run : List Entry) (groups : List Group) → AreGroups q most run groups
    → AllByRecursion (HasKey q) (map (λ group. Of_group group m) groups)
groups_have q m most [] [] are = tt
groups_have q m most [] (group ∷ groups) are = absurd are
groups_have q m most (entry ∷ run) [] are = absurd are
groups_have q m most (entry ∷ run) (group ∷ groups) (first, are) = (first.of_kinds, groups_have q m most run groups are)

given_have : (q : Query) (input : Brought) (given : Given) → IsWellFormed q → Gives q input given
    → AllByRecursion (HasKey q) (given_pieces input given)
given_have q (Packed packed) (Of_rows rows) formed give = rows_have q rows formed give.of_kinds
given_have q (Counted run most) (Of_groups groups) formed give = groups_have q most most run groups give
given_have q (Packed packed) (Of_groups groups) formed give = absurd give
given_have q (Counted run most) (Of_rows rows) formed give = absurd give

all_have : (q : Query) (inputs : List Brought) (givens : List Given) → IsWellFormed q → AllGive q inputs givens
    → AllByRecursion (HasKey q) (all_pieces inputs givens)
all_have q [] [] formed give = tt
all_have q [] (given ∷ givens) formed give = absurd give
all_have q (input ∷ inputs) [] formed give = absurd give
all_have q (input ∷ inputs) (given ∷ givens) formed (first, give) =
    each_append (HasKey q) (given_pieces input given) (all_pieces inputs givens) (given_have q input given formed first)
    (all_have q inputs givens formed give)

pub all_fit : (q : Query) (s : Setting) (inputs : List Brought) (givens : List Given) → IsWellFormed q → 32768 ≤ s.limit → s.width ≤ 8184
    → AllGive q inputs givens → cost.EachFits s (records_of q s.width (all_pieces inputs givens))
all_fit q s inputs givens formed limit narrow give =
    let pieces : List Piece = all_pieces inputs givens in
    each_fits s (records_of q s.width pieces) limit narrow
    (All-from_recursion HasShort (records_of q s.width pieces)
    (each_of_flat_map (cost_records q s.width) HasShort pieces
    (each_weaker (HasKey q) (λ p. AllByRecursion HasShort (cost_records q s.width p)) (short_key q s.width formed) pieces
    (all_have q inputs givens formed give))))
