use Rattle.std.specs.Prelude.{◌≡◌, ◌+◌, ◌<◌, ◌≤◌, ℕ, List, map, take, length, slice_index_or}
use Rattle.std.proofs.Common.{ap, arith, subst, sym, ◌∙◌}
use Rattle.std.proofs.lemmas.List.{get_or-map, length-map, take-map}
use Rattle.std.proofs.lemmas.List.Sums.{sum_by_more, sum_by-take-le}
use Rattle.hash_agg.proofs.Words.{Brought, brought, rows_in, all_rows, Input}
use Rattle.hash_agg.proofs.aggregation.rows_of_all.Goals as goal

-- the rows of one more input
one_more : (inputs : List Input) (i : ℕ) (input : Input) → i < length inputs → input ≡ slice_index_or inputs i input
    → all_rows (map brought (take i inputs)) + rows_in (brought input) ≡ all_rows (map brought (take (i + 1) inputs))
one_more inputs i input low is =
    let all : List Brought = map brought inputs in
    let within : i < length all = omega (arith, low, length-map inputs brought) in
    let here : slice_index_or all i (brought input) ≡ brought input = get_or-map brought inputs i input (brought input) low
    ∙ ap brought (sym is) in
    let more = sum_by_more rows_in all i (brought input) within in
    ap (λ bs. all_rows bs + rows_in (brought input)) (sym (take-map brought i inputs))
    ∙ ap (λ b. all_rows (take i all) + rows_in b) (sym here)
    ∙ sym more
    ∙ ap all_rows (take-map brought (i + 1) inputs)

-- they are no more than those of all
some_rows : (inputs : List Input) (n : ℕ) → all_rows (map brought (take n inputs)) ≤ all_rows (map brought inputs)
some_rows inputs n = subst (λ bs. all_rows bs ≤ all_rows (map brought inputs)) (take-map brought n inputs)
    (sum_by-take-le rows_in (map brought inputs) n)

pub overflow_add-rows : goal.overflow_add-rows
overflow_add-rows c =
    let more = one_more c.args.inputs.now c.loop-input.input-index c.input-item.result c.loop-input-test.true c.input-item.is in
    let some = some_rows c.args.inputs.now (c.loop-input.input-index + 1) in
    let few = c.requires in
    let before = c.loop-input.invariant in
    let one = c.rows-rows.ensures in
    omega (arith, more, some, few, before, one)

pub loop-input-preserved : goal.loop-input-preserved
loop-input-preserved c =
    (λ j. c.loop-input.invariant j + c.rows-rows.ensures j) ∙ one_more c.args.inputs.now c.loop-input.input-index c.input-item.result
    c.loop-input-test.true c.input-item.is
