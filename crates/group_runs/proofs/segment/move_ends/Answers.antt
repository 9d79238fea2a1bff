use Rattle.std.specs.Prelude.{◌≡◌, ◌+◌, ◌++◌, ◌∷◌, [], drop}
use Rattle.std.proofs.Common.{sym, ◌∙◌, ap, arith, get_or}
use Rattle.std.proofs.lemmas.List.{length-set, take_more_set, map_more, drop-set-lt, drop_more}
use Rattle.group_runs.specs.Runs.{moved}
use Rattle.group_runs.proofs.segment.move_ends.Goals as goal

pub loop-place-preserved : goal.loop-place-preserved
loop-place-preserved c =
    let ends = c.loop-place.ends in let begun = c.args.ends.now in let i = c.loop-place.place in
    let move = moved c.args.start c.args.behind in
    let many = c.loop-place.invariant.many in
    let low = c.loop-place-test.true in
    let end = move (get_or ends i (0, 0)) in
    let one = drop_more ends i (0, 0) (omega (arith, many, low)) in
    let other = drop_more begun i (0, 0) (omega (arith, many, low)) in
    let left = sym one ∙ c.loop-place.invariant.left ∙ other in
    let here : get_or ends i (0, 0) ≡ get_or begun i (0, 0) = cc in
    let rest : drop (i + 1) ends ≡ drop (i + 1) begun = ap (drop 1) left in
    record {
      many = length-set ends i end ∙ many;
      done = take_more_set ends i end (omega (arith, many, low))
          ∙ (λ j. c.loop-place.invariant.done j ++ move (here j) ∷ [])
          ∙ sym (map_more move begun i (0, 0) (omega (arith, many, low)));
      left = drop-set-lt (i + 1) ends i end (omega arith) ∙ rest;
    }
