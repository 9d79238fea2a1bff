use Rattle.std.specs.Prelude.{◌≡◌, ◌+◌, ℕ, drop}
use Rattle.std.proofs.Common.{subst, arith, rules}
use Rattle.std.specs.List.{AllByRecursion}
use Rattle.group_runs.proofs.Words.{Entry, IsBelow, IsNotBelow}
use Rattle.group_runs.specs.Lemmas.PlaceLaws.{below_to}
use Rattle.group_runs.proofs.PlaceLaws.{not_below_from}
use Rattle.group_runs.proofs.segment.Segment.seek.Goals as goal

pub loop-low-preserved-then-is_below : goal.loop-low-preserved-then-is_below
loop-low-preserved-then-is_below c =
    let i = c.loop-low.invariant in
    let low : ℕ = c.loop-low.low in
    let middle : ℕ = low + c.min.result in
    let behind = i.behind in
    let apart = c.loop-low-test.true in
    let step = c.min.ensures in
    let entry : Entry = (c.group.result.0.now, c.group.result.1.now) in
    let below : IsBelow c.args.key.now entry = search rules in
    record {
      behind = omega (arith, behind);
      order = omega (arith, apart, step);
      within = i.within;
      below = below_to c.args.self.now c.args.from middle entry c.args.key.now c.len-high.ensures.rises (omega (arith, behind))
          c.group.ensures below;
      not_below = i.not_below;
    }

pub loop-low-preserved : goal.loop-low-preserved
loop-low-preserved c =
    let i = c.loop-low.invariant in
    let low : ℕ = c.loop-low.low in
    let middle : ℕ = low + c.min.result in
    let apart = c.loop-low-test.true in
    let step = c.min.ensures in
    let within = i.within in
    let entry : Entry = (c.group.result.0.now, c.group.result.1.now) in
    let not_below : IsNotBelow c.args.key.now entry = search rules in
    record {
      behind = i.behind;
      order = omega arith;
      within = omega (arith, apart, within, step);
      below = i.below;
      not_below = not_below_from c.args.self.now middle entry c.args.key.now c.len-high.ensures.rises c.group.ensures not_below;
    }

pub returns-clause-place : goal.returns-clause-place
returns-clause-place c =
    let i = c.loop-low.invariant in
    let order = i.order in
    let within = i.within in
    let past = c.loop-low-test.false in
    let same : c.loop-low.high ≡ c.loop-low.low = omega (arith, order, past) in
    record {
      behind = i.behind;
      within = omega (arith, order, within);
      below = i.below;
      not_below = subst (λ n. AllByRecursion (IsNotBelow c.args.key.now) (drop n c.args.self.now)) same i.not_below;
    }
