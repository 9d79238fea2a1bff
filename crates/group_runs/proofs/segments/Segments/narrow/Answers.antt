use Rattle.std.specs.Prelude.{◌≡◌, ◌+◌, ◌-◌, ℕ, slice_range}
use Rattle.std.proofs.Common.{subst, arith, rules}
use Rattle.group_runs.proofs.Words.{Entry, IsBelow, IsNotBelow, concatenated}
use Rattle.group_runs.specs.Places.{AllBelow}
use Rattle.group_runs.specs.Lemmas.PlaceLaws.{below_to}
use Rattle.group_runs.proofs.PlaceLaws.{not_below_from}
use Rattle.group_runs.proofs.ComeLaws.{starts_rise}
use Rattle.group_runs.proofs.segments.Segments.narrow.Goals as goal

pub loop-first-preserved-then-is_below : goal.loop-first-preserved-then-is_below
loop-first-preserved-then-is_below c =
    let i = c.loop-first.invariant in
    let end : ℕ = c.start-end.result in
    let entry : Entry = (c.last_group.result.0.now, c.last_group.result.1.now) in
    let below : IsBelow c.args.key.now entry = search rules in
    let behind = i.between.behind in
    let low = c.if-end-low.false in
    let high = c.if-end-high.false in
    let same : end - 1 + 1 ≡ end = omega (arith, low) in
    record {
      between = record {
        behind = omega (arith, behind, low);
        order = omega (arith, high);
        within = i.between.within;
        below = subst (λ n. AllBelow c.args.key.now (slice_range (concatenated c.args.self.now) c.args.from n)) same
            (below_to (concatenated c.args.self.now) c.args.from (end - 1) entry c.args.key.now c.len-high.ensures.rises
            (omega (arith, behind, low)) c.last_group.ensures below);
        not_below = i.between.not_below;
      };
      many = i.many;
      begun = omega (arith, c.start-end.ensures);
      ended = i.ended;
    }

pub loop-first-preserved : goal.loop-first-preserved
loop-first-preserved c =
    let i = c.loop-first.invariant in
    let entry : Entry = (c.last_group.result.0.now, c.last_group.result.1.now) in
    let not_below : IsNotBelow c.args.key.now entry = search rules in
    record {
      between = record {
        behind = i.between.behind;
        order = omega (arith, c.if-end-low.false);
        within = omega (arith, c.if-end-high.false, i.between.within);
        below = i.between.below;
        not_below = not_below_from (concatenated c.args.self.now) (c.start-end.result - 1) entry c.args.key.now c.len-high.ensures.rises
            c.last_group.ensures not_below;
      };
      many = omega (arith, i.many, c.loop-first-test.true, c.min.ensures);
      begun = i.begun;
      ended = omega (arith, c.start-end.ensures);
    }

pub returns-clause-ended : goal.returns-clause-ended
returns-clause-ended c =
    let past = c.loop-first-test.false in
    let rise = starts_rise c.args.self.now (c.loop-first.last + 1) (c.loop-first.first + 1) (omega (arith, past)) in
    let ended = c.loop-first.invariant.ended in
    omega (arith, rise, ended)
