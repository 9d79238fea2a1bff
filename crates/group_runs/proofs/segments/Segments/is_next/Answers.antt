use Rattle.std.proofs.Common.{sym, subst, arith, rules}
use Rattle.group_runs.proofs.Words.{concatenated, Entry, IsNotBelow}
use Rattle.group_runs.specs.Places.{AllBelow}
use Rattle.group_runs.proofs.PlaceLaws.{range_none, not_below_from}
use Rattle.group_runs.proofs.segments.Segments.is_next.Goals as goal

pub returns-then-from-len : goal.returns-then-from-len
returns-then-from-len c =
    λ so.
    let run = concatenated c.args.self.now in
    let entry : Entry = (c.group.result.0.now, c.group.result.1.now) in
    let not_below : IsNotBelow c.args.key.now entry = search rules in
    record {
      behind = omega arith;
      within = c.requires;
      below = subst (AllBelow c.args.key.now) (sym (range_none run c.args.from)) tt;
      not_below = not_below_from run c.args.from entry c.args.key.now c.len.ensures.rises c.group.ensures not_below;
    }
