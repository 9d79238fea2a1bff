use Rattle.std.proofs.Common.{ap, ◌∙◌, ◌-◌}
use Rattle.std.specs.Ordering.{nat_cmp}
use Rattle.std.specs.Cmp.Lexicographic.{slice_cmp}
use Rattle.group_runs.specs.Runs.{packed_keys}
use Rattle.summary_codec.proofs.GroupLaws.{last_key}
use Rattle.summary_codec.specs.Lemmas.RisingLaws.{is_next, next_is}
use Rattle.summary_codec.proofs.reading.is_key_above.Goals as goal

pub returns-in-Some-clause-above : goal.returns-in-Some-clause-above
returns-in-Some-clause-above c =
    let last = c.group.result.0.now in
    let there = last_key c.args.run.now c.in-Some.last last c.group.result.1.now (c.in-Some.ensures.1
    ∙ ap (λ n. n - 1) c.len.ensures.length) c.group.ensures in (
      (λ below. is_next (slice_cmp nat_cmp) (packed_keys c.args.run.now) last c.args.key.now there (c.is_below.ensures.0 below)),
      (λ above. c.is_below.ensures.1 (next_is (slice_cmp nat_cmp) (packed_keys c.args.run.now) last c.args.key.now there above)),
    )
