use Rattle.std.proofs.Common.{◌∷◌, [], refl, arith, ap, sym, subst, ◌∙◌}
use Rattle.spill_partitions.proofs.Words.{fields_of, one_or_none, PartitionsState, HasPartitions, HaveRecords, KeepsOwn}
use Rattle.spill_partitions.proofs.CloseLaws.{own_moved, times_begun}
use Rattle.spill_partitions.proofs.StandingLaws.{state, partitions_begun, has_begun}
use Rattle.spill_partitions.proofs.EndLaws.{filled_front}
use Rattle.spill_partitions.proofs.partitions.SpillPartitions.begin_pass.Goals as goal

pub invariant_of-self : goal.invariant_of-self
invariant_of-self g c =
    partitions_begun c.self.inside.tapes c.self.inside.level _ c.self.inside.partitions.items (one_or_none c.self.inside.reading)
    c.pop.new.self.items c.self.inside.pending.items c.in-Some.partition
    (ap (λ (s : PartitionsState). s.reading) c.self.view_is ∙ c.requires.reading) c.in-Some.ensures.items c.self.invariant

pub returns-in-Some-clause-begins : goal.returns-in-Some-clause-begins
returns-in-Some-clause-begins g c =
    let view = c.self.view_is in let x = c.self.inside in let partition = c.in-Some.partition in let last = g.D.TapeDisk.last
    c.args._disk.now in
    let items = c.in-Some.ensures.items in
    λ begins pending had.
    has_begun last x.tapes x.level partition.level x.partitions.items (one_or_none x.reading) c.pop.new.self.items x.pending.items pending
    partition
    (ap (λ (s : PartitionsState). s.partitions) view ∙ c.requires.partitions) refl items
    (subst (λ (s : PartitionsState). HasPartitions last s [] [] pending) (sym view) had)

pub returns-in-Some-clause-some : goal.returns-in-Some-clause-some
returns-in-Some-clause-some g c =
    let view = c.self.view_is in let x = c.self.inside in let partition = c.in-Some.partition in let last = g.D.TapeDisk.last
    c.args._disk.now in
    let items = c.in-Some.ensures.items in
    λ begins. omega (arith, (filled_front c.pop.new.self.items partition (subst HaveRecords items c.self.invariant.filled)).1)

pub returns-in-Some-clause-owns : goal.returns-in-Some-clause-owns
returns-in-Some-clause-owns g c =
    let x = c.self.inside in
    subst (λ (s : PartitionsState). KeepsOwn s (state x.tapes c.in-Some.partition.level x.partitions.items (c.in-Some.partition ∷ [])
    c.pop.new.self.items)) c.self.view_is
    (own_moved (fields_of x) (state x.tapes c.in-Some.partition.level x.partitions.items (c.in-Some.partition ∷ []) c.pop.new.self.items)
    (λ id. refl) (λ index. times_begun index x.partitions.items (one_or_none x.reading) c.pop.new.self.items x.pending.items
    c.in-Some.partition (ap (λ (s : PartitionsState). s.reading) c.self.view_is ∙ c.requires.reading) c.in-Some.ensures.items)
    (λ lives. lives))
