use Rattle.std.proofs.Common.{◌≡◌, false, ap, sym, subst, ◌∙◌}
use Rattle.spill_partitions.proofs.Words.{TapesState, one_or_none, PartitionsState, ArePartitions}
use Rattle.spill_partitions.proofs.StandingLaws.{state, partitions_beside, fresh_beside}
use Rattle.spill_partitions.proofs.partitions.SpillPartitions.open_partition.Goals.{in-Ok, in-Err}
use Rattle.spill_partitions.proofs.partitions.SpillPartitions.open_partition.Goals as goal

pub invariant_of-self : goal.invariant_of-self
invariant_of-self g c =
    let alive : c.self.inside.tapes.is_dead ≡ false = ap (λ (s : PartitionsState). s.tapes.is_dead) c.self.view_is ∙ c.requires.alive in
    elim c.match-open.branch [
      | in-Ok w ↦ partitions_beside (g.D.TapeDisk.last c.args.disk.now) (g.D.TapeDisk.last c.args.disk.now) c.self.inside.tapes
          c.open.new.self
          c.self.inside.level c.self.inside.partitions.items (one_or_none c.self.inside.reading) c.self.inside.pending.items w.in-Ok.tape
          w.in-Ok.ensures.opened.others (fresh_beside c.self.inside.tapes c.self.inside.level c.self.inside.partitions.items
          (one_or_none c.self.inside.reading) c.self.inside.pending.items w.in-Ok.tape alive w.in-Ok.ensures.opened.fresh c.self.invariant)
          (λ _. alive) c.self.invariant
      | in-Err w ↦ subst (λ (t : TapesState). ArePartitions (state t c.self.inside.level c.self.inside.partitions.items
          (one_or_none c.self.inside.reading) c.self.inside.pending.items)) (sym w.in-Err.ensures.unchanged) c.self.invariant
    ]
