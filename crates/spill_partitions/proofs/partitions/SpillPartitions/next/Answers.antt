use Rattle.std.proofs.Common.{◌≡◌, ◌∷◌, [], false, refl, arith, ap, sym, subst, ◌∙◌}
use Rattle.spill_partitions.proofs.Words.{OnTape, fields_of, one_or_none, PartitionsState, HasPartitions, KeepsOwn, written_pages}
use Rattle.spill_partitions.proofs.StandingLaws.{state, partitions_ended, has_ended, partitions_read, has_read, partitions_same, tape_ahead}
use Rattle.spill_partitions.proofs.PageLaws.{paged_beside}
use Rattle.spill_partitions.proofs.CloseLaws.{own_ended, own_moved, times_read}
use Rattle.std.proofs.lemmas.Grind.{common_steps}
use Rattle.spill_partitions.proofs.partitions.SpillPartitions.next.Goals as goal

pub invariant_of-self : goal.invariant_of-self
invariant_of-self g c =
    let alive : c.self.inside.tapes.is_dead ≡ false = ap (λ (s : PartitionsState). s.tapes.is_dead) c.self.view_is ∙ c.requires.alive in
    partitions_ended (g.D.TapeDisk.last c.args.disk.now) (g.D.TapeDisk.last c.args.disk.now) c.self.inside.tapes c.close.new.self
    c.self.inside.level c.self.inside.partitions.items (one_or_none c.self.inside.reading) c.self.inside.pending.items c.in-Some.partition
    (ap one_or_none c.in-Some.is) c.close.ensures.others (λ _. alive) c.self.invariant

pub returns-in_default-checked_sub-clause-reads : goal.returns-in_default-checked_sub-clause-reads
returns-in_default-checked_sub-clause-reads g c =
    let view = c.self.view_is in
    record {
      gives = λ honest spilled ahead pending had.
          has_ended (g.D.TapeDisk.last c.args.disk.now) (g.D.TapeDisk.last c.args.disk.now) c.self.inside.tapes c.close.new.self
          c.self.inside.level c.self.inside.partitions.items (one_or_none c.self.inside.reading) c.self.inside.pending.items spilled ahead
          pending c.in-Some.partition (ap one_or_none c.in-Some.is) (omega (arith, c.in_default-checked_sub.ensures)) c.close.ensures.others
          c.self.invariant.apart
          (subst (λ (s : PartitionsState). HasPartitions (g.D.TapeDisk.last c.args.disk.now) s spilled ahead pending) (sym view) had);
      undamaged = tt;
      counted = tt;
      ended = grind (arith, common_steps);
      framed = tt;
      none = grind (arith, common_steps);
      nothing = tt;
      alive = grind (arith, common_steps);
    }

pub returns-in_default-checked_sub-clause-owns : goal.returns-in_default-checked_sub-clause-owns
returns-in_default-checked_sub-clause-owns g c =
    let alive : c.self.inside.tapes.is_dead ≡ false = ap (λ (s : PartitionsState). s.tapes.is_dead) c.self.view_is ∙ c.requires.alive in
    subst (λ (s : PartitionsState). KeepsOwn s (state c.close.new.self c.self.inside.level c.self.inside.partitions.items []
    c.self.inside.pending.items)) c.self.view_is
    (own_ended (g.D.TapeDisk.last c.args.disk.now) (g.D.TapeDisk.last c.args.disk.now) c.self.inside.tapes c.close.new.self
    c.self.inside.level c.self.inside.partitions.items (one_or_none c.self.inside.reading) c.self.inside.pending.items c.in-Some.partition
    (ap one_or_none c.in-Some.is) c.close.ensures.others c.close.ensures.closed (λ _. alive))

pub returns-in_default-checked_sub-clause-paged : goal.returns-in_default-checked_sub-clause-paged
returns-in_default-checked_sub-clause-paged g c =
    let view = c.self.view_is in
    paged_beside (g.D.TapeDisk.last c.args.disk.now) (g.D.TapeDisk.last c.args.disk.now) c.self.inside.tapes c.close.new.self
    c.self.inside.partitions.items (one_or_none c.self.inside.reading) c.self.inside.pending.items c.in-Some.partition
    (ap one_or_none c.in-Some.is) c.self.invariant.apart c.close.ensures.others ∙ ap written_pages view

pub invariant_of-self-in-Ok-Some : goal.invariant_of-self-in-Ok-Some
invariant_of-self-in-Ok-Some g c =
    let alive : c.self.inside.tapes.is_dead ≡ false = ap (λ (s : PartitionsState). s.tapes.is_dead) c.self.view_is ∙ c.requires.alive in
    let y : OnTape = record { tape = c.in-Some.partition.tape; records = c.in-Some-checked_sub.records; level = c.in-Some.partition.level }
    in
    partitions_read c.self.inside.tapes c.next.new.self c.self.inside.level c.self.inside.partitions.items
    (one_or_none c.self.inside.reading)
    c.self.inside.pending.items c.in-Some.partition y (ap one_or_none c.in-Some.is) refl c.next.ensures.phases (λ _. alive) c.self.invariant

pub invariant_of-self-in-Ok-None : goal.invariant_of-self-in-Ok-None
invariant_of-self-in-Ok-None g c =
    let alive : c.self.inside.tapes.is_dead ≡ false = ap (λ (s : PartitionsState). s.tapes.is_dead) c.self.view_is ∙ c.requires.alive in
    partitions_same c.self.inside.tapes c.next.new.self c.self.inside.level c.self.inside.partitions.items
    (one_or_none c.self.inside.reading)
    c.self.inside.pending.items c.next.ensures.phases (λ _. alive) c.self.invariant

pub returns-in-Ok-Some-clause-reads : goal.returns-in-Ok-Some-clause-reads
returns-in-Ok-Some-clause-reads g c =
    let view = c.self.view_is in let told = c.next.ensures in
    let y : OnTape = record { tape = c.in-Some.partition.tape; records = c.in-Some-checked_sub.records; level = c.in-Some.partition.level }
    in
    let ensured = rw c.in-Ok-Some.field-0-is at c.in-Ok-Some.ensures in
    record {
      gives = λ honest spilled ahead pending had.
          let here : HasPartitions (g.D.TapeDisk.last c.args.disk.now) (fields_of c.self.inside) spilled ahead pending =
          subst (λ (s : PartitionsState). HasPartitions (g.D.TapeDisk.last c.args.disk.now) s spilled ahead pending) (sym view) had in
          has_read (g.D.TapeDisk.last c.args.disk.now) (g.D.TapeDisk.last c.next.new.disk) c.self.inside.tapes c.next.new.self
          c.self.inside.level
          c.self.inside.partitions.items (one_or_none c.self.inside.reading) c.self.inside.pending.items spilled ahead pending
          c.in-Some.partition
          y c.next.new.bytes.items c.in-Ok-Some.found (ap one_or_none c.in-Some.is) refl (omega (arith, c.in-Some-checked_sub.ensures))
          told.others c.self.invariant.apart here
          (ensured.reads.gives honest ahead (tape_ahead (g.D.TapeDisk.last c.args.disk.now) c.self.inside.tapes c.self.inside.level
          c.self.inside.partitions.items (one_or_none c.self.inside.reading) c.self.inside.pending.items spilled ahead pending
          c.in-Some.partition
          (ap one_or_none c.in-Some.is) here).0);
      undamaged = tt;
      counted = grind (arith, common_steps);
      ended = tt;
      framed = ensured.reads.framed;
      none = tt;
      nothing = tt;
      alive = c.in-Ok-Some.ensures.dies.alive;
    }

pub returns-in-Ok-Some-clause-owns : goal.returns-in-Ok-Some-clause-owns
returns-in-Ok-Some-clause-owns g c =
    let alive : c.self.inside.tapes.is_dead ≡ false = ap (λ (s : PartitionsState). s.tapes.is_dead) c.self.view_is ∙ c.requires.alive in
    let y : OnTape = record { tape = c.in-Some.partition.tape; records = c.in-Some-checked_sub.records; level = c.in-Some.partition.level }
    in
    subst (λ (s : PartitionsState). KeepsOwn s (state c.next.new.self c.self.inside.level c.self.inside.partitions.items (y ∷ [])
    c.self.inside.pending.items)) c.self.view_is
    (own_moved (fields_of c.self.inside) (state c.next.new.self c.self.inside.level c.self.inside.partitions.items (y ∷ [])
    c.self.inside.pending.items) c.next.ensures.phases
    (λ index. times_read index c.self.inside.partitions.items (one_or_none c.self.inside.reading) c.self.inside.pending.items
    c.in-Some.partition y (ap one_or_none c.in-Some.is) refl) (λ _. alive))

pub returns-in-Ok-Some-clause-paged : goal.returns-in-Ok-Some-clause-paged
returns-in-Ok-Some-clause-paged g c =
    let view = c.self.view_is in
    paged_beside (g.D.TapeDisk.last c.args.disk.now) (g.D.TapeDisk.last c.next.new.disk) c.self.inside.tapes c.next.new.self
    c.self.inside.partitions.items (one_or_none c.self.inside.reading) c.self.inside.pending.items c.in-Some.partition
    (ap one_or_none c.in-Some.is) c.self.invariant.apart c.next.ensures.others ∙ ap written_pages view

pub returns-in-Ok-None-clause-paged : goal.returns-in-Ok-None-clause-paged
returns-in-Ok-None-clause-paged g c =
    let view = c.self.view_is in
    paged_beside (g.D.TapeDisk.last c.args.disk.now) (g.D.TapeDisk.last c.next.new.disk) c.self.inside.tapes c.next.new.self
    c.self.inside.partitions.items (one_or_none c.self.inside.reading) c.self.inside.pending.items c.in-Some.partition
    (ap one_or_none c.in-Some.is) c.self.invariant.apart c.next.ensures.others ∙ ap written_pages view

pub returns-in-Err-clause-paged : goal.returns-in-Err-clause-paged
returns-in-Err-clause-paged g c =
    let view = c.self.view_is in
    paged_beside (g.D.TapeDisk.last c.args.disk.now) (g.D.TapeDisk.last c.next.new.disk) c.self.inside.tapes c.next.new.self
    c.self.inside.partitions.items (one_or_none c.self.inside.reading) c.self.inside.pending.items c.in-Some.partition
    (ap one_or_none c.in-Some.is) c.self.invariant.apart c.next.ensures.others ∙ ap written_pages view

pub returns-in-Ok-None-clause-owns : goal.returns-in-Ok-None-clause-owns
returns-in-Ok-None-clause-owns g c =
    let alive : c.self.inside.tapes.is_dead ≡ false = ap (λ (s : PartitionsState). s.tapes.is_dead) c.self.view_is ∙ c.requires.alive in
    let x = c.self.inside in
    subst (λ (s : PartitionsState). KeepsOwn s (state c.next.new.self x.level x.partitions.items (one_or_none x.reading) x.pending.items))
    c.self.view_is
    (own_moved (fields_of x) (state c.next.new.self x.level x.partitions.items (one_or_none x.reading) x.pending.items)
    c.next.ensures.phases (λ index. refl) (λ _. alive))
