use Rattle.std.proofs.Common.{List, ◌≡◌, ◌++◌, ◌∷◌, [], false, arith, ap, sym, subst, ◌∙◌}
use Rattle.spill_partitions.proofs.Words.{fields_of, one_or_none, PartitionsState, ArePartitions, times, TapeId, OnTape}
use Rattle.spill_partitions.specs.declared.partitions.SpillPartitions.TheInside.{Inside}
use Rattle.spill_partitions.proofs.StandingLaws.{state, partitions_beside, partitions_pushed}
use Rattle.spill_partitions.proofs.partitions.SpillPartitions.leave.Goals as goal

beside : (inside : Inside) (s : PartitionsState) (id : TapeId) → fields_of inside ≡ s → s.partitions ≡ []
    → times id.index (s.reading ++ s.pending) ≡ 0
    → times id.index (inside.partitions.items ++ (one_or_none inside.reading ++ inside.pending.items)) ≡ 0
beside inside s id is none apart =
    subst (λ (x : PartitionsState). times id.index (x.partitions ++ (x.reading ++ x.pending)) ≡ 0) (sym is)
    (ap (λ xs. times id.index (xs ++ (s.reading ++ s.pending))) none ∙ apart)

pub invariant_of-self : goal.invariant_of-self
invariant_of-self g c =
    let alive : c.self.inside.tapes.is_dead ≡ false = ap (λ (s : PartitionsState). s.tapes.is_dead) c.self.view_is ∙ c.requires.alive in
    let none : times c.args.partition.tape.index (c.self.inside.partitions.items
    ++ (one_or_none c.self.inside.reading ++ c.self.inside.pending.items))
    ≡ 0 = beside c.self.inside c.args.self.now c.args.partition.tape c.self.view_is c.requires.partitions c.requires.apart in
    partitions_beside (g.D.TapeDisk.last c.args.disk.now) (g.D.TapeDisk.last c.args.disk.now) c.self.inside.tapes c.close.new.self
    c.self.inside.level c.self.inside.partitions.items (one_or_none c.self.inside.reading) c.self.inside.pending.items c.args.partition.tape
    c.close.ensures.others none (λ _. alive) c.self.invariant

pub invariant_of-self-in_err-push-in-Ok : goal.invariant_of-self-in_err-push-in-Ok
invariant_of-self-in_err-push-in-Ok g c =
    let alive : c.self.inside.tapes.is_dead ≡ false = ap (λ (s : PartitionsState). s.tapes.is_dead) c.self.view_is ∙ c.requires.alive in
    let none : times c.args.partition.tape.index (c.self.inside.partitions.items
    ++ (one_or_none c.self.inside.reading ++ c.self.inside.pending.items))
    ≡ 0 = beside c.self.inside c.args.self.now c.args.partition.tape c.self.view_is c.requires.partitions c.requires.apart in
    let are : ArePartitions (state c.rewind.new.self c.self.inside.level c.self.inside.partitions.items (one_or_none c.self.inside.reading)
    c.self.inside.pending.items) = partitions_beside (g.D.TapeDisk.last c.args.disk.now) (g.D.TapeDisk.last c.rewind.new.disk)
    c.self.inside.tapes c.rewind.new.self c.self.inside.level c.self.inside.partitions.items (one_or_none c.self.inside.reading)
    c.self.inside.pending.items c.args.partition.tape c.rewind.ensures.others none (λ _. alive) c.self.invariant in
    subst (λ xs. ArePartitions
    (state c.rewind.new.self c.self.inside.level c.self.inside.partitions.items (one_or_none c.self.inside.reading)
    xs)) (sym {A = List OnTape} (c.in_err-push-in-Ok.ensures.items ∙ c.reserve.ensures.items)) are

pub invariant_of-self-in-Ok : goal.invariant_of-self-in-Ok
invariant_of-self-in-Ok g c =
    let alive : c.self.inside.tapes.is_dead ≡ false = ap (λ (s : PartitionsState). s.tapes.is_dead) c.self.view_is ∙ c.requires.alive in
    let none : times c.args.partition.tape.index (c.self.inside.partitions.items
    ++ (one_or_none c.self.inside.reading ++ c.self.inside.pending.items))
    ≡ 0 = beside c.self.inside c.args.self.now c.args.partition.tape c.self.view_is c.requires.partitions c.requires.apart in
    let are : ArePartitions (state c.rewind.new.self c.self.inside.level c.self.inside.partitions.items (one_or_none c.self.inside.reading)
    c.self.inside.pending.items) = partitions_beside (g.D.TapeDisk.last c.args.disk.now) (g.D.TapeDisk.last c.rewind.new.disk)
    c.self.inside.tapes c.rewind.new.self c.self.inside.level c.self.inside.partitions.items (one_or_none c.self.inside.reading)
    c.self.inside.pending.items c.args.partition.tape c.rewind.ensures.others none (λ _. alive) c.self.invariant in
    subst (λ xs. ArePartitions
    (state c.rewind.new.self c.self.inside.level c.self.inside.partitions.items (one_or_none c.self.inside.reading)
    xs)) (sym {A = List OnTape}
    (c.in_ok-push-in-Ok.ensures.items ∙ ap (λ (ys : List OnTape). ys ++ c.args.partition ∷ []) c.reserve.ensures.items))
    (partitions_pushed c.rewind.new.self c.self.inside.level c.self.inside.partitions.items (one_or_none c.self.inside.reading)
    c.self.inside.pending.items c.args.partition c.in-Ok.ensures.rewound.read (omega (arith, c.if-partition-eq0.false)) none are)
