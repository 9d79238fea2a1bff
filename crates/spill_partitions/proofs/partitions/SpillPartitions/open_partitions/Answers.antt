use Rattle.std.proofs.Common.{◌≡◌, ◌++◌, [], arith, ap, refl, sym, subst, ◌∙◌}
use Rattle.spill_partitions.proofs.Words.{deeper, fields_of, one_or_none, PartitionsState, HasPartitions}
use Rattle.spill_partitions.proofs.Words.{ArePartitions, AreApart, AreWritten}
use Rattle.spill_partitions.proofs.Words.{full_pages, HoldOpen}
use Rattle.spill_partitions.proofs.OpenLaws.{opening_parted, opening_holds, parted_first}
use Rattle.spill_partitions.proofs.CloseLaws.{partitions_closed, own_closed}
use Rattle.spill_partitions.proofs.OpenLaws.{none_open, none_spilled, none_written, opening_start, opening_step, opening_has}
use Rattle.spill_partitions.proofs.StandingLaws.{state, partitions_opened}
use Rattle.spill_partitions.proofs.PartitionLaws.{AreNew, new_written, new_count}
use Rattle.spill_partitions.proofs.PageLaws.{new_pages}
use Rattle.spill_partitions.proofs.partitions.SpillPartitions.open_partitions.Goals as goal

pub loop-place-init : goal.loop-place-init
loop-place-init g c =
    let none : c.args.self.now.partitions ≡ [] = none_open c.args.self.now c.self.inside.partitions.items c.self.inside.partitions.len
    (ap (λ (s : PartitionsState). s.partitions) c.self.view_is) (omega (arith, c.self.inside.partitions.ok.0)) (sym c.is_empty.ensures
    ∙ c.if-not-is_empty.false) in
    record {
      room = omega (arith, c.in_ok-partitions.ensures.capacity);
      opening = opening_start (g.D.TapeDisk.last c.args.disk.now) c.args.self.now c.deeper-level.result c.in_ok-partitions.partitions.items
          c.requires.alive none c.in_ok-partitions.ensures.items (subst ArePartitions c.self.view_is c.self.invariant);
    }

pub loop-place-preserved : goal.loop-place-preserved
loop-place-preserved g c = record {
  opening = opening_step (g.D.TapeDisk.last c.args.disk.now) c.args.self.now c.loop-place.self c.open_partition.new.self
      c.deeper-level.result
      c.loop-place.partitions.items c.push.new.self.items c.loop-place._place c.in-Ok.partition c.loop-place.invariant.opening
      c.in_ok-push.ensures.items c.in-Ok.ensures.opened.new c.in-Ok.ensures.opened.fresh c.in-Ok.ensures.opened.others
      c.open_partition.ensures.alive
      c.open_partition.ensures.partitions c.open_partition.ensures.rest.reading c.open_partition.ensures.rest.pending
      c.open_partition.ensures.rest.level;
  room = omega (arith, c.loop-place.invariant.room, c.push.ensures.capacity);
}

pub invariant_of-self-2 : goal.invariant_of-self-2
invariant_of-self-2 g c =
    partitions_opened c.self-2.inside.tapes c.self-2.inside.level c.loop-place.partitions.items c.self-2.inside.partitions.items
    (one_or_none c.self-2.inside.reading) c.self-2.inside.pending.items
    (subst (λ (s : PartitionsState). AreApart (c.loop-place.partitions.items ++ (s.reading ++ s.pending))) (sym c.self-2.view_is)
    c.loop-place.invariant.opening.apart)
    (omega (arith, c.loop-place.invariant.opening.long))
    (subst (λ (s : PartitionsState). AreWritten s.tapes c.loop-place.partitions.items) (sym c.self-2.view_is)
    (new_written (g.D.TapeDisk.last c.args.disk.now) c.loop-place.self.tapes c.deeper-level.result c.loop-place.partitions.items
    c.loop-place.invariant.opening.new))
    c.self-2.invariant

pub returns-clause-opened : goal.returns-clause-opened
returns-clause-opened g c =
    let none : c.args.self.now.partitions ≡ [] = none_open c.args.self.now c.self.inside.partitions.items c.self.inside.partitions.len
    (ap (λ (s : PartitionsState). s.partitions) c.self.view_is) (omega (arith, c.self.inside.partitions.ok.0)) (sym c.is_empty.ensures
    ∙ c.if-not-is_empty.false) in
    record {
      opened = λ spilled ahead pending had.
          let level : c.deeper-level.result ≡ deeper c.self-2.inside.level =
          c.deeper-level.ensures
          ∙ ap (λ (s : PartitionsState). deeper s.level) c.self.view_is
          ∙ ap deeper (sym c.loop-place.invariant.opening.level)
          ∙ ap (λ (s : PartitionsState). deeper s.level) (sym c.self-2.view_is) in
          opening_has (g.D.TapeDisk.last c.args.disk.now) (fields_of c.self-2.inside) c.loop-place.partitions.items spilled ahead pending
          (omega (arith, c.loop-place.invariant.opening.long)) (ap (λ (s : PartitionsState). s.partitions) c.self-2.view_is
          ∙ c.loop-place.invariant.opening.partitions)
          (subst (λ n. AreNew (g.D.TapeDisk.last c.args.disk.now) c.self-2.inside.tapes n c.loop-place.partitions.items) level
          (subst (λ (s : PartitionsState). AreNew (g.D.TapeDisk.last c.args.disk.now) s.tapes c.deeper-level.result
          c.loop-place.partitions.items) (sym c.self-2.view_is) c.loop-place.invariant.opening.new))
          (subst (λ (s : PartitionsState). HasPartitions (g.D.TapeDisk.last c.args.disk.now) s spilled ahead pending) (sym c.self-2.view_is)
          (c.loop-place.invariant.opening.has spilled ahead pending had));
      sixteen = omega (arith, c.loop-place.invariant.opening.long);
      counted =
          new_count (g.D.TapeDisk.last c.args.disk.now) c.loop-place.self.tapes c.deeper-level.result c.loop-place.partitions.items
          c.loop-place.invariant.opening.new ∙ sym (none_spilled c.args.self.now none);
      paged =
          subst (λ (s : PartitionsState). full_pages s.tapes c.loop-place.partitions.items ≡ 0) (sym c.self-2.view_is)
          (new_pages (g.D.TapeDisk.last c.args.disk.now) c.loop-place.self.tapes c.deeper-level.result c.loop-place.partitions.items
          c.loop-place.invariant.opening.new)
          ∙ sym (none_written c.args.self.now none);
    }

pub returns-clause-owns : goal.returns-clause-owns
returns-clause-owns g c own lives =
    subst (λ (s : PartitionsState). HoldOpen s.tapes (c.loop-place.partitions.items ++ (s.reading ++ s.pending))) (sym c.self-2.view_is)
    (c.loop-place.invariant.opening.owns own)

-- one is not opened
pub close_all-requires-clause-apart : goal.close_all-requires-clause-apart
close_all-requires-clause-apart g c =
    let is : c.deref.result.now ≡ c.loop-place.partitions.items = cc in
    parted_first c.deref.result.now (c.loop-place.self.reading ++ c.loop-place.self.pending)
    (opening_parted (g.D.TapeDisk.last c.args.disk.now) c.args.self.now c.loop-place.self c.loop-place.self c.deeper-level.result
    c.loop-place.partitions.items c.deref.result.now c.loop-place._place is refl refl c.loop-place.invariant.opening)

pub invariant_of-self : goal.invariant_of-self
invariant_of-self g c =
    let is : c.deref.result.now ≡ c.loop-place.partitions.items = cc in
    let inside = c.self-in-loop-place.inside in
    let view_is = c.self-in-loop-place.view_is in
    partitions_closed inside.tapes c.close_all.new.tapes inside.level inside.partitions.items (one_or_none inside.reading)
    inside.pending.items c.deref.result.now c.close_all.ensures (ap (λ (s : PartitionsState). s.partitions) view_is
    ∙ c.open_partition.ensures.partitions ∙ c.loop-place.invariant.opening.partitions)
    (opening_parted (g.D.TapeDisk.last c.args.disk.now) c.args.self.now c.loop-place.self (fields_of inside) c.deeper-level.result
    c.loop-place.partitions.items c.deref.result.now c.loop-place._place is (ap (λ (s : PartitionsState). s.reading) view_is
    ∙ c.open_partition.ensures.rest.reading) (ap (λ (s : PartitionsState). s.pending) view_is ∙ c.open_partition.ensures.rest.pending)
    c.loop-place.invariant.opening) c.self-in-loop-place.invariant

pub returns-in_default-clause-owns : goal.returns-in_default-clause-owns
returns-in_default-clause-owns g c =
    let is : c.deref.result.now ≡ c.loop-place.partitions.items = cc in
    let inside = c.self-in-loop-place.inside in
    let view_is = c.self-in-loop-place.view_is in
    own_closed inside.tapes c.args.self.now (state c.close_all.new.tapes inside.level inside.partitions.items (one_or_none inside.reading)
    inside.pending.items) c.deref.result.now c.close_all.ensures
    (opening_holds (g.D.TapeDisk.last c.args.disk.now) c.args.self.now c.loop-place.self (fields_of inside) c.deeper-level.result
    c.loop-place.partitions.items c.deref.result.now c.loop-place._place is (ap (λ (s : PartitionsState). s.tapes) view_is
    ∙ c.in_default.ensures.unchanged) (ap (λ (s : PartitionsState). s.reading) view_is ∙ c.open_partition.ensures.rest.reading)
    (ap (λ (s : PartitionsState). s.pending) view_is ∙ c.open_partition.ensures.rest.pending) c.loop-place.invariant.opening)
