use Rattle.std.proofs.Common.{◌≡◌, ◌+◌, ◌-◌, ◌<◌, ◌≤◌, ◌∷◌, ◌++◌, [], ℕ, List, false, length, get_or}
use Rattle.std.proofs.Common.{take, drop, ap, sym, subst, ◌∙◌, arith, add-one}
use Rattle.spill_partitions.proofs.Words.{OnTape, one_or_none, partitions_of, PartitionsState, AreSpilled, pages_of, written_pages}
use Rattle.spill_partitions.proofs.PageLaws.{IsPaged, paged_start, paged_step, paged_end, rest_apart}
use Rattle.std.proofs.Math.Seq.{drop-cons}
use Rattle.std.proofs.lemmas.List.{drop_all, take_all}
use Rattle.std.proofs.lemmas.Grind.{common_steps}
use Rattle.spill_partitions.proofs.PassLaws.{IsEnding, ending_start, partitions_without, ending_apart}
use Rattle.spill_partitions.proofs.PassLaws.{ending_beside, ending_step, ending_end}
use Rattle.spill_partitions.proofs.PassLaws.{ending_open, ending_rest, ending_closed, ending_parted}
use Rattle.spill_partitions.proofs.CloseLaws.{partitions_closed}
use Rattle.spill_partitions.proofs.Words.{AreApart, AreOpen, Closes, KeepsOthers, count_of, fields_of}
use Rattle.tape_disks.specs.DiskLaws.{leaves_none, leaves_twice}
use Rattle.spill_partitions.proofs.StandingLaws.{state}
use Rattle.spill_partitions.proofs.partitions.SpillPartitions.end_pass.Goals as goal

next_of : (tapes : List OnTape) (i : ℕ) (x : OnTape) → i < length tapes → x ≡ get_or tapes i x → drop i tapes ≡ x ∷ drop (i + 1) tapes
next_of tapes i x less is = drop-cons tapes i x less ∙ ap (λ n. get_or tapes i x ∷ drop n tapes) (sym (add-one i))
    ∙ ap (λ y. y ∷ drop (i + 1) tapes) (sym is)

pub invariant_of-self : goal.invariant_of-self
invariant_of-self g c =
    let empty : c.replace-partitions.new.dest.items ≡ [] = cc in
    partitions_without c.self.inside.tapes c.self.inside.level c.self.inside.partitions.items c.replace-partitions.new.dest.items
    (one_or_none c.self.inside.reading) c.self.inside.pending.items empty c.self.invariant

pub loop-place-init : goal.loop-place-init
loop-place-init g c =
    let alive : c.self.inside.tapes.is_dead ≡ false = ap (λ (s : PartitionsState). s.tapes.is_dead) c.self.view_is ∙ c.requires.alive in
    let empty : c.replace-partitions.new.dest.items ≡ [] = cc in
    let is : c.replace-partitions.result.items ≡ c.self.inside.partitions.items = cc in
    record {
      partitions = subst (λ (s : PartitionsState). IsEnding (g.D.TapeDisk.last c.args.disk.now) (g.D.TapeDisk.last c.args.disk.now) s
          (state c.self.inside.tapes c.self.inside.level c.replace-partitions.new.dest.items (one_or_none c.self.inside.reading)
          c.self.inside.pending.items) c.replace-partitions.result.items) c.self.view_is
          (ending_start (g.D.TapeDisk.last c.args.disk.now) c.self.inside.tapes c.self.inside.level c.self.inside.partitions.items
          c.replace-partitions.new.dest.items (one_or_none c.self.inside.reading) c.self.inside.pending.items
          c.replace-partitions.result.items alive empty is c.self.invariant);
      pages = λ spilled ahead pending had.
          subst (λ (s : PartitionsState). IsPaged (g.D.TapeDisk.last c.args.disk.now) c.self.inside.tapes c.replace-partitions.result.items
          (g.D.TapeDisk.writes c.args.disk.now) (pages_of (partitions_of s.level spilled)) (written_pages s)
          (g.D.TapeDisk.writes c.args.disk.now)) c.self.view_is
          (paged_start (g.D.TapeDisk.last c.args.disk.now) c.self.inside.tapes c.self.inside.level c.self.inside.partitions.items
          c.replace-partitions.result.items spilled (g.D.TapeDisk.writes c.args.disk.now) is
          (subst (λ (s : PartitionsState). AreSpilled (g.D.TapeDisk.last c.args.disk.now) s.tapes s.level s.partitions spilled)
          (sym c.self.view_is) had.spilled_are));
      disk = leaves_none g.D.TapeDisk c.args.disk.now;
    }

rest_is : (v items : List OnTape) (place : ℕ) → v ≡ items → take (length v - place) (drop place v) ≡ drop place items
rest_is v items place same =
    let fits : length (drop place v) ≤ length v - place = grind (arith, common_steps) in
    take_all (length v - place) (drop place v) fits ∙ ap (drop place) same

pub leave-requires-clause-apart : goal.leave-requires-clause-apart
leave-requires-clause-apart g c =
    let items = c.replace-partitions.result.items in let x = c.index-partition.result.now in let place = c.loop-place.place in
    let less : place < length items = omega (arith, c.loop-place-test.true, c.len-place-end.ensures, c.replace-partitions.result.ok.0) in
    ending_beside (g.D.TapeDisk.last c.args.disk.now) (g.D.TapeDisk.last c.loop-place.disk) c.args.self.now c.loop-place.self
    (drop place items) (drop (place + 1) items) x (next_of items place x less c.index-partition.ensures) c.loop-place.invariant.partitions

pub loop-place-preserved : goal.loop-place-preserved
loop-place-preserved g c =
    let items = c.replace-partitions.result.items in let x = c.index-partition.result.now in let place = c.loop-place.place in
    let less : place < length items = omega (arith, c.loop-place-test.true, c.len-place-end.ensures, c.replace-partitions.result.ok.0) in
    let here : drop place items ≡ x ∷ drop (place + 1) items = next_of items place x less c.index-partition.ensures in
    let left = c.in_default.ensures.left in
    record {
      partitions = ending_step (g.D.TapeDisk.last c.args.disk.now) (g.D.TapeDisk.last c.loop-place.disk)
          (g.D.TapeDisk.last c.leave.new.disk) c.args.self.now c.loop-place.self c.leave.new.self (drop place items)
          (drop (place + 1) items) x here c.leave.ensures.others left.kept left.left left.closed left.alive c.leave.ensures.partitions
          c.leave.ensures.reading c.leave.ensures.level c.loop-place.invariant.partitions;
      pages = λ spilled ahead pending had.
          paged_step (g.D.TapeDisk.last c.loop-place.disk) (g.D.TapeDisk.last c.leave.new.disk) c.loop-place.self.tapes
          c.leave.new.self.tapes (drop place items) (drop (place + 1) items) x (g.D.TapeDisk.writes c.args.disk.now)
          (pages_of (partitions_of c.args.self.now.level spilled)) (written_pages c.args.self.now)
          (g.D.TapeDisk.writes c.loop-place.disk) (g.D.TapeDisk.writes c.leave.new.disk) here c.leave.ensures.others
          (rest_apart (drop (place + 1) items) (c.loop-place.self.reading ++ c.loop-place.self.pending) x.tape.index
          (ending_apart (g.D.TapeDisk.last c.args.disk.now) (g.D.TapeDisk.last c.loop-place.disk) c.args.self.now c.loop-place.self
          (drop place items) (drop (place + 1) items) x here c.loop-place.invariant.partitions))
          left.paged (c.loop-place.invariant.pages spilled ahead pending had);
      disk = leaves_twice g.D.TapeDisk 0 c.args.disk.now c.loop-place.disk c.leave.new.disk c.loop-place.invariant.disk
          c.in_default.ensures.disk;
    }

pub returns-clause-ended : goal.returns-clause-ended
returns-clause-ended g c =
    let items = c.replace-partitions.result.items in let place = c.loop-place.place in
    let e = c.loop-place.invariant.partitions in
    let past : length items ≤ place = omega (arith, c.loop-place-test.false, c.len-place-end.ensures, c.replace-partitions.result.ok.0) in
    let none : drop place items ≡ [] = drop_all place items past in
    record {
      left = ending_end (g.D.TapeDisk.last c.args.disk.now) (g.D.TapeDisk.last c.loop-place.disk) c.args.self.now c.loop-place.self
          (drop place items) none e;
      partitions = e.partitions;
      waiting = omega (arith, e.waiting, ap count_of none);
      paged = λ spilled ahead pending had.
          paged_end (g.D.TapeDisk.last c.loop-place.disk) c.loop-place.self.tapes (drop place items) (g.D.TapeDisk.writes c.args.disk.now)
          (pages_of (partitions_of c.args.self.now.level spilled)) (written_pages c.args.self.now)
          (g.D.TapeDisk.writes c.loop-place.disk) none (c.loop-place.invariant.pages spilled ahead pending had);
      alive = e.alive;
    }

-- one is not left: it and those behind it are closed
pub close_all-requires-clause-open : goal.close_all-requires-clause-open
close_all-requires-clause-open g c =
    let items = c.replace-partitions.result.items in let x = c.index-partition.result.now in let place = c.loop-place.place in
    let less : place < length items = omega (arith, c.loop-place-test.true, c.len-place-end.ensures, c.replace-partitions.result.ok.0) in
    let here : drop place items ≡ x ∷ drop (place + 1) items = next_of items place x less c.index-partition.ensures in
    let is : c.deref.result.now ≡ items = cc in
    let inside = c.self-in-loop-place.inside in
    subst (AreOpen inside.tapes) (sym (rest_is c.deref.result.now items place is))
    (subst (λ (s : PartitionsState). AreOpen s.tapes (drop place items)) (sym c.self-in-loop-place.view_is)
    (ending_open (g.D.TapeDisk.last c.args.disk.now) (g.D.TapeDisk.last c.loop-place.disk) (g.D.TapeDisk.last c.leave.new.disk)
    c.args.self.now c.loop-place.self c.leave.new.self.tapes (drop place items) (drop (place + 1) items) x here c.leave.ensures.others
    c.in-Err.ensures.refused.0 c.loop-place.invariant.partitions))

pub close_all-requires-clause-apart : goal.close_all-requires-clause-apart
close_all-requires-clause-apart g c =
    let items = c.replace-partitions.result.items in let place = c.loop-place.place in
    let is : c.deref.result.now ≡ items = cc in
    subst AreApart (sym (rest_is c.deref.result.now items place is))
    (ending_rest (g.D.TapeDisk.last c.args.disk.now) (g.D.TapeDisk.last c.loop-place.disk) c.args.self.now c.loop-place.self
    (drop place items) c.loop-place.invariant.partitions)

pub invariant_of-self-in-Err : goal.invariant_of-self-in-Err
invariant_of-self-in-Err g c =
    let items = c.replace-partitions.result.items in let place = c.loop-place.place in
    let is : c.deref.result.now ≡ items = cc in
    let inside = c.self-in-loop-place.inside in
    let view_is = c.self-in-loop-place.view_is in
    let rest : take (length c.deref.result.now - place) (drop place c.deref.result.now) ≡ drop place items =
    rest_is c.deref.result.now items place is in
    partitions_closed inside.tapes c.close_all.new.tapes inside.level inside.partitions.items (one_or_none inside.reading)
    inside.pending.items (drop place items) (subst (Closes inside.tapes c.close_all.new.tapes) rest c.close_all.ensures)
    (ap (λ (s : PartitionsState). s.partitions) view_is ∙ c.leave.ensures.partitions)
    (ending_parted (g.D.TapeDisk.last c.args.disk.now) (g.D.TapeDisk.last c.loop-place.disk) c.args.self.now c.loop-place.self
    (fields_of inside) (drop place items) (ap (λ (s : PartitionsState). s.reading) view_is ∙ c.leave.ensures.reading)
    (ap (λ (s : PartitionsState). s.pending) view_is ∙ c.in-Err.ensures.refused.1) c.loop-place.invariant.partitions)
    c.self-in-loop-place.invariant

pub returns-in-Err-clause-owns : goal.returns-in-Err-clause-owns
returns-in-Err-clause-owns g c =
    let items = c.replace-partitions.result.items in let x = c.index-partition.result.now in let place = c.loop-place.place in
    let less : place < length items = omega (arith, c.loop-place-test.true, c.len-place-end.ensures, c.replace-partitions.result.ok.0) in
    let here : drop place items ≡ x ∷ drop (place + 1) items = next_of items place x less c.index-partition.ensures in
    let is : c.deref.result.now ≡ items = cc in
    let inside = c.self-in-loop-place.inside in
    let view_is = c.self-in-loop-place.view_is in
    ending_closed (g.D.TapeDisk.last c.args.disk.now) (g.D.TapeDisk.last c.loop-place.disk) (g.D.TapeDisk.last c.leave.new.disk)
    c.args.self.now c.loop-place.self (state c.close_all.new.tapes inside.level inside.partitions.items (one_or_none inside.reading)
    inside.pending.items) inside.tapes (drop place items) (drop (place + 1) items) x here
    (subst (λ (s : PartitionsState). KeepsOthers (g.D.TapeDisk.last c.loop-place.disk) (g.D.TapeDisk.last c.leave.new.disk)
    c.loop-place.self.tapes s.tapes x.tape) (sym view_is) c.leave.ensures.others)
    (subst (Closes inside.tapes c.close_all.new.tapes) (rest_is c.deref.result.now items place is) c.close_all.ensures)
    (ap (λ (s : PartitionsState). s.partitions) view_is ∙ c.leave.ensures.partitions)
    (ap (λ (s : PartitionsState). s.reading) view_is ∙ c.leave.ensures.reading)
    (ap (λ (s : PartitionsState). s.pending) view_is ∙ c.in-Err.ensures.refused.1) c.loop-place.invariant.partitions
