use Rattle.std.specs.Prelude.{◌≡◌, refl, ◌+◌, ◌∷◌, ℕ, suc, List, [], length, Option, Ok, IfSome, IfNone, IsTrue}
use Rattle.std.proofs.Common.{sym, ap, subst, arith, inl}
use Rattle.tape_disks.specs.DiskLaws.{leaves_none, leaves_twice, reads_leaves}
use Rattle.spill_tapes.specs.Tape.{Gives}
use Rattle.hash_agg.proofs.Words.{spill_faults, HasPartitions, count_of, spilled_number, ahead_number, Query, On_tape, query_of, ArePieces}
use Rattle.hash_agg.proofs.Words.{AreSafe, Reads, CanRead, entries_of, standing}
use Rattle.hash_agg.specs.Added.{AddInTurn, AddedGenuine}
use Rattle.spill_partitions.specs.Standing.{ReadsRecord}
use Rattle.hash_agg.proofs.AddedLaws.{added_first, refused_first, later_none, later_next, later_same}
use Rattle.hash_agg.proofs.DiskLaws.{left_out}
use Rattle.hash_agg.proofs.ReadLaws.{reading_begins, can_read_next, reads_next, reading_ends, spent_next, spent_ends}
use Rattle.hash_agg.proofs.ReturnLaws.{no_ok}
use Rattle.hash_agg.proofs.StepLaws.{err_out}
use Rattle.hash_agg.proofs.UnionLaws.{none_safe}
use Rattle.hash_agg.proofs.pass.Pass.add_partition.Goals as goal

pub loop-hash-init : goal.loop-hash-init
loop-hash-init g c =
    let q : Query = query_of c.args.self.now in
    let none = ap length c.requires.fresh.empty in
    let clear : spilled_number c.args.self.now.spill ≡ 0 = ap count_of c.requires.fresh.partitions in
    record {
      ready = c.requires.ready;
      kept = later_none c.args.self.now;
      pages = refl;
      disk = leaves_none g.D.TapeDisk c.args.disk.now;
      each = (0, (refl, refl), omega arith);
      safe = subst (AreSafe q c.args.self.now.plan.most) (sym c.requires.fresh.empty) (none_safe q c.args.self.now.plan.most);
      few = omega (arith, none, clear);
      spent = inl (c.requires.fresh.empty, c.requires.fresh.partitions, refl);
      reads = λ honest records pieces pending has are count.
          reading_begins c.args.self.now.plan (g.H.KeyHash.hash_of c.args.self.now.groups.hash)
          (standing c.args.self.now.groups c.args.self.now.spill (g.D.TapeDisk.last c.args.disk.now)) records pieces pending
          c.requires.fresh.empty c.requires.fresh.partitions has are;
    }

pub returns-in_err-hash : goal.returns-in_err-hash
returns-in_err-hash g c =
    let i = c.loop-hash.invariant in
    let kept = later_same c.args.self.now c.loop-hash.self c.next.new.self i.kept c.next.ensures.pending c.next.ensures.level in
    record {
      added = no_ok c.from_residual.result _ c.from_residual.ensures.0;
      refused =
          err_out c.from_residual.result c.in_err-hash.field-0.0 _ c.from_residual.ensures.1
          (record {
            undamaged =
                λ honest can.
                let r = i.reads honest can.0 can.1 can.2 can.3 can.4 can.5 in
                c.in_err-hash.ensures.reads.undamaged (subst IsTrue (sym i.disk.honesty) honest) r.holds.0 r.ahead can.2 r.holds.1;
            kept = kept;
          });
      disk =
          left_out g.D.TapeDisk c.from_residual.result c.in_err-hash.field-0.0 c.args.disk.now c.next.new.disk c.from_residual.ensures.1
          (leaves_twice g.D.TapeDisk (spill_faults c.in_err-hash.field-0.0) c.args.disk.now c.loop-hash.disk c.next.new.disk i.disk
          (reads_leaves g.D.TapeDisk (spill_faults c.in_err-hash.field-0.0) c.loop-hash.disk c.next.new.disk
          c.in_err-hash.ensures.disk));
    }

pub loop-hash-preserved : goal.loop-hash-preserved
loop-hash-preserved g c =
    let q : Query = query_of c.args.self.now in
    let i = c.loop-hash.invariant in
    let hf : List ℕ → ℕ = g.H.KeyHash.hash_of c.args.self.now.groups.hash in
    let one = c.in_ok-add_record.ensures.added.added in
    let kept = later_same c.args.self.now c.loop-hash.self c.next.new.self i.kept c.next.ensures.pending c.next.ensures.level in
    let add = added_first g.H.KeyHash.hash_of g.D.TapeDisk (On_tape c.in-Some.hash c.in-Some.tag c.deref.result.now) c.args.self.now
    (record c.loop-hash.self { spill = c.next.new.self }) c.next.new.disk c.add_record.new.self kept.plan kept.table.hash
    c.add_record.new.disk one.added in
    let counted : ahead_number c.loop-hash.self.spill ≡ ahead_number c.next.new.self
    + 1 = subst (λ found. IfSome found (λ told. ahead_number c.loop-hash.self.spill ≡ ahead_number c.next.new.self + 1)) c.in-Some.is
    c.in_ok-hash.ensures.reads.counted in
    let partitions : spilled_number c.next.new.self ≡ spilled_number c.loop-hash.self.spill = ap count_of c.next.ensures.partitions in
    let same : ahead_number c.add_record.new.self.spill ≡ ahead_number c.next.new.self = ap count_of add.kept.spill.reading in
    let more = one.proceeds.few in
    let before = i.few in
    record {
      ready = add.ready;
      kept = later_next c.args.self.now (record c.loop-hash.self { spill = c.next.new.self }) c.add_record.new.self kept add.kept;
      pages = let so_far = i.pages in let quiet = c.in_ok-hash.ensures.disk.writes in let still = c.next.ensures.paged in let step =
          add.pages in omega (arith, so_far, quiet, still, step);
      disk =
          leaves_twice g.D.TapeDisk 0 c.args.disk.now c.next.new.disk c.add_record.new.disk
          (leaves_twice g.D.TapeDisk 0 c.args.disk.now c.loop-hash.disk c.next.new.disk i.disk
          (reads_leaves g.D.TapeDisk 0 c.loop-hash.disk c.next.new.disk c.in_ok-hash.ensures.disk)) c.in_ok-add_record.ensures.disk;
      each = (
        suc i.each.0,
        (
          c.loop-hash.self,
          c.loop-hash.disk,
          i.each.1,
          record {
            hash = c.in-Some.hash;
            tag = c.in-Some.tag;
            bytes = c.next.new.bytes.items;
            left = c.next.new.self;
            between = c.next.new.disk;
            read = subst (λ (found : Option (ℕ × ℕ)). ReadsRecord g.D.TapeDisk c.loop-hash.self.spill c.loop-hash.disk (Ok found)
                c.next.new.self c.next.new.disk c.next.new.bytes.items) c.in-Some.is c.in_ok-hash.ensures.reads;
            added = subst (λ bytes. AddedGenuine g.H.KeyHash.hash_of g.D.TapeDisk (On_tape c.in-Some.hash c.in-Some.tag bytes)
                (record c.loop-hash.self { spill = c.next.new.self }) c.next.new.disk c.add_record.new.self c.add_record.new.disk)
                c.deref.ensures.value c.in_ok-add_record.ensures.added;
          },
        ),
        omega (arith, counted, same, i.each.2),
      );
      safe = add.safe i.safe;
      few = omega (arith, counted, partitions, same, more, before);
      spent = spent_next (ahead_number c.args.self.now.spill) (entries_of c.loop-hash.self.groups) (entries_of c.add_record.new.self.groups)
          c.loop-hash.self.spill c.next.new.self c.add_record.new.self.spill i.spent c.next.ensures.partitions counted
          add.kept.spill.reading one.proceeds;
      reads = λ honest records pieces pending has are count.
          reads_next c.args.self.now.plan hf pieces pending (entries_of c.loop-hash.self.groups) c.loop-hash.self.spill c.next.new.self
          (g.D.TapeDisk.last c.loop-hash.disk) (g.D.TapeDisk.last c.next.new.disk) c.in-Some.hash c.in-Some.tag c.next.new.bytes.items
          count c.next.ensures.partitions
          (λ spilled ahead pending had.
          subst (Gives (λ rest. HasPartitions (g.D.TapeDisk.last c.next.new.disk) c.next.new.self spilled rest pending) ahead
          c.next.new.bytes.items) c.in-Some.is (c.in_ok-hash.ensures.reads.gives (subst IsTrue (sym i.disk.honesty) honest) spilled ahead
          pending had))
          (standing c.add_record.new.self.groups c.add_record.new.self.spill (g.D.TapeDisk.last c.add_record.new.disk))
          (subst (λ bytes. Reads c.args.self.now.plan hf
          (ArePieces q hf (record { hash = c.in-Some.hash; tag = c.in-Some.tag; bytes = bytes } ∷ []))
          (standing c.loop-hash.self.groups c.next.new.self (g.D.TapeDisk.last c.next.new.disk))
          (standing c.add_record.new.self.groups c.add_record.new.self.spill (g.D.TapeDisk.last c.add_record.new.disk)))
          c.deref.ensures.value add.reads)
          (i.reads honest records pieces pending has are count);
    }

pub returns-in_err-add_record : goal.returns-in_err-add_record
returns-in_err-add_record g c =
    let i = c.loop-hash.invariant in
    let hf : List ℕ → ℕ = g.H.KeyHash.hash_of c.args.self.now.groups.hash in
    let kept = later_same c.args.self.now c.loop-hash.self c.next.new.self i.kept c.next.ensures.pending c.next.ensures.level in
    let refusal = refused_first g.H.KeyHash.hash_of g.D.TapeDisk (On_tape c.in-Some.hash c.in-Some.tag c.deref.result.now) c.args.self.now
    (record c.loop-hash.self { spill = c.next.new.self }) c.next.new.disk c.add_record.new.self kept.plan kept.table.hash
    c.in_err-add_record.field-0.0 c.in_err-add_record.ensures.refused in
    record {
      added = no_ok c.from_residual-in_err-add_record.result _ c.from_residual-in_err-add_record.ensures.0;
      refused =
          err_out c.from_residual-in_err-add_record.result c.in_err-add_record.field-0.0 _ c.from_residual-in_err-add_record.ensures.1
          (record {
            undamaged =
                λ honest can.
                refusal.undamaged
                (subst (λ bytes. CanRead c.args.self.now.plan hf
                (ArePieces (query_of c.args.self.now) hf (record { hash = c.in-Some.hash; tag = c.in-Some.tag; bytes = bytes } ∷ []))
                (standing c.loop-hash.self.groups c.next.new.self (g.D.TapeDisk.last c.next.new.disk))) (sym c.deref.ensures.value)
                (can_read_next c.args.self.now.plan hf can.1 can.2 (entries_of c.loop-hash.self.groups) c.loop-hash.self.spill
                c.next.new.self (g.D.TapeDisk.last c.loop-hash.disk) (g.D.TapeDisk.last c.next.new.disk) c.in-Some.hash c.in-Some.tag
                c.next.new.bytes.items can.5 c.next.ensures.partitions
                (λ spilled ahead pending had.
                subst (Gives (λ rest. HasPartitions (g.D.TapeDisk.last c.next.new.disk) c.next.new.self spilled rest pending) ahead
                c.next.new.bytes.items) c.in-Some.is (c.in_ok-hash.ensures.reads.gives (subst IsTrue (sym i.disk.honesty) honest) spilled
                ahead pending had))
                (i.reads honest can.0 can.1 can.2 can.3 can.4 can.5)));
            kept = later_next c.args.self.now (record c.loop-hash.self { spill = c.next.new.self }) c.add_record.new.self kept refusal.kept;
          });
      disk =
          left_out g.D.TapeDisk c.from_residual-in_err-add_record.result c.in_err-add_record.field-0.0 c.args.disk.now c.add_record.new.disk
          c.from_residual-in_err-add_record.ensures.1
          (leaves_twice g.D.TapeDisk (spill_faults c.in_err-add_record.field-0.0) c.args.disk.now c.next.new.disk c.add_record.new.disk
          (leaves_twice g.D.TapeDisk 0 c.args.disk.now c.loop-hash.disk c.next.new.disk i.disk
          (reads_leaves g.D.TapeDisk 0 c.loop-hash.disk c.next.new.disk c.in_ok-hash.ensures.disk)) c.in_err-add_record.ensures.disk);
    }

pub returns : goal.returns
returns g c =
    let i = c.loop-hash.invariant in
    let hf : List ℕ → ℕ = g.H.KeyHash.hash_of c.args.self.now.groups.hash in
    let kept = later_same c.args.self.now c.loop-hash.self c.next.new.self i.kept c.next.ensures.pending c.next.ensures.level in
    let ended = subst (λ found. IfNone found ((ahead_number c.loop-hash.self.spill ≡ 0) × (c.next.new.self.reading ≡ []))) c.in_default.is
    c.in_ok-hash.ensures.reads.ended in
    let partitions : spilled_number c.next.new.self ≡ spilled_number c.loop-hash.self.spill = ap count_of c.next.ensures.partitions in
    let few = i.few in
    record {
      added =
          record {
            reads =
                λ honest records pieces pending has are count.
                reading_ends c.args.self.now.plan hf pieces pending (entries_of c.loop-hash.self.groups) c.loop-hash.self.spill
                c.next.new.self (g.D.TapeDisk.last c.loop-hash.disk) (g.D.TapeDisk.last c.next.new.disk) c.next.new.bytes.items
                c.next.ensures.partitions
                (λ spilled ahead pending had.
                subst (Gives (λ rest. HasPartitions (g.D.TapeDisk.last c.next.new.disk) c.next.new.self spilled rest pending) ahead
                c.next.new.bytes.items) c.in_default.is (c.in_ok-hash.ensures.reads.gives (subst IsTrue (sym i.disk.honesty) honest) spilled
                ahead pending had))
                (i.reads honest records pieces pending has are count);
            each = record {
              last = c.loop-hash.self;
              disk = c.loop-hash.disk;
              each = subst (λ n. AddInTurn g.H.KeyHash.hash_of g.D.TapeDisk n c.args.self.now c.args.disk.now c.loop-hash.self
                  c.loop-hash.disk) (omega (arith, i.each.2, ended.0)) i.each.1;
              groups = refl;
              spilled = c.next.ensures.partitions;
            };
            safe = i.safe;
            few = omega (arith, few, partitions);
            fewer = spent_ends (ahead_number c.args.self.now.spill) (entries_of c.loop-hash.self.groups) c.loop-hash.self.spill
                c.next.new.self i.spent c.next.ensures.partitions ended.0;
            pages = let so_far = i.pages in let quiet = c.in_ok-hash.ensures.disk.writes in let still = c.next.ensures.paged in omega
                (arith, so_far, quiet, still);
            reading = ended.1;
            ready = record { plan = i.ready.plan; width = i.ready.width; held = i.ready.held; alive = c.in_ok-hash.ensures.reads.alive };
            kept = kept;
          };
      refused = tt;
      disk = leaves_twice g.D.TapeDisk 0 c.args.disk.now c.loop-hash.disk c.next.new.disk i.disk
          (reads_leaves g.D.TapeDisk 0 c.loop-hash.disk c.next.new.disk c.in_ok-hash.ensures.disk);
    }
