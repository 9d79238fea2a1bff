use Rattle.std.specs.Prelude.{◌∷◌, []}
use Rattle.std.proofs.Common.{arith, subst, sym}
use Rattle.tape_disks.specs.DiskLaws.{leaves_none, leaves_twice}
use Rattle.packed_rows.specs.Packing.{IsPacking}
use Rattle.hash_agg.proofs.InputLaws.{packing_at}
use Rattle.hash_agg.proofs.Words.{meaning, spill_faults, Packed_rows, query_of, packings_in}
use Rattle.hash_agg.proofs.AddedLaws.{none_added, next_added, next_refused, all_added, refused_out}
use Rattle.hash_agg.proofs.StepLaws.{flat_is_at, flat_short}
use Rattle.hash_agg.proofs.pass.Pass.add_rows.Goals as goal

pub loop-place-init : goal.loop-place-init
loop-place-init g c = record {
  some = none_added g.H.KeyHash.hash_of g.D.TapeDisk (Packed_rows (packings_in c.args.rows)) c.args.self.now
      c.args.disk.now c.requires.ready;
  disk = leaves_none g.D.TapeDisk c.args.disk.now;
}

pub add_row-requires-clause-packing : goal.add_row-requires-clause-packing
add_row-requires-clause-packing g c =
    subst (λ plan. IsPacking (meaning plan.query.now).kinds c.row.result.now) (sym c.loop-place.invariant.some.kept.plan)
    (packing_at (query_of c.args.self.now) (packings_in c.args.rows) c.loop-place.place c.row.result.now c.requires.packings c.row.ensures)

pub loop-place-preserved : goal.loop-place-preserved
loop-place-preserved g c =
    record {
      some =
          next_added g.H.KeyHash.hash_of g.D.TapeDisk (Packed_rows (packings_in c.args.rows)) c.args.self.now c.args.disk.now
          (Packed_rows (c.row.result.now ∷ [])) c.loop-place.place c.loop-place.self c.loop-place.disk c.loop-place.invariant.some
          (flat_is_at (query_of c.args.self.now) (packings_in c.args.rows) c.loop-place.place c.row.result.now c.row.ensures)
          c.add_row.new.self c.add_row.new.disk c.in_ok-add_row.ensures.added;
      disk = leaves_twice g.D.TapeDisk 0 c.args.disk.now c.loop-place.disk c.add_row.new.disk c.loop-place.invariant.disk
          c.in_ok-add_row.ensures.disk;
    }

pub returns-in_err-add_row : goal.returns-in_err-add_row
returns-in_err-add_row g c =
    refused_out c.from_residual.result c.in_err-add_row.field-0.0 c.from_residual.ensures.1
    (next_refused g.H.KeyHash.hash_of g.D.TapeDisk (Packed_rows (packings_in c.args.rows)) c.args.self.now c.args.disk.now
    (Packed_rows (c.row.result.now ∷ [])) c.loop-place.place c.loop-place.self c.loop-place.disk c.loop-place.invariant.some
    (flat_is_at (query_of c.args.self.now) (packings_in c.args.rows) c.loop-place.place c.row.result.now c.row.ensures)
    c.in_err-add_row.field-0.0 c.add_row.new.self c.in_err-add_row.ensures.refused)
    (leaves_twice g.D.TapeDisk (spill_faults c.in_err-add_row.field-0.0) c.args.disk.now c.loop-place.disk c.add_row.new.disk
    c.loop-place.invariant.disk c.in_err-add_row.ensures.disk)

pub returns : goal.returns
returns g c =
    let past = c.loop-place-test.false in
    let counted = c.len-place-end.ensures in
    record {
      added =
          all_added g.H.KeyHash.hash_of g.D.TapeDisk (Packed_rows (packings_in c.args.rows)) c.args.self.now c.args.disk.now
          c.loop-place.place c.loop-place.self c.loop-place.disk c.loop-place.invariant.some
          (λ more are. let short = flat_short (query_of c.args.self.now) (packings_in c.args.rows) more are in omega
          (arith, past, counted, short));
      refused = tt;
      disk = c.loop-place.invariant.disk;
    }
