use Rattle.hash_agg.proofs.Words.{DiskFrame, Packed_rows, packings_in}
use Rattle.hash_agg.proofs.AddedLaws.{AddedSome}
use Rattle.hash_agg.proofs.pass.Pass.add_rows.Given as goal

abbrev pub invariant-loop-place : goal.invariant-loop-place
invariant-loop-place g l =
    record {
      some : AddedSome g.H.KeyHash.hash_of g.D.TapeDisk (Packed_rows (packings_in l.rows)) l.place l.fn.self l.fn.disk l.self l.disk;
      disk : DiskFrame g.D.TapeDisk 0 l.fn.disk l.disk;
    }
