use Rattle.std.specs.Prelude.{◌≡◌, ℕ, ◌+◌, ◌≤◌, List, [], IsTrue}
use Rattle.hash_agg.specs.Added.{AddInTurn}
use Rattle.hash_agg.proofs.Words.{DiskFrame, Record, PendingPartition, HasPartitions, ahead_number, IsReady, KeepsLater, query_of, Piece}
use Rattle.hash_agg.proofs.Words.{ArePieces, CountUpTo, WritesPages, AreSafe, entries_of, standing, total}
use Rattle.hash_agg.proofs.ReadLaws.{IsReading, IsSpent}
use Rattle.hash_agg.proofs.pass.Pass.add_partition.Given as goal

abbrev pub invariant-loop-hash : goal.invariant-loop-hash
invariant-loop-hash g l =
    record {
      ready : IsReady l.self;
      kept : KeepsLater l.initial.self l.self;
      pages : WritesPages (g.D.TapeDisk.writes l.initial.disk) l.initial.self.spill (g.D.TapeDisk.writes l.disk) l.self.spill;
      disk : DiskFrame g.D.TapeDisk 0 l.initial.disk l.disk;
      each : (n : ℕ) × AddInTurn g.H.KeyHash.hash_of g.D.TapeDisk n l.initial.self l.initial.disk l.self l.disk
          × (n + ahead_number l.self.spill ≡ ahead_number l.initial.self.spill);
      safe : AreSafe (query_of l.initial.self) l.initial.self.plan.most (entries_of l.self.groups);
      few : total (entries_of l.self.groups) l.self.spill + ahead_number l.self.spill ≤ ahead_number l.initial.self.spill;
      spent : IsSpent (ahead_number l.initial.self.spill) (entries_of l.self.groups) l.self.spill;
      reads :
          IsTrue (g.D.TapeDisk.honest l.initial.disk) → (records : List Record) (pieces : List Piece) (pending : List PendingPartition)
          → HasPartitions (g.D.TapeDisk.last l.initial.disk) l.initial.self.spill [] records pending
          → ArePieces (query_of l.initial.self) (g.H.KeyHash.hash_of l.initial.self.groups.hash) records pieces
          → CountUpTo (query_of l.initial.self) l.initial.self.plan.most pieces
          → IsReading l.initial.self.plan (g.H.KeyHash.hash_of l.initial.self.groups.hash)
          (standing l.self.groups l.self.spill (g.D.TapeDisk.last l.disk)) pieces pending;
    }

abbrev pub decreases-loop-hash : goal.decreases-loop-hash
decreases-loop-hash g l = ahead_number l.self.spill
