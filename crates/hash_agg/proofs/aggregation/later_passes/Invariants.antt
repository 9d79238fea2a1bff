use Rattle.std.specs.Prelude.{◌≡◌, ◌+◌, ◌≤◌, ◌∷◌, length}
use Rattle.hash_agg.proofs.Words.{DiskFrame, waiting_number, concatenated, Continues, CountsWithin, IsOver, query_of, setting_in, AreSafe}
use Rattle.hash_agg.proofs.LaterLaws.{IsWaiting}
use Rattle.hash_agg.proofs.aggregation.later_passes.Given as goal

abbrev pub invariant-loop-pass : goal.invariant-loop-pass
invariant-loop-pass g l =
    record {
      over : IsOver l.pass;
      plan : l.pass.plan ≡ l.fn.pass.plan;
      hash : l.pass.groups.hash ≡ l.fn.pass.groups.hash;
      finds : l.pass.groups.table.hash ≡ l.fn.pass.groups.table.hash;
      within : CountsWithin l.fn.pass.plan.limit l.fn.work l.work;
      safe : AreSafe (query_of l.fn.pass) l.fn.pass.plan.most (concatenated (l.fn.run ∷ l.others.items));
      few : length (concatenated (l.fn.run ∷ l.others.items)) + waiting_number l.pass.spill ≤ length l.fn.run
          + waiting_number l.fn.pass.spill;
      waits :
          Continues g.H.KeyHash.hash_of g.D.TapeDisk l.fn.pass l.fn.disk l.fn.run l.fn.work
          (λ pieces start writes. IsWaiting (query_of l.fn.pass) (setting_in g.H.KeyHash.hash_of l.fn.pass) pieces
          (concatenated (l.fn.run ∷ l.others.items)) l.pass.spill (g.D.TapeDisk.last l.disk) start l.work writes
          (g.D.TapeDisk.writes l.disk));
      disk : DiskFrame g.D.TapeDisk 0 l.fn.disk l.disk;
    }

abbrev pub decreases-loop-pass : goal.decreases-loop-pass
decreases-loop-pass g l = waiting_number l.pass.spill
