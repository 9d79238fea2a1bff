use Rattle.std.specs.Prelude.{◌≤◌, List, [], map, take}
use Rattle.hash_agg.proofs.Words.{DiskFrame, IsReady, KeepsPass, query_of, setting_in, brought, Given, AllGive, AreSafe, WritesPages}
use Rattle.hash_agg.proofs.Words.{standing, entries_of, Holds, total, all_pieces, brought_by}
use Rattle.hash_agg.proofs.aggregation.first_pass.Given as goal

abbrev pub invariant-loop-input : goal.invariant-loop-input
invariant-loop-input g l =
    record {
      reads : (givens : List Given) → AllGive (query_of l.fn.pass) (map brought l.inputs) givens
          → Holds (query_of l.fn.pass) (setting_in g.H.KeyHash.hash_of l.fn.pass)
          (standing l.pass.groups l.pass.spill (g.D.TapeDisk.last l.disk)) (all_pieces (take l.input-index (map brought l.inputs))
          (take l.input-index givens)) [] [];
      brings : (givens : List Given) → AllGive (query_of l.fn.pass) (map brought l.inputs) givens
          → total (entries_of l.pass.groups) l.pass.spill ≤ brought_by (query_of l.fn.pass)
          (all_pieces (take l.input-index (map brought l.inputs)) (take l.input-index givens));
      safe : AreSafe (query_of l.fn.pass) l.fn.pass.plan.most (entries_of l.pass.groups);
      pages : WritesPages (g.D.TapeDisk.writes l.fn.disk) l.fn.pass.spill (g.D.TapeDisk.writes l.disk) l.pass.spill;
      ready : IsReady l.pass;
      kept : KeepsPass l.fn.pass l.pass;
      disk : DiskFrame g.D.TapeDisk 0 l.fn.disk l.disk;
    }
