use Rattle.std.specs.Prelude.{◌≡◌, ◌≤◌, length}
use Rattle.command_streams.specs.Disks.{is_in_memory}
use Rattle.command_files.specs.Reporting.{output_of}
use Rattle.command_files.specs.Taking.{TakesAll, manner_of, state_of}
use Rattle.command_files.proofs.session.Session.take_files.Given as goal

abbrev pub invariant-loop-path : goal.invariant-loop-path
invariant-loop-path g l =
    record {
      within : l.path-index ≤ length l.paths;
      place : l.place ≡ l.path-index;
      disk : is_in_memory l.self.disk ≡ is_in_memory l.fn.self.disk;
      piped : l.self.reporter.is_piped ≡ l.fn.self.reporter.is_piped;
      listed : l.self.target.listed ≡ l.fn.self.target.listed;
      taken : TakesAll (manner_of l.kind l.means l.fn.self.disk l.fn.self.reporter.is_piped l.fn.self.target.listed) 1 l.path-index
          (state_of l.fn.replica l.fn.self.disk l.fn.self.executor (output_of g.W.Write.contents l.fn.self.reporter))
          (state_of l.replica l.self.disk l.self.executor (output_of g.W.Write.contents l.self.reporter)) l.fn.self.passed l.self.passed;
    }
