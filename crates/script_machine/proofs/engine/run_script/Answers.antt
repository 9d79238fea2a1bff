use Rattle.std.proofs.Common.{arith}
use Rattle.script_io.specs.Lemmas.RecordFacts.{length-records_of}
use Rattle.script_machine.proofs.engine.run_script.Goals as goal

pub answer_all-outcome-requires-clause-few : goal.answer_all-outcome-requires-clause-few
answer_all-outcome-requires-clause-few g c =
    let few = length-records_of c.args.script.now in
    rw c.new-records.ensures (omega arith)
