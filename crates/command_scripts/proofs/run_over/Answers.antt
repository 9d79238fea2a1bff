use Rattle.command_scripts.proofs.run_over.Goals as goal

pub returns : goal.returns
returns g c =
    let told = c.run_observed-run.ensures in
    record {
      run = c.run_observed-run.result;
      ended = c.run_ending.ensures;
      headline = told.headline;
      runs = told.runs;
    }
