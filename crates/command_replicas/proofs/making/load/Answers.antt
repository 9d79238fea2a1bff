use Rattle.std.proofs.lemmas.Result.{err_from_is_err_and}
use Rattle.command_replicas.proofs.FileLaws.{no_summary}
use Rattle.command_replicas.proofs.making.load.Goals as goal

pub returns : goal.returns
returns c = record { loads = c.in_ok-load.ensures.loaded }

pub returns-in_err-load : goal.returns-in_err-load
returns-in_err-load c =
    let e = err_from_is_err_and c.from_residual.result c.from_residual.ensures.1 in
    record { loads = rw e.1 (no_summary c.args.file.now _ _ e.2 c.in_err-load.ensures.fault) }
