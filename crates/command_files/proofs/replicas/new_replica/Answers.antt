use Rattle.std.specs.Prelude.{◌≢◌, ℕ, List, Result, Ok, Err, IfErr, codes, string_bytes}
use Rattle.std.proofs.Common.{inr}
use Rattle.clap.specs.declared.parser.matches.ArgMatches.{ArgMatches}
use Rattle.refusals.specs.declared.refusal.Refusal.TheVariants.{NoMemory}
use Rattle.command_replicas.specs.Commands.{IsNotNew}
use Rattle.command_words.specs.declared.subcommands.Subcommand.TheVariants.{New}
use Rattle.command_streams.specs.declared.problem.Problem.{Problem}
use Rattle.command_files.specs.Causes.{HasNoReplica}
use Rattle.command_files.specs.Texts.{IsTextTold}
use Rattle.command_files.proofs.replicas.new_replica.Goals as goal

-- two texts that are told make no replica
not_made : {A : Type 0} (matches : ArgMatches) (columns query : List ℕ) (result : Result A Problem)
    → IsTextTold matches (codes "columns-file") (codes "columns") columns
    → IsTextTold matches (codes "query-file") (codes "query") query
    → IfErr result (λ problem. problem.why ≢ NoMemory → IsNotNew columns query problem.why)
    → IfErr result (λ problem. HasNoReplica New matches problem.why)
not_made matches columns query (Ok made) columns_told query_told why = tt
not_made matches columns query (Err problem) columns_told query_told why = inr (inr (record {
  columns = columns;
  query = query;
  are_told = record { columns_told = columns_told; query_told = query_told };
  not_new = why;
}))

pub returns-clause-why : goal.returns-clause-why
returns-clause-why g c =
    not_made c.args.matches.now (string_bytes c.in_ok-columns.columns.text) (string_bytes c.in_ok-query.query.text) c.replica_of.result
    c.in_ok-columns.ensures.told c.in_ok-query.ensures.told c.replica_of.ensures.why
