use Rattle.replica_merge.proofs.SavedLaws.{one_held}
use Rattle.replica_merge.proofs.replica.Replica.load_sharing.Goals as goal

pub returns : goal.returns
returns c =
    record {
      loaded = record {
        summary = c.in_ok-query.ensures.read;
        only = λ held is. one_held c.args.bytes.now (record { query = c.in_ok-query.query; parts = c.in_ok-query.parts.entries }) held
            c.in_ok-query.ensures.read is;
      };
      fault = tt;
    }
