use Rattle.command_replicas.specs.Lemmas.FileLaws.{read_of_file, packed_of_file}
use Rattle.test_refusals.proofs.sites.Site.next_batch.Goals as goal

pub returns-clause-rows : goal.returns-clause-rows
returns-clause-rows c =
    let batch = c.in_ok-batch.ensures in
    packed_of_file _ _ c.in_ok-batch.batch (read_of_file _ _ _ c.in_ok-batch.batch c.schema-schema.ensures.columns batch.origin batch.number
    batch.few batch.told batch.rows)
