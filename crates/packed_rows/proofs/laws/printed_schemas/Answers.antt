use Rattle.packed_rows.specs.Lemmas.PrintedColumns as laws
use Rattle.packed_rows.specs.PrintedLaws.{one_schema}
use Rattle.packed_rows.proofs.laws.printed_schemas.Goals as goal

pub returns : goal.returns
returns c = record { read_again = laws.printed_again; one_schema = one_schema }
