use Rattle.table_print.proofs.NameLaws.{checked_names}
use Rattle.table_print.proofs.laws.json_names_differ.Goals as goal

pub returns : goal.returns
returns c = checked_names
