use Rattle.table_print.proofs.WriterLaws.{line_goes_on}
use Rattle.table_print.proofs.csv_table.put_field.Goals.{in-Ok, in-Err}
use Rattle.table_print.proofs.csv_table.put_field.Goals as goal

pub returns : goal.returns
returns c = elim c.match-write_field.branch [
  | in-Ok w ↦
      let said = w.in-Ok.ensures in
      rw w.result-is (λ start fields few within.
      line_goes_on start c.args.writer.now c.write_field.new.self fields c.args.field.now few within said.text said.same said.count
      said.wrote said.stays)
  | in-Err w ↦ rw w.result-is tt
]
