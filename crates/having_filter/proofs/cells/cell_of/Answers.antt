use Rattle.std.specs.Prelude.{string_bytes}
use Rattle.std.proofs.Common.{rules}
use Rattle.having_filter.proofs.AnswerLaws.{grows_none, part_behind}
use Rattle.having_filter.proofs.cells.cell_of.Goals as goal

pub returns-in_err-push_str-in-Text-clause-grows : goal.returns-in_err-push_str-in-Text-clause-grows
returns-in_err-push_str-in-Text-clause-grows c = grows_none (string_bytes c.args.texts.now) (string_bytes c.push_str.new.self)
    (search rules)

pub returns-in_ok-push_str-in-Text-clause-lies : goal.returns-in_ok-push_str-in-Text-clause-lies
returns-in_ok-push_str-in-Text-clause-lies c =
    part_behind (string_bytes c.args.texts.now) c.in-Text.text.now (string_bytes c.push_str.new.self) c.len-from.result c.len.result
    (search rules) (search rules) (search rules) (search rules)
