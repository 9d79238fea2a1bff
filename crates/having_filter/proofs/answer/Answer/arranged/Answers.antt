use Rattle.std.proofs.Common.{rules, tests}
use Rattle.std.proofs.lemmas.List.{nil_from_length}
use Rattle.having_filter.proofs.OrderingLaws.{as_made}
use Rattle.having_filter.proofs.answer.Answer.arranged.Goals as goal

pub returns-then-is_empty-clause-arranged : goal.returns-then-is_empty-clause-arranged
returns-then-is_empty-clause-arranged c =
    let terms = c.args.arrangement.now.order.items in
    as_made terms c.args.rows (nil_from_length terms (search (rules, tests)))
