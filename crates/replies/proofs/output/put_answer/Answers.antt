use Rattle.std.specs.Prelude.{decimal, codes}
use Rattle.replies.specs.Text.{line}
use Rattle.replies.proofs.OutputLaws.{stopped_first, wrote_second}
use Rattle.replies.proofs.output.put_answer.Goals as goal

pub returns-in_err-put_count : goal.returns-in_err-put_count
returns-in_err-put_count g c =
    stopped_first g.W.Write.contents c.args.writer.now c.put_count.new.writer (line (codes "answer ") (decimal c.args.rows))
    c.args.table.now c.from_residual.result c.from_residual.ensures.0
    c.in_err-put_count.ensures.0 c.in_err-put_count.ensures.1

pub returns : goal.returns
returns g c =
    wrote_second g.W.Write.contents c.args.writer.now c.put_count.new.writer c.put_all.new.writer
    (line (codes "answer ") (decimal c.args.rows)) c.args.table.now c.put_all.result
    c.in_ok-put_count.ensures.0 c.in_ok-put_count.ensures.1 c.put_all.ensures
