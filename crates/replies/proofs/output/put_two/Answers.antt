use Rattle.replies.proofs.OutputLaws.{stopped_first, wrote_second}
use Rattle.replies.proofs.output.put_two.Goals as goal

pub returns-in_err-put_all : goal.returns-in_err-put_all
returns-in_err-put_all g c =
    stopped_first g.W.Write.contents c.args.writer.now c.put_all.new.writer c.args.first.now c.args.second.now c.from_residual.result
    c.from_residual.ensures.0
    c.in_err-put_all.ensures.0 c.in_err-put_all.ensures.1

pub returns : goal.returns
returns g c =
    wrote_second g.W.Write.contents c.args.writer.now c.put_all.new.writer c.put_all-2.new.writer c.args.first.now c.args.second.now
    c.put_all-2.result
    c.in_ok-put_all.ensures.0 c.in_ok-put_all.ensures.1 c.put_all-2.ensures
