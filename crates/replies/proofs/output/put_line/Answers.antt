use Rattle.std.specs.Prelude.{◌++◌, codes}
use Rattle.replies.proofs.OutputLaws.{stopped_first, wrote_second}
use Rattle.replies.proofs.output.put_line.Goals as goal

pub returns-in_err-put_two : goal.returns-in_err-put_two
returns-in_err-put_two g c =
    stopped_first g.W.Write.contents c.args.writer.now c.put_two.new.writer (c.args.word.now ++ c.args.rest.now) (codes "\n")
    c.from_residual.result c.from_residual.ensures.0
    c.in_err-put_two.ensures.0 c.in_err-put_two.ensures.1

pub returns : goal.returns
returns g c =
    wrote_second g.W.Write.contents c.args.writer.now c.put_two.new.writer c.put_all.new.writer (c.args.word.now ++ c.args.rest.now)
    (codes "\n") c.put_all.result
    c.in_ok-put_two.ensures.0 c.in_ok-put_two.ensures.1 c.put_all.ensures
