use Rattle.summary_codec.proofs.LoopLaws.{put_last}
use Rattle.summary_codec.proofs.gathering.put_batch.Goals as goal

pub returns-in-Ok : goal.returns-in-Ok
returns-in-Ok c =
    put_last c.args.early.now.entries c.insert.new.self.entries c.args.number c.args.rows (c.in-Ok.ensures.was_ordered) c.requires
    c.in-Ok.ensures.entries
