use Rattle.summary_codec.proofs.LoopLaws.{put_last}
use Rattle.summary_codec.proofs.reading.put_part.Goals as goal

pub returns-in-Ok : goal.returns-in-Ok
returns-in-Ok c =
    put_last c.args.parts.now.entries c.insert.new.self.entries c.args.origin c.args.part (c.in-Ok.ensures.was_ordered) c.requires
    c.in-Ok.ensures.entries
