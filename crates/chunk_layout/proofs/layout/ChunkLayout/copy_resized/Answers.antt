use Rattle.chunk_layout.proofs.ContentsLaws.{put-resized}
use Rattle.chunk_layout.proofs.layout.ChunkLayout.copy_resized.Goals as goal

pub returns : goal.returns
returns c = put-resized c.args.self.now c.copy.new.self c.put_zeros.new.self c.args.from c.args.to c.args.len c.args.n c.min-kept.result
    c.requires.len c.min-kept.ensures c.copy.ensures c.put_zeros.ensures
