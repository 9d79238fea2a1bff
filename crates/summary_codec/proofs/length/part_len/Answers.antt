use Rattle.std.specs.Prelude.{length, flat_map}
use Rattle.std.proofs.Common.{ap, arith}
use Rattle.summary_codec.specs.File.{batch_bytes, group_bytes}
use Rattle.summary_codec.proofs.CountedLaws.{part_long}
use Rattle.summary_codec.proofs.length.part_len.Goals as goal

pub returns : goal.returns
returns c = λ origin.
    let long = part_long (origin, c.args.part.now) in
    let run = ap (λ entries. length (flat_map group_bytes entries)) c.run.ensures in
    let early = ap (λ batches. length (flat_map batch_bytes batches)) c.early.ensures in
    omega (arith, long, run, early, c.groups_len.ensures, c.batches_len.ensures, c.longer.ensures, c.longer-2.ensures)
