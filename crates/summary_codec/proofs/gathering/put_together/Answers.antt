use Rattle.std.specs.Prelude.{refl}
use Rattle.origin_prefix.specs.Parts.{Batches}
use Rattle.summary_codec.proofs.GatheringLaws.{are_all, old_are_some}
use Rattle.summary_codec.proofs.gathering.put_together.Goals as goal

pub returns : goal.returns
returns c =
    let old : Batches = c.args.early.now.entries in
    let batches : Batches = c.args.batches.now in
    let more = c.in_ok-put_some.ensures in
    let whole = c.in_ok-put_some-2.ensures in
    are_all old batches c.put_some-2.new.early.entries c.requires
    (whole.some old c.requires (more.some old c.requires (old_are_some old batches c.requires)))
    (λ n had. whole.had n (more.had n had))
    (λ n there. whole.each refl n there)
