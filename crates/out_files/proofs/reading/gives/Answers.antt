use Rattle.std.proofs.Common.{◌∙◌, ◌++◌, None, Some, ap, sym, append_assoc, take}
use Rattle.std.proofs.lemmas.Bool.Decides.{Decides-eqb}
use Rattle.std.proofs.KnownBytes.{Consumes-trans}
use Rattle.std.proofs.lemmas.Slice.Eq.{strip_prefix_is}
use Rattle.out_files.proofs.GivesFacts.{other-front, other-piece}
use Rattle.out_files.proofs.reading.gives.Goals as goal

-- the bytes that are left begin with the piece
pub loop-count-preserved : goal.loop-count-preserved
loop-count-preserved g c =
    let before = c.loop-count.invariant in
    let piece = take c.in_ok-count.count c.read.new.buf in
    let rest = strip_prefix_is Decides-eqb c.loop-count.left.now piece (Some c.in-Some.rest) c.in-Some.ensures.cases in (
      before.0 ++ piece,
      Consumes-trans _ _ _ _ _ before.1 c.in_ok-count.ensures.bytes.0,
      before.2 ∙ ap (λ l. before.0 ++ l) rest ∙ sym (append_assoc before.0 piece c.in-Some.rest.now),
    )

-- or they don't
pub returns-in-None-clause-other : goal.returns-in-None-clause-other
returns-in-None-clause-other g c _ =
    let before = c.loop-count.invariant in
    let piece = take c.in_ok-count.count c.read.new.buf in
    let other = strip_prefix_is Decides-eqb c.loop-count.left.now piece None c.in-None.ensures.cases in
    other-front _ _ _ _ _ before.1 before.2 (other-piece _ _ piece _ c.in_ok-count.ensures.bytes.0 other)
