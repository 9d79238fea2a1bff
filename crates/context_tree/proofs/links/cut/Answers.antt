use Rattle.std.proofs.Common.{◌<◌, List, Option, None, length, sym, ap, ◌∙◌, subst, arith}
use Rattle.context_tree.proofs.Words.{is_under, AreFree, Link}
use Rattle.context_tree.proofs.Clearing.{length-cleared, cut-too, free-emptied, low-there}
use Rattle.context_tree.proofs.links.cut.Goals as goal

pub empty-requires-clause-there : goal.empty-requires-clause-there
empty-requires-clause-there c =
    let old = c.args.links.now in
    omega (
      arith,
      ap length c.prune-next.ensures.links,
      length-cleared (is_under old c.args.slot) None 0 old,
      low-there old c.args.slot
          c.requires.there,
    )

pub empty-requires-clause-room : goal.empty-requires-clause-room
empty-requires-clause-room c =
    let old = c.args.links.now in
    c.prune-next.ensures.free.long c.args.slot c.requires.below
    (omega (
      arith,
      ap length c.prune-next.ensures.links,
      length-cleared (is_under old c.args.slot) None 0 old,
      low-there old c.args.slot
          c.requires.there,
    ))

pub returns : goal.returns
returns c = record {
  links =
      let old = c.args.links.now in
      c.empty.ensures.links ∙ cut-too old c.requires.forest c.args.slot None old c.prune-next.new.links c.prune-next.ensures.links
      (low-there old c.args.slot c.requires.there);
  free =
      let old = c.args.links.now in
      let low : c.args.slot < length c.prune-next.new.links = omega (
        arith,
        ap length c.prune-next.ensures.links,
        length-cleared
            (is_under old c.args.slot) None 0 old,
        low-there old c.args.slot c.requires.there,
      ) in
      subst (λ (ls : List (Option Link)). AreFree ls c.empty.new.free) (sym c.empty.ensures.links)
      (free-emptied c.prune-next.new.links c.prune-next.new.free c.empty.new.free c.args.slot c.prune-next.ensures.free low
      c.empty.ensures.long c.empty.ensures.marked);
  past = c.prune-next.ensures.past;
}
