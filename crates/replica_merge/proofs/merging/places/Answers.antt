use Rattle.std.specs.Prelude.{◌≡◌, option_map}
use Rattle.std.proofs.Common.{◌∙◌, sym, ap, subst}
use Rattle.std.specs.BTreeMap.{insert_entry}
use Rattle.std.specs.Ordering.{nat_cmp}
use Rattle.replica_merge.specs.Lemmas.Words.{either, Part, empty, Parts, part_at}
use Rattle.replica_merge.specs.Lemmas.DeliveredLaws.{when_fine}
use Rattle.replica_merge.specs.Lemmas.MergedLaws.{placed}
use Rattle.replica_merge.proofs.merging.places.Goals as goal

pub loop-origin-preserved : goal.loop-origin-preserved
loop-origin-preserved c =
    let old : Parts = c.loop-origin.places.entries in
    let all : Parts = c.into_iter-origin-iterator.result in
    let put : c.insert.new.self.entries ≡ insert_entry nat_cmp old c.in-Some.origin.now empty = when_fine c.insert.result _
    c.insert.ensures.entries (sym c.if-is_err.ensures.value) ∙ ap (insert_entry nat_cmp old c.in-Some.origin.now) c.empty.ensures in
    record {
      at = λ o.
          ap (λ ps. either (part_at ps o) (option_map (λ (_ : Part). empty) (part_at c.next.new.self o))) put
          ∙ placed old c.next.new.self c.in-Some.origin.now _ (part_at all o) o
          (subst (λ rest. either (part_at old o) (option_map (λ (_ : Part). empty) (part_at rest o))
          ≡ option_map (λ (_ : Part). empty) (part_at all o)) c.in-Some.ensures.steps (c.loop-origin.invariant.at o));
      rising = c.insert.ensures.ordered;
      can = tt;
      finite = tt;
    }
