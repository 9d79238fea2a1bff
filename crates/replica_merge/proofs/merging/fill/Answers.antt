use Rattle.std.proofs.Common.{◌∙◌, sym, ap, subst}
use Rattle.std.specs.List.Sorted.{IsStrictlySortedBy}
use Rattle.std.specs.Ordering.{nat_cmp}
use Rattle.origin_prefix.specs.Lemmas.ByNumber.{numbers, rising_rest}
use Rattle.replica_merge.specs.Replicas.{Parts, part_at, filled}
use Rattle.replica_merge.specs.Lemmas.MergedLaws.{back_at}
use Rattle.replica_merge.proofs.merging.fill.Goals as goal

pub loop-origin-preserved : goal.loop-origin-preserved
loop-origin-preserved c =
    let old : Parts = c.loop-origin.parts.entries in
    let rising = subst (λ rest. IsStrictlySortedBy nat_cmp (numbers rest)) c.in-Some.ensures.steps c.loop-origin.invariant.rest in
    record {
      at = λ o. back_at old c.next.new.self c.in-Some.origin c.in-Some.part c.put_back.new.parts.entries rising c.put_back.ensures.at o
          ∙ ap (λ rest. filled (part_at old o) (part_at rest o)) (sym c.in-Some.ensures.steps) ∙ c.loop-origin.invariant.at o;
      rest = rising_rest (c.in-Some.origin, c.in-Some.part) c.next.new.self rising;
      rising = c.put_back.ensures.rising;
      can = tt;
      finite = tt;
    }
