use Rattle.std.specs.Prelude.{◌≡◌, length}
use Rattle.std.proofs.Common.{sym, ◌∙◌, ap, subst, arith, rules}
use Rattle.std.proofs.lemmas.List.{take_all}
use Rattle.group_runs.specs.Runs.{Rises}
use Rattle.packed_rows.specs.ConcatenatedRows.{concatenated, ends_of}
use Rattle.group_runs.proofs.segments.Segments.try_clone.Goals as goal

pub invariant_of-result : goal.invariant_of-result
invariant_of-result c =
    let ends : c.in_ok-to_vec.field-0.items ≡ c.self.inside.ends.items = search rules in
    let past = c.loop-segment-test.false in
    let same = ap length c.deref-segment-items.ensures.value in
    let segments : c.loop-segment.segments.items ≡ c.self.inside.segments.items = c.loop-segment.invariant
    ∙ take_all c.loop-segment.segment-index c.self.inside.segments.items (omega (arith, past, same)) in
    record {
      ends_are = ends ∙ c.self.invariant.ends_are ∙ ap (ends_of 0) (sym segments);
      rises = subst (λ cs. Rises (concatenated cs)) (sym segments) c.self.invariant.rises;
    }
