use Rattle.std.specs.Prelude.{None}
use Rattle.std.specs.List.{Any}
use Rattle.std.proofs.Common.{subst}
use Rattle.std.proofs.lemmas.Result.{IfOk-weaker}
use Rattle.replica_merge.specs.Pieces.{HasGroups, bound_of}
use Rattle.replica_merge.proofs.PieceLaws.{fewer_some, fewer_all}
use Rattle.replica_merge.proofs.pieces.next_spans.Goals as goal

pub returns-then-has_groups : goal.returns-then-has_groups
returns-then-has_groups c =
    record {
      bound = bound_of c.bounding_key-key.result;
      next = c.in_ok-next.ensures;
      fewer = λ some. fewer_some (bound_of c.bounding_key-key.result) c.args.spans.now c.in_ok-next.next.items c.in_ok-next.ensures
          (subst (Any HasGroups) c.deref.ensures.value (c.has_groups.ensures.0 c.if-has_groups.true));
    }

pub returns : goal.returns
returns c =
    IfOk-weaker c.spans_below-2.result _ _
    (λ next are. record { bound = None; next = are; fewer = fewer_all c.args.spans.now next.items are })
    c.spans_below-2.ensures
