use Rattle.std.specs.Prelude.{◌≡◌, ◌≤◌, ◌++◌, ◌&&◌, [], List}
use Rattle.std.specs.List.{AllByRecursion, Any}
use Rattle.std.proofs.Common.{sym, ◌∙◌, ap, subst}
use Rattle.std.proofs.lemmas.Result.{on_ok_weaker}
use Rattle.agg_protocol.specs.States.{most_rows}
use Rattle.grouping_model.specs.Aggregates.{Outcome}
use Rattle.grouping_model.specs.Query.{Query}
use Rattle.grouping_model.specs.MemberLaws.{false_is_not_true}
use Rattle.having_filter.specs.Meaning.{meaning}
use Rattle.hash_agg.specs.Inputs.{all_rows, IsInput}
use Rattle.replica_merge.specs.declared.pieces.Span.{Span}
use Rattle.replica_merge.specs.Pieces.{IsSpan, brought_to, HasLeft, AreOfNext, ShowPiece}
use Rattle.replica_merge.proofs.PieceLaws.{SoFar, so_far_begins, so_far_next, so_far_some, so_far_none, next_inputs, nexts_within, next_few}
use Rattle.replica_merge.proofs.pieces.rows_of_left.Goals.{then-is_empty, else-is_empty}
use Rattle.replica_merge.proofs.pieces.rows_of_left.Goals as goal

pub loop-left-init : goal.loop-left-init
loop-left-init g c = (
  [],
  g.met.S.RowSink.none c.args.rows.now,
  so_far_begins (meaning c.args.query.now) c.args.spans.items c.requires.inputs c.requires.within c.requires.few,
)

pub rows_of_piece-requires-clause-inputs : goal.rows_of_piece-requires-clause-inputs
rows_of_piece-requires-clause-inputs g c =
    let q : Query = meaning c.args.query.now in
    let next : AreOfNext c.loop-left.left.items c.in_ok-left.left.items = subst (λ olds. AreOfNext olds c.in_ok-left.left.items)
    c.deref-in-loop-left.ensures.value c.in_ok-left.ensures in
    subst (λ spans. AllByRecursion (IsInput q) (brought_to spans)) (sym c.deref-in-loop-left-2.ensures.value)
    (next_inputs q next.bound c.loop-left.left.items c.in_ok-left.left.items next.next c.loop-left.invariant.2.inputs).0

pub rows_of_piece-requires-clause-within : goal.rows_of_piece-requires-clause-within
rows_of_piece-requires-clause-within g c =
    let next : AreOfNext c.loop-left.left.items c.in_ok-left.left.items = subst (λ olds. AreOfNext olds c.in_ok-left.left.items)
    c.deref-in-loop-left.ensures.value c.in_ok-left.ensures in
    subst (AllByRecursion IsSpan) (sym c.deref-in-loop-left-2.ensures.value)
    (nexts_within next.bound c.loop-left.left.items c.in_ok-left.left.items next.next)

pub rows_of_piece-requires-clause-few : goal.rows_of_piece-requires-clause-few
rows_of_piece-requires-clause-few g c =
    let next : AreOfNext c.loop-left.left.items c.in_ok-left.left.items = subst (λ olds. AreOfNext olds c.in_ok-left.left.items)
    c.deref-in-loop-left.ensures.value c.in_ok-left.ensures in
    subst (λ spans. all_rows (brought_to spans) ≤ most_rows) (sym c.deref-in-loop-left-2.ensures.value)
    (next_few next.bound c.loop-left.left.items c.in_ok-left.left.items next.next c.loop-left.invariant.2.few).0

pub loop-left-preserved : goal.loop-left-preserved
loop-left-preserved g c =
    let q : Query = meaning c.args.query.now in
    let next : AreOfNext c.loop-left.left.items c.in_ok-left.left.items = subst (λ olds. AreOfNext olds c.in_ok-left.left.items)
    c.deref-in-loop-left.ensures.value c.in_ok-left.ensures in
    let before = c.loop-left.invariant in
    let given = c.in_ok-none.ensures in
    let both : (c.loop-left.is_empty && c.in_ok-none.none) ≡ c.if-is_empty.is_empty =
    elim c.if-is_empty.branch [
      | then-is_empty w ↦ ap (λ b. b && c.in_ok-none.none) w.if-is_empty.true ∙ sym w.is_empty-is
      | else-is_empty w ↦ ap (λ b. b && c.in_ok-none.none) w.if-is_empty.false ∙ sym w.if-is_empty.false ∙ sym w.is_empty-is
    ] in (
      before.0 ++ given.0,
      g.met.S.RowSink.both c.args.rows.now c.loop-left.rows c.rows_of_piece.new.rows before.0 given.0 before.1 given.1,
      subst (λ b. SoFar q c.args.spans.items c.in_ok-left.left.items b (before.0 ++ given.0)) both
          (so_far_next q c.args.spans.items c.loop-left.left.items c.in_ok-left.left.items c.loop-left.is_empty c.in_ok-none.none before.0
          given.0 next before.2
          (subst (λ spans. ShowPiece q spans given.0 c.in_ok-none.none) c.deref-in-loop-left-2.ensures.value given.2)),
    )

pub returns-then-is_empty-2 : goal.returns-then-is_empty-2
returns-then-is_empty-2 g c =
    let q : Query = meaning c.args.query.now in
    let all = c.loop-left.invariant in
    on_ok_weaker c.project_into-then-is_empty-2.result
    (λ more. (
      all.0 ++ more.0,
      g.met.S.RowSink.both c.args.rows.now c.loop-left.rows c.project_into-then-is_empty-2.new.rows all.0 more.0 all.1 more.1,
      so_far_none q c.args.spans.items c.loop-left.left.items c.loop-left.is_empty all.0 more.0 _
          (λ any. false_is_not_true (sym c.loop-left-test.false
          ∙ c.has_left.ensures.1 (subst (Any HasLeft) (sym c.deref.ensures.value) any)))
          c.if-is_empty-2.true all.2 c.new.ensures more.2,
    ))
    c.project_into-then-is_empty-2.ensures.given

pub returns : goal.returns
returns g c =
    let all = c.loop-left.invariant in (
      all.0,
      all.1,
      so_far_some (meaning c.args.query.now) c.args.spans.items c.loop-left.left.items c.loop-left.is_empty all.0
          (λ any. false_is_not_true (sym c.loop-left-test.false
          ∙ c.has_left.ensures.1 (subst (Any HasLeft) (sym c.deref.ensures.value) any)))
          c.if-is_empty-2.false all.2,
    )
