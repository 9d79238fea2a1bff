use Rattle.std.specs.Prelude.{◌≡◌, ◌+◌, ◌++◌, ◌∷◌, [], ℕ, length, map, take, drop, slice_index_or}
use Rattle.std.proofs.Common.{sym, ◌∙◌, ap, subst, arith}
use Rattle.std.proofs.lemmas.List.{map-append, take_all}
use Rattle.grouping_model.specs.Aggregates.{outcome}
use Rattle.agg_protocol.specs.Results.{outcome_of}
use Rattle.agg_protocol.specs.States as states
use Rattle.agg_protocol.specs.States.{most_rows}
use Rattle.agg_protocol.specs.declared.kind.AggKind.TheVariants.{CountRows}
use Rattle.agg_protocol.specs.Kinds.{kind_shape}
use Rattle.agg_library.specs.StateRows.{DenotesAll}
use Rattle.agg_library.specs.StateRowLaws.{raised}
use Rattle.group_runs.specs.PlaceLaws.{take_found}
use Rattle.group_answers.proofs.ShownLaws.{partials_long, next_state}
use Rattle.group_answers.proofs.showing.finish_states.Goals as goal

pub finish-requires : goal.finish-requires
finish-requires c =
    let r = c.requires in
    let rest = c.loop-kind.rest.now in
    let next = next_state r.0 c.args.kinds.now c.loop-kind.kind-index CountRows rest r.1 c.loop-kind-test.true
    (c.loop-kind.invariant.left r.0 r.1 r.2) in
    let front : c.split_at.result.0.now ≡ _ = c.split_at.ensures.front ∙ ap (λ n. take n rest) c.width.ensures in (
      next.partial,
      raised r.0 most_rows (kind_shape (slice_index_or c.args.kinds.now c.loop-kind.kind-index CountRows))
          c.split_at.result.0.now next.partial r.3
          (subst (λ b. states.Denotes r.0 (kind_shape (slice_index_or c.args.kinds.now c.loop-kind.kind-index CountRows)) b next.partial)
          (sym front) next.denotes),
    )

pub loop-kind-preserved : goal.loop-kind-preserved
loop-kind-preserved c =
    let i : ℕ = c.loop-kind.kind-index in
    let kinds = c.args.kinds.now in
    let rest = c.loop-kind.rest.now in
    let front : c.split_at.result.0.now ≡ _ = c.split_at.ensures.front ∙ ap (λ n. take n rest) c.width.ensures in
    let back : c.split_at.result.1.now ≡ _ = c.split_at.ensures.back ∙ ap (λ n. drop n rest) c.width.ensures in
    record {
      shown =
          λ most ps low denotes.
          let next = next_state most kinds i CountRows rest ps c.loop-kind-test.true (c.loop-kind.invariant.left most ps denotes) in
          let before = c.loop-kind.invariant.shown most ps low denotes in
          let one : outcome_of c.finish.result ≡ outcome next.partial =
          c.finish.ensures next.partial (raised most most_rows (kind_shape (slice_index_or kinds i CountRows)) c.split_at.result.0.now
          next.partial low (subst (λ b. states.Denotes most (kind_shape (slice_index_or kinds i CountRows)) b next.partial) (sym front)
          next.denotes)) in
          ap (map outcome_of) c.in_ok-push.ensures.items
          ∙ map-append outcome_of c.loop-kind.values.items (c.finish.result ∷ [])
          ∙ (λ j. before j ++ one j ∷ [])
          ∙ sym (ap (map outcome) (take_found ps i next.partial next.at) ∙ map-append outcome (take i ps) (next.partial ∷ []));
      left =
          λ most ps denotes.
          let next = next_state most kinds i CountRows rest ps c.loop-kind-test.true (c.loop-kind.invariant.left most ps denotes) in
          subst (λ b. DenotesAll most (drop (i + 1) kinds) b (drop (i + 1) ps)) (sym back) next.others;
    }

pub returns : goal.returns
returns c =
    λ most ps low denotes.
    let past = c.loop-kind-test.false in
    let long : length ps ≡ length c.args.kinds.now = partials_long most c.args.kinds.now c.args.states.now ps denotes in
    c.loop-kind.invariant.shown most ps low denotes ∙ ap (map outcome) (take_all c.loop-kind.kind-index ps (omega (arith, past, long)))
