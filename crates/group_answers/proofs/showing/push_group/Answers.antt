use Rattle.std.specs.Prelude.{◌≡◌, ◌∷◌, [], true, false, map}
use Rattle.std.proofs.Common.{refl, sym, ◌∙◌, ap, inl, inr, rules}
use Rattle.std.proofs.lemmas.Result.{on_ok_weaker, on_err_weaker}
use Rattle.grouping_model.specs.Aggregates.{Plain, outcome}
use Rattle.grouping_model.specs.Condition.{is_met}
use Rattle.grouping_model.specs.Query.{Query}
use Rattle.grouping_model.specs.Parts.{functions}
use Rattle.grouping_model.specs.Answer.{outcome_at, source_in}
use Rattle.packed_rows.specs.View.{row_of}
use Rattle.agg_protocol.specs.Results.{outcome_of}
use Rattle.having_filter.specs.Meaning.{meaning}
use Rattle.group_runs.specs.StandingLaws.{states_by}
use Rattle.list_laws.specs.Outcomes.{always_err}
use Rattle.group_answers.specs.Stopping.{Stopped}
use Rattle.group_answers.proofs.ShownLaws.{sources_are, key_is, shown, not_shown}
use Rattle.group_answers.proofs.showing.push_group.Goals as goal

pub unpack-requires : goal.unpack-requires
unpack-requires g c = let r = c.requires in (r.1.0, r.2.of_kinds, r.2.key)

pub finish_states-requires : goal.finish_states-requires
finish_states-requires g c =
    let q : Query = meaning c.args.query.now in
    let r = c.requires in
    (r.0, r.1.1, states_by (functions q) r.0 c.agg_kinds.result.now c.args.states.now r.1.1 c.agg_kinds.ensures.functions r.2.states, r.3)

pub returns-then-not-having_true-clause-given : goal.returns-then-not-having_true-clause-given
returns-then-not-having_true-clause-given g c = (
  [],
  g.met.S.RowSink.none c.args.rows.now,
  λ most group low stands.
      let q : Query = meaning c.args.query.now in
      let same = key_is q most c.args.key.now c.args.states.now c.unpack.new.key.items group c.in_ok-unpack.ensures.0
      c.in_ok-unpack.ensures.1 stands in
      let keys : map outcome_of c.key_values.new.values.items ≡ map Plain group.0 = c.in_ok-key_values.ensures
      ∙ ap (λ vs. map Plain (row_of vs)) c.deref.ensures.value ∙ ap (map Plain) same in
      let results : map outcome_of c.finish_states.new.values.items ≡ map outcome group.1 =
      c.in_ok-finish_states.ensures most group.1 low (states_by (functions q) most c.agg_kinds.result.now c.args.states.now group.1
      c.agg_kinds.ensures.functions stands.states) in
      let read : outcome_at (map outcome_of c.deref-2.result.now) (map outcome_of c.deref-3.result.now) ≡ source_in group =
      sources_are _ _ group (ap (map outcome_of) c.deref-2.ensures.value ∙ keys) (ap (map outcome_of) c.deref-3.ensures.value ∙ results) in
      let met : is_met (outcome_at (map outcome_of c.deref-2.result.now) (map outcome_of c.deref-3.result.now)) q.having
      ≡ false = search rules in
      not_shown q group (ap (λ read. is_met read q.having) (sym read) ∙ met),
)

pub returns-clause-given : goal.returns-clause-given
returns-clause-given g c =
    on_ok_weaker c.push_row.result
    (λ pushed. (
      map outcome_of c.deref-6.result.now ∷ [],
      pushed,
      λ most group low stands.
          let q : Query = meaning c.args.query.now in
          let same = key_is q most c.args.key.now c.args.states.now c.unpack.new.key.items group c.in_ok-unpack.ensures.0
          c.in_ok-unpack.ensures.1 stands in
          let keys : map outcome_of c.key_values.new.values.items ≡ map Plain group.0 = c.in_ok-key_values.ensures
          ∙ ap (λ vs. map Plain (row_of vs)) c.deref.ensures.value ∙ ap (map Plain) same in
          let results : map outcome_of c.finish_states.new.values.items ≡ map outcome group.1 =
          c.in_ok-finish_states.ensures most group.1 low (states_by (functions q) most c.agg_kinds.result.now c.args.states.now group.1
          c.agg_kinds.ensures.functions stands.states) in
          let read : outcome_at (map outcome_of c.deref-2.result.now) (map outcome_of c.deref-3.result.now) ≡ source_in group =
          sources_are _ _ group (ap (map outcome_of) c.deref-2.ensures.value ∙ keys) (ap (map outcome_of) c.deref-3.ensures.value
          ∙ results) in
          let met : is_met (outcome_at (map outcome_of c.deref-2.result.now) (map outcome_of c.deref-3.result.now)) q.having
          ≡ true = search rules in
          let again : outcome_at (map outcome_of c.deref-4.result.now) (map outcome_of c.deref-5.result.now) ≡ source_in group =
          sources_are _ _ group (ap (map outcome_of) c.deref-4.ensures.value ∙ keys) (ap (map outcome_of) c.deref-5.ensures.value
          ∙ results) in
          let items : map outcome_of c.deref-6.result.now ≡ map (source_in group) q.items =
          ap (map outcome_of) c.deref-6.ensures.value ∙ c.in_ok-items_of.ensures ∙ (λ i. map (again i) (c.sources.ensures i)) in
          shown q group (map outcome_of c.deref-6.result.now) (ap (λ read. is_met read q.having) (sym read) ∙ met) items,
    ))
    c.push_row.ensures.taken

-- ---- a sink that the row does not reach, and one that refuses it

pub returns-in_err-unpack-clause-stopped : goal.returns-in_err-unpack-clause-stopped
returns-in_err-unpack-clause-stopped g c =
    always_err {P = Stopped g.S.RowSink c.args.rows.now c.args.rows.now} c.from_residual.result (inl refl)

pub returns-in_err-key_values-clause-stopped : goal.returns-in_err-key_values-clause-stopped
returns-in_err-key_values-clause-stopped g c =
    always_err {P = Stopped g.S.RowSink c.args.rows.now c.args.rows.now} c.from_residual-in_err-key_values.result (inl refl)

pub returns-in_err-finish_states-clause-stopped : goal.returns-in_err-finish_states-clause-stopped
returns-in_err-finish_states-clause-stopped g c =
    always_err {P = Stopped g.S.RowSink c.args.rows.now c.args.rows.now} c.from_residual-in_err-finish_states.result (inl refl)

pub returns-in_err-items_of-clause-stopped : goal.returns-in_err-items_of-clause-stopped
returns-in_err-items_of-clause-stopped g c =
    always_err {P = Stopped g.S.RowSink c.args.rows.now c.args.rows.now} c.from_residual-in_err-items_of.result (inl refl)

pub returns-clause-stopped : goal.returns-clause-stopped
returns-clause-stopped g c = on_err_weaker c.push_row.result (λ refused. inr refused) c.push_row.ensures.untaken
