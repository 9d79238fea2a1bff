use Rattle.std.specs.Prelude.{◌≡◌, ◌≢◌, []}
use Rattle.std.proofs.Common.{refl, sym, ◌∙◌, ap, inl, subst, arith, rules, tests}
use Rattle.std.proofs.lemmas.List.{nil_from_length}
use Rattle.std.proofs.lemmas.Result.{on_ok_weaker}
use Rattle.grouping_model.specs.Query.{Query}
use Rattle.grouping_model.specs.Grouping.{Group, partials}
use Rattle.grouping_model.specs.Parts.{functions}
use Rattle.having_filter.specs.Meaning.{meaning}
use Rattle.group_runs.specs.Standing.{AreStates}
use Rattle.group_runs.specs.StandingLaws.{initial_of}
use Rattle.grouping_model.specs.Answer.{rows_of, answered_of_none}
use Rattle.list_laws.specs.Outcomes.{always_err}
use Rattle.group_answers.specs.Stopping.{Stopped}
use Rattle.group_answers.proofs.ShownLaws.{empty_stands, answered_none}
use Rattle.group_answers.proofs.showing.rows_of_none.Goals as goal

pub push_group-requires : goal.push_group-requires
push_group-requires g c =
    let q : Query = meaning c.args.query.now in
    let none : c.keys.result.now ≡ [] = nil_from_length c.keys.result.now (search (rules, tests)) in (
      0,
      ([], partials q []),
      empty_stands q c.deref.result.now (sym c.keys.ensures.keys
          ∙ none) (subst (λ b. AreStates (functions q) 0 b (partials q [])) (sym c.deref.ensures.value)
          (initial_of q c.agg_kinds.result.now c.in_ok-states.states.items c.agg_kinds.ensures.functions c.in_ok-states.ensures)),
      omega arith,
    )

pub returns-clause-given : goal.returns-clause-given
returns-clause-given g c =
    let q : Query = meaning c.args.query.now in
    let none : c.keys.result.now ≡ [] = nil_from_length c.keys.result.now (search (rules, tests)) in
    let group : Group = ([], partials q []) in
    on_ok_weaker c.push_group.result
    (λ given.
    let rows = given.2 0 group (omega arith) (empty_stands q c.deref.result.now (sym c.keys.ensures.keys
    ∙ none) (subst (λ b. AreStates (functions q) 0 b (partials q [])) (sym c.deref.ensures.value)
    (initial_of q c.agg_kinds.result.now c.in_ok-states.states.items c.agg_kinds.ensures.functions c.in_ok-states.ensures))) in
    subst (g.S.RowSink.took c.args.rows.now c.push_group.new.rows) (rows ∙ ap (λ keys. rows_of q (answered_of_none q keys)) (sym (sym
    c.keys.ensures.keys ∙ none))) given.1)
    c.push_group.ensures.given

pub returns-clause-stopped : goal.returns-clause-stopped
returns-clause-stopped g c = c.push_group.ensures.stopped

pub returns-in_err-states-clause-stopped : goal.returns-in_err-states-clause-stopped
returns-in_err-states-clause-stopped g c =
    always_err {P = Stopped g.S.RowSink c.args.rows.now c.args.rows.now} c.from_residual.result (inl refl)

pub returns-then-not-is_empty-clause-given : goal.returns-then-not-is_empty-clause-given
returns-then-not-is_empty-clause-given g c =
    let q : Query = meaning c.args.query.now in
    let some : c.keys.result.now ≢ [] = search (rules, tests) in
    subst (g.S.RowSink.took c.args.rows.now c.args.rows.now)
    (sym (ap (rows_of q) (answered_none q q.keys (subst (λ keys. keys ≢ []) c.keys.ensures.keys some))))
    (g.met.S.RowSink.none c.args.rows.now)
