use Rattle.std.specs.Prelude.{◌≡◌, ◌+◌, ◌++◌, ◌∷◌, [], refl, drop}
use Rattle.std.proofs.Common.{ap, subst, arith}
use Rattle.std.proofs.lemmas.List.{drop_all}
use Rattle.grouping_model.specs.Query.{Query}
use Rattle.having_filter.specs.Meaning.{meaning}
use Rattle.group_runs.specs.Runs.{Entry}
use Rattle.group_runs.specs.PlaceLaws.{drop_at}
use Rattle.grouping_model.specs.Answer.{rows_of}
use Rattle.list_laws.specs.Outcomes.{always_err}
use Rattle.group_answers.specs.Stopping.{StoppedAmong}
use Rattle.group_answers.proofs.ShownLaws.{LeftOver, first_left, none_left, all_left}
use Rattle.group_answers.proofs.showing.rows_of_run.Goals as goal

pub loop-place-init : goal.loop-place-init
loop-place-init g c = (
  [],
  g.met.S.RowSink.none c.args.rows.now,
  λ most groups low are. all_left (meaning c.args.query.now) most c.args.run.now [] groups refl are,
)

pub push_group-requires : goal.push_group-requires
push_group-requires g c =
    let q : Query = meaning c.args.query.now in
    let r = c.requires in
    let entry : Entry = (c.group.result.0.now, c.group.result.1.now) in
    let left : drop c.loop-place.place c.args.run.now ≡ entry ∷ drop (c.loop-place.place + 1) c.args.run.now = drop_at c.args.run.now
    c.loop-place.place entry c.group.ensures in
    let before = c.loop-place.invariant in
    let first = first_left q r.0 entry (drop (c.loop-place.place + 1) c.args.run.now) before.0 r.1
    (subst (λ es. LeftOver q r.0 es before.0 r.1) left (before.2 r.0 r.1 r.3 r.2)) in
    (r.0, first.group, first.stands, r.3)

pub loop-place-preserved : goal.loop-place-preserved
loop-place-preserved g c =
    let before = c.loop-place.invariant in
    let given = c.in_ok-push_group.ensures.given in (
      before.0 ++ given.0,
      g.met.S.RowSink.both c.args.rows.now c.loop-place.rows c.push_group.new.rows before.0 given.0 before.1 given.1,
      λ most groups low are.
          let q : Query = meaning c.args.query.now in
          let entry : Entry = (c.group.result.0.now, c.group.result.1.now) in
          let left : drop c.loop-place.place c.args.run.now ≡ entry ∷ drop (c.loop-place.place + 1) c.args.run.now
          = drop_at c.args.run.now c.loop-place.place entry c.group.ensures in
          let first = first_left q most entry (drop (c.loop-place.place + 1) c.args.run.now) before.0 groups
          (subst (λ es. LeftOver q most es before.0 groups) left (before.2 most groups low are)) in
          first.behind (before.0 ++ given.0) (ap (λ rows. before.0 ++ rows) (given.2 most first.group low first.stands)),
    )

pub returns-in_err-push_group-clause-stopped : goal.returns-in_err-push_group-clause-stopped
returns-in_err-push_group-clause-stopped g c =
    let q : Query = meaning c.args.query.now in
    let before = c.loop-place.invariant in
    always_err {P = StoppedAmong g.S.RowSink q c.args.run.now (rows_of q) c.args.rows.now c.push_group.new.rows} c.from_residual.result
    (record {
      given = before.0;
      between = c.loop-place.rows;
      taken = before.1;
      first = λ most groups low are. let over = before.2 most groups low are in (rows_of q over.others, over.whole);
      stopped = c.in_err-push_group.ensures.stopped;
    })

pub returns-clause-given : goal.returns-clause-given
returns-clause-given g c =
    let past = c.loop-place-test.false in
    let counted = c.len-place-end.ensures.length in
    let all = c.loop-place.invariant in (
      all.0,
      all.1,
      λ most groups low are.
          none_left (meaning c.args.query.now) most (drop c.loop-place.place c.args.run.now) all.0 groups
          (drop_all c.loop-place.place c.args.run.now (omega (arith, past, counted))) (all.2 most groups low are),
    )
