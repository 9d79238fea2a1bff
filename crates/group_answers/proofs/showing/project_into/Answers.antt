use Rattle.std.specs.Prelude.{◌≡◌, ◌≢◌, [], length}
use Rattle.std.proofs.Common.{refl, sym, ◌∙◌, ap, rules}
use Rattle.std.proofs.lemmas.List.{nil_from_length}
use Rattle.std.proofs.lemmas.Result.{on_ok_weaker, on_err_weaker}
use Rattle.grouping_model.specs.Query.{Query}
use Rattle.grouping_model.specs.Answer.{answered, rows_of}
use Rattle.having_filter.specs.Meaning.{meaning}
use Rattle.group_runs.specs.StandingLaws.{groups_long}
use Rattle.group_answers.specs.Stopping.{StoppedAmong}
use Rattle.group_answers.proofs.ShownLaws.{answered_some}
use Rattle.group_answers.proofs.showing.project_into.Goals as goal

pub returns-then-is_empty-clause-given : goal.returns-then-is_empty-clause-given
returns-then-is_empty-clause-given g c =
    let q : Query = meaning c.args.query.now in
    let none : c.args.run.now ≡ [] = search rules in
    on_ok_weaker c.rows_of_none.result
    (λ took. (
      rows_of q (answered q []),
      took,
      λ most groups low are. ap (λ groups. rows_of q (answered q groups)) (sym (nil_from_length groups (sym (groups_long q most
          c.args.run.now groups are) ∙ ap length none))),
    ))
    c.rows_of_none.ensures.given

pub returns-clause-given : goal.returns-clause-given
returns-clause-given g c =
    let q : Query = meaning c.args.query.now in
    let some : c.args.run.now ≢ [] = search rules in
    on_ok_weaker c.rows_of_run.result
    (λ given. (
      given.0,
      given.1,
      λ most groups low are.
          let left : length groups ≢ 0 = λ e. some (nil_from_length c.args.run.now (groups_long q most c.args.run.now groups are ∙ e)) in
          given.2 most groups low are ∙ ap (rows_of q) (sym (answered_some q groups left)),
    ))
    c.rows_of_run.ensures.given

-- ---- where rows stop coming

pub returns-then-is_empty-clause-stopped : goal.returns-then-is_empty-clause-stopped
returns-then-is_empty-clause-stopped g c =
    let q : Query = meaning c.args.query.now in
    on_err_weaker c.rows_of_none.result
    (λ stopped. record {
      given = [];
      between = c.args.rows.now;
      taken = g.met.S.RowSink.none c.args.rows.now;
      first = λ most groups low are. (rows_of q (answered q groups), refl);
      stopped = stopped;
    })
    c.rows_of_none.ensures.stopped

pub returns-clause-stopped : goal.returns-clause-stopped
returns-clause-stopped g c =
    let q : Query = meaning c.args.query.now in
    let some : c.args.run.now ≢ [] = search rules in
    on_err_weaker c.rows_of_run.result
    (λ (among : StoppedAmong g.S.RowSink q c.args.run.now (rows_of q) c.args.rows.now c.rows_of_run.new.rows). record {
      given = among.given;
      between = among.between;
      taken = among.taken;
      first = λ most groups low are.
          let left : length groups ≢ 0 = λ e. some (nil_from_length c.args.run.now (groups_long q most c.args.run.now groups are ∙ e)) in
          let behind = among.first most groups low are in
          (behind.0, behind.1 ∙ ap (rows_of q) (sym (answered_some q groups left)));
      stopped = among.stopped;
    })
    c.rows_of_run.ensures.stopped
