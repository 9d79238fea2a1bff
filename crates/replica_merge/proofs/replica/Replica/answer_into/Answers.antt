use Rattle.std.specs.Prelude.{◌≡◌, refl, map}
use Rattle.std.proofs.Common.{◌∙◌, ap, subst}
use Rattle.std.proofs.lemmas.Result.{on_ok_weaker}
use Rattle.grouping_model.specs.Order.{unarranged}
use Rattle.replica_merge.specs.Lemmas.Words.{meaning, Held, IsAnswerOf, brought_by, counted_part}
use Rattle.replica_merge.specs.Pieces.{left_by}
use Rattle.replica_merge.proofs.AnswerLaws.{shows, only_run, listed_inputs, listed_few, alone_answer, not_only, pieces_answer}
use Rattle.replica_merge.proofs.replica.Replica.answer_into.Goals as goal

pub project_into-requires : goal.project_into-requires
project_into-requires g c =
    let held : Held = record { query = c.self.inside.query; parts = c.self.inside.parts.entries } in
    let all : brought_by c.deref.result.now ≡ map counted_part held.parts = ap brought_by c.deref.ensures.value ∙ c.in_ok-parts.ensures in
    shows held c.in-Some.run'.now (only_run held c.deref.result.now c.in-Some.run'.now c.self.invariant all c.in-Some.ensures.alone)

pub returns-in-Some : goal.returns-in-Some
returns-in-Some g c =
    let held : Held = record { query = c.self.inside.query; parts = c.self.inside.parts.entries } in
    let all : brought_by c.deref.result.now ≡ map counted_part held.parts = ap brought_by c.deref.ensures.value ∙ c.in_ok-parts.ensures in
    let none : (meaning held.query).arrangement ≡ unarranged = ap (λ (h : Held). (meaning h.query).arrangement) c.self.view_is
    ∙ c.requires in
    on_ok_weaker c.project_into.result
    (λ given. (
      given.0,
      given.1,
      subst (λ (h : Held). IsAnswerOf h given.0) c.self.view_is
          (alone_answer held c.deref.result.now c.in-Some.run'.now given.0 none c.self.invariant all c.in-Some.ensures.alone given.2),
    ))
    c.project_into.ensures.given

pub rows_of_left-requires-clause-inputs : goal.rows_of_left-requires-clause-inputs
rows_of_left-requires-clause-inputs g c =
    listed_inputs c.self.inside.query c.self.inside.parts.entries (left_by c.in_ok-spans.spans.items) c.self.invariant
    c.in_ok-spans.ensures.left

pub rows_of_left-requires-clause-few : goal.rows_of_left-requires-clause-few
rows_of_left-requires-clause-few g c =
    listed_few c.self.inside.query c.self.inside.parts.entries (left_by c.in_ok-spans.spans.items) c.self.invariant
    c.in_ok-spans.ensures.left

pub returns : goal.returns
returns g c =
    let held : Held = record { query = c.self.inside.query; parts = c.self.inside.parts.entries } in
    let none : (meaning held.query).arrangement ≡ unarranged = ap (λ (h : Held). (meaning h.query).arrangement) c.self.view_is
    ∙ c.requires in
    on_ok_weaker c.rows_of_left.result
    (λ given. (
      given.0,
      given.1,
      subst (λ (h : Held). IsAnswerOf h given.0) c.self.view_is
          (pieces_answer held c.in_ok-spans.spans.items given.0 none c.self.invariant c.in_ok-spans.ensures.left given.2
          (not_only held c.deref.result.now given.2.run (ap brought_by c.deref.ensures.value ∙ c.in_ok-parts.ensures)
          (c.in_default.ensures.others refl))),
    ))
    c.rows_of_left.ensures
