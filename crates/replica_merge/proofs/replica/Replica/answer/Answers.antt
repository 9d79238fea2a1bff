use Rattle.std.specs.Prelude.{◌≡◌, refl, ◌++◌, All, IfOk, List, length, map}
use Rattle.std.proofs.Common.{◌∙◌, ap, subst}
use Rattle.std.proofs.lemmas.Result.{IfOk-weaker}
use Rattle.grouping_model.specs.Aggregates.{Outcome}
use Rattle.grouping_model.specs.Answer.{answer}
use Rattle.replica_merge.specs.Lemmas.Words.{World, IsWorld, kinds, meaning, Held, Fits, told, counted_part, brought_by, IsShown}
use Rattle.replica_merge.proofs.AnswerLaws.{IsOfParts, shows, only_run, whole_run, listed_inputs, listed_few, shown_wide, shown_answer}
use Rattle.grouping_model.specs.Order.{map_arrangement, arranged}
use Rattle.having_filter.specs.Meaning.{order_term}
use Rattle.replica_merge.specs.Pieces.{left_by}
use Rattle.replica_merge.proofs.AnswerLaws.{shown_rows, alone_rows, arranged_shown, not_only}
use Rattle.replica_merge.proofs.replica.Replica.answer.Goals as goal

pub finalize_and_project-requires : goal.finalize_and_project-requires
finalize_and_project-requires c =
    let held : Held = record { query = c.self.inside.query; parts = c.self.inside.parts.entries } in
    let all : brought_by c.deref.result.now ≡ map counted_part held.parts = ap brought_by c.deref.ensures.value ∙ c.in_ok-parts.ensures in
    shows held c.in-Some.run'.now (only_run held c.deref.result.now c.in-Some.run'.now c.self.invariant all c.in-Some.ensures.alone)

pub returns-in-Some : goal.returns-in-Some
returns-in-Some c = record {
  rows =
      let held : Held = record { query = c.self.inside.query; parts = c.self.inside.parts.entries } in
      let all : brought_by c.deref.result.now ≡ map counted_part held.parts = ap brought_by c.deref.ensures.value ∙ c.in_ok-parts.ensures in
      subst (λ (h : Held). IfOk c.finalize_and_project.result (IsShown h)) c.self.view_is
      (IfOk-weaker c.finalize_and_project.result _ _ (λ rows shown. alone_rows held c.deref.result.now c.in-Some.run'.now rows
      c.self.invariant all c.in-Some.ensures.alone shown) c.finalize_and_project.ensures);
  width =
      let held : Held = record { query = c.self.inside.query; parts = c.self.inside.parts.entries } in
      let all : brought_by c.deref.result.now ≡ map counted_part held.parts = ap brought_by c.deref.ensures.value ∙ c.in_ok-parts.ensures in
      let of : IsOfParts held c.in-Some.run'.now = only_run held c.deref.result.now c.in-Some.run'.now c.self.invariant all
      c.in-Some.ensures.alone in
      subst (λ (h : Held). IfOk c.finalize_and_project.result (All (λ (row : List Outcome). length row ≡ length (meaning h.query).items)))
      c.self.view_is
      (IfOk-weaker c.finalize_and_project.result _ _ (λ rows shown. shown_wide held c.in-Some.run'.now rows of shown)
      c.finalize_and_project.ensures);
  answer =
      let held : Held = record { query = c.self.inside.query; parts = c.self.inside.parts.entries } in
      let all : brought_by c.deref.result.now ≡ map counted_part held.parts = ap brought_by c.deref.ensures.value ∙ c.in_ok-parts.ensures in
      let of : IsOfParts held c.in-Some.run'.now = only_run held c.deref.result.now c.in-Some.run'.now c.self.invariant all
      c.in-Some.ensures.alone in
      subst (λ (h : Held). IfOk c.finalize_and_project.result (λ rows. (world : World) → IsWorld (kinds h.query.columns) world
      → Fits world h → rows ≡ answer (meaning h.query) world (told h.parts))) c.self.view_is
      (IfOk-weaker c.finalize_and_project.result _ _ (λ rows shown world is fits. shown_answer held c.in-Some.run'.now rows of shown world
      fits) c.finalize_and_project.ensures);
}

pub rows_of_left-requires-clause-inputs : goal.rows_of_left-requires-clause-inputs
rows_of_left-requires-clause-inputs c =
    listed_inputs c.self.inside.query c.self.inside.parts.entries (left_by c.in_ok-spans.spans.items) c.self.invariant
    c.in_ok-spans.ensures.left

pub rows_of_left-requires-clause-few : goal.rows_of_left-requires-clause-few
rows_of_left-requires-clause-few c =
    listed_few c.self.inside.query c.self.inside.parts.entries (left_by c.in_ok-spans.spans.items) c.self.invariant
    c.in_ok-spans.ensures.left

pub returns-clause-width : goal.returns-clause-width
returns-clause-width c =
    let held : Held = record { query = c.self.inside.query; parts = c.self.inside.parts.entries } in
    let given = c.in_ok-rows_of_left.ensures in
    let of : IsOfParts held given.2.run = whole_run held (left_by c.in_ok-spans.spans.items) given.2.run c.self.invariant
    c.in_ok-spans.ensures.left given.2.union in
    subst (λ (h : Held). IfOk c.arranged.result (All (λ (row : List Outcome). length row ≡ length (meaning h.query).items)))
    c.self.view_is
    (IfOk-weaker c.arranged.result _ _ (λ rows is. shown_wide held given.2.run rows of (arranged_shown (meaning held.query)
    c.in_ok-spans.spans.items given.0 rows (is ∙ (λ i. arranged (map_arrangement order_term (c.arrangement.ensures i)) ((given.1
    ∙ ap (λ those. those ++ given.0) c.new-rows.ensures) i))) given.2))
    c.arranged.ensures.arranged)

pub returns-clause-answer : goal.returns-clause-answer
returns-clause-answer c =
    let held : Held = record { query = c.self.inside.query; parts = c.self.inside.parts.entries } in
    let given = c.in_ok-rows_of_left.ensures in
    let of : IsOfParts held given.2.run = whole_run held (left_by c.in_ok-spans.spans.items) given.2.run c.self.invariant
    c.in_ok-spans.ensures.left given.2.union in
    subst (λ (h : Held). IfOk c.arranged.result (λ rows. (world : World) → IsWorld (kinds h.query.columns) world
    → Fits world h → rows ≡ answer (meaning h.query) world (told h.parts))) c.self.view_is
    (IfOk-weaker c.arranged.result _ _ (λ rows is world of_kinds fits. shown_answer held given.2.run rows of (arranged_shown
    (meaning held.query) c.in_ok-spans.spans.items given.0 rows (is ∙ (λ i. arranged (map_arrangement order_term (c.arrangement.ensures i))
    ((given.1 ∙ ap (λ those. those ++ given.0) c.new-rows.ensures) i))) given.2) world fits)
    c.arranged.ensures.arranged)

pub returns-clause-rows : goal.returns-clause-rows
returns-clause-rows c =
    let held : Held = record { query = c.self.inside.query; parts = c.self.inside.parts.entries } in
    let given = c.in_ok-rows_of_left.ensures in
    subst (λ (h : Held). IfOk c.arranged.result (IsShown h)) c.self.view_is
    (IfOk-weaker c.arranged.result _ _ (λ rows is. shown_rows held (left_by c.in_ok-spans.spans.items) given.2.run rows
    c.self.invariant c.in_ok-spans.ensures.left given.2.union
    (not_only held c.deref.result.now given.2.run (ap brought_by c.deref.ensures.value ∙ c.in_ok-parts.ensures)
    (c.in_default.ensures.others refl)) (arranged_shown (meaning held.query) c.in_ok-spans.spans.items given.0 rows
    (is ∙ (λ i. arranged (map_arrangement order_term (c.arrangement.ensures i)) ((given.1 ∙ ap (λ those. those ++ given.0)
    c.new-rows.ensures) i))) given.2))
    c.arranged.ensures.arranged)
