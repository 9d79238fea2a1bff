use Rattle.std.specs.Prelude.{string_bytes, ◌++◌, ◌∷◌, []}
use Rattle.std.proofs.Common.{◌∙◌, ap, subst, sym, rules}
use Rattle.std.proofs.lemmas.Result.{err_from_is_err_and}
use Rattle.having_filter.proofs.Words.{outcome_of, outcomes_in, AllLieIn}
use Rattle.having_filter.proofs.AnswerLaws.{all_stay, same_outcomes, all_with, outcomes_with}
use Rattle.having_filter.proofs.cells.Values.push.Goals as goal

pub invariant_of-self-in_err-cell : goal.invariant_of-self-in_err-cell
invariant_of-self-in_err-cell c =
    let old = c.self.inside in
    subst (AllLieIn (string_bytes c.cell_of.new.texts)) (sym c.in_ok-reserve.ensures.items)
    (all_stay (string_bytes old.texts) (string_bytes c.cell_of.new.texts) old.cells.items c.cell_of.ensures.grows c.self.invariant)

pub returns-in_err-cell-clause-refused : goal.returns-in_err-cell-clause-refused
returns-in_err-cell-clause-refused c =
    let old = c.self.inside in
    let p = err_from_is_err_and c.from_residual-in_err-cell.result c.from_residual-in_err-cell.ensures.1 in
    rw p.1
    (ap (outcomes_in (string_bytes c.cell_of.new.texts)) c.in_ok-reserve.ensures.items
    ∙ same_outcomes (string_bytes old.texts) (string_bytes c.cell_of.new.texts) old.cells.items c.cell_of.ensures.grows c.self.invariant
    ∙ c.self.view_is)

pub invariant_of-self-2 : goal.invariant_of-self-2
invariant_of-self-2 c =
    let old = c.self.inside in
    all_with (string_bytes old.texts) (string_bytes c.cell_of.new.texts) old.cells.items c.push.new.self.items c.in_ok-cell.cell
    c.cell_of.ensures.grows c.self.invariant
    (search rules) c.in_ok-cell.ensures.lies

pub returns-clause-pushed : goal.returns-clause-pushed
returns-clause-pushed c =
    let old = c.self.inside in
    outcomes_with (string_bytes old.texts) (string_bytes c.cell_of.new.texts) old.cells.items c.push.new.self.items c.in_ok-cell.cell
    (outcome_of c.args.value) c.cell_of.ensures.grows c.self.invariant
    (search rules) c.in_ok-cell.ensures.outcome
    ∙ ap (λ before. before ++ outcome_of c.args.value ∷ []) c.self.view_is
