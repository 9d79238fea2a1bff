use Rattle.std.proofs.Common.{sym, ◌∙◌, ap, Some}
use Rattle.having_filter.proofs.AnswerLaws.{cell_at}
use Rattle.having_filter.proofs.cells.Values.value.Goals as goal

pub shown-requires : goal.shown-requires
shown-requires c = (cell_at c.as_str.result.now _ c.deref.result.now _ c.args.self.now c.args.from c.args.place c.as_str.ensures.value
    c.deref.ensures.value c.self.invariant c.self.view_is c.requires).lies

pub returns : goal.returns
returns c =
    (cell_at c.as_str.result.now _ c.deref.result.now _ c.args.self.now c.args.from c.args.place c.as_str.ensures.value
    c.deref.ensures.value c.self.invariant c.self.view_is c.requires).is
    ∙ ap Some (sym c.shown.ensures)
