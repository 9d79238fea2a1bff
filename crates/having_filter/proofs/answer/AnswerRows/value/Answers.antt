use Rattle.std.specs.Prelude.{◌≡◌, ◌∷◌, length, slice_index_or, refl}
use Rattle.std.proofs.Common.{sym, ◌∙◌, ap, subst, arith}
use Rattle.having_filter.proofs.Words.{outcome_of, LieAs}
use Rattle.packed_rows.specs.ConcatenatedRowsLaws.{cut_long, row_at, row_long, element_is}
use Rattle.having_filter.proofs.answer.AnswerRows.value.Goals as goal

pub bound-requires : goal.bound-requires
bound-requires c =
    let low = c.requires.row in
    let long : length c.args.self.now ≡ length c.self.inside.ends.items = ap length (sym c.self.view_is)
    ∙ cut_long c.self.inside.values 0 c.self.inside.ends.items in
    let same = ap length c.deref.ensures.value in
    omega (arith, low, long, same)

pub value-requires : goal.value-requires
value-requires c =
    let old = c.self.inside in
    let to = slice_index_or old.ends.items c.args.row 0 in
    let at = row_at old.values old.ends.items c.args.self.now c.args.row c.bound.result to 0
    (subst (LieAs old.values old.ends.items) c.self.view_is c.self.invariant)
    c.requires.row
    (c.bound.ensures ∙ ap (λ ends. slice_index_or (0 ∷ ends) c.args.row 0) c.deref.ensures.value)
    refl in
    let within = c.requires.item in
    let long = row_long old.values c.args.self.now c.args.row c.bound.result to at in
    let high = at.high in
    omega (arith, within, long, high)

pub returns : goal.returns
returns c =
    let old = c.self.inside in
    let to = slice_index_or old.ends.items c.args.row 0 in
    let at = row_at old.values old.ends.items c.args.self.now c.args.row c.bound.result to 0
    (subst (LieAs old.values old.ends.items) c.self.view_is c.self.invariant)
    c.requires.row
    (c.bound.ensures ∙ ap (λ ends. slice_index_or (0 ∷ ends) c.args.row 0) c.deref.ensures.value)
    refl in
    element_is old.values c.args.self.now c.args.row c.bound.result to c.args.item (outcome_of c.value.result) at c.requires.item
    c.value.ensures
