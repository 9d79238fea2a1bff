use Rattle.std.specs.Prelude.{◌≡◌, ◌∷◌, length, slice_index_or}
use Rattle.std.proofs.Common.{sym, ◌∙◌, ap, subst, arith}
use Rattle.packed_rows.specs.ConcatenatedRows.{LieAs}
use Rattle.packed_rows.specs.ConcatenatedRowsLaws.{RowAt, cut_long, row_at, row_long}
use Rattle.having_filter.proofs.answer.AnswerRows.width.Goals as goal

pub index-requires : goal.index-requires
index-requires c =
    let low = c.requires in
    let long : length c.args.self.now ≡ length c.self.inside.ends.items = ap length (sym c.self.view_is)
    ∙ cut_long c.self.inside.values 0 c.self.inside.ends.items in
    let counted = c.self.inside.ends.ok in
    omega (arith, low, long, counted)

pub bound-requires : goal.bound-requires
bound-requires c =
    let low = c.requires in
    let long : length c.args.self.now ≡ length c.self.inside.ends.items = ap length (sym c.self.view_is)
    ∙ cut_long c.self.inside.values 0 c.self.inside.ends.items in
    let same = ap length c.deref.ensures.value in
    omega (arith, low, long, same)

-- where the row lies
at : (c : goal.After-bound) → RowAt c.self.inside.values c.bound.result c.index.result.now c.args.self.now c.args.row
at c =
    let old = c.self.inside in
    row_at old.values old.ends.items c.args.self.now c.args.row c.bound.result c.index.result.now c.index.result.now
    (subst (LieAs old.values old.ends.items) c.self.view_is c.self.invariant)
    c.requires
    (c.bound.ensures ∙ ap (λ ends. slice_index_or (0 ∷ ends) c.args.row 0) c.deref.ensures.value)
    c.index.ensures

pub overflow_sub-result : goal.overflow_sub-result
overflow_sub-result c = (at c).low

pub returns : goal.returns
returns c = sym (row_long c.self.inside.values c.args.self.now c.args.row c.bound.result c.index.result.now (at c))
