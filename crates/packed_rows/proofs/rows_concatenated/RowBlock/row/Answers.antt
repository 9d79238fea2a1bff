use Rattle.std.specs.Prelude.{◌≡◌, ◌∷◌, length, slice_index_or, slice_range, Some}
use Rattle.std.proofs.Common.{sym, ◌∙◌, ap, subst, arith}
use Rattle.packed_rows.specs.ConcatenatedRows.{LieAs}
use Rattle.packed_rows.specs.ConcatenatedRowsLaws.{RowAt, cut_long, row_at}
use Rattle.packed_rows.proofs.rows_concatenated.RowBlock.row.Goals as goal

pub bound-from-requires : goal.bound-from-requires
bound-from-requires c =
    let low = c.requires in
    let long : length c.args.self.now ≡ length c.self.inside.ends.items = ap length (sym c.self.view_is)
    ∙ cut_long c.self.inside.bytes.items 0 c.self.inside.ends.items in
    let same = ap length c.deref.ensures.value in
    omega (arith, low, long, same)

pub index-requires : goal.index-requires
index-requires c =
    let low = c.requires in
    let long : length c.args.self.now ≡ length c.self.inside.ends.items = ap length (sym c.self.view_is)
    ∙ cut_long c.self.inside.bytes.items 0 c.self.inside.ends.items in
    let counted = c.self.inside.ends.ok in
    omega (arith, low, long, counted)

-- where the row lies
at : (c : goal.After-row_known-1) → RowAt c.self.inside.bytes.items c.bound-from.result c.index.result.now c.args.self.now c.args.place
at c =
    let old = c.self.inside in
    row_at old.bytes.items old.ends.items c.args.self.now c.args.place c.bound-from.result c.index.result.now c.index.result.now
    (subst (LieAs old.bytes.items old.ends.items) c.self.view_is c.self.invariant)
    c.requires
    (c.bound-from.ensures ∙ ap (λ ends. slice_index_or (0 ∷ ends) c.args.place 0) c.deref.ensures.value)
    c.index.ensures

pub part-requires-clause-rises : goal.part-requires-clause-rises
part-requires-clause-rises c = (at c).low

pub part-requires-clause-within : goal.part-requires-clause-within
part-requires-clause-within c =
    let high = (at c).high in
    let same = ap length c.deref-2.ensures.value in
    omega (arith, high, same)

pub returns : goal.returns
returns c =
    let old = c.self.inside in
    let there = row_at old.bytes.items old.ends.items c.args.self.now c.args.place c.bound-from.result c.index.result.now c.index.result.now
    (subst (LieAs old.bytes.items old.ends.items) c.self.view_is c.self.invariant)
    c.requires
    (c.bound-from.ensures ∙ ap (λ ends. slice_index_or (0 ∷ ends) c.args.place 0) c.deref.ensures.value)
    c.index.ensures in
    there.there ∙ ap Some
    (sym (c.part.ensures ∙ ap (λ bytes. slice_range bytes c.bound-from.result c.index.result.now) c.deref-2.ensures.value))
