use Rattle.std.specs.Prelude.{◌++◌, ◌∷◌, [], is_some}
use Rattle.std.proofs.Common.{sym, ◌∙◌, ap, arith}
use Rattle.hash_agg.proofs.Words.{need, packed_keys, GroupsState, entries_of}
use Rattle.hash_agg.proofs.NeedLaws.{within_told, beyond_told, fits_by}
use Rattle.hash_agg.proofs.groups.Groups.need_within.Goals as goal

pub returns-in_err-need-clause-fits : goal.returns-in_err-need-clause-fits
returns-in_err-need-clause-fits g c hash =
    fits_by _ c.args.self.now c.args.key.now c.args.limit hash _ _ _ c.self.view_is c.in_err-need.was
    (c.need_for.ensures.fits c.self.invariant.by_keys c.args.limit hash) (ap is_some c.from_residual.ensures)

pub returns-then-need-from-clause-fits : goal.returns-then-need-from-clause-fits
returns-then-need-from-clause-fits g c hash =
    let high = c.if-need-from.true in
    let limit = c.from.ensures in
    fits_by _ c.args.self.now c.args.key.now c.args.limit hash _ _ _ c.self.view_is c.in_ok-need.was
    (c.need_for.ensures.fits c.self.invariant.by_keys c.args.limit hash)
    (sym (beyond_told c.in_ok-need.need c.args.limit (omega (arith, high, limit))))

pub returns-clause-needed : goal.returns-clause-needed
returns-clause-needed g c =
    c.in_ok-need.ensures.by_keys c.self.invariant.by_keys
    ∙ ap (λ (x : GroupsState g.row.H.Denot). need x.table.width (packed_keys (entries_of x) ++ c.args.key.now ∷ [])) c.self.view_is

pub returns-clause-fits : goal.returns-clause-fits
returns-clause-fits g c hash =
    let low = c.if-need-from.false in
    let limit = c.from.ensures in
    fits_by _ c.args.self.now c.args.key.now c.args.limit hash _ _ _ c.self.view_is c.in_ok-need.was
    (c.need_for.ensures.fits c.self.invariant.by_keys c.args.limit hash)
    (sym (within_told c.in_ok-need.need c.args.limit (omega (arith, low, limit))))
