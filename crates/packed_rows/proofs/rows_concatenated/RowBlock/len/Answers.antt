use Rattle.std.specs.Prelude.{◌≡◌, length}
use Rattle.std.proofs.Common.{sym, ◌∙◌, ap, arith}
use Rattle.packed_rows.specs.ConcatenatedRowsLaws.{cut_long}
use Rattle.packed_rows.proofs.rows_concatenated.RowBlock.len.Goals as goal

pub returns : goal.returns
returns c =
    let long : length c.args.self.now ≡ length c.self.inside.ends.items = ap length (sym c.self.view_is)
    ∙ cut_long c.self.inside.bytes.items 0 c.self.inside.ends.items in
    let counted = c.self.inside.ends.ok in
    let result = c.len.ensures in
    omega (arith, long, counted, result)
