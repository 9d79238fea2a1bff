use Rattle.std.proofs.Common.{sym, ◌∙◌, ap, subst}
use Rattle.packed_rows.specs.Columns.{kinds}
use Rattle.packed_rows.specs.View.{bytes_of}
use Rattle.hash_agg.specs.Inputs.{ArePackings}
use Rattle.test_replicas.proofs.runs.united_with.Goals as goal

pub united-united-requires-clause-late : goal.united-united-requires-clause-late
united-united-requires-clause-late c =
    let packed = c.in_ok-rows.ensures in
    let same = ap bytes_of c.deref.ensures.value ∙ c.in_ok-late.ensures in
    let rows = subst (λ bytes. ArePackings (kinds c.args.query.now.columns) bytes packed.0) (sym same) packed.1 in
    (packed.0, rows)
