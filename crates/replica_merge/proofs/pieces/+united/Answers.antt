use Rattle.std.proofs.Common.{sym, arith}
use Rattle.std.proofs.lemmas.Result.{IfOk-weaker}
use Rattle.having_filter.specs.Meaning.{meaning}
use Rattle.replica_merge.proofs.PieceLaws.{front_inputs, front_within, front_few, back_inputs, back_within, back_few, piece_room}
use Rattle.replica_merge.proofs.PieceLaws.{piece_of_both, piece_of_few}
use Rattle.replica_merge.proofs.pieces.+united.Goals as goal

pub united-requires : goal.united-requires
united-requires t c =
    let q = meaning c.args.query.now in
    let both = c.split_at.ensures.by_index.0 in (
      omega (arith, c.split_at.ensures.front_len, c.if-spans-lt2.false),
      (
        front_inputs q c.args.spans.now c.split_at.result.0.now c.split_at.result.1.now both c.requires.inputs,
        (
          front_within q c.args.spans.now c.split_at.result.0.now c.split_at.result.1.now both c.requires.within,
          front_few q c.args.spans.now c.split_at.result.0.now c.split_at.result.1.now both c.requires.few,
        ),
      ),
    )

pub united-requires-2 : goal.united-requires-2
united-requires-2 t c =
    let q = meaning c.args.query.now in
    let both = c.split_at.ensures.by_index.0 in (
      omega (arith, c.split_at.ensures.front_len, c.split_at.ensures.back_len, c.if-spans-lt2.false),
      (
        back_inputs q c.args.spans.now c.split_at.result.0.now c.split_at.result.1.now both c.requires.inputs,
        (
          back_within q c.args.spans.now c.split_at.result.0.now c.split_at.result.1.now both c.requires.within,
          back_few q c.args.spans.now c.split_at.result.0.now c.split_at.result.1.now both c.requires.few,
        ),
      ),
    )

pub merge_from-requires : goal.merge_from-requires
merge_from-requires t c =
    let q = meaning c.args.query.now in (
      q,
      sym c.agg_kinds.ensures.functions,
      piece_room q c.args.spans.now c.split_at.result.0.now c.split_at.result.1.now c.in_ok-all.all c.in_ok-more.more
          c.split_at.ensures.by_index.0 c.requires.few c.in_ok-all.ensures c.in_ok-more.ensures,
    )

pub returns : goal.returns
returns t c =
    piece_of_both (meaning c.args.query.now) c.args.spans.now c.split_at.result.0.now c.split_at.result.1.now c.in_ok-all.all
    c.in_ok-more.more c.split_at.ensures.by_index.0 c.requires.few c.in_ok-all.ensures c.in_ok-more.ensures c.merge_from.new.self
    (c.in_ok-merge_from.ensures.added (meaning c.args.query.now) (sym c.agg_kinds.ensures.functions))

pub returns-then-spans-lt2 : goal.returns-then-spans-lt2
returns-then-spans-lt2 t c =
    IfOk-weaker c.copied.result _ _
    (λ run is. piece_of_few (meaning c.args.query.now) c.args.spans.now run c.if-spans-lt2.true is c.requires.inputs) c.copied.ensures
