use Rattle.std.specs.Prelude.{◌≡◌, [], flat_map}
use Rattle.std.proofs.Common.{ap, rules}
use Rattle.summary_codec.specs.File.{batch_bytes}
use Rattle.summary_codec.proofs.CountedLaws.{counted_none, counted_all, more_batches}
use Rattle.summary_codec.proofs.length.batches_len.Goals as goal

pub loop-rows-init : goal.loop-rows-init
loop-rows-init c = record {
  so_far = counted_none batch_bytes c.into_iter-rows-iterator.result (flat_map batch_bytes c.args.early.now.entries)
      (ap (flat_map batch_bytes) c.into_iter-rows-iterator.ensures.into_iter_gives.0);
  can = tt;
  finite = tt;
}

pub loop-rows-preserved : goal.loop-rows-preserved
loop-rows-preserved c = record {
  so_far = more_batches c.loop-rows.rows-iterator c.next.new.self _ c.loop-rows.len _ _ _ (flat_map batch_bytes c.args.early.now.entries)
      c.in-Some.ensures.steps c.longer.ensures c.rows_len.ensures c.longer-len.ensures c.loop-rows.invariant.so_far;
  can = tt;
  finite = tt;
}

pub returns : goal.returns
returns c = let none : c.loop-rows.rows-iterator ≡ [] = search rules in counted_all batch_bytes c.loop-rows.rows-iterator c.loop-rows.len
    (flat_map batch_bytes c.args.early.now.entries) none c.loop-rows.invariant.so_far
