use Rattle.std.specs.Prelude.{◌≡◌, [], flat_map}
use Rattle.std.proofs.Common.{ap, rules}
use Rattle.summary_codec.specs.File.{part_bytes}
use Rattle.summary_codec.proofs.CountedLaws.{counted_none, counted_all, more_parts}
use Rattle.summary_codec.proofs.length.parts_len.Goals as goal

pub loop-part-init : goal.loop-part-init
loop-part-init c = record {
  so_far = counted_none part_bytes c.into_iter-part-iterator.result (flat_map part_bytes c.args.parts.now.entries)
      (ap (flat_map part_bytes) c.into_iter-part-iterator.ensures.into_iter_gives.0);
  can = tt;
  finite = tt;
}

pub loop-part-preserved : goal.loop-part-preserved
loop-part-preserved c = record {
  so_far = more_parts c.loop-part.part-iterator c.next.new.self _ c.loop-part.len _ _ (flat_map part_bytes c.args.parts.now.entries)
      c.in-Some.ensures.steps (c.part_len.ensures _) c.longer-len.ensures c.loop-part.invariant.so_far;
  can = tt;
  finite = tt;
}

pub returns : goal.returns
returns c = let none : c.loop-part.part-iterator ≡ [] = search rules in counted_all part_bytes c.loop-part.part-iterator c.loop-part.len
    (flat_map part_bytes c.args.parts.now.entries) none c.loop-part.invariant.so_far
