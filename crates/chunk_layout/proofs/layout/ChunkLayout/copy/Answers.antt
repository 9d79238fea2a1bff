use Rattle.chunk_layout.proofs.Laws.{nat_tests, nil_from_length, length-take-le, take_at, length-append, length-drop, length-zeros}
use Rattle.chunk_layout.proofs.Laws.{same_place-sym}
use Rattle.std.proofs.Common.{◌++◌, true, take, drop, arith}
use Rattle.chunk_layout.proofs.Words.{zeros, contents_at}
use Rattle.chunk_layout.proofs.ContentsLaws.{has-put_other, contents_at-put_other, put-part}
use Rattle.chunk_layout.proofs.layout.ChunkLayout.copy.Goals as goal

pub loop-done-init : goal.loop-done-init
loop-done-init c = grind (arith, nat_tests, nil_from_length (zeros 0), length-zeros 0)

pub get-bytes-requires-clause-there : goal.get-bytes-requires-clause-there
get-bytes-requires-clause-there c = grind (
  arith,
  nat_tests,
  has-put_other c.args.self.now c.args.to 0
      (take c.loop-done.done (contents_at c.args.self.now.contents c.args.from).bytes) true c.args.from,
  same_place-sym c.args.to c.args.from,
)

pub get-bytes-requires-clause-len : goal.get-bytes-requires-clause-len
get-bytes-requires-clause-len c = grind (
  arith,
  nat_tests,
  contents_at-put_other c.args.self.now c.args.to 0
      (take c.loop-done.done (contents_at c.args.self.now.contents c.args.from).bytes) true c.args.from,
  same_place-sym c.args.to c.args.from,
)

pub loop-done-preserved : goal.loop-done-preserved
loop-done-preserved c = grind (
  arith,
  nat_tests,
  contents_at-put_other c.args.self.now c.args.to 0
      (take c.loop-done.done ((contents_at c.args.self.now.contents c.args.from).bytes)) true c.args.from,
  same_place-sym c.args.to c.args.from,
  length-take-le c.min-step.result c.loop-done.part,
  take_at c.copy_from_slice.new.self (drop c.min-step.result c.loop-done.part)
      c.min-step.result,
  length-append c.copy_from_slice.new.self (drop c.min-step.result c.loop-done.part),
  length-drop c.min-step.result
      c.loop-done.part,
  put-part c.args.self.now c.args.to ((contents_at c.args.self.now.contents c.args.from).bytes) c.loop-done.done
      c.min-step.result (take c.min-step.result (c.copy_from_slice.new.self ++ drop c.min-step.result c.loop-done.part)),
)
