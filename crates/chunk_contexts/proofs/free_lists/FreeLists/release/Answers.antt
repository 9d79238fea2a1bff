use Rattle.chunk_contexts.proofs.Laws.{common_steps, nat_tests}
use Rattle.std.proofs.Common.{arith}
use Rattle.chunk_contexts.proofs.ClassLaws.{in-small, in-some}
use Rattle.chunk_contexts.proofs.ListLaws.{was_live, lists-released, head-released}
use Rattle.chunk_contexts.proofs.free_lists.FreeLists.release.Goals as goal

pub put_first-requires-clause-there : goal.put_first-requires-clause-there
put_first-requires-clause-there c = grind (arith, nat_tests, common_steps, was_live)

pub returns : goal.returns
returns c = record {
  freed = grind (arith, nat_tests, common_steps, head-released);
  lists = grind
      (arith, nat_tests, common_steps, head-released, lists-released);
}

pub class_of-class-requires : goal.class_of-class-requires
class_of-class-requires c = in-small c.args.room c.requires.known

pub put_first-requires-clause-room : goal.put_first-requires-clause-room
put_first-requires-clause-room c = omega (arith, in-some c.args.room c.requires.known, c.requires.room)
