use Rattle.chunk_contexts.proofs.Laws.{common_steps, nat_tests}
use Rattle.std.proofs.Common.{sym, arith}
use Rattle.chunk_contexts.proofs.SetViews.{seen-there, seen-block, seen-known, fields-back, state-back, fields-released, state-released}
use Rattle.chunk_contexts.proofs.alloc_set.AllocSet.release.Goals as goal

pub room-room-requires-clause-there : goal.room-room-requires-clause-there
room-room-requires-clause-there c = seen-there c.self.inside c.self.invariant c.args.self.now c.self.view_is c.args.place c.requires

pub give_back-requires : goal.give_back-requires
give_back-requires c = seen-block c.self.inside c.self.invariant c.args.self.now c.self.view_is c.args.place c.requires

pub invariant_of-self : goal.invariant_of-self
invariant_of-self c = fields-back c.self.inside c.self.invariant c.args.self.now c.self.view_is c.args.place c.requires
    (omega (arith, c.room-room.ensures, c.if-room-gt-LARGEST.true)) c.give_back.new.self c.give_back.ensures

pub returns-then-room-gt-LARGEST : goal.returns-then-room-gt-LARGEST
returns-then-room-gt-LARGEST c = state-back c.self.inside c.self.invariant c.args.self.now c.self.view_is c.args.place c.requires
    (omega (arith, c.room-room.ensures, c.if-room-gt-LARGEST.true)) c.give_back.new.self c.give_back.ensures

pub release-requires-clause-known : goal.release-requires-clause-known
release-requires-clause-known c = seen-known c.self.inside c.self.invariant c.args.self.now c.self.view_is c.args.place c.requires
    c.room-room.result c.room-room.ensures c.if-room-gt-LARGEST.false

pub invariant_of-self-2 : goal.invariant_of-self-2
invariant_of-self-2 c = grind (
  arith,
  nat_tests,
  common_steps,
  fields-released c.self.inside c.self.invariant c.args.self.now c.self.view_is
      c.args.place c.requires (omega (arith, c.room-room.ensures, c.if-room-gt-LARGEST.false)) c.room-room.result (sym c.room-room.ensures)
      (seen-known c.self.inside c.self.invariant c.args.self.now c.self.view_is c.args.place c.requires
      c.room-room.result c.room-room.ensures c.if-room-gt-LARGEST.false) c.release.new.self c.release.ensures.freed c.release.ensures.lists,
)

pub returns : goal.returns
returns c = grind (
  arith,
  nat_tests,
  common_steps,
  state-released c.self.inside c.self.invariant c.args.self.now c.self.view_is c.args.place
      c.requires (omega (arith, c.room-room.ensures, c.if-room-gt-LARGEST.false)) c.room-room.result (sym c.room-room.ensures)
      (seen-known c.self.inside c.self.invariant c.args.self.now c.self.view_is c.args.place c.requires
      c.room-room.result c.room-room.ensures c.if-room-gt-LARGEST.false) c.release.new.self c.release.ensures.freed c.release.ensures.lists,
)
