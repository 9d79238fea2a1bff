use Rattle.chunk_layout.proofs.Laws.{nat_tests, word_read_back, written_of_holds, length-word_bytes}
use Rattle.std.proofs.Common.{◌<◌, ◌-◌, None, length, get_or, sym, subst, arith}
use Rattle.chunk_layout.proofs.Words.{IsSome, Blocks, block_at}
use Rattle.chunk_layout.proofs.Fields.{found-low, found-some, found-inside, found-small, found-header}
use Rattle.chunk_layout.proofs.layout.ChunkLayout.room.Goals as goal

pub overflow_sub-at : goal.overflow_sub-at
overflow_sub-at c = grind (
  arith,
  nat_tests,
  found-header c.self.inside c.self.invariant c.args.self.now c.self.view_is c.args.place
      c.requires.there,
)

pub read_word-requires-clause-there : goal.read_word-requires-clause-there
read_word-requires-clause-there c = subst (λ (bs : Blocks). c.args.place.block < length bs) (sym c.deref.ensures.value)
    (found-low c.self.inside c.self.invariant c.args.self.now c.self.view_is c.args.place c.requires.there)

pub read_word-requires-clause-some : goal.read_word-requires-clause-some
read_word-requires-clause-some c = subst (λ (bs : Blocks). IsSome (get_or bs c.args.place.block None)) (sym c.deref.ensures.value)
    (found-some c.self.inside c.self.invariant c.args.self.now c.self.view_is c.args.place c.requires.there)

pub read_word-requires-clause-written : goal.read_word-requires-clause-written
read_word-requires-clause-written c = grind (
  arith,
  nat_tests,
  found-header c.self.inside c.self.invariant c.args.self.now c.self.view_is
      c.args.place c.requires.there,
  written_of_holds (block_at c.self.inside.blocks.items c.args.place.block) (c.args.place.offset - 8) 8,
  length-word_bytes,
)

pub returns : goal.returns
returns c = grind (
  arith,
  nat_tests,
  found-header c.self.inside c.self.invariant c.args.self.now c.self.view_is c.args.place
      c.requires.there,
  word_read_back (block_at c.self.inside.blocks.items c.args.place.block) (c.args.place.offset - 8) c.read_word.result,
  found-inside c.self.inside c.self.invariant c.args.self.now c.self.view_is c.args.place c.requires.there,
  found-small c.self.inside
      c.self.invariant c.args.self.now c.self.view_is c.args.place c.requires.there,
)
