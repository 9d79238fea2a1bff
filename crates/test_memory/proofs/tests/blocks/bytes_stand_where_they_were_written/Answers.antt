use Rattle.std.proofs.Common.{◌+◌, ◌≤◌, length, refl, arith}
use Rattle.std.specs.Prelude.{codes}
use Rattle.block_memory.specs.Cells.{Cells, zeros}
use Rattle.block_memory.specs.CellLaws.{length-zeros}
use Rattle.block_memory.specs.Lemmas.CellLemmas.{written_by_write, written_kept, written_of_holds}
use Rattle.test_memory.proofs.tests.blocks.bytes_stand_where_they_were_written.Goals as goal

pub bytes-requires-3 : goal.bytes-requires-3
bytes-requires-3 g c =
    let block : Cells = c.in_ok-block.block in
    let copied : Cells = c.copy_in.new.self in
    let all : 0 + 8 ≤ length block = omega (arith, c.in_ok-block.ensures.len) in
    let part : 3 + length (zeros 2) ≤ length copied = omega (arith, c.copy_in.ensures.len, c.in_ok-block.ensures.len, length-zeros 2) in
    rw c.zero.ensures.written
    (written_kept copied 0 8 3 (zeros 2) part (rw c.copy_in.ensures.written (written_by_write block 0 (codes "abcdefgh") all)))

pub bytes-requires-4 : goal.bytes-requires-4
bytes-requires-4 g c = written_of_holds _ 1 5 _ refl c.write_twice-before.ensures.stands
