use Rattle.std.proofs.Common.{◌≡◌, ◌/◌, ap, ◌∙◌, length}
use Rattle.std.specs.Prelude.{Some}
use Rattle.chunk_contexts.specs.Chunks.{bytes_of}
use Rattle.tape_disks.specs.Memory.{MemoryState, byte_at, name_of}
use Rattle.tape_disks.specs.MemoryFields.{memory_of}
use Rattle.tape_disks.proofs.MemoryLaws.{put_there, put_same, live_len}
use Rattle.tape_disks.proofs.mem_disk.MemDisk.write_part.Goals.{After-write_over}
use Rattle.tape_disks.proofs.mem_disk.MemDisk.write_part.Goals as goal

here : (c : After-write_over) → name_of c.self.inside.pages.entries (c.args.at / 8192) ≡ Some c.in_ok-name.name
here c = ap (λ (m : MemoryState). name_of m.pages (c.args.at / 8192)) c.self.view_is ∙ c.in_ok-name.ensures.found

len : (c : After-write_over) → length (bytes_of c.self.inside.chunks.chunks c.in_ok-name.name) ≡ 8192
len c = live_len c.self.inside.chunks.chunks c.in_ok-name.name (c.self.invariant.live (c.args.at / 8192) c.in_ok-name.name (here c))
    ∙ c.self.invariant.len (c.args.at / 8192) c.in_ok-name.name (here c)

pub returns-clause-written : goal.returns-clause-written
returns-clause-written c = put_there (memory_of c.self.inside) c.write_over.new.chunks.chunks c.in_ok-name.name c.args.at c.args.bytes.now
    (here (goal.at.returns-clause-written c).After-write_over) (len (goal.at.returns-clause-written c).After-write_over) c.requires
    c.write_over.ensures.bytes

pub returns-clause-same : goal.returns-clause-same
returns-clause-same c place beside =
    put_same (memory_of c.self.inside) c.write_over.new.chunks.chunks c.in_ok-name.name c.args.at c.args.bytes.now
    (here (goal.at.returns-clause-same c).After-write_over) (len (goal.at.returns-clause-same c).After-write_over) c.requires
    c.write_over.ensures.bytes c.self.invariant c.write_over.ensures.keeps place beside
    ∙ ap (λ (m : MemoryState). byte_at m place) c.self.view_is ∙ c.find_or_take.ensures.same place
