use Rattle.std.proofs.Common.{◌≡◌, ap, ◌∙◌}
use Rattle.std.specs.Prelude.{None}
use Rattle.tape_disks.specs.Memory.{MemoryState, byte_at, name_of}
use Rattle.tape_disks.specs.MemoryFields.{memory_of}
use Rattle.tape_disks.proofs.MemoryLaws.{take_same, not_at}
use Rattle.tape_disks.proofs.mem_disk.MemDisk.take.Goals as goal

pub returns-in-Ok-insert-clause-same : goal.returns-in-Ok-insert-clause-same
returns-in-Ok-insert-clause-same c place =
    let none : name_of c.self.inside.pages.entries c.args.page ≡ None = ap (λ (m : MemoryState). name_of m.pages c.args.page) c.self.view_is
    ∙ c.requires in
    take_same (memory_of c.self.inside) c.alloc_zeroed.new.self.chunks c.insert.new.self.entries c.in-Ok.name c.args.page c.self.invariant
    none
    c.in-Ok-insert.ensures.updates.1 (λ r differ. c.in-Ok-insert.ensures.updates.2 r (not_at c.args.page r differ))
    c.in-Ok.ensures.taken.holds c.in-Ok.ensures.taken.keeps place
    ∙ ap (λ (m : MemoryState). byte_at m place) c.self.view_is
