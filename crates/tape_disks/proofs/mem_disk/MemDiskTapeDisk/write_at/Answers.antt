use Rattle.std.proofs.Common.{◌≡◌, ◌+◌, ◌-◌, ◌<◌, ℕ, List, ◌∙◌, arith, length, take, drop, get_or, subst}
use Rattle.std.proofs.lemmas.Grind.{common_steps}
use Rattle.std.proofs.lemmas.List.{places}
use Rattle.tape_disks.specs.Memory.{IsSameBeside}
use Rattle.tape_disks.proofs.MemoryLaws.{written_more, same_more}
use Rattle.tape_disks.proofs.mem_disk.MemDiskTapeDisk.write_at.Goals as goal

pub loop-done-preserved : goal.loop-done-preserved
loop-done-preserved c =
    let done : ℕ = c.loop-done.done in
    let n : ℕ = c.part_len-n.result in
    let part : List ℕ = take (done + n - done) (drop done c.args.bytes.now) in
    let len : length part ≡ n = grind (arith, common_steps) in
    let same : (k : ℕ) → k < n → get_or part k 0 ≡ get_or c.args.bytes.now (done + k) 0 = λ k h. grind (arith, places) in
    record {
      within = omega arith;
      written = written_more c.loop-done.self c.write_part.new.self c.args.at done n c.args.bytes.now part c.loop-done.invariant.written
          c.in_ok-write_part.ensures.written same len c.write_part.ensures.same;
      same = same_more c.args.self.now c.loop-done.self c.write_part.new.self c.args.at done n c.loop-done.invariant.same
          (subst (λ x. IsSameBeside c.loop-done.self c.write_part.new.self (c.args.at + done) x) len c.write_part.ensures.same);
      count = c.write_part.ensures.count ∙ c.loop-done.invariant.count;
    }
