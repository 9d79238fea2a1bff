use Rattle.std.proofs.Common.{◌≡◌, ◌+◌, ◌-◌, ◌<◌, ◌≤◌, ℕ, List, ◌∙◌, arith, length, get_or, inl, inr, subst, sym, IsTrue}
use Rattle.std.proofs.lemmas.Bool.{cases_lt}
use Rattle.std.proofs.lemmas.Grind.{common_steps}
use Rattle.std.proofs.lemmas.List.{places}
use Rattle.tape_disks.proofs.file_disk.read_from.Goals as goal

pub loop-done-preserved : goal.loop-done-preserved
loop-done-preserved g c =
    let last = g.F.SeekableFile.last c.args.file.now in
    let done : ℕ = c.loop-done.done in
    let some = c.in_ok-n.ensures.read in
    record {
      within = grind (arith, common_steps);
      len = grind (arith, common_steps);
      stands = grind (arith, common_steps);
      read = λ honest k byte less had. elim (cases_lt k done) [
        | inl low ↦ let before : get_or c.loop-done.bytes k 0
            ≡ byte = c.loop-done.invariant.read honest k byte low had in grind (arith, places)
        | inr high ↦
            let there : get_or c.read_some.new.bytes (k - done) 0 ≡ byte = some.read
            (subst (λ b. IsTrue b) (sym c.loop-done.invariant.honesty) honest) (c.args.at + done) c.loop-done.invariant.stands (k - done)
            byte
            (omega (arith, less, high)) (subst (λ (n : ℕ). g.F.SeekableFile.last c.loop-done.file n byte) (omega (arith, high))
            (c.loop-done.invariant.keeps (c.args.at + k) byte had)) in
            grind (arith, places)
      ];
      keeps = λ place byte had. c.read_some.ensures.keeps place byte (c.loop-done.invariant.keeps place byte had);
      failures = grind (arith, common_steps);
      honesty = c.read_some.ensures.honesty ∙ c.loop-done.invariant.honesty;
    }
