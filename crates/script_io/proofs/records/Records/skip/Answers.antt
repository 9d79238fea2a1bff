use Rattle.std.proofs.Common.{◌≡◌, ◌∙◌, ℕ, ap, drop, sym, arith}
use Rattle.script_io.proofs.ListFacts.{next-item, no-item}
use Rattle.script_io.proofs.records.Records.skip.Goals as goal
use Rattle.script_io.proofs.records.Records.skip.Goals.{else-loop-test, then-loop-test+in_ok-read+then-not-branch}

pub loop-preserved : goal.loop-preserved
loop-preserved c =
    let next = rw c.if-not-branch.false at c.in_ok-read.ensures in
    sym (next-item c.loop.counter _ _ _ (sym c.loop.invariant ∙ next)).1

pub returns : goal.returns
returns c =
    elim c.loop-test.branch [
      | else-loop-test w ↦
          let all : c.loop.counter ≡ c.args.count = omega arith in
          w.self-is ∙ c.loop.invariant ∙ ap (λ (n : ℕ). drop n c.args.self.now) all
      | then-loop-test+in_ok-read+then-not-branch w ↦
          let none = rw w.if-not-branch.true at w.in_ok-read.ensures in
          w.self-is ∙ none.1 ∙ sym (no-item c.loop.counter c.args.count _ (sym c.loop.invariant ∙ none.0) (omega arith)).1
    ]
