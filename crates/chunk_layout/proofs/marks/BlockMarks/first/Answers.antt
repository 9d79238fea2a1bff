use Rattle.chunk_layout.proofs.Laws.{nat_tests, common_steps, lt-ltb, get_or_read}
use Rattle.std.proofs.Common.{◌≡◌, ◌-◌, ◌<◌, ℕ, length, get_or, ap, ◌∙◌, arith}
use Rattle.chunk_layout.proofs.MarkLaws.{marked, marked-in, marked-none}
use Rattle.chunk_layout.proofs.marks.BlockMarks.first.Goals as goal

pub returns-then-self-eq0-clause-none : goal.returns-then-self-eq0-clause-none
returns-then-self-eq0-clause-none c = grind (arith, nat_tests, marked, marked-none c.self.inside.places.items)

pub returns-clause-some : goal.returns-clause-some
returns-clause-some c =
    let m = c.self.inside in let is = c.self.invariant.arranged in let d = m.count - 1 in let low : d < length m.order.items = omega
    (arith, c.if-self-eq0.false, c.self.invariant.count) in
    let at : c.index.result.now ≡ get_or m.order.items d 0 = get_or_read m.order.items d c.index.result.now low c.index.ensures 0 in
    let there = is.there d low in
    let k-low : c.index.result.now < length m.places.items = omega (arith, at, there.0, is.long) in
    let place : get_or m.places.items c.index.result.now 0 ≡ d = ap (λ (k : ℕ). get_or m.places.items k 0) at ∙ there.1 in
    grind (arith, nat_tests, common_steps, marked-in, lt-ltb)
