use Rattle.std.proofs.Common.{arith}
use Rattle.origin_prefix.specs.Parts.{Part}
use Rattle.origin_prefix.proofs.AsideLaws.{keeps_seen, keeps_not, keeps_where}
use Rattle.origin_prefix.proofs.part.OriginPart.keeps_groups.Goals as goal

pub returns-then-other-self : goal.returns-then-other-self
returns-then-other-self c =
    let a : Part = record { prefix = c.self.inside.prefix; run = c.self.inside.run; early = c.self.inside.early.entries } in
    let b : Part = record { prefix = c.other.inside.prefix; run = c.other.inside.run; early = c.other.inside.early.entries } in
    let high = c.if-other-self.true in
    keeps_seen _ a c.args.self.now b c.args.other.now c.self.view_is c.other.view_is
    (keeps_not a b (λ keeps. let low = keeps.1.longer in omega (arith, low, high)))

pub returns-then-self : goal.returns-then-self
returns-then-self c =
    let a : Part = record { prefix = c.self.inside.prefix; run = c.self.inside.run; early = c.self.inside.early.entries } in
    let b : Part = record { prefix = c.other.inside.prefix; run = c.other.inside.run; early = c.other.inside.early.entries } in
    keeps_seen _ a c.args.self.now b c.args.other.now c.self.view_is c.other.view_is
    (keeps_not a b (λ keeps. keeps.0 c.if-self.true))

pub returns : goal.returns
returns c =
    let a : Part = record { prefix = c.self.inside.prefix; run = c.self.inside.run; early = c.self.inside.early.entries } in
    let b : Part = record { prefix = c.other.inside.prefix; run = c.other.inside.run; early = c.other.inside.early.entries } in
    let low = c.if-other-self.false in
    keeps_seen _ a c.args.self.now b c.args.other.now c.self.view_is c.other.view_is
    (keeps_where c.contains_key.result a b c.if-self.false (omega (arith, low)) c.contains_key.ensures)
