use Rattle.std.specs.Prelude.{◌≡◌}
use Rattle.std.proofs.Common.{rules, arith}
use Rattle.origin_prefix.specs.Parts.{Part}
use Rattle.origin_prefix.proofs.JoinLaws.{includes_seen, includes_not, includes_where}
use Rattle.origin_prefix.proofs.part.OriginPart.includes.Goals as goal

pub returns-then-other-self : goal.returns-then-other-self
returns-then-other-self c =
    let a : Part = record { prefix = c.self.inside.prefix; run = c.self.inside.run; early = c.self.inside.early.entries } in
    let b : Part = record { prefix = c.other.inside.prefix; run = c.other.inside.run; early = c.other.inside.early.entries } in
    let high = c.if-other-self.true in
    includes_seen _ a c.args.self.now b c.args.other.now c.self.view_is c.other.view_is
    (includes_not a b (λ has. let low = has.longer in absurd (omega (arith, low, high))))

pub returns : goal.returns
returns c =
    let a : Part = record { prefix = c.self.inside.prefix; run = c.self.inside.run; early = c.self.inside.early.entries } in
    let b : Part = record { prefix = c.other.inside.prefix; run = c.other.inside.run; early = c.other.inside.early.entries } in
    let low = c.if-other-self.false in
    let same : a.prefix ≡ b.prefix → a.run ≡ b.run = search rules in
    includes_seen _ a c.args.self.now b c.args.other.now c.self.view_is c.other.view_is
    (includes_where _ a b (omega (arith, low)) same c.are_among.ensures)
