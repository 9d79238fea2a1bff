use Rattle.std.specs.Prelude.{◌≡◌, refl, max, Some}
use Rattle.std.proofs.Common.{subst, rules}
use Rattle.origin_prefix.specs.Parts.{Part}
use Rattle.origin_prefix.specs.Joins.{IsFirstDifference}
use Rattle.origin_prefix.proofs.part.OriginPart.agree.Goals as goal

pub returns-in-Some-clause-disagree : goal.returns-in-Some-clause-disagree
returns-in-Some-clause-disagree c =
    let a : Part = record { prefix = c.self.inside.prefix; run = c.self.inside.run; early = c.self.inside.early.entries } in
    let b : Part = record { prefix = c.other.inside.prefix; run = c.other.inside.run; early = c.other.inside.early.entries } in
    let same : a.prefix ≡ b.prefix → a.run ≡ b.run = search rules in
    let first = subst (λ above. IsFirstDifference above a.early b.early (Some c.in-Some.number)) c.max-above.ensures c.in-Some.ensures in (
      Some c.in-Some.number,
      refl,
      (
        subst (λ (p : Part). p.prefix ≡ c.args.other.now.prefix → p.run ≡ c.args.other.now.run) c.self.view_is
            (subst (λ (p : Part). a.prefix ≡ p.prefix → a.run ≡ p.run) c.other.view_is same),
        subst (λ (p : Part). IsFirstDifference (max c.args.self.now.prefix p.prefix) c.args.self.now.early p.early (Some c.in-Some.number))
            c.other.view_is
            (subst (λ (p : Part). IsFirstDifference (max p.prefix b.prefix) p.early b.early (Some c.in-Some.number)) c.self.view_is first),
      ),
    )
