use Rattle.std.specs.Prelude.{◌≡◌, nat_lt, true, false}
use Rattle.std.proofs.Common.{sym, arith}
use Rattle.origin_prefix.specs.Joins.{JoinIsCounted, UniteIsCounted}
use Rattle.origin_prefix.specs.declared.error.JoinError.TheVariants.{Spill}
use Rattle.origin_prefix.proofs.CountLaws.{disagree_ran, spill_ran}
use Rattle.origin_prefix.proofs.JoinLaws.{refused_joining}
use Rattle.origin_prefix.proofs.part.OriginPart.join.Goals as goal

pub returns-then-self-other-clause-joining : goal.returns-then-self-other-clause-joining
returns-then-self-other-clause-joining g c =
    let test : nat_lt c.args.self.now.prefix c.args.other.now.prefix
    ≡ true = rw (sym c.self.view_is, sym c.other.view_is) (grind (arith, c.if-self-other.true)) in
    let j = c.in_ok-united.ensures.joins in
    record {
      joins = record { behind = j.0; united = rw test j.1; drained = rw test j.2 };
      part = c.in_ok-united.ensures.part;
      agree = c.in_ok-agree.ensures.agree;
      tells = tt;
    }

pub returns-then-self-other-clause-ran : goal.returns-then-self-other-clause-ran
returns-then-self-other-clause-ran g c =
    let test : nat_lt c.args.self.now.prefix c.args.other.now.prefix
    ≡ true = rw (sym c.self.view_is, sym c.other.view_is) (grind (arith, c.if-self-other.true)) in
    rw test c.in_ok-united.ensures.ran

pub returns-clause-joining : goal.returns-clause-joining
returns-clause-joining g c =
    let test : nat_lt c.args.self.now.prefix c.args.other.now.prefix
    ≡ false = rw (sym c.self.view_is, sym c.other.view_is) (grind (arith, c.if-self-other.false)) in
    let j = c.in_ok-united-2.ensures.joins in
    record {
      joins = record { behind = j.0; united = rw test j.1; drained = rw test j.2 };
      part = c.in_ok-united-2.ensures.part;
      agree = c.in_ok-agree.ensures.agree;
      tells = tt;
    }

pub returns-clause-ran : goal.returns-clause-ran
returns-clause-ran g c =
    let test : nat_lt c.args.self.now.prefix c.args.other.now.prefix
    ≡ false = rw (sym c.self.view_is, sym c.other.view_is) (grind (arith, c.if-self-other.false)) in
    rw test c.in_ok-united-2.ensures.ran

-- ---- refusals

pub returns-in_err-agree-clause-joining : goal.returns-in_err-agree-clause-joining
returns-in_err-agree-clause-joining g c =
    let apart = c.in_err-agree.ensures.disagree in
    refused_joining (g.D.TapeDisk.honest c.args.disk.now) c.args.query.now c.args.self.now c.args.other.now c.from_residual.result
    c.in_err-agree.field-0.0 c.from_residual.ensures.1 (rw apart.1 apart.2)

pub returns-in_err-agree-clause-ran : goal.returns-in_err-agree-clause-ran
returns-in_err-agree-clause-ran g c =
    let apart = c.in_err-agree.ensures.disagree in
    disagree_ran g.D.TapeDisk g.H.KeyHash.hash_of c.args.query.now c.args.means.now (JoinIsCounted c.args.self.now c.args.other.now)
    c.from_residual.result c.in_err-agree.field-0.0 apart.0 c.args.disk.now c.args.executor.now apart.1 c.from_residual.ensures.1

pub returns-in_err-united-clause-joining : goal.returns-in_err-united-clause-joining
returns-in_err-united-clause-joining g c =
    let test : nat_lt c.args.self.now.prefix c.args.other.now.prefix
    ≡ true = rw (sym c.self.view_is, sym c.other.view_is) (grind (arith, c.if-self-other.true)) in
    refused_joining (g.D.TapeDisk.honest c.args.disk.now) c.args.query.now c.args.self.now c.args.other.now
    c.from_residual-in_err-united.result (Spill c.in_err-united.field-0.0) c.from_residual-in_err-united.ensures.1
    (c.in_ok-agree.ensures.agree, rw test c.in_err-united.ensures.follows)

pub returns-in_err-united-clause-ran : goal.returns-in_err-united-clause-ran
returns-in_err-united-clause-ran g c =
    spill_ran g.D.TapeDisk g.H.KeyHash.hash_of c.args.query.now c.args.means.now (UniteIsCounted c.args.other.now c.args.self.now)
    (JoinIsCounted c.args.self.now c.args.other.now) c.from_residual-in_err-united.result c.in_err-united.field-0.0 c.args.disk.now
    c.args.executor.now c.united.new.disk c.united.new.executor c.from_residual-in_err-united.ensures.1 c.in_err-united.ensures.ran

pub returns-in_err-united-2-clause-joining : goal.returns-in_err-united-2-clause-joining
returns-in_err-united-2-clause-joining g c =
    let test : nat_lt c.args.self.now.prefix c.args.other.now.prefix
    ≡ false = rw (sym c.self.view_is, sym c.other.view_is) (grind (arith, c.if-self-other.false)) in
    refused_joining (g.D.TapeDisk.honest c.args.disk.now) c.args.query.now c.args.self.now c.args.other.now
    c.from_residual-in_err-united-2.result (Spill c.in_err-united-2.field-0.0) c.from_residual-in_err-united-2.ensures.1
    (c.in_ok-agree.ensures.agree, rw test c.in_err-united-2.ensures.follows)

pub returns-in_err-united-2-clause-ran : goal.returns-in_err-united-2-clause-ran
returns-in_err-united-2-clause-ran g c =
    spill_ran g.D.TapeDisk g.H.KeyHash.hash_of c.args.query.now c.args.means.now (UniteIsCounted c.args.self.now c.args.other.now)
    (JoinIsCounted c.args.self.now c.args.other.now) c.from_residual-in_err-united-2.result c.in_err-united-2.field-0.0 c.args.disk.now
    c.args.executor.now c.united-2.new.disk c.united-2.new.executor c.from_residual-in_err-united-2.ensures.1 c.in_err-united-2.ensures.ran
