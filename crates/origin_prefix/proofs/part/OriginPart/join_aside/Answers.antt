use Rattle.std.specs.Prelude.{refl, Some}
use Rattle.std.proofs.Common.{◌∙◌, sym}
use Rattle.std.proofs.lemmas.Bool.{true≢false}
use Rattle.having_filter.specs.Meaning.{meaning}
use Rattle.hash_agg.specs.Counting.{setting_by}
use Rattle.hash_agg.specs.Lemmas.RanLaws.{ran_as, ran_still, refused_by, refused_still}
use Rattle.hash_agg.specs.Ran.{Refused}
use Rattle.spill_partitions.specs.declared.error.SpillError.TheVariants.{NoMemory}
use Rattle.origin_prefix.specs.Errors.{join_ended, join_reason, no_memory}
use Rattle.origin_prefix.specs.Joins.{JoinIsCounted}
use Rattle.origin_prefix.proofs.CountLaws.{disagree_ran}
use Rattle.origin_prefix.proofs.AsideLaws.{joining_aside, refused_aside, aside_joins, aside_part, aside_counted}
use Rattle.origin_prefix.proofs.part.OriginPart.join_aside.Goals as goal

pub returns-then-not-keeps_groups-clause-joining : goal.returns-then-not-keeps_groups-clause-joining
returns-then-not-keeps_groups-clause-joining g c =
    joining_aside (g.D.TapeDisk.honest c.args.disk.now) c.args.query.now c.args.self.now c.args.other.now c.join.result c.requires.other
    (λ keeps. true≢false (sym (c.keeps_groups.ensures.1 keeps) ∙ c.if-not-keeps_groups.true)) c.join.ensures.joining

pub returns-clause-joining : goal.returns-clause-joining
returns-clause-joining g c =
    let own = c.args.self.now in
    let other = c.args.other.now in
    let aside = c.in_ok-early_aside.field-0 in
    let keeps = c.keeps_groups.ensures.0 c.if-not-keeps_groups.false in
    let stand = c.in_ok-early_aside.ensures in
    record {
      joins = aside_joins c.args.query.now own other aside c.requires.part c.requires.other keeps.1 stand
          (g.D.TapeDisk.honest c.args.disk.now);
      part = aside_part c.args.query.now own other aside c.requires.part c.requires.other keeps.1 stand;
      groups = λ _. stand.run;
      agree = c.in_ok-agree.ensures.agree;
      tells = tt;
    }

pub returns-clause-ran : goal.returns-clause-ran
returns-clause-ran g c =
    let own = c.args.self.now in
    let other = c.args.other.now in
    let aside = c.in_ok-early_aside.field-0 in
    let keeps = c.keeps_groups.ensures.0 c.if-not-keeps_groups.false in
    let stand = c.in_ok-early_aside.ensures in
    ran_still g.D.TapeDisk g.H.KeyHash.hash_of c.args.query.now c.args.means.now (JoinIsCounted own other) c.args.disk.now c.args.executor.now
    (λ honest. aside_counted c.args.query.now own other aside c.requires.part c.requires.other keeps.1 stand
    (setting_by g.H.KeyHash.hash_of (meaning c.args.query.now) c.args.means.now) c.args.executor.now (g.D.TapeDisk.writes c.args.disk.now))

pub returns-then-not-keeps_groups-clause-aside : goal.returns-then-not-keeps_groups-clause-aside
returns-then-not-keeps_groups-clause-aside g c =
    λ last keeps. absurd (true≢false (sym (c.keeps_groups.ensures.1 (last, keeps)) ∙ c.if-not-keeps_groups.true))

pub returns-clause-aside : goal.returns-clause-aside
returns-clause-aside g c = λ last keeps. c.in_ok-early_aside.ensures

-- ---- refusals

pub returns-in_err-agree-clause-joining : goal.returns-in_err-agree-clause-joining
returns-in_err-agree-clause-joining g c =
    let apart = c.in_err-agree.ensures.disagree in
    refused_aside (g.D.TapeDisk.honest c.args.disk.now) c.args.query.now c.args.self.now c.args.other.now c.from_residual.result
    c.in_err-agree.field-0.0 c.from_residual.ensures.1 (rw apart.1 apart.2)

pub returns-in_err-agree-clause-ran : goal.returns-in_err-agree-clause-ran
returns-in_err-agree-clause-ran g c =
    let apart = c.in_err-agree.ensures.disagree in
    disagree_ran g.D.TapeDisk g.H.KeyHash.hash_of c.args.query.now c.args.means.now (JoinIsCounted c.args.self.now c.args.other.now)
    c.from_residual.result c.in_err-agree.field-0.0 apart.0 c.args.disk.now c.args.executor.now apart.1 c.from_residual.ensures.1

pub returns-in_err-early_aside-clause-joining : goal.returns-in_err-early_aside-clause-joining
returns-in_err-early_aside-clause-joining g c =
    refused_aside (g.D.TapeDisk.honest c.args.disk.now) c.args.query.now c.args.self.now c.args.other.now
    c.from_residual-in_err-early_aside.result no_memory c.from_residual-in_err-early_aside.ensures.1
    (c.in_ok-agree.ensures.agree, λ other. absurd (other refl))

pub returns-in_err-early_aside-clause-ran : goal.returns-in_err-early_aside-clause-ran
returns-in_err-early_aside-clause-ran g c =
    let result = c.from_residual-in_err-early_aside.result in
    ran_as g.D.TapeDisk g.H.KeyHash.hash_of c.args.query.now c.args.means.now (JoinIsCounted c.args.self.now c.args.other.now)
    (Refused (Some NoMemory)) (join_ended result) c.args.disk.now c.args.executor.now c.args.disk.now c.args.executor.now
    (sym (refused_by join_reason result no_memory c.from_residual-in_err-early_aside.ensures.1))
    (refused_still g.D.TapeDisk g.H.KeyHash.hash_of c.args.query.now c.args.means.now (JoinIsCounted c.args.self.now c.args.other.now)
    (Some NoMemory) c.args.disk.now c.args.executor.now refl (λ honest same. cc))
