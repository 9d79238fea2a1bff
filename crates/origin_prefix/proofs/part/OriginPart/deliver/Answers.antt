use Rattle.std.specs.Prelude.{◌≡◌, refl, ◌+◌, ◌<◌, ◌≤◌, Some, None}
use Rattle.std.proofs.Common.{◌∙◌, sym, ap, subst, arith}
use Rattle.std.proofs.lemmas.Result.{IfErr-weaker}
use Rattle.std.specs.Option.{option_copied}
use Rattle.grouping_model.specs.declared.limits.TheConstants.{LAST_NUMBER}
use Rattle.having_filter.specs.Meaning.{meaning}
use Rattle.hash_agg.specs.Counting.{AreCounted}
use Rattle.hash_agg.specs.Lemmas.RanLaws.{ran_as, ran_still}
use Rattle.hash_agg.specs.Ran.{Refused}
use Rattle.origin_prefix.specs.Errors.{join_reason}
use Rattle.origin_prefix.specs.Parts.{Part, rows_at, IsPartOf, behind, aggregations_on, aggregations_with}
use Rattle.origin_prefix.proofs.CountLaws.{apart_counted, early_apart, next_counted, batch_still, disagrees_faultless, no_memory_faultless}
use Rattle.origin_prefix.proofs.DeliverLaws.{known_within, reply_early, refused_early, unknown, kept_delivers, part_kept, kept_refuses}
use Rattle.origin_prefix.proofs.DeliverLaws.{part_drained, behind_gap, next_open}
use Rattle.origin_prefix.proofs.part.OriginPart.deliver.Goals as goal

-- ---- a number within the prefix

pub returns-then-batch-self-clause-delivery : goal.returns-then-batch-self-clause-delivery
returns-then-batch-self-clause-delivery g c = record {
  delivers = known_within (g.D.TapeDisk.honest c.args.disk.now) c.args.query.now (meaning c.args.query.now) c.args.self.now
      c.args.batch.number c.args.batch.rows c.requires.part c.requires.number.0
      (subst (λ (p : Part). c.args.batch.number ≤ p.prefix) c.self.view_is c.if-batch-self.true);
  refuses = tt;
  part = c.requires.part;
}

pub returns-then-batch-self-clause-ran : goal.returns-then-batch-self-clause-ran
returns-then-batch-self-clause-ran g c =
    let part : Part = c.args.self.now in
    let low : c.args.batch.number ≤ part.prefix = subst (λ (p : Part). c.args.batch.number ≤ p.prefix) c.self.view_is c.if-batch-self.true
    in
    ran_still g.D.TapeDisk g.H.KeyHash.hash_of c.args.query.now c.args.means.now
    (AreCounted (aggregations_on part c.args.batch.number c.args.batch.rows)) c.args.disk.now c.args.executor.now
    (λ honest. apart_counted _ _ part c.args.batch.number c.args.batch.rows _ _ (λ same. omega (arith, low, same)))

-- ---- one that is kept early

pub returns-in-Some-clause-delivery : goal.returns-in-Some-clause-delivery
returns-in-Some-clause-delivery g c =
    let part : Part = c.args.self.now in
    let there : rows_at part.early c.args.batch.number ≡ Some c.in-Some.kept.now =
    subst (λ (p : Part). rows_at p.early c.args.batch.number ≡ Some c.in-Some.kept.now) c.self.view_is (sym c.get.ensures.value
    ∙ ap option_copied c.in-Some.is) in
    record {
      delivers = reply_early (g.D.TapeDisk.honest c.args.disk.now) (meaning c.args.query.now) part c.args.batch.number c.args.batch.rows
          c.in-Some.kept.now c.known_again.result there c.known_again.ensures.known;
      refuses = refused_early part c.args.batch c.in-Some.kept.now c.known_again.result there c.known_again.ensures.other;
      part = c.requires.part;
    }

pub returns-in-Some-clause-ran : goal.returns-in-Some-clause-ran
returns-in-Some-clause-ran g c =
    let part : Part = c.args.self.now in
    let there : rows_at part.early c.args.batch.number ≡ Some c.in-Some.kept.now =
    subst (λ (p : Part). rows_at p.early c.args.batch.number ≡ Some c.in-Some.kept.now) c.self.view_is (sym c.get.ensures.value
    ∙ ap option_copied c.in-Some.is) in
    batch_still g.D.TapeDisk g.H.KeyHash.hash_of c.args.query.now c.args.means.now part c.args.batch.number c.args.batch.rows
    c.known_again.result c.args.disk.now c.args.executor.now
    (early_apart c.args.query.now part c.args.batch.number c.in-Some.kept.now c.requires.part there)
    (IfErr-weaker c.known_again.result _ _ (λ e is. disagrees_faultless e (Some c.args.batch.number) is.1) c.known_again.ensures.other)

-- ---- one that is kept until its gap is filled

pub returns-then-batch-self-2-clause-delivery : goal.returns-then-batch-self-2-clause-delivery
returns-then-batch-self-2-clause-delivery g c =
    let part : Part = c.args.self.now in
    let above : part.prefix < c.args.batch.number = grind (arith, c.if-batch-self.false, ap (λ (p : Part). p.prefix) c.self.view_is) in
    let apart = c.if-batch-self-2.true in
    let prefix : c.self.inside.prefix ≡ part.prefix = ap (λ (p : Part). p.prefix) c.self.view_is in
    let behind : part.prefix + 1 < c.args.batch.number = subst (λ n. n + 1 < c.args.batch.number) prefix
    (behind_gap c.self.inside.prefix c.args.batch.number c.if-batch-self.false apart) in
    let none : rows_at part.early c.args.batch.number ≡ None =
    subst (λ (p : Part). rows_at p.early c.args.batch.number ≡ None) c.self.view_is (sym c.get.ensures.value
    ∙ ap option_copied c.in_default.is) in
    record {
      delivers = kept_delivers (g.D.TapeDisk.honest c.args.disk.now) (meaning c.args.query.now) part c.keep_early.new.self
          c.args.batch.number c.args.batch.rows c.keep_early.result (unknown part c.args.batch.number above none)
          (λ same. omega (arith, behind, same)) c.keep_early.ensures.kept;
      refuses = kept_refuses part c.keep_early.new.self c.args.batch c.keep_early.result
          (unknown part c.args.batch.number above none) c.keep_early.ensures.refused;
      part = part_kept c.keep_early.result c.args.query.now part c.keep_early.new.self c.args.batch c.requires.part behind
          c.requires.number.1 c.requires.rows c.keep_early.ensures.kept c.keep_early.ensures.refused c.keep_early.ensures.rising;
    }

pub returns-then-batch-self-2-clause-ran : goal.returns-then-batch-self-2-clause-ran
returns-then-batch-self-2-clause-ran g c =
    let part : Part = c.args.self.now in
    let prefix : c.self.inside.prefix ≡ part.prefix = ap (λ (p : Part). p.prefix) c.self.view_is in
    let behind : part.prefix + 1 < c.args.batch.number = subst (λ n. n + 1 < c.args.batch.number) prefix
    (behind_gap c.self.inside.prefix c.args.batch.number c.if-batch-self.false c.if-batch-self-2.true) in
    batch_still g.D.TapeDisk g.H.KeyHash.hash_of c.args.query.now c.args.means.now part c.args.batch.number c.args.batch.rows
    c.keep_early.result c.args.disk.now c.args.executor.now (λ same. omega (arith, behind, same))
    (IfErr-weaker c.keep_early.result _ _ (λ e is. no_memory_faultless e is.1) c.keep_early.ensures.refused)

-- ---- the next one

pub drain-requires : goal.drain-requires
drain-requires g c =
    let above = c.if-batch-self.false in
    let next = c.if-batch-self-2.false in
    let prefix : c.self.inside.prefix ≡ c.args.self.now.prefix = ap (λ (p : Part). p.prefix) c.self.view_is in
    let high : c.args.batch.number ≤ LAST_NUMBER = c.requires.number.1 in
    record {
      may = next_open c.args.query.now c.args.self.now c.args.batch.rows c.requires.part (omega (arith, above, next, prefix, high))
          c.requires.rows;
    }

pub returns-in-Ok-clause-delivery : goal.returns-in-Ok-clause-delivery
returns-in-Ok-clause-delivery g c =
    let part : Part = c.args.self.now in
    let above = c.if-batch-self.false in
    let next = c.if-batch-self-2.false in
    let prefix : c.self.inside.prefix ≡ part.prefix = ap (λ (p : Part). p.prefix) c.self.view_is in
    let high : c.args.batch.number ≤ LAST_NUMBER = c.requires.number.1 in
    record {
      delivers = (omega (arith, above, next, prefix), c.prefix.ensures, c.in-Ok.ensures.drained);
      refuses = tt;
      part = part_drained c.drain.result (g.D.TapeDisk.honest c.args.disk.now) c.args.query.now part c.drain.new.self
          (behind part.prefix part.early (Some c.args.batch.rows)) c.requires.part
          (next_open c.args.query.now part c.args.batch.rows c.requires.part (omega (arith, above, next, prefix, high)) c.requires.rows)
          c.drain.ensures.drained c.drain.ensures.same;
    }

pub returns-in-Err-clause-delivery : goal.returns-in-Err-clause-delivery
returns-in-Err-clause-delivery g c =
    let part : Part = c.args.self.now in
    let above = c.if-batch-self.false in
    let next = c.if-batch-self-2.false in
    let prefix : c.self.inside.prefix ≡ part.prefix = ap (λ (p : Part). p.prefix) c.self.view_is in
    let over : part.prefix < c.args.batch.number = omega (arith, above, prefix) in
    let none : rows_at part.early c.args.batch.number ≡ None =
    subst (λ (p : Part). rows_at p.early c.args.batch.number ≡ None) c.self.view_is (sym c.get.ensures.value
    ∙ ap option_copied c.in_default.is) in
    record {
      delivers = tt;
      refuses = record {
        back = refl;
        same = c.in-Err.ensures.same;
        tells = rw c.from-why.ensures (
          unknown part c.args.batch.number over none,
          λ other. omega (arith, above, next, prefix),
        );
      };
      part = subst (IsPartOf c.args.query.now) (sym c.in-Err.ensures.same) c.requires.part;
    }

pub returns-in-Ok-clause-ran : goal.returns-in-Ok-clause-ran
returns-in-Ok-clause-ran g c =
    let part : Part = c.args.self.now in
    let above = c.if-batch-self.false in
    let next = c.if-batch-self-2.false in
    let prefix : c.self.inside.prefix ≡ part.prefix = ap (λ (p : Part). p.prefix) c.self.view_is in
    rw (next_counted part c.args.batch.number c.args.batch.rows (omega (arith, above, next, prefix))) c.in-Ok.ensures.ran

pub returns-in-Err-clause-ran : goal.returns-in-Err-clause-ran
returns-in-Err-clause-ran g c =
    let part : Part = c.args.self.now in
    let above = c.if-batch-self.false in
    let next = c.if-batch-self-2.false in
    let prefix : c.self.inside.prefix ≡ part.prefix = ap (λ (p : Part). p.prefix) c.self.view_is in
    rw (next_counted part c.args.batch.number c.args.batch.rows (omega (arith, above, next, prefix)))
    (ran_as g.D.TapeDisk g.H.KeyHash.hash_of c.args.query.now c.args.means.now
    (AreCounted (aggregations_with part (Some c.args.batch.rows))) (Refused (Some c.in-Err.error)) _ c.args.disk.now c.args.executor.now
    c.drain.new.disk c.drain.new.executor (ap (λ why. Refused (join_reason why)) (sym c.from-why.ensures)) c.in-Err.ensures.ran)
