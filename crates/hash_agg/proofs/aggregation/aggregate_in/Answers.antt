use Rattle.std.specs.Prelude.{◌≡◌, List, map, Err, Some, refl}
use Rattle.std.specs.List.{AllByRecursion}
use Rattle.std.proofs.Common.{sym, ◌∙◌, ap, subst, arith}
use Rattle.hash_agg.proofs.Words.{Entry, NoMemory, meaning, Brought, brought, all_rows, IsInput, AreInputs, Plan}
use Rattle.agg_protocol.specs.States.{most_rows}
use Rattle.query_checks.specs.Checks.{Checked}
use Rattle.hash_agg.specs.Counting.{Took}
use Rattle.hash_agg.proofs.AnswerLaws.{refused_ran, aggregation_is, aggregation_ran}
use Rattle.hash_agg.proofs.DiskLaws.{leaves_still}
use Rattle.hash_agg.proofs.ReturnLaws.{no_if_ok}
use Rattle.hash_agg.proofs.TableLaws.{finds_later, finds_same}
use Rattle.hash_agg.proofs.aggregation.aggregate_in.Goals as goal

pub all_passes-requires-clause-inputs : goal.all_passes-requires-clause-inputs
all_passes-requires-clause-inputs g c =
    let by = c.in_ok-pass.ensures.by in
    let inputs : List Brought = map brought c.args.inputs.now in
    let most : c.in_ok-pass.pass.plan.most ≡ all_rows inputs = ap (λ (plan : Plan). plan.most) by.0 ∙ c.in_ok-plan.ensures.most
    ∙ c.rows_of_all.ensures in
    record {
      are = subst (λ (query : Checked). AllByRecursion (IsInput (meaning query)) inputs) (sym (ap (λ (plan : Plan). plan.query.now) by.0
          ∙ c.in_ok-plan.ensures.query)) c.requires.inputs;
      few = omega (arith, most);
    }

pub all_passes-requires-clause-most : goal.all_passes-requires-clause-most
all_passes-requires-clause-most g c = ap (λ (plan : Plan). plan.most) c.in_ok-pass.ensures.by.0 ∙ c.in_ok-plan.ensures.most
    ∙ c.rows_of_all.ensures

pub end-requires-clause-seed : goal.end-requires-clause-seed
end-requires-clause-seed g c =
    finds_later c.in_ok-pass.pass.groups c.all_passes.new.pass.groups c.seed.result c.in-Ok.ensures.finds
    (finds_same c.in_ok-pass.pass.groups c.args.means.now.seed c.seed.result (sym c.seed.ensures) c.in_ok-pass.ensures.seed)

pub returns-in_err-plan : goal.returns-in_err-plan
returns-in_err-plan g c =
    record {
      aggregated = no_if_ok c.from_residual.result _ c.from_residual.ensures.0;
      ran = refused_ran g.D.TapeDisk g.H.KeyHash.hash_of c.args.query.now c.args.means.now (Took (map brought c.args.inputs.now))
          c.from_residual.result NoMemory c.args.disk.now c.args.disk.now c.from_residual.ensures.1
          (leaves_still g.D.TapeDisk NoMemory c.args.disk.now (λ same. cc)) (λ honest same. cc);
      seed = no_if_ok c.from_residual.result _ c.from_residual.ensures.0;
    }

pub returns-in_err-pass : goal.returns-in_err-pass
returns-in_err-pass g c =
    record {
      aggregated = no_if_ok c.from_residual-in_err-pass.result _ c.from_residual-in_err-pass.ensures.0;
      ran = refused_ran g.D.TapeDisk g.H.KeyHash.hash_of c.args.query.now c.args.means.now (Took (map brought c.args.inputs.now))
          c.from_residual-in_err-pass.result NoMemory c.args.disk.now c.args.disk.now c.from_residual-in_err-pass.ensures.1
          (leaves_still g.D.TapeDisk NoMemory c.args.disk.now (λ same. cc)) (λ honest same. cc);
      seed = no_if_ok c.from_residual-in_err-pass.result _ c.from_residual-in_err-pass.ensures.0;
    }

pub returns-in-Err : goal.returns-in-Err
returns-in-Err g c =
    record {
      aggregated = tt;
      ran = refused_ran {Answer = List Entry} g.D.TapeDisk g.H.KeyHash.hash_of c.args.query.now c.args.means.now
          (Took (map brought c.args.inputs.now)) (Err c.in-Err.error) c.in-Err.error c.args.disk.now c.all_passes.new.disk refl c.in-Err.ensures.disk c.in-Err.ensures.undamaged;
      seed = tt;
    }

pub returns-in-Ok : goal.returns-in-Ok
returns-in-Ok g c =
    let inputs : List Brought = map brought c.args.inputs.now in
    let pass = c.in_ok-pass.pass in
    let plan = c.in_ok-pass.ensures.first.over.ready.plan in
    let by = c.in_ok-pass.ensures.by in
    let queried : pass.plan.query.now ≡ c.args.query.now = ap (λ (plan : Plan). plan.query.now) by.0 ∙ c.in_ok-plan.ensures.query in
    let most : pass.plan.most ≡ all_rows inputs = ap (λ (plan : Plan). plan.most) by.0 ∙ c.in_ok-plan.ensures.most
    ∙ c.rows_of_all.ensures in
    let limited : pass.plan.limit ≡ c.args.means.now.limit = ap (λ (plan : Plan). plan.limit) by.0 ∙ c.in_ok-plan.ensures.limit
    ∙ c.limit.ensures.limit in
    let given : AreInputs (meaning c.args.query.now) most_rows inputs = record { are = c.requires.inputs; few = c.requires.few } in
    record {
      aggregated = aggregation_is g.H.KeyHash.hash_of g.D.TapeDisk c.args.query.now c.args.means.now inputs pass c.args.disk.now plan
          queried most limited by.1 given c.in-Ok.made.0 c.all_passes.new.disk c.in-Ok.made.1 c.in-Ok.ensures.made;
      ran = aggregation_ran g.H.KeyHash.hash_of g.D.TapeDisk c.args.query.now c.args.means.now inputs pass c.args.disk.now plan
          queried most limited by.1 given c.in-Ok.made.0 c.all_passes.new.disk c.in-Ok.made.1 c.in-Ok.ensures.made c.in-Ok.ensures.disk;
      seed = ap Some (c.end.ensures ∙ c.seed.ensures);
    }
