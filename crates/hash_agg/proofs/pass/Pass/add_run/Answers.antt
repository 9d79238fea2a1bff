use Rattle.std.specs.Prelude.{◌∷◌, [], List, ℕ}
use Rattle.std.proofs.Common.{sym, subst, arith}
use Rattle.tape_disks.specs.DiskLaws.{leaves_none, leaves_twice}
use Rattle.hash_agg.proofs.Words.{spill_faults, Group, meaning, StandsFor, Entries, query_of, Plan}
use Rattle.group_runs.specs.StandingLaws.{group_at}
use Rattle.hash_agg.proofs.AddedLaws.{none_added, next_added, next_refused, all_added, entry_is_at, refused_out}
use Rattle.hash_agg.proofs.StepLaws.{run_short}
use Rattle.hash_agg.proofs.pass.Pass.add_run.Goals as goal

pub loop-place-init : goal.loop-place-init
loop-place-init g c = record {
  some = none_added g.H.KeyHash.hash_of g.D.TapeDisk (Entries c.args.run.now) c.args.self.now c.args.disk.now
      c.requires.ready;
  disk = leaves_none g.D.TapeDisk c.args.disk.now;
}

pub add_group-requires-clause-group : goal.add_group-requires-clause-group
add_group-requires-clause-group g c =
    let found = group_at (query_of c.args.self.now) c.args.self.now.plan.most c.args.run.now c.requires.run.groups c.loop-place.place
    (c.group.result.0.now, c.group.result.1.now) c.requires.run.are c.group.ensures in
    subst (λ (plan : Plan). (group : Group) × StandsFor (meaning plan.query.now) plan.most (c.group.result.0.now, c.group.result.1.now)
    group) (sym c.loop-place.invariant.some.kept.plan) (found.group, found.stands)

pub loop-place-preserved : goal.loop-place-preserved
loop-place-preserved g c =
    let hf : List ℕ → ℕ = g.H.KeyHash.hash_of c.args.self.now.groups.hash in
    record {
      some =
          next_added g.H.KeyHash.hash_of g.D.TapeDisk (Entries c.args.run.now) c.args.self.now c.args.disk.now
          (Entries ((c.group.result.0.now, c.group.result.1.now) ∷ [])) c.loop-place.place c.loop-place.self c.loop-place.disk
          c.loop-place.invariant.some
          (entry_is_at (query_of c.args.self.now) hf c.args.run.now c.loop-place.place c.group.result.0.now c.group.result.1.now
          c.group.ensures) c.add_group.new.self c.add_group.new.disk c.in_ok-add_group.ensures.added.added;
      disk = leaves_twice g.D.TapeDisk 0 c.args.disk.now c.loop-place.disk c.add_group.new.disk c.loop-place.invariant.disk
          c.in_ok-add_group.ensures.disk;
    }

pub returns-in_err-add_group : goal.returns-in_err-add_group
returns-in_err-add_group g c =
    let hf : List ℕ → ℕ = g.H.KeyHash.hash_of c.args.self.now.groups.hash in
    refused_out c.from_residual.result c.in_err-add_group.field-0.0 c.from_residual.ensures.1
    (next_refused g.H.KeyHash.hash_of g.D.TapeDisk (Entries c.args.run.now) c.args.self.now c.args.disk.now
    (Entries ((c.group.result.0.now, c.group.result.1.now) ∷ [])) c.loop-place.place c.loop-place.self c.loop-place.disk
    c.loop-place.invariant.some
    (entry_is_at (query_of c.args.self.now) hf c.args.run.now c.loop-place.place c.group.result.0.now c.group.result.1.now c.group.ensures)
    c.in_err-add_group.field-0.0 c.add_group.new.self c.in_err-add_group.ensures.refused)
    (leaves_twice g.D.TapeDisk (spill_faults c.in_err-add_group.field-0.0) c.args.disk.now c.loop-place.disk c.add_group.new.disk
    c.loop-place.invariant.disk c.in_err-add_group.ensures.disk)

pub returns : goal.returns
returns g c =
    let past = c.loop-place-test.false in
    let counted = c.len-place-end.ensures.length in
    record {
      added =
          all_added g.H.KeyHash.hash_of g.D.TapeDisk (Entries c.args.run.now) c.args.self.now c.args.disk.now c.loop-place.place
          c.loop-place.self c.loop-place.disk c.loop-place.invariant.some
          (λ more are. let short = run_short (query_of c.args.self.now) are.0 c.args.run.now more are.1 in omega
          (arith, past, counted, short));
      refused = tt;
      disk = c.loop-place.invariant.disk;
    }
