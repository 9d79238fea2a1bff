use Rattle.std.specs.Prelude.{refl, ◌≢◌}
use Rattle.std.proofs.Common.{sym, subst, ◌∙◌, arith}
use Rattle.std.proofs.lemmas.Result.{on_ok_weaker}
use Rattle.hash_agg.proofs.Words.{NoMemory, TapeDamaged, TapeFault, row_of, standing}
use Rattle.spill_partitions.specs.declared.error.SpillError.{SpillError}
use Rattle.hash_agg.proofs.AddedLaws.{same_pass, added_here, refused_here}
use Rattle.hash_agg.proofs.RecordLaws.{row_over}
use Rattle.hash_agg.proofs.pass.Pass.add_row.Goals as goal

pub returns-in_err-select_known : goal.returns-in_err-select_known
returns-in_err-select_known g c =
    let memory = c.in_err-select_known.ensures.memory in
    refused_here c.from_residual.result c.in_err-select_known.field-0.0 c.from_residual.ensures.1
    (λ can. subst (λ (error : SpillError). error ≢ TapeDamaged) (sym memory) (λ same. cc))
    (subst (λ (error : SpillError). error ≢ TapeFault) (sym memory) (λ same. cc))

pub returns-in_err-pack_key : goal.returns-in_err-pack_key
returns-in_err-pack_key g c =
    refused_here c.from_residual-in_err-pack_key.result NoMemory c.from_residual-in_err-pack_key.ensures.1 (λ can same. cc) (λ same. cc)

pub returns-then-not-branch : goal.returns-then-not-branch
returns-then-not-branch g c =
    added_here _
    (record {
      reads =
          row_over c.args.self.now.plan (g.H.KeyHash.hash_of c.args.self.now.groups.hash) c.args.packed.now (row_of c.select_known.new.row.items)
          (standing c.args.self.now.groups c.args.self.now.spill (g.D.TapeDisk.last c.args.disk.now))
          c.in_ok-select_known.ensures.row.0 c.in_ok-select_known.ensures.row.1 (sym c.in_ok-select_known.ensures.met ∙ c.if-not-branch.true);
      brings = λ more are. omega arith;
      safe = λ is. is;
      pages = refl;
      ready = c.requires.ready;
      kept = same_pass c.args.self.now;
    })

pub returns-in-Some : goal.returns-in-Some
returns-in-Some g c = record {
  added = on_ok_weaker c.add_selected.result (λ one. one.added) c.add_selected.ensures.added;
  refused = c.add_selected.ensures.refused;
  disk = c.add_selected.ensures.disk;
}

pub returns : goal.returns
returns g c = record {
  added = on_ok_weaker c.add_selected-2.result (λ one. one.added) c.add_selected-2.ensures.added;
  refused =
      c.add_selected-2.ensures.refused;
  disk = c.add_selected-2.ensures.disk;
}
