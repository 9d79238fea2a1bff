use Rattle.std.specs.Prelude.{refl, ℕ, List, take, ◌≡◌, ◌+◌, ◌*◌, ◌<◌, ◌≤◌, map, Some}
use Rattle.std.proofs.Common.{rules, ◌∙◌, sym, ap, subst, arith}
use Rattle.std.specs.List.{AllByRecursion}
use Rattle.std.specs.Option.{option_copied}
use Rattle.grouping_model.specs.declared.limits.TheConstants.{LAST_NUMBER, MAX_ROWS}
use Rattle.grouping_model.specs.Query.{Query}
use Rattle.having_filter.specs.Meaning.{meaning}
use Rattle.hash_agg.specs.Counting.{AreCounted, IsCounted}
use Rattle.hash_agg.specs.Inputs.{Packed, brought, all_rows, IsInput}
use Rattle.hash_agg.specs.Lemmas.RanLaws.{ran_as, ran_still, ran_weaker, refused_by, refused_other}
use Rattle.hash_agg.specs.Ran.{Done, Refused, ended}
use Rattle.origin_prefix.specs.Parts.{Batches, Part, IsOpen, Folds, behind, following, rows_following, aggregations_behind}
use Rattle.origin_prefix.specs.Parts.{aggregations_with}
use Rattle.origin_prefix.proofs.CountLaws.{no_memory_ran, no_memory_follows, none_counted, refused_follows, some_counted}
use Rattle.origin_prefix.proofs.PartLaws.{following_inputs, few_following, folds_some}
use Rattle.origin_prefix.proofs.part.OriginPart.drain.Goals as goal
use Rattle.origin_prefix.proofs.part.OriginPart.drain.Goals.{then-upto-self+in_ok-fold, else-upto-self}

pub fold-requires : goal.fold-requires
fold-requires g c =
    let q : Query = meaning c.args.query.now in
    let prefix : ℕ = c.self.inside.prefix in
    let batches : Batches = behind prefix c.self.inside.early.entries (option_copied c.args.next) in
    let may = subst (λ (p : Part). IsOpen c.args.query.now p.prefix p.run (behind p.prefix p.early (option_copied c.args.next)))
    (sym c.self.view_is) c.requires.may in
    let are : map brought c.deref.result.now ≡ map Packed (rows_following prefix batches) = ap (map brought) c.deref.ensures.value
    ∙ c.in_ok-inputs.ensures.inputs in
    let few : all_rows (map Packed (rows_following prefix batches)) ≤ following prefix batches * MAX_ROWS =
    few_following c.args.query.now prefix batches may.above in
    let upto : c.in_ok-inputs.upto ≡ prefix + following prefix batches = c.in_ok-inputs.ensures.upto in
    let limit : c.in_ok-inputs.upto ≤ LAST_NUMBER = c.in_ok-inputs.ensures.limit in
    let same : all_rows (map brought c.deref.result.now) ≡ all_rows (map Packed (rows_following prefix batches)) = ap all_rows are in
    let rows : c.most_rows.result ≡ prefix * MAX_ROWS = c.most_rows.ensures in
    record {
      run = rw rows may.is_run;
      inputs = subst (AllByRecursion (IsInput q)) (sym are) (following_inputs c.args.query.now prefix batches may.above);
      few = omega (arith, few, same, upto, limit, rows);
    }

pub returns-in_err-inputs-clause-ran : goal.returns-in_err-inputs-clause-ran
returns-in_err-inputs-clause-ran g c = no_memory_ran g.D.TapeDisk g.H.KeyHash.hash_of c.args.query.now c.args.means.now
    (AreCounted (aggregations_with c.args.self.now (option_copied c.args.next))) c.from_residual.result c.args.disk.now c.args.executor.now
    c.from_residual.ensures.1

pub returns-in_err-fold-clause-ran : goal.returns-in_err-fold-clause-ran
returns-in_err-fold-clause-ran g c =
    let counts = AreCounted (aggregations_with c.args.self.now (option_copied c.args.next)) in
    let result = c.from_residual-in_err-fold.result in
    let error = c.in_err-fold.field-0.0 in
    ran_as g.D.TapeDisk g.H.KeyHash.hash_of c.args.query.now c.args.means.now counts (Refused (Some error)) (ended result)
    c.args.disk.now c.args.executor.now c.fold.new.disk c.fold.new.executor
    (sym (refused_by Some result error c.from_residual-in_err-fold.ensures.1))
    (refused_other g.D.TapeDisk g.H.KeyHash.hash_of c.args.query.now c.args.means.now (IsCounted (map brought c.deref.result.now)) counts
    (Some error) c.args.disk.now c.args.executor.now c.fold.new.disk c.fold.new.executor c.in_err-fold.ensures.ran)

pub returns-in_err-inputs-clause-follows : goal.returns-in_err-inputs-clause-follows
returns-in_err-inputs-clause-follows g c =
    let old : Part = c.args.self.now in
    no_memory_follows c.from_residual.result (0 < following old.prefix (behind old.prefix old.early (option_copied c.args.next)))
    c.from_residual.ensures.1

pub returns-in_err-fold-clause-follows : goal.returns-in_err-fold-clause-follows
returns-in_err-fold-clause-follows g c =
    let old : Part = c.args.self.now in
    let prefix : ℕ = c.self.inside.prefix in
    let batches : Batches = behind prefix c.self.inside.early.entries (option_copied c.args.next) in
    let upto : c.in_ok-inputs.upto ≡ prefix + following prefix batches = c.in_ok-inputs.ensures.upto in
    let some = c.if-upto-self.true in
    let here : 0 < following prefix batches = omega (arith, some, upto) in
    refused_follows c.from_residual-in_err-fold.result c.in_err-fold.field-0.0
    (0 < following old.prefix (behind old.prefix old.early (option_copied c.args.next))) c.from_residual-in_err-fold.ensures.1
    (λ other. subst (λ (p : Part). 0 < following p.prefix (behind p.prefix p.early (option_copied c.args.next))) c.self.view_is here)

pub returns-clause-ran : goal.returns-clause-ran
returns-clause-ran g c =
    let prefix : ℕ = c.self.inside.prefix in
    let batches : Batches = behind prefix c.self.inside.early.entries (option_copied c.args.next) in
    let counts = AreCounted (aggregations_behind prefix batches) in
    let upto : c.in_ok-inputs.upto ≡ prefix + following prefix batches = c.in_ok-inputs.ensures.upto in
    rw (sym c.self.view_is)
    (elim c.if-upto-self.branch [
      | then-upto-self+in_ok-fold w ↦
          let are : map brought w.deref.result.now ≡ map Packed (rows_following prefix batches) = ap (map brought) w.deref.ensures.value
          ∙ c.in_ok-inputs.ensures.inputs in
          let some = w.if-upto-self.true in
          rw (w.disk-is, w.executor-is)
          (ran_weaker g.D.TapeDisk g.H.KeyHash.hash_of c.args.query.now c.args.means.now (IsCounted (map brought w.deref.result.now))
          counts Done c.args.disk.now c.args.executor.now w.fold.new.disk w.fold.new.executor
          (λ counted. some_counted prefix batches _ _ _ _ _ _ (omega (arith, some, upto)) (rw (sym are) counted)) w.in_ok-fold.ensures.ran)
      | else-upto-self w ↦
          let none = w.if-upto-self.false in
          rw (w.disk-is, w.executor-is)
          (ran_still g.D.TapeDisk g.H.KeyHash.hash_of c.args.query.now c.args.means.now counts c.args.disk.now c.args.executor.now
          (λ honest. none_counted prefix batches _ _ _ _ (omega (arith, none, upto))))
    ])

pub returns-clause-drained : goal.returns-clause-drained
returns-clause-drained g c =
    let honest = g.D.TapeDisk.honest c.args.disk.now in
    let q : Query = meaning c.args.query.now in
    let prefix : ℕ = c.self.inside.prefix in
    let batches : Batches = behind prefix c.self.inside.early.entries (option_copied c.args.next) in
    let upto : c.in_ok-inputs.upto ≡ prefix + following prefix batches = c.in_ok-inputs.ensures.upto in
    rw (sym c.self.view_is)
    (record {
      upto = upto;
      folded = elim c.if-upto-self.branch [
        | then-upto-self+in_ok-fold w ↦
            let are : map brought w.deref.result.now ≡ map Packed (rows_following prefix batches) = ap (map brought) w.deref.ensures.value
            ∙ c.in_ok-inputs.ensures.inputs in
            let some = w.if-upto-self.true in
            rw w.self-inside-is (folds_some honest q c.self.inside.run w.fold.new.run (prefix * MAX_ROWS) prefix batches
            (omega (arith, some, upto))
            (rw (sym are, sym w.most_rows.ensures) w.in_ok-fold.ensures.folded))
        | else-upto-self w ↦
            let none = w.if-upto-self.false in
            let same : following prefix batches ≡ 0 = omega (arith, none, upto) in
            rw w.self-inside-is (subst (λ k. Folds honest q c.self.inside.run (prefix * MAX_ROWS)
            (map (λ (batch : ℕ × List (List ℕ)). batch.1) (take k batches)) c.self.inside.run) (sym same) refl)
      ];
      early = search rules;
    })
