use Rattle.std.specs.Prelude.{◌≡◌, refl, ◌≤◌, ℕ, ◌∷◌, List, [], length, map, take}
use Rattle.std.proofs.Common.{sym, ◌∙◌, ap, subst, arith}
use Rattle.std.proofs.lemmas.List.{length-map, take_all}
use Rattle.std.proofs.lemmas.List.Sums.{sum_by-cons}
use Rattle.std.proofs.lemmas.Result.{IfOk-weaker}
use Rattle.tape_disks.specs.DiskLaws.{leaves_none, leaves_twice}
use Rattle.hash_agg.proofs.Words.{spill_faults, full_pages, written_pages, NoMemory, Setting, Query, meaning, AreInputs, Finished}
use Rattle.hash_agg.proofs.Words.{MadeFirst, query_of, setting_in, source_of, Brought, brought, rows_in, IsInput, PassState, standing}
use Rattle.hash_agg.proofs.Words.{entries_of, AreSafe, Holds, total, all_pieces, brought_by, AddsUp, pass_cost, Plan}
use Rattle.group_runs.specs.PlaceLaws.{all_at}
use Rattle.hash_agg.specs.Inputs.{Gives}
use Rattle.hash_agg.proofs.AddedLaws.{same_pass, keeps_twice, added_first, refused_first}
use Rattle.hash_agg.proofs.CountLaws.{can_read_input, input_read, input_brings}
use Rattle.hash_agg.proofs.DiskLaws.{left_out, still_out}
use Rattle.hash_agg.proofs.FirstLaws.{input_few, first_holds, first_total, first_waits, first_few}
use Rattle.hash_agg.proofs.FitLaws.{all_fit}
use Rattle.hash_agg.proofs.NeedLaws.{held_by_both}
use Rattle.hash_agg.proofs.ReturnLaws.{no_if_ok}
use Rattle.hash_agg.proofs.StepLaws.{err_out}
use Rattle.hash_agg.proofs.UnionLaws.{none_safe, safe_moved}
use Rattle.hash_agg.proofs.WholeLaws.{all_given, brought_at}
use Rattle.hash_agg.proofs.OneByOneLaws.{as_long}
use Rattle.hash_agg.proofs.aggregation.first_pass.Goals as goal

pub loop-input-init : goal.loop-input-init
loop-input-init g c =
    let q : Query = query_of c.args.pass.now in
    let first = c.requires.first in
    record {
      reads = λ givens give. first_holds q (setting_in g.H.KeyHash.hash_of c.args.pass.now)
          (standing c.args.pass.now.groups c.args.pass.now.spill (g.D.TapeDisk.last c.args.disk.now)) first.over.fresh.empty
          first.over.fresh.partitions first.none;
      brings = λ givens give. first_total (entries_of c.args.pass.now.groups) c.args.pass.now.spill first.over.fresh.empty
          first.over.fresh.partitions;
      safe = subst (AreSafe q c.args.pass.now.plan.most) (sym first.over.fresh.empty) (none_safe q c.args.pass.now.plan.most);
      pages = refl;
      ready = first.over.ready;
      kept = same_pass c.args.pass.now;
      disk = leaves_none g.D.TapeDisk c.args.disk.now;
    }

pub add_input-requires-clause-input : goal.add_input-requires-clause-input
add_input-requires-clause-input g c =
    let inputs : List Brought = map brought c.args.inputs.now in
    let input : Brought = brought c.input-item.result in
    let here = brought_at c.args.inputs.now c.loop-input.input-index c.input-item.result c.loop-input-test.true c.input-item.is in
    let few = input_few inputs c.loop-input.input-index input here.at in
    let all = c.requires.inputs.few in
    let sum = sum_by-cons rows_in input [] in
    subst (λ (plan : Plan). AreInputs (meaning plan.query.now) plan.most (input ∷ [])) (sym c.loop-input.invariant.kept.plan)
    (record {
      are = (all_at (IsInput (query_of c.args.pass.now)) inputs c.loop-input.input-index input c.requires.inputs.are here.at, tt);
      few = omega (arith, few, all, sum);
    })

pub returns-in_err-row : goal.returns-in_err-row
returns-in_err-row g c =
    record {
      made = no_if_ok c.from_residual.result _ c.from_residual.ensures.0;
      undamaged = err_out c.from_residual.result NoMemory _ c.from_residual.ensures.1 (λ same. cc);
      disk = still_out g.D.TapeDisk c.from_residual.result NoMemory c.args.disk.now c.from_residual.ensures.1 (λ same. cc);
    }

pub returns-in_err-add_input : goal.returns-in_err-add_input
returns-in_err-add_input g c =
    let inputs : List Brought = map brought c.args.inputs.now in
    let input : Brought = brought c.input-item.result in
    let here = brought_at c.args.inputs.now c.loop-input.input-index c.input-item.result c.loop-input-test.true c.input-item.is in
    let given = all_given (query_of c.args.pass.now) inputs c.requires.inputs.are in
    let so_far = c.loop-input.invariant in
    let refusal = refused_first g.H.KeyHash.hash_of g.D.TapeDisk (source_of input) c.args.pass.now c.loop-input.pass c.loop-input.disk
    c.add_input.new.self so_far.kept.plan so_far.kept.table.hash c.in_err-add_input.field-0.0 c.in_err-add_input.ensures.refused in
    record {
      made = no_if_ok c.from_residual-in_err-add_input.result _ c.from_residual-in_err-add_input.ensures.0;
      undamaged =
          err_out c.from_residual-in_err-add_input.result c.in_err-add_input.field-0.0 _ c.from_residual-in_err-add_input.ensures.1
          (refusal.undamaged
          (can_read_input c.args.pass.now.plan (g.H.KeyHash.hash_of c.args.pass.now.groups.hash) inputs given.0 c.loop-input.input-index
          input here c.requires.inputs.are given.1 c.requires.inputs.few
          (standing c.loop-input.pass.groups c.loop-input.pass.spill (g.D.TapeDisk.last c.loop-input.disk)) [] []
          (so_far.reads given.0 given.1)));
      disk =
          left_out g.D.TapeDisk c.from_residual-in_err-add_input.result c.in_err-add_input.field-0.0 c.args.disk.now c.add_input.new.disk
          c.from_residual-in_err-add_input.ensures.1
          (leaves_twice g.D.TapeDisk (spill_faults c.in_err-add_input.field-0.0) c.args.disk.now c.loop-input.disk c.add_input.new.disk
          so_far.disk c.in_err-add_input.ensures.disk);
    }

pub loop-input-preserved : goal.loop-input-preserved
loop-input-preserved g c =
    let q : Query = query_of c.args.pass.now in
    let hf : List ℕ → ℕ = g.H.KeyHash.hash_of c.args.pass.now.groups.hash in
    let inputs : List Brought = map brought c.args.inputs.now in
    let i : ℕ = c.loop-input.input-index in
    let input : Brought = brought c.input-item.result in
    let here = brought_at c.args.inputs.now i c.input-item.result c.loop-input-test.true c.input-item.is in
    let now : PassState = standing c.loop-input.pass.groups c.loop-input.pass.spill (g.D.TapeDisk.last c.loop-input.disk) in
    let next : PassState = standing c.add_input.new.self.groups c.add_input.new.self.spill (g.D.TapeDisk.last c.add_input.new.disk) in
    let so_far = c.loop-input.invariant in
    let add = added_first g.H.KeyHash.hash_of g.D.TapeDisk (source_of input) c.args.pass.now c.loop-input.pass c.loop-input.disk
    c.add_input.new.self so_far.kept.plan so_far.kept.table.hash c.add_input.new.disk c.in_ok-add_input.ensures.added in
    record {
      reads = λ givens give.
          input_read c.args.pass.now.plan hf inputs givens i input here c.requires.inputs.are give c.requires.inputs.few now [] []
          (so_far.reads givens give) next add.reads;
      brings = λ givens give. input_brings q hf inputs givens i input now.entries next.entries now.spill next.spill here give add.brings
          (so_far.brings givens give);
      safe = add.safe so_far.safe;
      pages = let before = so_far.pages in let more = add.pages in omega (arith, before, more);
      ready = add.ready;
      kept = keeps_twice c.args.pass.now c.loop-input.pass c.add_input.new.self so_far.kept add.kept;
      disk = leaves_twice g.D.TapeDisk 0 c.args.disk.now c.loop-input.disk c.add_input.new.disk so_far.disk c.in_ok-add_input.ensures.disk;
    }

pub returns : goal.returns
returns g c =
    let q : Query = query_of c.args.pass.now in
    let inputs : List Brought = map brought c.args.inputs.now in
    let i : ℕ = c.loop-input.input-index in
    let past = c.loop-input-test.false in
    let long : length inputs ≡ length c.args.inputs.now = length-map c.args.inputs.now brought in
    let now : PassState = standing c.loop-input.pass.groups c.loop-input.pass.spill (g.D.TapeDisk.last c.loop-input.disk) in
    let set : Setting = setting_in g.H.KeyHash.hash_of c.args.pass.now in
    let so_far = c.loop-input.invariant in
    let first = c.requires.first in
    let counts = c.finish.ensures.counted in
    record {
      made =
          IfOk-weaker c.finish.result (λ run. Finished g.D.TapeDisk c.loop-input.pass c.loop-input.disk run c.finish.new.self
          c.finish.new.disk)
          (λ run. MadeFirst g.H.KeyHash.hash_of g.D.TapeDisk inputs c.args.pass.now c.args.disk.now c.args.work.now run c.finish.new.self
          c.finish.new.disk c.finish.new.work)
          (λ run end.
          record {
            underway =
                λ givens give.
                let many : length inputs ≡ length givens = as_long (Gives q) inputs givens give in
                let all_of : all_pieces (take i inputs) (take i givens)
                ≡ all_pieces inputs givens = λ j. all_pieces (take_all i inputs (omega (arith, past, long)) j)
                (take_all i givens (omega (arith, past, long, many)) j) in
                let pages = so_far.pages in
                let none : written_pages c.args.pass.now.spill ≡ 0 = ap (full_pages c.args.pass.now.spill.tapes) first.over.fresh.partitions
                in
                first_waits q set (all_pieces inputs givens) now run c.finish.new.self.spill (g.D.TapeDisk.last c.finish.new.disk)
                c.args.work.now c.finish.new.work (g.D.TapeDisk.writes c.args.disk.now) (g.D.TapeDisk.writes c.loop-input.disk)
                (g.D.TapeDisk.writes c.finish.new.disk) end.moved end.rises (so_far.kept.spill.level ∙ first.level)
                (all_fit q set inputs givens first.over.ready.plan.formed first.over.ready.plan.limit first.over.ready.plan.narrow give)
                (omega (arith, pages, none)) end.left end.paged
                (λ spilled ahead pending pages has.
                subst (λ width. AddsUp c.args.work.now (pass_cost width now.entries (length spilled) pages) c.finish.new.work)
                (so_far.kept.table.width ∙ first.over.ready.width) (counts.adds spilled ahead pending pages has))
                (subst (λ pieces. Holds q set now pieces [] []) all_of (so_far.reads givens give));
            few =
                λ givens give.
                let many : length inputs ≡ length givens = as_long (Gives q) inputs givens give in
                let all_of : all_pieces (take i inputs) (take i givens)
                ≡ all_pieces inputs givens = λ j. all_pieces (take_all i inputs (omega (arith, past, long)) j)
                (take_all i givens (omega (arith, past, long, many)) j) in
                first_few (entries_of c.loop-input.pass.groups) run c.loop-input.pass.spill c.finish.new.self.spill
                (brought_by q (all_pieces inputs givens)) end.moved end.waiting (so_far.kept.spill.pending ∙ first.pending)
                (subst (λ pieces. total (entries_of c.loop-input.pass.groups) c.loop-input.pass.spill ≤ brought_by q pieces) all_of
                (so_far.brings givens give));
            safe = record {
              safe = safe_moved q c.args.pass.now.plan.most (entries_of c.loop-input.pass.groups) run so_far.safe end.moved;
              rises = end.rises;
            };
            over = record { ready = end.ready; fresh = end.fresh; reading = end.reading ∙ so_far.kept.spill.reading ∙ first.over.reading };
            within =
                record {
                  counted = counts.counted;
                  held = λ within. held_by_both c.args.pass.now.plan.limit _ _ _ counts.held within
                      (so_far.kept.table.within first.over.ready.held);
                };
            plan = end.plan ∙ so_far.kept.plan;
            hash = end.hash ∙ so_far.kept.table.hash;
            finds = end.finds ∙ so_far.kept.table.finds;
          })
          c.finish.ensures.finished;
      undamaged = c.finish.ensures.undamaged;
      disk = leaves_twice g.D.TapeDisk _ c.args.disk.now c.loop-input.disk c.finish.new.disk so_far.disk c.finish.ensures.disk;
    }
