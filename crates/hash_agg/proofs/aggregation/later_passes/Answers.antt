use Rattle.std.specs.Prelude.{◌≡◌, refl, ◌≤◌, ◌++◌, ◌∷◌, ℕ, List, [], length, IsTrue}
use Rattle.std.specs.List.Sorted.{IsPermutation}
use Rattle.std.proofs.Common.{sym, ◌∙◌, ap, subst, arith, append-nil}
use Rattle.std.proofs.lemmas.Grind.{common_steps}
use Rattle.std.proofs.lemmas.List.{length-append, nil_from_length}
use Rattle.std.proofs.lemmas.List.Sorted.{length_permutation}
use Rattle.std.proofs.lemmas.Result.{IfErr-weaker}
use Rattle.tape_disks.specs.DiskLaws.{leaves_none, leaves_twice}
use Rattle.hash_agg.proofs.Words.{spill_faults, count_of, waiting_number, full_pages, written_pages, NoMemory, Setting, Query, Entry, Rises}
use Rattle.hash_agg.proofs.Words.{concatenated, IsDone, query_of, setting_in, meaning, AreOnce, AreSafe, PassState, ReadsPartition}
use Rattle.hash_agg.proofs.Words.{CanReadPartition}
use Rattle.hash_agg.proofs.Words.{entries_of, standing, AddsUp, pass_cost, Plan, PartitionsState, IsOver}
use Rattle.hash_agg.proofs.DiskLaws.{left_out, still}
use Rattle.hash_agg.proofs.KeyLaws.{if_ok_both}
use Rattle.hash_agg.proofs.LaterLaws.{IsWaiting, pass_can, pass_made, waiting_ends}
use Rattle.hash_agg.proofs.NeedLaws.{held_by_both}
use Rattle.hash_agg.proofs.ReturnLaws.{all_if_ok, no_if_ok}
use Rattle.hash_agg.proofs.SortLaws.{rises_once}
use Rattle.hash_agg.proofs.StepLaws.{err_out}
use Rattle.hash_agg.proofs.UnionLaws.{one_run_more, safe_append, safe_moved, moved_stands}
use Rattle.hash_agg.proofs.aggregation.later_passes.Goals as goal

-- of the records of one list those were read that could be, by the plan and the hash function that all passes have
can_by : {H : Type 0} (hash_of : H → List ℕ → ℕ) (plan other : Plan) (hash last : H) (pass : PassState) → other ≡ plan → last ≡ hash
    → CanReadPartition plan (hash_of hash) pass → CanReadPartition other (hash_of last) pass
can_by hash_of plan other hash last pass same hashed can = subst (λ hash. CanReadPartition other (hash_of hash) pass) (sym hashed)
    (subst (λ plan. CanReadPartition plan (hash_of hash) pass) (sym same) can)

reads_by : {H : Type 0} (hash_of : H → List ℕ → ℕ) (plan other : Plan) (hash last : H) (pass next : PassState) → other ≡ plan → last ≡ hash
    → ReadsPartition other (hash_of last) pass next → ReadsPartition plan (hash_of hash) pass next
reads_by hash_of plan other hash last pass next same hashed reads = subst (λ hash. ReadsPartition plan (hash_of hash) pass next) hashed
    (subst (λ plan. ReadsPartition plan (hash_of last) pass next) same reads)

pub loop-pass-init : goal.loop-pass-init
loop-pass-init g c =
    let q : Query = query_of c.args.pass.now in
    let one : concatenated (c.args.run ∷ c.new-others.result.items)
    ≡ c.args.run = ap (λ rs. concatenated (c.args.run ∷ rs)) c.new-others.ensures.items ∙ append-nil c.args.run in
    let long = ap length one in
    record {
      over = c.requires.over;
      plan = refl;
      hash = refl;
      finds = refl;
      within = record { counted = c.requires.counted; held = λ is. is };
      safe = subst (AreSafe q c.args.pass.now.plan.most) (sym one) c.requires.run.safe;
      few = omega (arith, long);
      waits = λ honest pieces start writes underway count.
          subst (λ es. IsWaiting q (setting_in g.H.KeyHash.hash_of c.args.pass.now) pieces es c.args.pass.now.spill
          (g.D.TapeDisk.last c.args.disk.now) start c.args.work.now writes (g.D.TapeDisk.writes c.args.disk.now)) (sym one)
          (record { underway = underway; once = rises_once c.args.run c.requires.run.rises });
      disk = leaves_none g.D.TapeDisk c.args.disk.now;
    }

pub returns-in_err-add_partition : goal.returns-in_err-add_partition
returns-in_err-add_partition g c =
    let i = c.loop-pass.invariant in
    record {
      over = no_if_ok c.from_residual.result _ c.from_residual.ensures.0;
      finds = no_if_ok c.from_residual.result _ c.from_residual.ensures.0;
      made = no_if_ok c.from_residual.result _ c.from_residual.ensures.0;
      undamaged =
          err_out c.from_residual.result c.in_err-add_partition.field-0.0 _ c.from_residual.ensures.1
          (λ honest pieces start writes underway count.
          c.in_err-add_partition.ensures.refused.undamaged (subst IsTrue (sym i.disk.honesty) honest)
          (can_by g.H.KeyHash.hash_of c.args.pass.now.plan c.loop-pass.pass.plan c.args.pass.now.groups.hash c.loop-pass.pass.groups.hash
          (standing c.loop-pass.pass.groups c.begin_pass.new.self (g.D.TapeDisk.last c.loop-pass.disk)) i.plan i.hash
          (pass_can c.args.pass.now.plan (g.H.KeyHash.hash_of c.args.pass.now.groups.hash) pieces
          (concatenated (c.args.run ∷ c.loop-pass.others.items)) (entries_of c.loop-pass.pass.groups) c.loop-pass.pass.spill
          c.begin_pass.new.self (g.D.TapeDisk.last c.loop-pass.disk) start c.loop-pass.work writes
          (g.D.TapeDisk.writes c.loop-pass.disk)
          (i.waits honest pieces start writes underway count) count (c.begin_pass.ensures.begins c.loop-pass-test.true))));
      disk =
          left_out g.D.TapeDisk c.from_residual.result c.in_err-add_partition.field-0.0 c.args.disk.now c.add_partition.new.disk
          c.from_residual.ensures.1
          (leaves_twice g.D.TapeDisk (spill_faults c.in_err-add_partition.field-0.0) c.args.disk.now c.loop-pass.disk c.add_partition.new.disk i.disk
          c.in_err-add_partition.ensures.disk);
    }

pub returns-in_err-more : goal.returns-in_err-more
returns-in_err-more g c =
    record {
      over = no_if_ok c.from_residual-in_err-more.result _ c.from_residual-in_err-more.ensures.0;
      finds = no_if_ok c.from_residual-in_err-more.result _ c.from_residual-in_err-more.ensures.0;
      made = no_if_ok c.from_residual-in_err-more.result _ c.from_residual-in_err-more.ensures.0;
      undamaged = err_out c.from_residual-in_err-more.result c.in_err-more.field-0.0 _ c.from_residual-in_err-more.ensures.1
          (λ honest pieces start writes underway count. c.in_err-more.ensures.undamaged);
      disk =
          left_out g.D.TapeDisk c.from_residual-in_err-more.result c.in_err-more.field-0.0 c.args.disk.now c.finish.new.disk
          c.from_residual-in_err-more.ensures.1
          (leaves_twice g.D.TapeDisk (spill_faults c.in_err-more.field-0.0) c.args.disk.now c.add_partition.new.disk c.finish.new.disk
          (leaves_twice g.D.TapeDisk 0 c.args.disk.now c.loop-pass.disk c.add_partition.new.disk c.loop-pass.invariant.disk
          c.in_ok-add_partition.ensures.disk) c.in_err-more.ensures.disk);
    }

pub returns-in_err-push : goal.returns-in_err-push
returns-in_err-push g c =
    record {
      over = no_if_ok c.from_residual-in_err-push.result _ c.from_residual-in_err-push.ensures.0;
      finds = no_if_ok c.from_residual-in_err-push.result _ c.from_residual-in_err-push.ensures.0;
      made = no_if_ok c.from_residual-in_err-push.result _ c.from_residual-in_err-push.ensures.0;
      undamaged = err_out c.from_residual-in_err-push.result NoMemory _ c.from_residual-in_err-push.ensures.1
          (λ honest pieces start writes underway count same. cc);
      disk =
          left_out g.D.TapeDisk c.from_residual-in_err-push.result NoMemory c.args.disk.now c.finish.new.disk
          c.from_residual-in_err-push.ensures.1
          (leaves_twice g.D.TapeDisk 0 c.args.disk.now c.add_partition.new.disk c.finish.new.disk
          (leaves_twice g.D.TapeDisk 0 c.args.disk.now c.loop-pass.disk c.add_partition.new.disk c.loop-pass.invariant.disk
          c.in_ok-add_partition.ensures.disk) c.in_ok-more.ensures.disk);
    }

pub loop-pass-preserved : goal.loop-pass-preserved
loop-pass-preserved g c =
    let q : Query = query_of c.args.pass.now in
    let i = c.loop-pass.invariant in
    let end = c.in_ok-more.ensures.finished in
    let counts = c.in_ok-more.ensures.counted in
    let add = c.in_ok-add_partition.ensures.added in
    let run : List Entry = c.in_ok-more.more in
    let more : concatenated (c.args.run ∷ c.push.new.self.items) ≡ concatenated (c.args.run ∷ c.loop-pass.others.items)
    ++ run = ap (λ rs. concatenated (c.args.run ∷ rs)) c.in_ok-push.ensures.items
    ∙ one_run_more (c.args.run ∷ c.loop-pass.others.items) run in
    let both = ap length more ∙ length-append (concatenated (c.args.run ∷ c.loop-pass.others.items)) run in
    let many = length_permutation (entries_of c.add_partition.new.self.groups) run end.moved in
    let made = add.few in
    let left = end.waiting in
    let same : waiting_number c.add_partition.new.self.spill ≡ waiting_number c.begin_pass.new.self = ap count_of add.kept.pending in
    let counted = c.begin_pass.ensures.counted in
    let before = i.few in
    let safe : AreSafe q c.args.pass.now.plan.most (entries_of c.add_partition.new.self.groups) =
    subst (λ (plan : Plan). AreSafe (meaning plan.query.now) plan.most (entries_of c.add_partition.new.self.groups)) i.plan add.safe in
    record {
      over = record { ready = end.ready; fresh = end.fresh; reading = end.reading ∙ add.reading };
      plan = end.plan ∙ add.kept.plan ∙ i.plan;
      hash = end.hash ∙ add.kept.table.hash ∙ i.hash;
      finds = end.finds ∙ add.kept.table.finds ∙ i.finds;
      within =
          record {
            counted = counts.counted;
            held = λ within. held_by_both c.args.pass.now.plan.limit _ _ _ counts.held (i.within.held within)
                (subst (λ (plan : Plan). c.add_partition.new.self.groups.most_held ≤ plan.limit) (add.kept.plan ∙ i.plan) add.ready.held);
          };
      safe = subst (AreSafe q c.args.pass.now.plan.most) (sym more)
          (safe_append q c.args.pass.now.plan.most (concatenated (c.args.run ∷ c.loop-pass.others.items)) run i.safe
          (safe_moved q c.args.pass.now.plan.most (entries_of c.add_partition.new.self.groups) run safe end.moved));
      few = omega (arith, both, many, made, left, same, counted, before);
      waits = λ honest pieces start writes underway count.
          let read_pages = add.pages in
          let none : written_pages c.begin_pass.new.self ≡ 0 = ap (full_pages c.begin_pass.new.self.tapes) c.begin_pass.ensures.partitions
          in
          subst (λ es. IsWaiting q (setting_in g.H.KeyHash.hash_of c.args.pass.now) pieces es
          c.finish.new.self.spill (g.D.TapeDisk.last c.finish.new.disk) start c.finish.new.work writes
          (g.D.TapeDisk.writes c.finish.new.disk)) (sym more)
          (pass_made c.args.pass.now.plan (g.H.KeyHash.hash_of c.args.pass.now.groups.hash) pieces
          (concatenated (c.args.run ∷ c.loop-pass.others.items)) (entries_of c.loop-pass.pass.groups) c.loop-pass.pass.spill
          c.begin_pass.new.self (g.D.TapeDisk.last c.loop-pass.disk) start c.loop-pass.work writes
          (g.D.TapeDisk.writes c.loop-pass.disk)
          (i.waits honest pieces start writes underway count) count (c.begin_pass.ensures.begins c.loop-pass-test.true)
          c.add_partition.new.self.spill c.finish.new.self.spill (g.D.TapeDisk.last c.add_partition.new.disk) (g.D.TapeDisk.last c.finish.new.disk)
          (entries_of c.add_partition.new.self.groups) run c.finish.new.work (g.D.TapeDisk.writes c.add_partition.new.disk)
          (g.D.TapeDisk.writes c.finish.new.disk) c.requires.over.ready.plan.formed add.kept.level
          (reads_by g.H.KeyHash.hash_of c.args.pass.now.plan c.loop-pass.pass.plan c.args.pass.now.groups.hash c.loop-pass.pass.groups.hash
          (standing c.loop-pass.pass.groups c.begin_pass.new.self (g.D.TapeDisk.last c.loop-pass.disk))
          (standing c.add_partition.new.self.groups c.add_partition.new.self.spill (g.D.TapeDisk.last c.add_partition.new.disk)) i.plan i.hash
          (add.reads (subst IsTrue (sym i.disk.honesty) honest)))
          end.moved end.rises end.left
          (λ spilled ahead pending pages has.
          subst (λ width. AddsUp c.loop-pass.work (pass_cost width (entries_of c.add_partition.new.self.groups) (length spilled) pages)
          c.finish.new.work) (add.ready.width ∙ ap (λ (plan : Plan). length plan.first.items) (add.kept.plan ∙ i.plan))
          (counts.adds spilled ahead pending pages has))
          (omega (arith, read_pages, none)) end.paged);
      disk = leaves_twice g.D.TapeDisk 0 c.args.disk.now c.add_partition.new.disk c.finish.new.disk
          (leaves_twice g.D.TapeDisk 0 c.args.disk.now c.loop-pass.disk c.add_partition.new.disk i.disk c.in_ok-add_partition.ensures.disk)
          c.in_ok-more.ensures.disk;
    }

pub returns : goal.returns
returns g c =
    let q : Query = query_of c.args.pass.now in
    let set : Setting = setting_in g.H.KeyHash.hash_of c.args.pass.now in
    let hf : List ℕ → ℕ = g.H.KeyHash.hash_of c.args.pass.now.groups.hash in
    let i = c.loop-pass.invariant in
    let joined : List Entry = concatenated (c.args.run ∷ c.loop-pass.others.items) in
    record {
      over = all_if_ok c.united.result _ (subst (λ (spill : PartitionsState). IsOver (record c.loop-pass.pass { spill = spill }))
          (sym (c.begin_pass.ensures.unchanged c.loop-pass-test.false)) i.over);
      finds = all_if_ok c.united.result _ i.finds;
      made =
          if_ok_both c.united.result (IsPermutation (concatenated (c.args.run ∷ c.deref.result.now))) Rises _
          (λ all moved rises.
          let perm : IsPermutation joined all = subst (λ (rs : List (List Entry)). IsPermutation (concatenated (c.args.run ∷ rs)) all)
          c.deref.ensures.value moved in
          record {
            whole =
                λ honest pieces start writes underway count.
                let w = i.waits honest pieces start writes underway count in
                let e = waiting_ends q set pieces joined c.loop-pass.pass.spill (g.D.TapeDisk.last c.loop-pass.disk) start c.loop-pass.work
                writes (g.D.TapeDisk.writes c.loop-pass.disk) (c.begin_pass.ensures.none c.loop-pass-test.false) w.underway in
                record { stands = moved_stands q hf pieces joined all [] perm w.once e.stands; adds = e.adds; paged = e.paged };
            few = let many = length_permutation joined all perm in let few = i.few in omega (arith, many, few);
            safe = record { safe = safe_moved q c.args.pass.now.plan.most joined all i.safe perm; rises = rises };
            within = i.within;
          })
          c.united.ensures.sorted c.united.ensures.rises;
      undamaged =
          IfErr-weaker c.united.result _ _
          (λ error right honest pieces start writes underway count.
          right (subst (λ (rs : List (List Entry)). AreOnce (concatenated (c.args.run ∷ rs))) (sym c.deref.ensures.value)
          (i.waits honest pieces start writes underway count).once))
          c.united.ensures.undamaged;
      disk = leaves_twice g.D.TapeDisk _ c.args.disk.now c.loop-pass.disk c.loop-pass.disk i.disk
          (still g.D.TapeDisk c.united.result c.loop-pass.disk c.united.ensures.faultless);
    }

alone : (run : List Entry) (others : List (List Entry)) → length others ≡ 0 → concatenated (run ∷ others) ≡ run
alone run others none = ap (λ runs. concatenated (run ∷ runs)) (nil_from_length others none) ∙ append-nil run

pub returns-then-is_empty : goal.returns-then-is_empty
returns-then-is_empty g c =
    let q : Query = query_of c.args.pass.now in
    let set : Setting = setting_in g.H.KeyHash.hash_of c.args.pass.now in
    let i = c.loop-pass.invariant in
    let counted = c.loop-pass.others.ok in
    let none : length c.loop-pass.others.items ≡ 0 = grind (arith, common_steps, c.is_empty.ensures, c.if-is_empty.true) in
    record {
      over = subst (λ (spill : PartitionsState). IsOver (record c.loop-pass.pass { spill = spill }))
          (sym (c.begin_pass.ensures.unchanged c.loop-pass-test.false)) i.over;
      finds = i.finds;
      made =
          record {
            whole =
                λ honest pieces start writes underway count.
                subst (λ all. IsDone q set pieces all start c.loop-pass.work writes (g.D.TapeDisk.writes c.loop-pass.disk))
                (alone c.args.run c.loop-pass.others.items none)
                (waiting_ends q set pieces (concatenated (c.args.run ∷ c.loop-pass.others.items)) c.loop-pass.pass.spill
                (g.D.TapeDisk.last c.loop-pass.disk) start c.loop-pass.work writes (g.D.TapeDisk.writes c.loop-pass.disk)
                (c.begin_pass.ensures.none c.loop-pass-test.false)
                (i.waits honest pieces start writes underway count).underway);
            few = omega arith;
            safe = c.requires.run;
            within = i.within;
          };
      undamaged = tt;
      disk = i.disk;
    }
