-- What follows from the record of a call that aggregates, and how records are put together.
use Rattle.std.specs.Prelude.{◌≡◌, ◌≢◌, refl, ℕ, List, Option, Some, Result, Ok, Err, IfErr, OnOk, OnErr, IsErrAnd, IsTrue}
use Rattle.std.proofs.Common.{sym, ◌∙◌, ap, subst, arith}
use Rattle.std.proofs.lemmas.Result.{err_from_is_err_and}
use Rattle.aggregation_cost.specs.Space.{Setting}
use Rattle.grouping_model.specs.Query.{Query}
use Rattle.having_filter.specs.Meaning.{meaning}
use Rattle.query_checks.specs.Checks.{Checked}
use Rattle.spill_partitions.specs.declared.error.SpillError.{SpillError}
use Rattle.spill_partitions.specs.declared.error.SpillError.TheVariants.{TapeDamaged}
use Rattle.tape_disks.specs.Calls.{failed}
use Rattle.tape_disks.specs.Disk.{DiskFrame}
use Rattle.tape_disks.specs.DiskLaws.{leaves_none, leaves_twice}
use Rattle.tape_disks.specs.declared.disk.TapeDisk.{Ghosts}
use Rattle.hash_agg.specs.Counting.{setting_by, HasGrown}
use Rattle.hash_agg.specs.Means.{MeansState}
use Rattle.hash_agg.specs.Ran.{Ran, Ended, Done, Refused, ended_by, faults_of, WhereDone}
use Rattle.hash_agg.specs.declared.work.Work.{Work}

-- what is counted of a call, as `Ran` takes it
abbrev pub Counting : Type 1
Counting = Query → Setting → Work → ℕ → Work → ℕ → Type 0

pub reason_is : {one other : Option SpillError} → Refused one ≡ Refused other → one ≡ other
reason_is same = cc

-- an error that is handed on ends a call as its reason says
pub refused_by : {T E : Type 0} (reason : E → Option SpillError) (r : Result T E) (error : E) → IsErrAnd r (λ e. e ≡ error)
    → ended_by reason r ≡ Refused (reason error)
refused_by reason r error given =
    let p = err_from_is_err_and r given in ap (ended_by reason) p.1 ∙ ap (λ e. Refused (reason e)) p.2

-- ---- the work that grows

pub none_grown : (limit : ℕ) (work : Work) → HasGrown limit work work
none_grown limit work = record { passes = omega arith; spilled = omega arith; held = omega arith; within = omega arith }

pub grown_twice : (limit : ℕ) (begun work done : Work) → HasGrown limit begun work → HasGrown limit work done → HasGrown limit begun done
grown_twice limit begun work done one two =
    let p = one.passes in let q = two.passes in
    let s = one.spilled in let t = two.spilled in
    let h = one.held in let k = two.held in
    let a = one.within in let b = two.within in
    record { passes = omega (arith, p, q); spilled = omega (arith, s, t); held = omega (arith, h, k); within = omega (arith, a, b) }

module _ {D H : Type 0} (g : Ghosts D) (hash_of : H → List ℕ → ℕ) (query : Checked) (means : MeansState H) where
  -- ---- the single facts of a result

  pub ran_disk : {T E : Type 0} (reason : E → Option SpillError) (faults : E → ℕ) → ((error : E) → faults_of (Refused (reason error))
      ≡ faults error) → (Counts : Counting) (r : Result T E) (before : D) (begun : Work) (after : D) (done : Work)
      → Ran g hash_of query means Counts (ended_by reason r) before begun after done → DiskFrame g (failed faults r) before after
  ran_disk reason faults same Counts (Ok x) before begun after done ran = ran.disk
  ran_disk reason faults same Counts (Err e) before begun after done ran = subst (λ n. DiskFrame g n before after) (same e) ran.disk

  pub ran_counted : {T E : Type 0} (reason : E → Option SpillError) (Counts : Counting) (r : Result T E) (before : D) (begun : Work)
      (after : D) (done : Work) → Ran g hash_of query means Counts (ended_by reason r) before begun after done
      → OnOk r (IsTrue (g.honest before) → Counts (meaning query) (setting_by hash_of (meaning query) means) begun (g.writes before) done
      (g.writes after))
  ran_counted reason Counts (Ok x) before begun after done ran = ran.counted
  ran_counted reason Counts (Err e) before begun after done ran = tt

  pub ran_uncounted : {T E : Type 0} (reason : E → Option SpillError) (Counts : Counting) (r : Result T E) (before : D) (begun : Work)
      (after : D) (done : Work) → Ran g hash_of query means Counts (ended_by reason r) before begun after done → OnErr r (done ≡ begun)
  ran_uncounted reason Counts (Ok x) before begun after done ran = tt
  ran_uncounted reason Counts (Err e) before begun after done ran = ran.uncounted

  pub ran_undamaged : {T E : Type 0} (reason : E → Option SpillError) (Counts : Counting) (r : Result T E) (before : D) (begun : Work)
      (after : D) (done : Work) → Ran g hash_of query means Counts (ended_by reason r) before begun after done
      → IfErr r (λ error. IsTrue (g.honest before) → reason error ≢ Some TapeDamaged)
  ran_undamaged reason Counts (Ok x) before begun after done ran = tt
  ran_undamaged reason Counts (Err e) before begun after done ran = λ honest same. ran.undamaged honest (ap Refused same)

  -- ---- records put together

  -- a call that ended otherwise by name alone
  pub ran_as : (Counts : Counting) (ended other : Ended) (before : D) (begun : Work) (after : D) (done : Work) → ended ≡ other
      → Ran g hash_of query means Counts ended before begun after done → Ran g hash_of query means Counts other before begun after done
  ran_as Counts ended other before begun after done same ran =
      subst (λ e. Ran g hash_of query means Counts e before begun after done) same ran

  -- what is counted says more than what is asked for
  pub ran_weaker : (Counts Other : Counting) (ended : Ended) (before : D) (begun : Work) (after : D) (done : Work)
      → (Counts (meaning query) (setting_by hash_of (meaning query) means) begun (g.writes before) done (g.writes after)
      → Other (meaning query) (setting_by hash_of (meaning query) means) begun (g.writes before) done (g.writes after))
      → Ran g hash_of query means Counts ended before begun after done → Ran g hash_of query means Other ended before begun after done
  ran_weaker Counts Other ended before begun after done weaker ran = record {
    disk = ran.disk;
    undamaged = ran.undamaged;
    counted = where_done ended
        (IsTrue (g.honest before)
        → Counts (meaning query) (setting_by hash_of (meaning query) means) begun (g.writes before) done (g.writes after))
        (IsTrue (g.honest before)
        → Other (meaning query) (setting_by hash_of (meaning query) means) begun (g.writes before) done (g.writes after))
        (λ counted honest. weaker (counted honest)) ran.counted;
    uncounted = ran.uncounted;
    grown = ran.grown;
  }
    where
      where_done : (ended : Ended) (A B : Type 0) → (A → B) → WhereDone ended A → WhereDone ended B
      where_done Done A B f a = f a
      where_done (Refused reason) A B f a = tt

  -- a call that did nothing of the disk and the work is done, or is refused by what is no fault of a disk
  pub ran_still : (Counts : Counting) (disk : D) (work : Work)
      → (IsTrue (g.honest disk) → Counts (meaning query) (setting_by hash_of (meaning query) means) work (g.writes disk) work
      (g.writes disk)) → Ran g hash_of query means Counts Done disk work disk work
  ran_still Counts disk work counts = record {
    disk = leaves_none g disk;
    undamaged = λ honest same. absurd cc;
    counted = counts;
    uncounted = tt;
    grown = none_grown means.limit work;
  }

  pub refused_still : (Counts : Counting) (reason : Option SpillError) (disk : D) (work : Work) → faults_of (Refused reason) ≡ 0
      → (IsTrue (g.honest disk) → reason ≢ Some TapeDamaged)
      → Ran g hash_of query means Counts (Refused reason) disk work disk work
  refused_still Counts reason disk work none undamaged = record {
    disk = subst (λ n. DiskFrame g n disk disk) (sym none) (leaves_none g disk);
    undamaged = λ honest same. undamaged honest (reason_is same);
    counted = tt;
    uncounted = refl;
    grown = none_grown means.limit work;
  }

  -- what is refused counts nothing, whatever was to be counted
  pub refused_other : (Counts Other : Counting) (reason : Option SpillError) (before : D) (begun : Work) (after : D) (done : Work)
      → Ran g hash_of query means Counts (Refused reason) before begun after done
      → Ran g hash_of query means Other (Refused reason) before begun after done
  refused_other Counts Other reason before begun after done ran = record {
    disk = ran.disk;
    undamaged = ran.undamaged;
    counted = tt;
    uncounted = ran.uncounted;
    grown = ran.grown;
  }

  -- and so it may be said of any work
  pub refused_alike : (Counts Other : Counting) (reason : Option SpillError) (before : D) (begun : Work) (after : D) (done work : Work)
      → Ran g hash_of query means Counts (Refused reason) before begun after done
      → Ran g hash_of query means Other (Refused reason) before work after work
  refused_alike Counts Other reason before begun after done work ran = record {
    disk = ran.disk;
    undamaged = ran.undamaged;
    counted = tt;
    uncounted = refl;
    grown = none_grown means.limit work;
  }

  -- a refusal after calls that are done leaves the work as it was before them all
  pub refused_later : (Counts : Counting) (reason : Option SpillError) (before middle after : D) (work : Work)
      → DiskFrame g 0 before middle → DiskFrame g (faults_of (Refused reason)) middle after
      → (IsTrue (g.honest middle) → reason ≢ Some TapeDamaged)
      → Ran g hash_of query means Counts (Refused reason) before work after work
  refused_later Counts reason before middle after work first second undamaged = record {
    disk = leaves_twice g (faults_of (Refused reason)) before middle after first second;
    undamaged = λ honest same. undamaged (subst IsTrue (sym first.honesty) honest) (reason_is same);
    counted = tt;
    uncounted = refl;
    grown = none_grown means.limit work;
  }
