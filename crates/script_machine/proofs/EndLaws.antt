-- How a run of a script ends, by what its commands did.
use Rattle.std.specs.Prelude.{◌≡◌, ◌≤◌, refl, ℕ, Bool, false, IsTrue, List, length, take, Option, Some, None, IfSome, OnOk, Result}
use Rattle.std.specs.Prelude.{Ok, Err}
use Rattle.std.proofs.Common.{sym, subst, arith}
use Rattle.std.specs.Io.KnownBytes.{Appends, Consumes, IsAtEnd}
use Rattle.std.specs.Result.{IsErrAnd}
use Rattle.std.proofs.KnownBytes.{Keeps-refl}
use Rattle.grouping_model.specs.declared.limits.TheConstants.{MAX_INPUT_LEN}
use Rattle.key_hashes.specs.declared.sip_hash.Seed.{Seed}
use Rattle.tape_disks.specs.DiskLaws.{leaves_none}
use Rattle.tape_disks.specs.declared.disk.TapeDisk.{Ghosts}
use Rattle.script_io.specs.Fused.{FailsAsTold}
use Rattle.script_io.specs.Input.{StopsReading, is_read_fault}
use Rattle.script_io.specs.InputLaws.{consumes-all, consumes-longer}
use Rattle.script_io.specs.Output.{StopsShort}
use Rattle.script_io.specs.declared.fused.Fused.{Fused}
use Rattle.script_io.specs.declared.input.InputError.{InputError}
use Rattle.script_io.specs.declared.input.InputError.TheVariants as input
use Rattle.replies.specs.declared.ending.Outcome.{Outcome}
use Rattle.refusals.specs.declared.error.RunError.{RunError}
use Rattle.refusals.specs.declared.error.RunError.TheVariants as stop
use Rattle.script_machine.proofs.Words.{Command, DiskFrame, Works, WorksThrough}
use Rattle.script_machine.proofs.Words.{run_error}
use Rattle.script_machine.specs.Exact.{IsExactOutput, WritesExactly}
use Rattle.script_machine.proofs.RunLaws.{answered_of_exact, output_lengths, ran_none, stops_short, writes_all, writes_front, writes_some}
use Rattle.script_machine.specs.Headline.{IsRightOutput, Promise, commands_in}
use Rattle.script_machine.specs.Output.{Ends, KeepsUnread, StopsAt, WritesAll, disk_over, tells_read_fault, tells_write_fault}
use Rattle.script_machine.specs.Running.{RunsOver}
use Rattle.script_machine.specs.Streams.{Streams, Wrote}
use Rattle.script_machine.specs.Text.{joined}

-- what holds of an error that it is passed on as holds of the result
pub passed_on : {T E : Type 0} (result : Result T E) (e : E) (P : Result T E → Type 0) → IsErrAnd result (λ x. x ≡ e) → P (Err e) → P result
passed_on (Ok x) e P failed p = absurd failed
passed_on (Err x) e P failed p = subst (λ y. P (Err y)) (sym failed) p

-- the same of what a run tells
module _ {T : Type 0} (result : Result T RunError) (e : RunError) (passed : IsErrAnd result (λ x. x ≡ e)) where
  pub never_fine : (P : Type 0) → OnOk result P
  never_fine P = passed_on result e (λ r. OnOk r P) passed tt

  pub fails_passed : {W : Type 0} (old new : Fused W) → FailsAsTold old new (tells_write_fault {A = T} (Err e))
      → FailsAsTold old new (tells_write_fault result)
  fails_passed old new h = passed_on result e (λ r. FailsAsTold old new (tells_write_fault r)) passed h

  pub faults_passed : (failed : Bool) → tells_read_fault {A = T} (Err e) ≡ failed → tells_read_fault result ≡ failed
  faults_passed failed h = passed_on result e (λ r. tells_read_fault r ≡ failed) passed h

module _ {D : Type 0} (g : Ghosts D) (seed : Seed) (result : Result Outcome RunError) (e : RunError)
    (passed : IsErrAnd result (λ x. x ≡ e)) where
  pub works_passed : (commands : List Command) (old new : Option (List ℕ)) (before after : D)
      → Works g seed commands old new before after (Err e)
      → Works g seed commands old new before after result
  works_passed commands old new before after h = passed_on result e (λ r. Works g seed commands old new before after r) passed h

  pub runs_passed : (before after : D) (streams : Streams) → RunsOver g seed before after streams (Err e)
      → RunsOver g seed before after streams result
  runs_passed before after streams h = passed_on result e (λ r. RunsOver g seed before after streams r) passed h

-- ---- a script that was read

module _ {D : Type 0} (g : Ghosts D) (seed : Seed) (before after : D) (streams : Streams) (script : List ℕ)
    (short : length script ≤ MAX_INPUT_LEN) where
  ends_of : (result : Result Outcome RunError) → Works g seed (commands_in script) streams.old streams.new before after result
      → (faults : ℕ) × DiskFrame g faults before after
      → Ends (disk_over g before after) (record streams { script = Some script }) result
  ends_of (Ok outcome) works disk =
      (short, writes_all g seed (commands_in script) before after streams.old streams.new outcome.refused works)
  ends_of (Err stop.WriteFault) works disk = (
    (
      short,
      writes_front g seed works.0 (commands_in script) before after _ (StopsShort streams.old streams.new)
          (stops_short streams.old streams.new) works.1,
    ),
    tt,
  )
  ends_of (Err stop.NoMemory) works disk =
      let later = works.4.failures in
      let front =
      writes_some g seed works.0 (commands_in script) before works.1 works.2 streams.old streams.new works.5 works.6 in (
        (λ long. absurd (omega (arith, long, short)), g.failures works.1, omega (arith, later), front.0, front.1),
        tt,
      )
  ends_of (Err stop.InputTooLong) works disk = absurd works
  ends_of (Err stop.ReadFault) works disk = absurd works

  through_of : (result : Result Outcome RunError) → Works g seed (commands_in script) streams.old streams.new before after result
      → WorksThrough g seed (record streams { script = Some script }) before after result
  through_of (Ok outcome) works = works
  through_of (Err stop.WriteFault) works = works
  through_of (Err stop.NoMemory) works = works
  through_of (Err stop.InputTooLong) works = absurd works
  through_of (Err stop.ReadFault) works = absurd works

  runs_known : (result : Result Outcome RunError) → Works g seed (commands_in script) streams.old streams.new before after result
      → (faults : ℕ) × DiskFrame g faults before after → RunsOver g seed before after (record streams { script = Some script }) result
  runs_known result works disk =
      record { ends = ends_of result works disk; works = through_of result works; disk = disk }

-- the same where nothing is known of the script
runs_unknown : {D : Type 0} (g : Ghosts D) (seed : Seed) (before after : D) (commands : List Command) (old new : Option (List ℕ))
    (result : Result Outcome RunError) → Works g seed commands old new before after result → (faults : ℕ) × DiskFrame g faults before after
    → RunsOver g seed before after (record { script = None; old = old; new = new }) result
runs_unknown g seed before after commands old new (Ok outcome) works disk = record { ends = tt; works = tt; disk = disk }
runs_unknown g seed before after commands old new (Err stop.WriteFault) works disk = record { ends = (tt, tt); works = tt; disk = disk }
runs_unknown g seed before after commands old new (Err stop.NoMemory) works disk = record { ends = (tt, tt); works = tt; disk = disk }
runs_unknown g seed before after commands old new (Err stop.InputTooLong) works disk = absurd works
runs_unknown g seed before after commands old new (Err stop.ReadFault) works disk = absurd works

pub runs_read : {D : Type 0} (g : Ghosts D) (seed : Seed) (before after : D) (a b old new : Option (List ℕ)) (script : List ℕ)
    (result : Result Outcome RunError) → length script ≤ MAX_INPUT_LEN → Consumes a b script → IsAtEnd b
    → Works g seed (commands_in script) old new before after result → (faults : ℕ) × DiskFrame g faults before after
    → RunsOver g seed before after (record { script = a; old = old; new = new }) result
runs_read g seed before after None b old new script result short took ended works disk =
    runs_unknown g seed before after (commands_in script) old new result works disk
runs_read g seed before after (Some all) b old new script result short took ended works disk =
    subst (λ xs. RunsOver g seed before after (record { script = Some xs; old = old; new = new }) result)
    (sym (consumes-all (Some all) b script took ended))
    (runs_known g seed before after (record { script = Some script; old = old; new = new }) script short result works disk)

-- a script that was read tells no fault of its reader
pub faults_read : {D : Type 0} (g : Ghosts D) (seed : Seed) (before after : D) (commands : List Command) (old new : Option (List ℕ))
    (result : Result Outcome RunError) → Works g seed commands old new before after result → tells_read_fault result ≡ false
faults_read g seed before after commands old new (Ok outcome) works = refl
faults_read g seed before after commands old new (Err stop.WriteFault) works = refl
faults_read g seed before after commands old new (Err stop.NoMemory) works = refl
faults_read g seed before after commands old new (Err stop.InputTooLong) works = absurd works
faults_read g seed before after commands old new (Err stop.ReadFault) works = absurd works

-- ---- a script that was not read

module _ {D : Type 0} (g : Ghosts D) (seed : Seed) (disk : D) (known : Option (List ℕ)) where
  stops_unread : (a b : Option (List ℕ)) (e : InputError) → StopsReading a b MAX_INPUT_LEN e
      → IfSome a (λ script. StopsAt (disk_over g disk disk) script known known (run_error e))
  stops_unread None b e h = tt
  stops_unread (Some script) b input.ReadFault h = tt
  stops_unread (Some script) b input.TooLong h = consumes-longer (Some script) b h.0 MAX_INPUT_LEN h.1 h.2
  stops_unread (Some script) b input.NoMemory h =
      let none = ran_none g seed (commands_in script) disk known in
      let front = writes_some g seed (commands_in script) (commands_in script) disk disk 0 known known none.0 none.1 in
      (λ long. Keeps-refl known, g.failures disk, omega arith, front.0, front.1)

  keeps_unread : (e : InputError) → KeepsUnread known known (run_error e)
  keeps_unread input.ReadFault = Keeps-refl known
  keeps_unread input.TooLong = Keeps-refl known
  keeps_unread input.NoMemory = tt

  through_unread : (a : Option (List ℕ)) (e : InputError) → WorksThrough g seed (record { script = a; old = known; new = known }) disk disk
      (Err (run_error e))
  through_unread a input.ReadFault = refl
  through_unread a input.TooLong = refl
  through_unread None input.NoMemory = tt
  through_unread (Some script) input.NoMemory =
      let none = ran_none g seed (commands_in script) disk known in
      (commands_in script, disk, 0, 0, leaves_none g disk, none.0, none.1)

  pub runs_unread : (a b : Option (List ℕ)) (e : InputError) → StopsReading a b MAX_INPUT_LEN e
      → RunsOver g seed disk disk (record { script = a; old = known; new = known }) (Err (run_error e))
  runs_unread a b e h = record {
    ends = (stops_unread a b e h, keeps_unread e);
    works = through_unread a e;
    disk = (0, leaves_none g disk);
  }

pub told_as : (e : InputError) → tells_read_fault {A = Outcome} (Err (run_error e)) ≡ is_read_fault e
told_as input.ReadFault = refl
told_as input.NoMemory = refl
told_as input.TooLong = refl

-- it tells no fault of a writer
pub fails_unread : {W : Type 0} (e : InputError) (writer : Fused W) → FailsAsTold writer writer (tells_write_fault {A = Outcome}
    (Err (run_error e)))
fails_unread input.ReadFault writer = λ sound. sym sound
fails_unread input.NoMemory writer = λ sound. sym sound
fails_unread input.TooLong writer = λ sound. sym sound

-- ---- the promise

-- over an honest disk a run that ended well wrote an output that is right to the byte
pub writes_exactly : {D : Type 0} (g : Ghosts D) (seed : Seed) (before after : D) (streams : Streams) (result : Result Outcome RunError)
    → RunsOver g seed before after streams result → OnOk result (IsTrue (g.honest before) → WritesExactly streams)
writes_exactly g seed before after streams (Err e) runs = tt
writes_exactly g seed before after streams (Ok outcome) runs = λ so. go so streams.script runs.ends
  where
    go : IsTrue (g.honest before) → (script : Option (List ℕ)) → IfSome script (λ s. (length s ≤ MAX_INPUT_LEN)
        × WritesAll (disk_over g before after) (commands_in s) streams.old streams.new outcome.refused)
        → IfSome script (λ s. (output : List ℕ) × Appends streams.old streams.new output × IsExactOutput s output)
    go so None ends = tt
    go so (Some script) ends =
        let all = ends.1 in
        let lengths = output_lengths (disk_over g before after) (commands_in script) all.replies all.texts all.output in (
          joined all.texts,
          all.writes,
          record {
            is_right = record {
              replies = all.replies;
              texts = all.texts;
              each = lengths.0;
              each_text = lengths.1;
              answered = λ front. answered_of_exact (take front (commands_in script)) (take front all.replies) (take front all.texts)
                  (all.output.right so front);
              whole = refl;
            };
            tells = λ front history keeps. (all.output.right so front history keeps).0;
          },
        )

-- so it wrote a right one
exact_is_right : (streams : Streams) → WritesExactly streams → Wrote streams IsRightOutput
exact_is_right streams = go streams.script
  where
    go : (script : Option (List ℕ)) → IfSome script (λ s. (output : List ℕ) × Appends streams.old streams.new output
        × IsExactOutput s output)
        → IfSome script (λ s. (output : List ℕ) × Appends streams.old streams.new output × IsRightOutput s output)
    go None wrote = tt
    go (Some script) wrote = (wrote.0, wrote.1, wrote.2.is_right)

pub keeps_promise : {D : Type 0} (g : Ghosts D) (seed : Seed) (before after : D) (streams : Streams) (result : Result Outcome RunError)
    → RunsOver g seed before after streams result → Promise (g.honest before) streams result
keeps_promise g seed before after streams (Err e) runs = tt
keeps_promise g seed before after streams (Ok outcome) runs = λ so.
    exact_is_right streams (writes_exactly g seed before after streams (Ok outcome) runs so)
