-- How the command `script` ends.
use Rattle.std.specs.Prelude.{◌≡◌, refl, ℕ, Bool, true, false, List, Option, Result, Ok, Err, IsTrue, OnOk}
use Rattle.std.proofs.Common.{◌∙◌, sym, subst, inl, inr}
use Rattle.key_hashes.specs.declared.sip_hash.Seed.{Seed}
use Rattle.tape_disks.specs.Files.{SystemState}
use Rattle.tape_disks.specs.declared.disk.TapeDisk.{Ghosts}
use Rattle.tape_disks.specs.declared.spill_disk.SpillDisk.{SpillDisk}
use Rattle.script_io.specs.Fused.{unread}
use Rattle.script_io.specs.declared.fused.Fused.{Fused}
use Rattle.replies.specs.Status.{run_ending}
use Rattle.replies.specs.declared.ending.ExitKind.{ExitKind}
use Rattle.replies.specs.declared.ending.ExitKind.TheVariants.{Done, Fault}
use Rattle.replies.specs.declared.ending.Outcome.{Outcome}
use Rattle.refusals.specs.declared.error.RunError.{RunError}
use Rattle.refusals.specs.declared.error.RunError.TheVariants.{InputTooLong, NoMemory, ReadFault, WriteFault}
use Rattle.script_machine.specs.Headline.{IsRightOutput}
use Rattle.script_machine.specs.Streams.{Wrote}
use Rattle.command_streams.specs.DiskLaws.{honest_in_memory}
use Rattle.command_streams.specs.Disks.{command_tapes, is_in_memory}
use Rattle.command_scripts.specs.Runs.{streams_over, RanScript, RunEnds, ScriptEnds, SeededEnds}

-- a run over a reader is one of what that has left
pub ran_script : {D I W : Type 0} (g : Ghosts D) (seed : Seed) (remaining : I → Option (List ℕ)) (contents : W → Option (List ℕ))
    (reader reader_now : Fused I) (writer writer_now : Fused W) (disk disk_now : D) (exit : ExitKind) (script : Option (List ℕ))
    → unread remaining reader ≡ script → RunEnds g seed remaining contents reader reader_now writer writer_now disk disk_now exit
    → RanScript g seed script contents writer writer_now disk disk_now exit
ran_script g seed remaining contents reader reader_now writer writer_now disk disk_now exit script same ends =
    subst (λ s. RanScript g seed s contents writer writer_now disk disk_now exit) same (record {
      run = ends.run;
      ended = ends.ended;
      headline = ends.headline;
      exact = ends.runs.exact;
      any_disk = ends.runs.any_disk;
      write_fault = ends.runs.write_fault;
    })

-- the command ends as its run
pub script_ends : {F W : Type 0} (in_memory : Bool) (script : Option (List ℕ)) (contents : W → Option (List ℕ))
    (writer writer_now : Fused W) (disk disk_now : SpillDisk (SystemState F)) (exit : ExitKind) → is_in_memory disk ≡ in_memory
    → SeededEnds command_tapes script contents writer writer_now disk disk_now exit
    → ScriptEnds F in_memory script contents writer writer_now exit
script_ends in_memory script contents writer writer_now disk disk_now exit same (inl (seed, ran)) = inl (seed, disk, disk_now, same, ran)
script_ends in_memory script contents writer writer_now disk disk_now exit same (inr faulty) = inr (inl faulty)

-- a script that is done, over an honest disk, wrote what is right
done_right : (Honest Right : Type 0) (run : Result Outcome RunError) → run_ending run ≡ Done → OnOk run (Honest → Right) → Honest → Right
done_right Honest Right (Ok outcome) done right so = right so
done_right Honest Right (Err NoMemory) done right so = absurd cc
done_right Honest Right (Err InputTooLong) done right so = absurd cc
done_right Honest Right (Err ReadFault) done right so = absurd cc
done_right Honest Right (Err WriteFault) done right so = absurd cc

pub right_over : {D W : Type 0} (g : Ghosts D) (script : Option (List ℕ)) (contents : W → Option (List ℕ)) (writer writer_now : Fused W)
    (disk disk_now : D) (exit : ExitKind) → SeededEnds g script contents writer writer_now disk disk_now exit → IsTrue (g.honest disk)
    → exit ≡ Done → Wrote (streams_over contents script writer writer_now) IsRightOutput
right_over g script contents writer writer_now disk disk_now exit (inl (seed, ran)) so done =
    done_right (IsTrue (g.honest disk)) (Wrote (streams_over contents script writer writer_now) IsRightOutput) ran.run
    (sym ran.ended ∙ done)
    ran.headline so
right_over g script contents writer writer_now disk disk_now exit (inr (faulty, same)) so done =
    let e : Fault ≡ Done = sym faulty ∙ done in absurd cc

pub right_in_memory : {F W : Type 0} (in_memory : Bool) (script : Option (List ℕ)) (contents : W → Option (List ℕ))
    (writer writer_now : Fused W) (exit : ExitKind) → ScriptEnds F in_memory script contents writer writer_now exit → in_memory ≡ true
    → exit ≡ Done → Wrote (streams_over contents script writer writer_now) IsRightOutput
right_in_memory in_memory script contents writer writer_now exit (inl (seed, disk, disk_now, same, ran)) here done =
    right_over command_tapes script contents writer writer_now disk disk_now exit (inl (seed, ran)) (honest_in_memory disk ∙ same ∙ here)
    done
right_in_memory in_memory script contents writer writer_now exit (inr (inl (faulty, same))) here done =
    let e : Fault ≡ Done = sym faulty ∙ done in absurd cc
right_in_memory in_memory script contents writer writer_now exit (inr (inr (none, refused))) here done =
    let e : false ≡ true = sym none ∙ here in absurd cc
