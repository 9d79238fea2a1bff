-- What holds of a run beside the headline, and what it does over a tape disk, honest or not. All of this is our own.
use Rattle.std.specs.Prelude.{◌≡◌, ◌+◌, ℕ, List, Option, Result, IsTrue, OnOk}
use Rattle.grouping_model.specs.declared.limits.TheConstants.{MAX_INPUT_LEN}
use Rattle.key_hashes.specs.declared.sip_hash.Seed.{Seed}
use Rattle.tape_disks.specs.Disk.{DiskFrame}
use Rattle.tape_disks.specs.declared.disk.TapeDisk.{Ghosts}
use Rattle.script_io.specs.Fused.{FailsAsTold, has_failed, unread}
use Rattle.script_io.specs.Input.{ConsumesAtMost}
use Rattle.script_io.specs.declared.fused.Fused.{Fused}
use Rattle.replies.specs.declared.ending.Outcome.{Outcome}
use Rattle.refusals.specs.declared.error.RunError.{RunError}
use Rattle.script_machine.specs.Executing.{WorksThrough}
use Rattle.script_machine.specs.Exact.{WritesExactly}
use Rattle.script_machine.specs.Output.{Ends, disk_over, tells_read_fault, tells_write_fault}
use Rattle.script_machine.specs.Streams.{Streams, streams}

-- a run ended so, in the machine's words; each command had its effect, which says when a disagreement is reported, at which limit groups
-- are spilled, and that the seed is this one from the first command to the last; and the disk is as honest as before, so another script
-- can run over it
pub record RunsOver {D : Type 0} (g : Ghosts D) (seed : Seed) (before after : D) (streams : Streams)
    (result : Result Outcome RunError) : Type 0 where
  pub ends : Ends (disk_over g before after) streams result
  pub works : WorksThrough g seed streams before after result
  pub disk : (faults : ℕ) × DiskFrame g faults before after

-- what holds of a run beside the headline, of what reader, writer and disk are before and after it. At most the longest script and one more
-- byte are read. Over an honest disk the output is right to the byte (reasons and names of refusals, canonical texts, and lengths of saved
-- files). What holds over any disk holds here, too. A read fault is reported exactly if the reader failed. A write fault is reported
-- exactly if the writer failed, provided that it had not failed before
pub record Runs {D I W : Type 0} (g : Ghosts D) (seed : Seed) (remaining : I → Option (List ℕ)) (contents : W → Option (List ℕ))
    (reader reader_now : Fused I) (writer writer_now : Fused W) (disk disk_now : D) (result : Result Outcome RunError) : Type 0 where
  pub reads : ConsumesAtMost (unread remaining reader) (unread remaining reader_now) (MAX_INPUT_LEN + 1)
  pub exact : OnOk result (IsTrue (g.honest disk) → WritesExactly (streams remaining contents reader writer writer_now))
  pub any_disk : RunsOver g seed disk disk_now (streams remaining contents reader writer writer_now) result
  pub fault : tells_read_fault result ≡ has_failed reader_now
  pub write_fault : FailsAsTold writer writer_now (tells_write_fault result)
