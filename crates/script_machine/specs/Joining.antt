-- What a session joins for a merge. Only contracts that no other crate sees cite this. All of this is our own.
use Rattle.std.specs.Prelude.{ℕ, ◌≡◌, ◌≢◌, Bool, IsTrue, List, Option, Some, Result, Ok, Err, IfErr}
use Rattle.grouping_model.specs.World.{World}
use Rattle.tape_disks.specs.Calls.{failed}
use Rattle.tape_disks.specs.Disk.{DiskFrame}
use Rattle.tape_disks.specs.declared.disk.TapeDisk.{Ghosts}
use Rattle.replica_merge.specs.Replicas.{Parts, Held, Fits}
use Rattle.replica_merge.specs.Results.{JoinsHeld}
use Rattle.script_io.specs.Records.{Record}
use Rattle.script_commands.specs.Commands.{Merge}
use Rattle.refusals.specs.Refusals.{refusal_faults}
use Rattle.refusals.specs.declared.refusal.Refusal.{Refusal}
use Rattle.refusals.specs.declared.refusal.Refusal.TheVariants.{NoMemory, OriginDisagrees, TapeFault, TapeDamaged, NoSuchName}
use Rattle.replies.specs.declared.reply.Reply.{Reply}
use Rattle.replies.specs.declared.reply.Reply.TheVariants as says
use Rattle.script_machine.specs.Disagreements.{TellsDisagreement}
use Rattle.script_machine.specs.Limits.{WorksAtLimit}
use Rattle.script_machine.specs.Views.{Store, replica_at}

-- what the replicas of two names hold together, or why it is refused
abbrev pub JoinRefused : Option Held → Option Held → Refusal → Type 0
JoinRefused (Some own) (Some theirs) NoMemory = Unit {0}
JoinRefused (Some own) (Some theirs) TapeFault = Unit {0}
JoinRefused (Some own) (Some theirs) TapeDamaged = Unit {0}
JoinRefused (Some own) (Some theirs) (OriginDisagrees origin told) = (world : World) → Fits world own → ¬ (Fits world theirs)
JoinRefused (Some own) (Some theirs) why = ⊥
JoinRefused own theirs why = why ≡ NoSuchName

abbrev pub JoinsNames : (honest : Bool) → Store → List ℕ → List ℕ → Result Parts Refusal → Type 0
JoinsNames honest store into from (Ok joined) =
    (own theirs : Held) × (replica_at store into ≡ Some own) × (replica_at store from ≡ Some theirs) × JoinsHeld honest own theirs joined
JoinsNames honest store into from (Err why) = JoinRefused (replica_at store into) (replica_at store from) why

-- what a merge replies that ended so
abbrev pub merge_says : {T : Type 0} → Result T Refusal → Reply
merge_says (Ok joined) = says.Merged
merge_says (Err why) = says.Refused why

-- the replicas of two names are joined aside from both, for a merge of them, which replies what is told here
pub record JoinsNamed {D : Type 0} (g : Ghosts D) (store : Store) (into from : List ℕ) (before : D) (result : Result Parts Refusal)
    (after : D) : Type 0 where
  pub joins : JoinsNames (g.honest before) store into from result
  pub tells : (owned : List Record) → TellsDisagreement store (Merge into from) owned (merge_says result)
  pub undamaged : IfErr result (λ why. IsTrue (g.honest before) → why ≢ TapeDamaged)
  pub disk : DiskFrame g (failed refusal_faults result) before after
  pub limit : IsTrue (g.honest before) → (owned : List Record)
      → WorksAtLimit store (Merge into from) owned (merge_says result) (g.writes before) (g.writes after)
