-- Laws: which replies report no failure of the tape disk.
use Rattle.std.specs.Prelude.{◌≡◌, refl, false, if◌then◌else◌}
use Rattle.std.proofs.Common.{ap}
use Rattle.packed_rows.specs.declared.error.RowError.{RowError}
use Rattle.packed_rows.specs.declared.error.RowError.TheVariants as row
use Rattle.refusals.specs.Refusals.{columns_refusal}
use Rattle.replies.specs.Text.{is_tape_fault, faults_in}
use Rattle.replies.specs.declared.reply.Reply.{Reply}
use Rattle.replies.specs.declared.reply.Reply.TheVariants as says

-- columns that are refused
pub row_tells : (error : RowError) → is_tape_fault (says.Refused (columns_refusal error)) ≡ false
row_tells row.NoMemory = refl
row_tells row.BadSchema = refl
row_tells (row.BadField column) = refl
row_tells row.WrongWidth = refl
row_tells row.BadPacked = refl

-- a reply that reports none
pub no_fault_in : (reply : Reply) → is_tape_fault reply ≡ false → faults_in reply ≡ 0
no_fault_in reply none = ap (λ b. if b then 1 else 0) none
