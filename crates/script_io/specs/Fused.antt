-- What is seen of a stream that stays failed.
use Rattle.std.specs.Prelude.{ℕ, ◌≡◌, Bool, false, is_some, List, Option}
use Rattle.std.specs.declared.io.Error.{Error}
use Rattle.script_io.specs.declared.fused.Fused.{Fused}

-- own: the error of the call that failed, if one did
abbrev pub fault_of : {S : Type 0} → Fused S → Option Error
fault_of fused = fused.fault

-- own: the stream that it calls, where no call has failed
abbrev pub behind : {S : Type 0} → Fused S → S
behind fused = fused.stream

-- own: whether a call of it failed
abbrev pub has_failed : {S : Type 0} → Fused S → Bool
has_failed fused = is_some (fault_of fused)

-- the bytes that a reader has left, if those of the underlying reader are known
abbrev pub unread : {R : Type 0} → (R → Option (List ℕ)) → Fused R → Option (List ℕ)
unread remaining fused = remaining (behind fused)

-- the bytes that a writer holds, if those of the underlying writer are known
abbrev pub written : {W : Type 0} → (W → Option (List ℕ)) → Fused W → Option (List ℕ)
written contents fused = contents (behind fused)

-- own: a stream that had not failed has failed now exactly where the last argument says so
abbrev pub FailsAsTold : {S : Type 0} → Fused S → Fused S → Bool → Type 0
FailsAsTold old new told = has_failed old ≡ false → told ≡ has_failed new
