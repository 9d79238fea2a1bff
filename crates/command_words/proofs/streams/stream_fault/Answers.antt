use Rattle.std.specs.Prelude.{◌<◌, ◌≤◌, refl}
use Rattle.std.proofs.Common.{subst, sym}
use Rattle.std.proofs.lemmas.Option.{none-some}
use Rattle.command_words.proofs.Twice.{by_told, several}
use Rattle.command_words.proofs.streams.stream_fault.Goals as goal

pub returns-in-Some-clause-fault : goal.returns-in-Some-clause-fault
returns-in-Some-clause-fault c =
    subst (λ n. 1 < n) (by_told c.deref.result.now _ _ c.deref.ensures.value c.in_ok-inputs_of.ensures)
    (several _ (λ few. none-some _ (sym (c.in-Some.ensures.1 few))))

pub returns-in_default-get_str-clause-read : goal.returns-in_default-get_str-clause-read
returns-in_default-get_str-clause-read c =
    subst (λ n. n ≤ 1) (by_told c.deref.result.now _ _ c.deref.ensures.value c.in_ok-inputs_of.ensures) (c.in_default.ensures.0 refl)
