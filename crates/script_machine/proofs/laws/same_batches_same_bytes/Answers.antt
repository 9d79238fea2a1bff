use Rattle.script_machine.proofs.QuestionLaws.{same_bytes}
use Rattle.script_machine.proofs.Words.{after_all, start}
use Rattle.script_machine.proofs.SameLaws as laws
use Rattle.script_machine.proofs.laws.same_batches_same_bytes.Goals as goal

pub returns-clause-outputs : goal.returns-clause-outputs
returns-clause-outputs c = same_bytes

pub returns-clause-states : goal.returns-clause-states
returns-clause-states c = λ here there a b history other know. record {
  answers = λ owned r s. laws.same_answers (after_all start here) (after_all start there) a b history other r s know;
  lists = λ owned r s. laws.same_lists (after_all start here) (after_all start there) a b history other r s know;
  files = λ saved other_saved owned r s.
      laws.same_files (after_all start here) (after_all start there) a b saved other_saved history other r s know;
}
