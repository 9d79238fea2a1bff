use Rattle.std.specs.Prelude.{◌≡◌, ◌⊎◌, ℕ, List, Some, Result, Ok, Err, IfErr, IsUtf8}
use Rattle.std.proofs.Common.{inl, inr, subst, sym}
use Rattle.refusals.specs.declared.refusal.Refusal.TheVariants.{BadCommand, NoMemory}
use Rattle.command_streams.specs.Inputs.{IsUnread}
use Rattle.command_streams.specs.declared.problem.Problem.{Problem}
use Rattle.command_files.specs.Texts.{IsNoTextOf}
use Rattle.command_files.proofs.texts.read_text_of.Goals as goal

-- bytes that are no text, or for which memory ran out
no_text : {A : Type 0} (path bytes : List ℕ) (result : Result A Problem)
    → IfErr result (λ problem. ((problem.why ≡ BadCommand) × (¬ (IsUtf8 bytes))) ⊎ (problem.why ≡ NoMemory))
    → IfErr result (λ problem. IsNoTextOf (Some path) problem.why)
no_text path bytes (Ok told) why = tt
no_text path bytes (Err problem) (inl (named, found)) = inr named
no_text path bytes (Err problem) (inr memory) = inl (subst (λ w. IsUnread w) (sym memory) tt)

pub returns-clause-why : goal.returns-clause-why
returns-clause-why g c = no_text c.args.path.now c.deref.result.now c.text_of.result c.text_of.ensures.why
