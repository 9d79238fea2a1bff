use Rattle.std.specs.Prelude.{◌≢◌, IfErr}
use Rattle.std.proofs.Common.{◌∙◌, sym, subst}
use Rattle.std.proofs.lemmas.Result.{err_from_is_err_and}
use Rattle.refusals.specs.declared.refusal.Refusal.TheVariants.{NoMemory}
use Rattle.command_replicas.specs.Commands.{IsNew, IsNotNew}
use Rattle.command_replicas.proofs.FileLaws.{no_columns, new_replica}
use Rattle.command_replicas.proofs.making.create.Goals as goal

pub returns-in_err-schema-clause-why : goal.returns-in_err-schema-clause-why
returns-in_err-schema-clause-why c =
    let p = err_from_is_err_and c.from_residual.result c.from_residual.ensures.1 in
    subst (λ r. IfErr r (λ why. why ≢ NoMemory → IsNotNew c.args.columns.now c.args.query.now why)) (sym p.1)
    (λ other. subst (IsNotNew c.args.columns.now c.args.query.now) (sym p.2)
    (no_columns c.args.columns.now c.args.query.now c.in_err-schema.field-0.0 c.in_err-schema.ensures.refused (λ e. other (p.2 ∙ e))))

pub returns-clause-made : goal.returns-clause-made
returns-clause-made c =
    subst (IsNew c.args.columns.now c.args.query.now) (sym c.new.ensures)
    (new_replica _ _ c.in_ok-schema.schema c.in_ok-query.query c.in_ok-schema.ensures.parsed c.in_ok-query.ensures.accepted)
