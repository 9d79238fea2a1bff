use Rattle.std.proofs.Common.{ap, sym, ◌∙◌}
use Rattle.std.specs.Prelude.{Err}
use Rattle.std.proofs.lemmas.Result.{err_from_is_err_and}
use Rattle.query_checks.specs.Arrangement.{asked_of}
use Rattle.query_checks.specs.CheckedLaws.{gives_too_many, refused_as}
use Rattle.query_checks.proofs.checking.text_of_known.Goals as goal

pub returns-in_err-canonical-clause-refused : goal.returns-in_err-canonical-clause-refused
returns-in_err-canonical-clause-refused c =
    let q = asked_of c.args.raw.now in
    let e = c.in_err-canonical.field-0.0 in
    refused_as c.args.schema.now q c.from_residual.result e c.from_residual.ensures.1
    (λ other. gives_too_many c.args.schema.now q (c.in_err-canonical.ensures.too_many other)
    ∙ ap (λ x. Err x) (sym (c.in_err-canonical.ensures.refused other)))

pub returns-in_err-canonical-clause-known : goal.returns-in_err-canonical-clause-known
returns-in_err-canonical-clause-known c =
    let told = err_from_is_err_and c.from_residual.result c.from_residual.ensures.1 in
    rw told.1 (λ other first.
    let few = first.few in
    let many = c.in_err-canonical.ensures.too_many (λ is. other (told.2 ∙ is)) in
    cc)
