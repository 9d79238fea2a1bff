use Rattle.std.specs.Prelude.{Ok}
use Rattle.std.proofs.Common.{◌∙◌, ap, sym, subst, map}
use Rattle.std.specs.String.{string_bytes}
use Rattle.having_filter.proofs.Words.{AreColumns, asked_of, checked_of, IsKept}
use Rattle.query_checks.specs.CheckedLaws.{refused_as}
use Rattle.having_filter.specs.declared.query.Kept.{Kept}
use Rattle.having_filter.proofs.CheckedLaws.{kept, checked_here, refused_places, refused_arrangement}
use Rattle.having_filter.proofs.query.Query.check.Goals as goal

pub returns-in_err-texts-clause-refused : goal.returns-in_err-texts-clause-refused
returns-in_err-texts-clause-refused c =
    refused_as c.args.schema.now (asked_of c.args.raw.now) c.from_residual.result c.in_err-texts.field-0.0 c.from_residual.ensures.1
    c.in_err-texts.ensures.refused

pub returns-in_err-parts-clause-refused : goal.returns-in_err-parts-clause-refused
returns-in_err-parts-clause-refused c =
    let q = asked_of c.args.raw.now in
    refused_as c.args.schema.now q c.from_residual-in_err-parts.result c.in_err-parts.field-0.0 c.from_residual-in_err-parts.ensures.1
    (λ other. refused_places c.args.schema.now q c.in_err-parts.field-0.0 c.in_ok-texts.ensures.first
    (c.in_err-parts.ensures.refused other))

pub invariant_of-result : goal.invariant_of-result
invariant_of-result c =
    let texts = c.in_ok-texts.texts in
    subst (λ (k : Kept). IsKept (checked_of k.schema k.parts) k.plan (string_bytes k.texts.query) (map string_bytes k.texts.labels.items)
    (string_bytes k.texts.schema)) (sym c.in_ok-kept.ensures.ok)
    (kept c.in_ok-columns.columns c.args.schema.now (asked_of c.args.raw.now) c.in_ok-parts.parts c.in_ok-parts.plan
    (string_bytes texts.query) (map string_bytes texts.labels.items) (string_bytes texts.schema)
    c.in_ok-columns.ensures.same c.in_ok-parts.ensures.placed c.in_ok-parts.ensures.arranged
    (subst AreColumns c.in_ok-columns.ensures.same c.in_ok-columns.ensures.columns) c.requires c.in_ok-texts.ensures.first
    c.in_ok-texts.ensures.query
    c.in_ok-texts.ensures.labels c.in_ok-texts.ensures.schema c.in_ok-parts.ensures.fit c.in_ok-parts.ensures.passed
    c.in_ok-parts.ensures.plans)

pub returns-clause-checked : goal.returns-clause-checked
returns-clause-checked c =
    checked_here c.in_ok-columns.columns c.args.schema.now (asked_of c.args.raw.now) c.in_ok-parts.parts c.in_ok-columns.ensures.same
    c.in_ok-parts.ensures.placed c.in_ok-parts.ensures.arranged c.in_ok-texts.ensures.first
    c.in_ok-parts.ensures.passed c.in_ok-check_arrangement.ensures.passed
    ∙ ap (λ (k : Kept). Ok (checked_of k.schema k.parts)) (sym c.in_ok-kept.ensures.ok)

pub returns-in_err-check_arrangement-clause-refused : goal.returns-in_err-check_arrangement-clause-refused
returns-in_err-check_arrangement-clause-refused c =
    let q = asked_of c.args.raw.now in
    let error = c.in_err-check_arrangement.field-0.0 in
    refused_as c.args.schema.now q c.from_residual-in_err-check_arrangement.result error c.from_residual-in_err-check_arrangement.ensures.1
    (λ other. refused_arrangement c.args.schema.now q c.in_ok-parts.parts error c.in_ok-parts.ensures.placed c.in_ok-texts.ensures.first
    c.in_ok-parts.ensures.passed c.in_err-check_arrangement.ensures.refused)
