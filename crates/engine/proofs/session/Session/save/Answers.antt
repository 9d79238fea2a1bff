use Rattle.std.specs.Prelude.{◌≡◌, length}
use Rattle.std.proofs.Common.{◌∙◌, sym, ap, arith, subst}
use Rattle.summary_codec.specs.Lemmas.SpelledRead.{spelled}
use Rattle.summary_codec.specs.declared.version.Version.TheVariants.{Second}
use Rattle.engine.specs.Calls.{IsFileOf}
use Rattle.engine.specs.Sessions.{SessionState}
use Rattle.engine.proofs.session.Session.save.Goals as goal

pub returns-clause-file : goal.returns-clause-file
returns-clause-file c =
    let q = c.self.inside.replica.query in
    let parts = c.self.inside.replica.parts in
    let told = c.in_ok-len.ensures in
    let one : c.in_ok-save.field-0.items ≡ told.file = (spelled Second c.in_ok-save.field-0.items q parts c.in_ok-save.ensures.summary).0
    ∙ sym (spelled Second told.file q parts told.is).0 in
    let same = ap length one in
    let counted = told.counted in
    let low = c.if-len-gt-MAX_INPUT_LEN.false in
    subst (λ (s : SessionState). IsFileOf s.held c.in_ok-save.field-0.items) c.self.view_is
    (record { saved = c.in_ok-save.ensures.summary; short = omega (arith, same, counted, low); world = c.in_ok-save.ensures.world })
