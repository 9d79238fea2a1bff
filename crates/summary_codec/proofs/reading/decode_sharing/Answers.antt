use Rattle.std.proofs.Common.{inr, subst, Ok}
use Rattle.std.proofs.lemmas.Result.{IfOk-weaker, IfErr-weaker}
use Rattle.summary_codec.specs.Reading.{opened, summary}
use Rattle.summary_codec.specs.Lemmas.SpelledRead.{spelled}
use Rattle.summary_codec.proofs.reading.decode_sharing.Goals as goal

pub returns-clause-read : goal.returns-clause-read
returns-clause-read c =
    let begins = subst (λ bytes. opened bytes (Ok (c.in_ok-version.version, c.«open».new.self))) c.new-fields.ensures
    c.in_ok-version.ensures.opened in
    IfOk-weaker c.read_body.result _ _ (λ found read. (c.in_ok-version.version, (c.«open».new.self, begins, read))) c.read_body.ensures.read

pub returns-clause-held : goal.returns-clause-held
returns-clause-held c =
    let begins = subst (λ bytes. opened bytes (Ok (c.in_ok-version.version, c.«open».new.self))) c.new-fields.ensures
    c.in_ok-version.ensures.opened in
    IfOk-weaker c.read_body.result _ _
    (λ found read. (spelled c.in_ok-version.version c.args.bytes.now found.0 found.1.entries (c.«open».new.self, begins, read)).1)
    c.read_body.ensures.read

pub returns-clause-fault : goal.returns-clause-fault
unfolding summary
returns-clause-fault c =
    let begins = subst (λ bytes. opened bytes (Ok (c.in_ok-version.version, c.«open».new.self))) c.new-fields.ensures
    c.in_ok-version.ensures.opened in
    IfErr-weaker c.read_body.result _ _ (λ e fault memory. inr (c.in_ok-version.version, c.«open».new.self, begins, fault memory))
    c.read_body.ensures.fault
