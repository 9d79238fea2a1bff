use Rattle.std.proofs.Common.{ap}
use Rattle.engine.specs.Calls.{IsFileOf, IsTooLong}
use Rattle.engine_calls.specs.Keeping.{KeptState, why_of}
use Rattle.engine_calls.proofs.KeptLaws.{asked, refused}
use Rattle.engine_calls.proofs.kept.Kept.save.Goals as goal

pub returns-in-Err-clause-asks : goal.returns-in-Err-clause-asks
returns-in-Err-clause-asks c =
    refused (λ held file x. IsFileOf held file) IsTooLong c.in-Some.session c.args.self.now.session c.self.inside.session c.in-Some.is
    (ap (λ (k : KeptState). k.session) c.self.view_is) c.args.self.now.why c.refuse.new.self.why c.refuse.new.self.told
    c.refuse.new.self.session c.in-Err.why c.refuse.result
    c.refuse.ensures.session c.refuse.ensures.last c.in-Err.ensures.why c.refuse.ensures.status

pub returns-clause-asks : goal.returns-clause-asks
returns-clause-asks c =
    asked (λ held file x. IsFileOf held file) IsTooLong c.in-Some.session c.args.self.now.session c.self.inside.session c.in-Some.is
    (ap (λ (k : KeptState). k.session) c.self.view_is) c.args.self.now.why (why_of c.self.inside.last) c.in-Ok.file.items tt
    (ap (λ (k : KeptState). k.why) c.self.view_is) c.in-Ok.ensures.file
