use Rattle.std.specs.Prelude.{refl}
use Rattle.std.proofs.Common.{ap}
use Rattle.engine.specs.Calls.{IsAnswerColumnsText, NoMemory}
use Rattle.engine_calls.specs.Calls.{ForMemory}
use Rattle.engine_calls.specs.Keeping.{KeptState, why_of}
use Rattle.engine_calls.proofs.KeptLaws.{asked, refused}
use Rattle.engine_calls.proofs.kept.Kept.answer_columns.Goals as goal

pub returns-in-Err-clause-asks : goal.returns-in-Err-clause-asks
returns-in-Err-clause-asks c =
    refused (λ held text x. IsAnswerColumnsText held text) ForMemory c.in-Some.session c.args.self.now.session c.self.inside.session c.in-Some.is
    (ap (λ (k : KeptState). k.session) c.self.view_is) c.args.self.now.why c.refuse_for_memory.new.self.why
    c.refuse_for_memory.new.self.told c.refuse_for_memory.new.self.session NoMemory c.refuse_for_memory.result
    c.refuse_for_memory.ensures.session c.refuse_for_memory.ensures.last refl c.refuse_for_memory.ensures.status

pub returns-clause-asks : goal.returns-clause-asks
returns-clause-asks c =
    asked (λ held text x. IsAnswerColumnsText held text) ForMemory c.in-Some.session c.args.self.now.session c.self.inside.session c.in-Some.is
    (ap (λ (k : KeptState). k.session) c.self.view_is) c.args.self.now.why (why_of c.self.inside.last) c.in-Ok.text.items tt
    (ap (λ (k : KeptState). k.why) c.self.view_is) c.in-Ok.ensures
