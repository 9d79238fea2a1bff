use Rattle.std.specs.Prelude.{◌≡◌, map}
use Rattle.std.proofs.Common.{◌∙◌, sym, ap}
use Rattle.std.proofs.lemmas.Result.{IfOk-weaker}
use Rattle.replica_merge.specs.Lemmas.Words.{known_list, Held, told, known_of, known_part}
use Rattle.replica_merge.specs.Lemmas.ToldLaws.{known_told}
use Rattle.replica_merge.proofs.replica.Replica.known.Goals as goal

pub returns : goal.returns
returns c =
    IfOk-weaker c.known_parts.result (λ list. map known_of list.items ≡ map known_part c.self.inside.parts.entries)
    (λ list. map known_of list.items ≡ known_list (told c.args.self.now.parts))
    (λ list is. is ∙ sym (known_told c.self.inside.query c.self.inside.parts.entries c.self.invariant)
    ∙ ap (λ (h : Held). known_list (told h.parts)) c.self.view_is)
    c.known_parts.ensures
