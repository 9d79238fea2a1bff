use Rattle.std.proofs.Common.{◌≡◌, ◌∷◌, [], arith}
use Rattle.std.proofs.lemmas.Grind.{common_steps}
use Rattle.spill_tapes.proofs.PoolLaws.{small_first}
use Rattle.spill_tapes.proofs.pool.PagePool.next.Goals as goal

pub returns-in-Some-clause-small : goal.returns-in-Some-clause-small
returns-in-Some-clause-small c =
    let free : c.args.self.now.free ≡ c.in-Some.page ∷ c.pop_front.new.self.items = grind (arith, common_steps) in
    small_first c.args.self.now [] c.in-Some.page c.pop_front.new.self.items c.requires.pages.pool c.requires.pages.apart free
