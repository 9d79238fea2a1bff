use Rattle.std.proofs.Common.{refl, ap, ◌∙◌, ◌++◌, []}
use Rattle.spill_tapes.specs.Tape.{TapeState}
use Rattle.spill_tapes.proofs.PoolLaws.{balanced_all}
use Rattle.spill_tapes.proofs.tape.Tape.close.Goals as goal

pub returns-clause-pages : goal.returns-clause-pages
returns-clause-pages c = record {
  pool = c.give_back_all.ensures.pool;
  count = c.give_back_all.ensures.count;
  balanced =
      balanced_all c.args.pool.now c.give_back_all.new.self c.args.self.now.pages []
      (c.give_back_all.ensures.free ∙ ap (λ (t : TapeState). c.args.pool.now.free ++ t.pages) c.self.view_is) c.give_back_all.ensures.count
      refl;
}
