use Rattle.std.proofs.Common.{◌≤◌, None, length, get_or, sym, ap, subst, arith}
use Rattle.chunk_contexts.proofs.Words.{IsTrue, is_some, Layout, ChunkContents, zeros}
use Rattle.chunk_contexts.proofs.SetViews.{seen, seen-there, seen-housed, fields-put, state-put}
use Rattle.chunk_contexts.proofs.alloc_set.AllocSet.write_zeros.Goals as goal

pub put_zeros-requires : goal.put_zeros-requires
put_zeros-requires c =
    let asked = c.requires in let was = seen c.self.inside c.self.invariant c.args.self.now c.self.view_is c.args.place asked.there in
    record {
      there = seen-there c.self.inside c.self.invariant c.args.self.now c.self.view_is c.args.place asked.there;
      kept =
          subst (λ (p : ChunkContents). c.args.kept ≤ length p.bytes) (sym was) asked.kept;
      room = omega
          (arith, ap (λ (p : ChunkContents). p.room) was, asked.room);
    }

pub invariant_of-self : goal.invariant_of-self
invariant_of-self c = fields-put c.self.inside c.self.invariant c.args.self.now c.self.view_is c.args.place c.requires.there c.args.kept
    (zeros c.args.n) c.put_zeros.new.self c.put_zeros.ensures

pub returns-clause-put : goal.returns-clause-put
returns-clause-put c = state-put c.self.inside c.self.invariant c.args.self.now c.self.view_is c.args.place c.requires.there c.args.kept
    (zeros c.args.n) c.put_zeros.new.self c.put_zeros.ensures

pub returns-clause-block : goal.returns-clause-block
returns-clause-block c = subst (λ (l : Layout). IsTrue (is_some (get_or l.blocks c.args.place.block None))) (sym c.put_zeros.ensures)
    (seen-housed c.self.inside c.self.invariant c.args.self.now c.self.view_is c.args.place c.requires.there)
