use Rattle.std.proofs.Common.{◌≤◌, None, length, get_or, sym, ap, subst, arith}
use Rattle.chunk_contexts.proofs.Words.{IsTrue, is_some, Layout, ChunkContents}
use Rattle.chunk_contexts.proofs.SetViews.{seen, seen-there, seen-housed, fields-put, state-put}
use Rattle.chunk_contexts.proofs.alloc_set.AllocSet.write.Goals as goal

pub put-requires : goal.put-requires
put-requires c =
    let asked = c.requires in let was = seen c.self.inside c.self.invariant c.args.self.now c.self.view_is c.args.place asked.there in
    record {
      there = seen-there c.self.inside c.self.invariant c.args.self.now c.self.view_is c.args.place asked.there;
      kept =
          subst (λ (p : ChunkContents). c.args.kept ≤ length p.bytes) (sym was) asked.kept;
      room = omega
          (arith, ap (λ (p : ChunkContents). p.room) was, asked.room);
    }

pub invariant_of-self : goal.invariant_of-self
invariant_of-self c = fields-put c.self.inside c.self.invariant c.args.self.now c.self.view_is c.args.place c.requires.there c.args.kept
    c.args.bytes.now c.put.new.self c.put.ensures

pub returns-clause-put : goal.returns-clause-put
returns-clause-put c = state-put c.self.inside c.self.invariant c.args.self.now c.self.view_is c.args.place c.requires.there c.args.kept
    c.args.bytes.now c.put.new.self c.put.ensures

pub returns-clause-block : goal.returns-clause-block
returns-clause-block c = subst (λ (l : Layout). IsTrue (is_some (get_or l.blocks c.args.place.block None))) (sym c.put.ensures)
    (seen-housed c.self.inside c.self.invariant c.args.self.now c.self.view_is c.args.place c.requires.there)
