use Rattle.std.proofs.Common.{◌≡◌, false, sym, subst, arith}
use Rattle.std.specs.Prelude.{IsTrue}
use Rattle.std.proofs.lemmas.Bool.{not-true}
use Rattle.context_tree.proofs.Words.{always_err, can_free, has_chunk, is_there, Context}
use Rattle.context_tree.specs.Calls.{Frees}
use Rattle.context_tree.proofs.TreeLaws.{IsLent, old-is, old-held, said, on-context, unchanged, fields-moved, refused-gone, refused-own}
use Rattle.context_tree.proofs.tree.Tree.free.Goals.{After-deref_mut}
use Rattle.context_tree.proofs.tree.Tree.free.Goals as goal

-- the contexts are lent
lent : (c : After-deref_mut) → IsLent c.self.inside c.args.self.now c.args.id c.deref_mut.result.now
lent c = record { are = c.self.invariant; view = c.self.view_is; there = c.in_ok-check.ensures; same = c.deref_mut.ensures.value }

pub free-requires : goal.free-requires
free-requires c =
    let old = old-is c.self.inside c.self.invariant c.args.self.now c.self.view_is c.args.id c.in_ok-check.ensures c.deref_mut.result.now
    c.index-deref_mut-id.result c.deref_mut.ensures.value in
    subst (λ (a : Context). IsTrue (has_chunk a c.args.name)) (sym old) (c.requires c.in_ok-check.ensures)

pub overflow_sub-self : goal.overflow_sub-self
overflow_sub-self c =
    let at = lent (goal.at.overflow_sub-self c).After-deref_mut in
    let less = old-held _ _ _ _ at c.free.new.self c.index-deref_mut-id.result in
    omega (arith, less, c.held-before.ensures)

pub invariant_of-self-2 : goal.invariant_of-self-2
invariant_of-self-2 c =
    let at = lent (goal.at.invariant_of-self-2 c).After-deref_mut in
    let new = c.free.new.self in let other = c.index-deref_mut-id.result in
    let less = old-held _ _ _ _ at new other in
    let before = c.held-before.ensures in let after = c.held.ensures in let most = c.in_ok-free.ensures.most in
    fields-moved _ _ _ _ at new other _ (omega (arith, less, before, after)) (omega (
      arith,
      less,
      before,
      after,
      most,
      at.are.held,
      at.are.bounded,
    ))

pub returns-in_err-check-clause-refused : goal.returns-in_err-check-clause-refused
returns-in_err-check-clause-refused c = refused-gone _ (is_there c.args.self.now c.args.id) c.from_residual.result _
    c.from_residual.ensures.1 c.in_err-check.ensures

pub returns-in_err-free-clause-refused : goal.returns-in_err-free-clause-refused
returns-in_err-free-clause-refused c =
    let at = lent (goal.at.returns-in_err-free-clause-refused c).After-deref_mut in
    refused-own _ (is_there c.args.self.now c.args.id) c.from_residual-in_err-free.result c.in_err-free.field-0.0
    c.from_residual-in_err-free.ensures.1 at.there (
      c.in_err-free.ensures.refused.0,
      said _ _ _ _ at c.free.new.self
          c.index-deref_mut-id.result (λ a _. can_free a ≡ false) (not-true _ c.in_err-free.ensures.refused.1),
    )

pub returns-in_err-free-clause-unchanged : goal.returns-in_err-free-clause-unchanged
returns-in_err-free-clause-unchanged c = always_err c.from_residual-in_err-free.result
    (unchanged _ _ _ _ (lent (goal.at.returns-in_err-free-clause-unchanged c).After-deref_mut) c.free.new.self c.index-deref_mut-id.result
    c.in_err-free.ensures.unchanged)

pub returns : goal.returns
returns c =
    let at = lent (goal.at.returns c).After-deref_mut in let told = c.in_ok-free.ensures in
    record {
      freed = on-context _ _ _ _ at c.free.new.self c.index-deref_mut-id.result (Frees c.args.name)
          (record { supported = told.supported; gone = told.gone; keeps = told.keeps; space = told.space });
      refused = tt;
      unchanged = tt;
    }
