use Rattle.std.proofs.Common.{◌≡◌, ◌+◌, length, get_or, ap, arith}
use Rattle.context_tree.proofs.Words.{always_err, IsRefused, refusal_of, growth_of, held_by, is_there, Context}
use Rattle.context_tree.specs.Calls.{Allocates}
use Rattle.context_tree.proofs.TreeLaws.{IsLent, read-changed, said, on-context, unchanged, fields-moved, refused-gone}
use Rattle.context_tree.proofs.TreeLaws.{refused-own}
use Rattle.context_tree.proofs.tree.Tree.alloc.Goals.{After-deref_mut}
use Rattle.context_tree.proofs.tree.Tree.alloc.Goals as goal

-- the contexts are lent
lent : (c : After-deref_mut) → IsLent c.self.inside c.args.self.now c.args.id c.deref_mut.result.now
lent c = record { are = c.self.invariant; view = c.self.view_is; there = c.in_ok-check.ensures; same = c.deref_mut.ensures.value }

pub returns-in_err-check-clause-refused : goal.returns-in_err-check-clause-refused
returns-in_err-check-clause-refused c = refused-gone _ (is_there c.args.self.now c.args.id) c.from_residual.result _
    c.from_residual.ensures.1 c.in_err-check.ensures

pub returns-in_err-name-clause-refused : goal.returns-in_err-name-clause-refused
returns-in_err-name-clause-refused c =
    let at = lent (goal.at.returns-in_err-name-clause-refused c).After-deref_mut in
    let n = length c.args.bytes.now in let own = c.in_err-name.field-0.0 in
    refused-own _ (is_there c.args.self.now c.args.id) c.from_residual-in_err-name.result own c.from_residual-in_err-name.ensures.1
    at.there (said _ _ _ _ at c.alloc.new.self c.index-deref_mut-id.result (λ a _. IsRefused (refusal_of a n) (growth_of a n) own)
    c.in_err-name.ensures.refused)

pub returns-in_err-name-clause-unchanged : goal.returns-in_err-name-clause-unchanged
returns-in_err-name-clause-unchanged c = always_err c.from_residual-in_err-name.result
    (unchanged _ _ _ _ (lent (goal.at.returns-in_err-name-clause-unchanged c).After-deref_mut) c.alloc.new.self c.index-deref_mut-id.result
    c.in_err-name.ensures.unchanged)

pub returns : goal.returns
returns c =
    let at = lent (goal.at.returns c).After-deref_mut in let told = c.in_ok-name.ensures in let bytes = c.args.bytes.now in
    record {
      taken = on-context _ _ _ _ at c.alloc.new.self c.index-deref_mut-id.result (Allocates (length bytes) bytes c.in_ok-name.name)
          (record {
            admitted = told.admitted;
            taken = told.taken;
            block = told.block;
            lies = told.lies;
            space = told.space;
            grown = told.grown;
          });
      refused = tt;
      unchanged = tt;
    }

pub invariant_of-self-2 : goal.invariant_of-self-2
invariant_of-self-2 c =
    let at = lent (goal.at.invariant_of-self-2 c).After-deref_mut in
    let new = c.alloc.new.self in let other = c.index-deref_mut-id.result in
    let read = read-changed c.self.inside at.are c.args.self.now at.view c.args.id at.there c.deref.result.now c.deref_mut.result.now other
    c.index-deref-id.result c.deref.ensures at.same c.index-deref-id.is in
    let grown = c.in_ok-name.ensures.grown in let growth = c.growth_for-growth.ensures in
    let moved : c.self.inside.held + c.growth_for-growth.result + held_by (get_or c.deref_mut.result.now c.args.id.slot other)
    ≡ c.self.inside.held + held_by new = omega (arith, grown, growth, ap (λ (a : Context). growth_of a (length c.args.bytes.now)) read) in
    fields-moved _ _ _ _ at new other _ moved c.in_ok-check_growth.ensures
