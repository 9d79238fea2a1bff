use Rattle.std.proofs.Common.{◌≡◌, ◌+◌, ◌<◌, ◌≤◌, true, inl, inr, get_or, sym, ap, subst, ◌∙◌, arith}
use Rattle.std.proofs.lemmas.Bool.{cases_lt}
use Rattle.std.specs.Prelude.{IsTrue}
use Rattle.context_tree.proofs.Words.{always_err, contents_at, place_of, resized, IsResizeRefused, chunks_of, chunk_bytes, refusal_of}
use Rattle.context_tree.proofs.Words.{growth_of, can_free, held_by, has_chunk, is_there, Context}
use Rattle.context_tree.specs.Calls.{Resizes}
use Rattle.context_tree.proofs.Bounds.{resized-held}
use Rattle.context_tree.proofs.TreeLaws.{IsLent, old-is, read-changed, old-held, said, on-context, unchanged, fields-moved}
use Rattle.context_tree.proofs.TreeLaws.{refused-gone, refused-own}
use Rattle.context_tree.proofs.tree.Tree.resize.Goals.{After-deref_mut, In_ok-resized}
use Rattle.context_tree.proofs.tree.Tree.resize.Goals as goal

-- the contexts are lent
lent : (c : After-deref_mut) → IsLent c.self.inside c.args.self.now c.args.id c.deref_mut.result.now
lent c = record { are = c.self.invariant; view = c.self.view_is; there = c.in_ok-check.ensures; same = c.deref_mut.ensures.value }

pub resize-requires : goal.resize-requires
resize-requires c =
    let old = old-is c.self.inside c.self.invariant c.args.self.now c.self.view_is c.args.id c.in_ok-check.ensures c.deref_mut.result.now
    c.index-deref_mut-id.result c.deref_mut.ensures.value in
    subst (λ (a : Context). IsTrue (has_chunk a c.args.name)) (sym old) (c.requires c.in_ok-check.ensures)

pub returns-in_err-check-clause-refused : goal.returns-in_err-check-clause-refused
returns-in_err-check-clause-refused c = refused-gone _ (is_there c.args.self.now c.args.id) c.from_residual.result _
    c.from_residual.ensures.1 c.in_err-check.ensures

pub returns-in_err-resized-clause-refused : goal.returns-in_err-resized-clause-refused
returns-in_err-resized-clause-refused c =
    let at = lent (goal.at.returns-in_err-resized-clause-refused c).After-deref_mut in
    let n = c.args.n in let own = c.in_err-resized.field-0.0 in
    let refused = said _ _ _ _ at c.resize.new.self c.index-deref_mut-id.result (λ a _. IsResizeRefused (can_free a) (refusal_of a n)
    (growth_of a n) (contents_at (chunks_of a) (place_of c.args.name)).room n own) c.in_err-resized.ensures.refused in
    refused-own _ (is_there c.args.self.now c.args.id) c.from_residual-in_err-resized.result own c.from_residual-in_err-resized.ensures.1
    at.there refused

pub returns-in_err-resized-clause-unchanged : goal.returns-in_err-resized-clause-unchanged
returns-in_err-resized-clause-unchanged c = always_err c.from_residual-in_err-resized.result
    (unchanged _ _ _ _ (lent (goal.at.returns-in_err-resized-clause-unchanged c).After-deref_mut) c.resize.new.self
    c.index-deref_mut-id.result c.in_err-resized.ensures.unchanged)

pub returns : goal.returns
returns c =
    let at = lent (goal.at.returns c).After-deref_mut in let told = c.in_ok-resized.ensures in
    record {
      resized = on-context _ _ _ _ at c.resize.new.self c.index-deref_mut-id.result (Resizes c.args.name c.args.n c.in_ok-resized.resized)
          (record {
            supported = told.admitted.0;
            admitted = told.admitted.1;
            resized = told.resized;
            keeps = told.keeps;
            stays = told.stays;
            moves = λ more. record { space = told.moved more; lies = told.lies more; grown = told.grown more };
          });
      refused = tt;
      unchanged = tt;
    }

-- it holds no more than it did and the growth for which there is room
grown : (c : In_ok-resized) → held_by c.resize.new.self ≤ held_by (get_or c.deref_mut.result.now c.args.id.slot c.index-deref_mut-id.result)
    + c.growth_to-growth.result
grown c =
    let at : IsLent c.self.inside c.args.self.now c.args.id c.deref_mut.result.now =
    record { are = c.self.invariant; view = c.self.view_is; there = c.in_ok-check.ensures; same = c.deref_mut.ensures.value } in
    let new = c.resize.new.self in let other = c.index-deref_mut-id.result in
    let name = c.args.name in let n = c.args.n in let told = c.in_ok-resized.ensures in
    let a : Context = get_or c.deref_mut.result.now c.args.id.slot other in
    let read = read-changed c.self.inside at.are c.args.self.now at.view c.args.id at.there c.deref.result.now c.deref_mut.result.now other
    c.index-deref-id.result c.deref.ensures at.same c.index-deref-id.is in
    elim (cases_lt (contents_at (chunks_of a) (place_of name)).room n) [
      | inl more ↦
          let growth = c.growth_to-growth.ensures.moves (subst (λ (b : Context). (contents_at (chunks_of b) (place_of name)).room < n)
          (sym read) more) (subst (λ (b : Context). can_free b ≡ true) (sym read) told.admitted.0) in
          omega (arith, told.most, growth, ap (λ (b : Context). growth_of b n) read)
      | inr fits ↦
          let stays = ap held_by (told.stays fits) ∙ resized-held a (place_of name) (resized (chunk_bytes a name) n) in
          omega (arith, stays)
    ]

pub overflow_sub-self : goal.overflow_sub-self
overflow_sub-self c =
    let at = lent (goal.at.overflow_sub-self c).After-deref_mut in
    let less = old-held _ _ _ _ at c.resize.new.self c.index-deref_mut-id.result in
    omega (arith, less, c.held-before.ensures)

pub overflow_add-self : goal.overflow_add-self
overflow_add-self c =
    let at = lent (goal.at.overflow_add-self c).After-deref_mut in
    let less = old-held _ _ _ _ at c.resize.new.self c.index-deref_mut-id.result in
    let more = grown (goal.at.overflow_add-self c).In_ok-resized in
    omega (arith, less, more, c.held-before.ensures, c.held.ensures, c.in_ok-check_growth.ensures)

pub invariant_of-self-2 : goal.invariant_of-self-2
invariant_of-self-2 c =
    let at = lent (goal.at.invariant_of-self-2 c).After-deref_mut in
    let new = c.resize.new.self in let other = c.index-deref_mut-id.result in
    let less = old-held _ _ _ _ at new other in
    let more = grown (goal.at.invariant_of-self-2 c).In_ok-resized in
    let before = c.held-before.ensures in let after = c.held.ensures in
    fields-moved _ _ _ _ at new other _ (omega (arith, less, before, after)) (omega (
      arith,
      less,
      more,
      before,
      after,
      c.in_ok-check_growth.ensures,
    ))
