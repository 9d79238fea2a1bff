use Rattle.std.specs.Prelude.{◌≡◌, ℕ, ◌≤◌, ◌+◌, ◌||◌, nat_le, false, unwrap_or}
use Rattle.std.proofs.Common.{◌∙◌, sym, subst, arith}
use Rattle.std.proofs.lemmas.Bool.{true≢false, and_right}
use Rattle.std.specs.BTreeMap.{get}
use Rattle.std.specs.BTreeSet.{contains}
use Rattle.std.specs.Ordering.{nat_cmp}
use Rattle.grouping_model.specs.World.{batch_cmp}
use Rattle.replica_merge.specs.Lacking.{is_listed}
use Rattle.replica_merge.proofs.listing.Listed.tells_upto.Goals as goal

pub returns-then-not-contains : goal.returns-then-not-contains
returns-then-not-contains c =
    let n : ℕ = c.loop-below.below + 1 in
    let upto : ℕ = unwrap_or (get nat_cmp c.args.self.now.upto c.args.origin) 0 in
    let over : nat_le n upto ≡ false = let above : upto ≤ c.loop-below.below = subst (λ m. m ≤ c.loop-below.below) c.upto-below.ensures c.loop-below.auto.below in
    grind arith in
    let absent : contains batch_cmp c.args.self.now.others (c.args.origin, n) ≡ false = sym c.contains.ensures ∙ c.if-not-contains.true in
    let never : is_listed c.args.self.now (c.args.origin, n) ≡ false = λ i. and_right (nat_le 1 n) (nat_le n upto) over i || absent i in
    (λ e. absurd (true≢false (sym e)), λ all. absurd (true≢false (sym (all n (omega arith) (omega arith)) ∙ never)))
