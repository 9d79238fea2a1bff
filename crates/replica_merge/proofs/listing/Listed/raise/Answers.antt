use Rattle.std.specs.Prelude.{◌≤◌, unwrap_or}
use Rattle.std.proofs.Common.{sym, ap, subst, arith}
use Rattle.std.specs.BTreeMap.{get}
use Rattle.std.specs.BTreeSet.{contains}
use Rattle.std.specs.Ordering.{nat_cmp}
use Rattle.grouping_model.specs.World.{batch_cmp}
use Rattle.origin_prefix.specs.Lemmas.Lists.{is_other}
use Rattle.replica_merge.proofs.ListingLaws.{raised, kept}
use Rattle.replica_merge.proofs.listing.Listed.raise.Goals as goal

pub returns-in_ok-insert : goal.returns-in_ok-insert
returns-in_ok-insert c =
    let old = c.args.self.now.upto in
    let new = c.insert.new.self in
    raised (λ q. unwrap_or (get nat_cmp old q) 0) (λ q. unwrap_or (get nat_cmp new q) 0) c.args.origin c.args.upto
    (contains batch_cmp c.args.self.now.others)
    (let below : unwrap_or (get nat_cmp old c.args.origin) 0 ≤ c.args.upto = omega arith in below)
    (ap (λ found. unwrap_or found 0) c.in_ok-insert.ensures.updates.1)
    (λ q other. ap (λ found. unwrap_or found 0) (c.in_ok-insert.ensures.updates.2 q (is_other c.args.origin q (λ e. other (sym e)))))

pub returns-else-upto : goal.returns-else-upto
returns-else-upto c =
    kept (λ q. unwrap_or (get nat_cmp c.args.self.now.upto q) 0) c.args.origin c.args.upto
    (contains batch_cmp c.args.self.now.others)
    (subst (λ n. c.args.upto ≤ n) c.upto.ensures c.if-upto.false)
