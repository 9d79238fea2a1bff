use Rattle.std.proofs.Common.{◌≡◌, ◌+◌, ◌≤◌, length, subst, ◌∙◌, ap, arith}
use Rattle.group_table.proofs.Words.{IsCounted, context_at, held_below, TableState, buckets_in, buckets_for, most_buckets, group_growth}
use Rattle.group_table.proofs.SpaceLaws.{none_fit, need_is, fit_is}
use Rattle.group_table.proofs.table.GroupTable.need_for.Goals as goal

pub returns-then-buckets_wanted-gt-MAX_BUCKETS-clause-fits : goal.returns-then-buckets_wanted-gt-MAX_BUCKETS-clause-fits
returns-then-buckets_wanted-gt-MAX_BUCKETS-clause-fits g c holds =
    none_fit g.H.KeyHash.hash_of c.args.self.now c.args.tree.now c.requires.table holds c.args.key.now
    (omega (arith, c.if-buckets_wanted-gt-MAX_BUCKETS.true, c.buckets_wanted.ensures))

pub returns : goal.returns
returns g c =
    let t = c.args.self.now in let tree = c.args.tree.now in
    let held : c.held_below.result ≡ held_below tree t.parent = c.held_below.ensures.value
    ∙ ap (λ (x : TableState g.row.H.Denot). held_below tree x.parent) c.self.view_is in
    let counted = subst (λ (x : TableState g.row.H.Denot). IsCounted (context_at tree x.states)) c.self.view_is c.spare_by_count.ensures in
    let few : buckets_for (buckets_in t.array) (length t.slots) ≤ most_buckets = omega
    (arith, c.if-buckets_wanted-gt-MAX_BUCKETS.false, c.buckets_wanted.ensures) in
    let bytes : c.held_below.result + c.growth_for.result ≡ held_below tree t.parent
    + group_growth t tree (length c.args.key.now) = omega (arith, held, c.growth_for.ensures.value) in
    record {
      bytes = bytes;
      few = few;
      none = tt;
      by_keys = λ holds. bytes ∙ need_is g.H.KeyHash.hash_of t tree c.requires.table holds c.args.key.now c.requires.key counted few;
      fits = λ holds. fit_is g.H.KeyHash.hash_of t tree c.requires.table holds c.args.key.now c.requires.key counted few _ bytes;
    }
