use Rattle.std.proofs.Common.{◌≡◌, ◌+◌, ◌≤◌, arith, ◌*◌, Some, length, sym, subst, ◌∙◌, ap, refl}
use Rattle.group_table.proofs.Words.{TableState, buckets_in, buckets_for, most_buckets, TreeState, context_at, growth_of, held_by, OnlyIn}
use Rattle.group_table.proofs.Words.{HoldsArray, HoldsNext, IsSetWith, IsStanding, IsTableIn}
use Rattle.group_table.proofs.SpaceLaws.{none_taken, next_taken}
use Rattle.group_table.proofs.TakeLaws.{Taken, taken_by_array, room_left, array_grown}
use Rattle.context_tree.specs.CallLaws.{allocated}
use Rattle.group_table.proofs.TreeFacts.{only_once}
use Rattle.std.proofs.lemmas.Option.{none-some}
use Rattle.group_table.proofs.table.GroupTable.take_array.Goals as goal
use Rattle.group_table.proofs.table.GroupTable.take_array.Given as given

taken : (g : given.Over) → (c : goal.In-Ok g)
    → Taken g.H.KeyHash.hash_of c.args.self.now c.args.tree.now c.alloc_zeroed.new.self c.in-Ok.name
    × (IsSetWith (HoldsArray c.args.self.now.array (length c.args.self.now.slots)) (context_at c.args.tree.now c.args.self.now.buckets)
    → IsSetWith (HoldsNext c.args.self.now.array (Some c.in-Ok.name) (length c.args.self.now.slots))
    (context_at c.alloc_zeroed.new.self c.args.self.now.buckets))
taken g c =
    let wanted = c.buckets_wanted-wanted.result in
    let back = sym c.self.view_is in
    let is = subst (λ (x : TableState g.row.H.Denot). IsTableIn g.H.KeyHash.hash_of x c.args.tree.now) back c.requires.table in
    let few = subst (λ (x : TableState g.row.H.Denot). buckets_for (buckets_in x.array) (length x.slots) ≤ most_buckets) back c.requires.few
    in
    let value = subst (λ (x : TableState g.row.H.Denot). wanted ≡ buckets_for (buckets_in x.array) (length x.slots)) back
    c.buckets_wanted-wanted.ensures in
    let count = subst (λ (x : TableState g.row.H.Denot). c.bucket_count.result ≡ buckets_in x.array) back c.bucket_count.ensures.value in
    let on = c.in-Ok.ensures.taken in let told = on.does in let space = allocated _ _ _ _ _ _ on in (
      subst (λ (x : TableState g.row.H.Denot). Taken g.H.KeyHash.hash_of x c.args.tree.now c.alloc_zeroed.new.self c.in-Ok.name)
          c.self.view_is
          (taken_by_array g.H.KeyHash.hash_of _ c.args.tree.now c.alloc_zeroed.new.self is (wanted * 32) c.in-Ok.name few
          (λ same. c.if-wanted-bucket_count.false (value ∙ same ∙ sym count)) (ap (λ m. m * 32) value)
          space told.taken.len told.taken.lives told.taken.holds told.taken.keeps told.grown told.block c.self.inside.array refl),
      subst (λ (x : TableState g.row.H.Denot). IsSetWith (HoldsArray x.array (length x.slots)) (context_at c.args.tree.now x.buckets)
          → IsSetWith (HoldsNext x.array (Some c.in-Ok.name) (length x.slots)) (context_at c.alloc_zeroed.new.self x.buckets))
          c.self.view_is
          (next_taken g.H.KeyHash.hash_of _ c.args.tree.now is c.alloc_zeroed.new.self (wanted * 32) c.in-Ok.name few
          (λ same. c.if-wanted-bucket_count.false (value ∙ same ∙ sym count)) (ap (λ m. m * 32) value) space told.taken.len told.grown
          told.block),
    )

pub returns-then-wanted-bucket_count : goal.returns-then-wanted-bucket_count
returns-then-wanted-bucket_count g c =
    let t = c.args.self.now in let tree = c.args.tree.now in let wanted = c.buckets_wanted-wanted.ensures in let count =
    c.bucket_count.ensures.value in let same = c.if-wanted-bucket_count.true in
    record {
      only = only_once t.buckets tree c.requires.table.standing.placed.buckets.within;
      standing = c.requires.table.standing;
      next = room_left t.array (length t.slots) (sym wanted ∙ same ∙ count);
      same = λ none. refl;
      unchanged = tt;
      held = omega arith;
      holds = none_taken g.H.KeyHash.hash_of t tree c.requires.table c.buckets_wanted-wanted.result c.bucket_count.result wanted count same;
    }

pub returns-in-Ok : goal.returns-in-Ok
returns-in-Ok g c =
    let t = c.args.self.now in let tree = c.args.tree.now in let after = c.alloc_zeroed.new.self in
    let on = c.in-Ok.ensures.taken in let wanted
    = c.buckets_wanted-wanted.result in
    let taken = taken g c in
    record {
      only = subst (λ (x : TableState g.row.H.Denot). OnlyIn x.buckets tree after) c.self.view_is on.rest;
      standing = taken.0.standing;
      next = taken.0.spare;
      same = λ none. absurd (none-some c.in-Ok.name (sym none));
      unchanged = tt;
      held =
          let grown = subst (λ (x : TableState g.row.H.Denot). held_by (context_at after x.buckets) ≡ held_by (context_at tree x.buckets)
          + growth_of (context_at tree x.buckets) (wanted * 32)) c.self.view_is on.does.grown in
          let asked = ap (λ m. growth_of (context_at tree t.buckets) (m * 32)) c.buckets_wanted-wanted.ensures in
          let more = array_grown t tree (λ same. c.if-wanted-bucket_count.false (c.buckets_wanted-wanted.ensures ∙ same
          ∙ sym c.bucket_count.ensures.value)) in
          omega (arith, grown, asked, more);
      holds = taken.1;
    }

pub returns-in-Err : goal.returns-in-Err
returns-in-Err g c =
    let t = c.args.self.now in let tree = c.args.tree.now in let same = c.in-Err.ensures.unchanged in
    record {
      only = subst (λ (x : TreeState). OnlyIn t.buckets tree x) (sym same)
          (only_once t.buckets tree c.requires.table.standing.placed.buckets.within);
      standing = subst (λ (x : TreeState). IsStanding g.H.KeyHash.hash_of t x) (sym same) c.requires.table.standing;
      next = tt;
      same = tt;
      unchanged = same;
      held = omega (arith, ap (λ (x : TreeState). held_by (context_at x t.buckets)) same);
      holds = tt;
    }
