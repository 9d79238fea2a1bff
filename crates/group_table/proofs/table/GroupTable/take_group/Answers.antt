use Rattle.std.proofs.Common.{◌≡◌, ◌+◌, ◌≤◌, ◌++◌, ◌∷◌, [], length, sym, subst, ◌∙◌, ap, arith}
use Rattle.group_table.proofs.Words.{growth_of, has_chunk, chunk_bytes, IsCounted, TreeState, context_at, held_below, Context, TableState}
use Rattle.group_table.proofs.Words.{groups, IsStanding, IsNext, IsRunWith, IsSlabWith, HoldsKeyBlocks, HoldsStates}
use Rattle.std.specs.Prelude.{IsTrue}
use Rattle.group_table.specs.Standing.{KeepsOthers}
use Rattle.context_tree.specs.CallLaws.{allocated}
use Rattle.group_table.proofs.GroupLaws.{key_taken, state_taken}
use Rattle.group_table.proofs.InsertLaws.{others_none, others_twice}
use Rattle.group_table.proofs.SpaceLaws.{run_more, slab_more}
use Rattle.group_table.proofs.table.GroupTable.take_group.Goals as goal

pub returns-in_default : goal.returns-in_default
returns-in_default g c =
    let t = c.args.self.now in let tree = c.args.tree.now in let same = c.in_default.ensures.unchanged in
    record {
      standing = subst (λ (x : TreeState). IsStanding g.H.KeyHash.hash_of t x) (sym same) c.requires.standing;
      buckets = ap (λ (x : TreeState). context_at x t.buckets) same;
      others = others_none t tree c.alloc.new.self same;
      groups = ap (λ (x : TreeState). groups t x) same;
      next = tt;
      held = omega (arith, ap (λ (x : TreeState). held_below x t.parent) same);
      keys = tt;
      states = tt;
    }

pub returns-in-Err : goal.returns-in-Err
returns-in-Err g c =
    let hash = g.H.KeyHash.hash_of in let t = c.args.self.now in let tree = c.args.tree.now in let mid = c.alloc.new.self in
    let is = subst (λ (x : TableState g.row.H.Denot). IsStanding hash x tree) (sym c.self.view_is) c.requires.standing in
    let key = c.in-Ok.ensures.taken in let same = c.in-Err.ensures.unchanged in
    let first = key_taken hash _ tree mid is _ _ c.in-Ok.key (allocated _ _ _ _ _ _ key) key.does.taken.keeps in
    record {
      standing = subst (λ (x : TreeState). IsStanding hash t x) (sym same) (subst (λ (x : TableState g.row.H.Denot). IsStanding hash x mid)
          c.self.view_is first.standing);
      buckets = ap (λ (x : TreeState). context_at x t.buckets) same ∙ subst (λ (x : TableState g.row.H.Denot). context_at mid x.buckets
          ≡ context_at tree x.buckets) c.self.view_is (first.rest c.self.inside.buckets is.placed.keys_apart.differ);
      others = others_twice t tree mid c.alloc-2.new.self (subst (λ (x : TableState g.row.H.Denot). KeepsOthers x tree mid) c.self.view_is
          first.others) (others_none t mid c.alloc-2.new.self same);
      groups = ap (λ (x : TreeState). groups t x) same ∙ subst (λ (x : TableState g.row.H.Denot). groups x mid ≡ groups x tree)
          c.self.view_is first.same;
      next = tt;
      held =
          let one = first.held _ key.does.grown in
          let here = ap (λ (x : TreeState). held_below x c.self.inside.parent) same in
          subst (λ (x : TableState g.row.H.Denot). held_below c.alloc-2.new.self x.parent ≤ held_below tree x.parent
          + growth_of (context_at tree x.keys) (length c.args.key.now) + growth_of (context_at tree x.states) x.width) c.self.view_is
          (omega (arith, one, here));
      keys = tt;
      states = tt;
    }

pub returns-in-Ok-alloc : goal.returns-in-Ok-alloc
returns-in-Ok-alloc g c =
    let hash = g.H.KeyHash.hash_of in let tree = c.args.tree.now in let mid = c.alloc.new.self in let after = c.alloc-2.new.self in
    let is = subst (λ (x : TableState g.row.H.Denot). IsStanding hash x tree) (sym c.self.view_is) c.requires.standing in
    let width = subst (λ (x : TableState g.row.H.Denot). length c.args.state.now ≡ x.width) (sym c.self.view_is) c.requires.state in
    let key = c.in-Ok.ensures.taken in let state = c.in-Ok-alloc.ensures.taken in
    let first = key_taken hash _ tree mid is _ _ c.in-Ok.key (allocated _ _ _ _ _ _ key) key.does.taken.keeps in
    let second = state_taken hash _ mid after first.standing _ _ c.in-Ok-alloc.state (allocated _ _ _ _ _ _ state) state.does.taken.keeps in
    let same = first.rest c.self.inside.states (λ same. is.placed.both_apart.differ (sym same)) in
    let kept = second.rest c.self.inside.keys is.placed.both_apart.differ in
    record {
      standing = subst (λ (x : TableState g.row.H.Denot). IsStanding hash x after) c.self.view_is second.standing;
      buckets = subst (λ (x : TableState g.row.H.Denot). context_at after x.buckets ≡ context_at tree x.buckets) c.self.view_is
          (second.rest c.self.inside.buckets is.placed.states_apart.differ ∙ first.rest c.self.inside.buckets is.placed.keys_apart.differ);
      others = subst (λ (x : TableState g.row.H.Denot). KeepsOthers x tree after) c.self.view_is
          (others_twice _ tree mid after first.others second.others);
      groups = subst (λ (x : TableState g.row.H.Denot). groups x after ≡ groups x tree) c.self.view_is
          (second.same ∙ first.same);
      next = subst (λ (x : TableState g.row.H.Denot). IsNext x after c.args.key.now c.args.state.now
          (record { key = c.in-Ok.key; state = c.in-Ok-alloc.state })) c.self.view_is (record {
            key_live = subst (λ (k : Context). IsTrue (has_chunk k c.in-Ok.key)) (sym kept) key.does.taken.lives;
            key_is = ap (λ (k : Context). chunk_bytes k c.in-Ok.key) kept ∙ key.does.taken.holds;
            state_live = state.does.taken.lives;
            state_is = state.does.taken.holds;
            width = state.does.taken.len ∙ width;
            own = λ other there. (state.does.taken.keeps other.state (first.standing.stands.groups.states_live other there)).0;
          });
      held =
          let one = first.held _ key.does.grown in
          let two = second.held _ state.does.grown in
          let alike = ap (λ (x : Context). growth_of x (length c.args.state.now)) same in
          let asked = ap (λ n. growth_of (context_at tree c.self.inside.states) n) width in
          subst (λ (x : TableState g.row.H.Denot). held_below after x.parent ≤ held_below tree x.parent
          + growth_of (context_at tree x.keys) (length c.args.key.now) + growth_of (context_at tree x.states) x.width) c.self.view_is
          (omega (arith, one, two, alike, asked));
      keys = λ keys.
          subst (λ (x : TableState g.row.H.Denot). IsRunWith (HoldsKeyBlocks keys) (context_at tree x.keys)
          → IsRunWith (HoldsKeyBlocks (keys ++ c.args.key.now ∷ [])) (context_at after x.keys)) c.self.view_is
          (λ holds. subst (IsRunWith (HoldsKeyBlocks (keys ++ c.args.key.now ∷ []))) (sym kept)
          (run_more (context_at tree c.self.inside.keys) (context_at mid c.self.inside.keys) c.args.key.now c.in-Ok.key first.own
          key.does.grown
          c.requires.key keys holds));
      states = λ number.
          let counted = subst IsCounted (sym same) c.spare_by_count.ensures in
          subst (λ (x : TableState g.row.H.Denot). IsSlabWith (HoldsStates x.width number) (context_at tree x.states)
          → IsSlabWith (HoldsStates x.width (number + 1)) (context_at after x.states)) c.self.view_is
          (λ holds. slab_more (context_at mid c.self.inside.states) (context_at after c.self.inside.states) c.self.inside.width
          c.args.state.now c.in-Ok-alloc.state second.own state.does.grown width is.stands.width counted number
          (subst (IsSlabWith (HoldsStates c.self.inside.width number)) (sym same) holds));
    }
