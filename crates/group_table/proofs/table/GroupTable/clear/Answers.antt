use Rattle.std.proofs.Common.{◌≡◌, ℕ, ◌+◌, ◌-◌, ◌≤◌, List, None, refl, sym, subst, ap, ◌∙◌}
use Rattle.std.specs.Vec.{vec_capacity, vec_len}
use Rattle.group_table.proofs.Words.{TreeState, reset, held_below, TableState, held_in, without_groups, IsEmptied, IsTableIn, KeepsBeside}
use Rattle.group_table.proofs.Words.{HoldsKeys, IsCleared, IsSameBut, Slot}
use Rattle.group_table.proofs.EmptyLaws.{p1, p2, clears}
use Rattle.group_table.proofs.table.GroupTable.clear.Goals as goal

pub empty-requires-2 : goal.empty-requires-2
empty-requires-2 g c =
    let is = subst (λ (x : TableState g.row.H.Denot). IsTableIn g.H.KeyHash.hash_of x c.args.tree.now) (sym c.self.view_is) c.requires in
    (p1 g.H.KeyHash.hash_of _ c.args.tree.now c.empty.new.tree c.empty.new.tree c.empty.new.tree is c.empty.ensures.reset
    c.empty.ensures.before c.empty.ensures.after).keys.there

pub empty-requires-3 : goal.empty-requires-3
empty-requires-3 g c =
    let is = subst (λ (x : TableState g.row.H.Denot). IsTableIn g.H.KeyHash.hash_of x c.args.tree.now) (sym c.self.view_is) c.requires in
    (p2 g.H.KeyHash.hash_of _ c.args.tree.now c.empty.new.tree c.empty-2.new.tree c.empty-2.new.tree is c.empty.ensures.reset
    c.empty.ensures.before c.empty.ensures.after c.empty-2.ensures.reset c.empty-2.ensures.after).states.there

pub returns : goal.returns
returns g c =
    let hash = g.H.KeyHash.hash_of in let old = c.args.tree.now in let now = c.empty-3.new.tree in
    let x = c.self.inside in let v = c.clear.new.self in let one = c.empty.ensures in let two = c.empty-2.ensures in let three =
    c.empty-3.ensures in
    let is = subst (λ (y : TableState g.row.H.Denot). IsTableIn hash y old) (sym c.self.view_is) c.requires in
    let n : ℕ = vec_capacity v - vec_len v in
    let left : List Slot → TableState g.row.H.Denot = λ xs. record {
      parent = x.parent;
      buckets = x.buckets;
      keys = x.keys;
      states =
          x.states;
      width = x.width;
      hash = x.hash;
      array = None;
      slots = xs;
      spare = n;
    } in
    let all = clears hash _ old c.empty.new.tree c.empty-2.new.tree now is one.reset one.before one.after two.reset two.after three.reset
    three.after in
    record {
      table = subst (λ xs. IsTableIn hash (left xs) now) (sym c.clear.ensures.items) (all.table n);
      same = subst (λ (y : TableState g.row.H.Denot). IsSameBut y (left v.items)) c.self.view_is
          (record { parent = refl; buckets = refl; keys = refl; states = refl; width = refl; hash = refl });
      slots = c.clear.ensures.items;
      array = refl;
      held = subst (λ (y : TableState g.row.H.Denot). IsCleared y now) c.self.view_is all.held;
      tree = subst (λ (y : TableState g.row.H.Denot). now ≡ without_groups y old) c.self.view_is
          (three.reset ∙ ap (λ (tree : TreeState). reset tree x.states) (two.reset
          ∙ ap (λ (tree : TreeState). reset tree x.keys) one.reset));
      beside = subst (λ (y : TableState g.row.H.Denot). KeepsBeside y old now) c.self.view_is all.beside;
      rest = subst (λ (y : TableState g.row.H.Denot). held_below now y.parent + held_in y old ≤ held_below old y.parent + held_in y now)
          c.self.view_is all.rest;
      emptied = λ alone. subst (λ xs. IsEmptied (left xs) now) (sym c.clear.ensures.items)
          (all.emptied n (subst (λ (y : TableState g.row.H.Denot). held_below old y.parent ≡ held_in y old) (sym c.self.view_is) alone));
      holds = λ alone. subst (λ xs. HoldsKeys (left xs) now) (sym c.clear.ensures.items)
          (all.holds n (subst (λ (y : TableState g.row.H.Denot). held_below old y.parent ≡ held_in y old) (sym c.self.view_is) alone));
    }
