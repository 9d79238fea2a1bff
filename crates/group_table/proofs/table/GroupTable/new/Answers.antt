use Rattle.std.proofs.Common.{◌-◌, None, sym, subst}
use Rattle.std.specs.Vec.{vec_capacity, vec_len}
use Rattle.group_table.specs.Space.{HoldsKeys}
use Rattle.group_table.proofs.SpaceLaws.{holds_fresh}
use Rattle.group_table.proofs.table.GroupTable.new.Goals as goal

pub returns-clause-holds : goal.returns-clause-holds
returns-clause-holds g c none =
    let a = c.args in let made = c.in_ok-buckets.field-0 in let v = c.new.result in
    subst (λ xs. HoldsKeys {H = g.row.H.Denot}
    (record {
      parent = a.parent;
      buckets = made.buckets;
      keys = made.keys;
      states = made.states;
      width = a.width;
      hash = a.hash;
      array =
          None;
      slots = xs;
      spare = vec_capacity v - vec_len v;
    }) c.make_children.new.tree) (sym c.new.ensures.items)
    (holds_fresh a.tree.now c.make_children.new.tree a.parent a.width made c.in_ok-buckets.ensures.made a.hash (vec_capacity v - vec_len v)
    none)
