use Rattle.std.specs.Prelude.{◌++◌, ◌∷◌, []}
use Rattle.std.proofs.Common.{sym, ◌∙◌, ap}
use Rattle.hash_agg.proofs.Words.{need, packed_keys, GroupsState, entries_of}
use Rattle.hash_agg.proofs.NeedLaws.{most_entered, none_needed}
use Rattle.hash_agg.proofs.TableLaws.{held_alone}
use Rattle.hash_agg.proofs.groups.Groups.insert.Goals as goal

pub invariant_of-self : goal.invariant_of-self
invariant_of-self g c =
    record {
      in_tree = c.insert_vacant.ensures.table;
      by_keys = c.in-Ok.ensures.holds c.self.invariant.by_keys;
      most =
          c.max-self-inside.ensures
          ∙ most_entered c.self.inside.table c.insert_vacant.new.self c.self.inside.tree c.insert_vacant.new.tree c.self.inside.most_held c.args.held
          c.args.key.now c.args.states.now c.insert_vacant.ensures.same c.self.invariant.most
          (c.requires.held ∙ ap (λ (x : GroupsState g.row.H.Denot). need x.table.width (packed_keys (entries_of x) ++ c.args.key.now ∷ []))
          (sym c.self.view_is))
          c.in-Ok.ensures.groups;
    }

pub invariant_of-self-in-Err : goal.invariant_of-self-in-Err
invariant_of-self-in-Err g c =
    record {
      in_tree = c.clear.ensures.table;
      by_keys = c.clear.ensures.holds (held_alone c.self.inside.table c.insert_vacant.new.self c.self.inside.tree c.insert_vacant.new.tree
          c.insert_vacant.ensures.same c.self.invariant.by_keys.alone c.insert_vacant.ensures.rest);
      most = none_needed c.clear.new.self c.clear.new.tree c.clear.ensures.slots;
    }
