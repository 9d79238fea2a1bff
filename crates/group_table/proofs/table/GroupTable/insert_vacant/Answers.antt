use Rattle.std.proofs.Common.{refl, ℕ, List, sym, subst, ap, arith}
use Rattle.std.specs.Prelude.{Result}
use Rattle.std.proofs.lemmas.Result.{err_from_is_err_and}
use Rattle.group_table.proofs.Words.{TreeState, TableState, groups, with_spare, IsSameBut, IsTableIn, IsVacancy}
use Rattle.group_table.specs.Inserts.{Inserts}
use Rattle.group_table.specs.declared.table.Slot.{Slot}
use Rattle.group_table.proofs.SpaceLaws.{holds_spare, ok_map}
use Rattle.group_table.proofs.InsertLaws.{others_none, spare_table}
use Rattle.group_table.proofs.table.GroupTable.insert_vacant.Goals as goal

-- room for more notes before is nothing that an insertion tells of
spared : {H E : Type 0} (hash_of : H → List ℕ → ℕ) (t : TableState H) (n : ℕ) (after : TableState H) (old new : TreeState)
    (key state : List ℕ) (result : Result Slot E) → Inserts hash_of (with_spare t n) after old new key state result
    → Inserts hash_of t after old new key state result
spared hash_of t n after old new key state result is = record {
  table = is.table;
  same = record {
    parent = is.same.parent;
    buckets = is.same.buckets;
    keys = is.same.keys;
    states = is.same.states;
    width = is.same.width;
    hash = is.same.hash;
  };
  slot = is.slot;
  groups = is.groups;
  refused = is.refused;
  others = record { links = is.others.links; last = is.others.last; number = is.others.number; others = is.others.others };
  held = is.held;
  rest = is.rest;
  holds = ok_map result (λ told holds. told (holds_spare t n old holds)) is.holds;
}

pub insert_noted-requires-clause-table : goal.insert_noted-requires-clause-table
insert_noted-requires-clause-table g c =
    subst (λ (x : TableState g.row.H.Denot). IsTableIn g.H.KeyHash.hash_of x c.args.tree.now) (sym c.make_room.ensures.same)
    (spare_table c.args.self.now g.H.KeyHash.hash_of c.make_room.new.self.spare c.args.tree.now c.requires.table)

pub returns-in_err-make_room : goal.returns-in_err-make_room
returns-in_err-make_room g c =
    let t = c.args.self.now in let tree = c.args.tree.now in let same = c.make_room.ensures.same in
    let e = err_from_is_err_and c.from_residual.result c.from_residual.ensures.1 in
    rw e.1 (record {
      table = subst (λ (x : TableState g.row.H.Denot). IsTableIn g.H.KeyHash.hash_of x tree) (sym same)
          (spare_table t g.H.KeyHash.hash_of c.make_room.new.self.spare tree c.requires.table);
      same = subst (λ (x : TableState g.row.H.Denot). IsSameBut t x) (sym same)
          (record { parent = refl; buckets = refl; keys = refl; states = refl; width = refl; hash = refl });
      slot = tt;
      groups = tt;
      refused = (
        ap (λ (x : TableState g.row.H.Denot). x.slots) same,
        ap (λ (x : TableState g.row.H.Denot). groups x tree) same,
      );
      others = others_none t tree tree refl;
      held = omega arith;
      rest = refl;
      holds = tt;
    })

pub returns : goal.returns
returns g c =
    let t = c.args.self.now in
    spared g.H.KeyHash.hash_of t c.make_room.new.self.spare c.insert_noted.new.self c.args.tree.now c.insert_noted.new.tree
    c.args.key.now c.args.state.now c.insert_noted.result
    (subst (λ (x : TableState g.row.H.Denot). Inserts g.H.KeyHash.hash_of x c.insert_noted.new.self c.args.tree.now
    c.insert_noted.new.tree c.args.key.now c.args.state.now c.insert_noted.result) c.make_room.ensures.same c.insert_noted.ensures)

pub insert_noted-requires-clause-vacancy : goal.insert_noted-requires-clause-vacancy
insert_noted-requires-clause-vacancy g c =
    subst (λ (x : TableState g.row.H.Denot). IsVacancy g.H.KeyHash.hash_of x c.args.tree.now c.args.key.now c.args.vacancy)
    (sym c.make_room.ensures.same)
    (record { hash = c.requires.vacancy.hash; met = c.requires.vacancy.met })
