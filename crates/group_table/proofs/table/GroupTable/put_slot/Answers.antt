use Rattle.std.proofs.Common.{◌≡◌, None, sym, subst}
use Rattle.std.specs.Prelude.{IfSome}
use Rattle.group_table.proofs.Words.{TableState, HasNo, IsFreeFor, IsMet, IsStanding, OnlyIn, HasNext, IsNext, bytes_at, count_of}
use Rattle.group_table.proofs.Words.{with_slot}
use Rattle.group_table.proofs.PutLaws.{array_at, index_at, met_or, room_at, stands_more}
use Rattle.group_table.proofs.table.GroupTable.put_slot.Goals as goal

pub put_into-requires : goal.put_into-requires
put_into-requires g c =
    let hash = g.H.KeyHash.hash_of in let tree = c.args.tree.now in let key = c.requires.next.0 in let slot = c.args.slot in let state =
    c.requires.next.1 in
    let is = subst (λ (x : TableState g.row.H.Denot). IsStanding hash x tree) (sym c.self.view_is) c.requires.standing in
    let next = subst (λ (x : TableState g.row.H.Denot). IsNext x tree key state slot) (sym c.self.view_is) c.requires.next.2 in
    let absent = subst (λ (x : TableState g.row.H.Denot). HasNo x tree key) (sym c.self.view_is) c.requires.next.3 in
    let room = subst (λ (x : TableState g.row.H.Denot). HasNext x tree None) (sym c.self.view_is) c.requires.room in
    let name = c.unwrap-name.result in let v = c.args.vacancy in
    record {
      array = array_at hash _ slot tree is key state next absent name c.unwrap-name.ensures room;
      index = index_at hash _ slot tree is key state next absent name c.unwrap-name.ensures room;
      room = room_at hash _ slot tree is key state next absent name c.unwrap-name.ensures room;
      met = subst (λ met. IfSome met (IsFreeFor (bytes_at tree c.self.inside.buckets name) (count_of name) v.hash)) (sym c.met-met.ensures)
          (met_or (IsFreeFor (bytes_at tree c.self.inside.buckets name) (count_of name) v.hash) c.args.is_replaced v.place
          (λ kept. subst (λ (x : TableState g.row.H.Denot). IsMet x tree v) (sym c.self.view_is) (c.requires.met kept) name
          c.unwrap-name.ensures));
    }

pub returns-clause-standing : goal.returns-clause-standing
returns-clause-standing g c =
    let hash = g.H.KeyHash.hash_of in let tree = c.args.tree.now in let key = c.requires.next.0 in let slot = c.args.slot in let state =
    c.requires.next.1 in
    let is = subst (λ (x : TableState g.row.H.Denot). IsStanding hash x tree) (sym c.self.view_is) c.requires.standing in
    let next = subst (λ (x : TableState g.row.H.Denot). IsNext x tree key state slot) (sym c.self.view_is) c.requires.next.2 in
    let absent = subst (λ (x : TableState g.row.H.Denot). HasNo x tree key) (sym c.self.view_is) c.requires.next.3 in
    let hashed = subst (λ (x : TableState g.row.H.Denot). c.args.vacancy.hash ≡ hash x.hash key) (sym c.self.view_is)
    c.requires.next.4 in
    let room = subst (λ (x : TableState g.row.H.Denot). HasNext x tree None) (sym c.self.view_is) c.requires.room in
    subst (λ (x : TableState g.row.H.Denot). IsStanding hash (with_slot x slot) c.put_into.new.tree) c.self.view_is
    (stands_more hash _ slot tree is key state next absent c.unwrap-name.result c.unwrap-name.ensures room c.put_into.new.tree
    c.put_into.ensures.only c.put_into.ensures.rewritten c.put_into.ensures.index c.put_into.ensures.more
    c.args.vacancy.hash hashed c.put_into.ensures.put)

pub returns-clause-only : goal.returns-clause-only
returns-clause-only g c = subst (λ (x : TableState g.row.H.Denot). OnlyIn x.buckets c.args.tree.now c.put_into.new.tree) c.self.view_is
    c.put_into.ensures.only
