use Rattle.std.proofs.Common.{◌≡◌, sym, subst}
use Rattle.group_table.proofs.Words.{TableState, HasNo, IsMet, IsStanding, Names, slot_of}
use Rattle.group_table.proofs.TableLaws.{free_for, found, keys_live, not_found, some_free}
use Rattle.group_table.proofs.table.GroupTable.look_up.Goals as goal

pub search-requires-clause-keys : goal.search-requires-clause-keys
search-requires-clause-keys g c =
    let is = subst (λ (x : TableState g.row.H.Denot). IsStanding g.H.KeyHash.hash_of x c.args.tree.now) (sym c.self.view_is)
    c.requires.standing in
    keys_live g.H.KeyHash.hash_of _ c.args.tree.now is c.in-Some.name c.in-Some.is c.chunk-array.result.now c.chunk-array.ensures.bytes
    c.chunk-array.ensures.len

pub search-requires-clause-room : goal.search-requires-clause-room
search-requires-clause-room g c =
    let is = subst (λ (x : TableState g.row.H.Denot). IsStanding g.H.KeyHash.hash_of x c.args.tree.now) (sym c.self.view_is)
    c.requires.standing in
    some_free g.H.KeyHash.hash_of _ c.args.tree.now is c.in-Some.name c.in-Some.is c.chunk-array.result.now c.chunk-array.ensures.bytes
    c.chunk-array.ensures.len

pub returns-in-Free : goal.returns-in-Free
returns-in-Free g c =
    let tree = c.args.tree.now in
    let is = subst (λ (x : TableState g.row.H.Denot). IsStanding g.H.KeyHash.hash_of x tree) (sym c.self.view_is) c.requires.standing in (
      subst (λ (x : TableState g.row.H.Denot). HasNo x tree c.args.key.now) c.self.view_is
          (not_found g.H.KeyHash.hash_of _ tree is c.in-Some.name c.in-Some.is c.chunk-array.result.now c.chunk-array.ensures.bytes
          c.chunk-array.ensures.len
          c.args.key.now c.key_hash-hash.result c.key_hash-hash.ensures c.in-Free.ensures.0),
      record {
        hash = subst (λ (x : TableState g.row.H.Denot). c.key_hash-hash.result
            ≡ g.H.KeyHash.hash_of x.hash c.args.key.now) c.self.view_is c.key_hash-hash.ensures;
        met = subst (λ (x : TableState g.row.H.Denot). IsMet x tree (record { hash = c.key_hash-hash.result; place = c.in-Free.place }))
            c.self.view_is
            (free_for g.H.KeyHash.hash_of _ tree is c.in-Some.name c.in-Some.is c.chunk-array.result.now c.chunk-array.ensures.bytes
            c.chunk-array.ensures.len
            c.key_hash-hash.result c.in-Free.place c.in-Free.ensures.1);
      },
    )
