use Rattle.std.specs.Prelude.{◌≡◌, ◌<◌, ℕ, Some, length, true, option_map, slice_get, IsTrue}
use Rattle.std.proofs.Common.{refl, sym, subst, ap, ◌∙◌, get_or}
use Rattle.std.proofs.lemmas.Option.{slice_get-map, slice_get_read}
use Rattle.group_table.proofs.Words.{has_chunk, context_at, is_there, ContextId, TableState, group_in, key_in, state_in, Slot}
use Rattle.group_table.proofs.table.GroupTable.entry.Goals as goal

-- the slot at a place of a table's slots, as they are kept
at_place : {H : Type 0} → (kept t : TableState H) → kept ≡ t → (place : ℕ) → (slot : Slot) → place < length t.slots → slot
    ≡ get_or kept.slots place slot → slice_get t.slots place ≡ Some slot
at_place kept t same place slot within read = slice_get_read t.slots (length t.slots) place slot refl within (read
    ∙ ap (λ (x : TableState _). get_or x.slots place slot) same)

pub chunk-requires : goal.chunk-requires
chunk-requires g c =
    let slot = c.index-slot.result.now in
    let standing = c.requires.table.standing in
    let id : c.self.inside.keys ≡ c.args.self.now.keys = ap (λ (x : TableState g.row.H.Denot). x.keys) c.self.view_is in
    record {
      there = subst (λ (i : ContextId). is_there c.args.tree.now i ≡ true) (sym id) standing.placed.keys.there;
      chunk = subst (λ (i : ContextId). IsTrue (has_chunk (context_at c.args.tree.now i) slot.key)) (sym id)
          (standing.stands.groups.keys_live slot (
            c.args.place,
            at_place _ c.args.self.now c.self.view_is c.args.place slot c.requires.place
                c.index-slot.ensures,
          ));
    }

pub state-requires : goal.state-requires
state-requires g c = record {
  table = c.requires.table;
  slot = (
    c.args.place,
    at_place _ c.args.self.now c.self.view_is c.args.place c.index-slot.result.now c.requires.place
        c.index-slot.ensures,
  );
}

pub returns : goal.returns
returns g c =
    let t = c.args.self.now in let tree = c.args.tree.now in let slot = c.index-slot.result.now in
    let there = at_place _ t c.self.view_is c.args.place slot c.requires.place c.index-slot.ensures in
    let key : key_in t tree slot
    ≡ c.chunk.result.now = sym (c.chunk.ensures.bytes ∙ ap (λ (x : TableState g.row.H.Denot). key_in x tree slot) c.self.view_is) in
    record {
      entry = slice_get-map (group_in t tree) t.slots c.args.place ∙ ap (option_map (group_in t tree)) there
          ∙ ap (λ k. Some (k, state_in t tree slot)) key ∙ ap (λ s. Some (c.chunk.result.now, s)) (sym c.state.ensures.state);
      len = c.state.ensures.len;
    }
