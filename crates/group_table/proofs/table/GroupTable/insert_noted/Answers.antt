use Rattle.std.proofs.Common.{◌≡◌, refl, ◌+◌, ◌-◌, ◌≤◌, ◌++◌, ◌∷◌, [], length, sym, subst, ◌∙◌, ap, arith, Option, Some, None, false}
use Rattle.std.proofs.Common.{is_some}
use Rattle.std.proofs.lemmas.Bool.{false≢true}
use Rattle.std.proofs.lemmas.Result.{err_from_is_err_and}
use Rattle.std.specs.Vec.{vec_capacity, vec_len}
use Rattle.group_table.proofs.Words.{TreeState, context_at, held_below, ContextId, TableState, groups, held_in, HasNo, IsSameBut, IsSetWith}
use Rattle.group_table.proofs.Words.{group_growth, HoldsKeys}
use Rattle.group_table.proofs.Words.{IsTableIn, IsFirst, HasArray, IsNext, with_slot, keys_in, IsRunWith, IsSlabWith, HoldsArray, HoldsNext}
use Rattle.group_table.proofs.Words.{ChunkName, HoldsKeyBlocks, HoldsStates, IsMet}
use Rattle.group_table.specs.Standing.{KeepsOthers}
use Rattle.group_table.proofs.HeldLaws.{others_held}
use Rattle.group_table.proofs.SpaceLaws.{holds_more, buckets_at, keys_after, states_after}
use Rattle.group_table.proofs.InsertLaws.{next_but, next_kept, keys_left, states_left, next_same, others_twice, others_left, next_others}
use Rattle.group_table.proofs.InsertLaws.{any_space, groups_left, groups_pushed, held_left, next_left, replaced_groups, replaced_others}
use Rattle.group_table.proofs.InsertLaws.{replaced_next, replaced_absent, replaced_held, met_kept}
use Rattle.group_table.proofs.table.GroupTable.insert_noted.Goals as goal
use Rattle.group_table.proofs.table.GroupTable.insert_noted.Given as given

pub take_array-requires : goal.take_array-requires
take_array-requires g c = record { table = c.requires.table; few = c.requires.few }

pub returns-in_err-next : goal.returns-in_err-next
returns-in_err-next g c =
    let t = c.args.self.now in let same = c.in_err-next.ensures.unchanged in
    let e = err_from_is_err_and c.from_residual.result c.from_residual.ensures.1 in
    rw e.1 (record {
      table = subst (λ (x : TreeState). IsTableIn g.H.KeyHash.hash_of t x) (sym same) c.requires.table;
      same = record { parent = refl; buckets = refl; keys = refl; states = refl; width = refl; hash = refl };
      slot = tt;
      groups = tt;
      refused = (refl, ap (λ (x : TreeState). groups t x) same);
      others = others_left t c.args.tree.now c.take_array.new.tree c.take_array.ensures.only c.requires.table.standing.placed;
      held = omega (arith, ap (λ (x : TreeState). held_below x t.parent) same);
      rest = others_held t c.args.tree.now c.take_array.new.tree c.requires.table.standing.placed
          (others_left t c.args.tree.now c.take_array.new.tree c.take_array.ensures.only c.requires.table.standing.placed);
      holds = tt;
    })

pub take_group-taken-requires : goal.take_group-taken-requires
take_group-taken-requires g c = record { standing = c.take_array.ensures.standing; state = c.requires.state; key = c.requires.key }

pub replace_array-requires : goal.replace_array-requires
replace_array-requires g c =
    let two = c.take_group-taken.ensures in record {
      standing = two.standing;
      next = next_kept c.args.self.now c.take_array.new.tree c.take_group-taken.new.tree c.in_ok-next.next two.buckets two.standing.placed
          c.in_ok-next.ensures.next;
    }

pub returns-in_err-slot : goal.returns-in_err-slot
returns-in_err-slot g c =
    let hash = g.H.KeyHash.hash_of in let t = c.args.self.now in let tree = c.args.tree.now in let a = c.take_array.new.tree in let b =
    c.take_group-taken.new.tree in let e = c.replace_array.new.tree in
    let one = c.in_ok-next.ensures in let two = c.take_group-taken.ensures in let three = c.replace_array.ensures in
    let s1 = c.replace_array.new.self in let next = c.in_ok-next.next in let placed = c.requires.table.standing.placed in
    let error = err_from_is_err_and c.from_residual-in_err-slot.result c.from_residual-in_err-slot.ensures.1 in
    rw error.1 (record {
      table = record {
        standing = three.standing;
        space = any_space (λ s. IsFirst s × HasArray hash s1 (context_at e s1.keys) s1.array s)
            (context_at e s1.buckets) s1.array three.room.0 three.room.1 three.standing.stands.set;
      };
      same = subst (λ (x : TableState g.row.H.Denot). IsSameBut t x) (sym three.array) (next_but t next);
      slot = tt;
      groups = tt;
      refused = (
        ap (λ (x : TableState g.row.H.Denot). x.slots) three.array,
        ap (λ (x : TableState g.row.H.Denot). groups x e) three.array ∙ replaced_groups t next tree a b e placed one.only two.others
            two.buckets two.groups two.standing.placed three.only,
      );
      others = replaced_others t next tree a b e placed one.only two.others two.buckets two.groups two.standing.placed three.only;
      held = replaced_held t next tree a b e placed one.only two.others two.buckets two.groups two.standing.placed three.only
          (length c.args.key.now) one.held two.held three.held;
      rest = others_held t tree e placed
          (replaced_others t next tree a b e placed one.only two.others two.buckets two.groups two.standing.placed three.only);
      holds = tt;
    })

none_kept : (next : Option ChunkName) → is_some next ≡ false → next ≡ None
none_kept None kept = refl
none_kept (Some name) kept = absurd (false≢true (sym kept))

pub put_slot-requires : goal.put_slot-requires
put_slot-requires g c =
    let hash = g.H.KeyHash.hash_of in let t = c.args.self.now in let tree = c.args.tree.now in let a = c.take_array.new.tree in let b =
    c.take_group-taken.new.tree in let e = c.replace_array.new.tree in
    let one = c.in_ok-next.ensures in let two = c.take_group-taken.ensures in let three = c.replace_array.ensures in
    let next = c.in_ok-next.next in let placed = c.requires.table.standing.placed in
    let s1 = c.replace_array.new.self in let v = c.args.vacancy in
    record {
      standing = three.standing;
      room = three.room;
      next = (
        c.args.key.now,
        c.args.state.now,
        subst (λ (x : TableState g.row.H.Denot). IsNext x e c.args.key.now c.args.state.now c.in_ok-slot.slot) (sym three.array)
            (replaced_next t next tree a b e placed one.only two.others two.buckets two.groups two.standing.placed three.only c.args.key.now
            c.args.state.now c.in_ok-slot.slot c.in_ok-slot.ensures.next),
        subst (λ (x : TableState g.row.H.Denot). HasNo x e c.args.key.now) (sym three.array)
            (replaced_absent t next tree a b e placed one.only two.others two.buckets two.groups two.standing.placed three.only
            c.args.key.now
            c.requires.absent),
        subst (λ (x : TableState g.row.H.Denot). v.hash ≡ hash x.hash c.args.key.now) (sym three.array) c.requires.vacancy.hash,
      );
      met = λ kept.
          let none : next ≡ None = none_kept next (sym c.is_some.ensures ∙ kept) in
          subst (λ (x : TableState g.row.H.Denot). IsMet x e v) (sym three.array)
          (met_kept t next tree e v none
          (ap (λ (x : TreeState). context_at x t.buckets) (three.same none) ∙ two.buckets
          ∙ ap (λ (x : TreeState). context_at x t.buckets) (one.same none))
          c.requires.vacancy.met);
    }

-- the table at the end
abbrev fin : (g : given.Over) → goal.After-push_reserved g → TableState g.row.H.Denot
fin g c =
    let x = c.self.inside in let v = c.push_reserved.new.self in
    record {
      parent = x.parent;
      buckets = x.buckets;
      keys = x.keys;
      states = x.states;
      width = x.width;
      hash = x.hash;
      array = x.array;
      slots = v.items;
      spare = vec_capacity v - vec_len v;
    }

fin_is : (g : given.Over) → (c : goal.After-push_reserved g) → fin g c ≡ with_slot c.replace_array.new.self c.in_ok-slot.slot
fin_is g c =
    let x = c.self.inside in let v = c.push_reserved.new.self in let slot = c.in_ok-slot.slot in
    let spare : vec_capacity v - vec_len v
    ≡ vec_capacity x.slots - vec_len x.slots - 1 = omega (arith, c.push_reserved.ensures.capacity, c.push_reserved.ensures.len) in
    ap (λ xs. record {
      parent = x.parent;
      buckets = x.buckets;
      keys = x.keys;
      states = x.states;
      width = x.width;
      hash = x.hash;
      array =
          x.array;
      slots = xs;
      spare = vec_capacity v - vec_len v;
    }) c.push_reserved.ensures.items
    ∙ ap (λ n. record {
      parent = x.parent;
      buckets = x.buckets;
      keys = x.keys;
      states = x.states;
      width = x.width;
      hash = x.hash;
      array =
          x.array;
      slots = x.slots.items ++ slot ∷ [];
      spare = n;
    }) spare
    ∙ ap (λ (y : TableState g.row.H.Denot). with_slot y slot) c.self.view_is

table_at : (g : given.Over) → (c : goal.After-push_reserved g) → IsTableIn g.H.KeyHash.hash_of (fin g c) c.put_slot.new.tree
table_at g c =
    let hash = g.H.KeyHash.hash_of in let three = c.replace_array.ensures in let slot = c.in_ok-slot.slot in let d = c.put_slot.new.tree in
    let s1 = c.replace_array.new.self in
    let standing = c.put_slot.ensures.standing in
    subst (λ (y : TableState g.row.H.Denot). IsTableIn hash y d) (sym (fin_is g c))
    (record {
      standing = standing;
      space = any_space (λ s. IsFirst s × HasArray hash (with_slot s1 slot) (context_at d s1.keys) s1.array s)
          (context_at d s1.buckets) s1.array three.room.0 three.room.1 standing.stands.set;
    })

same_at : (g : given.Over) → (c : goal.After-push_reserved g) → IsSameBut c.args.self.now (fin g c)
same_at g c =
    let slot = c.in_ok-slot.slot in let t = c.args.self.now in
    subst (λ (y : TableState g.row.H.Denot). IsSameBut t y)
    (sym (fin_is g c ∙ ap (λ (y : TableState g.row.H.Denot). with_slot y slot) c.replace_array.ensures.array))
    (next_same t c.in_ok-next.next slot)

groups_at : (g : given.Over) → (c : goal.After-push_reserved g) → groups (fin g c) c.put_slot.new.tree
    ≡ groups c.args.self.now c.args.tree.now ++ (c.args.key.now, c.args.state.now) ∷ []
groups_at g c =
    let t = c.args.self.now in let tree = c.args.tree.now in let a = c.take_array.new.tree in let b = c.take_group-taken.new.tree in let e =
    c.replace_array.new.tree in
    let one = c.in_ok-next.ensures in let two = c.take_group-taken.ensures in let three = c.replace_array.ensures in
    let slot = c.in_ok-slot.slot in let d = c.put_slot.new.tree in
    let next = subst (λ (y : TableState g.row.H.Denot). IsNext y e c.args.key.now c.args.state.now slot) (sym three.array)
    (replaced_next t c.in_ok-next.next tree a b e c.requires.table.standing.placed one.only two.others two.buckets two.groups
    two.standing.placed three.only c.args.key.now c.args.state.now slot c.in_ok-slot.ensures.next) in
    let s1 = c.replace_array.new.self in
    ap (λ (y : TableState g.row.H.Denot). groups y d) (fin_is g c)
    ∙ groups_pushed s1 d c.args.key.now c.args.state.now slot (next_left s1 e d c.put_slot.ensures.only three.standing.placed c.args.key.now
    c.args.state.now slot next)
    ∙ ap (λ gs. gs ++ (c.args.key.now, c.args.state.now) ∷ [])
    (groups_left s1 e d c.put_slot.ensures.only three.standing.placed ∙ ap (λ (y : TableState g.row.H.Denot). groups y e) three.array
    ∙ replaced_groups t c.in_ok-next.next tree a b e c.requires.table.standing.placed one.only two.others two.buckets two.groups
    two.standing.placed three.only)

others_at : (g : given.Over) → (c : goal.After-push_reserved g) → KeepsOthers c.args.self.now c.args.tree.now c.put_slot.new.tree
others_at g c =
    let hash = g.H.KeyHash.hash_of in let t = c.args.self.now in let tree = c.args.tree.now in let a = c.take_array.new.tree in let b =
    c.take_group-taken.new.tree in let e = c.replace_array.new.tree in
    let one = c.in_ok-next.ensures in let two = c.take_group-taken.ensures in let three = c.replace_array.ensures in
    let d = c.put_slot.new.tree in
    others_twice t tree e d
    (replaced_others t c.in_ok-next.next tree a b e c.requires.table.standing.placed one.only two.others two.buckets two.groups
    two.standing.placed three.only)
    (next_others t c.in_ok-next.next e d (subst (λ (y : TableState g.row.H.Denot). KeepsOthers y e d) three.array
    (others_left c.replace_array.new.self e d c.put_slot.ensures.only three.standing.placed)))

held_at : (g : given.Over) → (c : goal.After-push_reserved g) → held_below c.put_slot.new.tree c.args.self.now.parent
    ≤ held_below c.args.tree.now c.args.self.now.parent + group_growth c.args.self.now c.args.tree.now (length c.args.key.now)
held_at g c =
    let hash = g.H.KeyHash.hash_of in let t = c.args.self.now in let tree = c.args.tree.now in let a = c.take_array.new.tree in let b =
    c.take_group-taken.new.tree in let e = c.replace_array.new.tree in
    let one = c.in_ok-next.ensures in let two = c.take_group-taken.ensures in let three = c.replace_array.ensures in
    let d = c.put_slot.new.tree in let s1 = c.replace_array.new.self in
    let parent = ap (λ (y : TableState g.row.H.Denot). y.parent) three.array in
    let last = held_left s1 e d c.put_slot.ensures.only three.standing.placed in
    let same = c.put_slot.ensures.held in
    let after : held_below d s1.parent ≡ held_below e s1.parent = omega (arith, last, same) in
    let kept : held_below d t.parent ≡ held_below e t.parent = subst (λ (p : ContextId). held_below d p ≡ held_below e p) parent after in
    omega (
      arith,
      kept,
      replaced_held t c.in_ok-next.next tree a b e c.requires.table.standing.placed one.only two.others two.buckets
          two.groups two.standing.placed three.only (length c.args.key.now) one.held two.held three.held,
    )

holds_at : (g : given.Over) → (c : goal.After-push_reserved g) → HoldsKeys c.args.self.now c.args.tree.now
    → HoldsKeys (fin g c) c.put_slot.new.tree
holds_at g c holds =
    let t = c.args.self.now in let tree = c.args.tree.now in let a = c.take_array.new.tree in let b = c.take_group-taken.new.tree in let e =
    c.replace_array.new.tree in let d = c.put_slot.new.tree in
    let one = c.in_ok-next.ensures in let two = c.in_ok-slot.ensures in let three = c.replace_array.ensures in
    let four = c.put_slot.ensures in
    let s1 = c.replace_array.new.self in let next = c.in_ok-next.next in let slot = c.in_ok-slot.slot in let key = c.args.key.now in
    let v = c.push_reserved.new.self in
    let placed = c.requires.table.standing.placed in
    let others = others_at g c in
    let alone : held_below d t.parent ≡ held_in t d = omega (arith, holds.alone, others_held t tree d placed others) in
    let slots : v.items ≡ t.slots ++ slot ∷ [] =
    c.push_reserved.ensures.items ∙ ap (λ (y : TableState g.row.H.Denot). y.slots ++ slot ∷ []) (c.self.view_is ∙ three.array) in
    let array = three.holds (length t.slots) (subst (IsSetWith (HoldsNext t.array next (length t.slots))) (sym two.buckets)
    (one.holds holds.in_buckets)) in
    let at = buckets_at t next s1 three.array b e d two.standing.placed three.only three.standing.placed four.only in
    let put = subst (λ id. IsSetWith (HoldsArray s1.array (length t.slots + 1)) (context_at d id)) at
    (four.holds (length t.slots + 1) (subst (λ id. IsSetWith (HoldsArray s1.array (length t.slots + 1)) (context_at e id)) (sym at)
    array)) in
    let keys = subst (IsRunWith (HoldsKeyBlocks (keys_in t tree ++ key ∷ [])))
    (sym (keys_after t next s1 three.array b e d two.standing.placed three.only three.standing.placed four.only))
    (two.keys (keys_in t tree) (subst (IsRunWith (HoldsKeyBlocks (keys_in t tree))) (sym (keys_left t tree a one.only placed))
    holds.in_keys)) in
    let states = subst (IsSlabWith (HoldsStates t.width (length t.slots + 1)))
    (sym (states_after t next s1 three.array b e d two.standing.placed three.only three.standing.placed four.only))
    (two.states (length t.slots) (subst (IsSlabWith (HoldsStates t.width (length t.slots))) (sym (states_left t tree a one.only placed))
    holds.in_states)) in
    holds_more t tree (fin g c) d (same_at g c) key c.args.state.now slot slots (groups_at g c) alone
    (subst (λ o. IsSetWith (HoldsArray o (length t.slots + 1)) (context_at d t.buckets))
    (sym (ap (λ (y : TableState g.row.H.Denot). y.array) c.self.view_is)) put)
    keys states

pub returns : goal.returns
returns g c = record {
  table = table_at g c;
  same = same_at g c;
  slot = c.push_reserved.ensures.items ∙ ap (λ (y : TableState g.row.H.Denot). y.slots ++ c.in_ok-slot.slot ∷ []) (c.self.view_is
      ∙ c.replace_array.ensures.array);
  groups = groups_at g c;
  refused = tt;
  others = others_at g c;
  held = held_at g c;
  rest = others_held c.args.self.now c.args.tree.now c.put_slot.new.tree c.requires.table.standing.placed (others_at g c);
  holds = holds_at g c;
}
