use Rattle.std.proofs.Common.{◌≡◌, ◌+◌, ◌≤◌, true, false, List, Option, Some, None, length, get_or, refl, sym, ap, ◌∙◌, subst, arith}
use Rattle.std.specs.Prelude.{◌==◌, is_some}
use Rattle.context_tree.specs.Preorders.{IsOrdered}
use Rattle.context_tree.specs.Rings.{is_in}
use Rattle.context_tree.proofs.Rings.{parted}
use Rattle.context_tree.proofs.Preorders.{ordered-made}
use Rattle.context_tree.proofs.Slots.{placed-length}
use Rattle.std.proofs.lemmas.Bool.{eq-eqb, ne_eqb}
use Rattle.context_tree.proofs.Words.{always_err, new_context, placed, IsFull, TreeState, Stamped, Emptied, IsBounded, with_new, Context}
use Rattle.context_tree.proofs.Words.{Link, held_by_all}
use Rattle.std.proofs.lemmas.Result.{err_from_is_err_and}
use Rattle.context_tree.specs.declared.error.TreeError.TheVariants.{StampsSpent}
use Rattle.context_tree.proofs.TreeLaws.{slot-some, stamp-low, stamps-made, empty-made, bounded-made, held-made, long-made}
use Rattle.context_tree.proofs.TreeLaws.{not-made, refused-made}
use Rattle.context_tree.proofs.tree.Tree.create.Goals.{Else-self}
use Rattle.context_tree.proofs.tree.Tree.create.Goals as goal

pub add-requires-clause-later : goal.add-requires-clause-later
add-requires-clause-later c = let low = stamp-low c.self.inside.links c.self.inside.last c.args.parent.slot c.self.invariant.stamps in omega
    (arith, low)

pub invariant_of-self-2 : goal.invariant_of-self-2
invariant_of-self-2 c =
    let t = c.self.inside in let slot = c.in_ok-slot.slot in let it : Context = new_context c.args.kind in let was = c.in_ok-slot.ensures in
    let link : Link = record { stamp = t.last + 1; parent = Some c.args.parent.slot } in
    let links : c.add.new.self ≡ placed t.links slot (Some link) = was.added in
    let contexts : c.put_new.new.contexts.items ≡ placed t.contexts.items slot it = c.put_new.ensures
    ∙ ap (λ (cs : List Context). placed cs slot it) c.reserve.ensures.items in
    let p = c.args.parent.slot in
    let there = slot-some t c.self.invariant c.args.self.now c.self.view_is c.args.parent c.in_ok-check.ensures in
    let at = parted p t.ring.slots (c.self.invariant.ordered.live p ∙ there) in
    let slots = c.insert.ensures.slots at.0 at.1 (c.make_room.ensures.same ∙ at.2) in
    record {
      long = ap length contexts ∙ long-made t.links t.contexts.items t.last slot was.low c.self.invariant.long link it
          ∙ sym (ap length links);
      stamps = subst (λ (ls : List (Option Link)). Stamped ls (t.last + 1)) (sym links)
          (stamps-made t.links t.contexts.items t.last slot was.low c.self.invariant.long link it refl c.self.invariant.stamps);
      empty = subst (λ (ls : List (Option Link)). Emptied ls c.put_new.new.contexts.items) (sym links)
          (subst (λ (cs : List Context). Emptied (placed t.links slot (Some link)) cs) (sym contexts)
          (empty-made t.links t.contexts.items t.last slot was.low c.self.invariant.long link it c.self.invariant.empty));
      bounded = subst IsBounded (sym contexts)
          (bounded-made t.links t.contexts.items t.last slot was.low c.self.invariant.long link it c.args.kind refl
          was.fresh c.self.invariant.empty c.self.invariant.bounded);
      held = c.self.invariant.held ∙ sym (ap held_by_all contexts
          ∙ held-made t.links t.contexts.items t.last slot was.low c.self.invariant.long link it c.args.kind refl
          was.fresh c.self.invariant.empty);
      ordered = subst (λ (ls : List (Option Link)). IsOrdered ls c.insert.new.self.slots) (sym links)
          (subst (IsOrdered (placed t.links slot (Some link))) (sym slots)
          (ordered-made t.links t.ring.slots at.0 p at.1 c.self.invariant.ordered at.2 slot (t.last + 1) was.low was.fresh
          (λ k. let low = stamp-low t.links t.last k c.self.invariant.stamps in omega (arith, low))));
      room =
          omega (
            arith,
            placed-length t.links slot (Some link) was.low,
            ap length links,
            c.insert.ensures.room,
            c.make_room.ensures.more,
            c.in_ok-make_room.ensures.room,
            c.len.ensures.value,
            c.self.invariant.room,
          );
    }

pub insert-requires-clause-there : goal.insert-requires-clause-there
insert-requires-clause-there c =
    let t = c.self.inside in let p = c.args.parent.slot in
    ap (is_in p) c.make_room.ensures.same ∙ c.self.invariant.ordered.live p
    ∙ slot-some t c.self.invariant c.args.self.now c.self.view_is c.args.parent c.in_ok-check.ensures

pub insert-requires-clause-new : goal.insert-requires-clause-new
insert-requires-clause-new c =
    let slot = c.in_ok-slot.slot in
    ap (is_in slot) c.make_room.ensures.same ∙ c.self.invariant.ordered.live slot ∙ ap is_some c.in_ok-slot.ensures.fresh

pub returns-in_err-check-clause-refused : goal.returns-in_err-check-clause-refused
returns-in_err-check-clause-refused c =
    let e = err_from_is_err_and c.from_residual.result c.from_residual.ensures.1 in
    rw e.1 (not-made e.0 c.in_err-check.ensures.0 refl refl (e.2 ∙ c.in_err-check.ensures.1))

pub returns-then-self-clause-refused : goal.returns-then-self-clause-refused
returns-then-self-clause-refused c =
    let spent = subst (λ (t : TreeState). (t.last == 18446744073709551615) ≡ true) c.self.view_is
    (eq-eqb c.self.inside.last 18446744073709551615 c.if-self.true) in
    not-made StampsSpent c.in_ok-check.ensures spent refl refl

-- a stamp is left
left : (c : Else-self) → (c.args.self.now.last == 18446744073709551615) ≡ false
left c = subst (λ (t : TreeState). (t.last == 18446744073709551615) ≡ false) c.self.view_is
    (ne_eqb c.self.inside.last 18446744073709551615 c.if-self.false)

pub returns-in_err-check_kind-clause-refused : goal.returns-in_err-check_kind-clause-refused
returns-in_err-check_kind-clause-refused c = refused-made {here = true} {none = false} c.from_residual-in_err-check_kind.result
    c.from_residual-in_err-check_kind.ensures.1 c.in_ok-check.ensures (left (goal.at.returns-in_err-check_kind-clause-refused c).Else-self)
    c.in_err-check_kind.ensures

pub returns-in_err-reserve-clause-refused : goal.returns-in_err-reserve-clause-refused
returns-in_err-reserve-clause-refused c = refused-made {here = true} {none = false} c.from_residual-in_err-reserve.result
    c.from_residual-in_err-reserve.ensures.1 c.in_ok-check.ensures (left (goal.at.returns-in_err-reserve-clause-refused c).Else-self)
    c.in_ok-check_kind.ensures

pub returns-in_err-reserve-clause-unchanged : goal.returns-in_err-reserve-clause-unchanged
returns-in_err-reserve-clause-unchanged c =
    always_err c.from_residual-in_err-reserve.result
    ((λ i. record { links = c.self.inside.links; contexts = c.reserve.ensures.items i; last = c.self.inside.last }) ∙ c.self.view_is)

pub returns-in_err-make_room-clause-refused : goal.returns-in_err-make_room-clause-refused
returns-in_err-make_room-clause-refused c = refused-made {here = true} {none = false} c.from_residual-in_err-make_room.result
    c.from_residual-in_err-make_room.ensures.1 c.in_ok-check.ensures (left (goal.at.returns-in_err-make_room-clause-refused c).Else-self)
    c.in_ok-check_kind.ensures

pub returns-in_err-make_room-clause-unchanged : goal.returns-in_err-make_room-clause-unchanged
returns-in_err-make_room-clause-unchanged c =
    always_err c.from_residual-in_err-make_room.result
    ((λ i. record { links = c.self.inside.links; contexts = c.reserve.ensures.items i; last = c.self.inside.last }) ∙ c.self.view_is)

pub returns-in_err-slot-clause-refused : goal.returns-in_err-slot-clause-refused
returns-in_err-slot-clause-refused c = refused-made {here = true} {none = false} c.from_residual-in_err-slot.result
    c.from_residual-in_err-slot.ensures.1 c.in_ok-check.ensures (left (goal.at.returns-in_err-slot-clause-refused c).Else-self)
    c.in_ok-check_kind.ensures

pub returns-in_err-slot-clause-unchanged : goal.returns-in_err-slot-clause-unchanged
returns-in_err-slot-clause-unchanged c =
    always_err c.from_residual-in_err-slot.result
    ((λ i. record { links = c.in_err-slot.ensures.unchanged i; contexts = c.reserve.ensures.items i; last = c.self.inside.last })
    ∙ c.self.view_is)

pub returns : goal.returns
returns c =
    let x = c.self.inside in let view = c.self.view_is in let slot = c.in_ok-slot.slot in let was = c.in_ok-slot.ensures in
    let contexts : c.put_new.new.contexts.items ≡ placed x.contexts.items slot (new_context c.args.kind) =
    c.put_new.ensures ∙ ap (λ (cs : List Context). placed cs slot (new_context c.args.kind)) c.reserve.ensures.items in
    record {
      there = c.in_ok-check.ensures;
      stamp = ap (λ (t : TreeState). t.last + 1) view;
      fresh = subst (λ (t : TreeState). get_or t.links slot None ≡ None) view was.fresh;
      low = subst (λ (t : TreeState). slot ≤ length t.links) view was.low;
      needed = subst (λ (t : TreeState). slot ≡ length t.links → IsFull t.links) view was.needed;
      made =
          (λ i. record { links = was.added i; contexts = contexts i; last = x.last + 1 })
          ∙ ap (λ (t : TreeState). with_new t c.args.parent c.args.kind (record { slot = slot; stamp = x.last + 1 })) view;
      allowed = c.in_ok-check_kind.ensures;
      refused = tt;
      unchanged = tt;
    }
