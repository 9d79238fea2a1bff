-- What is held below a context of a tree in which some contexts were changed.
use Rattle.std.specs.Prelude.{◌≡◌, refl, ℕ, zero, suc, ◌+◌, ◌<◌, ◌≤◌, ◌==◌, ◌||◌, Bool, true, false, cond, List, [], ◌∷◌, Option, Some}
use Rattle.std.specs.Prelude.{None, length, get_or}
use Rattle.std.proofs.Common.{sym, ◌∙◌, ap, subst, arith, rules}
use Rattle.std.proofs.lemmas.Bool.{cond-false, or_parts}
use Rattle.std.proofs.lemmas.List.{ext_get_or}
use Rattle.group_table.proofs.Words.{no_context, reset_context, held_by, parent_of, stamp_of, is_true_of, leads_to, is_below, is_under}
use Rattle.group_table.proofs.Words.{cleared, TreeState, context_at, with_context, without_slots, reset, held_below, held_from, Context}
use Rattle.group_table.proofs.Words.{ContextId, Link, TableState, held_in, IsPlaced}
use Rattle.group_table.specs.Standing.{KeepsOthers}
use Rattle.group_table.proofs.TreeFacts.{at_other, as_many, held_with}
use Rattle.group_table.proofs.ChildLaws.{cleared_at}
use Rattle.group_table.proofs.ClearLaws.{length_cleared, context_reset, not_self}

-- a context holds no more than all below another that it is below
pub held_at_least : (tree : TreeState) (above id : ContextId) → is_below tree.links above.slot id.slot ≡ true
    → id.slot < length tree.contexts → held_by (context_at tree id) ≤ held_below tree above
held_at_least tree above id below within = let without = held_with tree above id no_context below within in omega (arith, without)

-- where some links are cleared, one comes to no more slots
test_less : (p : Option ℕ) (f g : ℕ → Bool) → ((x : ℕ) → f x ≡ false → g x ≡ false) → is_true_of p f ≡ false → is_true_of p g ≡ false
test_less None f g less e = refl
test_less (Some x) f g less e = less x e

parent_less : (gone : Bool) (l : Option Link) (f : ℕ → Bool) → is_true_of (parent_of l) f ≡ false
    → is_true_of (parent_of (cond gone None l)) f ≡ false
parent_less true l f e = refl
parent_less false l f e = e

cond_less : (was now gone : Bool) (c : Context) → (was ≡ false → now ≡ false)
    → cond now (held_by (cond gone no_context c)) 0 ≤ cond was (held_by c) 0
cond_less false now gone c less = subst (λ (b : Bool). cond b (held_by (cond gone no_context c)) 0 ≤ 0) (sym (less refl)) (omega arith)
cond_less true false gone c less = omega arith
cond_less true true true c less = omega arith
cond_less true true false c less = omega arith

module _ (gone : ℕ → Bool) (ls : List (Option Link)) (above : ℕ) where
  abbrev now : List (Option Link)
  now = cleared gone None 0 ls

  leads_less : (steps slot : ℕ) → leads_to steps ls above slot ≡ false → leads_to steps now above slot ≡ false
  unfolding leads_to
  leads_less zero slot e = e
  leads_less (suc steps) slot e =
      let both = or_parts (slot == above) (is_true_of (parent_of (get_or ls slot None)) (leads_to steps ls above)) e in
      ap (λ (b : Bool). b || is_true_of (parent_of (get_or now slot None)) (leads_to steps now above)) both.0
      ∙ ap (λ (l : Option Link). is_true_of (parent_of l) (leads_to steps now above)) (cleared_at gone None ls slot)
      ∙ parent_less (gone slot) (get_or ls slot None) (leads_to steps now above)
      (test_less (parent_of (get_or ls slot None)) (leads_to steps ls above) (leads_to steps now above) (λ x. leads_less steps x) both.1)

  -- from a link that is cleared one comes nowhere else
  not_itself : (steps slot : ℕ) → leads_to steps ls above slot ≡ false → (slot == above) ≡ false
  unfolding leads_to
  not_itself zero slot e = e
  not_itself (suc steps) slot e = (or_parts (slot == above) (is_true_of (parent_of (get_or ls slot None)) (leads_to steps ls above)) e).0

  less_by : (slot : ℕ) (goes : Bool) → leads_to (stamp_of (get_or ls slot None)) ls above slot ≡ false
      → leads_to (stamp_of (cond goes None (get_or ls slot None))) now above slot ≡ false
  unfolding leads_to
  less_by slot true e = not_itself (stamp_of (get_or ls slot None)) slot e
  less_by slot false e = leads_less (stamp_of (get_or ls slot None)) slot e

  pub below_less : (slot : ℕ) → is_below ls above slot ≡ false → is_below now above slot ≡ false
  unfolding is_below
  below_less slot e =
      ap (λ (l : Option Link). leads_to (stamp_of l) now above slot) (cleared_at gone None ls slot)
      ∙ less_by slot (gone slot) e

  -- and no more is held
  held_less : (place : ℕ) (cs : List Context) → held_from now above place (cleared gone no_context place cs) ≤ held_from ls above place cs
  held_less place [] = omega arith
  held_less place (c ∷ cs) =
      let head = cond_less (is_below ls above place) (is_below now above place) (gone place) c (below_less place) in
      let rest = held_less (place + 1) cs in
      omega (arith, head, rest)

-- a context below another is reset
held_by_reset : (tree : TreeState) (id above : ContextId) → id.slot < length tree.contexts
    → is_below (reset tree id).links above.slot id.slot ≡ true
    → held_below (reset tree id) above + held_by (context_at tree id) ≤ held_below tree above + held_by (context_at (reset tree id) id)
held_by_reset tree id above within below =
    let gone = is_under tree.links id.slot in
    let others = without_slots tree gone in
    let same : context_at others id ≡ context_at tree id = cleared_at gone no_context tree.contexts id.slot
    ∙ cond-false (gone id.slot) no_context (context_at tree id) (not_self tree id) in
    let long : id.slot < length others.contexts = subst (λ n. id.slot < n) (sym (length_cleared tree id gone no_context 0 tree.contexts))
    within in
    let changed = held_with others above id (reset_context (context_at tree id)) below long in
    let less = held_less gone tree.links above.slot 0 tree.contexts in
    omega (arith, changed, ap held_by same, ap held_by (context_reset tree id within), less)

pub held_reset : (tree after : TreeState) (id above : ContextId) → after ≡ reset tree id → id.slot < length tree.contexts
    → is_below after.links above.slot id.slot ≡ true
    → held_below after above + held_by (context_at tree id) ≤ held_below tree above + held_by (context_at after id)
held_reset tree after id above is within below =
    subst (λ (x : TreeState). held_below x above + held_by (context_at tree id) ≤ held_below tree above + held_by (context_at x id))
    (sym is)
    (held_by_reset tree id above within (subst (λ (x : TreeState). is_below x.links above.slot id.slot ≡ true) is below))

-- three contexts of a table are changed, and no other
module _ {H : Type 0} (t : TableState H) (a b : TreeState) (is : IsPlaced t a) (kept : KeepsOthers t a b) where
  abbrev first : TreeState
  first = with_context a t.buckets (context_at b t.buckets)

  abbrev second : TreeState
  second = with_context first t.keys (context_at b t.keys)

  abbrev third : TreeState
  third = with_context second t.states (context_at b t.states)

  keys_in : t.keys.slot < length first.contexts
  keys_in = subst (λ n. t.keys.slot < n) (sym (as_many a t.buckets (context_at b t.buckets))) is.keys.within

  states_in : t.states.slot < length second.contexts
  states_in = subst (λ n. t.states.slot < n) (sym (as_many first t.keys (context_at b t.keys)
      ∙ as_many a t.buckets (context_at b t.buckets))) is.states.within

  context_is : (i : ℕ) → get_or b.contexts i no_context ≡ get_or third.contexts i no_context
  context_is i = search rules

  contexts_are : b.contexts ≡ third.contexts
  contexts_are =
      ext_get_or no_context b.contexts third.contexts
      (kept.number ∙ sym (as_many second t.states (context_at b t.states) ∙ as_many first t.keys (context_at b t.keys)
      ∙ as_many a t.buckets (context_at b t.buckets)))
      (λ i _. context_is i)

  pub others_held : held_below b t.parent + held_in t a ≡ held_below a t.parent + held_in t b
  others_held =
      let same : held_below b t.parent ≡ held_below third t.parent =
      ap (λ (ls : List (Option Link)). held_from ls t.parent.slot 0 b.contexts) kept.links
      ∙ ap (λ (cs : List Context). held_from a.links t.parent.slot 0 cs) contexts_are in
      let one = held_with a t.parent t.buckets (context_at b t.buckets) is.buckets.below is.buckets.within in
      let two = held_with first t.parent t.keys (context_at b t.keys) is.keys.below keys_in in
      let three = held_with second t.parent t.states (context_at b t.states) is.states.below states_in in
      let k : context_at first t.keys ≡ context_at a t.keys = at_other a t.buckets (context_at b t.buckets) t.keys
      (λ e. is.keys_apart.differ (sym e)) in
      let s : context_at second t.states ≡ context_at a t.states =
      at_other first t.keys (context_at b t.keys) t.states (λ e. is.both_apart.differ (sym e))
      ∙ at_other a t.buckets (context_at b t.buckets) t.states (λ e. is.states_apart.differ (sym e)) in
      omega (arith, same, one, two, three, ap held_by k, ap held_by s)
