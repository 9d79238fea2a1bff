-- Trees in which one context was written over.
use Rattle.std.specs.Prelude.{◌≡◌, ◌≢◌, ℕ, zero, suc, ◌+◌, ◌<◌, true, cond, List, [], ◌∷◌, Option, length, get_or, slice_set}
use Rattle.std.proofs.Common.{sym, ◌∙◌, ap, arith, rules}
use Rattle.std.proofs.lemmas.List.{get_or-set_same, get_or-set_other, length-set, set-set, set-get_or}
use Rattle.group_table.proofs.Words.{no_context, held_by, is_below, TreeState, context_at, with_context, held_below, held_from, Context}
use Rattle.group_table.proofs.Words.{ContextId, Link, OnlyIn, TableState, IsPlaced}
use Rattle.group_table.specs.Standing.{KeepsOthers}
use Rattle.std.proofs.lemmas.Bool.Decides.{nat_tests}
use Rattle.std.proofs.lemmas.Grind.{common_steps}

module _ (t : TreeState) (id : ContextId) (c : Context) where
  pub at_same : id.slot < length t.contexts → context_at (with_context t id c) id ≡ c
  at_same within = get_or-set_same t.contexts id.slot c no_context within

  pub at_other : (other : ContextId) → other.slot ≢ id.slot → context_at (with_context t id c) other ≡ context_at t other
  at_other other differ = get_or-set_other t.contexts id.slot other.slot c no_context differ

  pub as_many : length (with_context t id c).contexts ≡ length t.contexts
  as_many = length-set t.contexts id.slot c

-- one context is changed, or not, or twice
-- with another context of this id
pub only_with : (id : ContextId) (a b : TreeState) (c : Context) → b ≡ with_context a id c → id.slot < length a.contexts → OnlyIn id a b
only_with id a b c is within = is
    ∙ ap (λ (x : Context). with_context a id x) (sym (ap (λ (t : TreeState). context_at t id) is ∙ at_same a id c within))

pub only_once : (id : ContextId) (t : TreeState) → id.slot < length t.contexts → OnlyIn id t t
only_once id t within = ap (λ (cs : List Context). record { links = t.links; contexts = cs; last = t.last })
    (sym (set-get_or t.contexts id.slot no_context))

pub only_twice : (id : ContextId) (a b c : TreeState) → OnlyIn id a b → OnlyIn id b c → OnlyIn id a c
only_twice id a b c first second =
    second ∙ ap (λ (t : TreeState). with_context t id (context_at c id)) first
    ∙ ap (λ (cs : List Context). record { links = a.links; contexts = cs; last = a.last })
    (set-set a.contexts id.slot (context_at b id) (context_at c id))

-- what a change of one context leaves as it was
module _ (id : ContextId) (a b : TreeState) (only : OnlyIn id a b) where
  pub same_links : b.links ≡ a.links
  same_links = ap (λ (t : TreeState). t.links) only

  pub same_last : b.last ≡ a.last
  same_last = ap (λ (t : TreeState). t.last) only

  pub same_number : length b.contexts ≡ length a.contexts
  same_number = ap (λ (t : TreeState). length t.contexts) only ∙ as_many a id (context_at b id)

-- where it is one of the three contexts of a table, the others stay
pub only_its_own : {H : Type 0} (t : TableState H) (id : ContextId) (a b : TreeState) → OnlyIn id a b
    → ((slot : ℕ) → slot ≢ t.buckets.slot → slot ≢ t.keys.slot → slot ≢ t.states.slot → slot ≢ id.slot) → KeepsOthers t a b
only_its_own t id a b only own = search rules

-- a table is placed alike in a tree with the same links
module _ {H : Type 0} (t : TableState H) (a b : TreeState) (links : b.links ≡ a.links) (number : length b.contexts
    ≡ length a.contexts) where
  pub placed_kept : IsPlaced t a → IsPlaced t b
  placed_kept is = grind (arith, nat_tests, common_steps)

-- what is held below a context of which one that is below it was changed
held_other : (ls : List (Option Link)) (above place n : ℕ) (cs : List Context) (c : Context) → is_below ls above (place + n) ≡ true
    → n < length cs
    → held_from ls above place (slice_set cs n c) + held_by (get_or cs n no_context) ≡ held_from ls above place cs + held_by c
held_other ls above place n [] c below within = absurd (omega (arith, within))
held_other ls above place zero (x ∷ cs) c below within =
    let here : is_below ls above place ≡ true = ap (λ (k : ℕ). is_below ls above k) (omega arith) ∙ below in
    ap (λ b. cond b (held_by c) 0 + held_from ls above (place + 1) cs + held_by x) here
    ∙ omega arith
    ∙ sym (ap (λ b. cond b (held_by x) 0 + held_from ls above (place + 1) cs + held_by c) here)
held_other ls above place (suc n) (x ∷ cs) c below within =
    let rest = held_other ls above (place + 1) n cs c (ap (λ (k : ℕ). is_below ls above k) (omega arith) ∙ below) (omega (arith, within)) in
    omega (arith, rest)

pub held_with : (a : TreeState) (above id : ContextId) (c : Context) → is_below a.links above.slot id.slot ≡ true
    → id.slot < length a.contexts
    → held_below (with_context a id c) above + held_by (context_at a id) ≡ held_below a above + held_by c
held_with a above id c below within = held_other a.links above.slot 0 id.slot a.contexts c
    (ap (λ (k : ℕ). is_below a.links above.slot k) (omega arith) ∙ below) within

pub held_changed : (a b : TreeState) (above id : ContextId) → OnlyIn id a b → is_below a.links above.slot id.slot ≡ true
    → id.slot < length a.contexts
    → held_below b above + held_by (context_at a id) ≡ held_below a above + held_by (context_at b id)
held_changed a b above id only below within =
    ap (λ (t : TreeState). held_below t above + held_by (context_at a id)) only
    ∙ held_with a above id (context_at b id) below within
