-- The neighbours of slots, and rings made of them.
use Rattle.std.proofs.Common.{◌≡◌, ℕ, ◌<◌, ◌+◌, List, [], ◌∷◌, ◌++◌, length, get_or, cond, refl, sym, ap, ◌∙◌, subst, arith}
use Rattle.std.specs.Prelude.{◌==◌, false}
use Rattle.std.proofs.lemmas.List.{length-append, get_or_append_left}
use Rattle.std.specs.List.{refill}
use Rattle.context_tree.specs.Rings.{after_at, before_at, head_or, is_in, walk, IsRing}
use Rattle.context_tree.specs.RingFields.{ring_of, AreFields}
use Rattle.context_tree.specs.declared.ring.Near.{Near}
use Rattle.context_tree.specs.declared.ring.Ring.TheInside.{Inside}
use Rattle.context_tree.proofs.Rings.{walk-ring, ring-put, ring-cut, ring-same}
use Rattle.context_tree.proofs.Slots.{refill-whole}

abbrev pub nowhere : Near
nowhere = record { after = 0; before = 0 }

-- the fields of a ring whose neighbours were written over
module _ (x : Inside) (d ws : List Near) (same : d ≡ x.near.items) (long : length ws ≡ length d) (slots : List ℕ)
    (ring : IsRing (length d) (after_at ws) (before_at ws) slots) where
  abbrev near : List Near
  near = x.near.items

  whole : refill (length near) near ws ≡ ws
  whole = refill-whole (length near) near ws refl (long ∙ ap length same)

  now : IsRing (length ws) (after_at ws) (before_at ws) slots
  now = subst (λ (n : ℕ). IsRing n (after_at ws) (before_at ws) slots) (sym long) ring

  walked : walk (length ws) (after_at ws) 0 ≡ slots
  walked = walk-ring (length ws) (after_at ws) (before_at ws) slots now

  pub slots-written : (ring_of (record { near = record { items = refill (length near) near ws; capacity = x.near.capacity } })).slots
      ≡ slots
  slots-written = ap (λ (l : List Near). walk (length l) (after_at l) 0) whole ∙ walked

  pub fields-written : AreFields (record { near = record { items = refill (length near) near ws; capacity = x.near.capacity } })
  fields-written = subst (λ (l : List Near). IsRing (length l) (after_at l) (before_at l) (walk (length l) (after_at l) 0)) (sym whole)
      (subst (IsRing (length ws) (after_at ws) (before_at ws)) (sym walked) now)

-- a slot is put behind another
module _ (x : Inside) (are : AreFields x) (d ws : List Near) (same : d ≡ x.near.items) (long : length ws ≡ length d) where
  abbrev pub was : List ℕ
  was = (ring_of x).slots

  ring : IsRing (length d) (after_at d) (before_at d) was
  ring = subst (λ (l : List Near). IsRing (length l) (after_at l) (before_at l) was) (sym same) are

  pub ring-inserted : (slot new : ℕ) → is_in new was ≡ false → new < length x.near.items → ((k : ℕ) → after_at ws k
      ≡ cond (k == slot) new (cond (k == new) (after_at d slot) (after_at d k))) → ((k : ℕ) → before_at ws k
      ≡ cond (k == new) slot (cond (k == after_at d slot) new (before_at d k)))
      → (front rest : List ℕ) → was ≡ front ++ slot ∷ rest → IsRing (length d) (after_at ws) (before_at ws) (front ++ slot ∷ new ∷ rest)
  ring-inserted slot new fresh low after before front rest is =
      ring-put (length d) (after_at d) (before_at d) front slot rest (subst (IsRing (length d) (after_at d) (before_at d)) is ring) new
      (subst (λ (l : List Near). new < length l) (sym same) low) (ap (is_in new) (sym is) ∙ fresh) (after_at ws) after (before_at ws) before

  pub ring-skipped : (slot next : ℕ) → ((k : ℕ) → after_at ws k ≡ cond (k == slot) next (after_at d k)) → ((k : ℕ) → before_at ws k
      ≡ cond (k == next) slot (before_at d k))
      → (front between rest : List ℕ) → was ≡ front ++ slot ∷ (between ++ rest) → next ≡ head_or rest 0
      → IsRing (length d) (after_at ws) (before_at ws) (front ++ slot ∷ rest)
  ring-skipped slot next after before front between rest is ends =
      ring-cut (length d) (after_at d) (before_at d) front slot between rest
      (subst (IsRing (length d) (after_at d) (before_at d)) is ring) (after_at ws)
      (λ k. after k ∙ ap (λ (j : ℕ). cond (k == slot) j (after_at d k)) ends) (before_at ws)
      (λ k. before k ∙ ap (λ (j : ℕ). cond (k == j) slot (before_at d k)) ends)

-- there is room for one slot more
module _ (x : Inside) (are : AreFields x) (items : List Near) (is : items ≡ x.near.items ++ nowhere ∷ []) where
  abbrev slots-before : List ℕ
  slots-before = (ring_of x).slots

  more : length items ≡ length x.near.items + 1
  more = ap length is ∙ length-append x.near.items (nowhere ∷ [])

  pushed-at : (field : Near → ℕ) (k : ℕ) → k < length x.near.items → field (get_or items k nowhere) ≡ field (get_or x.near.items k nowhere)
  pushed-at field k low = ap (λ (l : List Near). field (get_or l k nowhere)) is
      ∙ ap field (get_or_append_left x.near.items (nowhere ∷ []) nowhere k low)

  ring-roomy : IsRing (length items) (after_at items) (before_at items) slots-before
  ring-roomy = ring-same (length x.near.items) (length items) (after_at x.near.items) (before_at x.near.items) (after_at items)
      (before_at items) slots-before are (omega (arith, more)) (pushed-at (λ n. n.after)) (pushed-at (λ n. n.before))

  pub slots-roomy : walk (length items) (after_at items) 0 ≡ slots-before
  slots-roomy = walk-ring (length items) (after_at items) (before_at items) slots-before ring-roomy

  pub fields-roomy : IsRing (length items) (after_at items) (before_at items) (walk (length items) (after_at items) 0)
  fields-roomy = subst (IsRing (length items) (after_at items) (before_at items)) (sym slots-roomy) ring-roomy
