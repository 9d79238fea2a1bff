-- Which slots are below another in a forest.
use Rattle.std.proofs.Common.{◌≡◌, ◌≢◌, ℕ, zero, suc, ◌<◌, ◌≤◌, inl, inr, Bool, true, false, List, Option, Some, None, length, get_or, cond}
use Rattle.std.proofs.Common.{refl, sym, ap, ◌∙◌, subst, arith}
use Rattle.std.specs.Prelude.{◌==◌, ◌||◌, ◌&&◌, not, is_some}
use Rattle.std.proofs.lemmas.Bool.{cases_Bool, cases_eq, cond-true, cond-false, eq-eqb, ne_eqb, false≢true}
use Rattle.std.proofs.lemmas.List.{get_or_past}
use Rattle.std.proofs.lemmas.Option.{same_Some}
use Rattle.std.proofs.Math.Bool.{and-true}
use Rattle.context_tree.specs.SlotLaws.{tests-agree, parent-is}
use Rattle.context_tree.specs.Links.{parent_of, stamp_of, is_true_of, leads_to, is_below, is_under, IsMadeBelow, IsForest}
use Rattle.context_tree.specs.declared.links.Link.{Link}

module _ (ls : List (Option Link)) (forest : IsForest ls) where
  abbrev link_at : ℕ → Option Link
  link_at slot = get_or ls slot None

  abbrev pub stamp_at : ℕ → ℕ
  stamp_at slot = stamp_of (get_or ls slot None)

  -- looking at more parents changes nothing
  no-more : (p : Option ℕ) (f : ℕ → Bool) → ((x : ℕ) → p ≡ Some x → Unit {0} → x < 0) → is_true_of p f ≡ false
  no-more None f low = refl
  no-more (Some x) f low = absurd (omega (arith, low x refl tt))

  or-none : (b c : Bool) → c ≡ false → (b || c) ≡ b
  or-none true c e = refl
  or-none false c e = e

  enough : (steps other above slot : ℕ) → stamp_at slot ≤ steps → stamp_at slot ≤ other → leads_to steps ls above slot
      ≡ leads_to other ls above slot
  unfolding leads_to
  enough zero zero above slot low low2 = refl
  enough zero (suc other) above slot low low2 =
      sym (or-none (slot == above) (is_true_of (parent_of (link_at slot)) (leads_to other ls above))
      (no-more (parent_of (link_at slot)) (leads_to other ls above)
      (λ p e _. omega (arith, (parent-is ls forest slot (link_at slot) refl p e).0, low))))
  enough (suc steps) zero above slot low low2 =
      or-none (slot == above) (is_true_of (parent_of (link_at slot)) (leads_to steps ls above))
      (no-more (parent_of (link_at slot)) (leads_to steps ls above)
      (λ p e _. omega (arith, (parent-is ls forest slot (link_at slot) refl p e).0, low2)))
  enough (suc steps) (suc other) above slot low low2 =
      ap (λ (b : Bool). (slot == above) || b)
      (tests-agree (parent_of (link_at slot)) (leads_to steps ls above) (leads_to other ls above)
      (λ p e. let less = (parent-is ls forest slot (link_at slot) refl p e).0 in enough steps other above p (omega (arith, less, low))
      (omega (arith, less, low2))))

  unfolded : (above slot : ℕ) → leads_to (suc (stamp_at slot)) ls above slot
      ≡ ((slot == above) || is_true_of (parent_of (get_or ls slot None)) (λ p. leads_to (stamp_at p) ls above p))
  unfolding leads_to
  unfolded above slot =
      ap (λ (b : Bool). (slot == above) || b)
      (tests-agree (parent_of (link_at slot)) (leads_to (stamp_at slot) ls above) (λ p. leads_to (stamp_at p) ls above p)
      (λ p e. let less = (parent-is ls forest slot (link_at slot) refl p e).0 in enough (stamp_at slot) (stamp_at p) above p
      (omega (arith, less)) (omega arith)))

  -- a slot is below another just where it is the same, or its parent is below that
  pub below-is : (above slot : ℕ) → is_below ls above slot
      ≡ ((slot == above) || is_true_of (parent_of (get_or ls slot None)) (is_below ls above))
  unfolding is_below
  below-is above slot = enough (stamp_at slot) (suc (stamp_at slot)) above slot (omega arith) (omega arith) ∙ unfolded above slot

  pub below-self : (slot : ℕ) → is_below ls slot slot ≡ true
  below-self slot = below-is slot slot ∙ ap (λ (b : Bool). b || is_true_of (parent_of (get_or ls slot None)) (is_below ls slot))
      (eq-eqb slot slot refl)

  pub below-other : (above slot : ℕ) → slot ≢ above → is_below ls above slot
      ≡ is_true_of (parent_of (get_or ls slot None)) (is_below ls above)
  below-other above slot ne = below-is above slot ∙ ap (λ (b : Bool). b || is_true_of (parent_of (get_or ls slot None)) (is_below ls above))
      (ne_eqb slot above ne)

  -- no other that was made as early is below it
  not-below-by : (bound above slot : ℕ) → stamp_at slot ≤ bound → stamp_at slot ≤ stamp_at above → slot ≢ above → is_below ls above slot
      ≡ false
  not-below-by zero above slot low less ne =
      below-other above slot ne
      ∙ no-more (parent_of (link_at slot)) (is_below ls above)
      (λ p e _. omega (arith, (parent-is ls forest slot (link_at slot) refl p e).0, low))
  not-below-by (suc bound) above slot low less ne =
      below-other above slot ne
      ∙ tests-agree (parent_of (link_at slot)) (is_below ls above) (λ p. false)
      (λ p e.
      let under = (parent-is ls forest slot (link_at slot) refl p e).0 in
      not-below-by bound above p (omega (arith, under, low)) (omega (arith, under, less)) (λ same. let one : stamp_at p
      ≡ stamp_at above = ap stamp_at same in omega (arith, one, under, less)))
      ∙ nothing (parent_of (link_at slot))
    where
      nothing : (p : Option ℕ) → is_true_of p (λ q. false) ≡ false
      nothing None = refl
      nothing (Some q) = refl

  pub not-below : (above slot : ℕ) → stamp_at slot ≤ stamp_at above → slot ≢ above → is_below ls above slot ≡ false
  not-below above slot less ne = not-below-by (stamp_at slot) above slot (omega arith) less ne

  -- nor is the root
  pub root-not-below : (above : ℕ) → 0 < above → is_below ls above 0 ≡ false
  root-not-below above some =
      below-other above 0 (λ e. omega (arith, e, some))
      ∙ ap (λ (p : Option ℕ). is_true_of p (is_below ls above)) forest.top

  pub under-other : (above slot : ℕ) → slot ≢ above → is_under ls above slot ≡ is_below ls above slot
  under-other above slot ne = ap (λ (b : Bool). is_below ls above slot && not b) (ne_eqb slot above ne) ∙ and-true (is_below ls above slot)

  pub not-under-itself : (above slot : ℕ) → slot ≡ above → is_under ls above slot ≡ false
  not-under-itself above slot same = ap (λ (b : Bool). is_below ls above slot && not b) (eq-eqb slot above same)
      ∙ and-false (is_below ls above slot)
    where
      and-false : (b : Bool) → (b && false) ≡ false
      and-false true = refl
      and-false false = refl

  -- nor what is in no slot
  pub under-past : (above slot : ℕ) → length ls ≤ slot → is_under ls above slot ≡ false
  under-past above slot past = elim (cases_eq slot above) [
    | inl same ↦ not-under-itself above slot same
    | inr ne ↦
        under-other above slot ne ∙ below-other above slot ne
        ∙ ap (λ (l : Option Link). is_true_of (parent_of l) (is_below ls above)) (get_or_past ls slot None past)
  ]

  pub root-not-under : (above : ℕ) → is_under ls above 0 ≡ false
  root-not-under above = elim (cases_eq 0 above) [
    | inl same ↦ not-under-itself above 0 same
    | inr ne ↦ under-other above 0 ne ∙ root-not-below above (omega (arith, ne))
  ]

  -- what is cleared with all that was made below it leaves a forest
  module _ (gone : ℕ → Bool) (root : gone 0 ≡ false) (closed : (slot p : ℕ) → parent_of (get_or ls slot None) ≡ Some p → gone p ≡ true
      → gone slot ≡ true)
      (now : List (Option Link)) (is : (k : ℕ) → get_or now k None ≡ cond (gone k) None (get_or ls k None)) where
    kept-link : (slot : ℕ) (link : Link) → get_or now slot None ≡ Some link → (gone slot ≡ false) × (get_or ls slot None ≡ Some link)
    kept-link slot link e = elim (cases_Bool (gone slot)) [
      | inl goes ↦ absurd (none≢some (sym (is slot ∙ cond-true (gone slot) None (get_or ls slot None) goes) ∙ e))
      | inr stays ↦ (stays, sym (is slot ∙ cond-false (gone slot) None (get_or ls slot None) stays) ∙ e)
    ]
      where
        none≢some : None ≡ Some link → ⊥
        none≢some e = false≢true (ap is_some e)

    stays-there : (slot : ℕ) → gone slot ≡ false → get_or now slot None ≡ get_or ls slot None
    stays-there slot stays = is slot ∙ cond-false (gone slot) None (get_or ls slot None) stays

    made : (slot stamp : ℕ) (p : Option ℕ) → gone slot ≡ false → parent_of (get_or ls slot None) ≡ p → IsMadeBelow ls slot stamp p
        → IsMadeBelow now slot stamp p
    made slot stamp None stays up was = was
    made slot stamp (Some p) stays up was = elim (cases_Bool (gone p)) [
      | inl goes ↦ absurd (false≢true (sym stays ∙ closed slot p up goes))
      | inr here ↦ (
        let same = ap stamp_of (stays-there p here) in omega (arith, same, was.0),
        ap is_some (stays-there p here) ∙ was.1,
      )
    ]

    pub forest-cleared : IsForest now
    forest-cleared = record {
      root = ap is_some (stays-there 0 root) ∙ forest.root;
      top = ap parent_of (stays-there 0 root) ∙ forest.top;
      below = λ slot link e. let was = kept-link slot link e in made slot link.stamp link.parent was.0 (ap parent_of was.1)
          (forest.below slot link was.1);
    }

  pub below-closed : (above slot p : ℕ) → parent_of (get_or ls slot None) ≡ Some p → is_below ls above p ≡ true → is_below ls above slot
      ≡ true
  below-closed above slot p up below = elim (cases_eq slot above) [
    | inl same ↦ ap (λ (a : ℕ). is_below ls a slot) (sym same) ∙ below-self slot
    | inr ne ↦ below-other above slot ne ∙ ap (λ (q : Option ℕ). is_true_of q (is_below ls above)) up ∙ below
  ]

  pub under-closed : (above slot p : ℕ) → parent_of (get_or ls slot None) ≡ Some p → is_under ls above p ≡ true → is_under ls above slot
      ≡ true
  under-closed above slot p up under = elim (cases_eq p above) [
    | inl same ↦ absurd (false≢true (sym (not-under-itself above p same) ∙ under))
    | inr differ ↦
        let below : is_below ls above p ≡ true = sym (under-other above p differ) ∙ under in
        elim (cases_eq slot above) [
          | inl same ↦
              let less : stamp_at p < stamp_at above = subst (λ (k : ℕ). stamp_at p < stamp_at k) same
              (parent-is ls forest slot (get_or ls slot None) refl p up).0 in
              absurd (false≢true (sym (not-below above p (omega (arith, less)) differ) ∙ below))
          | inr ne ↦ under-other above slot ne ∙ below-closed above slot p up below
        ]
  ]

  -- a link is put into a free slot
  module _ (slot : ℕ) (link : Link) (free : get_or ls slot None ≡ None) (made : IsMadeBelow ls slot link.stamp link.parent)
      (now : List (Option Link))
      (here : get_or now slot None ≡ Some link) (other : (k : ℕ) → k ≢ slot → get_or now k None ≡ get_or ls k None) where
    not-free : (k : ℕ) → is_some (get_or ls k None) ≡ true → k ≢ slot
    not-free k there same = false≢true (sym (ap (λ (j : ℕ). is_some (get_or ls j None)) same ∙ ap is_some free) ∙ there)

    still : (k : ℕ) → is_some (get_or ls k None) ≡ true → get_or now k None ≡ get_or ls k None
    still k there = other k (not-free k there)

    made-still : (k stamp : ℕ) (p : Option ℕ) → IsMadeBelow ls k stamp p → IsMadeBelow now k stamp p
    made-still k stamp None was = was
    made-still k stamp (Some p) was = (
      let same = ap stamp_of (still p was.1) in omega (arith, same, was.0),
      ap is_some (still p was.1) ∙ was.1,
    )

    pub forest-added : IsForest now
    forest-added = record {
      root = ap is_some (still 0 forest.root) ∙ forest.root;
      top = ap parent_of (still 0 forest.root) ∙ forest.top;
      below = λ k l e. elim (cases_eq k slot) [
        | inl same ↦
            let it : link ≡ l = same_Some link l (sym here ∙ ap (λ (j : ℕ). get_or now j None) (sym same) ∙ e) in
            subst (λ (j : ℕ). IsMadeBelow now j l.stamp l.parent) (sym same) (subst (λ (m : Link). IsMadeBelow now slot m.stamp m.parent) it
            (made-still slot link.stamp link.parent made))
        | inr ne ↦ made-still k l.stamp l.parent (forest.below k l (sym (other k ne) ∙ e))
      ];
    }
