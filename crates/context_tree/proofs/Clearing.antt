-- Lists by slots, some of which are cleared.
use Rattle.std.proofs.Common.{◌≡◌, ℕ, zero, suc, ◌+◌, ◌<◌, inl, inr, Bool, true, false, List, [], ◌∷◌, Option, None, length, get_or}
use Rattle.std.proofs.Common.{cond, set, refl, sym, ap, ◌∙◌, arith, subst}
use Rattle.std.specs.Prelude.{◌==◌, is_some}
use Rattle.std.proofs.lemmas.Bool.{cases_eq, cases_lt, cond-true, cond-false, eq-eqb, ne_eqb, false≢true}
use Rattle.std.proofs.lemmas.List.{get_or-set_same, get_or-set_other, length-set, get_or_past, ext_get_or}
use Rattle.context_tree.proofs.Words.{is_below, is_under, cleared, IsForest, AreFree, Link}
use Rattle.context_tree.specs.LinkFields.{AreFields}
use Rattle.context_tree.specs.declared.links.Links.TheInside.{Inside}
use Rattle.chunk_layout.specs.declared.marks.BlockMarks.{BlockMarks}
use Rattle.std.specs.List.{refill}
use Rattle.context_tree.proofs.Slots.{refill-whole}
use Rattle.context_tree.specs.Lemmas.Forest.{root-not-under, root-not-below, below-self, under-other, under-closed}
use Rattle.context_tree.specs.Lemmas.Forest.{below-closed, forest-cleared}

pub cond-same : {X : Type 0} (b : Bool) (x : X) → cond b x x ≡ x
cond-same true x = refl
cond-same false x = refl

module _ {X : Type 0} (gone : ℕ → Bool) (x : X) where
  pub length-cleared : (place : ℕ) (ys : List X) → length (cleared gone x place ys) ≡ length ys
  length-cleared place [] = refl
  length-cleared place (y ∷ ys) = ap suc (length-cleared (place + 1) ys)

  get_or-cleared_from : (place : ℕ) (ys : List X) (i : ℕ) → get_or (cleared gone x place ys) i x ≡ cond (gone (place + i)) x (get_or ys i x)
  get_or-cleared_from place [] i = sym (cond-same (gone (place + i)) x)
  get_or-cleared_from place (y ∷ ys) zero =
      let here : place ≡ place + 0 = omega arith in
      ap (λ (k : ℕ). cond (gone k) x y) here
  get_or-cleared_from place (y ∷ ys) (suc i) =
      let next : place + 1 + i ≡ place + suc i = omega arith in
      get_or-cleared_from (place + 1) ys i ∙ ap (λ (k : ℕ). cond (gone k) x (get_or ys i x)) next

  pub get_or-cleared : (ys : List X) (i : ℕ) → get_or (cleared gone x 0 ys) i x ≡ cond (gone i) x (get_or ys i x)
  get_or-cleared ys i = let same : 0 + i ≡ i = omega arith in get_or-cleared_from 0 ys i
      ∙ ap (λ (k : ℕ). cond (gone k) x (get_or ys i x)) same

  -- a list is the cleared one if it is so place by place
  pub is-cleared : (ys zs : List X) → length zs ≡ length ys → ((i : ℕ) → get_or zs i x ≡ cond (gone i) x (get_or ys i x)) → zs
      ≡ cleared gone x 0 ys
  is-cleared ys zs long at = ext_get_or x zs (cleared gone x 0 ys) (long ∙ sym (length-cleared 0 ys)) (λ i _. at i
      ∙ sym (get_or-cleared ys i))

-- a slot is emptied and marked
pub free-emptied : (ls : List (Option Link)) (marks after : List Bool) (slot : ℕ) → AreFree ls marks → slot < length ls → length after
    ≡ length marks
    → ((k : ℕ) → get_or after k false ≡ cond (k == slot) true (get_or marks k false)) → AreFree (set ls slot None) after
free-emptied ls marks after slot are low long marked = record {
  free = λ k is. elim (cases_eq k slot) [
    | inl same ↦ (
      omega (arith, same, low, length-set ls slot None),
      ap (λ (j : ℕ). get_or (set ls slot None) j None) same ∙ get_or-set_same ls slot None None low,
    )
    | inr ne ↦
        let was = are.free k (sym (marked k ∙ cond-false (k == slot) true (get_or marks k false) (ne_eqb k slot ne)) ∙ is) in (
          omega (arith, was.0, length-set ls slot None),
          get_or-set_other ls slot k None None ne ∙ was.1,
        )
  ];
  all = λ k less none. marked k ∙ elim (cases_eq k slot) [
    | inl same ↦ cond-true (k == slot) true (get_or marks k false) (eq-eqb k slot same)
    | inr ne ↦
        cond-false (k == slot) true (get_or marks k false) (ne_eqb k slot ne)
        ∙ are.all k (omega (arith, less, length-set ls slot None)) (sym (get_or-set_other ls slot k None None ne) ∙ none)
  ];
  long = λ k some less. omega (arith, long, are.long k some (omega (arith, less, length-set ls slot None)));
}

-- what is cleared of the descendants of a context
module _ (old : List (Option Link)) (forest : IsForest old) (above : ℕ) where
  -- where they are cleared, and then that one too
  pub cut-too : {X : Type 0} (x : X) (ys now : List X) → now ≡ cleared (is_under old above) x 0 ys → above < length ys → set now above x
      ≡ cleared (is_below old above) x 0 ys
  cut-too {X = X} x ys now is low =
      let long : length now ≡ length ys = ap length is ∙ length-cleared (is_under old above) x 0 ys in
      is-cleared (is_below old above) x ys (set now above x) (length-set now above x ∙ long) (λ i. elim (cases_eq i above) [
        | inl same ↦
            ap (λ (j : ℕ). get_or (set now above x) j x) same ∙ get_or-set_same now above x x (omega (arith, long, low))
            ∙ sym (cond-true (is_below old above i) x (get_or ys i x) (ap (λ (a : ℕ). is_below old a i) (sym same)
            ∙ below-self old forest i))
        | inr ne ↦
            get_or-set_other now above i x x ne ∙ ap (λ (ls : List X). get_or ls i x) is
            ∙ get_or-cleared (is_under old above) x ys i
            ∙ ap (λ (b : Bool). cond b x (get_or ys i x)) (under-other old forest above i ne)
      ])

  pub forest-pruned : IsForest (cleared (is_under old above) None 0 old)
  forest-pruned = forest-cleared old forest (is_under old above) (root-not-under old forest above) (under-closed old forest above)
      (cleared (is_under old above) None 0 old) (get_or-cleared (is_under old above) None old)

  pub forest-cut : 0 < above → IsForest (cleared (is_below old above) None 0 old)
  forest-cut some = forest-cleared old forest (is_below old above) (root-not-below old forest above some) (below-closed old forest above)
      (cleared (is_below old above) None 0 old) (get_or-cleared (is_below old above) None old)

-- a slot in which there is a context is one of the list
pub low-there : (ls : List (Option Link)) (slot : ℕ) → is_some (get_or ls slot None) ≡ true → slot < length ls
low-there ls slot there = elim (cases_lt slot (length ls)) [
  | inl low ↦ low
  | inr past ↦ absurd (false≢true (sym (ap is_some (get_or_past ls slot None past)) ∙ there))
]

-- the fields of `Links` when slots are cleared
module _ (x : Inside) (are : AreFields x) (gone : ℕ → Bool) (forest : IsForest (cleared gone None 0 x.links.items))
    (d ws : List (Option Link)) (same : d ≡ x.links.items)
    (is : ws ≡ cleared gone None 0 d) where
  abbrev ls : List (Option Link)
  ls = x.links.items

  ws-is : ws ≡ cleared gone None 0 ls
  ws-is = is ∙ ap (cleared gone None 0) same

  all-written : refill (length ls) ls ws ≡ ws
  all-written = refill-whole (length ls) ls ws refl (ap length ws-is ∙ length-cleared gone None 0 ls)

  pub items-cleared : refill (length ls) ls ws ≡ cleared gone None 0 ls
  items-cleared = all-written ∙ ws-is

  pub fields-cleared : (marks : BlockMarks) → AreFree ws marks
      → AreFields (record { links = record { items = refill (length ls) ls ws; capacity = x.links.capacity }; free = marks })
  fields-cleared marks free = record {
    forest = subst IsForest (sym items-cleared) forest;
    free = subst (λ (l : List (Option Link)). AreFree l marks) (sym all-written) free;
    few = omega (arith, are.few, ap length items-cleared, length-cleared gone None 0 ls);
  }
