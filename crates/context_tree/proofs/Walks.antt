-- A walk over what stands behind a context with later stamps, and lists by slots in which what is done is wiped.
use Rattle.std.proofs.Common.{◌≡◌, ◌≢◌, ℕ, suc, ◌<◌, ◌≤◌, inl, inr, Bool, true, false, List, [], ◌∷◌, ◌++◌, Option, None, length}
use Rattle.std.proofs.Common.{get_or, cond, set, drop, refl, sym, ap, ◌∙◌, subst, arith}
use Rattle.std.specs.Prelude.{◌==◌, is_some}
use Rattle.std.proofs.lemmas.Bool.{cases_Bool, cases_eq, cases_lt, cond-true, cond-false, eq-eqb, ne_eqb, false≢true}
use Rattle.std.proofs.lemmas.List.{get_or-set_same, get_or-set_other, length-set, get_or_past, append_assoc}
use Rattle.context_tree.specs.Links.{stamp_of}
use Rattle.context_tree.specs.Rings.{head_or, is_in, AreApart, IsBetween}
use Rattle.context_tree.specs.Preorders.{stamp_in, IsOrdered, Ends, Walk, IsPast}
use Rattle.context_tree.proofs.Words.{is_below, is_under, cleared, IsForest, Link}
use Rattle.context_tree.proofs.Clearing.{cond-same, is-cleared, low-there}
use Rattle.context_tree.proofs.Rings.{apart-parts, in-here, in-rest, in-right, parted, distance, distance-at, not-in-right}
use Rattle.context_tree.proofs.Preorders.{later-left, run-under, run-below, not-older, skips, pushed, ordered-emptied}

-- a list by slots with this at all that are done
module _ {X : Type 0} (d : X) where
  abbrev pub wiped : List ℕ → List X → List X
  wiped [] ys = ys
  wiped (x ∷ xs) ys = wiped xs (set ys x d)

  pub wiped-more : (xs : List ℕ) (x : ℕ) (ys : List X) → wiped (xs ++ x ∷ []) ys ≡ set (wiped xs ys) x d
  wiped-more [] x ys = refl
  wiped-more (w ∷ xs) x ys = wiped-more xs x (set ys w d)

  pub length-wiped : (xs : List ℕ) (ys : List X) → length (wiped xs ys) ≡ length ys
  length-wiped [] ys = refl
  length-wiped (x ∷ xs) ys = length-wiped xs (set ys x d) ∙ length-set ys x d

  set-here : (ys : List X) (x : ℕ) → get_or (set ys x d) x d ≡ d
  set-here ys x = elim (cases_lt x (length ys)) [
    | inl low ↦ get_or-set_same ys x d d low
    | inr past ↦ get_or_past (set ys x d) x d (omega (arith, past, length-set ys x d))
  ]

  pub wiped-at : (xs : List ℕ) (ys : List X) (k : ℕ) → get_or (wiped xs ys) k d ≡ cond (is_in k xs) d (get_or ys k d)
  wiped-at [] ys k = refl
  wiped-at (x ∷ xs) ys k = wiped-at xs (set ys x d) k ∙ elim (cases_eq k x) [
    | inl same ↦
        ap (cond (is_in k xs) d) (ap (λ (j : ℕ). get_or (set ys x d) j d) same ∙ set-here ys x) ∙ cond-same (is_in k xs) d
        ∙ sym (cond-true (is_in k (x ∷ xs)) d (get_or ys k d) (in-here k x xs same))
    | inr ne ↦
        ap (cond (is_in k xs) d) (get_or-set_other ys x k d d ne)
        ∙ ap (λ (b : Bool). cond b d (get_or ys k d)) (sym (in-rest k x xs ne))
  ]

  pub wiped-other : (xs : List ℕ) (ys : List X) (k : ℕ) → is_in k xs ≡ false → get_or (wiped xs ys) k d ≡ get_or ys k d
  wiped-other xs ys k not = wiped-at xs ys k ∙ cond-false (is_in k xs) d (get_or ys k d) not

  pub wiped-cleared : (gone : ℕ → Bool) (xs : List ℕ) (ys : List X) → ((k : ℕ) → is_in k xs ≡ gone k) → wiped xs ys ≡ cleared gone d 0 ys
  wiped-cleared gone xs ys told = is-cleared gone d ys (wiped xs ys) (length-wiped xs ys)
      (λ k. wiped-at xs ys k ∙ ap (λ (b : Bool). cond b d (get_or ys k d)) (told k))

-- how far it is from a slot to the end of the ring
abbrev pub away : ℕ → List ℕ → ℕ
away at slots = cond (at == 0) 0 (distance at slots)

away-at : (front : List ℕ) (at : ℕ) (rest : List ℕ) → at ≢ 0 → AreApart (front ++ at ∷ rest) → away at (front ++ at ∷ rest)
    ≡ suc (length rest)
away-at front at rest some apart =
    cond-false (at == 0) 0 (distance at (front ++ at ∷ rest)) (ne_eqb at 0 some)
    ∙ distance-at front at rest apart

-- the walk begins
module _ (ls : List (Option Link)) (slots : List ℕ) (ordered : IsOrdered ls slots) (above : ℕ) where
  pub walk-begun : is_some (get_or ls above None) ≡ true → (at : ℕ)
      → ((front rest : List ℕ) → slots ≡ front ++ above ∷ rest → at ≡ head_or rest 0)
      → (w : Walk ls slots above at) × (w.done ≡ [])
  walk-begun there at next =
      let parts = parted above slots (ordered.live above ∙ there) in (
        record {
          front = parts.0;
          done = [];
          rest = parts.1;
          split = parts.2;
          here = next parts.0 parts.1 parts.2;
          later = tt;
        },
        refl,
      )

  -- it is at a slot of which nothing is done yet
  module _ (at : ℕ) (w : Walk ls slots above at) (some : at ≢ 0) where
    abbrev pub behind : List ℕ
    behind = drop 1 w.rest

    pub rest-is : w.rest ≡ at ∷ behind
    rest-is = by w.rest w.here
      where
        by : (r : List ℕ) → at ≡ head_or r 0 → r ≡ at ∷ drop 1 r
        by [] e = absurd (some e)
        by (x ∷ xs) e = ap (λ (j : ℕ). j ∷ xs) (sym e)

    pub split-here : slots ≡ (w.front ++ above ∷ w.done) ++ at ∷ behind
    split-here =
        w.split ∙ ap (λ (r : List ℕ). w.front ++ above ∷ (w.done ++ r)) rest-is
        ∙ sym (append_assoc w.front (above ∷ w.done) (at ∷ behind))

    apart-here : AreApart ((w.front ++ above ∷ w.done) ++ at ∷ behind)
    apart-here = subst AreApart split-here ordered.apart

    pub at-in : is_in at slots ≡ true
    at-in = ap (is_in at) split-here ∙ in-right at (w.front ++ above ∷ w.done) (at ∷ behind) (in-here at at behind refl)

    pub at-there : is_some (get_or ls at None) ≡ true
    at-there = sym (ordered.live at) ∙ at-in

    pub at-low : at < length ls
    at-low = low-there ls at at-there

    pub at-fresh : is_in at (above ∷ w.done) ≡ false
    at-fresh = elim (cases_Bool (is_in at (above ∷ w.done))) [
      | inr not ↦ not
      | inl is ↦ absurd (false≢true (sym ((apart-parts (w.front ++ above ∷ w.done) (at ∷ behind) apart-here).none at
          (in-right at w.front (above ∷ w.done) is)) ∙ in-here at at behind refl))
    ]

    pub at-new : is_in at w.done ≡ false
    at-new = not-in-right at (above ∷ []) w.done at-fresh

    -- where what is done is wiped, it is as it was
    pub at-still : (now : List (Option Link)) → now ≡ wiped None w.done ls → stamp_in now at ≡ stamp_in ls at
    at-still now is = ap (λ (l : List (Option Link)). stamp_in l at) is ∙ ap stamp_of (wiped-other None w.done ls at at-new)

    -- one step further
    abbrev pub walk-more : stamp_in ls above < stamp_in ls at → (next : ℕ) → ((front rest : List ℕ) → slots ≡ front ++ at ∷ rest → next
        ≡ head_or rest 0) → Walk ls slots above next
    walk-more less next told = record {
      front = w.front;
      done = w.done ++ at ∷ [];
      rest = behind;
      split =
          w.split ∙ ap (λ (r : List ℕ). w.front ++ above ∷ (w.done ++ r)) rest-is
          ∙ ap (λ (r : List ℕ). w.front ++ above ∷ r) (sym (append_assoc w.done (at ∷ []) behind));
      here = told (w.front ++ above ∷ w.done) behind split-here;
      later = later-left ls (stamp_in ls above) w.done (at ∷ []) w.later (less, tt);
    }

    pub nearer : (next : ℕ) → ((front rest : List ℕ) → slots ≡ front ++ at ∷ rest → next ≡ head_or rest 0) → away next slots
        < away at slots
    nearer next told = omega (arith, far, less)
      where
        far : away at slots ≡ suc (length behind)
        far = ap (away at) split-here ∙ away-at (w.front ++ above ∷ w.done) at behind some apart-here

        next-is : next ≡ head_or behind 0
        next-is = told (w.front ++ above ∷ w.done) behind split-here

        by : (r : List ℕ) → slots ≡ (w.front ++ above ∷ w.done) ++ at ∷ r → next ≡ head_or r 0 → away next slots ≤ length r
        by [] is e = let root : away next slots ≡ 0 = cond-true (next == 0) 0 (distance next slots) (eq-eqb next 0 e) in omega (arith, root)
        by (x ∷ xs) is e = elim (cases_eq next 0) [
          | inl same ↦
              let root : away next slots ≡ 0 = cond-true (next == 0) 0 (distance next slots) (eq-eqb next 0 same) in
              omega (arith, root)
          | inr ne ↦
              let whole : slots ≡ ((w.front ++ above ∷ w.done) ++ at ∷ []) ++ next ∷ xs =
              is ∙ ap (λ (j : ℕ). (w.front ++ above ∷ w.done) ++ at ∷ j ∷ xs) (sym e)
              ∙ sym (append_assoc (w.front ++ above ∷ w.done) (at ∷ []) (next ∷ xs)) in
              let rest : away next slots ≡ suc (length xs) = ap (away next) whole
              ∙ away-at ((w.front ++ above ∷ w.done) ++ at ∷ []) next xs ne (subst AreApart whole ordered.apart) in
              omega (arith, rest)
        ]

        less : away next slots ≤ length behind
        less = by behind split-here next-is

  -- it ends
  pub walk-past : (at : ℕ) (w : Walk ls slots above at)
      → ((front rest : List ℕ) (slot : ℕ) → slots ≡ front ++ slot ∷ rest → is_in 0 rest ≡ false)
      → (at ≢ 0 → stamp_in ls at ≤ stamp_in ls above) → Ends ls (stamp_in ls above) w.rest
  walk-past at w root past = by w.rest w.here (not-in-right 0 w.done w.rest (root w.front (w.done ++ w.rest) above w.split))
    where
      by : (r : List ℕ) → at ≡ head_or r 0 → is_in 0 r ≡ false → Ends ls (stamp_in ls above) r
      by [] e not = tt
      by (x ∷ xs) e not = subst (λ (j : ℕ). stamp_in ls j ≤ stamp_in ls above) e (past (λ same. false≢true
          (sym not ∙ in-here 0 x xs (sym same ∙ e))))

  -- what was done are the descendants
  pub done-under : IsForest ls → (at : ℕ) (w : Walk ls slots above at) → Ends ls (stamp_in ls above) w.rest → (k : ℕ) → is_in k w.done
      ≡ is_under ls above k
  done-under forest at w ends = run-under ls forest above slots w.front w.done w.rest ordered w.split w.later ends

  pub done-below : IsForest ls → (at : ℕ) (w : Walk ls slots above at) → Ends ls (stamp_in ls above) w.rest → (k : ℕ)
      → is_in k (above ∷ w.done) ≡ is_below ls above k
  done-below forest at w ends = run-below ls forest above slots w.front w.done w.rest ordered w.split w.later ends

  -- the slots in preorder when the descendants are gone
  pub ordered-pruned : IsForest ls → (at : ℕ) (past : IsPast ls slots above at)
      → IsOrdered (cleared (is_under ls above) None 0 ls) (past.walk.front ++ above ∷ past.walk.rest)
  ordered-pruned forest at past =
      let w = past.walk in
      subst (IsOrdered (cleared (is_under ls above) None 0 ls)) (append_assoc w.front (above ∷ []) w.rest)
      (ordered-emptied ls (stamp_in ls above) slots (w.front ++ above ∷ []) w.done w.rest ordered
      (w.split ∙ sym (append_assoc w.front (above ∷ []) (w.done ++ w.rest))) past.ends
      (λ t less. skips ls (stamp_in ls above) t w.done (pushed (w.front ++ above ∷ []) []) w.later less)
      (is_under ls above) (done-under forest at w past.ends))

  -- and when it is gone with them
  pub ordered-cut : IsForest ls → (at : ℕ) (past : IsPast ls slots above at)
      → IsOrdered (cleared (is_below ls above) None 0 ls) (past.walk.front ++ past.walk.rest)
  ordered-cut forest at past =
      let w = past.walk in
      ordered-emptied ls (stamp_in ls above) slots w.front (above ∷ w.done) w.rest ordered w.split past.ends
      (λ t less. skips ls (stamp_in ls above) t w.done (above ∷ pushed w.front []) w.later less
      ∙ not-older ls t above (pushed w.front []) less)
      (is_below ls above) (done-below forest at w past.ends)

-- what is between a slot and the end of its walk
pub between-them : {ls : List (Option Link)} {slots : List ℕ} {above at : ℕ} → IsPast ls slots above at → IsBetween slots above at
between-them past = record {
  front = past.walk.front;
  between = past.walk.done;
  rest = past.walk.rest;
  split = past.walk.split;
  ends = past.walk.here;
}

-- the slot before one that is not the root's
last-of : (x : ℕ) (xs : List ℕ) → (front : List ℕ) × (last : ℕ) × (x ∷ xs ≡ front ++ last ∷ [])
last-of x [] = ([], x, refl)
last-of x (y ∷ ys) = let rest = last-of y ys in (x ∷ rest.0, rest.1, ap (λ (l : List ℕ). x ∷ l) rest.2)

pub record IsBehind (slots : List ℕ) (above : ℕ) (front done rest : List ℕ) : Type 0 where
  pub outer : List ℕ
  pub first : ℕ
  pub whole : front ≡ outer ++ first ∷ []
  pub split : slots ≡ outer ++ first ∷ above ∷ (done ++ rest)

pub behind-one : (slots : List ℕ) (above : ℕ) (front done rest : List ℕ) → head_or slots 1 ≡ 0 → 0 < above
    → slots ≡ front ++ above ∷ (done ++ rest)
    → IsBehind slots above front done rest
behind-one slots above [] done rest root low is = absurd (omega (arith, low, sym (ap (λ (l : List ℕ). head_or l 1) is) ∙ root))
behind-one slots above (x ∷ xs) done rest root low is =
    let last = last-of x xs in
    record {
      outer = last.0;
      first = last.1;
      whole = last.2;
      split =
          is ∙ ap (λ (l : List ℕ). l ++ above ∷ (done ++ rest)) last.2
          ∙ append_assoc last.0 (last.1 ∷ []) (above ∷ (done ++ rest));
    }

-- a context and its descendants, between the slot before it and the end of its walk
module _ {ls : List (Option Link)} {slots : List ℕ} {above at : ℕ} (root : head_or slots 1 ≡ 0) (low : 0 < above)
    (past : IsPast ls slots above at) where
  pub behind-of : IsBehind slots above past.walk.front past.walk.done past.walk.rest
  behind-of = behind-one slots above past.walk.front past.walk.done past.walk.rest root low past.walk.split

  module _ (first : ℕ) (is : (front rest : List ℕ) (before : ℕ) → slots ≡ front ++ before ∷ above ∷ rest → first ≡ before) where
    first-is : first ≡ behind-of.first
    first-is = is behind-of.outer (past.walk.done ++ past.walk.rest) behind-of.first behind-of.split

    pub split-from : slots ≡ behind-of.outer ++ first ∷ ((above ∷ past.walk.done) ++ past.walk.rest)
    split-from = behind-of.split
        ∙ ap (λ (k : ℕ). behind-of.outer ++ k ∷ ((above ∷ past.walk.done) ++ past.walk.rest)) (sym first-is)

    pub between-all : IsBetween slots first at
    between-all = record {
      front = behind-of.outer;
      between = above ∷ past.walk.done;
      rest = past.walk.rest;
      split = split-from;
      ends = past.walk.here;
    }

    pub ordered-behind : IsOrdered ls slots → IsForest ls
        → IsOrdered (cleared (is_below ls above) None 0 ls) (behind-of.outer ++ first ∷ past.walk.rest)
    ordered-behind ordered forest = subst (IsOrdered (cleared (is_below ls above) None 0 ls))
        (ap (λ (l : List ℕ). l ++ past.walk.rest) behind-of.whole
        ∙ append_assoc behind-of.outer (behind-of.first ∷ []) past.walk.rest
        ∙ ap (λ (k : ℕ). behind-of.outer ++ k ∷ past.walk.rest) (sym first-is))
        (ordered-cut ls slots ordered above forest at past)
