-- Contexts in preorder: what stands behind a context with later stamps are its descendants.
use Rattle.std.proofs.Common.{◌≡◌, ◌≢◌, ℕ, ◌<◌, ◌≤◌, inl, inr, Bool, true, false, List, [], ◌∷◌, ◌++◌, Option, Some, None}
use Rattle.std.proofs.Common.{length, get_or, cond, refl, sym, ap, ◌∙◌, subst, arith}
use Rattle.std.specs.Prelude.{◌==◌, ◌||◌, is_some, nat_lt}
use Rattle.std.proofs.lemmas.Bool.{cases_Bool, cases_eq, cases_lt, cond-true, cond-false, lt-ltb, le-ltb, false≢true}
use Rattle.std.proofs.lemmas.Option.{same_Some}
use Rattle.context_tree.specs.Links.{parent_of, stamp_of, is_true_of}
use Rattle.context_tree.specs.Rings.{is_in, AreApart}
use Rattle.context_tree.specs.Preorders.{stamp_in, nearest, IsPreorder, IsOrdered, AreLater, Ends}
use Rattle.context_tree.specs.SlotLaws.{placed-here, placed-other}
use Rattle.context_tree.specs.Lemmas.Forest.{below-self, below-other, under-other, not-under-itself}
use Rattle.context_tree.proofs.Words.{is_below, is_under, cleared, placed, IsForest, Link}
use Rattle.context_tree.proofs.Clearing.{get_or-cleared}
use Rattle.context_tree.proofs.Rings.{Apart, apart-parts, apart-whole, apart-without}
use Rattle.context_tree.proofs.Rings.{in-here, in-rest, in-later, in-left, in-right, in-either}
use Rattle.context_tree.proofs.Rings.{not-in-left, not-in-right, differ}

-- slots that were seen after others, the last of them first
abbrev pub pushed : List ℕ → List ℕ → List ℕ
pushed [] seen = seen
pushed (x ∷ xs) seen = pushed xs (x ∷ seen)

module _ (ls : List (Option Link)) where
  pub older : (t x : ℕ) (seen : List ℕ) → stamp_in ls x < t → nearest ls t (x ∷ seen) ≡ Some x
  older t x seen less = cond-true (nat_lt (stamp_in ls x) t) (Some x) (nearest ls t seen) (lt-ltb (stamp_in ls x) t less)

  pub not-older : (t x : ℕ) (seen : List ℕ) → t ≤ stamp_in ls x → nearest ls t (x ∷ seen) ≡ nearest ls t seen
  not-older t x seen less = cond-false (nat_lt (stamp_in ls x) t) (Some x) (nearest ls t seen) (le-ltb (stamp_in ls x) t less)

  -- younger ones are not seen
  pub skips : (bound t : ℕ) (xs seen : List ℕ) → AreLater ls bound xs → t ≤ bound → nearest ls t (pushed xs seen) ≡ nearest ls t seen
  skips bound t [] seen later less = refl
  skips bound t (x ∷ xs) seen later less =
      let here = later.0 in
      skips bound t xs (x ∷ seen) later.1 less ∙ not-older t x seen (omega (arith, here, less))

  pub preorder-left : (xs ys seen : List ℕ) → IsPreorder ls seen (xs ++ ys) → IsPreorder ls seen xs
  preorder-left [] ys seen pre = tt
  preorder-left (x ∷ xs) ys seen pre = (pre.0, preorder-left xs ys (x ∷ seen) pre.1)

  pub preorder-right : (xs ys seen : List ℕ) → IsPreorder ls seen (xs ++ ys) → IsPreorder ls (pushed xs seen) ys
  preorder-right [] ys seen pre = pre
  preorder-right (x ∷ xs) ys seen pre = preorder-right xs ys (x ∷ seen) pre.1

  pub preorder-whole : (xs ys seen : List ℕ) → IsPreorder ls seen xs → IsPreorder ls (pushed xs seen) ys → IsPreorder ls seen (xs ++ ys)
  preorder-whole [] ys seen left right = right
  preorder-whole (x ∷ xs) ys seen left right = (left.0, preorder-whole xs ys (x ∷ seen) left.1 right)

  pub later-left : (bound : ℕ) (xs ys : List ℕ) → AreLater ls bound xs → AreLater ls bound ys → AreLater ls bound (xs ++ ys)
  later-left bound [] ys left right = right
  later-left bound (x ∷ xs) ys left right = (left.0, later-left bound xs ys left.1 right)

-- the links change, but not those of slots that stand in preorder; nor does what is seen by their stamps
pub seen-kept : (ls now : List (Option Link)) (t : ℕ) (xs seen : List ℕ)
    → ((k : ℕ) → is_in k xs ≡ true → get_or now k None ≡ get_or ls k None) → nearest now t seen ≡ nearest ls t seen
    → nearest now t (pushed xs seen) ≡ nearest ls t (pushed xs seen)
seen-kept ls now t [] seen same agree = agree
seen-kept ls now t (x ∷ xs) seen same agree =
    let here : stamp_in now x ≡ stamp_in ls x = ap stamp_of (same x (in-here x x xs refl)) in
    seen-kept ls now t xs (x ∷ seen) (λ k is. same k (in-later k x xs is)) (λ i. cond (nat_lt (here i) t) (Some x) (agree i))

module _ (ls now : List (Option Link)) (Seen : ℕ → Type 0) where
  pub preorder-kept : (ys seen seen2 : List ℕ) → ((k : ℕ) → is_in k ys ≡ true → get_or now k None ≡ get_or ls k None)
      → ((k : ℕ) → is_in k ys ≡ true → Seen (stamp_in ls k))
      → ((t : ℕ) → Seen t → nearest now t seen2 ≡ nearest ls t seen) → IsPreorder ls seen ys → IsPreorder now seen2 ys
  preorder-kept [] seen seen2 same reach agree pre = tt
  preorder-kept (y ∷ ys) seen seen2 same reach agree pre =
      let here : get_or now y None ≡ get_or ls y None = same y (in-here y y ys refl) in
      let stamp : stamp_in now y ≡ stamp_in ls y = ap stamp_of here in (
        ap parent_of here ∙ pre.0 ∙ sym (agree (stamp_in ls y) (reach y (in-here y y ys refl)))
            ∙ ap (λ (t : ℕ). nearest now t seen2) (sym stamp),
        preorder-kept ys (y ∷ seen) (y ∷ seen2) (λ k is. same k (in-later k y ys is)) (λ k is. reach k (in-later k y ys is))
            (λ t ok. (λ i. cond (nat_lt (stamp i) t) (Some y) (agree t ok i))) pre.1,
      )

-- in a forest whose slots stand in preorder
module _ (ls : List (Option Link)) (forest : IsForest ls) (above : ℕ) where
  abbrev bound : ℕ
  bound = stamp_in ls above

  up : (k p : ℕ) → k ≢ above → parent_of (get_or ls k None) ≡ Some p → is_below ls above k ≡ is_below ls above p
  up k p ne e = below-other ls forest above k ne ∙ ap (λ (q : Option ℕ). is_true_of q (is_below ls above)) e

  -- what comes right behind it with later stamps is below it
  abbrev Covers : List ℕ → Type 0
  Covers seen = (t : ℕ) → bound < t → (p : ℕ) × (nearest ls t seen ≡ Some p) × (is_below ls above p ≡ true)

  covers-more : (x : ℕ) (seen : List ℕ) → Covers seen → is_below ls above x ≡ true → Covers (x ∷ seen)
  covers-more x seen covers below t later = elim (cases_lt (stamp_in ls x) t) [
    | inl less ↦ (x, older ls t x seen less, below)
    | inr more ↦ let rest = covers t later in (rest.0, not-older ls t x seen more ∙ rest.1, rest.2)
  ]

  runs : (xs seen : List ℕ) → Covers seen → AreLater ls bound xs → is_in above xs ≡ false → IsPreorder ls seen xs
      → (k : ℕ) → is_in k xs ≡ true → is_below ls above k ≡ true
  runs [] seen covers later not pre k is = absurd (false≢true is)
  runs (x ∷ xs) seen covers later not pre k is =
      let p = covers (stamp_in ls x) later.0 in
      let other : x ≢ above = differ x above (x ∷ xs) (in-here x x xs refl) not in
      let here : is_below ls above x ≡ true = up x p.0 other (pre.0 ∙ p.1) ∙ p.2 in
      elim (cases_eq k x) [
        | inl same ↦ ap (is_below ls above) same ∙ here
        | inr ne ↦ runs xs (x ∷ seen) (covers-more x seen covers here) later.1 (not-in-right above (x ∷ []) xs not) pre.1 k
            (sym (in-rest k x xs ne) ∙ is)
      ]

  -- nothing else is
  abbrev Misses : ℕ → List ℕ → Type 0
  Misses t seen = (p : ℕ) → nearest ls t seen ≡ Some p → is_below ls above p ≡ false

  missed : (x : ℕ) (seen : List ℕ) → x ≢ above → parent_of (get_or ls x None) ≡ nearest ls (stamp_in ls x) seen
      → Misses (stamp_in ls x) seen → is_below ls above x ≡ false
  missed x seen ne e misses = by (nearest ls (stamp_in ls x) seen) refl
    where
      by : (o : Option ℕ) → nearest ls (stamp_in ls x) seen ≡ o → is_below ls above x ≡ false
      by None o = below-other ls forest above x ne ∙ ap (λ (q : Option ℕ). is_true_of q (is_below ls above)) (e ∙ o)
      by (Some p) o = up x p ne (e ∙ o) ∙ misses p o

  misses-more : (x : ℕ) (seen : List ℕ) → is_below ls above x ≡ false → (t : ℕ) → (t ≤ stamp_in ls x → Misses t seen) → Misses t (x ∷ seen)
  misses-more x seen not t rest p e = elim (cases_lt (stamp_in ls x) t) [
    | inl less ↦ ap (is_below ls above) (sym (same_Some x p (sym (older ls t x seen less) ∙ e))) ∙ not
    | inr more ↦ rest more p (sym (not-older ls t x seen more) ∙ e)
  ]

  abbrev MissesAll : List ℕ → Type 0
  MissesAll seen = (t : ℕ) → Misses t seen

  beside : (xs seen : List ℕ) → MissesAll seen → is_in above xs ≡ false → IsPreorder ls seen xs
      → ((k : ℕ) → is_in k xs ≡ true → is_below ls above k ≡ false) × MissesAll (pushed xs seen)
  beside [] seen misses not pre = (λ k is. absurd (false≢true is), misses)
  beside (x ∷ xs) seen misses not pre =
      let other : x ≢ above = differ x above (x ∷ xs) (in-here x x xs refl) not in
      let here : is_below ls above x ≡ false = missed x seen other pre.0 (misses (stamp_in ls x)) in
      let rest = beside xs (x ∷ seen) (λ t. misses-more x seen here t (λ _. misses t)) (not-in-right above (x ∷ []) xs not) pre.1 in (
        λ k is. elim (cases_eq k x) [
          | inl same ↦ ap (is_below ls above) same ∙ here
          | inr ne ↦ rest.0 k (sym (in-rest k x xs ne) ∙ is)
        ],
        rest.1,
      )

  after-run : (xs seen : List ℕ) → ((t : ℕ) → t ≤ bound → Misses t seen) → Ends ls bound xs → is_in above xs ≡ false
      → IsPreorder ls seen xs → (k : ℕ) → is_in k xs ≡ true → is_below ls above k ≡ false
  after-run [] seen misses ends not pre k is = absurd (false≢true is)
  after-run (x ∷ xs) seen misses ends not pre k is =
      let other : x ≢ above = differ x above (x ∷ xs) (in-here x x xs refl) not in
      let here : is_below ls above x ≡ false = missed x seen other pre.0 (misses (stamp_in ls x) ends) in
      elim (cases_eq k x) [
        | inl same ↦ ap (is_below ls above) same ∙ here
        | inr ne ↦ (beside xs (x ∷ seen) (λ t. misses-more x seen here t (λ less. misses t (omega (arith, less, ends))))
            (not-in-right above (x ∷ []) xs not) pre.1).0 k (sym (in-rest k x xs ne) ∙ is)
      ]

  module _ (slots front done rest : List ℕ) (ordered : IsOrdered ls slots) (is : slots ≡ front ++ above ∷ (done ++ rest))
      (later : AreLater ls bound done) (ends : Ends ls bound rest) where
    pub apart-all : AreApart (front ++ above ∷ (done ++ rest))
    apart-all = subst AreApart is ordered.apart

    outer : Apart front (above ∷ (done ++ rest))
    outer = apart-parts front (above ∷ (done ++ rest)) apart-all

    inner : Apart done rest
    inner = apart-parts done rest outer.right.1

    not-done : is_in above done ≡ false
    not-done = not-in-left above done rest outer.right.0

    not-rest : is_in above rest ≡ false
    not-rest = not-in-right above done rest outer.right.0

    not-front : is_in above front ≡ false
    not-front = elim (cases_Bool (is_in above front)) [
      | inl here ↦ absurd (false≢true (sym (outer.none above here) ∙ in-here above above (done ++ rest) refl))
      | inr not ↦ not
    ]

    pre : IsPreorder ls [] (front ++ above ∷ (done ++ rest))
    pre = subst (IsPreorder ls []) is ordered.preorder

    pre-front : IsPreorder ls [] front
    pre-front = preorder-left ls front (above ∷ (done ++ rest)) [] pre

    pre-behind : IsPreorder ls (above ∷ pushed front []) (done ++ rest)
    pre-behind = (preorder-right ls front (above ∷ (done ++ rest)) [] pre).1

    fronts : ((k : ℕ) → is_in k front ≡ true → is_below ls above k ≡ false) × MissesAll (pushed front [])
    fronts = beside front [] (λ t p e. absurd (nothing p e)) not-front pre-front
      where
        nothing : (p : ℕ) → None ≡ Some p → ⊥
        nothing p e = false≢true (ap is_some e)

    rests : (k : ℕ) → is_in k rest ≡ true → is_below ls above k ≡ false
    rests = after-run rest (pushed done (above ∷ pushed front []))
        (λ t less p e. fronts.1 t p (sym (not-older ls t above (pushed front []) less)
        ∙ sym (skips ls bound t done (above ∷ pushed front []) later less) ∙ e))
        ends not-rest (preorder-right ls done rest (above ∷ pushed front []) pre-behind)

    dones : (k : ℕ) → is_in k done ≡ true → is_below ls above k ≡ true
    dones = runs done (above ∷ pushed front [])
        (λ t less. (above, older ls t above (pushed front []) less, below-self ls forest above)) later not-done
        (preorder-left ls done rest (above ∷ pushed front []) pre-behind)

    -- a slot that is in no list is free
    free-not : (k : ℕ) → k ≢ above → is_in k slots ≡ false → is_below ls above k ≡ false
    free-not k ne not = by (get_or ls k None) refl
      where
        by : (l : Option Link) → get_or ls k None ≡ l → is_below ls above k ≡ false
        by None e = below-other ls forest above k ne ∙ ap (λ (l : Option Link). is_true_of (parent_of l) (is_below ls above)) e
        by (Some l) e = absurd (false≢true (sym not ∙ ordered.live k ∙ ap is_some e))

    -- what stands behind a context with later stamps are its descendants
    pub run-under : (k : ℕ) → is_in k done ≡ is_under ls above k
    run-under k = elim (cases_eq k above) [
      | inl same ↦ ap (λ (j : ℕ). is_in j done) same ∙ not-done ∙ sym (not-under-itself ls forest above k same)
      | inr ne ↦ below ne ∙ sym (under-other ls forest above k ne)
    ]
      where
        below : k ≢ above → is_in k done ≡ is_below ls above k
        below ne = elim (cases_Bool (is_in k done)) [
          | inl here ↦ here ∙ sym (dones k here)
          | inr not ↦ not ∙ sym (elim (cases_Bool (is_in k slots)) [
            | inr free ↦ free-not k ne free
            | inl live ↦ elim (in-either k front (above ∷ (done ++ rest)) (ap (is_in k) (sym is) ∙ live)) [
              | inl left ↦ fronts.0 k left
              | inr right ↦ elim (in-either k done rest (sym (in-rest k above (done ++ rest) ne) ∙ right)) [
                | inl here ↦ absurd (false≢true (sym not ∙ here))
                | inr here ↦ rests k here
              ]
            ]
          ])
        ]

    pub run-below : (k : ℕ) → is_in k (above ∷ done) ≡ is_below ls above k
    run-below k = elim (cases_eq k above) [
      | inl same ↦ in-here k above done same ∙ sym (ap (is_below ls above) same ∙ below-self ls forest above)
      | inr ne ↦ in-rest k above done ne ∙ run-under k ∙ under-other ls forest above k ne
    ]

-- slots are emptied that stand together: the first that is left behind them is no younger than a stamp, and they are no older
module _ (ls : List (Option Link)) (bound : ℕ) (slots front mid rest : List ℕ) (ordered : IsOrdered ls slots)
    (is : slots ≡ front ++ (mid ++ rest)) (ends : Ends ls bound rest)
    (skip : (t : ℕ) → t ≤ bound → nearest ls t (pushed mid (pushed front [])) ≡ nearest ls t (pushed front []))
    (gone : ℕ → Bool) (told : (k : ℕ) → is_in k mid ≡ gone k) where
  abbrev emptied : List (Option Link)
  emptied = cleared gone None 0 ls

  emptied-at : (k : ℕ) → get_or emptied k None ≡ cond (gone k) None (get_or ls k None)
  emptied-at = get_or-cleared gone None ls

  apart-was : AreApart (front ++ (mid ++ rest))
  apart-was = subst AreApart is ordered.apart

  sides : Apart front (mid ++ rest)
  sides = apart-parts front (mid ++ rest) apart-was

  halves : Apart mid rest
  halves = apart-parts mid rest sides.right

  stays : (k : ℕ) → is_in k mid ≡ false → get_or emptied k None ≡ get_or ls k None
  stays k not = emptied-at k ∙ cond-false (gone k) None (get_or ls k None) (sym (told k) ∙ not)

  front-stays : (k : ℕ) → is_in k front ≡ true → get_or emptied k None ≡ get_or ls k None
  front-stays k here = stays k (not-in-left k mid rest (sides.none k here))

  rest-stays : (k : ℕ) → is_in k rest ≡ true → get_or emptied k None ≡ get_or ls k None
  rest-stays k here = stays k (elim (cases_Bool (is_in k mid)) [
    | inl between ↦ absurd (false≢true (sym (halves.none k between) ∙ here))
    | inr not ↦ not
  ])

  was : IsPreorder ls [] (front ++ (mid ++ rest))
  was = subst (IsPreorder ls []) is ordered.preorder

  pre-rest : IsPreorder ls (pushed mid (pushed front [])) rest
  pre-rest = preorder-right ls mid rest (pushed front []) (preorder-right ls front (mid ++ rest) [] was)

  rest-kept : (ys : List ℕ) → Ends ls bound ys → ((k : ℕ) → is_in k ys ≡ true → get_or emptied k None ≡ get_or ls k None)
      → IsPreorder ls (pushed mid (pushed front [])) ys → IsPreorder emptied (pushed front []) ys
  rest-kept [] end same pre = tt
  rest-kept (y ∷ ys) end same pre =
      let here : get_or emptied y None ≡ get_or ls y None = same y (in-here y y ys refl) in
      let stamp : stamp_in emptied y ≡ stamp_in ls y = ap stamp_of here in
      let fronts : (t : ℕ) → t ≤ bound → nearest emptied t (pushed front []) ≡ nearest ls t (pushed mid (pushed front [])) =
      λ t less. seen-kept ls emptied t front [] front-stays refl ∙ sym (skip t less) in (
        ap parent_of here ∙ pre.0 ∙ sym (fronts (stamp_in ls y) end) ∙ ap (λ (t : ℕ). nearest emptied t (pushed front [])) (sym stamp),
        preorder-kept ls emptied (λ t. Unit {0}) ys (y ∷ pushed mid (pushed front [])) (y ∷ pushed front [])
            (λ k in2. same k (in-later k y ys in2)) (λ k in2. tt)
            (λ t _. elim (cases_lt (stamp_in ls y) t) [
              | inl less ↦ older emptied t y (pushed front []) (omega (arith, stamp, less))
                  ∙ sym (older ls t y (pushed mid (pushed front [])) less)
              | inr more ↦ not-older emptied t y (pushed front []) (omega (arith, stamp, more)) ∙ fronts t (omega (arith, more, end))
                  ∙ sym (not-older ls t y (pushed mid (pushed front [])) more)
            ]) pre.1,
      )

  pub ordered-emptied : IsOrdered (cleared gone None 0 ls) (front ++ rest)
  ordered-emptied = record {
    apart = apart-without front mid rest apart-was;
    live = λ k. elim (cases_Bool (is_in k mid)) [
      | inl between ↦ none k between ∙ sym (ap is_some (emptied-at k ∙ cond-true (gone k) None (get_or ls k None) (sym (told k) ∙ between)))
      | inr not ↦ same k not ∙ ap (is_in k) (sym is) ∙ ordered.live k ∙ sym (ap is_some (stays k not))
    ];
    preorder = preorder-whole emptied front rest []
        (preorder-kept ls emptied (λ t. Unit {0}) front [] [] front-stays (λ k in2. tt) (λ t _. refl)
        (preorder-left ls front (mid ++ rest) [] was))
        (rest-kept rest ends rest-stays pre-rest);
  }
    where
      none : (k : ℕ) → is_in k mid ≡ true → is_in k (front ++ rest) ≡ false
      none k between = elim (cases_Bool (is_in k (front ++ rest))) [
        | inr not ↦ not
        | inl here ↦ elim (in-either k front rest here) [
          | inl left ↦ absurd (false≢true (sym (not-in-left k mid rest (sides.none k left)) ∙ between))
          | inr right ↦ absurd (false≢true (sym (halves.none k between) ∙ right))
        ]
      ]

      same : (k : ℕ) → is_in k mid ≡ false → is_in k (front ++ rest) ≡ is_in k (front ++ (mid ++ rest))
      same k not = elim (cases_Bool (is_in k (front ++ rest))) [
        | inl here ↦ here ∙ sym (elim (in-either k front rest here) [
          | inl left ↦ in-left k front (mid ++ rest) left
          | inr right ↦ in-right k front (mid ++ rest) (in-right k mid rest right)
        ])
        | inr gone ↦ gone ∙ sym (elim (cases_Bool (is_in k (front ++ (mid ++ rest)))) [
          | inr absent ↦ absent
          | inl here ↦ absurd (false≢true (sym gone ∙ elim (in-either k front (mid ++ rest) here) [
            | inl left ↦ in-left k front rest left
            | inr right ↦ in-right k front rest (elim (in-either k mid rest right) [
              | inl between ↦ absurd (false≢true (sym not ∙ between))
              | inr behind ↦ behind
            ])
          ]))
        ])
      ]

-- the youngest context is put right behind the one below which it is made
module _ (ls : List (Option Link)) (slots front : List ℕ) (p : ℕ) (rest : List ℕ) (ordered : IsOrdered ls slots)
    (is : slots ≡ front ++ p ∷ rest) (s stamp : ℕ) (low : s ≤ length ls) (free : get_or ls s None ≡ None)
    (later : (k : ℕ) → stamp_in ls k < stamp) where
  abbrev pub link : Link
  link = record { stamp = stamp; parent = Some p }

  abbrev made : List (Option Link)
  made = placed ls s (Some link)

  made-here : get_or made s None ≡ Some link
  made-here = placed-here ls s (Some link) None low

  made-other : (k : ℕ) → k ≢ s → get_or made k None ≡ get_or ls k None
  made-other k ne = placed-other ls s k (Some link) None low ne

  s-new : is_in s (front ++ p ∷ rest) ≡ false
  s-new = ap (is_in s) (sym is) ∙ ordered.live s ∙ ap is_some free

  kept : (k : ℕ) → is_in k (front ++ p ∷ rest) ≡ true → get_or made k None ≡ get_or ls k None
  kept k here = made-other k (differ k s (front ++ p ∷ rest) here s-new)

  was-apart : Apart front (p ∷ rest)
  was-apart = apart-parts front (p ∷ rest) (subst AreApart is ordered.apart)

  was-pre : IsPreorder ls [] (front ++ p ∷ rest)
  was-pre = subst (IsPreorder ls []) is ordered.preorder

  p-not-s : p ≢ s
  p-not-s = differ p s (front ++ p ∷ rest) (in-right p front (p ∷ rest) (in-here p p rest refl)) s-new

  stamp-p : stamp_in made p ≡ stamp_in ls p
  stamp-p = ap stamp_of (made-other p p-not-s)

  stamp-s : stamp_in made s ≡ stamp
  stamp-s = ap stamp_of made-here

  pub ordered-made : IsOrdered (placed ls s (Some link)) (front ++ p ∷ s ∷ rest)
  ordered-made = record {
    apart = apart-whole front (p ∷ s ∷ rest) was-apart.left (in-rest p s rest p-not-s ∙ was-apart.right.0, rest-apart) none;
    live = λ k. elim (cases_eq k s) [
      | inl same ↦ in-right k front (p ∷ s ∷ rest) (in-later k p (s ∷ rest) (in-here k s rest same))
          ∙ sym (ap is_some (ap (λ (j : ℕ). get_or made j None) same ∙ made-here))
      | inr ne ↦ old k ne ∙ ap (is_in k) (sym is) ∙ ordered.live k ∙ sym (ap is_some (made-other k ne))
    ];
    preorder = preorder-whole made front (p ∷ s ∷ rest) []
        (preorder-kept ls made (λ t. Unit {0}) front [] [] (λ k here. kept k (in-left k front (p ∷ rest) here)) (λ k here. tt) (λ t _. refl)
        (preorder-left ls front (p ∷ rest) [] was-pre)) (at-p, (at-s, rest-pre));
  }
    where
      fronts : (t : ℕ) → nearest made t (pushed front []) ≡ nearest ls t (pushed front [])
      fronts t = seen-kept ls made t front [] (λ k here. kept k (in-left k front (p ∷ rest) here)) refl

      p-seen : (t : ℕ) → nearest made t (p ∷ pushed front []) ≡ nearest ls t (p ∷ pushed front [])
      p-seen t = λ i. cond (nat_lt (stamp-p i) t) (Some p) (fronts t i)

      at-p : parent_of (get_or made p None) ≡ nearest made (stamp_in made p) (pushed front [])
      at-p = ap parent_of (made-other p p-not-s) ∙ (preorder-right ls front (p ∷ rest) [] was-pre).0 ∙ sym (fronts (stamp_in ls p))
          ∙ ap (λ (t : ℕ). nearest made t (pushed front [])) (sym stamp-p)

      at-s : parent_of (get_or made s None) ≡ nearest made (stamp_in made s) (p ∷ pushed front [])
      at-s = ap parent_of made-here
          ∙ sym (older made (stamp_in made s) p (pushed front []) (let less = later p in omega (arith, stamp-p, stamp-s, less)))

      none : (k : ℕ) → is_in k front ≡ true → is_in k (p ∷ s ∷ rest) ≡ false
      none k here =
          in-rest k p (s ∷ rest) (λ same. false≢true (sym (was-apart.none k here) ∙ in-here k p rest same))
          ∙ in-rest k s rest (differ k s front here (not-in-left s front (p ∷ rest) s-new))
          ∙ not-in-right k (p ∷ []) rest (was-apart.none k here)

      old : (k : ℕ) → k ≢ s → is_in k (front ++ p ∷ s ∷ rest) ≡ is_in k (front ++ p ∷ rest)
      old k ne = shift front
        where
          shift : (fs : List ℕ) → is_in k (fs ++ p ∷ s ∷ rest) ≡ is_in k (fs ++ p ∷ rest)
          shift [] = ap (λ (b : Bool). (k == p) || b) (in-rest k s rest ne)
          shift (f ∷ fs) = ap (λ (b : Bool). (k == f) || b) (shift fs)

      rest-apart : (is_in s rest ≡ false) × AreApart rest
      rest-apart = (not-in-right s (p ∷ []) rest (not-in-right s front (p ∷ rest) s-new), was-apart.right.1)

      rest-pre : IsPreorder made (s ∷ p ∷ pushed front []) rest
      rest-pre = preorder-kept ls made (λ t. t ≤ stamp) rest (p ∷ pushed front []) (s ∷ p ∷ pushed front [])
          (λ k here. kept k (in-right k front (p ∷ rest) (in-later k p rest here)))
          (λ k here. let less = later k in omega (arith, less))
          (λ t less. not-older made t s (p ∷ pushed front []) (omega (arith, stamp-s, less)) ∙ p-seen t)
          (preorder-right ls front (p ∷ rest) [] was-pre).1
