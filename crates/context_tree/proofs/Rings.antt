-- Slots in a ring: what is in a list of slots, and how one is put into the ring or taken out of it.
use Rattle.std.proofs.Common.{◌≡◌, ◌≢◌, ℕ, zero, suc, ◌<◌, ◌≤◌, ◌⊎◌, inl, inr, Bool, true, false, List, [], ◌∷◌, ◌++◌, length, cond}
use Rattle.std.proofs.Common.{refl, sym, ap, ◌∙◌, subst, arith}
use Rattle.std.specs.Prelude.{◌==◌, ◌||◌}
use Rattle.std.specs.List.{IsDistinct, list_any, AllByRecursion}
use Rattle.std.proofs.Math.Dec.{eqb}
use Rattle.std.proofs.lemmas.Bool.{cases_Bool, cases_eq, cond-true, cond-false, eq-eqb, ne_eqb, false≢true}
use Rattle.std.proofs.lemmas.Map.Steps.{length-le_from_distinct_below}
use Rattle.context_tree.specs.Rings.{head_or, is_in, AreApart, IsLed, walk, IsRing}

-- what is in a list
pub or-false : (a b : Bool) → a ≡ false → (a || b) ≡ b
or-false true b e = absurd (false≢true (sym e))
or-false false b e = refl

pub or-left : (a b : Bool) → a ≡ true → (a || b) ≡ true
or-left true b e = refl
or-left false b e = absurd (false≢true e)

pub or-right : (a b : Bool) → b ≡ true → (a || b) ≡ true
or-right true b e = refl
or-right false b e = e

neither : (a b : Bool) → (a || b) ≡ false → (a ≡ false) × (b ≡ false)
neither true b e = absurd (false≢true (sym e))
neither false b e = (refl, e)

pub in-here : (k x : ℕ) (xs : List ℕ) → k ≡ x → is_in k (x ∷ xs) ≡ true
in-here k x xs same = or-left (k == x) (is_in k xs) (eq-eqb k x same)

pub in-rest : (k x : ℕ) (xs : List ℕ) → k ≢ x → is_in k (x ∷ xs) ≡ is_in k xs
in-rest k x xs ne = or-false (k == x) (is_in k xs) (ne_eqb k x ne)

pub in-later : (k x : ℕ) (xs : List ℕ) → is_in k xs ≡ true → is_in k (x ∷ xs) ≡ true
in-later k x xs is = or-right (k == x) (is_in k xs) is

pub in-append : (k : ℕ) (xs ys : List ℕ) → is_in k (xs ++ ys) ≡ (is_in k xs || is_in k ys)
in-append k [] ys = refl
in-append k (x ∷ xs) ys = by (k == x) (is_in k (xs ++ ys)) (is_in k xs) (is_in k ys) (in-append k xs ys)
  where
    by : (a b c d : Bool) → b ≡ (c || d) → (a || b) ≡ ((a || c) || d)
    by true b c d e = refl
    by false b c d e = e

pub in-left : (k : ℕ) (xs ys : List ℕ) → is_in k xs ≡ true → is_in k (xs ++ ys) ≡ true
in-left k xs ys is = in-append k xs ys ∙ or-left (is_in k xs) (is_in k ys) is

pub in-right : (k : ℕ) (xs ys : List ℕ) → is_in k ys ≡ true → is_in k (xs ++ ys) ≡ true
in-right k xs ys is = in-append k xs ys ∙ or-right (is_in k xs) (is_in k ys) is

pub in-either : (k : ℕ) (xs ys : List ℕ) → is_in k (xs ++ ys) ≡ true → (is_in k xs ≡ true) ⊎ (is_in k ys ≡ true)
in-either k xs ys is = by (is_in k xs) (is_in k ys) (sym (in-append k xs ys) ∙ is)
  where
    by : (a b : Bool) → (a || b) ≡ true → (a ≡ true) ⊎ (b ≡ true)
    by true b e = inl refl
    by false b e = inr e

pub not-in-left : (k : ℕ) (xs ys : List ℕ) → is_in k (xs ++ ys) ≡ false → is_in k xs ≡ false
not-in-left k xs ys not = elim (cases_Bool (is_in k xs)) [
  | inl is ↦ absurd (false≢true (sym not ∙ in-left k xs ys is))
  | inr is ↦ is
]

pub not-in-right : (k : ℕ) (xs ys : List ℕ) → is_in k (xs ++ ys) ≡ false → is_in k ys ≡ false
not-in-right k xs ys not = elim (cases_Bool (is_in k ys)) [
  | inl is ↦ absurd (false≢true (sym not ∙ in-right k xs ys is))
  | inr is ↦ is
]

-- what is in a list is not what is not
pub differ : (k x : ℕ) (xs : List ℕ) → is_in k xs ≡ true → is_in x xs ≡ false → k ≢ x
differ k x xs is not same = false≢true (sym not ∙ ap (λ (j : ℕ). is_in j xs) (sym same) ∙ is)

pub first-in : (x : ℕ) (xs : List ℕ) (d : ℕ) → head_or xs d ≡ x → d ≢ x → is_in x xs ≡ true
first-in x [] d is ne = absurd (ne is)
first-in x (y ∷ ys) d is ne = in-here x y ys (sym is)

-- lists in which nothing is twice
pub record Apart (xs ys : List ℕ) : Type 0 where
  pub left : AreApart xs
  pub right : AreApart ys
  pub none : (k : ℕ) → is_in k xs ≡ true → is_in k ys ≡ false

pub apart-parts : (xs ys : List ℕ) → AreApart (xs ++ ys) → Apart xs ys
apart-parts [] ys apart = record { left = tt; right = apart; none = λ k is. absurd (false≢true is) }
apart-parts (x ∷ xs) ys apart =
    let rest = apart-parts xs ys apart.1 in
    record {
      left = (not-in-left x xs ys apart.0, rest.left);
      right = rest.right;
      none = λ k is. elim (cases_eq k x) [
        | inl same ↦ ap (λ (j : ℕ). is_in j ys) same ∙ not-in-right x xs ys apart.0
        | inr ne ↦ rest.none k (sym (in-rest k x xs ne) ∙ is)
      ];
    }

pub apart-whole : (xs ys : List ℕ) → AreApart xs → AreApart ys → ((k : ℕ) → is_in k xs ≡ true → is_in k ys ≡ false) → AreApart (xs ++ ys)
apart-whole [] ys left right none = right
apart-whole (x ∷ xs) ys left right none = (
  in-append x xs ys ∙ or-false (is_in x xs) (is_in x ys) left.0 ∙ none x (in-here x x xs refl),
  apart-whole xs ys left.1 right (λ k is. none k (in-later k x xs is)),
)

-- without what is between
pub apart-without : (xs mid ys : List ℕ) → AreApart (xs ++ (mid ++ ys)) → AreApart (xs ++ ys)
apart-without xs mid ys apart =
    let outer = apart-parts xs (mid ++ ys) apart in
    let inner = apart-parts mid ys outer.right in
    apart-whole xs ys outer.left inner.right (λ k is. not-in-right k mid ys (outer.none k is))

-- numbers below a bound of which none is there twice are no more than the bound
any-is : (k : ℕ) (xs : List ℕ) → list_any (eqb k) xs ≡ is_in k xs
any-is k [] = refl
any-is k (x ∷ xs) = ap (λ (b : Bool). eqb k x || b) (any-is k xs)

all-other : (x : ℕ) (xs : List ℕ) → is_in x xs ≡ false → AllByRecursion (λ y. eqb x y ≡ false) xs
all-other x [] not = tt
all-other x (y ∷ ys) not = let parts = neither (x == y) (is_in x ys) not in (parts.0, all-other x ys parts.1)

distinct : (xs : List ℕ) → AreApart xs → IsDistinct eqb xs
unfolding IsDistinct
distinct [] apart = tt
distinct (x ∷ xs) apart = (all-other x xs apart.0, distinct xs apart.1)

pub few-apart : (xs : List ℕ) (n : ℕ) → AreApart xs → ((k : ℕ) → is_in k xs ≡ true → k < n) → length xs ≤ n
few-apart xs n apart low = length-le_from_distinct_below xs n (distinct xs apart) (λ k is. low k (sym (any-is k xs) ∙ is))

-- what each leads to
head-append : (xs : List ℕ) (y : ℕ) (ys : List ℕ) (last : ℕ) → head_or (xs ++ y ∷ ys) last ≡ head_or xs y
head-append [] y ys last = refl
head-append (x ∷ xs) y ys last = refl

module _ (f : ℕ → ℕ) where
  pub led-at : (xs : List ℕ) (x : ℕ) (ys : List ℕ) (last : ℕ) → IsLed f (xs ++ x ∷ ys) last → f x ≡ head_or ys last
  led-at [] x ys last led = led.0
  led-at (w ∷ xs) x ys last led = led-at xs x ys last led.1

  pub led-left : (xs : List ℕ) (x : ℕ) (ys : List ℕ) (last : ℕ) → IsLed f (xs ++ x ∷ ys) last → IsLed f xs x
  led-left [] x ys last led = tt
  led-left (w ∷ xs) x ys last led = (led.0 ∙ head-append xs x ys last, led-left xs x ys last led.1)

  pub led-right : (xs ys : List ℕ) (last : ℕ) → IsLed f (xs ++ ys) last → IsLed f ys last
  led-right [] ys last led = led
  led-right (w ∷ xs) ys last led = led-right xs ys last led.1

  pub led-whole : (xs : List ℕ) (x : ℕ) (ys : List ℕ) (last : ℕ) → IsLed f xs x → IsLed f (x ∷ ys) last → IsLed f (xs ++ x ∷ ys) last
  led-whole [] x ys last left right = right
  led-whole (w ∷ xs) x ys last left right = (left.0 ∙ sym (head-append xs x ys last), led-whole xs x ys last left.1 right)

  -- each leads to one of them, or to the last
  pub led-in : (xs : List ℕ) (last k : ℕ) → IsLed f xs last → is_in k xs ≡ true → (f k ≡ last) ⊎ (is_in (f k) xs ≡ true)
  led-in [] last k led is = absurd (false≢true is)
  led-in (x ∷ xs) last k led is = elim (cases_eq k x) [
    | inl same ↦ first xs (ap f same ∙ led.0)
    | inr ne ↦ elim (led-in xs last k led.1 (sym (in-rest k x xs ne) ∙ is)) [
      | inl ends ↦ inl ends
      | inr here ↦ inr (in-later (f k) x xs here)
    ]
  ]
    where
      first : (ys : List ℕ) → f k ≡ head_or ys last → (f k ≡ last) ⊎ (is_in (f k) (x ∷ ys) ≡ true)
      first [] e = inl e
      first (y ∷ ys) e = inr (in-later (f k) x (y ∷ ys) (in-here (f k) y ys e))

  -- and one of them leads to what follows
  pub led-over : (x : ℕ) (xs ys : List ℕ) (last : ℕ) → IsLed f (x ∷ xs ++ ys) last
      → (k : ℕ) × (is_in k (x ∷ xs) ≡ true) × (f k ≡ head_or ys last)
  led-over x [] ys last led = (x, in-here x x [] refl, led.0)
  led-over x (y ∷ xs) ys last led =
      let rest = led-over y xs ys last led.1 in
      (rest.0, in-later rest.0 x (y ∷ xs) rest.1, rest.2)

pub led-same : (f g : ℕ → ℕ) (xs : List ℕ) (last : ℕ) → ((k : ℕ) → is_in k xs ≡ true → g k ≡ f k) → IsLed f xs last → IsLed g xs last
led-same f g [] last same led = tt
led-same f g (x ∷ xs) last same led = (
  same x (in-here x x xs refl) ∙ led.0,
  led-same f g xs last (λ k is. same k (in-later k x xs is)) led.1,
)

-- the walk comes to all slots of a ring
walk-led : (f : ℕ → ℕ) (n x : ℕ) (xs : List ℕ) → IsLed f (x ∷ xs) 0 → is_in 0 xs ≡ false → length (x ∷ xs) ≤ n → walk n f x ≡ x ∷ xs
walk-led f zero x xs led root few = absurd (omega (arith, few))
walk-led f (suc n) x [] led root few = ap (λ (l : List ℕ). x ∷ l)
    (cond-true (f x == 0) [] (walk n f (f x)) (eq-eqb (f x) 0 led.0))
walk-led f (suc n) x (y ∷ ys) led root few =
    let ne : f x ≢ 0 = λ e. false≢true (sym root ∙ in-here 0 y ys (sym e ∙ led.0)) in
    ap (λ (l : List ℕ). x ∷ l)
    (cond-false (f x == 0) [] (walk n f (f x)) (ne_eqb (f x) 0 ne)
    ∙ ap (walk n f) led.0
    ∙ walk-led f n y ys led.1 (not-in-right 0 (y ∷ []) ys root) (omega (arith, few)))

pub walk-ring : (n : ℕ) (f g : ℕ → ℕ) (slots : List ℕ) → IsRing n f g slots → walk n f 0 ≡ slots
walk-ring n f g [] ring = absurd (omega (arith, ring.first))
walk-ring n f g (x ∷ xs) ring =
    ap (walk n f) (sym ring.first)
    ∙ walk-led f n x xs ring.led (ap (λ (j : ℕ). is_in j xs) (sym ring.first) ∙ ring.apart.0)
    (few-apart (x ∷ xs) n ring.apart ring.low)

root-in : (n : ℕ) (f g : ℕ → ℕ) (slots : List ℕ) → IsRing n f g slots → is_in 0 slots ≡ true
root-in n f g slots ring = first-in 0 slots 1 ring.first (λ e. omega (arith, e))

-- the root is nowhere behind another
pub root-first : (n : ℕ) (f g : ℕ → ℕ) (slots front : List ℕ) (slot : ℕ) (rest : List ℕ) → IsRing n f g slots → slots ≡ front ++ slot ∷ rest
    → is_in 0 rest ≡ false
root-first n f g slots front slot rest ring is =
    by front (subst (λ (l : List ℕ). head_or l 1 ≡ 0) is ring.first) (subst AreApart is ring.apart)
  where
    by : (fs : List ℕ) → head_or (fs ++ slot ∷ rest) 1 ≡ 0 → AreApart (fs ++ slot ∷ rest) → is_in 0 rest ≡ false
    by [] first apart = ap (λ (j : ℕ). is_in j rest) (sym first) ∙ apart.0
    by (f0 ∷ fs) first apart =
        not-in-right 0 (slot ∷ []) rest
        (not-in-right 0 fs (slot ∷ rest) (ap (λ (j : ℕ). is_in j (fs ++ slot ∷ rest)) (sym first) ∙ apart.0))

-- what a ring is at a slot
pub ring-after : (n : ℕ) (f g : ℕ → ℕ) (slots front : List ℕ) (slot : ℕ) (rest : List ℕ) → IsRing n f g slots → slots
    ≡ front ++ slot ∷ rest → f slot ≡ head_or rest 0
ring-after n f g slots front slot rest ring is = led-at f front slot rest 0 (subst (λ (l : List ℕ). IsLed f l 0) is ring.led)

pub ring-before : (n : ℕ) (f g : ℕ → ℕ) (slots front : List ℕ) (p slot : ℕ) (rest : List ℕ) → IsRing n f g slots → slots
    ≡ front ++ p ∷ slot ∷ rest → g slot ≡ p
ring-before n f g slots front p slot rest ring is =
    ap g (sym (ring-after n f g slots front p (slot ∷ rest) ring is))
    ∙ ring.back p (ap (is_in p) is ∙ in-right p front (p ∷ slot ∷ rest) (in-here p p (slot ∷ rest) refl))

pub next-low : (n : ℕ) (f g : ℕ → ℕ) (slots : List ℕ) → IsRing n f g slots → (k : ℕ) → is_in k slots ≡ true → f k < n
next-low n f g slots ring k is = elim (led-in f slots 0 k ring.led is) [
  | inl ends ↦ ring.low (f k) (ap (λ (j : ℕ). is_in j slots) ends ∙ root-in n f g slots ring)
  | inr here ↦ ring.low (f k) here
]

pub rest-low : (n : ℕ) (f g : ℕ → ℕ) (slots front : List ℕ) (slot : ℕ) (between rest : List ℕ) → IsRing n f g slots
    → slots ≡ front ++ slot ∷ (between ++ rest) → head_or rest 0 < n
rest-low n f g slots front slot between [] ring is = ring.low 0 (root-in n f g slots ring)
rest-low n f g slots front slot between (x ∷ rest) ring is = ring.low x
    (ap (is_in x) is ∙ in-right x front (slot ∷ (between ++ x ∷ rest)) (in-later x slot (between ++ x ∷ rest)
    (in-right x between (x ∷ rest) (in-here x x rest refl))))

-- a ring stays one where there is more room
pub ring-same : (n m : ℕ) (f g h b : ℕ → ℕ) (slots : List ℕ) → IsRing n f g slots → n ≤ m → ((k : ℕ) → k < n → h k ≡ f k)
    → ((k : ℕ) → k < n → b k ≡ g k) → IsRing m h b slots
ring-same n m f g h b slots ring more after before = record {
  first = ring.first;
  led = led-same f h slots 0 (λ k is. after k (ring.low k is)) ring.led;
  apart = ring.apart;
  low = λ k is. let low = ring.low k is in omega (arith, low, more);
  back = λ k is. ap b (after k (ring.low k is)) ∙ before (f k) (next-low n f g slots ring k is) ∙ ring.back k is;
}

-- a slot is put behind another
module _ (n : ℕ) (f g : ℕ → ℕ) (front : List ℕ) (p : ℕ) (rest : List ℕ) (ring : IsRing n f g (front ++ p ∷ rest))
    (s : ℕ) (low : s < n) (new : is_in s (front ++ p ∷ rest) ≡ false) (h : ℕ → ℕ) (after : (k : ℕ) → h k
    ≡ cond (k == p) s (cond (k == s) (f p) (f k)))
    (b : ℕ → ℕ) (before : (k : ℕ) → b k ≡ cond (k == s) p (cond (k == f p) s (g k))) where
  parts : Apart front (p ∷ rest)
  parts = apart-parts front (p ∷ rest) ring.apart

  p-in : is_in p (front ++ p ∷ rest) ≡ true
  p-in = in-right p front (p ∷ rest) (in-here p p rest refl)

  s-other : s ≢ p
  s-other same = differ p s (front ++ p ∷ rest) p-in new (sym same)

  at-p : h p ≡ s
  at-p = after p ∙ cond-true (p == p) s (cond (p == s) (f p) (f p)) (eq-eqb p p refl)

  at-s : h s ≡ f p
  at-s = after s ∙ cond-false (s == p) s (cond (s == s) (f p) (f s)) (ne_eqb s p s-other)
      ∙ cond-true (s == s) (f p) (f s) (eq-eqb s s refl)

  at-other : (k : ℕ) → k ≢ p → k ≢ s → h k ≡ f k
  at-other k np ns = after k ∙ cond-false (k == p) s (cond (k == s) (f p) (f k)) (ne_eqb k p np)
      ∙ cond-false (k == s) (f p) (f k) (ne_eqb k s ns)

  follows : f p ≡ head_or rest 0
  follows = led-at f front p rest 0 ring.led

  -- the slot after p is in the ring, so it is not the new one
  f-in : (k : ℕ) → is_in k (front ++ p ∷ rest) ≡ true → is_in (f k) (front ++ p ∷ rest) ≡ true
  f-in k is = elim (led-in f (front ++ p ∷ rest) 0 k ring.led is) [
    | inl ends ↦ ap (λ (j : ℕ). is_in j (front ++ p ∷ rest)) ends ∙ root-in n f g (front ++ p ∷ rest) ring
    | inr here ↦ here
  ]

  f-other : (k : ℕ) → is_in k (front ++ p ∷ rest) ≡ true → f k ≢ s
  f-other k is = differ (f k) s (front ++ p ∷ rest) (f-in k is) new

  was-in : (k : ℕ) → k ≢ s → is_in k (front ++ p ∷ s ∷ rest) ≡ true → is_in k (front ++ p ∷ rest) ≡ true
  was-in k ne is = elim (in-either k front (p ∷ s ∷ rest) is) [
    | inl left ↦ in-left k front (p ∷ rest) left
    | inr right ↦ in-right k front (p ∷ rest) (elim (cases_eq k p) [
      | inl same ↦ in-here k p rest same
      | inr np ↦ in-later k p rest (sym (in-rest k s rest ne) ∙ sym (in-rest k p (s ∷ rest) np) ∙ right)
    ])
  ]

  s-not-front : is_in s front ≡ false
  s-not-front = not-in-left s front (p ∷ rest) new

  s-not-rest : is_in s rest ≡ false
  s-not-rest = not-in-right s (p ∷ []) rest (not-in-right s front (p ∷ rest) new)

  pub ring-put : IsRing n h b (front ++ p ∷ s ∷ rest)
  ring-put = record {
    first = starts front ring.first;
    led = led-whole h front p (s ∷ rest) 0
        (led-same f h front p (λ k is. at-other k (λ same. false≢true (sym (parts.none k is) ∙ in-here k p rest same))
        (differ k s front is s-not-front)) (led-left f front p rest 0 ring.led)) (
          at-p,
          (
            at-s ∙ follows,
            led-same f h rest 0 (λ k is. at-other k (differ k p rest is parts.right.0) (differ k s rest is s-not-rest))
                (led-right f front (p ∷ rest) 0 ring.led).1,
          ),
        );
    apart = apart-whole front (p ∷ s ∷ rest) parts.left
        (in-rest p s rest (λ e. s-other (sym e)) ∙ parts.right.0, (s-not-rest, parts.right.1))
        (λ k is. in-rest k p (s ∷ rest) (λ same. false≢true (sym (parts.none k is) ∙ in-here k p rest same))
        ∙ in-rest k s rest (differ k s front is s-not-front) ∙ not-in-right k (p ∷ []) rest (parts.none k is));
    low = λ k is. elim (cases_eq k s) [
      | inl same ↦ omega (arith, same, low)
      | inr ne ↦ ring.low k (was-in k ne is)
    ];
    back = λ k is. elim (cases_eq k p) [
      | inl same ↦ ap (λ (j : ℕ). b (h j)) same ∙ ap b at-p ∙ before s ∙ cond-true (s == s) p (cond (s == f p) s (g s)) (eq-eqb s s refl)
          ∙ sym same
      | inr np ↦ elim (cases_eq k s) [
        | inl same ↦
            ap (λ (j : ℕ). b (h j)) same ∙ ap b at-s ∙ before (f p)
            ∙ cond-false (f p == s) p (cond (f p == f p) s (g (f p))) (ne_eqb (f p) s (f-other p p-in))
            ∙ cond-true (f p == f p) s (g (f p)) (eq-eqb (f p) (f p) refl) ∙ sym same
        | inr ns ↦
            let was = was-in k ns is in
            let apart : f k ≢ f p = λ e. np (sym (ring.back k was) ∙ ap g e ∙ ring.back p p-in) in
            ap b (at-other k np ns) ∙ before (f k)
            ∙ cond-false (f k == s) p (cond (f k == f p) s (g (f k))) (ne_eqb (f k) s (f-other k was))
            ∙ cond-false (f k == f p) s (g (f k)) (ne_eqb (f k) (f p) apart) ∙ ring.back k was
      ]
    ];
  }
    where
      starts : (fs : List ℕ) → head_or (fs ++ p ∷ rest) 1 ≡ 0 → head_or (fs ++ p ∷ s ∷ rest) 1 ≡ 0
      starts [] first = first
      starts (f0 ∷ fs) first = first

-- what is between two slots is taken out
module _ (n : ℕ) (f g : ℕ → ℕ) (front : List ℕ) (p : ℕ) (mid rest : List ℕ) (ring : IsRing n f g (front ++ p ∷ (mid ++ rest)))
    (h : ℕ → ℕ) (after : (k : ℕ) → h k ≡ cond (k == p) (head_or rest 0) (f k))
    (b : ℕ → ℕ) (before : (k : ℕ) → b k ≡ cond (k == head_or rest 0) p (g k)) where
  abbrev old : List ℕ
  old = front ++ p ∷ (mid ++ rest)

  cut-parts : Apart front (p ∷ (mid ++ rest))
  cut-parts = apart-parts front (p ∷ (mid ++ rest)) ring.apart

  cut-other : (k : ℕ) → k ≢ p → h k ≡ f k
  cut-other k np = after k ∙ cond-false (k == p) (head_or rest 0) (f k) (ne_eqb k p np)

  cut-at : h p ≡ head_or rest 0
  cut-at = after p ∙ cond-true (p == p) (head_or rest 0) (f p) (eq-eqb p p refl)

  -- what stays is not between
  stayed : (k : ℕ) → is_in k (front ++ p ∷ rest) ≡ true → k ≢ p → (is_in k old ≡ true) × (is_in k (p ∷ mid) ≡ false)
  stayed k is np = elim (in-either k front (p ∷ rest) is) [
    | inl left ↦ (in-left k front (p ∷ (mid ++ rest)) left, not-in-left k (p ∷ mid) rest (cut-parts.none k left))
    | inr right ↦
        let here = sym (in-rest k p rest np) ∙ right in (
          in-right k front (p ∷ (mid ++ rest)) (in-later k p (mid ++ rest) (in-right k mid rest here)),
          in-rest k p mid np ∙ elim (cases_Bool (is_in k mid)) [
            | inl between ↦ absurd (false≢true (sym ((apart-parts mid rest cut-parts.right.1).none k between) ∙ here))
            | inr not ↦ not
          ],
        )
  ]

  pub ring-cut : IsRing n h b (front ++ p ∷ rest)
  ring-cut = record {
    first = starts front ring.first;
    led = led-whole h front p rest 0
        (led-same f h front p (λ k is. cut-other k (λ same. false≢true (sym (cut-parts.none k is) ∙ in-here k p (mid ++ rest) same)))
        (led-left f front p (mid ++ rest) 0 ring.led)) (
          cut-at,
          led-same f h rest 0 (λ k is. cut-other k (differ k p rest is (not-in-right p mid rest cut-parts.right.0)))
              (led-right f mid rest 0 (led-right f front (p ∷ (mid ++ rest)) 0 ring.led).1),
        );
    apart = apart-whole front (p ∷ rest) cut-parts.left
        (not-in-right p mid rest cut-parts.right.0, (apart-parts mid rest cut-parts.right.1).right)
        (λ k is. in-rest k p rest (λ same. false≢true (sym (cut-parts.none k is) ∙ in-here k p (mid ++ rest) same))
        ∙ not-in-right k (p ∷ mid) rest (cut-parts.none k is));
    low = λ k is. elim (cases_eq k p) [
      | inl same ↦ ring.low k (in-right k front (p ∷ (mid ++ rest)) (in-here k p (mid ++ rest) same))
      | inr np ↦ ring.low k (stayed k is np).0
    ];
    back = λ k is. elim (cases_eq k p) [
      | inl same ↦ ap (λ (j : ℕ). b (h j)) same ∙ ap b cut-at ∙ before (head_or rest 0)
          ∙ cond-true (head_or rest 0 == head_or rest 0) p (g (head_or rest 0)) (eq-eqb (head_or rest 0) (head_or rest 0) refl) ∙ sym same
      | inr np ↦
          let was = stayed k is np in
          let over = led-over f p mid rest 0 (led-right f front (p ∷ (mid ++ rest)) 0 ring.led) in
          let in-old : is_in over.0 old ≡ true = in-right over.0 front (p ∷ (mid ++ rest)) (in-left over.0 (p ∷ mid) rest over.1) in
          let apart : f k ≢ head_or rest 0 = λ e. differ over.0 k (p ∷ mid) over.1 was.1
          (sym (ring.back over.0 in-old) ∙ ap g (over.2 ∙ sym e) ∙ ring.back k was.0) in
          ap b (cut-other k np) ∙ before (f k)
          ∙ cond-false (f k == head_or rest 0) p (g (f k)) (ne_eqb (f k) (head_or rest 0) apart) ∙ ring.back k was.0
    ];
  }
    where
      starts : (fs : List ℕ) → head_or (fs ++ p ∷ (mid ++ rest)) 1 ≡ 0 → head_or (fs ++ p ∷ rest) 1 ≡ 0
      starts [] first = first
      starts (f0 ∷ fs) first = first

-- where a slot is in a list
pub parted : (k : ℕ) (xs : List ℕ) → is_in k xs ≡ true → (front : List ℕ) × (rest : List ℕ) × (xs ≡ front ++ k ∷ rest)
parted k [] is = absurd (false≢true is)
parted k (x ∷ xs) is = elim (cases_eq k x) [
  | inl same ↦ ([], xs, ap (λ (j : ℕ). j ∷ xs) (sym same))
  | inr ne ↦
      let at = parted k xs (sym (in-rest k x xs ne) ∙ is) in
      (x ∷ at.0, at.1, ap (λ (l : List ℕ). x ∷ l) at.2)
]

-- how far it is to the root
abbrev pub distance : ℕ → List ℕ → ℕ
distance at [] = 0
distance at (x ∷ xs) = cond (at == x) (suc (length xs)) (distance at xs)

pub distance-at : (front : List ℕ) (at : ℕ) (rest : List ℕ) → AreApart (front ++ at ∷ rest)
    → distance at (front ++ at ∷ rest) ≡ suc (length rest)
distance-at [] at rest apart = cond-true (at == at) (suc (length rest)) (distance at rest) (eq-eqb at at refl)
distance-at (x ∷ front) at rest apart =
    cond-false (at == x) (suc (length (front ++ at ∷ rest))) (distance at (front ++ at ∷ rest))
    (ne_eqb at x (λ same. false≢true (sym apart.0 ∙ in-right x front (at ∷ rest) (in-here x at rest (sym same)))))
    ∙ distance-at front at rest apart.1
