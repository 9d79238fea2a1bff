-- Lists by slots, in which something is put.
use Rattle.std.proofs.Common.{◌≡◌, ℕ, zero, suc, ◌+◌, ◌<◌, ◌≤◌, inl, inr, Bool, true, false, List, [], ◌∷◌, ◌++◌, Option, Some, None}
use Rattle.std.proofs.Common.{length, get_or, cond, set, take, refl, sym, ap, ◌∙◌, arith}
use Rattle.std.specs.Prelude.{◌==◌, is_some}
use Rattle.std.specs.List.{refill}
use Rattle.std.proofs.lemmas.Bool.{cases_eq, cases_lt, cond-false, ne_eqb, false≢true}
use Rattle.std.proofs.lemmas.List.{take_all, drop_all, append-nil, length-append}
use Rattle.context_tree.specs.SlotLaws.{placed-here, placed-other}
use Rattle.context_tree.proofs.Words.{placed, IsFull, AreFree, Link}

module _ {X : Type 0} where
  -- a list written over by one that is as long
  pub refill-whole : (n : ℕ) (xs ws : List X) → n ≡ length xs → length ws ≡ n → refill n xs ws ≡ ws
  refill-whole n xs ws long same =
      ap (λ (t : List X). take n (ws ++ t)) (drop_all (length ws) xs (omega (arith, long, same)))
      ∙ ap (take n) (append-nil ws) ∙ take_all n ws (omega (arith, same))

  pub placed-end : (xs : List X) (x : X) → placed xs (length xs) x ≡ xs ++ x ∷ []
  placed-end [] x = refl
  placed-end (y ∷ xs) x = ap (λ (t : List X). y ∷ t) (placed-end xs x)

  pub placed-set : (xs : List X) (n : ℕ) (x : X) → n < length xs → set xs n x ≡ placed xs n x
  placed-set [] n x low = absurd (omega (arith, low))
  placed-set (y ∷ xs) zero x low = refl
  placed-set (y ∷ xs) (suc n) x low = ap (λ (t : List X). y ∷ t) (placed-set xs n x (omega (arith, low)))

  pub placed-length : (xs : List X) (n : ℕ) (x : X) → n ≤ length xs → (length (placed xs n x) ≤ length xs + 1)
  placed-length [] n x low = omega arith
  placed-length (y ∷ xs) zero x low = omega arith
  placed-length (y ∷ xs) (suc n) x low = omega (arith, placed-length xs n x (omega (arith, low)))

  -- two lists that are equally long stay so
  pub length-placed : {Y : Type 0} (xs : List X) (ys : List Y) (n : ℕ) (x : X) (y : Y) → length xs ≡ length ys → length (placed xs n x)
      ≡ length (placed ys n y)
  length-placed [] [] n x y same = refl
  length-placed [] (b ∷ ys) n x y same = absurd (omega (arith, same))
  length-placed (a ∷ xs) [] n x y same = absurd (omega (arith, same))
  length-placed (a ∷ xs) (b ∷ ys) zero x y same = same
  length-placed (a ∷ xs) (b ∷ ys) (suc n) x y same = ap suc (length-placed xs ys n x y (omega (arith, same)))

-- a slot that was free is used
pub free-used : (ls : List (Option Link)) (marks after : List Bool) (slot : ℕ) (link : Link) → AreFree ls marks → slot < length ls
    → length after ≡ length marks
    → ((k : ℕ) → get_or after k false ≡ cond (k == slot) false (get_or marks k false)) → AreFree (placed ls slot (Some link)) after
free-used ls marks after slot link are low long marked =
    let size : length (placed ls slot (Some link)) ≡ length ls = ap length (sym (placed-set ls slot (Some link) low))
    ∙ Rattle.std.proofs.lemmas.List.length-set ls slot (Some link) in
    record {
      free = λ k is. elim (cases_eq k slot) [
        | inl same ↦ absurd (false≢true
            (sym (marked k ∙ Rattle.std.proofs.lemmas.Bool.cond-true (k == slot) false (get_or marks k false)
            (Rattle.std.proofs.lemmas.Bool.eq-eqb k slot same)) ∙ is))
        | inr ne ↦
            let was = are.free k (sym (marked k ∙ cond-false (k == slot) false (get_or marks k false) (ne_eqb k slot ne)) ∙ is) in (
              omega (arith, was.0, size),
              placed-other ls slot k (Some link) None (omega (arith, low)) ne ∙ was.1,
            )
      ];
      all = λ k less none. marked k ∙ elim (cases_eq k slot) [
        | inl same ↦ absurd (used (sym (placed-here ls slot (Some link) None (omega (arith, low)))
            ∙ ap (λ (j : ℕ). get_or (placed ls slot (Some link)) j None) (sym same) ∙ none))
        | inr ne ↦
            cond-false (k == slot) false (get_or marks k false) (ne_eqb k slot ne)
            ∙ are.all k (omega (arith, less, size)) (sym (placed-other ls slot k (Some link) None (omega (arith, low)) ne) ∙ none)
      ];
      long = λ k some less. omega (arith, long, are.long k some (omega (arith, less, size)));
    }
  where
    used : Some link ≡ None → ⊥
    used e = false≢true (sym (ap is_some e))

-- a slot is added
pub free-pushed : (ls : List (Option Link)) (marks after : List Bool) (link : Link) → AreFree ls marks → length ls < length after
    → length marks ≤ length after
    → ((k : ℕ) → get_or after k false ≡ get_or marks k false) → AreFree (ls ++ Some link ∷ []) after
free-pushed ls marks after link are room long same = record {
  free = λ k is.
      let was = are.free k (sym (same k) ∙ is) in (
        omega (arith, was.0, length-append ls (Some link ∷ [])),
        Rattle.std.proofs.lemmas.List.get_or_append_left ls (Some link ∷ []) None k was.0 ∙ was.1,
      );
  all = λ k less none. elim (cases_lt k (length ls)) [
    | inl low ↦ same k ∙ are.all k low (sym (Rattle.std.proofs.lemmas.List.get_or_append_left ls (Some link ∷ []) None k low) ∙ none)
    | inr past ↦
        let end : k ≡ length ls = omega (arith, past, less, length-append ls (Some link ∷ [])) in
        absurd (false≢true (sym (ap is_some (sym (placed-here ls (length ls) (Some link) None (omega arith))
        ∙ ap (λ (l : List (Option Link)). get_or l (length ls) None) (placed-end ls (Some link))
        ∙ ap (λ (j : ℕ). get_or (ls ++ Some link ∷ []) j None) (sym end) ∙ none))))
  ];
  long = λ k some less. omega (arith, room, less, length-append ls (Some link ∷ []));
}

-- where no slot is marked, none is free
pub full-unmarked : (ls : List (Option Link)) (marks : List Bool) → AreFree ls marks → ((k : ℕ) → get_or marks k false ≡ false) → IsFull ls
full-unmarked ls marks are none slot low = by (get_or ls slot None) refl
  where
    by : (l : Option Link) → get_or ls slot None ≡ l → is_some (get_or ls slot None) ≡ true
    by None e = absurd (false≢true (sym (none slot) ∙ are.all slot low e))
    by (Some l) e = ap is_some e
