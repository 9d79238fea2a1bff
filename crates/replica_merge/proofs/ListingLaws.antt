-- Batches that are listed one after the other.
use Rattle.std.specs.Prelude.{◌≡◌, ◌≢◌, refl, ℕ, ◌+◌, ◌<◌, ◌≤◌, ◌⊎◌, ◌||◌, ◌&&◌, nat_le, nat_lt, Bool, true, false, cond, List}
use Rattle.std.specs.Prelude.{[], ◌∷◌, map, length, take}
use Rattle.std.proofs.Common.{◌∙◌, sym, ap, subst, inl, inr, arith, get_or}
use Rattle.origin_prefix.specs.Lemmas.Lists.{is_itself, is_other, same_or_other}
use Rattle.replica_merge.specs.Lemmas.ToldLaws.{among_numbered, among_counted}
use Rattle.std.proofs.lemmas.Bool.{cases_lt}
use Rattle.std.proofs.lemmas.Bool.Decides.{nat_tests}
use Rattle.std.proofs.lemmas.Grind.{common_steps}
use Rattle.std.proofs.Math.Bool.{or-false}
use Rattle.std.proofs.lemmas.List.{take_more}
use Rattle.std.proofs.lemmas.List.{map-append}
use Rattle.std.specs.Ordering.{eq_by_cmp, nat_cmp}
use Rattle.grouping_model.specs.Rising.{is_among}
use Rattle.grouping_model.specs.Rising.Facts.{among-append}
use Rattle.grouping_model.specs.World.{Batch, batch_cmp, count_up}

-- 1 to the greater of two numbers
pub within_both : (n low high : ℕ) (c : Bool) → low ≤ high → ((nat_le 1 n && nat_le n high) || c)
    ≡ (((nat_le 1 n && nat_le n low) || c) || (nat_le 1 n && nat_le n high))
within_both n low high c below = grind (arith, nat_tests, common_steps)

pub within_already : (n low high : ℕ) (c : Bool) → low ≤ high → ((nat_le 1 n && nat_le n high) || c)
    ≡ (((nat_le 1 n && nat_le n high) || c) || (nat_le 1 n && nat_le n low))
within_already n low high c below = grind (arith, nat_tests, common_steps)

-- the batches 1 to a number of an origin
pub among_first : (o n k upto : ℕ) → is_among batch_cmp (o, n) (map (λ (m : ℕ). (k, m)) (count_up 1 upto))
    ≡ (eq_by_cmp nat_cmp o k && (nat_le 1 n && nat_le n upto))
among_first o n k upto =
    among_numbered o n k (count_up 1 upto)
    ∙ ap (λ b. eq_by_cmp nat_cmp o k && b) (among_counted n 1 upto ∙ ap (λ b. nat_le 1 n && b) within)
  where
    within : nat_lt n (1 + upto) ≡ nat_le n upto
    within = elim (cases_lt upto n) [
      | inl above ↦ let one : nat_lt n (1 + upto) ≡ false = grind arith in let two : nat_le n upto ≡ false = grind arith in one ∙ sym two
      | inr below ↦ let one : nat_lt n (1 + upto) ≡ true = grind arith in let two : nat_le n upto ≡ true = grind arith in one ∙ sym two
    ]

-- a number is raised, of one origin
pub raised : (f g : ℕ → ℕ) (origin upto : ℕ) (others : Batch → Bool) → f origin ≤ upto → g origin ≡ upto
    → ((q : ℕ) → q ≢ origin → g q ≡ f q) → (batch : Batch)
    → ((nat_le 1 batch.1 && nat_le batch.1 (g batch.0)) || others batch)
    ≡ (((nat_le 1 batch.1 && nat_le batch.1 (f batch.0)) || others batch)
    || is_among batch_cmp batch (map (λ (m : ℕ). (origin, m)) (count_up 1 upto)))
raised f g origin upto others low here else_same batch = go (same_or_other batch.0 origin)
  where
    n : ℕ
    n = batch.1

    go : (batch.0 ≡ origin) ⊎ (batch.0 ≢ origin) → ((nat_le 1 n && nat_le n (g batch.0)) || others batch)
        ≡ (((nat_le 1 n && nat_le n (f batch.0)) || others batch)
        || is_among batch_cmp batch (map (λ (m : ℕ). (origin, m)) (count_up 1 upto)))
    go (inl same) =
        ap (λ k. (nat_le 1 n && nat_le n k) || others batch) (ap g same ∙ here)
        ∙ within_both n (f batch.0) upto (others batch) (subst (λ q. f q ≤ upto) (sym same) low)
        ∙ ap (λ b. ((nat_le 1 n && nat_le n (f batch.0)) || others batch) || b)
        (sym (among_first batch.0 n origin upto ∙ ap (λ b. b && (nat_le 1 n && nat_le n upto)) (ap (eq_by_cmp nat_cmp batch.0) (sym same)
        ∙ is_itself batch.0)))
    go (inr other) =
        ap (λ k. (nat_le 1 n && nat_le n k) || others batch) (else_same batch.0 other)
        ∙ sym (or-false ((nat_le 1 n && nat_le n (f batch.0)) || others batch))
        ∙ ap (λ b. ((nat_le 1 n && nat_le n (f batch.0)) || others batch) || b)
        (sym (among_first batch.0 n origin upto ∙ ap (λ b. b && (nat_le 1 n && nat_le n upto)) (is_other batch.0 origin other)))

-- or it is as great
pub kept : (f : ℕ → ℕ) (origin upto : ℕ) (others : Batch → Bool) → upto ≤ f origin → (batch : Batch)
    → ((nat_le 1 batch.1 && nat_le batch.1 (f batch.0)) || others batch)
    ≡ (((nat_le 1 batch.1 && nat_le batch.1 (f batch.0)) || others batch)
    || is_among batch_cmp batch (map (λ (m : ℕ). (origin, m)) (count_up 1 upto)))
kept f origin upto others low batch = go (same_or_other batch.0 origin)
  where
    n : ℕ
    n = batch.1

    go : (batch.0 ≡ origin) ⊎ (batch.0 ≢ origin) → ((nat_le 1 n && nat_le n (f batch.0)) || others batch)
        ≡ (((nat_le 1 n && nat_le n (f batch.0)) || others batch)
        || is_among batch_cmp batch (map (λ (m : ℕ). (origin, m)) (count_up 1 upto)))
    go (inl same) =
        within_already n upto (f batch.0) (others batch) (subst (λ q. upto ≤ f q) (sym same) low)
        ∙ ap (λ b. ((nat_le 1 n && nat_le n (f batch.0)) || others batch) || b)
        (sym (among_first batch.0 n origin upto ∙ ap (λ b. b && (nat_le 1 n && nat_le n upto)) (ap (eq_by_cmp nat_cmp batch.0) (sym same)
        ∙ is_itself batch.0)))
    go (inr other) =
        sym (or-false ((nat_le 1 n && nat_le n (f batch.0)) || others batch))
        ∙ ap (λ b. ((nat_le 1 n && nat_le n (f batch.0)) || others batch) || b)
        (sym (among_first batch.0 n origin upto ∙ ap (λ b. b && (nat_le 1 n && nat_le n upto)) (is_other batch.0 origin other)))

-- one number more of an origin
pub among_more : (origin : ℕ) (ns : List ℕ) (i : ℕ) (batch : Batch) → i < length ns
    → is_among batch_cmp batch (map (λ (m : ℕ). (origin, m)) (take (i + 1) ns))
    ≡ (is_among batch_cmp batch (map (λ (m : ℕ). (origin, m)) (take i ns)) || eq_by_cmp batch_cmp (origin, get_or ns i 0) batch)
among_more origin ns i batch below =
    ap (λ those. is_among batch_cmp batch (map (λ (m : ℕ). (origin, m)) those)) (take_more ns i 0 below)
    ∙ ap (is_among batch_cmp batch) (map-append (λ (m : ℕ). (origin, m)) (take i ns) (get_or ns i 0 ∷ []))
    ∙ among-append batch_cmp batch (map (λ (m : ℕ). (origin, m)) (take i ns)) ((origin, get_or ns i 0) ∷ [])
    ∙ ap (λ b. is_among batch_cmp batch (map (λ (m : ℕ). (origin, m)) (take i ns)) || b)
    (or-false (eq_by_cmp batch_cmp batch (origin, get_or ns i 0)) ∙ turned batch (origin, get_or ns i 0))
  where
    turned : (a b : Batch) → eq_by_cmp batch_cmp a b ≡ eq_by_cmp batch_cmp b a
    turned (o, n) (p, m) = grind (arith, nat_tests, common_steps)

-- a set with one batch more
pub one_more : (a b k : Bool) → (a || cond k true b) ≡ ((a || b) || k)
one_more true b k = refl
one_more false true true = refl
one_more false true false = refl
one_more false false true = refl
one_more false false false = refl
