-- Which numbers have no block, after one was taken or given back.
use Rattle.std.proofs.Common.{◌≡◌, ℕ, zero, suc, ◌<◌, inl, inr, Bool, true, false, List, [], ◌∷◌, Some, None, length, get_or, cond, set}
use Rattle.std.proofs.Common.{refl, sym, ap, ◌∙◌, arith}
use Rattle.chunk_layout.proofs.Words.{◌==◌, not, is_some, option_map, Cells, with_block, Blocks, sizes_of, AreVacant}
use Rattle.chunk_layout.proofs.Laws.{cases_eq, cond-true, cond-false, eq-eqb, ne_eqb, get_or-set_same, get_or-set_other, length-set}
use Rattle.chunk_layout.proofs.Laws.{length-map, with_block-here, with_block-other, nat_tests, common_steps}
use Rattle.chunk_layout.proofs.Numbers.{length-with_block_low}

-- a number has a size just where it has a block
pub length-sizes : (bs : Blocks) → length (sizes_of bs) ≡ length bs
length-sizes bs = length-map bs (option_map {T = Cells} length)

pub some-size : (bs : Blocks) (k : ℕ) → is_some (get_or (sizes_of bs) k None) ≡ is_some (get_or bs k None)
some-size [] k = refl
some-size (None ∷ bs) zero = refl
some-size (Some cells ∷ bs) zero = refl
some-size (b ∷ bs) (suc k) = some-size bs k

module _ (bs : Blocks) (marks after : List Bool) (are : AreVacant (sizes_of bs) marks) where
  marked : (k : ℕ) → k < length bs → get_or marks k false ≡ not (is_some (get_or bs k None))
  marked k low = are.vacant k (omega (arith, low, length-sizes bs)) ∙ ap not (some-size bs k)

  -- a marked number has no block
  pub marked-low : (k : ℕ) → k < length marks → k < length bs
  marked-low k low = omega (arith, low, are.long, length-sizes bs)

  pub marked-none : (k : ℕ) → k < length marks → get_or marks k false ≡ true → get_or bs k None ≡ None
  marked-none k low is = grind (arith, nat_tests, marked k, marked-low k low)

  -- a marked number gets a block
  pub vacant-used : (n : ℕ) (x : Cells) → n < length bs → length after ≡ length marks
      → ((k : ℕ) → get_or after k false ≡ cond (k == n) false (get_or marks k false)) → AreVacant (sizes_of (with_block bs n x)) after
  vacant-used n x low long is = record {
    long = grind (arith, nat_tests, length-sizes, length-with_block_low);
    vacant = λ k inside. is k ∙ elim (cases_eq k n) [
      | inl same ↦
          cond-true (k == n) false (get_or marks k false) (eq-eqb k n same)
          ∙ sym (ap not (some-size (with_block bs n x) k ∙ ap (λ (j : ℕ). is_some (get_or (with_block bs n x) j None)) same
          ∙ ap is_some (with_block-here bs n x (omega (arith, low)))))
      | inr ne ↦
          cond-false (k == n) false (get_or marks k false) (ne_eqb k n ne)
          ∙ marked k (omega (arith, inside, length-sizes (with_block bs n x), length-with_block_low bs n x low))
          ∙ sym (ap not (some-size (with_block bs n x) k ∙ ap is_some (with_block-other bs n k x (omega (arith, low)) ne)))
    ];
  }

  -- a block is freed
  pub vacant-dropped : (n : ℕ) → n < length bs → length after ≡ length marks
      → ((k : ℕ) → get_or after k false ≡ cond (k == n) true (get_or marks k false)) → AreVacant (sizes_of (set bs n None)) after
  vacant-dropped n low long is = grind (
    arith,
    nat_tests,
    common_steps,
    length-sizes bs,
    length-sizes (set bs n None),
    length-set bs n None,
    cases_eq,
    cond-true,
    eq-eqb,
    some-size (set bs n None),
    get_or-set_same bs n None None low,
    cond-false,
    ne_eqb,
    marked,
    get_or-set_other bs n,
  )
