-- A `Generation` after a request was served, or refused.
use Rattle.std.proofs.Common.{◌≡◌, ℕ, ◌+◌, ◌-◌, ◌<◌, ◌≤◌, Bool, false, List, Option, None, Result, Ok, Err, length, get_or, set, sym, ap}
use Rattle.std.proofs.Common.{◌∙◌, subst, arith}
use Rattle.chunk_contexts.proofs.Words.{is_some, nat_le, IsErrAnd, IfErr, ChunkContents, ChunkName, ContextError, NoMemory, Adds, IsRefused}
use Rattle.chunk_contexts.proofs.Words.{chunk_of, rounded, over_most, BLOCK}
use Rattle.chunk_contexts.proofs.Laws.{leb-true, nat_tests, common_steps}
use Rattle.chunk_contexts.specs.declared.runs.Runs.{Runs}
use Rattle.chunk_contexts.specs.Run.{run_of, run_growth, run_growth_by, run_taken, RunState, IsBlockOf, IsRun}
use Rattle.chunk_contexts.specs.Generation.{IsCounted}
use Rattle.chunk_contexts.proofs.GenLaws.{made-low, counted-made}

module _ (r t : Runs) (cs ds : List ℕ) (is : IsCounted r cs) (run : IsRun 8 t) (n : ℕ) (bytes : List ℕ) (name : ChunkName)
    (admitted : over_most n ≡ None) (space : run_of t ≡ run_taken 8 (run_of r) (chunk_of name (rounded n) bytes))
    (added : Adds r.layout.contents t.layout.contents name (rounded n) bytes) (block : IsBlockOf (run_of r) (run_growth 8 (run_of r) n)
    name.block)
    (same : (k : ℕ) → get_or ds k 0 ≡ get_or cs k 0) (longer : length cs ≤ length ds) (enough : 0 < run_growth 8 (run_of r) n
    → length r.layout.blocks < length ds) where
  abbrev a : Bool
  a = nat_le (8 + rounded n) BLOCK

  abbrev b : Bool
  b = nat_le (8 + rounded n) (r.active.size - r.active.used)

  -- what it takes, as it was not refused
  grows : run_growth 8 (run_of r) n ≡ run_growth_by false a b (8 + rounded n)
  grows = ap (λ (o : Option ContextError). run_growth_by (is_some o) a b (8 + rounded n)) admitted

  some : 1 ≤ 8 + rounded n
  some = omega arith

  abbrev p : ChunkContents
  p = chunk_of name (rounded n) bytes

  pub made-there : name.block < length ds
  made-there = made-low r t cs ds is run p a b (8 + rounded n) some space added.fresh
      (λ _ fits. leb-true (8 + rounded n) (r.active.size - r.active.used) fits) (λ small. leb-true (8 + rounded n) BLOCK small)
      (λ none. block.0 (grows ∙ none)) (λ more. block.1 (subst (λ (g : ℕ). 0 < g) (sym grows) more)) same longer
      (λ more. enough (subst (λ (g : ℕ). 0 < g) (sym grows) more))

  pub made-counted : IsCounted t (set ds name.block (get_or ds name.block 0 + 1))
  made-counted = counted-made r t cs ds is run p a b (8 + rounded n) some space added.fresh
      (λ _ fits. leb-true (8 + rounded n) (r.active.size - r.active.used) fits) (λ small. leb-true (8 + rounded n) BLOCK small)
      (λ none. block.0 (grows ∙ none)) (λ more. block.1 (subst (λ (g : ℕ). 0 < g) (sym grows) more)) same longer
      (λ more. enough (subst (λ (g : ℕ). 0 < g) (sym grows) more))

-- room for more counts changes none
pub counted-longer : (r : Runs) (cs ds : List ℕ) → IsCounted r cs → ((block : ℕ) → get_or ds block 0 ≡ get_or cs block 0)
    → length cs ≤ length ds → IsCounted r ds
counted-longer r cs ds is same longer = record {
  run = is.run;
  places = is.places;
  counts = λ block. same block
      ∙ is.counts block;
  long = omega (arith, is.long, longer);
  few = is.few;
  left = is.left;
}

-- if a chunk is not counted because memory ran out, blocks had to grow
pub refused-count : {X : Type 0} (result : Result X ContextError) (s t : RunState) (n : ℕ) → IsErrAnd result (λ e. e ≡ NoMemory) → s ≡ t
    → 0 < run_growth 8 s n → IfErr result (IsRefused (over_most n) (run_growth 8 t n))
refused-count result s t n is same grows = grind (arith, nat_tests, common_steps)

pub refused-as : {X : Type 0} (result : Result X ContextError) (s t : RunState) (n : ℕ) (f : ContextError) → IsErrAnd result (λ e. e ≡ f)
    → s ≡ t → IsRefused (over_most n) (run_growth 8 s n) f → IfErr result (IsRefused (over_most n) (run_growth 8 t n))
refused-as (Ok x) s t n f is same refused = tt
refused-as (Err e) s t n f is same refused = subst (λ (s : RunState). IsRefused (over_most n) (run_growth 8 s n) e) same
    (subst (IsRefused (over_most n) (run_growth 8 s n)) (sym is) refused)
