-- How many chunks are in each block, after one is made or given up.
use Rattle.std.proofs.Common.{◌≡◌, ◌≢◌, ℕ, ◌+◌, ◌-◌, ◌<◌, ◌≤◌, inl, inr, Bool, true, false, List, [], ◌∷◌, Option, None, length, get_or}
use Rattle.std.proofs.Common.{set, refl, sym, ap, ◌∙◌, subst, arith}
use Rattle.chunk_contexts.proofs.Words.{IsTrue, is_some, ◌==◌, Every, Pairwise, ChunkContents, has, without, outside, Place, Elsewhere}
use Rattle.chunk_contexts.proofs.Laws.{cases_eq, cases_lt, cond-true, cond-false, eq-eqb, ne_eqb, false≢true, every_weaker}
use Rattle.chunk_contexts.proofs.Laws.{length-with_block, without-none, nat_tests, common_steps}
use Rattle.chunk_contexts.specs.declared.runs.Runs.{Runs}
use Rattle.chunk_contexts.specs.Run.{RunState, run_of, run_taken_by, run_growth_by, IsRun}
use Rattle.chunk_contexts.specs.Generation.{in_block, IsCounted}
use Rattle.chunk_contexts.proofs.FreeLaws.{elsewhere-none}

-- no chunk is in a block that is not there
pub in-none : (ps : List ChunkContents) (b : ℕ) → Every (λ (p : ChunkContents). p.place.block ≢ b) ps → in_block ps b ≡ 0
in-none [] b every = refl
in-none (p ∷ ps) b every = grind (arith, nat_tests, common_steps, in-none ps b every.1)

pub in-here : (p : ChunkContents) (ps : List ChunkContents) (b : ℕ) → p.place.block ≡ b → in_block (p ∷ ps) b ≡ in_block ps b + 1
in-here p ps b same = cond-true (p.place.block == b) (in_block ps b + 1) (in_block ps b) (eq-eqb p.place.block b same)

pub in-other : (p : ChunkContents) (ps : List ChunkContents) (b : ℕ) → p.place.block ≢ b → in_block (p ∷ ps) b ≡ in_block ps b
in-other p ps b ne = cond-false (p.place.block == b) (in_block ps b + 1) (in_block ps b) (ne_eqb p.place.block b ne)

-- a chunk is given up
pub in-without_other : (ps : List ChunkContents) (place : Place) (b : ℕ) → place.block ≢ b → in_block (without ps place) b ≡ in_block ps b
in-without_other [] place b ne = refl
in-without_other (p ∷ ps) place b ne = grind (arith, nat_tests, common_steps, in-without_other ps place b ne)

pub in-without_here : (ps : List ChunkContents) (place : Place) → has ps place ≡ true → Pairwise Elsewhere ps
    → in_block (without ps place) place.block + 1 ≡ in_block ps place.block
in-without_here [] place there places = absurd (false≢true there)
in-without_here (p ∷ ps) place there places = grind (
  arith,
  nat_tests,
  common_steps,
  in-without_here ps place,
  elsewhere-none p ps places.0,
  without-none ps place,
)

-- where no chunk is in a block, none goes with it
pub outside-none : (ps : List ChunkContents) (b : ℕ) → in_block ps b ≡ 0 → outside ps b ≡ ps
outside-none [] b none = refl
outside-none (p ∷ ps) b none = grind (arith, nat_tests, common_steps, outside-none ps b)

-- a new chunk is elsewhere
pub none-elsewhere : (p : ChunkContents) (ps : List ChunkContents) → has ps p.place ≡ false → Every (Elsewhere p) ps
none-elsewhere p [] none = tt
none-elsewhere p (q ∷ ps) none = grind (arith, nat_tests, common_steps, none-elsewhere p ps)

-- ---- a chunk is made
module _ (r t : Runs) (cs ds : List ℕ) (is : IsCounted r cs) (run : IsRun 8 t) (p : ChunkContents) (a b : Bool) (size : ℕ) (some : 1 ≤ size)
    (made : run_of t ≡ run_taken_by a b size (run_of r) p)
    (fresh : has r.layout.contents p.place ≡ false) (fits : a ≡ true → b ≡ true → size ≤ r.active.size - r.active.used) (small : a ≡ true
    → size ≤ 8192)
    (old : run_growth_by false a b size ≡ 0 → p.place.block ≡ r.active.block) (new : 0 < run_growth_by false a b size
    → get_or r.layout.blocks p.place.block None ≡ None)
    (same : (k : ℕ) → get_or ds k 0 ≡ get_or cs k 0) (longer : length cs ≤ length ds) (enough : 0 < run_growth_by false a b size
    → length r.layout.blocks < length ds) where
  abbrev ps : List ChunkContents
  ps = r.layout.contents

  abbrev k : ℕ
  k = p.place.block

  contents : t.layout.contents ≡ p ∷ ps
  contents = grind (arith, nat_tests, common_steps)

  -- where a block is taken, no chunk was in it
  empty : 0 < run_growth_by false a b size → in_block ps k ≡ 0
  empty grows = in-none ps k (every_weaker (λ (q : ChunkContents). IsTrue (is_some (get_or r.layout.blocks q.place.block None)))
      (λ (q : ChunkContents). q.place.block ≢ k)
      (λ q there e. false≢true (sym (ap is_some (ap (λ (x : ℕ). get_or r.layout.blocks x None) e ∙ new grows)) ∙ there)) ps is.run.there)

  pub made-low : k < length ds
  made-low = grind (arith, nat_tests, common_steps, length-with_block)

  abbrev es : List ℕ
  es = set ds k (get_or ds k 0 + 1)

  at-most : (c : ℕ) → in_block (p ∷ ps) c ≤ 8192
  at-most c = grind (arith, nat_tests, in-here p ps c, in-other p ps c, is.few c, is.left, empty, old, new, fits)

  left-made : in_block (p ∷ ps) t.active.block + (t.active.size - t.active.used) ≤ 8192
  left-made = let act = ap (λ (s : RunState). s.active) made in let lft = ap (λ (s : RunState). s.left) made in
      subst (λ (x : ℕ × ℕ). in_block (p ∷ ps) x.0 + x.1 ≤ 8192) (λ i. (sym act i, sym lft i)) (by-kind a b old new empty fits small)
    where
      by-kind : (a b : Bool) → (run_growth_by false a b size ≡ 0 → k ≡ r.active.block)
          → (0 < run_growth_by false a b size → get_or r.layout.blocks k None ≡ None) → (0 < run_growth_by false a b size → in_block ps k
          ≡ 0)
          → (a ≡ true → b ≡ true → size ≤ r.active.size - r.active.used) → (a ≡ true → size ≤ 8192)
          → in_block (p ∷ ps) (run_taken_by a b size (run_of r) p).active + (run_taken_by a b size (run_of r) p).left ≤ 8192
      by-kind false b o n e f g = elim (cases_eq k r.active.block) [
        | inl here ↦
            let none : in_block ps k ≡ 0 = e (omega (arith, some)) in
            omega (arith, in-here p ps r.active.block here, ap (in_block ps) here, none, no-room (omega (arith, some)) here)
        | inr ne ↦ omega (arith, in-other p ps r.active.block ne, is.left)
      ]
        where
          no-room : 0 < run_growth_by false false b size → k ≡ r.active.block → r.active.size - r.active.used ≤ 8191
          no-room grows here = elim (cases_lt 0 r.active.size) [
            | inl big ↦ absurd (none-there (get_or r.layout.blocks r.active.block None)
                (ap (λ (x : ℕ). get_or r.layout.blocks x None) (sym here) ∙ n grows) (is.run.rest.size big) big)
            | inr nothing ↦ omega (arith, nothing)
          ]
            where
              none-there : (o' : Option ℕ) → o' ≡ None → r.active.size ≡ Rattle.std.specs.Prelude.unwrap_or o' 0 → 0 < r.active.size → ⊥
              none-there o' is-none sized big = omega (
                arith,
                sized,
                ap (λ (z : Option ℕ). Rattle.std.specs.Prelude.unwrap_or z 0) is-none,
                big,
              )
      by-kind true true o n e f g = omega (arith, in-here p ps r.active.block (o refl), is.left, f refl refl, some)
      by-kind true false o n e f g = omega (arith, in-here p ps k refl, e (omega arith), some, g refl)

  pub counted-made : IsCounted t es
  counted-made = grind (
    arith,
    nat_tests,
    common_steps,
    none-elsewhere p ps fresh,
    at-most,
    left-made,
    length-with_block r.layout.blocks
        p.place.block size,
    length-with_block r.layout.blocks p.place.block 8192,
  )
