-- A `Generation` after a chunk is written or given up.
use Rattle.std.proofs.Common.{◌≡◌, ◌≢◌, ℕ, ◌+◌, ◌-◌, ◌<◌, ◌≤◌, inl, inr, Bool, true, false, List, [], ◌∷◌, ◌++◌, Option, None, length}
use Rattle.std.proofs.Common.{get_or, set, take, cond, refl, sym, ap, ◌∙◌, subst, arith}
use Rattle.chunk_contexts.proofs.Words.{IsTrue, is_some, ◌==◌, Every, Pairwise, Layout, ChunkContents, is_at, has, contents_at, without}
use Rattle.chunk_contexts.proofs.Words.{outside, put_at, rewritten, total, no_contents, layout_with, Place, Active, Elsewhere, IsRest}
use Rattle.chunk_contexts.proofs.Laws.{cases_eq, eq-eqb, ne_eqb, get_or-set_same, get_or-set_other, length-set, get_or_past, total-set_none}
use Rattle.chunk_contexts.proofs.Laws.{same-place, first_has, first_passes, every_filter, every_both, pairwise_filter, nat_tests}
use Rattle.chunk_contexts.proofs.Laws.{common_steps}
use Rattle.chunk_contexts.specs.declared.runs.Runs.{Runs}
use Rattle.chunk_contexts.specs.Run.{RunState, run_of}
use Rattle.chunk_contexts.specs.Generation.{in_block, freed_by, gen_freed, IsCounted}
use Rattle.chunk_contexts.proofs.FreeLaws.{without-elsewhere}
use Rattle.chunk_contexts.proofs.OverLaws.{over, rewritten-map, pairwise_map}
use Rattle.chunk_contexts.proofs.RunMoves.{run-put, run-lent}
use Rattle.chunk_contexts.proofs.GenLaws.{in-without_other, in-without_here, outside-none}

-- a chunk is given up
pub freed-chunks : (x : RunState) (place : Place) → (gen_freed x place).chunks ≡ without x.chunks place
freed-chunks x place = grind (arith, nat_tests, common_steps)

pub in-rewritten : (ps : List ChunkContents) (place : Place) (ws : List ℕ) (c : ℕ) → in_block (rewritten ps place ws) c ≡ in_block ps c
in-rewritten [] place ws c = refl
in-rewritten (p ∷ ps) place ws c = grind (arith, nat_tests, common_steps, in-rewritten ps place ws c)

pub in-put : (ps : List ChunkContents) (place : Place) (q : ChunkContents) (c : ℕ) → has ps place ≡ true → Pairwise Elsewhere ps → q.place
    ≡ place → in_block (q ∷ without ps place) c ≡ in_block ps c
in-put ps place q c there places at = grind (
  arith,
  nat_tests,
  common_steps,
  in-without_here ps place there places,
  in-without_other ps
      place c,
)

pub in-zero : (ps : List ChunkContents) (b : ℕ) → in_block ps b ≡ 0 → Every (λ (p : ChunkContents). p.place.block ≢ b) ps
in-zero [] b none = tt
in-zero (p ∷ ps) b none = grind (arith, nat_tests, common_steps, in-zero ps b)

module _ (r : Runs) (cs : List ℕ) (is : IsCounted r cs) where
  abbrev ps : List ChunkContents
  ps = r.layout.contents

  pub counted-lent : (place : Place) (ws : List ℕ) → IsCounted (record { layout = layout_with r.layout place ws; active = r.active }) cs
  counted-lent place ws = grind (
    arith,
    nat_tests,
    common_steps,
    run-lent 8 r is.run place ws,
    rewritten-map place ws ps is.places,
    pairwise_map Elsewhere (over place ws) ps is.places,
    in-rewritten ps place ws,
  )

  module _ (place : Place) (there : has ps place ≡ true) where
    pub counted-put : (kept : ℕ) (bytes : List ℕ) (m : Layout) → m ≡ put_at r.layout place kept bytes true
        → IsCounted (record { layout = m; active = r.active }) cs
    counted-put kept bytes m made =
        let q : ChunkContents = record {
          place = place;
          room = (contents_at ps place).room;
          is_live = true;
          bytes = take kept
              (contents_at ps place).bytes ++ bytes;
        } in
        let contents = ap (λ (z : Layout). z.contents) made in
        let same : (c : ℕ) → in_block m.contents c ≡ in_block ps c = λ c. ap (λ (xs : List ChunkContents). in_block xs c) contents
        ∙ in-put ps place q c there is.places refl in
        record {
          run = run-put 8 r is.run place there kept bytes m made;
          places = subst (Pairwise Elsewhere) (sym contents) (without-elsewhere q ps, pairwise_filter Elsewhere _ ps is.places);
          counts = λ c. is.counts c ∙ sym (same c);
          long = omega (arith, is.long, ap (λ (z : Layout). length z.blocks) made);
          few = λ c. omega (arith, same c, is.few c);
          left = omega (arith, same r.active.block, is.left);
        }

    -- the chunk is given up
    abbrev b : ℕ
    b = place.block

    here : in_block (without ps place) b + 1 ≡ in_block ps b
    here = in-without_here ps place there is.places

    pub gone-some : 1 ≤ get_or cs b 0
    gone-some = omega (arith, is.counts b, here)

    pub gone-low : b < length cs
    gone-low = grind (arith, nat_tests, common_steps, gone-some)

    pub gone-block : b < length r.layout.blocks
    gone-block = grind (
      arith,
      nat_tests,
      get_or_past r.layout.blocks b None,
      same-place (contents_at ps place).place place
          (first_passes (is_at place) no_contents ps there),
      first_has
          (λ (p : ChunkContents). IsTrue (is_some (get_or r.layout.blocks p.place.block None)))
          (is_at place) no_contents ps there is.run.there,
    )

    abbrev ds : List ℕ
    ds = set cs b (get_or cs b 0 - 1)

    fewer : (c : ℕ) → in_block (without ps place) c ≤ in_block ps c
    fewer c = elim (cases_eq b c) [
      | inl same ↦ subst (λ (k : ℕ). in_block (without ps place) k ≤ in_block ps k) same (omega (arith, here))
      | inr ne ↦ omega (arith, in-without_other ps place c ne)
    ]

    counts-gone : (c : ℕ) → get_or ds c 0 ≡ in_block (without ps place) c
    counts-gone c = elim (cases_eq b c) [
      | inl same ↦ subst (λ (k : ℕ). get_or ds k 0 ≡ in_block (without ps place) k) same
          (get_or-set_same cs b (get_or cs b 0 - 1) 0 gone-low ∙ omega (arith, is.counts b, here))
      | inr ne ↦ get_or-set_other cs b c (get_or cs b 0 - 1) 0 (λ e. ne (sym e)) ∙ is.counts c ∙ sym (in-without_other ps place c ne)
    ]

    module _ (m : Layout) (made : m ≡ record { head = r.layout.head; blocks = r.layout.blocks; contents = without ps place }) where
      pub counted-gone : IsCounted (record { layout = m; active = r.active }) ds
      counted-gone = subst (λ (z : Layout). IsCounted (record { layout = z; active = r.active }) ds) (sym made) (record {
        run = record {
          head = is.run.head;
          rest = record {
            size = is.run.rest.size;
            used = is.run.rest.used;
            bound = is.run.rest.bound;
            block = is.run.rest.block;
            clear = every_filter _ _ ps is.run.rest.clear;
            rooms = every_filter _ _ ps is.run.rest.rooms;
          };
          there = every_filter _ _ ps is.run.there;
        };
        places = pairwise_filter Elsewhere _ ps is.places;
        counts = counts-gone;
        long = omega (arith, is.long, length-set cs b (get_or cs b 0 - 1));
        few = λ c. omega (arith, fewer c, is.few c);
        left = omega (arith, fewer r.active.block, is.left);
      })

      pub state-gone : 0 < get_or cs b 0 - 1 → run_of (record { layout = m; active = r.active }) ≡ gen_freed (run_of r) place
      state-gone some =
          ap (λ (z : Layout). run_of (record { layout = z; active = r.active })) made
          ∙ ap (λ (x : Bool). freed_by x (run_of r) place)
          (sym (ne_eqb (in_block (without ps place) b) 0 (λ e. absurd (omega (arith, some, is.counts b, here, e)))))

      -- and its block with it
      module _ (last : get_or cs b 0 - 1 ≡ 0) (t : Layout) (back : t
          ≡ record { head = m.head; blocks = set m.blocks b None; contents = outside m.contents b }) (a : Active)
          (stops : a ≡ record {
            block = r.active.block;
            used = cond (r.active.block == b) 0 r.active.used;
            size = cond
                (r.active.block == b) 0 r.active.size;
          }) where
        none : in_block (without ps place) b ≡ 0
        none = omega (arith, last, is.counts b, here)

        is-back : t ≡ record { head = r.layout.head; blocks = set r.layout.blocks b None; contents = without ps place }
        is-back = back ∙ ap (λ (z : Layout). record { head = z.head; blocks = set z.blocks b None; contents = outside z.contents b }) made
            ∙ ap (λ (xs : List ChunkContents). record { head = r.layout.head; blocks = set r.layout.blocks b None; contents = xs })
            (outside-none (without ps place) b none)

        away : Every (λ (p : ChunkContents). p.place.block ≢ b) (without ps place)
        away = in-zero (without ps place) b none

        -- nothing is left of the block, if it was the one in use
        abbrev a' : Active
        a' = record {
          block = r.active.block;
          used = cond (r.active.block == b) 0 r.active.used;
          size = cond (r.active.block == b) 0
              r.active.size;
        }

        left-back : a'.size - a'.used ≡ cond (r.active.block == b) 0 (r.active.size - r.active.used)
        left-back = grind (arith, nat_tests, common_steps)

        rest-back : IsRest (record { head = r.layout.head; blocks = set r.layout.blocks b None; contents = without ps place }) a'
        rest-back =
            let rooms : Every (λ (p : ChunkContents). 1 ≤ p.room) (without ps place) = every_filter _ _ ps is.run.rest.rooms in
            let clear : Every (λ (p : ChunkContents). 0 < a'.size → p.place.block ≡ r.active.block → p.place.offset + p.room ≤ a'.used)
            (without ps place) =
            every_both (λ (p : ChunkContents). 0 < r.active.size → p.place.block ≡ r.active.block → p.place.offset + p.room ≤ r.active.used)
            (λ (p : ChunkContents). p.place.block ≢ b) _ (λ p k ne. grind (arith, nat_tests)) (without ps place)
            (every_filter _ _ ps is.run.rest.clear) away in
            grind (arith, nat_tests, rooms, clear, get_or-set_other r.layout.blocks b r.active.block None None)

        pub counted-back : IsCounted (record { layout = t; active = a }) ds
        counted-back = subst (λ (z : Layout × Active). IsCounted (record { layout = z.0; active = z.1 }) ds)
            (λ i. (sym is-back i, sym stops i)) (record {
              run = record {
                head = is.run.head;
                rest = rest-back;
                there = every_both (λ (p : ChunkContents). IsTrue (is_some (get_or r.layout.blocks p.place.block None)))
                    (λ (p : ChunkContents). p.place.block ≢ b)
                    (λ (p : ChunkContents). IsTrue (is_some (get_or (set r.layout.blocks b None) p.place.block None)))
                    (λ p some ne. subst (λ (o : Option ℕ). IsTrue (is_some o))
                    (sym (get_or-set_other r.layout.blocks b p.place.block None None ne)) some) (without ps place)
                    (every_filter _ _ ps is.run.there) away;
              };
              places = pairwise_filter Elsewhere _ ps is.places;
              counts = counts-gone;
              long = omega (arith, is.long, length-set cs b (get_or cs b 0 - 1), length-set {A = Option ℕ} r.layout.blocks b None);
              few = λ c. omega (arith, fewer c, is.few c);
              left = subst (λ (n : ℕ). in_block (without ps place) r.active.block + n ≤ 8192) (sym left-back) (by-bool
                  (r.active.block == b));
            })
          where
            by-bool : (x : Bool) → in_block (without ps place) r.active.block + cond x 0 (r.active.size - r.active.used) ≤ 8192
            by-bool true = omega (arith, fewer r.active.block, is.few r.active.block)
            by-bool false = omega (arith, fewer r.active.block, is.left)

        pub state-back : run_of (record { layout = t; active = a }) ≡ gen_freed (run_of r) place
        state-back =
            (λ i. run_of (record { layout = is-back i; active = stops i }))
            ∙ (λ i. record { chunks = without ps place; blocks = set r.layout.blocks b None; active = r.active.block; left = left-back i })
            ∙ ap (λ (x : Bool). freed_by x (run_of r) place) (sym (eq-eqb (in_block (without ps place) b) 0 none))

-- no more is held after a chunk was given up
pub freed-less : (s : RunState) (place : Place) → total (gen_freed s place).blocks ≤ total s.blocks
freed-less s place = grind (arith, nat_tests, common_steps, total-set_none s.blocks place.block)
