-- Blocks that are taken for chunks which lie one after the other.
use Rattle.std.proofs.Common.{◌≡◌, ◌≢◌, ℕ, ◌+◌, ◌<◌, ◌≤◌, inl, true, false, List, [], ◌∷◌, Option, None, length, get_or, sym, ap, ◌∙◌}
use Rattle.std.proofs.Common.{subst, arith}
use Rattle.chunk_contexts.proofs.Words.{IsTrue, is_some, unwrap_or, Every, Layout, ChunkContents, has, with_contents, with_block, size_at}
use Rattle.chunk_contexts.proofs.Words.{total, IsClear, Place}
use Rattle.chunk_contexts.proofs.Laws.{every_weaker, with_block-here, total-with_block, without-none}
use Rattle.chunk_contexts.specs.declared.runs.Runs.{Runs}
use Rattle.chunk_contexts.specs.Run.{IsRun}
use Rattle.chunk_contexts.proofs.CutLaws.{none-at}
use Rattle.chunk_contexts.proofs.SetLaws.{some-block, not-new, same-others}

module _ (head : ℕ) (r : Runs) (is : IsRun head r) (b size : ℕ) (none : get_or r.layout.blocks b None
    ≡ None) (low : b ≤ length r.layout.blocks) (name : b < 4294967296) where
  abbrev l : Layout
  l = r.layout

  abbrev ps : List ChunkContents
  ps = l.contents

  abbrev blocks' : List (Option ℕ)
  blocks' = with_block l.blocks b size

  elsewhere : Every (λ (q : ChunkContents). q.place.block ≢ b) ps
  elsewhere = every_weaker (λ (q : ChunkContents). IsTrue (is_some (get_or l.blocks q.place.block None)))
      (λ (q : ChunkContents). q.place.block ≢ b) (λ q g. not-new l.blocks b none q.place.block g) ps is.there

  still-there : Every (λ (q : ChunkContents). IsTrue (is_some (get_or blocks' q.place.block None))) ps
  still-there = every_weaker (λ (q : ChunkContents). IsTrue (is_some (get_or l.blocks q.place.block None)))
      (λ (q : ChunkContents). IsTrue (is_some (get_or blocks' q.place.block None)))
      (λ q g. subst (λ (o : Option ℕ). IsTrue (is_some o)) (sym (same-others l.blocks b size none low q.place.block g)) g) ps is.there

  pub taken-size : size_at blocks' b ≡ size
  taken-size = ap (λ (o : Option ℕ). unwrap_or o 0) (with_block-here l.blocks b size low)

  pub taken-total : (m : Layout) → m.blocks ≡ blocks' → total m.blocks ≡ total l.blocks + size
  taken-total m same = ap total same ∙ total-with_block l.blocks b size none

  -- the block is for one chunk
  module _ (room : ℕ) (some : 1 ≤ room) where
    abbrev own : ChunkContents
    own = record { place = record { block = b; offset = head }; room = room; is_live = true; bytes = [] }

    pub own-clear : Every (IsClear l.head own.place room) ps
    own-clear = every_weaker (λ (q : ChunkContents). q.place.block ≢ b) (IsClear l.head own.place room) (λ q ne. inl ne) ps elsewhere

    pub own-fresh : has ps own.place ≡ false
    own-fresh = none-at own.place ps (every_weaker (λ (q : ChunkContents). q.place.block ≢ b) (λ (q : ChunkContents). q.place ≡ own.place
        → ⊥) (λ q ne e. ne (ap (λ (x : Place). x.block) e)) ps elsewhere)

    pub own-made : (t m : Layout) → t ≡ record { head = l.head; blocks = blocks'; contents = ps } → m ≡ with_contents t own → m
        ≡ record { head = l.head; blocks = blocks'; contents = own ∷ ps }
    own-made t m taken carved = carved ∙ ap (λ (z : Layout). with_contents z own) taken
        ∙ (λ i. record { head = l.head; blocks = blocks'; contents = own ∷ without-none ps own.place own-fresh i })

    pub own-run : (m : Layout) → m ≡ record { head = l.head; blocks = blocks'; contents = own ∷ ps }
        → IsRun head (record { layout = m; active = r.active })
    own-run m made = subst (λ (z : Layout). IsRun head (record { layout = z; active = r.active })) (sym made) (record {
      head = is.head;
      rest = record {
        size = λ some'. is.rest.size some'
            ∙ ap (λ (o : Option ℕ). unwrap_or o 0) (sym (same-others l.blocks b size none low r.active.block (active-some some')));
        used = is.rest.used;
        bound = is.rest.bound;
        block = is.rest.block;
        clear = (λ some' e. absurd (not-new l.blocks b none r.active.block (active-some some') (sym e)), is.rest.clear);
        rooms = (some, is.rest.rooms);
      };
      there = (ap is_some (with_block-here l.blocks b size low), still-there);
    })
      where
        active-some : 0 < r.active.size → IsTrue (is_some (get_or l.blocks r.active.block None))
        active-some some' = some-block l.blocks r.active.block (omega (arith, is.rest.size some', some'))

  -- the block is the one in use
  pub started-run : (m : Layout) → m ≡ record { head = l.head; blocks = blocks'; contents = ps } → size ≤ 1048576
      → IsRun head (record { layout = m; active = record { block = b; used = 0; size = size } })
  started-run m made fits = subst (λ (z : Layout). IsRun head (record { layout = z; active = record { block = b; used = 0; size = size } }))
      (sym made) (record {
        head = is.head;
        rest = record {
          size = λ _. sym taken-size;
          used = omega arith;
          bound = fits;
          block = name;
          clear = every_weaker (λ (q : ChunkContents). q.place.block ≢ b) (λ (q : ChunkContents). 0 < size → q.place.block ≡ b
              → q.place.offset
              + q.room ≤ 0) (λ q ne _ e. absurd (ne e)) ps elsewhere;
          rooms = is.rest.rooms;
        };
        there = still-there;
      })
