-- A table is cleared.
use Rattle.std.specs.Prelude.{◌≡◌, ◌≢◌, refl, ℕ, zero, suc, ◌+◌, ◌<◌, ◌⊎◌, ◌==◌, ◌&&◌, not, Bool, true, false, List, [], ◌∷◌, Option, Some}
use Rattle.std.specs.Prelude.{None, length, get_or, slice_set, replicate, unwrap_or, is_some}
use Rattle.std.proofs.Common.{inl, inr, sym, ◌∙◌, ap, subst, arith}
use Rattle.std.proofs.lemmas.Bool.{cond-false, eq-eqb, false≢true}
use Rattle.std.proofs.lemmas.List.{get_or-set_same, get_or-set_other}
use Rattle.context_tree.specs.SlotLaws.{parent-is}
use Rattle.group_table.proofs.Words.{size_at, total, only, SetState, new_set, set_reset, no_context, reset_context, held_by, parent_of}
use Rattle.group_table.proofs.Words.{stamp_of, is_below, is_under, cleared, TreeState, IsWhole, context_at, reset, Context, Slab, Bump}
use Rattle.group_table.proofs.Words.{ContextId, IsBump, IsSlabOf, IsFirst, HasSpace}
use Rattle.group_table.proofs.ChildLaws.{cleared_at, not_above}
use Rattle.std.proofs.Math.Bool.{and-false}

-- a context of a tree is reset
module _ (tree : TreeState) (id : ContextId) where
  abbrev gone : ℕ → Bool
  gone = is_under tree.links id.slot

  pub length_cleared : {X : Type 0} → (f : ℕ → Bool) (x : X) (place : ℕ) (ys : List X) → length (cleared f x place ys) ≡ length ys
  length_cleared f x place [] = refl
  length_cleared f x place (y ∷ ys) = ap suc (length_cleared f x (place + 1) ys)

  pub link_kept : (k : ℕ) → gone k ≡ false → get_or (reset tree id).links k None ≡ get_or tree.links k None
  link_kept k stays = cleared_at gone None tree.links k ∙ cond-false (gone k) None (get_or tree.links k None) stays

  pub context_kept : (other : ContextId) → gone other.slot ≡ false → other.slot ≢ id.slot → context_at (reset tree id) other
      ≡ context_at tree other
  context_kept other stays differ =
      get_or-set_other (cleared gone no_context 0 tree.contexts) id.slot other.slot (reset_context (context_at tree id)) no_context differ
      ∙ cleared_at gone no_context tree.contexts other.slot ∙ cond-false (gone other.slot) no_context (context_at tree other) stays

  pub context_reset : id.slot < length tree.contexts → context_at (reset tree id) id ≡ reset_context (context_at tree id)
  context_reset within =
      get_or-set_same (cleared gone no_context 0 tree.contexts) id.slot (reset_context (context_at tree id)) no_context
      (subst (λ n. id.slot < n) (sym (length_cleared gone no_context 0 tree.contexts)) within)

  -- it is not below itself, and what it was made below is not below it
  pub not_self : gone id.slot ≡ false
  not_self = ap (λ b. is_below tree.links id.slot id.slot && not b) (eq-eqb id.slot id.slot refl)
      ∙ and-false (is_below tree.links id.slot id.slot)

  pub not_parent : IsWhole tree → (p : ℕ) → parent_of (get_or tree.links id.slot None) ≡ Some p → gone p ≡ false
  unfolding is_below
  not_parent whole p up =
      ap (λ b. b && not (p == id.slot)) (not_above tree.links whole.forest (stamp_of (get_or tree.links p None)) id.slot p
      (parent-is tree.links whole.forest id.slot (get_or tree.links id.slot None) refl p up).0)

-- a set that is reset has its first block alone
pub total_none : (n : ℕ) → total (replicate n None) ≡ 0
total_none zero = refl
total_none (suc n) = omega (arith, total_none n)

total_one : (n block : ℕ) (x : Option ℕ) → block < n → total (slice_set (replicate n None) block x) ≡ unwrap_or x 0
total_one zero block x low = absurd (omega (arith, low))
total_one (suc n) zero x low = omega (arith, total_none n)
total_one (suc n) (suc block) x low = omega (arith, total_one n block x (omega (arith, low)))

size_low : (bs : List (Option ℕ)) (block : ℕ) → size_at bs block ≡ 16384 → block < length bs
size_low [] block is = absurd (omega (arith, is))
size_low (b ∷ bs) zero is = omega arith
size_low (b ∷ bs) (suc block) is = omega (arith, size_low bs block is)

pub record IsReset (s : SetState) : Type 0 where
  pub first : IsFirst s
  pub space : HasSpace None s
  pub held : (total s.blocks ≡ 0) ⊎ (total s.blocks ≡ 16384)

reset_by : (s : SetState) (f : Option ℕ) → s.first ≡ f → IsFirst s → IsReset (set_reset s)
reset_by s None none first =
    let blocks : s.blocks ≡ [] = first.none none in
    let new : set_reset s ≡ new_set =
    ap (λ f. record {
      chunks = [];
      blocks = only s.blocks f;
      free = [];
      left = Rattle.chunk_contexts.specs.Set.first_size s.blocks f;
      next =
          Rattle.std.specs.Prelude.if◌then◌else◌ (is_some f) 16384 8192;
      first = f;
    }) none
    ∙ ap (λ (bs : List (Option ℕ)). record { chunks = []; blocks = only bs None; free = []; left = 0; next = 8192; first = None }) blocks in
    subst IsReset (sym new) (record {
      first = record { none = λ e. refl; size = λ block e. absurd (false≢true (ap is_some e)) };
      space = inl
          refl;
      held = inl refl;
    })
reset_by s (Some f) some first =
    let size : size_at s.blocks f ≡ 16384 = first.size f some in
    let low : f < length s.blocks = size_low s.blocks f size in
    let blocks : (set_reset s).blocks ≡ only s.blocks (Some f) = ap (only s.blocks) some in
    let all : total (set_reset s).blocks ≡ 16384 = ap total blocks ∙ total_one (length s.blocks) f (get_or s.blocks f None) low ∙ size in
    let left : (set_reset s).left ≡ 16384 = ap (λ o. Rattle.chunk_contexts.specs.Set.first_size s.blocks o) some ∙ size in
    record {
      first = record {
        none = λ e. absurd (false≢true (sym (ap is_some e) ∙ ap is_some some));
        size = λ block e.
            let one : f ≡ block = ap (λ o. unwrap_or o block) (sym some ∙ e) in
            ap (λ bs. size_at bs block) blocks ∙ ap (λ n. size_at (only s.blocks (Some f)) n) (sym one)
            ∙ ap (λ o. unwrap_or o 0) (get_or-set_same (replicate (length s.blocks) None) f (get_or s.blocks f None) None
            (subst (λ n. f < n) (sym (Rattle.std.proofs.lemmas.List.length-replicate (length s.blocks) None)) low)) ∙ size;
      };
      space = inr (record { some = ap is_some some; left = omega (arith, left); most = omega (arith, all) });
      held = inr all;
    }

pub set_is_reset : (s : SetState) → IsFirst s → IsReset (set_reset s)
set_is_reset s first = reset_by s s.first refl first

pub bump_reset : (c : Context) → IsBump c → IsBump (reset_context c) × (held_by (reset_context c) ≡ 0)
bump_reset (Bump s) is = (is, total_none (length s.blocks))
bump_reset _ none = absurd none

pub slab_reset_of : (width : ℕ) (c : Context) → IsSlabOf width c → IsSlabOf width (reset_context c) × (held_by (reset_context c) ≡ 0)
slab_reset_of width (Slab s) is = (is, total_none (length s.blocks))
slab_reset_of width _ none = absurd none
