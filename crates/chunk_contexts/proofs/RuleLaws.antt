-- What an `AllocSet` computes is what its rules say.
use Rattle.std.proofs.Common.{◌≡◌, ℕ, ◌+◌, ◌-◌, ◌*◌, ◌<◌, ◌≤◌, inl, inr, Bool, true, false, List, [], ◌∷◌, ◌++◌, get_or, cond, refl, sym}
use Rattle.std.proofs.Common.{ap, ◌∙◌, subst, arith, append_assoc}
use Rattle.chunk_contexts.proofs.Words.{◌||◌, nat_le, reverse, ChunkContents, class_of, is_in, LARGEST}
use Rattle.chunk_contexts.proofs.Laws.{agree_below, agree_below_at, leb-true, leb-false, cases_Bool, le-leb, reverse-append, nat_tests}
use Rattle.chunk_contexts.proofs.Laws.{common_steps}
use Rattle.chunk_contexts.specs.Rooms.{rooms, rooms_down, room_of}
use Rattle.chunk_contexts.specs.Set.{SetState, cut_up, block_size, set_growth, set_room, set_taken, taken_by}
use Rattle.chunk_contexts.specs.SetRules.{IsCutUp, IsDoubled}
use Rattle.chunk_contexts.proofs.ClassLaws.{in-at, in-some}
use Rattle.chunk_contexts.proofs.Growth.{room-classed}

-- no class lies between this room and its double
abbrev IsStep : ℕ → Type 0
IsStep room = (other : ℕ) → is_in other rooms ≡ true → other < 2 * room → other ≤ room

abbrev is_apart : ℕ → ℕ → Bool
unfolding rooms
is_apart room i = nat_le (get_or rooms i 0) room || nat_le (2 * room) (get_or rooms i 0)

step : (room : ℕ) → agree_below (is_apart room) (λ _. true) 11 ≡ true → IsStep room
unfolding rooms
step room tested other is less = grind (
  arith,
  nat_tests,
  common_steps,
  in-at other rooms is,
  agree_below_at (is_apart room) (λ _. true) 11,
  leb-true,
  leb-true (2 * room),
)

-- these classes halve the room above them, down to the smallest one
abbrev Halves : ℕ → List ℕ → Type 0
Halves above [] = above ≡ 8
Halves above (room ∷ rs) = (above ≡ 2 * room) × (is_in room rooms ≡ true) × (IsStep room) × (Halves room rs)

down-halves : Halves 16384 rooms_down
unfolding rooms rooms_down
down-halves = (
  refl,
  refl,
  step 8192 refl,
  (
    refl,
    refl,
    step 4096 refl,
    (
      refl,
      refl,
      step 2048 refl,
      (
        refl,
        refl,
        step 1024 refl,
        (
          refl,
          refl,
          step 512 refl,
          (
            refl,
            refl,
            step 256 refl,
            (
              refl,
              refl,
              step 128 refl,
              (refl, refl, step 64 refl, (refl, refl, step 32 refl, (refl, refl, step 16 refl, (refl, refl, step 8 refl, refl)))),
            ),
          ),
        ),
      ),
    ),
  ),
)

-- one class after the other, of which the one above does not fit
cut-rule : (rs : List ℕ) (above left : ℕ) (free : List ℕ) → Halves above rs → left < above + 8 → IsCutUp left free (cut_up rs left free)
cut-rule [] above left free halves less = record {
  cut = [];
  free = refl;
  each = omega (arith, halves, less);
  sum =
      (omega arith, omega (arith, halves, less));
}
cut-rule (room ∷ rs) above left free halves less = elim (cases_Bool (nat_le (room + 8) left)) [
  | inl fits ↦
      let enough = leb-true (room + 8) left fits in
      let rest = cut-rule rs room (left - (room + 8)) (room ∷ free) halves.3 (omega (arith, halves.0, less, enough)) in
      record {
        cut = room ∷ rest.cut;
        free = (λ i. cut_up rs (cond (fits i) (left - (room + 8)) left) (cond (fits i) (room ∷ free) free)) ∙ rest.free
            ∙ sym (ap (λ (cs : List ℕ). cs ++ free) (reverse-append (room ∷ []) rest.cut)
            ∙ append_assoc (reverse rest.cut) (room ∷ []) free);
        each = (
          omega (arith, enough, in-some room halves.1),
          record { known = halves.1; fits = enough; largest = λ other is here. halves.2 other is (omega (arith, halves.0, less, here)) },
          rest.each,
        );
        sum = (omega (arith, rest.sum.0, enough), omega (arith, rest.sum.1, enough));
      }
  | inr full ↦
      let rest = cut-rule rs room left free halves.3 (omega (arith, leb-false (room + 8) left full)) in
      record {
        cut = rest.cut;
        free = (λ i. cut_up rs (cond (full i) (left - (room + 8)) left) (cond (full i) (room ∷ free) free)) ∙ rest.free;
        each = rest.each;
        sum = rest.sum;
      }
]

-- ---- a request of a class that takes a block
room-top : (class : ℕ) → room_of class ≤ 8192
unfolding room_of rooms
room-top class = grind (arith, nat_tests, common_steps)

module _ (s : SetState) (n : ℕ) (small : n ≤ LARGEST) (some : 0 < set_growth s n) where
  classed : nat_le n LARGEST ≡ true
  classed = le-leb n LARGEST small

  new-block : (is_in (set_room n) s.free ≡ false) × (nat_le (set_room n + 8) s.left ≡ false)
      × (set_growth s n ≡ block_size s.next (set_room n))
  new-block = grind (arith, nat_tests, common_steps)

  room-small : set_room n ≤ LARGEST
  room-small = omega (arith, room-classed n small, room-top (class_of n))

  pub cut-by_rule : (p : ChunkContents) → p.room ≡ set_room n → IsCutUp s.left s.free (set_taken s n p).free
  cut-by_rule p room =
      let none : is_in p.room s.free ≡ false = ap (λ (r : ℕ). is_in r s.free) room ∙ new-block.0 in
      let full : nat_le (p.room + 8) s.left ≡ false = ap (λ (r : ℕ). nat_le (r + 8) s.left) room ∙ new-block.1 in
      let after : (set_taken s n p).free ≡ cut_up rooms_down s.left s.free = λ i. (taken_by (classed i) (none i) (full i) s p).free in
      subst (IsCutUp s.left s.free) (sym after) (cut-rule rooms_down 16384 s.left s.free down-halves
      (omega (arith, leb-false (set_room n + 8) s.left new-block.1, room-small)))

  pub size-by_rule : 8192 ≤ s.next → IsDoubled s.next (set_room n + 8) (set_growth s n)
  size-by_rule least = grind (arith, nat_tests, common_steps, room-small)

pub size-most : (s : SetState) (n : ℕ) → n ≤ LARGEST → s.next ≤ 1048576 → set_growth s n ≤ 1048576
size-most s n small most = grind (arith, nat_tests, common_steps, room-small s n small)
