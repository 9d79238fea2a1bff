-- Classes and their rooms.
use Rattle.std.proofs.Common.{◌≡◌, ℕ, ◌<◌, ◌≤◌, get_or, inl, inr, sym, arith, true, List, [], ◌∷◌, suc, length, ap, ◌∙◌, refl, ◌-◌}
use Rattle.chunk_contexts.proofs.Words.{nat_le, ◌==◌, is_in}
use Rattle.chunk_contexts.proofs.Laws.{le-leb, lt-leb, agree_below_at, eqb-true, cases_Bool, cond-false, false≢true, nat_tests}
use Rattle.chunk_contexts.proofs.Laws.{common_steps}
use Rattle.std.proofs.lemmas.List.Sums.{position_or_len_is}
use Rattle.chunk_contexts.specs.Rooms.{rooms, rooms_down, class_of, room_of}

pub room-is : (i : ℕ) → room_of i ≡ get_or rooms i 0
unfolding room_of rooms
room-is i = λ _. get_or rooms i 0

-- the first class whose room is enough
pub class_found : (i n : ℕ) → n ≤ room_of i → i < 11 → ((k : ℕ) → k < i → room_of k < n) → i ≡ class_of n
unfolding class_of rooms room_of
class_found i n here low before =
    sym (position_or_len_is (λ room. nat_le n room) rooms i 0 (omega (arith, low)) (λ k less. lt-leb n (get_or rooms k 0) (before k less))
    (λ _. le-leb n (get_or rooms i 0) here))

pub room_last : room_of 10 ≡ 8192
unfolding room_of rooms
room_last = refl

-- the class of a class's room
pub class-room : (i : ℕ) → i < 11 → class_of (room_of i) ≡ i
unfolding class_of room_of rooms
class-room i low = eqb-true (class_of (room_of i)) i (agree_below_at (λ k. class_of (room_of k) == k) (λ _. true) 11 i refl low)

pub room-inj : (i j : ℕ) → i < 11 → j < 11 → room_of i ≡ room_of j → i ≡ j
room-inj i j low low' same = sym (class-room i low) ∙ ap class_of same ∙ class-room j low'

-- what is in a list stands at a place of it
pub in-at : (n : ℕ) (xs : List ℕ) → is_in n xs ≡ true → (i : ℕ) × (i < length xs) × (get_or xs i 0 ≡ n)
in-at n [] is = absurd (false≢true is)
in-at n (x ∷ xs) is = elim (cases_Bool (x == n)) [
  | inl same ↦ (0, omega arith, eqb-true x n same)
  | inr other ↦ let rest = in-at n xs (sym (cond-false (x == n) true (is_in n xs) other)
      ∙ is) in (suc rest.0, omega (arith, rest.1), rest.2)
]

pub class-of_room : (room : ℕ) → is_in room rooms ≡ true → (class_of room < 11) × (room_of (class_of room) ≡ room)
unfolding rooms
class-of_room room is =
    let at = in-at room rooms is in
    let here : room_of at.0 ≡ room = room-is at.0 ∙ at.2 in
    let low : at.0 < 11 = at.1 in
    let class : class_of room ≡ at.0 = ap class_of (sym here) ∙ class-room at.0 low in
    (omega (arith, class, low), ap room_of class ∙ here)

pub in-small : (room : ℕ) → is_in room rooms ≡ true → room ≤ 8192
unfolding rooms
in-small room is = grind (arith, nat_tests, common_steps)

-- the rooms downward
pub room-down : (i : ℕ) → i < 11 → get_or rooms_down i 0 ≡ room_of (10 - i)
unfolding rooms_down rooms room_of
room-down i low = eqb-true (get_or rooms_down i 0) (room_of (10 - i)) (agree_below_at (λ k. get_or rooms_down k 0 == room_of (10 - k))
    (λ _. true) 11 i refl low)

pub length-down : length rooms_down ≡ 11
unfolding rooms_down
length-down = refl

pub in-some : (room : ℕ) → is_in room rooms ≡ true → 8 ≤ room
unfolding rooms
in-some room is = grind (arith, nat_tests, common_steps)
