-- What a context takes of blocks, and why it refuses a request.
use Rattle.std.proofs.Common.{◌≡◌, ℕ, zero, suc, Bool, List, [], ◌∷◌, length, get_or, cond, set, refl, ◌≤◌, false, sym, subst, arith}
use Rattle.std.proofs.Common.{Option, Some, None, true, Result, Ok, Err}
use Rattle.chunk_contexts.proofs.Words.{unwrap_or, replicate, nat_le, IsErrAnd, IfErr, total, only, room_of, class_of, rounded, IsRefused}
use Rattle.chunk_contexts.proofs.Words.{ContextError, LARGEST}
use Rattle.chunk_contexts.proofs.Laws.{le-leb, cond-true, total-set_none}
use Rattle.chunk_contexts.specs.Set.{set_room}

-- why a request is refused
pub refused-some : {X : Type 0} (result : Result X ContextError) (o : Option ContextError) (growth : ℕ) (f : ContextError)
    → IsErrAnd result (λ e. e ≡ f) → o ≡ Some f → IfErr result (IsRefused o growth)
refused-some (Ok x) o growth f is over = tt
refused-some (Err e) o growth f is over = subst (λ (o : Option ContextError). IsRefused o growth e) (sym over) is

pub room-classed : (n : ℕ) → n ≤ LARGEST → set_room n ≡ room_of (class_of n)
room-classed n low = cond-true (nat_le n LARGEST) (room_of (class_of n)) (rounded n) (le-leb n LARGEST low)

-- blocks of which one may be given back
pub less-by : (b : Bool) (blocks : List (Option ℕ)) (k : ℕ) → total (cond b (set blocks k None) blocks) ≤ total blocks
less-by true blocks k = let t = total-set_none blocks k in omega (arith, t)
less-by false blocks k = omega arith

pub total-none : (n : ℕ) → total (replicate n None) ≡ 0
total-none zero = refl
total-none (suc n) = omega (arith, total-none n)

total-one : (n k : ℕ) (x : Option ℕ) → total (set (replicate n None) k x) ≤ unwrap_or x 0
total-one zero k x = omega arith
total-one (suc n) zero x = omega (arith, total-none n)
total-one (suc n) (suc k) x = omega (arith, total-one n k x)

size-total : (blocks : List (Option ℕ)) (k : ℕ) → unwrap_or (get_or blocks k None) 0 ≤ total blocks
size-total [] k = omega arith
size-total (b ∷ blocks) zero = omega arith
size-total (b ∷ blocks) (suc k) = omega (arith, size-total blocks k)

pub total-only : (blocks : List (Option ℕ)) (keep : Option ℕ) → total (only blocks keep) ≤ total blocks
total-only blocks None = omega (arith, total-none (length blocks))
total-only blocks (Some k) = omega (arith, total-one (length blocks) k (get_or blocks k None), size-total blocks k)
