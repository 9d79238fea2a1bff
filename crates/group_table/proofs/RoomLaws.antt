-- How much a table takes that holds nothing but its first block.
use Rattle.std.specs.Prelude.{◌≡◌, ℕ, ◌+◌, ◌≤◌, List, None, length}
use Rattle.std.proofs.Common.{sym, subst, arith, rules}
use Rattle.group_table.proofs.Words.{growth_of, held_by, TreeState, context_at, held_below, Context, Slab, Bump, TableState, array_growth}
use Rattle.group_table.proofs.Words.{group_growth, IsEmptied, IsSetWith, IsBump, IsSlabOf, IsFirst, HasArray, HasSpace, IsTableIn}
use Rattle.group_table.proofs.StandLaws.{set_of}
use Rattle.group_table.proofs.BlockLaws.{first_grows}
use Rattle.std.proofs.lemmas.Bool.Decides.{nat_tests}
use Rattle.std.proofs.lemmas.Grind.{common_steps}

-- a key, and a state
key_growth : (c : Context) (n : ℕ) → IsBump c → n ≤ 8192 → growth_of c n ≤ 8192
key_growth (Bump s) n is short = grind (arith, nat_tests, common_steps)
key_growth _ n none short = absurd none

state_growth : (c : Context) (width : ℕ) → IsSlabOf width c → width ≤ 8184 → growth_of c width ≤ 8192
state_growth (Slab s) width is short = grind (arith, nat_tests, common_steps)
state_growth _ width none short = absurd none

module _ {H : Type 0} (hash_of : H → List ℕ → ℕ) (t : TableState H) (tree : TreeState) (is : IsTableIn hash_of t tree)
    (emptied : IsEmptied t tree) (n : ℕ) (short : n ≤ 8192) (narrow : t.width ≤ 8184) where
  abbrev b : Context
  b = context_at tree t.buckets

  no_slots : length t.slots ≡ 0
  no_slots = grind (arith, nat_tests, common_steps)

  wanted : array_growth t tree ≡ growth_of b 8192
  wanted = search rules

  first : held_by b + growth_of b 8192 ≤ 16384
  first =
      let set = set_of (λ s. IsFirst s × HasArray hash_of t (context_at tree t.keys) t.array s) b is.standing.stands.set in
      let space = subst (IsSetWith (HasSpace None)) set.is (subst (λ a. IsSetWith (HasSpace a) b) emptied.array is.space) in
      subst (λ (c : Context). held_by c + growth_of c 8192 ≤ 16384) (sym set.is) (omega (arith, first_grows set.state set.with.0 space))

  pub all_growth : held_below tree t.parent + group_growth t tree n ≤ 32768
  all_growth = omega (
    arith,
    wanted,
    first,
    emptied.buckets,
    key_growth (context_at tree t.keys) n is.standing.stands.run short,
    state_growth (context_at tree t.states) t.width is.standing.stands.slab narrow,
  )
