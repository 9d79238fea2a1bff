-- What all inputs together give.
use Rattle.std.specs.Prelude.{◌≡◌, refl, ℕ, zero, suc, ◌<◌, ◌≤◌, List, [], ◌∷◌, ◌++◌, length, map, Some, slice_get, slice_index_or}
use Rattle.std.proofs.Common.{sym, ◌∙◌, ap, subst, arith, append-nil, append_assoc}
use Rattle.std.proofs.lemmas.List.{length-map, get_or-map}
use Rattle.std.proofs.lemmas.Option.{slice_get-get_or}
use Rattle.std.specs.List.{AllByRecursion}
use Rattle.hash_agg.proofs.Words.{Row, Kind, HasKinds, row_cmp, distinct, Query, Group, part, keys_of, packing, Input, Entry, packed_keys}
use Rattle.hash_agg.proofs.Words.{AreGroups, concatenated, Brought, Packed, Counted, brought, IsInput, AreInputsOf, Given, Of_rows}
use Rattle.hash_agg.proofs.Words.{Of_groups, AllGive, rows_added, groups_added}
use Rattle.hash_agg.specs.Inputs.{Gives}
use Rattle.group_runs.specs.MergeLaws.{puts}
use Rattle.group_runs.specs.Lemmas.MergeLaws.{rows_added_part, groups_added_part, puts_all, distinct_few}
use Rattle.group_runs.specs.StandingLaws.{keys_packed}
use Rattle.group_runs.specs.Lemmas.RunLaws.{packed_once}

-- the groups after all that an input gives, and after all that some inputs give
abbrev pub given_added : Query → List Group → Given → List Group
given_added query groups (Of_rows rows) = rows_added query groups rows
given_added query groups (Of_groups more) = groups_added query groups more

abbrev pub all_added : Query → List Group → List Given → List Group
all_added query groups [] = groups
all_added query groups (given ∷ givens) = all_added query (given_added query groups given) givens

-- what may be aggregated gives something
one_given : (q : Query) (input : Brought) → IsInput q input → (given : Given) × Gives q input given
one_given q (Packed packed) (rows, are) = (Of_rows rows, are)
one_given q (Counted run most) is = (Of_groups is.groups, is.are)

pub all_given : (q : Query) (inputs : List Brought) → AllByRecursion (IsInput q) inputs → (givens : List Given) × AllGive q inputs givens
all_given q [] all = ([], tt)
all_given q (input ∷ inputs) (first, all) =
    let one = one_given q input first in
    let rest = all_given q inputs all in
    (one.0 ∷ rest.0, (one.1, rest.1))

-- an input at a place, and what it gives
pub record GivenAt (q : Query) (givens : List Given) (i : ℕ) (input : Brought) : Type 0 where
  pub given : Given
  pub at : slice_get givens i ≡ Some given
  pub gives : Gives q input given

pub given_at : (q : Query) (inputs : List Brought) (givens : List Given) (i : ℕ) (input : Brought) → AllGive q inputs givens
    → i < length inputs → input ≡ slice_index_or inputs i input → GivenAt q givens i input
given_at q [] givens i input all low is = absurd (omega arith)
given_at q (x ∷ inputs) [] i input all low is = absurd all
given_at q (x ∷ inputs) (g ∷ givens) zero input (first, all) low is = record {
  given = g;
  at = refl;
  gives = subst (λ x. Gives q x g)
      (sym is) first;
}
given_at q (x ∷ inputs) (g ∷ givens) (suc i) input (first, all) low is =
    let found = given_at q inputs givens i input all (omega arith) is in
    record { given = found.given; at = found.at; gives = found.gives }

-- an input of the code at a place, as what it brings
pub record InputAt (inputs : List Brought) (i : ℕ) (input : Brought) : Type 0 where
  pub within : i < length inputs
  pub is : input ≡ slice_index_or inputs i input
  pub at : slice_get inputs i ≡ Some input

pub brought_at : (inputs : List Input) (i : ℕ) (input : Input) → i < length inputs → input ≡ slice_index_or inputs i input
    → InputAt (map brought inputs) i (brought input)
brought_at inputs i input low is =
    let same : length (map brought inputs) ≡ length inputs = length-map inputs brought in
    let here : brought input ≡ slice_index_or (map brought inputs) i (brought input) = ap brought is
    ∙ sym (get_or-map brought inputs i input (brought input) low) in
    let within : i < length (map brought inputs) = omega (arith, low, same) in
    record { within = within; is = here; at = slice_get-get_or (map brought inputs) i (brought input) within ∙ ap Some (sym here) }

-- ---- lists of rows

-- inputs that stand for lists of rows give their part
pub record GivePart (q : Query) (inputs : List Brought) (rows all : List Row) : Type 0 where
  pub givens : List Given
  pub give : AllGive q inputs givens
  pub added : all_added q (part q rows) givens ≡ part q all

pub lists_give : (q : Query) (inputs : List Brought) (lists : List (List Row)) (rows : List Row) → AreInputsOf q inputs lists
    → GivePart q inputs rows (rows ++ concatenated lists)
lists_give q [] [] rows are = record { givens = []; give = tt; added = ap (part q) (sym (append-nil rows)) }
lists_give q [] (xs ∷ lists) rows are = absurd are
lists_give q (x ∷ inputs) [] rows are = absurd are
lists_give q (Packed packed ∷ inputs) (xs ∷ lists) rows (first, are) =
    let rest = lists_give q inputs lists (rows ++ xs) are in
    record {
      givens = Of_rows xs ∷ rest.givens;
      give = (first, rest.give);
      added =
          ap (λ gs. all_added q gs rest.givens) (rows_added_part q q.kinds rows xs first.of_kinds)
          ∙ rest.added
          ∙ ap (part q) (append_assoc rows xs (concatenated lists));
    }
lists_give q (Counted run most ∷ inputs) (xs ∷ lists) rows (first, are) =
    let rest = lists_give q inputs lists (rows ++ xs) are in
    record {
      givens = Of_groups (part q xs) ∷ rest.givens;
      give = (first, rest.give);
      added =
          ap (λ gs. all_added q gs rest.givens) (groups_added_part q rows xs)
          ∙ rest.added
          ∙ ap (part q) (append_assoc rows xs (concatenated lists));
    }

-- ---- keys

-- keys of the same packings are the same
pub packings_once : (kinds : List Kind) (xs ys : List Row) → AllByRecursion (HasKinds kinds) xs → AllByRecursion (HasKinds kinds) ys
    → map packing xs ≡ map packing ys → xs ≡ ys
packings_once kinds [] [] hx hy e = refl
packings_once kinds [] (y ∷ ys) hx hy e = absurd cc
packings_once kinds (x ∷ xs) [] hx hy e = absurd cc
packings_once kinds (x ∷ xs) (y ∷ ys) (hx, hxs) (hy, hys) e =
    let first : packing x ≡ packing y = cc in
    let rest : map packing xs ≡ map packing ys = cc in
    λ i. packed_once kinds (packing y) x y hx hy (sym first) refl i ∷ packings_once kinds xs ys hxs hys rest i

-- the keys of a run that stands for the groups of some keys
pub keys_are : (q : Query) (most : ℕ) (run : List Entry) (groups : List Group) (keys : List Row) → AreGroups q most run groups
    → keys_of groups ≡ puts [] keys → packed_keys run ≡ map packing (distinct row_cmp keys)
keys_are q most run groups keys are is = keys_packed q most run groups are ∙ ap (map packing) (is ∙ puts_all keys)

pub keys_few : (run : List Entry) (keys : List Row) → packed_keys run ≡ map packing (distinct row_cmp keys) → length run ≤ length keys
keys_few run keys is =
    let same : length run ≡ length (distinct row_cmp keys) = sym (length-map run (λ (e : Entry). e.0)) ∙ ap length is
    ∙ length-map (distinct row_cmp keys) packing in
    let few : length (distinct row_cmp keys) ≤ length keys = distinct_few keys in
    omega (arith, same, few)
