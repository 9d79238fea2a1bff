-- Laws: what bytes stand for; these definitions serve the laws alone.
use Rattle.std.specs.Prelude.{◌≡◌, refl, ℕ, zero, suc, ◌≤◌, List, [], ◌∷◌, length, map, sum_by, Some, slice_get}
use Rattle.std.proofs.Common.{sym, ◌∙◌, ap, subst, leb-true}
use Rattle.std.specs.List.{AllByRecursion}
use Rattle.std.proofs.lemmas.List.{length-map}
use Rattle.std.proofs.lemmas.Option.{none-some, same_Some}
use Rattle.std.proofs.Math.Nat.{le_trans, mul-le-mul_right}
use Rattle.grouping_model.specs.Aggregates.{Function, Partial, partial}
use Rattle.grouping_model.specs.Datum.{HasKinds}
use Rattle.grouping_model.specs.Query.{Aggregate, Query}
use Rattle.grouping_model.specs.Grouping.{Group, arguments, partials}
use Rattle.grouping_model.specs.Parts.{functions, keys_of, key_kinds}
use Rattle.packed_rows.specs.Packing.{packing}
use Rattle.agg_protocol.specs.States as states
use Rattle.agg_protocol.specs.States.{shape_of}
use Rattle.agg_protocol.specs.declared.kind.AggKind.{AggKind}
use Rattle.agg_protocol.specs.Kinds.{function_of, functions_of, kind_for}
use Rattle.agg_library.specs.StateRows.{ArePartials, DenotesAll, initial_partials}
use Rattle.agg_library.specs.StateRowLaws.{all_raised, by_functions, bytes_states, name_all, narrow, states_bytes, states_wide}
use Rattle.agg_library.specs.StateRowLaws.{widths_named}
use Rattle.group_runs.specs.Runs.{Entry, packed_keys}
use Rattle.group_runs.specs.Standing.{AreStates, StandsFor, AreGroups, IsGroupOf, group_bytes, run_bytes, states_width}

-- ---- the states of a group

-- the states of kinds that name the functions
pub states_by : (these : List Function) (m : ℕ) (kinds : List AggKind) (bytes : List ℕ) (ps : List Partial) → functions_of kinds ≡ these
    → AreStates these m bytes ps → DenotesAll m kinds bytes ps
states_by these m kinds bytes ps named are = by_functions m are.kinds kinds bytes ps (are.named ∙ sym named) are.denote

-- the same states with a higher bound
pub states_raised : (these : List Function) (m most : ℕ) (bytes : List ℕ) (ps : List Partial) → m ≤ most → AreStates these m bytes ps
    → AreStates these most bytes ps
states_raised these m most bytes ps low are = record {
  kinds = are.kinds;
  named = are.named;
  denote = all_raised m most are.kinds bytes ps
      low are.denote;
}

-- states of a query are all as long
pub states_long : (q : Query) (m : ℕ) (bytes : List ℕ) (ps : List Partial) → AreStates (functions q) m bytes ps → length bytes
    ≡ states_width q
states_long q m bytes ps are = states_wide m are.kinds bytes ps are.denote ∙ widths_named are.kinds
    ∙ ap (λ these. sum_by (λ function. states.width_of (shape_of function)) these) are.named

-- states are not too long for a table
pub states_short : (q : Query) (m : ℕ) (bytes : List ℕ) (ps : List Partial) → length q.aggregates ≤ 32 → AreStates (functions q) m bytes ps
    → length bytes ≤ 8184
states_short q m bytes ps some are =
    let many : length are.kinds ≡ length q.aggregates = sym (length-map are.kinds _) ∙ ap length are.named ∙ length-map q.aggregates _ in
    let few : length are.kinds ≤ 32 = subst (λ n. n ≤ 32) (sym many) some in
    subst (λ n. n ≤ 8184) (sym (states_wide m are.kinds bytes ps are.denote))
    (le_trans (narrow are.kinds) (le_trans (mul-le-mul_right 24 few) (leb-true 768 8184 refl)))

-- what the functions of a query begin with is what it has over no rows
initial_are : (kinds : List AggKind) (aggregates : List Aggregate) → functions_of kinds ≡ map (λ (a : Aggregate). a.function) aggregates
    → initial_partials kinds ≡ map (λ (a : Aggregate). partial a.function (arguments a [])) aggregates
initial_are [] [] named = refl
initial_are (k ∷ ks) (a ∷ calls) named =
    let one : function_of k ≡ a.function = cc in
    let rest : functions_of ks ≡ map (λ (a : Aggregate). a.function) calls = cc in
    λ i. partial (one i) [] ∷ initial_are ks calls rest i
initial_are _ _ named = absurd cc

pub initial_of : (q : Query) (kinds : List AggKind) (bytes : List ℕ) → functions_of kinds ≡ functions q
    → AreStates (functions_of kinds) 0 bytes (initial_partials kinds) → AreStates (functions q) 0 bytes (partials q [])
initial_of q kinds bytes named are =
    subst (AreStates (functions q) 0 bytes) (initial_are kinds q.aggregates named)
    (subst (λ these. AreStates these 0 bytes (initial_partials kinds)) named are)

-- ---- the groups of a run

-- the same groups with a higher bound
pub groups_raised : (q : Query) (m n : ℕ) (es : List Entry) (gs : List Group) → m ≤ n → AreGroups q m es gs → AreGroups q n es gs
groups_raised q m n [] [] low are = tt
groups_raised q m n (e ∷ es) (g ∷ gs) low (first, rest) = (
  record { key = first.key; of_kinds = first.of_kinds; states = states_raised (functions q) m n e.1 g.1 low first.states },
  groups_raised
      q m n es gs low rest,
)
groups_raised q m n _ _ low are = absurd are

-- an entry at a place, and the group that it stands for
pub record GroupAt (q : Query) (most : ℕ) (groups : List Group) (i : ℕ) (entry : Entry) : Type 0 where
  pub group : Group
  pub at : slice_get groups i ≡ Some group
  pub stands : StandsFor q most entry group

pub group_at : (q : Query) (most : ℕ) (run : List Entry) (groups : List Group) (i : ℕ) (entry : Entry) → AreGroups q most run groups
    → slice_get run i ≡ Some entry → GroupAt q most groups i entry
group_at q most [] groups i entry are at = absurd (none-some entry at)
group_at q most (e ∷ run) [] i entry are at = absurd are
group_at q most (e ∷ run) (g ∷ groups) zero entry (first, rest) at =
    record { group = g; at = refl; stands = subst (λ e. StandsFor q most e g) (same_Some e entry at) first }
group_at q most (e ∷ run) (g ∷ groups) (suc i) entry (first, rest) at =
    let found = group_at q most run groups i entry rest at in
    record { group = found.group; at = found.at; stands = found.stands }

pub groups_long : (q : Query) (most : ℕ) (run : List Entry) (groups : List Group) → AreGroups q most run groups → length run ≡ length groups
groups_long q most [] [] are = refl
groups_long q most (e ∷ run) (g ∷ groups) (first, rest) = ap suc (groups_long q most run groups rest)
groups_long q most _ _ are = absurd are

-- the keys of a run
pub keys_packed : (q : Query) (most : ℕ) (run : List Entry) (groups : List Group) → AreGroups q most run groups → packed_keys run
    ≡ map packing (keys_of groups)
keys_packed q most [] [] are = refl
keys_packed q most (e ∷ run) (g ∷ groups) (first, rest) = λ i. first.key i ∷ keys_packed q most run groups rest i
keys_packed q most _ _ are = absurd are

pub keys_of_kinds : (q : Query) (most : ℕ) (run : List Entry) (groups : List Group) → AreGroups q most run groups
    → AllByRecursion (HasKinds (key_kinds q)) (keys_of groups)
keys_of_kinds q most [] [] are = tt
keys_of_kinds q most (e ∷ run) (g ∷ groups) (first, rest) = (first.of_kinds, keys_of_kinds q most run groups rest)
keys_of_kinds q most _ _ are = absurd are

-- what stands for groups is their bytes
one_stands : (query : Query) (most : ℕ) (entry : Entry) (group : Group) → StandsFor query most entry group → (entry ≡ group_bytes group)
    × IsGroupOf query most group
one_stands query most entry group stands =
    let found = states_bytes most stands.states.kinds entry.1 group.1 stands.states.denote in (
      λ i. (stands.key i, found.0 i),
      record {
        key = stands.of_kinds;
        partials = subst (λ fs. ArePartials most fs group.1)
            stands.states.named found.1;
      },
    )

one_spelled : (query : Query) (most : ℕ) (group : Group) → IsGroupOf query most group → StandsFor query most (group_bytes group) group
one_spelled query most group is =
    record {
      key = refl;
      of_kinds = is.key;
      states = record {
        kinds = map kind_for (functions query);
        named = name_all (functions query);
        denote = bytes_states most
            (functions query) group.1 is.partials;
      };
    }

pub stands_spelled : (query : Query) (most : ℕ) (run : List Entry) (groups : List Group) → AreGroups query most run groups
    → (run ≡ run_bytes groups) × AllByRecursion (IsGroupOf query most) groups
stands_spelled query most [] [] are = (refl, tt)
stands_spelled query most (entry ∷ run) (group ∷ groups) (one, are) =
    let first = one_stands query most entry group one in
    let rest = stands_spelled query most run groups are in
    (λ i. first.0 i ∷ rest.0 i, (first.1, rest.1))
stands_spelled query most _ _ are = absurd are

pub spelled_stands : (query : Query) (most : ℕ) (groups : List Group) → AllByRecursion (IsGroupOf query most) groups
    → AreGroups query most (run_bytes groups) groups
spelled_stands query most [] all = tt
spelled_stands query most (group ∷ groups) (one, all) = (one_spelled query most group one, spelled_stands query most groups all)
