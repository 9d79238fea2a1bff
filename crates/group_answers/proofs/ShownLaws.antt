-- The row of an answer that a group gives.
use Rattle.std.specs.Prelude.{◌≡◌, ◌≢◌, refl, ℕ, ◌+◌, ◌<◌, Bool, true, false, cond, List, [], ◌∷◌, ◌++◌, map, filter, length, take, drop}
use Rattle.std.specs.Prelude.{slice_get, slice_index_or, Some}
use Rattle.std.proofs.lemmas.List.{drop_more}
use Rattle.std.proofs.Common.{sym, ◌∙◌, ap, subst, arith, append-nil, append_assoc}
use Rattle.grouping_model.specs.Datum.{Bigint_kind, HasKinds}
use Rattle.grouping_model.specs.Aggregates.{Partial, Outcome, Plain, outcome}
use Rattle.grouping_model.specs.Condition.{is_met}
use Rattle.grouping_model.specs.Query.{Query}
use Rattle.grouping_model.specs.Grouping.{Group, partials}
use Rattle.grouping_model.specs.Parts.{functions, key_kinds}
use Rattle.grouping_model.specs.Answer.{outcome_at, source_in, answered_of_none, answered, rows_of}
use Rattle.packed_rows.specs.Packing.{packing}
use Rattle.packed_rows.specs.View.{row_of}
use Rattle.packed_rows.specs.declared.value.Value.{Value}
use Rattle.agg_protocol.specs.States as states
use Rattle.agg_protocol.specs.declared.kind.AggKind.{AggKind}
use Rattle.agg_protocol.specs.Kinds.{kind_shape, kind_width}
use Rattle.agg_library.specs.StateRows.{DenotesAll}
use Rattle.group_runs.specs.Runs.{Entry}
use Rattle.group_runs.specs.Standing.{AreStates, StandsFor, AreGroups}
use Rattle.agg_library.specs.StateRowLaws.{first_and_rest}
use Rattle.group_runs.specs.PlaceLaws.{dropped}
use Rattle.group_runs.specs.Lemmas.RunLaws.{packed_once}

-- ---- the states of a group

pub partials_long : (m : ℕ) (kinds : List AggKind) (bytes : List ℕ) (ps : List Partial) → DenotesAll m kinds bytes ps → length ps
    ≡ length kinds
partials_long m [] bytes [] d = refl
partials_long m [] bytes (p ∷ ps) d = absurd d
partials_long m (k ∷ ks) bytes [] d = absurd d
partials_long m (k ∷ ks) bytes (p ∷ ps) (first, rest) = let long : length ps ≡ length ks = partials_long m ks (drop (kind_width k) bytes) ps
    rest in omega (arith, long)

-- the states from a place on
pub record NextState (m : ℕ) (kinds : List AggKind) (i : ℕ) (kind : AggKind) (rest : List ℕ) (ps : List Partial) : Type 0 where
  pub partial : Partial
  pub at : slice_get ps i ≡ Some partial
  pub denotes : states.Denotes m (kind_shape kind) (take (kind_width kind) rest) partial
  pub others : DenotesAll m (drop (i + 1) kinds) (drop (kind_width kind) rest) (drop (i + 1) ps)

pub next_state : (m : ℕ) (kinds : List AggKind) (i : ℕ) (default : AggKind) (rest : List ℕ) (ps : List Partial) → i < length kinds
    → DenotesAll m (drop i kinds) rest (drop i ps) → NextState m kinds i (slice_index_or kinds i default) rest ps
next_state m kinds i default rest ps low d =
    let kind : AggKind = slice_index_or kinds i default in
    let parts = first_and_rest m kind (drop (i + 1) kinds) rest (drop i ps)
    (subst (λ ks. DenotesAll m ks rest (drop i ps)) (drop_more kinds i default low) d) in
    let at = dropped ps i parts.0 parts.1 parts.2 in
    record {
      partial = parts.0;
      at = at.0;
      denotes = parts.3;
      others = subst (DenotesAll m (drop (i + 1) kinds) (drop (kind_width kind) rest)) (sym at.1) parts.4;
    }

-- ---- the values that HAVING and the items read

pub sources_are : (keys results : List Outcome) (group : Group) → keys ≡ map Plain group.0 → results ≡ map outcome group.1
    → outcome_at keys results ≡ source_in group
sources_are keys results group are_keys are_results = λ i. outcome_at (are_keys i) (are_results i)

-- a key is that of the group
pub key_is : (q : Query) (most : ℕ) (key states : List ℕ) (values : List Value) (group : Group) → HasKinds (key_kinds q) (row_of values)
    → key ≡ packing (row_of values) → StandsFor q most (key, states) group → row_of values ≡ group.0
key_is q most key states values group has is stands = packed_once (key_kinds q) key (row_of values) group.0 has stands.of_kinds is
    stands.key

-- a group that is shown, and one that is not
pub shown : (q : Query) (group : Group) (items : List Outcome) → is_met (source_in group) q.having ≡ true → items
    ≡ map (source_in group) q.items → items ∷ [] ≡ rows_of q (group ∷ [])
shown q group items met are = ap (λ row. row ∷ []) are
    ∙ ap (λ b. map (λ (group : Group). map (source_in group) q.items) (cond b (group ∷ []) [])) (sym met)

pub not_shown : (q : Query) (group : Group) → is_met (source_in group) q.having ≡ false → [] ≡ rows_of q (group ∷ [])
not_shown q group met = ap (λ b. map (λ (group : Group). map (source_in group) q.items) (cond b (group ∷ []) [])) (sym met)

-- the rows of a group and of others
rows_both : (q : Query) (group : Group) (groups : List Group) → rows_of q (group ∷ groups) ≡ rows_of q (group ∷ []) ++ rows_of q groups
rows_both q group groups =
    elim (is_met (source_in group) q.having) as (λ b. map (row q) (cond b (group ∷ filter (met q) groups) (filter (met q) groups))
    ≡ map (row q) (cond b (group ∷ []) []) ++ map (row q) (filter (met q) groups)) [
      | true ↦ refl
      | false ↦ refl
    ]
  where
    row : Query → Group → List Outcome
    row q group = map (source_in group) q.items

    met : Query → Group → Bool
    met q group = is_met (source_in group) q.having

-- ---- the groups of a run

-- what is left of a run, behind the groups that an answer has
pub record LeftOver (q : Query) (most : ℕ) (left : List Entry) (answer : List (List Outcome)) (groups : List Group) : Type 0 where
  pub others : List Group
  pub are : AreGroups q most left others
  pub whole : answer ++ rows_of q others ≡ rows_of q groups

-- the first group of what is left, and what is left behind it
pub record FirstLeft (q : Query) (most : ℕ) (entry : Entry) (left : List Entry) (answer : List (List Outcome)) (groups : List Group) :
    Type 0 where
  pub group : Group
  pub stands : StandsFor q most entry group
  pub behind : (more : List (List Outcome)) → more ≡ answer ++ rows_of q (group ∷ []) → LeftOver q most left more groups

pub first_left : (q : Query) (most : ℕ) (entry : Entry) (left : List Entry) (answer : List (List Outcome)) (groups : List Group)
    → LeftOver q most (entry ∷ left) answer groups → FirstLeft q most entry left answer groups
first_left q most entry left answer groups over = at over.others over.are over.whole
  where
    at : (others : List Group) → AreGroups q most (entry ∷ left) others → answer ++ rows_of q others ≡ rows_of q groups
        → FirstLeft q most entry left answer groups
    at [] are whole = absurd are
    at (group ∷ others) (first, rest) whole =
        record {
          group = group;
          stands = first;
          behind =
              λ more is.
              record {
                others = others;
                are = rest;
                whole =
                    ap (λ rows. rows ++ rows_of q others) is
                    ∙ append_assoc answer (rows_of q (group ∷ [])) (rows_of q others)
                    ∙ ap (λ rows. answer ++ rows) (sym (rows_both q group others))
                    ∙ whole;
              };
        }

-- nothing is left
pub none_left : (q : Query) (most : ℕ) (left : List Entry) (answer : List (List Outcome)) (groups : List Group) → left ≡ []
    → LeftOver q most left answer groups → answer ≡ rows_of q groups
none_left q most (entry ∷ left) answer groups none over = absurd cc
none_left q most [] answer groups none over = at over.others over.are over.whole
  where
    at : (others : List Group) → AreGroups q most [] others → answer ++ rows_of q others ≡ rows_of q groups → answer ≡ rows_of q groups
    at [] are whole = sym (append-nil answer) ∙ whole
    at (group ∷ others) are whole = absurd are

-- the whole of a run is left
pub all_left : (q : Query) (most : ℕ) (run : List Entry) (answer : List (List Outcome)) (groups : List Group) → answer ≡ []
    → AreGroups q most run groups → LeftOver q most run answer groups
all_left q most run answer groups none are = record { others = groups; are = are; whole = ap (λ rows. rows ++ rows_of q groups) none }

-- groups that are there are answered, and those of an empty run are none
pub answered_some : (q : Query) (groups : List Group) → length groups ≢ 0 → answered q groups ≡ groups
answered_some q [] some = absurd (some refl)
answered_some q (g ∷ groups) some = refl

pub answered_none : (q : Query) (keys : List ℕ) → keys ≢ [] → answered_of_none q keys ≡ []
answered_none q [] some = absurd (some refl)
answered_none q (place ∷ places) some = refl

-- the group of no rows, without GROUP BY
pub empty_stands : (q : Query) (bytes : List ℕ) → q.keys ≡ [] → AreStates (functions q) 0 bytes (partials q [])
    → StandsFor q 0 ([], bytes) ([], partials q [])
empty_stands q bytes none states =
    record {
      key = refl;
      of_kinds = subst (λ keys. HasKinds (map (λ place. slice_index_or q.kinds place Bigint_kind) keys) []) (sym none) tt;
      states = states;
    }
