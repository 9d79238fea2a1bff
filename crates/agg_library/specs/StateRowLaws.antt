-- Laws: rows of states; nothing here is a definition.
use Rattle.std.specs.Prelude.{◌≡◌, refl, ℕ, suc, ◌+◌, ◌*◌, ◌^◌, ◌<◌, ◌≤◌, List, [], ◌∷◌, ◌++◌, length, map, take, drop, sum_by}
use Rattle.std.specs.Prelude.{slice_index_or}
use Rattle.std.proofs.Common.{sym, ◌∙◌, ap, subst, zero-le, leb-true}
use Rattle.std.proofs.lemmas.List.{length-append, length-map, take-append-drop}
use Rattle.std.proofs.Math.Seq.{take-append_seam, drop-append_seam}
use Rattle.std.proofs.lemmas.List.Sums.{sum_by-cons}
use Rattle.std.proofs.Math.Nat.{le_trans, suc-ne-zero, add_comm, suc-mul, add-le-add, mul-le-mul_right, lt_of_le_of_lt}
use Rattle.grouping_model.specs.Aggregates.{Function, Partial}
use Rattle.grouping_model.specs.Query.{Aggregate}
use Rattle.agg_protocol.specs.States as states
use Rattle.agg_protocol.specs.States.{IsState, Shape, bytes_of, widest_is_sum, shape_of}
use Rattle.agg_protocol.specs.DenotingLaws.{width_known, within, state_rows}
use Rattle.agg_protocol.specs.declared.kind.AggKind.{AggKind}
use Rattle.agg_protocol.specs.Kinds.{function_of, functions_of, kind_for, kind_for_names, kind_shape, kind_width, row_width}
use Rattle.agg_library.specs.StateRows.{ArePartials, DenotesAll, state_bytes}

-- ---- what states denote

-- the same state with a higher bound
pub raised : (m most : ℕ) (s : Shape) (bytes : List ℕ) (p : Partial) → m ≤ most → states.Denotes m s bytes p → states.Denotes most s bytes p
raised m most s bytes p low (state, spelled) =
    (within m most s p state (le_trans (state_rows m s p state) low), spelled)

-- the first state and the others
pub first_and_rest : (m : ℕ) (kind : AggKind) (kinds : List AggKind) (bytes : List ℕ) (ps : List Partial)
    → DenotesAll m (kind ∷ kinds) bytes ps
    → (p : Partial) × (qs : List Partial) × (ps ≡ p ∷ qs) × states.Denotes m (kind_shape kind) (take (kind_width kind) bytes) p
    × DenotesAll m kinds (drop (kind_width kind) bytes) qs
first_and_rest m kind kinds bytes [] d = absurd d
first_and_rest m kind kinds bytes (p ∷ qs) (first, rest) = (p, qs, refl, first, rest)

pub joined : (m : ℕ) (kind : AggKind) (all kinds : List AggKind) (front back : List ℕ) (p : Partial) (ps : List Partial) → all ≡ kind
    ∷ kinds → states.Denotes m (kind_shape kind) front p → DenotesAll m kinds back ps → DenotesAll m all (front ++ back) (p ∷ ps)
joined m kind all kinds front back p ps is d ds =
    let wide : length front ≡ kind_width kind = width_known m (kind_shape kind) front p d in
    let one : take (kind_width kind) (front ++ back) ≡ front = ap (λ n. take n (front ++ back)) (sym wide) ∙ take-append_seam front back in
    let others : drop (kind_width kind) (front ++ back) ≡ back = ap (λ n. drop n (front ++ back)) (sym wide)
    ∙ drop-append_seam front back in
    subst (λ ks. DenotesAll m ks (front ++ back) (p ∷ ps)) (sym is) (
      subst (λ b. states.Denotes m (kind_shape kind) b p) (sym one) d,
      subst (λ b. DenotesAll m kinds b ps) (sym others) ds,
    )

-- the kinds matter by their functions alone
pub by_functions : (m : ℕ) (ks ls : List AggKind) (bytes : List ℕ) (ps : List Partial) → functions_of ks ≡ functions_of ls
    → DenotesAll m ks bytes ps → DenotesAll m ls bytes ps
by_functions m [] [] bytes ps e d = d
by_functions m [] (l ∷ ls) bytes ps e d = absurd (suc-ne-zero (length (functions_of ls)) (sym (ap length e)))
by_functions m (k ∷ ks) [] bytes ps e d = absurd (suc-ne-zero (length (functions_of ks)) (ap length e))
by_functions m (k ∷ ks) (l ∷ ls) bytes [] e d = absurd d
by_functions m (k ∷ ks) (l ∷ ls) bytes (p ∷ ps) e (first, rest) =
    let same : function_of k ≡ function_of l = ap (λ these. slice_index_or these 0 (function_of k)) e in
    let others : functions_of ks ≡ functions_of ls = ap (drop 1) e in (
      subst (λ f. states.Denotes m (shape_of f) (take (states.width_of (shape_of f)) bytes) p) same first,
      by_functions m ks ls (drop (states.width_of (shape_of (function_of l))) bytes) ps others
          (subst (λ f. DenotesAll m ks (drop (states.width_of (shape_of f)) bytes) ps) same rest),
    )

-- the same states with another bound
pub all_raised : (m most : ℕ) (kinds : List AggKind) (bytes : List ℕ) (ps : List Partial) → m ≤ most → DenotesAll m kinds bytes ps
    → DenotesAll most kinds bytes ps
all_raised m most [] bytes [] low d = d
all_raised m most [] bytes (p ∷ ps) low d = absurd d
all_raised m most (k ∷ ks) bytes [] low d = absurd d
all_raised m most (k ∷ ks) bytes (p ∷ ps) low (first, rest) =
    (raised m most (kind_shape k) (take (kind_width k) bytes) p low first, all_raised m most ks (drop (kind_width k) bytes) ps low rest)

-- ---- how wide they are

-- a state has 24 bytes at most
pub narrow : (kinds : List AggKind) → row_width kinds ≤ length kinds * 24
narrow [] = zero-le
narrow (k ∷ ks) =
    subst (λ n. n ≤ suc (length ks) * 24) (sym (sum_by-cons kind_width k ks))
    (subst (λ n. kind_width k + row_width ks ≤ n) (add_comm 24 (length ks * 24) ∙ sym (suc-mul (length ks) 24))
    (add-le-add (widest_is_sum (kind_shape k)) (narrow ks)))

pub fits : (kinds : List AggKind) (aggregates : List Aggregate) → functions_of kinds ≡ map (λ (a : Aggregate). a.function) aggregates
    → length aggregates ≤ 32 → row_width kinds < 2 ^ 64
fits kinds aggregates named few =
    let many : length kinds ≡ length aggregates = sym (length-map kinds function_of) ∙ ap length named
    ∙ length-map aggregates (λ (a : Aggregate). a.function) in
    let wide : row_width kinds ≤ 768 = le_trans (narrow kinds) (mul-le-mul_right 24 (subst (λ n. n ≤ 32) (sym many) few)) in
    lt_of_le_of_lt wide (leb-true 769 18446744073709551616 refl)

pub states_wide : (m : ℕ) (kinds : List AggKind) (bytes : List ℕ) (ps : List Partial) → DenotesAll m kinds bytes ps → length bytes
    ≡ row_width kinds
states_wide m [] bytes [] d = ap length d
states_wide m [] bytes (p ∷ ps) d = absurd d
states_wide m (k ∷ ks) bytes [] d = absurd d
states_wide m (k ∷ ks) bytes (p ∷ ps) (first, rest) =
    let one : length (take (kind_width k) bytes) ≡ kind_width k = width_known m (kind_shape k) (take (kind_width k) bytes) p first in
    let others : length (drop (kind_width k) bytes) ≡ row_width ks = states_wide m ks (drop (kind_width k) bytes) ps rest in
    let both : length (take (kind_width k) bytes ++ drop (kind_width k) bytes)
    ≡ length bytes = ap length (take-append-drop (kind_width k) bytes) in
    let sum = length-append (take (kind_width k) bytes) (drop (kind_width k) bytes) in
    sym both ∙ sum ∙ (λ i. one i + others i) ∙ sym (sum_by-cons kind_width k ks)

-- their width is that of the functions
pub widths_named : (kinds : List AggKind) → row_width kinds ≡ sum_by (λ function. states.width_of (shape_of function)) (functions_of kinds)
widths_named [] = refl
widths_named (k ∷ ks) = sum_by-cons kind_width k ks ∙ ap (λ n. kind_width k + n) (widths_named ks)
    ∙ sym (sum_by-cons (λ function. states.width_of (shape_of function)) (function_of k) (functions_of ks))

-- ---- their bytes

-- states are the bytes of their partial results
pub states_bytes : (m : ℕ) (kinds : List AggKind) (bytes : List ℕ) (ps : List Partial) → DenotesAll m kinds bytes ps
    → (bytes ≡ state_bytes ps) × ArePartials m (functions_of kinds) ps
states_bytes m [] bytes [] d = (d, tt)
states_bytes m [] bytes (p ∷ ps) d = absurd d
states_bytes m (k ∷ ks) bytes [] d = absurd d
states_bytes m (k ∷ ks) bytes (p ∷ ps) (first, rest) =
    let more = states_bytes m ks (drop (kind_width k) bytes) ps rest in
    (sym (take-append-drop (kind_width k) bytes) ∙ (λ i. first.1 i ++ more.0 i), (first.0, more.1))

-- the kinds for some functions name them
pub name_all : (fs : List Function) → functions_of (map kind_for fs) ≡ fs
name_all [] = refl
name_all (f ∷ fs) = λ i. kind_for_names f i ∷ name_all fs i

-- the bytes of partial results are their states
pub bytes_states : (m : ℕ) (fs : List Function) (ps : List Partial) → ArePartials m fs ps
    → DenotesAll m (map kind_for fs) (state_bytes ps) ps
bytes_states m [] [] all = refl
bytes_states m [] (p ∷ ps) all = absurd all
bytes_states m (f ∷ fs) [] all = absurd all
bytes_states m (f ∷ fs) (p ∷ ps) (one, all) =
    joined m (kind_for f) (kind_for f ∷ map kind_for fs) (map kind_for fs) (bytes_of p) (state_bytes ps) p ps refl
    (subst (λ g. IsState m (shape_of g) p) (sym (kind_for_names f)) one, refl) (bytes_states m fs ps all)
