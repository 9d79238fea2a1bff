-- The states of one group.
-- ---- one state
use Rattle.std.specs.Prelude.{◌≡◌, refl, ℕ, ◌+◌, ◌≤◌, List, [], ◌∷◌, ◌++◌, length, take, drop}
use Rattle.std.proofs.Common.{sym, ◌∙◌, subst, arith}
use Rattle.group_runs.proofs.Words.{Function, Partial, combine, combine_all, Shape, rows_of, most_rows, function_of, functions_of}
use Rattle.group_runs.proofs.Words.{kind_shape, kind_width, DenotesAll, AllWithin, AreStates}
use Rattle.agg_protocol.specs.DenotingLaws.{shape_known, within, state_rows}
use Rattle.agg_protocol.specs.Lemmas.Denoting.{rows_add, once}
use Rattle.agg_protocol.specs.declared.kind.AggKind.{AggKind}
use Rattle.agg_library.specs.StateRowLaws.{all_raised}
use Rattle.std.proofs.lemmas.Bool.Decides.{nat_tests}
use Rattle.std.proofs.lemmas.Grind.{common_steps}

pub all_within : (m : ℕ) (kinds : List AggKind) (bytes : List ℕ) (ps : List Partial) → DenotesAll m kinds bytes ps → AllWithin m ps
all_within m [] bytes [] d = tt
all_within m (k ∷ ks) bytes (p ∷ ps) (first, rest) = (
  state_rows m (kind_shape k) p first.0,
  all_within m ks (drop (kind_width k) bytes) ps
      rest,
)
all_within m _ bytes _ d = absurd d

pub all_lowered : (m most : ℕ) (kinds : List AggKind) (bytes : List ℕ) (ps : List Partial) → AllWithin m ps → DenotesAll most kinds bytes ps
    → DenotesAll m kinds bytes ps
all_lowered m most [] bytes [] few d = d
all_lowered m most (k ∷ ks) bytes (p ∷ ps) few (first, rest) =
    ((within most m (kind_shape k) p first.0 few.0, first.1), all_lowered m most ks (drop (kind_width k) bytes) ps few.1 rest)
all_lowered m most _ bytes _ few d = absurd d

pub states_lowered : (these : List Function) (m most : ℕ) (bytes : List ℕ) (ps : List Partial) → AllWithin m ps
    → AreStates these most bytes ps → AreStates these m bytes ps
states_lowered these m most bytes ps few are = record {
  kinds = are.kinds;
  named = are.named;
  denote = all_lowered m most are.kinds bytes ps
      few are.denote;
}

-- states denote one list of partial results
pub denoted_once : (m : ℕ) (kinds : List AggKind) (bytes : List ℕ) (ps qs : List Partial) → m ≤ most_rows → DenotesAll m kinds bytes ps
    → DenotesAll m kinds bytes qs → ps ≡ qs
denoted_once m [] bytes [] [] low d e = refl
denoted_once m [] bytes [] (q ∷ qs) low d e = absurd e
denoted_once m (k ∷ ks) bytes (p ∷ ps) [] low d e = absurd e
denoted_once m (k ∷ ks) bytes (p ∷ ps) (q ∷ qs) low (first, rest) (one, others) =
    λ i. once m (kind_shape k) (take (kind_width k) bytes) p q low first one i
    ∷ denoted_once m ks (drop (kind_width k) bytes) ps qs low rest others i
denoted_once m _ bytes _ qs low d e = absurd d

-- ---- two rows of states
-- the rows of both add up
pub rows_combined : (m n : ℕ) (kinds : List AggKind) (a b : List ℕ) (ps qs : List Partial) → DenotesAll m kinds a ps
    → DenotesAll n kinds b qs → AllWithin (m + n) (combine_all (functions_of kinds) ps qs)
rows_combined m n [] a b [] [] d e = tt
rows_combined m n [] a b [] (q ∷ qs) d e = absurd e
rows_combined m n (k ∷ ks) a b (p ∷ ps) [] d e = absurd e
rows_combined m n (k ∷ ks) a b (p ∷ ps) (q ∷ qs) (first, rest) (one, others) =
    let s : Shape = kind_shape k in
    let added : rows_of (combine (function_of k) p q) ≡ rows_of p + rows_of q = rows_add (function_of k) p q (shape_known m s p first.0
    ∙ sym (shape_known n s q one.0)) in
    let left : rows_of p ≤ m = state_rows m s p first.0 in
    let right : rows_of q ≤ n = state_rows n s q one.0 in
    (omega (arith, added, left, right), rows_combined m n ks (drop (kind_width k) a) (drop (kind_width k) b) ps qs rest others)
rows_combined m n _ a b _ qs d e = absurd d

pub within_raised : (m n : ℕ) (ps : List Partial) → m ≤ n → AllWithin m ps → AllWithin n ps
within_raised m n [] low few = tt
within_raised m n (p ∷ ps) low (one, few) = (omega (arith, low, one), within_raised m n ps low few)

-- states that were combined with others, within a bound
pub combined : (m n bound : ℕ) (kinds : List AggKind) (a b new : List ℕ) (ps qs xs ys : List Partial) → m + n ≤ bound → bound ≤ most_rows
    → DenotesAll m kinds a ps → DenotesAll n kinds b qs
    → DenotesAll bound kinds a xs → DenotesAll bound kinds b ys → DenotesAll bound kinds new (combine_all (functions_of kinds) xs ys)
    → DenotesAll (m + n) kinds new (combine_all (functions_of kinds) ps qs)
combined m n bound kinds a b new ps qs xs ys low top d e x y z =
    let first : xs ≡ ps = denoted_once bound kinds a xs ps top x (all_raised m bound kinds a ps (omega (arith, low)) d) in
    let second : ys ≡ qs = denoted_once bound kinds b ys qs top y (all_raised n bound kinds b qs (omega (arith, low)) e) in
    all_lowered (m + n) bound kinds new (combine_all (functions_of kinds) ps qs) (rows_combined m n kinds a b ps qs d e)
    (subst (λ ps. DenotesAll bound kinds new (combine_all (functions_of kinds) ps qs)) first
    (subst (λ qs. DenotesAll bound kinds new (combine_all (functions_of kinds) xs qs)) second z))

-- such states can be combined
pub can_combine : (m n bound : ℕ) (kinds : List AggKind) (a b : List ℕ) (ps qs : List Partial) → m + n ≤ bound → DenotesAll m kinds a ps
    → DenotesAll n kinds b qs
    → ((xs ys : List Partial) → DenotesAll bound kinds a xs → DenotesAll bound kinds b ys
    → ¬ (AllWithin bound (combine_all (functions_of kinds) xs ys))) → ⊥
can_combine m n bound kinds a b ps qs low d e refused =
    refused ps qs (all_raised m bound kinds a ps (omega (arith, low)) d) (all_raised n bound kinds b qs (omega (arith, low)) e)
    (within_raised (m + n) bound (combine_all (functions_of kinds) ps qs) low (rows_combined m n kinds a b ps qs d e))

-- bytes that were written over all of a list
pub written_over : (items new : List ℕ) (n : ℕ) → n ≡ length items → length new ≡ length items → take n (new ++ drop (length new) items)
    ≡ new
written_over items new n long same = grind (arith, nat_tests, common_steps)
