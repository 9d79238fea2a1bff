-- Rows of states, part by part.
use Rattle.std.proofs.Common.{◌≡◌, refl, ℕ, zero, suc, ◌+◌, Some, ◌≤◌, ◌<◌, slice_get, slice_set, append_assoc, List, [], ◌∷◌, ◌++◌, length}
use Rattle.std.proofs.Common.{take, drop, sym, ap, subst, ◌∙◌, arith}
use Rattle.std.proofs.Common.{add-one, get_or}
use Rattle.std.proofs.Math.Seq.{take-append_seam, drop-append_seam, take-add, drop-cons}
use Rattle.std.proofs.lemmas.List.{drop-append-le, drop-drop, drop_all, length-take, map-append, take-append-le, take_all, take_more}
use Rattle.std.proofs.lemmas.Slice.{take-put_mid}
use borrow.Rule.Slice.PartMut.{put_mid}
use Rattle.std.proofs.lemmas.List.Sums.{sum_by-cons}
use Rattle.std.proofs.lemmas.Option.{same_Some}
use Rattle.grouping_model.specs.Aggregates.{Partial, partial}
use Rattle.grouping_model.specs.Combining.{combine, combine_all}
use Rattle.agg_protocol.specs.States as states
use Rattle.agg_protocol.specs.States.{rows_of}
use Rattle.agg_protocol.specs.declared.kind.AggKind.{AggKind}
use Rattle.agg_protocol.specs.declared.kind.AggKind.TheVariants.{CountRows}
use Rattle.agg_protocol.specs.Kinds.{function_of, functions_of, kind_shape, kind_width, row_width}
use Rattle.agg_library.specs.StateRows.{DenotesAll, AllWithin, initial_partials, with_part}
use Rattle.agg_protocol.specs.DenotingLaws.{width_known}

-- the kind at a place
abbrev pub kind_at : List AggKind → ℕ → AggKind
kind_at kinds i = get_or kinds i CountRows

-- from a place on there is the kind at it, and the kinds behind it
pub kinds_from : (kinds : List AggKind) (i : ℕ) → i < length kinds → drop i kinds ≡ kind_at kinds i ∷ drop (i + 1) kinds
kinds_from kinds i within = drop-cons kinds i CountRows within ∙ ap (λ n. kind_at kinds i ∷ drop n kinds) (sym (add-one i))

-- no states at all
pub denotes_end : (m : ℕ) (kinds : List AggKind) (row : List ℕ) → kinds ≡ [] → row ≡ [] → DenotesAll m kinds row []
denotes_end m kinds row e none = subst (λ ks. DenotesAll m ks row []) (sym e) none

-- a first part and the rest
pub denotes_cons : (m : ℕ) (kind : AggKind) (kinds ks : List AggKind) (row front back : List ℕ) (p : Partial) (ps : List Partial) → kinds
    ≡ kind ∷ ks → front ≡ take (kind_width kind) row → back ≡ drop (kind_width kind) row
    → states.Denotes m (kind_shape kind) front p → DenotesAll m ks back ps → DenotesAll m kinds row (p ∷ ps)
denotes_cons m kind kinds ks row front back p ps e ef eb d ds =
    subst (λ k. DenotesAll m k row (p ∷ ps)) (sym e) (
      subst (λ b. states.Denotes m (kind_shape kind) b p) ef d,
      subst (λ b. DenotesAll m ks b ps) eb ds,
    )

-- the first parts and one more
pub denotes_more : (m : ℕ) (kinds : List AggKind) (kind : AggKind) (row part : List ℕ) (ps : List Partial) (p : Partial)
    → DenotesAll m kinds row ps → states.Denotes m (kind_shape kind) part p → DenotesAll m (kinds ++ kind ∷ []) (row ++ part) (ps ++ p ∷ [])
denotes_more m [] kind row part [] p none d =
    let wide : length part ≡ kind_width kind = width_known m (kind_shape kind) part p d in
    let all : take (kind_width kind) part ≡ part = take_all (kind_width kind) part (omega arith) in
    let end : drop (kind_width kind) part ≡ [] = drop_all (kind_width kind) part (omega arith) in
    subst (λ bytes. DenotesAll m (kind ∷ []) (bytes ++ part) (p ∷ [])) (sym none)
    (subst (λ b. states.Denotes m (kind_shape kind) b p) (sym all) d, end)
denotes_more m [] kind row part (q ∷ qs) p ds d = absurd ds
denotes_more m (k ∷ ks) kind row part [] p ds d = absurd ds
denotes_more m (k ∷ ks) kind row part (q ∷ qs) p (first, rest) d =
    let w = kind_width k in
    let wide : length (take w row) ≡ w = width_known m (kind_shape k) (take w row) q first in
    let long : w ≤ length row = omega (arith, length-take w row) in
    denotes_cons m k (k ∷ ks ++ kind ∷ []) (ks ++ kind ∷ []) (row ++ part) (take w row) (drop w row ++ part) q (qs ++ p ∷ []) refl
    (sym (take-append-le w row part long)) (sym (drop-append-le w row part long)) first
    (denotes_more m ks kind (drop w row) part qs p rest d)

-- the states before any row, of the first kinds and one more
pub initial_more : (kinds : List AggKind) (i start width k : ℕ) (row part : List ℕ) → i < length kinds
    → DenotesAll 0 (take i kinds) (take start row) (initial_partials (take i kinds)) → start ≤ length row → width ≡ kind_width (kind_at kinds i)
    → states.Denotes 0 (kind_shape (kind_at kinds i)) part (partial (function_of (kind_at kinds i)) [])
    → DenotesAll 0 (take (i + 1) kinds) (take (start + width) (put_mid start k row part)) (initial_partials (take (i + 1) kinds))
initial_more kinds i start width k row part within ds low same d =
    let kind = kind_at kinds i in
    let wide : length part ≡ kind_width kind = width_known 0 (kind_shape kind) part (partial (function_of kind) []) d in
    let bytes : take (start + width) (put_mid start k row part) ≡ take start row ++ part
    = take-put_mid start k row part (start + width) (ap (λ n. start + n) (same ∙ sym wide)) low in
    let more : take (i + 1) kinds ≡ take i kinds ++ kind ∷ [] = take_more kinds i CountRows within in
    let partials : initial_partials (take i kinds ++ kind ∷ []) ≡ initial_partials (take i kinds) ++ partial (function_of kind) [] ∷ []
    = map-append (λ kind. partial (function_of kind) []) (take i kinds) (kind ∷ []) in
    subst (λ ks. DenotesAll 0 ks (take (start + width) (put_mid start k row part)) (initial_partials ks)) (sym more)
    (subst (λ b. DenotesAll 0 (take i kinds ++ kind ∷ []) b (initial_partials (take i kinds ++ kind ∷ []))) (sym bytes)
    (subst (λ ps. DenotesAll 0 (take i kinds ++ kind ∷ []) (take start row ++ part) ps) (sym partials)
    (denotes_more 0 (take i kinds) kind (take start row) part (initial_partials (take i kinds)) (partial (function_of kind) []) ds d)))

-- of no states there are no bytes
pub denotes_nothing : (m : ℕ) (kinds : List AggKind) (row : List ℕ) → kinds ≡ [] → (ps : List Partial) → DenotesAll m kinds row ps → row
    ≡ []
denotes_nothing m kinds row e [] d = subst (λ ks. DenotesAll m ks row []) e d
denotes_nothing m kinds row e (p ∷ ps) d = absurd (subst (λ ks. DenotesAll m ks row (p ∷ ps)) e d)

-- what is denoted has a first part and a rest
pub denotes_split : (m : ℕ) (kind : AggKind) (kinds ks : List AggKind) (row front back : List ℕ) → kinds ≡ kind ∷ ks → front
    ≡ take (kind_width kind) row → back ≡ drop (kind_width kind) row → (ps : List Partial) → DenotesAll m kinds row ps
    → (p : Partial) × (rest : List Partial) × states.Denotes m (kind_shape kind) front p × DenotesAll m ks back rest
denotes_split m kind kinds ks row front back e ef eb [] d = absurd (subst (λ k. DenotesAll m k row []) e d)
denotes_split m kind kinds ks row front back e ef eb (p ∷ ps) d =
    let parts = subst (λ k. DenotesAll m k row (p ∷ ps)) e d in
    (p, ps, subst (λ b. states.Denotes m (kind_shape kind) b p) (sym ef) parts.0, subst (λ b. DenotesAll m ks b ps) (sym eb) parts.1)

-- a row that is too short denotes nothing
pub short_row : (m : ℕ) (kind : AggKind) (kinds ks : List AggKind) (row : List ℕ) → kinds ≡ kind ∷ ks → length row < kind_width kind
    → (ps : List Partial) → DenotesAll m kinds row ps → ⊥
short_row m kind kinds ks row e short ps d =
    let parts = denotes_split m kind kinds ks row (take (kind_width kind) row) (drop (kind_width kind) row) e refl refl ps d in
    let wide = width_known m (kind_shape kind) (take (kind_width kind) row) parts.0 parts.2 in
    omega (arith, length-take (kind_width kind) row)

-- the same of two rows, where no state of both counts too many rows
pub both_split : (m : ℕ) (kind : AggKind) (kinds ks : List AggKind) (into into_front into_back from from_front from_back : List ℕ) → kinds
    ≡ kind ∷ ks
    → into_front ≡ take (kind_width kind) into → into_back ≡ drop (kind_width kind) into → from_front ≡ take (kind_width kind) from
    → from_back ≡ drop (kind_width kind) from
    → (ps qs : List Partial) → DenotesAll m kinds into ps → DenotesAll m kinds from qs
    → AllWithin m (combine_all (functions_of kinds) ps qs)
    → (p q : Partial) × (ps qs : List Partial) × states.Denotes m (kind_shape kind) into_front p
    × states.Denotes m (kind_shape kind) from_front q × (rows_of (combine (function_of kind) p q) ≤ m)
    × DenotesAll m ks into_back ps × DenotesAll m ks from_back qs × AllWithin m (combine_all (functions_of ks) ps qs)
both_split m kind kinds ks into a b from x y e ea eb ex ey [] qs d ds few = absurd (subst (λ k. DenotesAll m k into []) e d)
both_split m kind kinds ks into a b from x y e ea eb ex ey (p ∷ ps) [] d ds few = absurd (subst (λ k. DenotesAll m k from []) e ds)
both_split m kind kinds ks into a b from x y e ea eb ex ey (p ∷ ps) (q ∷ qs) d ds few =
    let dp = subst (λ k. DenotesAll m k into (p ∷ ps)) e d in
    let dq = subst (λ k. DenotesAll m k from (q ∷ qs)) e ds in
    let all = subst (λ k. AllWithin m (combine_all (functions_of k) (p ∷ ps) (q ∷ qs))) e few in (
      p,
      q,
      ps,
      qs,
      subst (λ t. states.Denotes m (kind_shape kind) t p) (sym ea) dp.0,
      subst (λ t. states.Denotes m (kind_shape kind) t q) (sym ex) dq.0,
      all.0,
      subst (λ t. DenotesAll m ks t ps) (sym eb) dp.1,
      subst (λ t. DenotesAll m ks t qs) (sym ey) dq.1,
      all.1,
    )

-- the same of a first part and a rest that were written
pub combined_cons : (m : ℕ) (kind : AggKind) (kinds ks : List AggKind) (front back : List ℕ) (p q : Partial) (ps qs : List Partial) → kinds
    ≡ kind ∷ ks
    → states.Denotes m (kind_shape kind) front (combine (function_of kind) p q) → DenotesAll m ks back (combine_all (functions_of ks) ps qs)
    → DenotesAll m kinds (front ++ back) (combine_all (functions_of kinds) (p ∷ ps) (q ∷ qs))
combined_cons m kind kinds ks front back p q ps qs e d ds =
    let wide : length front ≡ kind_width kind = width_known m (kind_shape kind) front (combine (function_of kind) p q) d in
    subst (λ k. DenotesAll m k (front ++ back) (combine_all (functions_of k) (p ∷ ps) (q ∷ qs))) (sym e)
    (denotes_cons m kind (kind ∷ ks) ks (front ++ back) front back (combine (function_of kind) p q) (combine_all (functions_of ks) ps qs)
    refl
    (sym (take-append_seam front back) ∙ ap (λ n. take n (front ++ back)) wide) (sym (drop-append_seam front back)
    ∙ ap (λ n. drop n (front ++ back)) wide) d ds)

-- a list with no members
-- nothing combined is nothing
pub combined_end : (m : ℕ) (kinds : List AggKind) (row : List ℕ) → kinds ≡ [] → row ≡ []
    → DenotesAll m kinds row (combine_all (functions_of kinds) [] [])
combined_end m kinds row e none = subst (λ ks. DenotesAll m ks row (combine_all (functions_of ks) [] [])) (sym e) none

-- the place of a part behind a first one
place_behind : (k : AggKind) (ks : List AggKind) → row_width (k ∷ ks) ≡ kind_width k + row_width ks
place_behind k ks = sum_by-cons kind_width k ks

behind : (k : AggKind) (ks : List AggKind) (row : List ℕ) → drop (row_width ks) (drop (kind_width k) row) ≡ drop (row_width (k ∷ ks)) row
behind k ks row = drop-drop (row_width ks) (kind_width k) row ∙ ap (λ n. drop n row) (sym (place_behind k ks))

-- the part at a place denotes the partial result there
pub part_read : (m : ℕ) (kinds : List AggKind) (row : List ℕ) (ps : List Partial) (i : ℕ) (kind : AggKind) (p : Partial)
    → DenotesAll m kinds row ps → slice_get kinds i ≡ Some kind → slice_get ps i ≡ Some p
    → states.Denotes m (kind_shape kind) (take (kind_width kind) (drop (row_width (take i kinds)) row)) p
part_read m [] row ps zero kind p d k e = cc
part_read m [] row ps (suc i) kind p d k e = cc
part_read m (k0 ∷ ks) row [] i kind p d k e = absurd d
part_read m (k0 ∷ ks) row (p0 ∷ ps) zero kind p d k e =
    subst (λ q. states.Denotes m (kind_shape kind) (take (kind_width kind) row) q) (same_Some p0 p e)
    (subst (λ j. states.Denotes m (kind_shape j) (take (kind_width j) row) p0) (same_Some k0 kind k) d.0)
part_read m (k0 ∷ ks) row (p0 ∷ ps) (suc i) kind p d k e =
    subst (λ b. states.Denotes m (kind_shape kind) (take (kind_width kind) b) p) (behind k0 (take i ks) row)
    (part_read m ks (drop (kind_width k0) row) ps i kind p d.1 k e)

-- a row with a part written anew
pub part_written : (m : ℕ) (kinds : List AggKind) (row : List ℕ) (ps : List Partial) (i : ℕ) (kind : AggKind) (part : List ℕ) (q : Partial)
    → DenotesAll m kinds row ps → slice_get kinds i ≡ Some kind → states.Denotes m (kind_shape kind) part q
    → DenotesAll m kinds (with_part kinds row i kind part) (slice_set ps i q)
part_written m [] row ps zero kind part q d k e = cc
part_written m [] row ps (suc i) kind part q d k e = cc
part_written m (k0 ∷ ks) row [] i kind part q d k e = absurd d
part_written m (k0 ∷ ks) row (p0 ∷ ps) zero kind part q d k e =
    let same = same_Some k0 kind k in
    let wide : length part ≡ kind_width kind = width_known m (kind_shape kind) part q e in
    denotes_cons m kind (k0 ∷ ks) ks (part ++ drop (kind_width kind) row) part (drop (kind_width k0) row) q ps (ap (λ j. j ∷ ks) same)
    (sym (take-append_seam part (drop (kind_width kind) row)) ∙ ap (λ n. take n (part ++ drop (kind_width kind) row)) wide)
    (ap (λ j. drop (kind_width j) row) same ∙ sym (drop-append_seam part (drop (kind_width kind) row))
    ∙ ap (λ n. drop n (part ++ drop (kind_width kind) row)) wide) e d.1
part_written m (k0 ∷ ks) row (p0 ∷ ps) (suc i) kind part q d k e =
    let front = take (kind_width k0) row in
    let back = drop (kind_width k0) row in
    let wide : length front ≡ kind_width k0 = width_known m (kind_shape k0) front p0 d.0 in
    let rest = with_part ks back i kind part in
    let split : with_part (k0 ∷ ks) row (suc i) kind part ≡ front ++ rest =
    ap (λ a. a ++ (part ++ drop (kind_width kind) (drop (row_width (k0 ∷ take i ks)) row)))
    (ap (λ n. take n row) (place_behind k0 (take i ks)) ∙ take-add (kind_width k0) (row_width (take i ks)) row)
    ∙ append_assoc front (take (row_width (take i ks)) back) (part ++ drop (kind_width kind) (drop (row_width (k0 ∷ take i ks)) row))
    ∙ ap (λ b. front ++ (take (row_width (take i ks)) back ++ (part ++ drop (kind_width kind) b))) (sym (behind k0 (take i ks) row)) in
    subst (λ b. DenotesAll m (k0 ∷ ks) b (p0 ∷ slice_set ps i q)) (sym split)
    (denotes_cons m k0 (k0 ∷ ks) ks (front ++ rest) front rest p0 (slice_set ps i q) refl (sym (take-append_seam front rest)
    ∙ ap (λ n. take n (front ++ rest)) wide)
    (sym (drop-append_seam front rest) ∙ ap (λ n. drop n (front ++ rest)) wide) d.0 (part_written m ks back ps i kind part q d.1 k e))
