-- Laws: rows that lie end to end; these definitions serve the laws alone.
use Rattle.std.specs.Prelude.{◌≡◌, refl, ℕ, zero, suc, ◌+◌, ◌-◌, ◌<◌, ◌≤◌, List, [], ◌∷◌, ◌++◌, length, Some, slice_get, slice_index_or}
use Rattle.std.specs.Prelude.{drop, slice_range, take}
use Rattle.std.proofs.Common.{sym, ◌∙◌, ap, subst, append_assoc, append-nil, arith}
use Rattle.std.proofs.lemmas.List.{length-append, take-append-drop}
use Rattle.std.proofs.Math.Seq.{take-add}
use Rattle.std.proofs.lemmas.List.Edits.{length-between, get_or-between}
use Rattle.std.proofs.lemmas.Option.{slice_get-get_or, get_or_from_slice_get}
use Rattle.std.proofs.lemmas.Grind.{flat_map-append, common_steps}
use Rattle.std.proofs.Math.Nat.{add-zero, zero-add, add_assoc, le-add_right, not-suc-le-zero, le_of_suc-le-suc, add-sub_of_le}
use Rattle.std.proofs.Math.Nat.{add-lt-add_of_le_of_lt, le_refl}
use Rattle.packed_rows.specs.ConcatenatedRows.{cut, concatenated, ends_of, LieAs, AreRows}
use Rattle.std.proofs.lemmas.Bool.Decides.{nat_tests}

-- what lies between two others
pub between_seams : {X : Type 0} (xs ys zs : List X) → slice_range (xs ++ (ys ++ zs)) (length xs) (length xs + length ys) ≡ ys
between_seams xs ys zs = grind (arith, nat_tests, common_steps)

cut_behind : {X : Type 0} (elements : List X) (rows : List (List X))
    → cut (elements ++ concatenated rows) (length elements) (ends_of (length elements) rows) ≡ rows
cut_behind elements [] = refl
cut_behind elements (row ∷ rows) =
    let rest : cut (elements ++ (row ++ concatenated rows)) (length elements + length row) (ends_of (length elements + length row) rows)
    ≡ rows =
    (λ i. cut (sym (append_assoc elements row (concatenated rows)) i) (sym (length-append elements row) i)
    (ends_of (sym (length-append elements row) i) rows))
    ∙ cut_behind (elements ++ row) rows in
    λ i. between_seams elements row (concatenated rows) i ∷ rest i

-- what lies as rows makes them up
pub cut_is : {X : Type 0} (elements : List X) (ends : List ℕ) (rows : List (List X)) → LieAs elements ends rows → cut elements 0 ends ≡ rows
cut_is elements ends rows lie = (λ i. cut (lie.elements_are i) 0 (lie.ends_are i)) ∙ cut_behind [] rows

pub are_rows : {X : Type 0} (elements : List X) (ends : List ℕ) (rows : List (List X)) → LieAs elements ends rows → AreRows elements ends
are_rows elements ends rows lie = subst (LieAs elements ends) (sym (cut_is elements ends rows lie)) lie

pub ends_append : {X : Type 0} (from : ℕ) (rows more : List (List X)) → ends_of from (rows ++ more) ≡ ends_of from rows
    ++ ends_of (from + length (concatenated rows)) more
ends_append from [] more = ap (λ n. ends_of n more) (sym (add-zero from))
ends_append from (row ∷ rows) more =
    let both : length (row ++ concatenated rows) ≡ length row + length (concatenated rows) = length-append row (concatenated rows) in
    let same : from + length row + length (concatenated rows) ≡ from + length (row ++ concatenated rows) = add_assoc from (length row)
    (length (concatenated rows)) ∙ ap (λ n. from + n) (sym both) in
    ap (λ ends. (from + length row) ∷ ends) (ends_append (from + length row) rows more
    ∙ (λ i. ends_of (from + length row) rows ++ ends_of (same i) more))

-- one row more
pub pushed : {X : Type 0} (elements : List X) (ends : List ℕ) (rows : List (List X)) (row elements' : List X) (ends' : List ℕ) (end : ℕ)
    → LieAs elements ends rows
    → elements' ≡ elements ++ row → ends' ≡ ends ++ end ∷ [] → end ≡ length elements' → LieAs elements' ends' (rows ++ row ∷ [])
pushed {X} elements ends rows row elements' ends' end lie b e is =
    let last : end ≡ 0 + length (concatenated rows) + length row =
    is ∙ ap length b ∙ length-append elements row ∙ ap (λ n. n + length row) (ap length lie.elements_are
    ∙ sym (zero-add (length (concatenated rows)))) in
    record {
      elements_are = b ∙ (λ i. lie.elements_are i ++ sym (append-nil row) i)
          ∙ sym (flat_map-append (λ (row : List X). row) rows (row ∷ []));
      ends_are = e ∙ (λ i. lie.ends_are i ++ last i ∷ []) ∙ sym (ends_append 0 rows (row ∷ []));
    }

-- no rows
pub none_are : {X : Type 0} (elements : List X) (ends : List ℕ) → elements ≡ [] → ends ≡ [] → AreRows elements ends
none_are elements ends b e = are_rows elements ends [] (record { elements_are = b; ends_are = e })

pub cut_long : {X : Type 0} (elements : List X) (from : ℕ) (ends : List ℕ) → length (cut elements from ends) ≡ length ends
cut_long elements from [] = refl
cut_long elements from (to ∷ ends) = ap suc (cut_long elements to ends)

pub ends_long : {X : Type 0} (from : ℕ) (rows : List (List X)) → length (ends_of from rows) ≡ length rows
ends_long from [] = refl
ends_long from (row ∷ rows) = ap suc (ends_long (from + length row) rows)

-- where a row lies
pub record RowAt {X : Type 0} (elements : List X) (from to : ℕ) (rows : List (List X)) (p : ℕ) : Type 0 where
  pub low : from ≤ to
  pub high : to ≤ length elements
  pub there : slice_get rows p ≡ Some (slice_range elements from to)

row_behind : {X : Type 0} (elements : List X) (rows : List (List X)) (p d : ℕ) → p < length rows
    → RowAt (elements ++ concatenated rows) (slice_index_or (length elements ∷ ends_of (length elements) rows) p 0)
    (slice_index_or (ends_of (length elements) rows) p d) rows p
row_behind elements [] p d low = absurd (not-suc-le-zero low)
row_behind elements (row ∷ rows) zero d low =
    let whole : length (elements ++ (row ++ concatenated rows)) ≡ length elements + length row + length (concatenated rows) =
    length-append elements (row ++ concatenated rows)
    ∙ ap (λ n. length elements + n) (length-append row (concatenated rows))
    ∙ sym (add_assoc (length elements) (length row) (length (concatenated rows))) in
    record {
      low = le-add_right (length elements) (length row);
      high = subst (λ n. length elements + length row ≤ n) (sym whole)
          (le-add_right (length elements + length row) (length (concatenated rows)));
      there = ap Some (sym (between_seams elements row (concatenated rows)));
    }
row_behind elements (row ∷ rows) (suc p) d low =
    let next = row_behind (elements ++ row) rows p d (le_of_suc-le-suc low) in
    let from : ℕ → ℕ = λ n. slice_index_or (n ∷ ends_of n rows) p 0 in
    let to : ℕ → ℕ = λ n. slice_index_or (ends_of n rows) p d in
    let at : RowAt (elements ++ (row ++ concatenated rows)) (from (length elements + length row)) (to (length elements + length row)) rows p
    =
    subst (λ n. RowAt (elements ++ (row ++ concatenated rows)) (from n) (to n) rows p) (length-append elements row)
    (subst (λ elements'. RowAt elements' (from (length (elements ++ row))) (to (length (elements ++ row))) rows p)
    (append_assoc elements row (concatenated rows)) next) in
    record { low = at.low; high = at.high; there = at.there }

-- the row at a place, by the ends that were read
pub row_at : {X : Type 0} (elements : List X) (ends : List ℕ) (rows : List (List X)) (p from to d : ℕ) → LieAs elements ends rows
    → p < length rows
    → from ≡ slice_index_or (0 ∷ ends) p 0 → to ≡ slice_index_or ends p d → RowAt elements from to rows p
row_at elements ends rows p from to d lie low first last =
    subst (λ elements. RowAt elements from to rows p) (sym lie.elements_are)
    (subst (λ from. RowAt (concatenated rows) from to rows p) (sym (first ∙ ap (λ ends. slice_index_or (0 ∷ ends) p 0) lie.ends_are))
    (subst (λ to. RowAt (concatenated rows) (slice_index_or (0 ∷ ends_of 0 rows) p 0) to rows p)
    (sym (last ∙ ap (λ ends. slice_index_or ends p d) lie.ends_are))
    (row_behind [] rows p d low)))

-- how long a row is, and an element of it
pub row_long : {X : Type 0} (elements : List X) (rows : List (List X)) (p from to : ℕ) → RowAt elements from to rows p
    → length (slice_index_or rows p []) ≡ to - from
row_long elements rows p from to at =
    ap length (get_or_from_slice_get rows p (slice_range elements from to) [] at.there) ∙ length-between elements from to at.high

pub element_is : {X : Type 0} (elements : List X) (rows : List (List X)) (p from to k : ℕ) (x : X) → RowAt elements from to rows p
    → k < length (slice_index_or rows p []) → slice_get elements (from + k) ≡ Some x
    → slice_get (slice_index_or rows p []) k ≡ Some x
element_is elements rows p from to k x at low is =
    let inside : k < to - from = subst (λ n. k < n) (row_long elements rows p from to at) low in
    ap (λ row. slice_get row k) (get_or_from_slice_get rows p (slice_range elements from to) [] at.there)
    ∙ slice_get-get_or (slice_range elements from to) k x (subst (λ n. k < n) (sym (length-between elements from to at.high)) inside)
    ∙ ap Some (get_or-between elements from to k x
    (subst (λ n. from + k < n) (add-sub_of_le at.low) (add-lt-add_of_le_of_lt (le_refl from) inside))
    ∙ get_or_from_slice_get elements (from + k) x x is)

-- where rows side by side lie
pub record PartAt {X : Type 0} (elements : List X) (from to : ℕ) (part : List X) : Type 0 where
  pub low : from ≤ to
  pub high : to ≤ length elements
  pub there : slice_range elements from to ≡ part

-- where the first rows end
end_at : {X : Type 0} (from : ℕ) (rows : List (List X)) (i : ℕ) → i ≤ length rows → slice_index_or (from ∷ ends_of from rows) i 0
    ≡ from + length (concatenated (take i rows))
end_at from rows zero h = sym (add-zero from)
end_at from [] (suc i) h = absurd (not-suc-le-zero h)
end_at from (row ∷ rows) (suc i) h =
    end_at (from + length row) rows i (le_of_suc-le-suc h)
    ∙ add_assoc from (length row) (length (concatenated (take i rows)))
    ∙ ap (λ n. from + n) (sym (length-append row (concatenated (take i rows))))

pub part_at : {X : Type 0} (elements : List X) (ends : List ℕ) (rows : List (List X)) (i n : ℕ) → LieAs elements ends rows
    → i + n ≤ length rows
    → PartAt elements (slice_index_or (0 ∷ ends) i 0) (slice_index_or (0 ∷ ends) (i + n) 0) (concatenated (take n (drop i rows)))
part_at {X} elements ends rows i n lie within =
    let front : List X = concatenated (take i rows) in
    let part : List X = concatenated (take n (drop i rows)) in
    let behind : List X = concatenated (drop n (drop i rows)) in
    let both : concatenated (take (i + n) rows) ≡ front ++ part =
    ap concatenated (take-add i n rows) ∙ flat_map-append (λ (row : List X). row) (take i rows) (take n (drop i rows)) in
    let after : concatenated (drop i rows) ≡ part ++ behind =
    ap concatenated (sym (take-append-drop n (drop i rows)))
    ∙ flat_map-append (λ (row : List X). row) (take n (drop i rows)) (drop n (drop i rows)) in
    let whole : elements ≡ front ++ (part ++ behind) =
    lie.elements_are ∙ ap concatenated (sym (take-append-drop i rows))
    ∙ flat_map-append (λ (row : List X). row) (take i rows) (drop i rows) ∙ ap (λ (w : List X). front ++ w) after in
    let from : slice_index_or (0 ∷ ends) i 0 ≡ length front =
    ap (λ ends. slice_index_or (0 ∷ ends) i 0) lie.ends_are ∙ end_at 0 rows i (omega (arith, within)) ∙ zero-add (length front) in
    let to : slice_index_or (0 ∷ ends) (i + n) 0 ≡ length front + length part =
    ap (λ ends. slice_index_or (0 ∷ ends) (i + n) 0) lie.ends_are ∙ end_at 0 rows (i + n) within
    ∙ zero-add (length (concatenated (take (i + n) rows))) ∙ ap length both ∙ length-append front part in
    let long : length elements ≡ length front + (length part + length behind) =
    ap length whole ∙ length-append front (part ++ behind) ∙ ap (λ k. length front + k) (length-append part behind) in
    record {
      low = omega (arith, from, to);
      high = omega (arith, to, long);
      there = (λ j. slice_range (whole j) (from j) (to j)) ∙ between_seams front part behind;
    }
