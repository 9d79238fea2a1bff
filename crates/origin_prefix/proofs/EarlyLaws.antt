-- Early batches by their numbers.
use Rattle.std.specs.Option.{is_some}
use Rattle.std.proofs.lemmas.Bool.{true≢false, cases_lt}
use Rattle.std.proofs.lemmas.Map.Entries.{lookup-filter-keys}
use Rattle.std.proofs.lemmas.List.Elements.{All-filter, All-from_recursion, recursion_from_All}
use Rattle.std.specs.List.{AllByRecursion, filter}
use Rattle.std.proofs.lemmas.List.Kept.{IsStrictlySortedBy-filter}
use Rattle.std.specs.List.Sorted.{IsStrictlySortedBy}
use Rattle.std.specs.BTreeMap.Range.{entries_between, range_contains}
use Rattle.std.specs.declared.ops.Bound.TheVariants.{Excluded, Unbounded}
use Rattle.std.specs.Prelude.{◌≡◌, ◌≢◌, ◌↔◌, refl, ℕ, ◌<◌, ◌≤◌, ◌⊎◌, nat_lt, Bool, true, false, not, cond, IsTrue, if◌then◌else◌, List, []}
use Rattle.std.specs.Prelude.{◌∷◌, Option, Some, None}
use Rattle.std.proofs.Common.{◌∙◌, sym, ap, subst, inl, inr, arith}
use Rattle.std.specs.Ordering.{eq_by_cmp, nat_cmp}
use Rattle.origin_prefix.specs.Parts.{Batches, rows_at}
use Rattle.origin_prefix.specs.Joins.{either, DiffersAt, AreAmong}
use Rattle.origin_prefix.specs.Lemmas.ByNumber.{numbers, some_is, at_head, behind_head, none_found, above_first}
use Rattle.origin_prefix.specs.Lemmas.Lists.{is_itself, is_same, is_other, same_or_other}

-- a batch that was put under its number
abbrev pub AtNumber : Batches → ℕ → List (List ℕ) → Batches → Type 0
AtNumber old number rows new = (n : ℕ) → rows_at new n ≡ cond (eq_by_cmp nat_cmp number n) (Some rows) (rows_at old n)

pub put_there : (old new : Batches) (number : ℕ) (rows : List (List ℕ)) → AtNumber old number rows new → rows_at new number ≡ Some rows
put_there old new number rows put = put number ∙ ap (λ b. cond b (Some rows) (rows_at old number)) (is_itself number)

pub put_elsewhere : (old new : Batches) (number : ℕ) (rows : List (List ℕ)) → AtNumber old number rows new → (n : ℕ) → n ≢ number
    → rows_at new n ≡ rows_at old n
put_elsewhere old new number rows put n other = put n
    ∙ ap (λ b. cond b (Some rows) (rows_at old n)) (is_other number n (λ e. other (sym e)))

-- one batch more was copied, whose number was not there
pub copied : (number : ℕ) (rows : List (List ℕ)) (old new rest : Batches) → rows_at old number ≡ None → AtNumber old number rows new
    → (n : ℕ) → either (rows_at new n) (rows_at rest n) ≡ either (rows_at old n) (rows_at ((number, rows) ∷ rest) n)
copied number rows old new rest none put n = go (same_or_other n number)
  where
    go : (n ≡ number) ⊎ (n ≢ number) → either (rows_at new n) (rows_at rest n) ≡ either (rows_at old n) (rows_at ((number, rows) ∷ rest) n)
    go (inl same) =
        subst (λ m. either (rows_at new m) (rows_at rest m) ≡ either (rows_at old m) (rows_at ((number, rows) ∷ rest) m)) (sym same)
        (ap (λ o. either o (rows_at rest number)) (put_there old new number rows put)
        ∙ sym (ap (λ o. either o (rows_at ((number, rows) ∷ rest) number)) none ∙ at_head number rows rest))
    go (inr other) = ap (λ o. either o (rows_at rest n)) (put_elsewhere old new number rows put n other)
        ∙ ap (either (rows_at old n)) (sym (behind_head n number rows rest other))

-- ---- batches that differ

-- the first of some batches doesn't differ: what does is behind it
pub differs_later : (above number : ℕ) (rows : List (List ℕ)) (rest other : Batches)
    → (above < number → (those : List (List ℕ)) → rows_at other number ≡ Some those → rows ≢ those → ⊥)
    → (n : ℕ) → DiffersAt above ((number, rows) ∷ rest) other n → DiffersAt above rest other n
differs_later above number rows rest other same n d = go (same_or_other n number)
  where
    go : (n ≡ number) ⊎ (n ≢ number) → DiffersAt above rest other n
    go (inl e) =
        let here : d.rows ≡ rows = some_is d.rows rows (sym d.there ∙ ap (rows_at ((number, rows) ∷ rest)) e ∙ at_head number rows rest) in
        absurd (same (subst (λ m. above < m) e d.behind) d.those (sym (ap (rows_at other) e) ∙ d.there_too)
        (λ equal. d.differ (here ∙ equal)))
    go (inr apart) =
        record {
          behind = d.behind;
          rows = d.rows;
          those = d.those;
          there = sym (behind_head n number rows rest apart) ∙ d.there;
          there_too = d.there_too;
          differ = d.differ;
        }

pub none_differ : (above : ℕ) (other : Batches) (n : ℕ) → ¬ (DiffersAt above [] other n)
none_differ above other n d = absurd (true≢false (sym (ap is_some d.there)))

-- none below the first of some rising batches does
pub none_lower : (above number : ℕ) (rows : List (List ℕ)) (rest other : Batches)
    → IsStrictlySortedBy nat_cmp (numbers ((number, rows) ∷ rest))
    → (lower : ℕ) → lower < number → ¬ (DiffersAt above ((number, rows) ∷ rest) other lower)
none_lower above number rows rest other rising lower low d =
    let apart : lower ≢ number = λ same. omega (arith, low, same) in
    let none : rows_at rest lower ≡ None = none_found (λ (e : ℕ × List (List ℕ)). number < e.0) rest lower
    (above_first number rows rest rising) (λ x high. omega (arith, low, high)) in
    absurd (true≢false (sym (ap is_some (sym none ∙ sym (behind_head lower number rows rest apart) ∙ d.there))))

-- rows that are there are the same or not
pub differ_from : (same : Bool) (rows those : List (List ℕ)) (found : Option (List (List ℕ))) → found ≡ Some those → IsTrue same
    ↔ (rows ≡ those)
    → IsTrue (not same) ↔ ((x : List (List ℕ)) × (found ≡ Some x) × (rows ≢ x))
differ_from same rows those found is test = (to, back)
  where
    to : IsTrue (not same) → (x : List (List ℕ)) × (found ≡ Some x) × (rows ≢ x)
    to e = (those, is, λ equal. true≢false (sym e ∙ ap not (test.1 equal)))

    back : ((x : List (List ℕ)) × (found ≡ Some x) × (rows ≢ x)) → IsTrue (not same)
    back w = go same refl
      where
        go : (b : Bool) → same ≡ b → IsTrue (not same)
        go true e = absurd (w.2 (test.0 e ∙ some_is those w.0 (sym is ∙ w.1)))
        go false e = ap not e

-- ---- copies

-- a batch was passed over, which is there already
pub passed_over : (number : ℕ) (rows : List (List ℕ)) (old rest : Batches) → is_some (rows_at old number) ≡ true
    → (n : ℕ) → either (rows_at old n) (rows_at rest n) ≡ either (rows_at old n) (rows_at ((number, rows) ∷ rest) n)
passed_over number rows old rest there n = go (same_or_other n number)
  where
    of_some : {X : Type 0} (o x y : Option X) → is_some o ≡ true → either o x ≡ either o y
    of_some (Some z) x y e = refl
    of_some None x y e = absurd (true≢false (sym e))

    go : (n ≡ number) ⊎ (n ≢ number) → either (rows_at old n) (rows_at rest n) ≡ either (rows_at old n) (rows_at ((number, rows) ∷ rest) n)
    go (inr other) = ap (either (rows_at old n)) (sym (behind_head n number rows rest other))
    go (inl same) = of_some (rows_at old n) (rows_at rest n) (rows_at ((number, rows) ∷ rest) n) (ap (λ m. is_some (rows_at old m)) same
        ∙ there)

-- ---- batches behind a number

-- those of some batches whose numbers are above it
abbrev pub behind_number : ℕ → Batches → Batches
behind_number above batches = entries_between nat_cmp (Excluded above) Unbounded batches

pub found_behind : (above : ℕ) (batches : Batches) (n : ℕ) → rows_at (behind_number above batches) n
    ≡ (if nat_lt above n then rows_at batches n else None)
found_behind above batches n =
    lookup-filter-keys (eq_by_cmp nat_cmp n) (λ k. range_contains nat_cmp (Excluded above) Unbounded k) (nat_lt above n)
    (λ k same. ap (λ m. range_contains nat_cmp (Excluded above) Unbounded m) (sym (is_same n k same)) ∙ below) batches
  where
    below : range_contains nat_cmp (Excluded above) Unbounded n ≡ nat_lt above n
    below = go (cases_lt above n)
      where
        go : (above < n) ⊎ (n ≤ above) → range_contains nat_cmp (Excluded above) Unbounded n ≡ nat_lt above n
        go (inl low) = grind (arith, low)
        go (inr high) = grind (arith, high)

-- what holds of each batch holds of each behind a number
pub all_behind : (P : ℕ × List (List ℕ) → Type 0) (above : ℕ) (batches : Batches) → AllByRecursion P batches
    → AllByRecursion P (behind_number above batches)
all_behind P above batches all =
    recursion_from_All P (behind_number above batches)
    (All-filter (λ (e : ℕ × List (List ℕ)). range_contains nat_cmp (Excluded above) Unbounded e.0) P batches
    (All-from_recursion P batches all))

-- each of them is behind it
pub are_behind : (above : ℕ) (batches : Batches) → AllByRecursion (λ (e : ℕ × List (List ℕ)). above < e.0) (behind_number above batches)
are_behind above [] = tt
are_behind above (batch ∷ batches) =
    elim (range_contains nat_cmp (Excluded above) Unbounded batch.0) as (λ b. range_contains nat_cmp (Excluded above) Unbounded batch.0 ≡ b
    → AllByRecursion (λ (e : ℕ × List (List ℕ)). above < e.0)
    (cond b (batch ∷ behind_number above batches) (behind_number above batches))) [
      | true ↦ λ e. (low e, are_behind above batches)
      | false ↦ λ e. are_behind above batches
    ] refl
  where
    low : range_contains nat_cmp (Excluded above) Unbounded batch.0 ≡ true → above < batch.0
    low e = grind arith

-- they rise
pub behind_rises : (above : ℕ) (batches : Batches) → IsStrictlySortedBy nat_cmp (numbers batches)
    → IsStrictlySortedBy nat_cmp (numbers (behind_number above batches))
behind_rises above batches rising = subst (IsStrictlySortedBy nat_cmp) (sym (go batches))
    (IsStrictlySortedBy-filter nat_cmp in_range (numbers batches) rising)
  where
    in_range : ℕ → Bool
    in_range n = range_contains nat_cmp (Excluded above) Unbounded n

    go : (bs : Batches) → numbers (behind_number above bs) ≡ filter in_range (numbers bs)
    go [] = refl
    go (b ∷ bs) =
        elim (in_range b.0) as (λ t. numbers (cond t (b ∷ behind_number above bs) (behind_number above bs))
        ≡ cond t (b.0 ∷ filter in_range (numbers bs)) (filter in_range (numbers bs))) [
          | true ↦ ap (λ ns. b.0 ∷ ns) (go bs)
          | false ↦ go bs
        ]

-- the same rows are behind it
pub differs_behind : (above : ℕ) (one other : Batches) (n : ℕ) → DiffersAt above one other n
    → DiffersAt above (behind_number above one) other n
differs_behind above one other n d =
    record {
      behind = d.behind;
      rows = d.rows;
      those = d.those;
      there = found_behind above one n ∙ ap (λ b. if b then rows_at one n else None) (let low = d.behind in let e : nat_lt above n
          ≡ true = grind (arith, low) in e) ∙ d.there;
      there_too = d.there_too;
      differ = d.differ;
    }

pub either_none : {X : Type 0} (o : Option X) → either o None ≡ o
either_none None = refl
either_none (Some x) = refl

-- ---- batches that are among others

-- those behind a number are where all of them are
pub among_behind : (above : ℕ) (early others : Batches) → AreAmong above (behind_number above early) others → AreAmong above early others
among_behind above early others among number low rows there =
    let test : nat_lt above number ≡ true = grind (arith, low) in
    among number low rows (found_behind above early number ∙ ap (λ b. if b then rows_at early number else None) test ∙ there)

-- one batch more is
pub among_more : (above number : ℕ) (rows : List (List ℕ)) (rest others : Batches) → rows_at others number ≡ Some rows
    → AreAmong above rest others → AreAmong above ((number, rows) ∷ rest) others
among_more above number rows rest others has among n low those there = go (same_or_other n number)
  where
    go : (n ≡ number) ⊎ (n ≢ number) → rows_at others n ≡ Some those
    go (inl same) =
        ap (rows_at others) same ∙ has ∙ ap Some (some_is rows those (sym (at_head number rows rest)
        ∙ ap (rows_at ((number, rows) ∷ rest)) (sym same) ∙ there))
    go (inr apart) = among n low those (sym (behind_head n number rows rest apart) ∙ there)

pub among_none : (above : ℕ) (others : Batches) → AreAmong above [] others
among_none above others number low rows there = absurd (true≢false (sym (ap is_some there)))
