-- Reading one thing after another.
use Rattle.std.proofs.Common.{◌≡◌, refl, ℕ, zero, suc, ◌+◌, ◌-◌, ◌<◌, ◌≤◌, List, [], ◌∷◌, ◌++◌, map, Ok, Err, inl, sym, ap, ◌∙◌, subst}
use Rattle.std.proofs.Common.{arith}
use Rattle.std.specs.List.Sorted.{IsStrictlySortedBy}
use Rattle.std.specs.Ordering.{nat_cmp, match_ordering}
use Rattle.std.specs.declared.cmp.Ordering.TheVariants.{Less, Greater}
use Rattle.std.specs.Cmp.{nat_cmp_total}
use Rattle.std.specs.BTreeMap.{insert_entry}
use Rattle.summary_codec.specs.Lemmas.RisingLaws.{last_of_all, rises_next}
use Rattle.summary_codec.specs.Reading.{IsNext, Outcome, Reader, each}
use Rattle.summary_codec.specs.declared.error.SummaryError.{SummaryError}
use Rattle.summary_codec.specs.Lemmas.LoopLaws.{goes_on}

-- so many things were read, and what is read of the others is read of all
abbrev pub ReadSoFar : {A : Type 0} → (List A → Reader A) → ℕ → List ℕ → ℕ → List A → List ℕ → Type 0
ReadSoFar {A = A} item count start counter before bytes = (out : Outcome (List A)) → each item (count - counter) before bytes out
    → each item count [] start out

module _ {A : Type 0} (item : List A → Reader A) (count : ℕ) (start : List ℕ) where
  pub read_none : ReadSoFar item count start 0 [] start
  read_none out all = subst (λ n. each item n [] start out) all_left all
    where
      all_left : count - 0 ≡ count
      all_left = omega arith

  one_left : (counter : ℕ) → counter < count → count - counter ≡ suc (count - (counter + 1))
  one_left counter low = omega (arith, low)

  pub read_more : (counter : ℕ) (before after : List A) (x : A) (bytes rest : List ℕ) → counter < count → item before bytes (Ok (x, rest))
      → after ≡ before ++ x ∷ [] → ReadSoFar item count start counter before bytes
      → ReadSoFar item count start (counter + 1) after rest
  read_more counter before after x bytes rest low there is so_far out more =
      so_far out (subst (λ n. each item n before bytes out) (sym (one_left counter low))
      (goes_on (item before) (λ y. each item (count - (counter + 1)) (before ++ y ∷ [])) bytes rest x out there
      (subst (λ l. each item (count - (counter + 1)) l rest out) is more)))

  pub read_fault : (counter : ℕ) (before : List A) (bytes : List ℕ) (e : SummaryError) → counter < count → item before bytes (Err e)
      → ReadSoFar item count start counter before bytes → each item count [] start (Err e)
  read_fault counter before bytes e low fault so_far =
      so_far (Err e) (subst (λ n. each item n before bytes (Err e)) (sym (one_left counter low)) (inl fault))

  pub read_all : (counter : ℕ) (before : List A) (bytes : List ℕ) → count ≤ counter → ReadSoFar item count start counter before bytes
      → each item count [] start (Ok (before, bytes))
  read_all counter before bytes done so_far =
      so_far (Ok (before, bytes)) (subst (λ n. each item n before bytes (Ok (before, bytes))) (sym none_left) (refl, refl))
    where
      none_left : count - counter ≡ zero
      none_left = omega (arith, done)

-- ---- entries under rising numbers

-- an entry whose number is above the others comes last
inserted : {X : Type 0} (es : List (ℕ × X)) (n : ℕ) (x : X) → IsStrictlySortedBy nat_cmp (map (λ (e : ℕ × X). e.0) es ++ n ∷ [])
    → insert_entry nat_cmp es n x ≡ es ++ (n, x) ∷ []
unfolding IsStrictlySortedBy
inserted [] n x rising = refl
inserted {X} (e ∷ es) n x rising =
    ap (λ o. match_ordering o ((n, x) ∷ e ∷ es) ((e.0, x) ∷ es) (e ∷ insert_entry nat_cmp es n x))
    (greater (last_of_all (λ m. nat_cmp e.0 m ≡ Less) (map (λ (f : ℕ × X). f.0) es) n rising.0))
    ∙ ap (λ l. e ∷ l) (inserted es n x rising.1)
  where
    greater : nat_cmp e.0 n ≡ Less → nat_cmp n e.0 ≡ Greater
    greater less = grind arith

pub put_last : {X : Type 0} (old new : List (ℕ × X)) (n : ℕ) (x : X) → IsStrictlySortedBy nat_cmp (map (λ (e : ℕ × X). e.0) old)
    → IsNext nat_cmp (map (λ (e : ℕ × X). e.0) old) n → new ≡ insert_entry nat_cmp old n x → new ≡ old ++ (n, x) ∷ []
put_last {X} old new n x rising above is = is
    ∙ inserted old n x (rises_next nat_cmp nat_cmp_total (map (λ (e : ℕ × X). e.0) old) n rising above)
