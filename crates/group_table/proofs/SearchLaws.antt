-- A key that is in an array is found.
use Rattle.std.specs.Prelude.{◌≡◌, ◌≢◌, ℕ, ◌+◌, ◌<◌, ◌≤◌, ◌⊎◌, true, List, Option, Some, None, is_some, refl, IsSome}
use Rattle.std.proofs.Common.{inl, inr, sym, ◌∙◌, ap, subst, arith}
use Rattle.std.proofs.lemmas.Bool.{cases_eq, cases_lt, false≢true}
use Rattle.group_table.proofs.Words.{chunk_bytes, Context, bucket_at, start_of, passes, IsIndex, IsFreeFor, IsHashOf, IsOther, Tells}
use Rattle.group_table.proofs.Words.{HasNone, Bucket}
use Rattle.group_table.specs.Index.{in_use}
use Rattle.group_table.specs.declared.search.Probe.TheVariants.{Free, Passed}
use Rattle.group_table.proofs.IndexLaws.{one_more, not_all}
use Rattle.std.proofs.lemmas.Bool.Decides.{nat_tests}
use Rattle.std.proofs.lemmas.Grind.{common_steps}

-- a bucket of another hash is another's; and one of which a hash is known is in use
hash_used : (o : Option Bucket) (h : ℕ) → IsHashOf o h → (b : Bucket) × (o ≡ Some b) × (b.hash ≡ h)
hash_used None h is = absurd is
hash_used (Some b) h is = (b, refl, is)

pub other_hash : (keys : Context) (array : List ℕ) (hash : ℕ) (key : List ℕ) (place h : ℕ) → IsHashOf (bucket_at array place) h → h ≢ hash
    → IsOther keys array hash key place
other_hash keys array hash key place h is differs =
    let used = hash_used (bucket_at array place) h is in (used.0, used.1, λ equal. absurd (differs (sym used.2 ∙ equal)))

pub known_used : (o : Option Bucket) (h : ℕ) → IsHashOf o h → IsSome o
known_used None h is = absurd is
known_used (Some b) h is = refl

-- one more bucket that is another's
pub next_other : (keys : Context) (array : List ℕ) (hash : ℕ) (key : List ℕ) (from n : ℕ)
    → ((other : ℕ) → from ≤ other → other < n → IsOther keys array hash key other) → IsOther keys array hash key n
    → (other : ℕ) → from ≤ other → other < n + 1 → IsOther keys array hash key other
next_other keys array hash key from n before other = one_more (IsOther keys array hash key) from n before other

-- a bucket of another key is not that of this key
not_other : (keys : Context) (array : List ℕ) (hash : ℕ) (key : List ℕ) (place : ℕ) (b : Bucket) → IsOther keys array hash key place
    → bucket_at array place ≡ Some b → b.hash ≡ hash → chunk_bytes keys b.key ≢ key
not_other keys array hash key place b (x, is, differs) there same = grind (arith, nat_tests, common_steps)

-- a free bucket has no key, and no search passes it
not_free : (o : Option Bucket) → o ≡ None → is_some o ≡ true → ⊥
not_free o none is = false≢true (sym (ap is_some none) ∙ is)

low_passed : (start end place : ℕ) → start ≤ end → start ≤ place → place < end → passes start end place ≡ true
low_passed start end place order low high = grind (arith, nat_tests)

high_passed : (start end place : ℕ) → end < start → (start ≤ place) ⊎ (place < end) → passes start end place ≡ true
high_passed start end place order (inl above) = grind (arith, nat_tests)
high_passed start end place order (inr below) = grind (arith, nat_tests)

-- what a search has passed
low_from : (start end place : ℕ) → start ≤ end → passes start end place ≡ true → start ≤ place
low_from start end place order on = grind (arith, nat_tests)

low_to : (start end place : ℕ) → start ≤ end → passes start end place ≡ true → place < end
low_to start end place order on = grind (arith, nat_tests)

high_to : (start end place : ℕ) → end < start → place < start → passes start end place ≡ true → place < end
high_to start end place order below on = grind (arith, nat_tests)

-- a bucket of another key is in use
used : (keys : Context) (array : List ℕ) (hash : ℕ) (key : List ℕ) (place : ℕ) → IsOther keys array hash key place
    → is_some (bucket_at array place) ≡ true
used keys array hash key place (b, is, differs) = ap is_some is

-- a key that is at a place, and a search that comes to a free bucket, or to none
module _ (keys : Context) (array : List ℕ) (count start hash : ℕ) (key : List ℕ) (index : IsIndex array count) (from : start
    ≡ start_of hash count) where
  -- no search for the hash passes a free bucket before it comes to the key
  free_on_path : (b : Bucket) (place free : ℕ) → place < count → bucket_at array place ≡ Some b → b.hash ≡ hash → free < count
      → bucket_at array free ≡ None → passes start place free ≡ true → ⊥
  free_on_path b place free within is same free_within none on = grind (arith, nat_tests, common_steps)

  there_and_free : (b : Bucket) (place : ℕ) → bucket_at array place ≡ Some b → bucket_at array place ≡ None → ⊥
  there_and_free b place is none = not_free (bucket_at array place) none (ap is_some is)

  pub none_at_first : (free : ℕ) → start < count → Tells keys array start count hash key (Free free) → HasNone keys array count hash key
  none_at_first free low (from_start, free_within, none, before) b (place, within, is) same = by (cases_lt place start)
    where
      behind : start ≤ place → (place < free) ⊎ (free ≤ place) → (place ≡ free) ⊎ (place ≡ free → ⊥) → chunk_bytes keys b.key ≢ key
      behind above (inl less) other = not_other keys array hash key place b (before place above less) is same
      behind above (inr more) (inl equal) = absurd (there_and_free b place is (ap (bucket_at array) equal ∙ none))
      behind above (inr more) (inr differ) = absurd (free_on_path b place free within is same free_within none
          (low_passed start place free above from_start (omega (arith, more, differ))))

      by : (place < start) ⊎ (start ≤ place) → chunk_bytes keys b.key ≢ key
      by (inl below) = absurd (free_on_path b place free within is same free_within none
          (high_passed start place free below (inl from_start)))
      by (inr above) = behind above (cases_lt place free) (cases_eq place free)

  -- where the search went on from the first bucket
  module _ (low : start < count) (passed : Tells keys array start count hash key Passed) where
    pub none_at_last : (free : ℕ) → Tells keys array 0 start hash key (Free free) → HasNone keys array count hash key
    none_at_last free (from_first, free_below, none, before) b (place, within, is) same = by (cases_lt place start)
      where
        others : place < start → (place < free) ⊎ (free ≤ place) → (place ≡ free) ⊎ (place ≡ free → ⊥) → chunk_bytes keys b.key ≢ key
        others below (inl less) other = not_other keys array hash key place b (before place (omega arith) less) is same
        others below (inr more) (inl equal) = absurd (there_and_free b place is (ap (bucket_at array) equal ∙ none))
        others below (inr more) (inr differ) =
            absurd (free_on_path b place free within is same (omega (arith, free_below, low)) none
            (high_passed start place free below (inr (omega (arith, more, differ)))))

        by : (place < start) ⊎ (start ≤ place) → chunk_bytes keys b.key ≢ key
        by (inr above) = not_other keys array hash key place b (passed place above within) is same
        by (inl below) = others below (cases_lt place free) (cases_eq place free)

    pub free_at_last : (free : ℕ) → Tells keys array 0 start hash key (Free free) → IsFreeFor array count hash free
    free_at_last free (from_first, free_below, none, before) = record {
      within = omega (arith, free_below, low);
      free = none;
      path = λ place h on. by place h (subst (λ s. passes s free place ≡ true) (sym from) on) (cases_lt place start);
    }
      where
        by : (place : ℕ) → place < count → passes start free place ≡ true → (place < start) ⊎ (start ≤ place)
            → is_some (bucket_at array place)
            ≡ true
        by place h on (inr above) = used keys array hash key place (passed place above h)
        by place h on (inl below) = used keys array hash key place
            (before place (omega arith) (high_to start free place free_below below on))

    pub not_passed : in_use array count < count → Tells keys array 0 start hash key Passed → ⊥
    not_passed room all = not_all array count start room (λ place above h. used keys array hash key place (passed place above h))
        (λ place above h. used keys array hash key place (all place above h))

  pub free_at_first : (free : ℕ) → start < count → Tells keys array start count hash key (Free free) → IsFreeFor array count hash free
  free_at_first free low (from_start, free_within, none, before) = record {
    within = free_within;
    free = none;
    path = λ place h on. by place (subst (λ s. passes s free place ≡ true) (sym from) on);
  }
    where
      by : (place : ℕ) → passes start free place ≡ true → is_some (bucket_at array place) ≡ true
      by place on = used keys array hash key place
          (before place (low_from start free place from_start on) (low_to start free place from_start on))
