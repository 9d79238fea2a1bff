-- The bytes of buckets.
use Rattle.std.specs.Prelude.{◌≡◌, ◌≢◌, ℕ, ◌+◌, ◌*◌, ◌^◌, ◌<◌, ◌≤◌, List, ◌++◌, Some, None, length, take, drop, get_or, refl, Bool}
use Rattle.std.specs.Prelude.{true, false, cond, ◌==◌}
use Rattle.std.specs.Int.{w32, to_be_bytes}
use Rattle.std.proofs.Common.{rules, sym, ◌∙◌, ap, arith}
use Rattle.std.proofs.lemmas.List.{places, same_lists}
use Rattle.std.proofs.lemmas.Bool.{false≢true, ne_eqb}
use Rattle.group_table.proofs.Words.{IsHashOf, number_at, name_at, bucket_in, bucket_at, Bucket}
use Rattle.std.proofs.lemmas.Bool.Decides.{nat_tests}
use Rattle.std.proofs.lemmas.Grind.{common_steps}

-- four bytes that are the same give the same number
four : (xs ys : List ℕ) (a b : ℕ) → get_or xs a 0 ≡ get_or ys b 0 → get_or xs (a + 1) 0 ≡ get_or ys (b + 1) 0 → get_or xs (a + 2) 0
    ≡ get_or ys (b + 2) 0 → get_or xs (a + 3) 0 ≡ get_or ys (b + 3) 0
    → number_at xs a ≡ number_at ys b
unfolding number_at
four xs ys a b first second third last = rw (first, second, third, last)

-- a list of which k members from a place on were written over: before that part and behind it
before_part : (xs : List ℕ) (at k : ℕ) (ys : List ℕ) (i : ℕ) → at ≤ length xs → i < at
    → get_or (take at xs ++ (ys ++ drop k (drop at xs))) i 0 ≡ get_or xs i 0
before_part xs at k ys i in_xs h = grind (arith, places)

behind_part : (xs : List ℕ) (at k : ℕ) (ys : List ℕ) (i : ℕ) → at + k ≤ length xs → length ys ≡ k → at + k ≤ i
    → get_or (take at xs ++ (ys ++ drop k (drop at xs))) i 0 ≡ get_or xs i 0
behind_part xs at k ys i in_xs len h = grind (arith, places)

-- a number that is written, and one beside it
pub number_set : (at n k : ℕ) (xs ys : List ℕ) → ys ≡ to_be_bytes w32 n → n < 2 ^ 32 → at + 4 ≤ length xs
    → number_at (take at xs ++ (ys ++ drop k (drop at xs))) at ≡ n
unfolding number_at
number_set at n k xs ys bytes small in_xs = grind (arith, nat_tests, common_steps)

pub number_before : (at k other : ℕ) (xs ys : List ℕ) → at ≤ length xs → other + 4 ≤ at
    → number_at (take at xs ++ (ys ++ drop k (drop at xs))) other ≡ number_at xs other
number_before at k other xs ys in_xs low =
    let each : (i : ℕ) → i < at → get_or (take at xs ++ (ys ++ drop k (drop at xs))) i 0
    ≡ get_or xs i 0 = λ i h. before_part xs at k ys i in_xs h in
    four _ xs other other (each other (omega (arith, low))) (each (other + 1) (omega (arith, low))) (each (other + 2) (omega (arith, low)))
    (each (other + 3) (omega (arith, low)))

pub number_behind : (at k other : ℕ) (xs ys : List ℕ) → k ≡ 4 → length ys ≡ 4 → at + 4 ≤ length xs → at + 4 ≤ other
    → number_at (take at xs ++ (ys ++ drop k (drop at xs))) other ≡ number_at xs other
number_behind at k other xs ys is len in_xs high =
    let each : (i : ℕ) → at + 4 ≤ i → get_or (take at xs ++ (ys ++ drop k (drop at xs))) i 0
    ≡ get_or xs i 0 = λ i h. behind_part xs at k ys i (omega (arith, is, in_xs)) (len ∙ sym is) (omega (arith, is, h)) in
    four _ xs other other (each other (omega (arith, high))) (each (other + 1) (omega (arith, high)))
    (each (other + 2) (omega (arith, high))) (each (other + 3) (omega (arith, high)))

-- a name whose three numbers are the same is the same
pub same_name : (xs ys : List ℕ) (at : ℕ) → number_at xs at ≡ number_at ys at → number_at xs (at + 4) ≡ number_at ys (at + 4)
    → number_at xs (at + 8) ≡ number_at ys (at + 8) → name_at xs at ≡ name_at ys at
same_name xs ys at block offset len = rw (block, offset, len)

-- a bucket in use, by its parts
pub in_use : (xs : List ℕ) (b : Bucket) → name_at xs 0 ≡ b.key → name_at xs 12 ≡ b.state → number_at xs 24 ≡ b.hash → number_at xs 28 ≡ 1
    → bucket_in xs ≡ Some b
unfolding bucket_in
in_use xs b key state hash used = rw (used, key, state, hash)

-- the bucket at a place of an array of which 32 bytes were written over
pub bucket_set : (place k : ℕ) (xs ys : List ℕ) → k ≡ 32 → length ys ≡ 32 → 32 * place + 32 ≤ length xs
    → bucket_at (take (place * 32) xs ++ (ys ++ drop k (drop (place * 32) xs))) place ≡ bucket_in ys
unfolding bucket_at
bucket_set place k xs ys is len in_xs = grind (arith, nat_tests, common_steps)

pub bucket_beside : (place k other : ℕ) (xs ys : List ℕ) → k ≡ 32 → length ys ≡ 32 → 32 * place + 32 ≤ length xs → other ≢ place
    → bucket_at (take (place * 32) xs ++ (ys ++ drop k (drop (place * 32) xs))) other ≡ bucket_at xs other
unfolding bucket_at
bucket_beside place k other xs ys is len in_xs differ =
    ap bucket_in (same_lists _ _ (search (rules, places)) (λ j d h. grind (arith, places)))

-- a bucket in use has the hash that is read by itself
pub hash_read : (xs : List ℕ) → number_at xs 28 ≢ 0 → IsHashOf (bucket_in xs) (number_at xs 24)
unfolding bucket_in
hash_read xs some = by (number_at xs 28 == 0) (ne_eqb (number_at xs 28) 0 some)
  where
    by : (t : Bool) → t ≡ false
        → IsHashOf (cond t None (Some (record { key = name_at xs 0; state = name_at xs 12; hash = number_at xs 24 }))) (number_at xs 24)
    by true is = absurd (false≢true (sym is))
    by false is = refl
