-- What readers have in common: bytes have one reading or one fault, and what is read in turn spells the bytes.
use Rattle.std.proofs.Common.{◌≡◌, refl, ℕ, zero, suc, ◌^◌, ◌<◌, ◌≤◌, ◌⊎◌, List, [], ◌∷◌, ◌++◌, take, drop, length, flat_map, Ok, Err, inl}
use Rattle.std.proofs.Common.{inr, sym, ap, subst, ◌∙◌, append-nil, append_assoc, arith}
use Rattle.std.proofs.lemmas.List.{length-append}
use Rattle.std.proofs.Math.Seq.{take-append_seam, drop-append_seam}
use Rattle.std.specs.Int.{bytes_high_first}
use Rattle.byteorder.specs.Numbers.{length-bytes_high_first}
use Rattle.agg_protocol.specs.ByteLaws.{reads}
use Rattle.summary_codec.specs.Lemmas.Words.{sized_bytes, Outcome, Reader, done, both, must, taken, number, number_within, sized, each}
use Rattle.summary_codec.specs.Lemmas.Words.{SummaryError}

-- ---- one outcome

-- bytes have at most one outcome
abbrev pub IsOne : {A : Type 0} → Reader A → Type 0
IsOne {A = A} r = (bytes : List ℕ) (a b : Outcome A) → r bytes a → r bytes b → a ≡ b

abbrev pub error_of : {A : Type 0} → SummaryError → Outcome A → SummaryError
error_of d (Ok found) = d
error_of d (Err e) = e

abbrev pub is_ok : {A : Type 0} → Outcome A → Type 0
is_ok (Ok found) = Unit {0}
is_ok (Err e) = ⊥

-- what is read with the second step, by the outcome of the first
abbrev reads_next : {A B : Type 0} → (A → Reader B) → Outcome B → Outcome A → Type 0
reads_next next out (Ok found) = next found.0 found.1 out
reads_next next out (Err e) = ⊥

-- the outcome of two steps, by that of the first
data Steps {A B : Type 0} (first : Reader A) (next : A → Reader B) (bytes : List ℕ) (out : Outcome B) : Type 0 where
  fails : (e : SummaryError) → first bytes (Err e) → out ≡ Err e → Steps first next bytes out
  goes_on : (x : A) (rest : List ℕ) → first bytes (Ok (x, rest)) → next x rest out → Steps first next bytes out

steps : {A B : Type 0} (first : Reader A) (next : A → Reader B) (bytes : List ℕ) (out : Outcome B) → both first next bytes out
    → Steps first next bytes out
steps first next bytes (Ok found) (x, rest, there, more) = goes_on x rest there more
steps first next bytes (Err e) (inl fault) = fails e fault refl
steps first next bytes (Err e) (inr (x, rest, there, more)) = goes_on x rest there more

pub one_both : {A B : Type 0} (first : Reader A) (next : A → Reader B) → IsOne first → ((x : A) → IsOne (next x)) → IsOne (both first next)
one_both {A} {B} first next one more bytes a b left right = go (steps first next bytes a left) (steps first next bytes b right)
  where
    go : Steps first next bytes a → Steps first next bytes b → a ≡ b
    go (fails e fault is) (fails f other same) = is ∙ ap Err (ap (error_of e) (one bytes (Err e) (Err f) fault other)) ∙ sym same
    go (fails e fault is) (goes_on y rest there more) = absurd (subst is_ok (sym (one bytes (Err e) (Ok (y, rest)) fault there)) tt)
    go (goes_on x rest there more) (fails f other same) = absurd (subst is_ok (one bytes (Ok (x, rest)) (Err f) there other) tt)
    go (goes_on x rest there left) (goes_on y other too right) =
        more x rest a b left (subst (reads_next next b) (sym (one bytes (Ok (x, rest)) (Ok (y, other)) there too)) right)

pub one_done : {A : Type 0} (x : A) → IsOne (done x)
one_done x bytes (Ok a) (Ok b) left right = λ i. Ok ((left.0 ∙ sym right.0) i, (left.1 ∙ sym right.1) i)
one_done x bytes (Ok a) (Err f) left right = absurd right
one_done x bytes (Err e) b left right = absurd left

pub one_must : {A : Type 0} (right : Type 0) (fault : SummaryError) (next : Reader A) → IsOne next → IsOne (must right fault next)
one_must right fault next one bytes a b left those = go (parts a left) (parts b those)
  where
    parts : (out : Outcome _) → must right fault next bytes out → (right × next bytes out) ⊎ ((¬ right) × (out ≡ Err fault))
    parts (Ok found) (is, more) = inl (is, more)
    parts (Err e) (inl more) = inl more
    parts (Err e) (inr (not, is)) = inr (not, ap Err is)

    go : (right × next bytes a) ⊎ ((¬ right) × (a ≡ Err fault)) → (right × next bytes b) ⊎ ((¬ right) × (b ≡ Err fault)) → a ≡ b
    go (inl (is, left)) (inl (too, those)) = one bytes a b left those
    go (inl (is, left)) (inr (not, those)) = absurd (not is)
    go (inr (not, left)) (inl (is, those)) = absurd (not is)
    go (inr (not, left)) (inr (nor, those)) = left ∙ sym those

-- a field of so many bytes is all of the front of the bytes, and the rest is behind it
front_is : (count : ℕ) (bytes front rest : List ℕ) → bytes ≡ front ++ rest → length front ≡ count → front ≡ take count bytes
front_is count bytes front rest is l = sym (ap (take count) is ∙ ap (λ n. take n (front ++ rest)) (sym l) ∙ take-append_seam front rest)

rest_is : (count : ℕ) (bytes front rest : List ℕ) → bytes ≡ front ++ rest → length front ≡ count → rest ≡ drop count bytes
rest_is count bytes front rest is l = sym (ap (drop count) is ∙ ap (λ n. drop n (front ++ rest)) (sym l) ∙ drop-append_seam front rest)

long_enough : (count : ℕ) (bytes front rest : List ℕ) → bytes ≡ front ++ rest → length front ≡ count → length bytes < count → ⊥
long_enough count bytes front rest is l short =
    let both = ap length is ∙ length-append front rest in
    omega (arith, both, l, short)

pub one_taken : (count : ℕ) → IsOne (taken count)
one_taken count bytes (Ok a) (Ok b) left right =
    λ i. Ok (
      (front_is count bytes a.0 a.1 left.0 left.1 ∙ sym (front_is count bytes b.0 b.1 right.0 right.1)) i,
      (rest_is count bytes a.0 a.1 left.0 left.1 ∙ sym (rest_is count bytes b.0 b.1 right.0 right.1)) i,
    )
one_taken count bytes (Ok a) (Err f) left right = absurd (long_enough count bytes a.0 a.1 left.0 left.1 right.0)
one_taken count bytes (Err e) (Ok b) left right = absurd (long_enough count bytes b.0 b.1 right.0 right.1 left.0)
one_taken count bytes (Err e) (Err f) left right = ap Err (left.1 ∙ sym right.1)

pub one_number : (width : ℕ) → IsOne (number width)
unfolding number
one_number width bytes (Ok a) (Ok b) left right =
    let n = length-bytes_high_first width a.0 in
    let m = length-bytes_high_first width b.0 in
    let same : a.0 ≡ b.0 = sym (reads width a.0 bytes a.1 left.1 left.0) ∙ reads width b.0 bytes b.1 right.1 right.0 in
    let rests : a.1 ≡ b.1 = rest_is width bytes (bytes_high_first width a.0) a.1 left.0 n
    ∙ sym (rest_is width bytes (bytes_high_first width b.0) b.1 right.0 m) in
    λ i. Ok (same i, rests i)
one_number width bytes (Ok a) (Err f) left right = absurd (long_enough width bytes (bytes_high_first width a.0) a.1 left.0
    (length-bytes_high_first width a.0) right.0)
one_number width bytes (Err e) (Ok b) left right = absurd (long_enough width bytes (bytes_high_first width b.0) b.1 right.0
    (length-bytes_high_first width b.0) left.0)
one_number width bytes (Err e) (Err f) left right = ap Err (left.1 ∙ sym right.1)

pub one_each : {A : Type 0} (item : List A → Reader A) → ((before : List A) → IsOne (item before)) → (n : ℕ) (before : List A)
    → IsOne (each item n before)
one_each item one zero before = one_done before
one_each item one (suc n) before = one_both (item before) (λ x. each item n (before ++ x ∷ [])) (one before)
    (λ x. one_each item one n (before ++ x ∷ []))

-- ---- what is read is what was written

pub read_number : (width n : ℕ) (rest : List ℕ) → n < 256 ^ width → number width (bytes_high_first width n ++ rest) (Ok (n, rest))
unfolding number
read_number width n rest low = (refl, low)

pub read_within : (width most n : ℕ) (rest : List ℕ) → n < 256 ^ width → n ≤ most → number_within width most (bytes_high_first width n
    ++ rest) (Ok (n, rest))
unfolding number_within
read_within width most n rest low within = (n, rest, read_number width n rest low, (within, (refl, refl)))

pub read_sized : (bytes rest : List ℕ) → length bytes < 256 ^ 2 → sized (sized_bytes bytes ++ rest) (Ok (bytes, rest))
unfolding sized
read_sized bytes rest short =
    subst (λ all. both (number 2) taken all (Ok (bytes, rest))) (sym (append_assoc (bytes_high_first 2 (length bytes)) bytes rest))
    (length bytes, bytes ++ rest, read_number 2 (length bytes) (bytes ++ rest) short, (refl, refl))

-- each of some things is right behind those before it
abbrev pub AreRight : {A : Type 0} → (List A → A → Type 0) → List A → List A → Type 0
AreRight right before [] = Unit {0}
AreRight right before (x ∷ xs) = right before x × AreRight right (before ++ x ∷ []) xs

pub read_each : {A : Type 0} (item : List A → Reader A) (write : A → List ℕ) (right : List A → A → Type 0)
    → ((before : List A) (x : A) (rest : List ℕ) → right before x → item before (write x ++ rest) (Ok (x, rest)))
    → (xs before : List A) (rest : List ℕ) → AreRight right before xs
    → each item (length xs) before (flat_map write xs ++ rest) (Ok (before ++ xs, rest))
read_each item write right reads_one [] before rest are = (append-nil before, refl)
read_each item write right reads_one (x ∷ xs) before rest (is, are) =
    subst (λ all. each item (suc (length xs)) before all (Ok (before ++ x ∷ xs, rest)))
    (sym (append_assoc (write x) (flat_map write xs) rest)) (
      x,
      flat_map write xs ++ rest,
      reads_one before x (flat_map write xs ++ rest) is,
      subst (λ all. each item (length xs) (before ++ x ∷ []) (flat_map write xs ++ rest) (Ok (all, rest))) (append_assoc before (x ∷ []) xs)
          (read_each item write right reads_one xs (before ++ x ∷ []) rest are),
    )

-- ---- what is read spells the bytes

pub record Spells {A : Type 0} (write : A → List ℕ) (allowed : A → Type 0) (bytes : List ℕ) (found : A × List ℕ) : Type 0 where
  pub is : bytes ≡ write found.0 ++ found.1
  pub right : allowed found.0

pub spells_within : (width most : ℕ) (bytes : List ℕ) (found : ℕ × List ℕ) → number_within width most bytes (Ok found)
    → Spells (bytes_high_first width) (λ n. (n < 256 ^ width) × (n ≤ most)) bytes found
unfolding number_within number
spells_within width most bytes found (n, rest, there, (within, (same, rests))) =
    record {
      is = there.0 ∙ (λ i. bytes_high_first width (sym same i) ++ sym rests i);
      right = (subst (λ m. m < 256 ^ width) (sym same) there.1, subst (λ m. m ≤ most) (sym same) within);
    }

pub spells_sized : (bytes : List ℕ) (found : List ℕ × List ℕ) → sized bytes (Ok found)
    → Spells sized_bytes (λ b. length b < 256 ^ 2) bytes found
unfolding sized number
spells_sized bytes found (n, rest, there, (is, same)) =
    record {
      is = there.0 ∙ (λ i. bytes_high_first 2 (sym same i) ++ is i)
          ∙ sym (append_assoc (bytes_high_first 2 (length found.0)) found.0 found.1);
      right = subst (λ m. m < 256 ^ 2) (sym same) there.1;
    }

-- what is read one after the other
pub record SpellsEach {A : Type 0} (write : A → List ℕ) (allowed : List A → A → Type 0) (n : ℕ) (before : List A) (bytes : List ℕ)
    (found : List A × List ℕ) : Type 0 where
  pub more : List A
  pub all : found.0 ≡ before ++ more
  pub count : length more ≡ n
  pub is : bytes ≡ flat_map write more ++ found.1
  pub are : AreRight allowed before more

pub spells_each : {A : Type 0} (item : List A → Reader A) (write : A → List ℕ) (right : List A → A → Type 0)
    → ((before : List A) (bytes : List ℕ) (found : A × List ℕ) → item before bytes (Ok found) → Spells write (right before) bytes found)
    → (n : ℕ) (before : List A) (bytes : List ℕ) (found : List A × List ℕ) → each item n before bytes (Ok found)
    → SpellsEach write right n before bytes found
spells_each item write right spells zero before bytes found (same, rest) =
    record { more = []; all = same ∙ sym (append-nil before); count = refl; is = sym rest; are = tt }
spells_each item write right spells (suc n) before bytes found (x, rest, there, others) =
    let one = spells before bytes (x, rest) there in
    let them = spells_each item write right spells n (before ++ x ∷ []) rest found others in
    record {
      more = x ∷ them.more;
      all = them.all ∙ append_assoc before (x ∷ []) them.more;
      count = ap suc them.count;
      is = one.is ∙ ap (λ r. write x ++ r) them.is ∙ sym (append_assoc (write x) (flat_map write them.more) found.1);
      are = (one.right, them.are);
    }
