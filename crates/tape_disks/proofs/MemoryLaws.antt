-- The bytes of a disk in memory.
use Rattle.std.specs.Prelude.{◌≡◌, ◌≢◌, ℕ, ◌+◌, ◌-◌, ◌/◌, ◌%◌, ◌<◌, ◌≤◌, ◌⊎◌, false, List, ◌++◌, Option, Some, None, length, get_or, take}
use Rattle.std.specs.Prelude.{drop, IsTrue}
use Rattle.std.specs.BTreeMap.{is_at}
use Rattle.std.specs.Ordering.{nat_cmp}
use Rattle.std.proofs.Common.{refl, sym, ◌∙◌, ap, subst, arith, inl, inr}
use Rattle.std.proofs.lemmas.Bool.{cases_eq, cases_lt}
use Rattle.std.proofs.lemmas.Bool.Decides.{nat_tests}
use Rattle.std.proofs.lemmas.Grind.{common_steps}
use Rattle.std.proofs.lemmas.List.{places, get_or-replicate, get_or_past}
use Rattle.block_memory.specs.Cells.{zeros}
use Rattle.chunk_layout.specs.Contents.{ChunkContents}
use Rattle.chunk_layout.specs.declared.place.ChunkName.{ChunkName}
use Rattle.chunk_contexts.specs.Chunks.{is_live, bytes_of, Keeps, KeepsOthers}
use Rattle.tape_disks.specs.Memory.{MemoryState, name_of, byte_in, byte_at, IsSameBeside, ArePages}

-- a list of zeros
pub zero_at : (n k : ℕ) → get_or (zeros n) k 0 ≡ 0
unfolding zeros
zero_at n k = grind (arith, common_steps, get_or-replicate, get_or_past)

-- a list that was written over, beside that part
pub over_beside : (xs ys : List ℕ) (at k : ℕ) → at + length ys ≤ length xs → (k < at) ⊎ (at + length ys ≤ k)
    → get_or (take at xs ++ (ys ++ drop (at + length ys) xs)) k 0 ≡ get_or xs k 0
over_beside xs ys at k fits (inl low) = grind (arith, places)
over_beside xs ys at k fits (inr high) = grind (arith, places)

-- a place beside others in their page
beside_in : (at n place : ℕ) → place / 8192 ≡ at / 8192 → (place < at) ⊎ (at + n ≤ place) → (place % 8192 < at % 8192)
    ⊎ (at % 8192 + n ≤ place % 8192)
beside_in at n place same (inl low) = inl (omega (arith, same, low))
beside_in at n place same (inr high) = inr (omega (arith, same, high))

-- a page whose chunk was kept
page_kept : (m : MemoryState) (chunks : List ChunkContents) (page k : ℕ) (found : Option ChunkName)
    → ((name : ChunkName) → found ≡ Some name → bytes_of chunks name ≡ bytes_of m.chunks name) → byte_in chunks found k
    ≡ byte_in m.chunks found k
page_kept m chunks page k None keeps = refl
page_kept m chunks page k (Some name) keeps = ap (λ bs. get_or bs k 0) (keeps name refl)

-- after bytes of one page were written
module _ (m : MemoryState) (chunks : List ChunkContents) (name : ChunkName) (at : ℕ) (bytes : List ℕ) (here : name_of m.pages (at / 8192)
    ≡ Some name) (len : length (bytes_of m.chunks name) ≡ 8192) (fits : at % 8192 + length bytes ≤ 8192)
    (over : bytes_of chunks name ≡ take (at % 8192) (bytes_of m.chunks name)
    ++ (bytes ++ drop (at % 8192 + length bytes) (bytes_of m.chunks name))) where
  pub put_there : (k : ℕ) → k < length bytes → byte_in chunks (name_of m.pages ((at + k) / 8192)) ((at + k) % 8192) ≡ get_or bytes k 0
  put_there k small =
      let page : (at + k) / 8192 ≡ at / 8192 = omega (arith, small, fits) in
      let place : (at + k) % 8192 ≡ at % 8192 + k = omega (arith, small, fits) in
      let xs = bytes_of m.chunks name in
      let part : get_or (take (at % 8192) xs ++ (bytes ++ drop (at % 8192 + length bytes) xs)) (at % 8192 + k) 0
      ≡ get_or bytes k 0 = grind (arith, places) in
      ap (λ q. byte_in chunks (name_of m.pages q) ((at + k) % 8192)) page ∙ ap (λ x. byte_in chunks x ((at + k) % 8192)) here
      ∙ ap (λ bs. get_or bs ((at + k) % 8192) 0) over
      ∙ ap (λ i. get_or (take (at % 8192) xs ++ (bytes ++ drop (at % 8192 + length bytes) xs)) i 0) place ∙ part

  pub put_same : ArePages m → KeepsOthers m.chunks chunks name name → (place : ℕ) → (place < at) ⊎ (at + length bytes ≤ place)
      → byte_in chunks (name_of m.pages (place / 8192)) (place % 8192) ≡ byte_at m place
  put_same are keeps place beside = elim (cases_eq (place / 8192) (at / 8192)) [
    | inl same ↦
        let found : name_of m.pages (place / 8192) ≡ Some name = ap (name_of m.pages) same ∙ here in
        ap (λ x. byte_in chunks x (place % 8192)) found ∙ ap (λ bs. get_or bs (place % 8192) 0) over
        ∙ over_beside (bytes_of m.chunks name) bytes (at % 8192) (place % 8192) (omega (arith, len, fits))
        (beside_in at (length bytes) place same beside) ∙ sym (ap (λ x. byte_in m.chunks x (place % 8192)) found)
    | inr differ ↦ page_kept m chunks (place / 8192) (place % 8192) (name_of m.pages (place / 8192))
        (λ other found. (keeps other (are.apart (at / 8192) (place / 8192) name other here found (λ e. differ (sym e)))
        (are.live (place / 8192) other found)).2)
  ]

-- what is found at the places of a page that was new
pub take_same : (m : MemoryState) (chunks : List ChunkContents) (pages : List (ℕ × ChunkName)) (name : ChunkName) (page : ℕ) → ArePages m
    → name_of m.pages page ≡ None → name_of pages page ≡ Some name → ((r : ℕ) → r ≢ page → name_of pages r ≡ name_of m.pages r)
    → bytes_of chunks name ≡ zeros 8192 → Keeps m.chunks chunks name → (place : ℕ)
    → byte_in chunks (name_of pages (place / 8192)) (place % 8192) ≡ byte_at m place
take_same m chunks pages name page are none here others blank keeps place =
    let q = place / 8192 in let k = place % 8192 in
    elim (cases_eq q page) [
      | inl same ↦
          ap (λ r. byte_in chunks (name_of pages r) k) same ∙ ap (λ found. byte_in chunks found k) here ∙ ap (λ bs. get_or bs k 0) blank
          ∙ zero_at 8192 k ∙ sym (ap (λ r. byte_in m.chunks (name_of m.pages r) k) same ∙ ap (λ found. byte_in m.chunks found k) none)
      | inr differ ↦ ap (λ found. byte_in chunks found k) (others q differ)
          ∙ page_kept m chunks q k (name_of m.pages q) (λ other found. (keeps other (are.live q other found)).2)
    ]

-- one part was written behind others
pub written_more : (m m' : MemoryState) (at done n : ℕ) (bytes part : List ℕ) → ((k : ℕ) → k < done → byte_at m (at + k) ≡ get_or bytes k 0)
    → ((k : ℕ) → k < length part → byte_at m' (at + done + k) ≡ get_or part k 0)
    → ((k : ℕ) → k < n → get_or part k 0 ≡ get_or bytes (done + k) 0) → length part ≡ n → IsSameBeside m m' (at + done) (length part)
    → (k : ℕ) → k < done + n → byte_at m' (at + k) ≡ get_or bytes k 0
written_more m m' at done n bytes part before here same len beside k small = elim (cases_lt k done) [
  | inl low ↦ beside (at + k) (inl (omega (arith, low))) ∙ before k low
  | inr high ↦
      let j : ℕ = k - done in
      let back : done + j ≡ k = omega (arith, high) in
      let short : j < n = omega (arith, high, small) in
      let there : at + done + j ≡ at + k = omega (arith, back) in
      subst (λ x. byte_at m' x ≡ get_or bytes k 0) there (here j (omega (arith, short, len)) ∙ same j short
      ∙ ap (λ x. get_or bytes x 0) back)
]

pub same_more : (m0 m m' : MemoryState) (at done n : ℕ) → IsSameBeside m0 m at done → IsSameBeside m m' (at + done) n
    → IsSameBeside m0 m' at (done + n)
same_more m0 m m' at done n before here place (inl low) = here place (inl (omega (arith, low))) ∙ before place (inl low)
same_more m0 m m' at done n before here place (inr high) = here place (inr (omega (arith, high))) ∙ before place (inr (omega (arith, high)))

pub not_at : (page other : ℕ) → other ≢ page → is_at (nat_cmp page) other ≡ false
not_at page other differ = grind (arith, nat_tests, common_steps)

-- a live chunk is as long as its name says
pub live_len : (chunks : List ChunkContents) (name : ChunkName) → IsTrue (is_live chunks name) → length (bytes_of chunks name) ≡ name.len
live_len chunks name live = grind (arith, nat_tests, common_steps)
