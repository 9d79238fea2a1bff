-- Names in their places, and rows one more at a time.
use Rattle.std.proofs.Common.{◌≡◌, ◌<◌, ◌≤◌, ◌+◌, ◌∙◌, ℕ, List, [], ◌∷◌, ◌++◌, ap, arith, flat_map, get_or, inl, inr, length}
use Rattle.std.proofs.Common.{subst, suc}
use Rattle.std.proofs.Common.{sym, take, drop, Some, slice_get, add-zero}
use Rattle.std.specs.Prelude.{All}
use Rattle.std.proofs.lemmas.Bool.{cases_order}
use Rattle.std.proofs.lemmas.List.{drop-drop, flat_map_more, get_or-drop, length-drop, take_all, take_more}
use Rattle.std.proofs.lemmas.List.Elements.{All-cons, All-nil, All-push}
use Rattle.std.proofs.lemmas.Option.{get_or_from_slice_get, slice_get_within}
use Rattle.script_io.specs.Records.{Record}
use Rattle.plain_batches.specs.Columns.{ArePlaces, IsAlone, IsNamed}

-- one more member of a list
pub one_more : {A : Type 0} (xs : List A) (n : ℕ) (x : A) → slice_get xs n ≡ Some x → take (n + 1) xs ≡ take n xs ++ x ∷ []
one_more xs n x h = take_more xs n x (slice_get_within xs n x h) ∙ ap (λ y. take n xs ++ y ∷ []) (get_or_from_slice_get xs n x x h)

-- a name that stands neither before a place nor behind it stands there alone
pub is_alone : (header : Record) (name : List ℕ) (place end : ℕ) → place < length header → length header ≤ end → IsNamed header name place
    → ((other : ℕ) → other < place → ¬ (IsNamed header name other))
    → ((other : ℕ) → other < end → place + 1 ≤ other → ¬ (IsNamed header name other)) → IsAlone header name place
is_alone header name place end within last named before behind = record {
  within = within;
  named = named;
  alone = λ other there again. elim (cases_order other place) [
    | inl same ↦ same
    | inr (inl less) ↦ absurd (before other less again)
    | inr (inr more) ↦ absurd (behind other (omega arith) (omega arith) again)
  ];
}

-- the places of names, and of one name more
places_push : (header names : Record) (places : List ℕ) (name : List ℕ) (place : ℕ) → ArePlaces header names places
    → IsAlone header name place → ArePlaces header (names ++ name ∷ []) (places ++ place ∷ [])
places_push header [] [] name place so_far alone = (alone, tt)
places_push header (n ∷ names) (p ∷ places) name place so_far alone = (so_far.0, places_push header names places name place so_far.1 alone)
places_push header [] (p ∷ places) name place so_far alone = absurd so_far
places_push header (n ∷ names) [] name place so_far alone = absurd so_far

pub places_more : (header names : Record) (places new : List ℕ) (n place : ℕ) → n < length names → ArePlaces header (take n names) places
    → IsAlone header (get_or names n []) place → new ≡ places ++ place ∷ [] → ArePlaces header (take (n + 1) names) new
places_more header names places new n place within so_far alone more =
    subst (ArePlaces header (take (n + 1) names)) (sym more)
    (subst (λ (ns : Record). ArePlaces header ns (places ++ place ∷ [])) (sym (take_more names n [] within))
    (places_push header (take n names) places (get_or names n []) place so_far alone))

pub places_all : (header names : Record) (places : List ℕ) (n : ℕ) → length names ≤ n → ArePlaces header (take n names) places
    → ArePlaces header names places
places_all header names places n all so_far = subst (λ (ns : Record). ArePlaces header ns places) (take_all n names all) so_far

-- places are as many as names, and each is one of the header
pub places_long : (header names : Record) (places : List ℕ) → ArePlaces header names places → length places ≡ length names
places_long header [] [] at = omega arith
places_long header (n ∷ names) (p ∷ places) at = ap suc (places_long header names places at.1)
places_long header [] (p ∷ places) at = absurd at
places_long header (n ∷ names) [] at = absurd at

pub places_within : (header names : Record) (places : List ℕ) → ArePlaces header names places → All (λ place. place < length header) places
places_within header [] [] at = All-nil (λ place. place < length header)
places_within header (n ∷ names) (p ∷ places) at = All-cons (λ place. place < length header) p places at.0.within
    (places_within header names places at.1)
places_within header [] (p ∷ places) at = absurd at
places_within header (n ∷ names) [] at = absurd at

-- ---- rows

-- the next of the rows that are left
pub next_row : (all rest : List Record) (n : ℕ) (fields : Record) → drop n all ≡ fields ∷ rest
    → (n < length all) × (get_or all n [] ≡ fields) × (drop (n + 1) all ≡ rest)
next_row all rest n fields is =
    let left = length-drop n all in
    let within : n < length all = omega (arith, ap length is, left) in
    let here : get_or all n [] ≡ fields = ap (λ (k : ℕ). get_or all k []) (sym (add-zero n)) ∙ sym (get_or-drop n all 0 [])
    ∙ ap (λ (l : List Record). get_or l 0 []) is in
    (within, here, sym (drop-drop 1 n all) ∙ ap (drop 1) is)

-- no row is left
pub no_row : (all : List Record) (n : ℕ) → drop n all ≡ [] → length all ≤ n
no_row all n is = let left = length-drop n all in omega (arith, ap length is, left)

-- the lines of the first rows, and of one more
pub lines_more : (line : Record → List ℕ) (all : List Record) (n : ℕ) (fields : Record) → n < length all → get_or all n [] ≡ fields
    → flat_map line (take n all) ++ line fields ≡ flat_map line (take (n + 1) all)
lines_more line all n fields within here =
    ap (λ (x : Record). flat_map line (take n all) ++ line x) (sym here)
    ∙ flat_map_more line [] (take n all) (get_or all n [])
    ∙ ap (λ (rows : List Record). flat_map line rows) (sym (take_more all n [] within))

-- a fact of the first rows, and of one more
pub all_more : (P : Record → Type 0) (all : List Record) (n : ℕ) (fields : Record) → n < length all → get_or all n [] ≡ fields
    → All P (take n all) → P fields → All P (take (n + 1) all)
all_more P all n fields within here so_far this =
    subst (All P) (sym (take_more all n [] within)) (All-push P (take n all) (get_or all n []) so_far (subst P (sym here) this))
