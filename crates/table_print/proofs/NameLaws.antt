-- No object of JSON has a name twice.
use Rattle.std.specs.Prelude.{◌≡◌, refl, ℕ, ◌+◌, ◌<◌, ◌^◌, Bool, true, false, ◌&&◌, List, [], ◌∷◌, ◌++◌, map, length, take, codes, decimal}
use Rattle.std.specs.Prelude.{Option, Some, None, unwrap_or, if◌then◌else◌}
use Rattle.std.specs.List.{AllByRecursion, IsDistinct, enumerate_from, list_all, list_any}
use Rattle.std.specs.Option.{ForSome}
use Rattle.std.specs.Str.{bytes_eq}
use Rattle.std.proofs.Common.{◌∙◌, Decides, ap, arith, get_or, subst, suc, sym, zero}
use Rattle.std.proofs.lemmas.List.{append-nil}
use Rattle.std.proofs.lemmas.Bool.{false≢true}
use Rattle.std.proofs.lemmas.Fmt.{decimal_injective}
use Rattle.std.proofs.lemmas.List.{get_or-map, length-map}
use Rattle.std.proofs.lemmas.List.FromFn.{get_or-enumerate_from, length-enumerate_from}
use Rattle.std.proofs.lemmas.Map.Keys.{IsDistinct-from_apart}
use Rattle.std.proofs.lemmas.Option.{slice_get-get_or}
use Rattle.std.proofs.lemmas.Slice.Eq.{bytes_eq-Decides}
use Rattle.grouping_model.specs.Aggregates.{Function, Count_rows, Count, Sum, Min, Max, Bit_and, Bit_or, Bit_xor, Bool_and, Bool_or, Every}
use Rattle.packed_rows.specs.Columns.{IsColumnName}
use Rattle.query_tokens.specs.Bytes.{is_in_name}
use Rattle.query_checks.specs.Forms.{Form, Column, Call, Call_where, Literal, Unary, Binary}
use Rattle.query_checks.specs.Checks.{Checked}
use Rattle.query_checks.specs.Labels.{function_name, label_of, own_name}
use Rattle.query_checks.specs.Writable.{IsItem, IsColumnOrCall, IsForm}
use Rattle.having_filter.specs.Kept.{IsCheckedQuery, by_names, headers}
use Rattle.table_print.specs.Json.{member_names, name_of}
use Rattle.table_print.proofs.AlignedLaws.{length-headers, length-items}
use Rattle.table_print.proofs.JsonLaws.{any_at}

-- a text of letters, digits and underscores
abbrev IsPlain : List ℕ → Type 0
IsPlain text = list_all is_in_name text ≡ true

both : (a b : Bool) → (a && b) ≡ true → (a ≡ true) × (b ≡ true)
both true b e = (refl, e)
both false b e = absurd (false≢true e)

-- a dot is in no name
no_dot : (b : ℕ) → 46 ≡ b → is_in_name b ≡ true → ⊥
no_dot b here passes = let dot : is_in_name 46 ≡ true = subst (λ n. is_in_name n ≡ true) (sym here) passes in absurd (false≢true dot)

-- two plain texts and what stands behind a dot after them: the same is behind the dot where all is the same
same_behind : (a b x y : List ℕ) → IsPlain a → IsPlain b → a ++ 46 ∷ x ≡ b ++ 46 ∷ y → x ≡ y
same_behind [] [] x y plain other e = cc
same_behind [] (c ∷ b) x y plain other e = let here : 46 ≡ c = cc in absurd (no_dot c here (both _ _ other).0)
same_behind (c ∷ a) [] x y plain other e = let here : 46 ≡ c = cc in absurd (no_dot c here (both _ _ plain).0)
same_behind (c ∷ a) (d ∷ b) x y plain other e =
    let rest : a ++ 46 ∷ x ≡ b ++ 46 ∷ y = cc in same_behind a b x y (both _ _ plain).1 (both _ _ other).1 rest

-- a plain text is none with a dot
dotless : (a b y : List ℕ) → IsPlain a → a ≡ b ++ 46 ∷ y → ⊥
dotless [] [] y plain e = cc
dotless [] (c ∷ b) y plain e = cc
dotless (c ∷ a) [] y plain e = let here : 46 ≡ c = cc in no_dot c here (both _ _ plain).0
dotless (c ∷ a) (d ∷ b) y plain e = let rest : a ≡ b ++ 46 ∷ y = cc in dotless a b y (both _ _ plain).1 rest

-- a header, and its place behind a dot where it is met again
abbrev named : List ℕ → Bool → ℕ → List ℕ
named header repeated place = header ++ (if repeated then codes "." ++ decimal place else [])

-- two such names differ if their places do, and their headers do or the second is met again
differ : (a b : List ℕ) (first second : Bool) (m n : ℕ) → IsPlain a → IsPlain b → m < 2 ^ 64 → n < 2 ^ 64 → ¬ (m ≡ n)
    → (second ≡ false → ¬ (a ≡ b)) → named a first m ≡ named b second n → ⊥
differ a b false false m n plain other low few apart new e = new refl (sym (append-nil a) ∙ e ∙ append-nil b)
differ a b false true m n plain other low few apart new e = dotless a b (decimal n) plain (sym (append-nil a) ∙ e)
differ a b true false m n plain other low few apart new e = dotless b a (decimal m) other (sym (append-nil b) ∙ sym e)
differ a b true true m n plain other low few apart new e =
    apart (decimal_injective m n low few (same_behind a b (decimal m) (decimal n) plain other e))

-- a test that fails where the texts differ
unequal : (a b : List ℕ) → ¬ (a ≡ b) → bytes_eq a b ≡ false
unequal a b other = by_test (bytes_eq a b) (bytes_eq-Decides a b)
  where
    by_test : (r : Bool) → Decides r (a ≡ b) → r ≡ false
    by_test true decides = absurd (other (decides.0 refl))
    by_test false decides = refl

-- the name at a place
name_at_place : (headers : List (List ℕ)) (n : ℕ) (d : List ℕ) → n < length headers
    → get_or (member_names headers) n d ≡ name_of headers (n, get_or headers n [])
name_at_place headers n d within =
    let numbered : n < length (enumerate_from 0 headers) = omega (arith, length-enumerate_from 0 headers) in
    let from : 0 + n ≡ n = omega arith in
    get_or-map (name_of headers) (enumerate_from 0 headers) n (0, []) d numbered
    ∙ ap (name_of headers) (get_or-enumerate_from 0 headers n (0, []) within ∙ ap (λ (k : ℕ). (k, get_or headers n [])) from)

-- names of plain headers are distinct
distinct_names : (headers : List (List ℕ)) → ((n : ℕ) → n < length headers → IsPlain (get_or headers n [])) → length headers < 2 ^ 63
    → IsDistinct bytes_eq (member_names headers)
distinct_names headers plain few =
    IsDistinct-from_apart bytes_eq (member_names headers) (λ i j d before within.
    let last : j < length headers = omega (
      arith,
      within,
      length-map (enumerate_from 0 headers) (name_of headers),
      length-enumerate_from 0 headers,
    ) in
    let first : i < length headers = omega (arith, before, last) in
    let a = get_or headers i [] in
    let b = get_or headers j [] in
    let again = list_any (bytes_eq b) (take j headers) in
    let new : again ≡ false → ¬ (a ≡ b) = λ none same.
    let met : again ≡ true = any_at (bytes_eq b) headers j i a (slice_get-get_or headers i [] first) before
    ((bytes_eq-Decides b a).1 (sym same)) in
    absurd (false≢true (sym none ∙ met)) in
    unequal (get_or (member_names headers) i d) (get_or (member_names headers) j d) (λ same.
    differ a b (list_any (bytes_eq a) (take i headers)) again (i + 1) (j + 1) (plain i first) (plain j last) (omega (arith, first, few))
    (omega (arith, last, few)) (λ e. omega (arith, before, e)) new
    (sym (name_at_place headers i d first) ∙ same ∙ name_at_place headers j d last)))

-- ---- the headers of a query

plain_function : (function : Function) → IsPlain (function_name function)
plain_function Count_rows = refl
plain_function Count = refl
plain_function Sum = refl
plain_function Min = refl
plain_function Max = refl
plain_function Bit_and = refl
plain_function Bit_or = refl
plain_function Bit_xor = refl
plain_function Bool_and = refl
plain_function Bool_or = refl
plain_function Every = refl

plain_own : (form : Form (List ℕ)) → IsColumnOrCall form → IsForm IsColumnName form → IsPlain (own_name form)
plain_own (Column name) item is = is.legal.continues
plain_own (Call function column) item is = plain_function function
plain_own (Call_where function column filter) item is = plain_function function
plain_own (Literal value) item is = absurd item
plain_own (Unary operator x) item is = absurd item
plain_own (Binary operator x y) item is = absurd item

plain_label : (form : Form (List ℕ)) (alias : Option (List ℕ)) → IsPlain (own_name form) → ForSome alias IsColumnName
    → IsPlain (label_of (form, alias))
plain_label form None own is = own
plain_label form (Some alias) own is = by_test (bytes_eq alias (own_name form))
  where
    by_test : (r : Bool) → IsPlain (unwrap_or (if r then None else Some alias) (own_name form))
    by_test true = own
    by_test false = (is alias refl).legal.continues

plain_labels : (items : List (Form (List ℕ) × Option (List ℕ))) → AllByRecursion IsItem items
    → (n : ℕ) → n < length items → IsPlain (get_or (map label_of items) n [])
plain_labels [] each n within = absurd (omega arith)
plain_labels (item ∷ items) each zero within =
    plain_label item.0 item.1 (plain_own item.0 each.0.value each.0.form) each.0.alias
plain_labels (item ∷ items) each (suc n) within = plain_labels items each.1 n (omega arith)

-- the names of a checked query's items are distinct
pub checked_names : (query : Checked) → IsCheckedQuery query → IsDistinct bytes_eq (member_names (headers query))
checked_names query checked =
    let items = (by_names query).written.items in
    let many = checked.well_formed.few_items in
    distinct_names (headers query) (λ n within.
    plain_labels items checked.writable.written.items n (omega (arith, within, length-map items label_of)))
    (omega (arith, many, length-headers query, length-items query))
