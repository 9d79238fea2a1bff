-- Names and members of objects, one more at a time.
use Rattle.std.proofs.Common.{◌≡◌, ◌<◌, ◌≤◌, ◌+◌, ◌∙◌, ℕ, List, [], ◌∷◌, ◌++◌, ◌==◌, append_assoc, ap, arith, codes, get_or, length, take}
use Rattle.std.proofs.Common.{Bool, Some, false, if◌then◌else◌, min, refl, slice_get, suc, sym, true, zero}
use Rattle.std.specs.Prelude.{◌||◌}
use Rattle.std.proofs.lemmas.List.Folds.{list_any-append}
use Rattle.std.proofs.lemmas.Option.{none-some, same_Some}
use Rattle.std.proofs.lemmas.List.{get_or-map, length-map, map-append, take_all, take_more}
use Rattle.std.proofs.lemmas.List.FromFn.{get_or-enumerate_from, length-enumerate_from}
use Rattle.std.proofs.lemmas.Slice.Zip.{get_or-zip, length-zip}
use Rattle.std.specs.List.{enumerate_from, join_by, list_any, zip}
use Rattle.std.specs.declared.alloc.Global.{Global}
use Rattle.std.specs.declared.vec.Vec.{Vec}
use Rattle.grouping_model.specs.Aggregates.{Outcome, Plain}
use Rattle.grouping_model.specs.Datum.{Null}
use Rattle.packed_rows.specs.View.{bytes_of}
use Rattle.table_print.proofs.AlignedLaws.{longer_line}
use Rattle.table_print.proofs.RowLaws.{one_more}
use Rattle.table_print.specs.Json.{json_member, json_names, json_row, json_string, name_of}

-- as many names as headers
pub length-json_names : (headers : List (List ℕ)) → length (json_names headers) ≡ length headers
length-json_names headers = length-map (enumerate_from 0 headers) (λ column. json_string (name_of headers column))
    ∙ length-enumerate_from 0 headers

one_more_name : (headers : List (List ℕ)) (n : ℕ) → n < length headers
    → take (n + 1) (json_names headers) ≡ take n (json_names headers) ++ json_string (name_of headers (n, get_or headers n [])) ∷ []
one_more_name headers n within =
    let numbered : n < length (enumerate_from 0 headers) = omega (arith, length-enumerate_from 0 headers) in
    let listed : n < length (json_names headers) = omega (arith, length-json_names headers) in
    let from : 0 + n ≡ n = omega arith in
    let here : get_or (enumerate_from 0 headers) n (0, []) ≡ (n, get_or headers n [])
    = get_or-enumerate_from 0 headers n (0, []) within ∙ ap (λ (k : ℕ). (k, get_or headers n [])) from in
    let name : get_or (json_names headers) n [] ≡ json_string (name_of headers (n, get_or headers n []))
    = get_or-map (λ column. json_string (name_of headers column)) (enumerate_from 0 headers) n (0, []) [] numbered
    ∙ ap (λ (column : ℕ × List ℕ). json_string (name_of headers column)) here in
    take_more (json_names headers) n [] listed ∙ ap (λ (x : List ℕ). take n (json_names headers) ++ x ∷ []) name

-- a name more
pub longer_names : (headers : List (List ℕ)) (n : ℕ) (name : Vec ℕ Global) (old new : List (Vec ℕ Global)) → n < length headers
    → bytes_of old ≡ take n (json_names headers) → new ≡ old ++ name ∷ []
    → name.items ≡ json_string (name_of headers (n, get_or headers n [])) → bytes_of new ≡ take (n + 1) (json_names headers)
longer_names headers n name old new within is more here =
    ap bytes_of more ∙ map-append (λ (v : Vec ℕ Global). v.items) old (name ∷ [])
    ∙ ap (λ (names : List (List ℕ)). names ++ name.items ∷ []) is
    ∙ ap (λ (x : List ℕ). take n (json_names headers) ++ x ∷ []) here
    ∙ sym (one_more_name headers n within)

-- all names
pub all_names : (headers : List (List ℕ)) (n : ℕ) (names : List (Vec ℕ Global)) → length headers ≤ n
    → bytes_of names ≡ take n (json_names headers) → bytes_of names ≡ json_names headers
all_names headers n names all is = is ∙ take_all n (json_names headers) (omega (arith, length-json_names headers))

-- what there is where no member is
abbrev pub no_member : List ℕ × Outcome
no_member = ([], Plain Null)

-- an object that is one member longer
pub longer_object : (names : List (List ℕ)) (row : List Outcome) (n : ℕ) (name : List ℕ) (value : Outcome) (old line new : List ℕ)
    → n < length names → n < length row → get_or names n [] ≡ name → get_or row n (Plain Null) ≡ value
    → line ≡ old ++ join_by json_member (codes ",") (take n (zip names row))
    → new ≡ line ++ (if n == 0 then [] else codes ",") ++ json_member (name, value)
    → new ≡ old ++ join_by json_member (codes ",") (take (n + 1) (zip names row))
longer_object names row n name value old line new within beyond named here is more =
    let beside : get_or (zip names row) n no_member ≡ (name, value)
    = get_or-zip names row n no_member within beyond ∙ ap (λ (x : List ℕ). (x, get_or row n (Plain Null))) named
    ∙ ap (λ (x : Outcome). (name, x)) here in
    let there : n < length (zip names row) = omega (arith, length-zip names row) in
    longer_line json_member (codes ",") (zip names row) n no_member old line new there is
    (more ∙ ap (λ (member : List ℕ × Outcome). line ++ (if n == 0 then [] else codes ",") ++ json_member member) (sym beside))

-- an object of all its members
pub whole_object : (names : List (List ℕ)) (row : List Outcome) (n : ℕ) (start line new : List ℕ) → min (length names) (length row) ≤ n
    → line ≡ (start ++ codes "{") ++ join_by json_member (codes ",") (take n (zip names row)) → new ≡ line ++ codes "}\n"
    → new ≡ start ++ json_row names row
whole_object names row n start line new all is ends =
    let every : length (zip names row) ≤ n = omega (arith, length-zip names row) in
    let members = join_by json_member (codes ",") (zip names row) in
    ends
    ∙ ap (λ (l : List ℕ). l ++ codes "}\n") (is
    ∙ ap (λ (pairs : List (List ℕ × Outcome)). (start ++ codes "{") ++ join_by json_member (codes ",") pairs)
    (take_all n (zip names row) every)
    ∙ append_assoc start (codes "{") members)
    ∙ append_assoc start (codes "{" ++ members) (codes "}\n")

-- the bytes of a name
pub name_at : (names : List (Vec ℕ Global)) (n : ℕ) (d : Vec ℕ Global) → n < length names → get_or (bytes_of names) n []
    ≡ (get_or names n d).items
name_at names n d within = get_or-map (λ (v : Vec ℕ Global). v.items) names n d [] within

pub length-bytes_of : (names : List (Vec ℕ Global)) → length (bytes_of names) ≡ length names
length-bytes_of names = length-map names (λ (v : Vec ℕ Global). v.items)

-- ---- a header that an earlier column has

-- one of the first passes a test
pub any_at : (p : List ℕ → Bool) (xs : List (List ℕ)) (n k : ℕ) (x : List ℕ) → slice_get xs k ≡ Some x → k < n → p x ≡ true
    → list_any p (take n xs) ≡ true
any_at p [] n k x at within passes = absurd (none-some x at)
any_at p (y ∷ ys) zero k x at within passes = absurd (omega arith)
any_at p (y ∷ ys) (suc n) zero x at within passes =
    let here : p y ≡ true = ap p (same_Some y x at) ∙ passes in
    rw here refl
any_at p (y ∷ ys) (suc n) (suc k) x at within passes = or_right (p y) (any_at p ys n k x at (omega arith) passes)
  where
    or_right : (a : Bool) {b : Bool} → b ≡ true → (a || b) ≡ true
    or_right true e = refl
    or_right false e = e

-- none of the first passes a test, nor does the next
pub none_more : (p : List ℕ → Bool) (xs : List (List ℕ)) (n : ℕ) (x : List ℕ) → slice_get xs n ≡ Some x → list_any p (take n xs) ≡ false
    → p x ≡ false → list_any p (take (n + 1) xs) ≡ false
none_more p xs n x at none fails =
    ap (list_any p) (one_more xs n x at) ∙ list_any-append p (take n xs) (x ∷ []) ∙ rw (none, fails) refl
