-- What a map from names to kinds says of a schema's columns.
use Rattle.std.specs.Prelude.{◌≡◌, ℕ, zero, suc, ◌<◌, List, [], ◌∷◌, ◌++◌, map, length, slice_get, slice_index_or, option_map, Option, Some}
use Rattle.std.specs.Prelude.{None, string_bytes, position, cond, not, nat_lt, ◌+◌, take, codes, is_some, true, false, ◌||◌}
use Rattle.std.specs.String.{string_eq}
use Rattle.indexmap.specs.IndexMap.{IndexMap, get_by, insert_entry}
use Rattle.indexmap.proofs.CallerLemmas.{insert_entry-new}
use Rattle.std.proofs.lemmas.List.{take_more}
use Rattle.std.proofs.lemmas.Option.{same_Some}
use Rattle.std.specs.List.{position_or_len, list_any, AllByRecursion, AllZip, IsDistinct}
use Rattle.std.proofs.Common.{refl, sym, ◌∙◌, ap, arith, append_assoc, subst, inl, inr}
use Rattle.std.specs.Str.{bytes_eq}
use Rattle.std.specs.declared.alloc.Global.{Global}
use Rattle.std.specs.declared.string.String.{String}
use Rattle.grouping_model.specs.Datum.{Kind}
use Rattle.packed_rows.specs.declared.value.ValueKind.{ValueKind}
use Rattle.packed_rows.specs.declared.error.RowError.TheVariants.{BadSchema}
use Rattle.query_tokens.specs.Reserved.{is_reserved}
use Rattle.packed_rows.specs.Refusal.{AddFault}
use Rattle.packed_rows.specs.View.{kind_of, kinds_of}
use Rattle.packed_rows.specs.Columns.{Column, columns_of, kinds, names, place_of, printed, column_text}
use Rattle.std.specs.Map.{lookup, keys_of}
use Rattle.std.proofs.lemmas.Map.Made.{is_some-lookup}
use Rattle.list_laws.specs.Outcomes.{none_there}

pub kinds_are : (entries : List (String Global × ValueKind)) → kinds_of (map (λ e. e.1) entries) ≡ kinds (columns_of entries)
kinds_are [] = refl
kinds_are (e ∷ entries) = ap (λ ks. kind_of e.1 ∷ ks) (kinds_are entries)

heads : (x y : Kind) (xs ys : List Kind) → x ∷ xs ≡ y ∷ ys → x ≡ y
heads x y xs ys e = cc

tails : (x y : Kind) (xs ys : List Kind) → x ∷ xs ≡ y ∷ ys → xs ≡ ys
tails x y xs ys e = cc

pub kind_at : (columns : List Column) (ks : List ValueKind) (k : ℕ) (d : ValueKind) → kinds_of ks ≡ kinds columns → k < length columns
    → option_map (λ c. c.kind) (slice_get columns k) ≡ Some (kind_of (slice_index_or ks k d))
kind_at [] ks k d e h = absurd (omega (arith, h))
kind_at (c ∷ columns) [] k d e h = absurd cc
kind_at (c ∷ columns) (x ∷ ks) zero d e h = ap Some (sym (heads (kind_of x) c.kind (kinds_of ks) (kinds columns) e))
kind_at (c ∷ columns) (x ∷ ks) (suc k) d e h = kind_at columns ks k d (tails (kind_of x) c.kind (kinds_of ks) (kinds columns) e)
    (omega (arith, h))

pub name_at : (entries : List (String Global × ValueKind)) (k : ℕ) (d : String Global) → k < length (columns_of entries)
    → option_map (λ c. c.name) (slice_get (columns_of entries) k) ≡ Some (string_bytes (slice_index_or (map (λ e. e.0) entries) k d))
name_at [] k d h = absurd (omega (arith, h))
name_at (e ∷ entries) zero d h = refl
name_at (e ∷ entries) (suc k) d h = name_at entries k d (omega (arith, h))

same_place : (name : List ℕ) (entries : List (String Global × ValueKind))
    → position_or_len (λ k. bytes_eq name (string_bytes k)) (map (λ e. e.0) entries)
    ≡ position_or_len (λ (c : Column). bytes_eq name c.name) (columns_of entries)
same_place name [] = refl
same_place name (e ∷ entries) = ap (λ n. cond (not (bytes_eq name (string_bytes e.0))) (1 + n) 0) (same_place name entries)

same_length : (entries : List (String Global × ValueKind)) → length (map (λ e. e.0) entries) ≡ length (columns_of entries)
same_length [] = refl
same_length (e ∷ entries) = ap (λ n. suc n) (same_length entries)

found_at : (m n m' n' : ℕ) → m ≡ m' → n ≡ n' → (◌≡◌ {A = Option ℕ} (cond (nat_lt m n) (Some m) None) (cond (nat_lt m' n') (Some m') None))
found_at m n m' n' p q = λ i. cond (nat_lt (p i) (q i)) (Some (p i)) None

pub place_is : (name : List ℕ) (entries : List (String Global × ValueKind))
    → position (λ k. bytes_eq name (string_bytes k)) (map (λ e. e.0) entries) ≡ place_of name (columns_of entries)
place_is name entries = found_at _ _ _ _ (same_place name entries) (same_length entries)

-- ---- printing

abbrev pub separator : List Column → List ℕ
separator [] = []
separator (column ∷ columns) = codes ", "

pub printed_push : (columns : List Column) (column : Column) → printed (columns ++ column ∷ []) ≡ printed columns ++ separator columns
    ++ column_text column
printed_push [] column = refl
printed_push (a ∷ []) column = refl
printed_push (a ∷ b ∷ columns) column =
    ap (λ (w : List ℕ). column_text a ++ codes ", " ++ w) (printed_push (b ∷ columns) column)
    ∙ sym (append_assoc (column_text a ++ codes ", ") (printed (b ∷ columns) ++ codes ", ") (column_text column))
    ∙ ap (λ (w : List ℕ). w ++ column_text column) (sym (append_assoc (column_text a ++ codes ", ") (printed (b ∷ columns)) (codes ", ")))

pub first_separator : (columns : List Column) (i : ℕ) → i ≡ 0 → separator (take i columns) ≡ []
first_separator columns i e = rw e refl

pub later_separator : (columns : List Column) (i : ℕ) → 0 < i → i < length columns → separator (take i columns) ≡ codes ", "
later_separator [] i p h = absurd (omega (arith, h))
later_separator (c ∷ columns) zero p h = absurd (omega (arith, p))
later_separator (c ∷ columns) (suc i) p h = refl

column_eta : (column : Column) (name : List ℕ) (kind : Kind) → column.name ≡ name → column.kind ≡ kind → column
    ≡ record { name = name; kind = kind }
column_eta column name kind p q = λ i. record { name = p i; kind = q i }

column_is : (columns : List Column) (i : ℕ) (d : Column) (name : List ℕ) (kind : Kind) → i < length columns
    → option_map (λ c. c.name) (slice_get columns i) ≡ Some name → option_map (λ c. c.kind) (slice_get columns i) ≡ Some kind
    → slice_index_or columns i d ≡ record { name = name; kind = kind }
column_is [] i d name kind h p q = absurd (omega (arith, h))
column_is (c ∷ columns) zero d name kind h p q = column_eta c name kind (same_Some c.name name p) (same_Some c.kind kind q)
column_is (c ∷ columns) (suc i) d name kind h p q = column_is columns i d name kind (omega (arith, h)) p q

pub printed_more : (columns : List Column) (i : ℕ) (name : List ℕ) (kind : Kind) → i < length columns
    → option_map (λ c. c.name) (slice_get columns i) ≡ Some name → option_map (λ c. c.kind) (slice_get columns i) ≡ Some kind
    → printed (take (i + 1) columns) ≡ printed (take i columns) ++ separator (take i columns)
    ++ column_text (record { name = name; kind = kind })
printed_more columns i name kind h p q =
    let column : Column = record { name = name; kind = kind } in
    ap printed (take_more columns i column h ∙ ap (λ (c : Column). take i columns ++ c ∷ []) (column_is columns i column name kind h p q))
    ∙ printed_push (take i columns) column

-- ---- a new column

pub column_new : (entries : List (String Global × ValueKind)) (name : String Global) (kind : ValueKind)
    → columns_of (entries ++ (name, kind) ∷ []) ≡ columns_of entries ++ record { name = string_bytes name; kind = kind_of kind } ∷ []
column_new [] name kind = refl
column_new (e ∷ entries) name kind = ap (λ (w : List Column). record { name = string_bytes e.0; kind = kind_of e.1 }
    ∷ w) (column_new entries name kind)

-- whether a map has a column of a name
pub named_column : (name : List ℕ) (entries : List (String Global × ValueKind))
    → is_some (lookup (λ k. bytes_eq name (string_bytes k)) entries) ≡ list_any (bytes_eq name) (names (columns_of entries))
named_column name entries = is_some-lookup (λ k. bytes_eq name (string_bytes k)) entries ∙ each entries
  where
    each : (es : List (String Global × ValueKind)) → list_any (λ k. bytes_eq name (string_bytes k)) (keys_of es)
        ≡ list_any (bytes_eq name) (names (columns_of es))
    each [] = refl
    each (e ∷ es) = ap (λ b. bytes_eq name (string_bytes e.0) || b) (each es)

-- a map with a new name has one more column
pub new_column : {S : Type 0} (m m' : IndexMap (String Global) ValueKind S) (name : List ℕ) (key : String Global) (kind : ValueKind)
    → string_bytes key ≡ name → is_some (lookup (λ k. bytes_eq name (string_bytes k)) m.entries) ≡ false → m'.entries
    ≡ insert_entry string_eq m.entries key kind → columns_of m'.entries ≡ columns_of m.entries
    ++ record { name = name; kind = kind_of kind } ∷ []
new_column m m' name key kind named none entries =
    let absent : get_by (λ k. bytes_eq (string_bytes key) (string_bytes k)) m ≡ None =
    subst (λ (w : List ℕ). get_by (λ k. bytes_eq w (string_bytes k)) m ≡ None) (sym named) (none_there _ none) in
    ap columns_of (entries ∙ insert_entry-new string_eq m key kind absent) ∙ column_new m.entries key kind
    ∙ ap (λ (w : List ℕ). columns_of m.entries ++ record { name = w; kind = kind_of kind } ∷ []) named

-- a map's names are distinct
pub distinct_names : (entries : List (String Global × ValueKind)) → IsDistinct string_eq (keys_of entries)
    → IsDistinct bytes_eq (names (columns_of entries))
unfolding IsDistinct
distinct_names [] d = tt
distinct_names (e ∷ es) d = (others es d.0, distinct_names es d.1)
  where
    others : (es : List (String Global × ValueKind)) → AllByRecursion (λ k. string_eq e.0 k ≡ false) (keys_of es)
        → AllByRecursion (λ n. bytes_eq (string_bytes e.0) n ≡ false) (names (columns_of es))
    others [] all = tt
    others (x ∷ xs) all = (all.0, others xs all.1)

-- as many columns as entries
pub columns_long : (entries : List (String Global × ValueKind)) → length (columns_of entries) ≡ length entries
columns_long [] = refl
columns_long (e ∷ es) = ap (λ n. suc n) (columns_long es)

-- nothing is wrong with a new name
pub no_fault : (entries : List (String Global × ValueKind)) (name : List ℕ) → (length entries ≡ 32 → ⊥)
    → is_some (lookup (λ k. bytes_eq name (string_bytes k)) entries) ≡ false → is_reserved name ≡ false
    → ¬ (AddFault name (columns_of entries) BadSchema)
no_fault entries name few none free = λ fault.
    elim fault [
      | inl full ↦ few (sym (columns_long entries) ∙ full)
      | inr other ↦ elim other [
        | inl there ↦ clash (sym there ∙ sym (named_column name entries) ∙ none)
        | inr reserved ↦ clash (sym reserved ∙ free)
      ]
    ]
  where
    clash : true ≡ false → ⊥
    clash e = cc

-- columns whose names and kinds are clones are the same
pub cloned_columns : (entries clones : List (String Global × ValueKind)) → AllZip (λ p q. (string_bytes q.0 ≡ string_bytes p.0)
    × (q.1 ≡ p.1)) entries clones → columns_of clones ≡ columns_of entries
cloned_columns [] [] all = refl
cloned_columns [] (d ∷ clones) all = absurd all
cloned_columns (e ∷ entries) [] all = absurd all
cloned_columns (e ∷ entries) (d ∷ clones) all = λ i. record { name = all.0.0 i; kind = kind_of (all.0.1 i) }
    ∷ cloned_columns entries clones all.1 i
