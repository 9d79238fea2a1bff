-- Laws: the names of columns and their places; these definitions serve the laws alone.
use Rattle.std.proofs.Common.{◌≡◌, ◌<◌, ◌==◌, ℕ, true, List, [], ◌∷◌, map, length, Option, Some, None, option_map, refl, ap, sym, ◌∙◌}
use Rattle.std.proofs.Common.{subst}
use Rattle.std.specs.Prelude.{is_some, unwrap_or, slice_index_or}
use Rattle.std.specs.Str.{bytes_eq}
use Rattle.std.specs.List.{AllByRecursion}
use Rattle.std.proofs.lemmas.Bool.{false≢true, eqb-true, eq-eqb}
use Rattle.std.proofs.lemmas.List.Quantifiers.{position-Some}
use Rattle.std.proofs.lemmas.Option.{slice_get-get_or}
use Rattle.std.proofs.lemmas.Slice.Eq.{bytes_eq-Decides}
use Rattle.std.specs.Cmp.{both_ways}
use Rattle.grouping_model.specs.Datum.{Bigint_kind}
use Rattle.packed_rows.specs.Columns.{Column, place_of}
use Rattle.query_checks.specs.Checks.{is_column, place}
use Rattle.query_checks.specs.Sameness.{first_of_each}
use Rattle.query_checks.specs.DistinctLaws.{Agrees, distinct_image}
use Rattle.query_checks.specs.FormLaws.{TakenBack}
use Rattle.having_filter.specs.Kept.{name_at}

-- a place that a name has is a column's, of this name
pub record IsPlaced (columns : List Column) (name : List ℕ) (at : ℕ) : Type 0 where
  pub in_range : at < length columns
  pub named : name_at columns at ≡ name

found_at : (columns : List Column) (name : List ℕ) (at : ℕ) → place_of name columns ≡ Some at → IsPlaced columns name at
found_at columns name at e =
    let anything : Column = record { name = []; kind = Bigint_kind } in
    let found = position-Some (λ (c : Column). bytes_eq name c.name) columns at anything e in
    let there = slice_get-get_or columns at anything found.0 in
    record {
      in_range = found.0;
      named = ap (λ (o : Option Column). unwrap_or (option_map (λ (c : Column). c.name) o) []) there
          ∙ sym ((bytes_eq-Decides name (slice_index_or columns at anything).name).0 found.1);
    }

by_place : (columns : List Column) (name : List ℕ) (found : Option ℕ) → place_of name columns ≡ found → is_some found ≡ true
    → IsPlaced columns name (place columns name)
by_place columns name None e t = absurd (false≢true t)
by_place columns name (Some at) e t = subst (λ k. IsPlaced columns name k) (sym (ap (λ (o : Option ℕ). unwrap_or o 0) e))
    (found_at columns name at e)

pub placed_name : (columns : List Column) (name : List ℕ) → is_column columns name ≡ true → IsPlaced columns name (place columns name)
placed_name columns name t = by_place columns name (place_of name columns) refl t

-- from a name to its place and back
pub names_back : (columns : List Column) → TakenBack (is_column columns) (place columns) (name_at columns)
names_back columns = record { back = λ name t. (placed_name columns name t).named }

-- columns have the same place where they have the same name
pub same_places : (columns : List Column) → Agrees (λ name. is_column columns name ≡ true) (place columns) ◌==◌ bytes_eq
same_places columns =
    record {
      agree = λ a b p q. both_ways (place columns a == place columns b) (bytes_eq a b)
          (λ e. (bytes_eq-Decides a b).1 (sym (placed_name columns a p).named
          ∙ ap (name_at columns) (eqb-true (place columns a) (place columns b) e) ∙ (placed_name columns b q).named))
          (λ e. eq-eqb (place columns a) (place columns b) (ap (place columns) ((bytes_eq-Decides a b).0 e)));
    }

-- the names of the places of columns
pub list_back : (columns : List Column) (names : List (List ℕ)) → AllByRecursion (λ name. is_column columns name ≡ true) names
    → map (name_at columns) (map (place columns) names) ≡ names
list_back columns [] all = refl
list_back columns (name ∷ names) all = λ i. (placed_name columns name all.0).named i ∷ list_back columns names all.1 i

-- the distinct places of columns are those of their distinct names
pub distinct_places : (columns : List Column) (names : List (List ℕ)) → AllByRecursion (λ name. is_column columns name ≡ true) names
    → first_of_each ◌==◌ (map (place columns) names) ≡ map (place columns) (first_of_each bytes_eq names)
distinct_places columns names all = distinct_image (λ name. is_column columns name ≡ true) (place columns) ◌==◌ bytes_eq
    (same_places columns) names all

-- places of columns are in range
pub places_in_range : (columns : List Column) (names : List (List ℕ)) → AllByRecursion (λ name. is_column columns name ≡ true) names
    → AllByRecursion (λ at. at < length columns) (map (place columns) names)
places_in_range columns [] all = tt
places_in_range columns (name ∷ names) all = ((placed_name columns name all.0).in_range, places_in_range columns names all.1)
