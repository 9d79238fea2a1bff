-- Laws: the groups of a list of rows as a map, and the groups of two lists of rows appended; nothing here is a
-- definition.
use Rattle.std.specs.Prelude.{◌≡◌, refl, true, false, cond, ◌||◌, List, [], ◌∷◌, map, filter, Some, None, option_map, find, unwrap_or}
use Rattle.std.proofs.Common.{sym, ◌∙◌, ap}
use Rattle.grouping_model.specs.Datum.{Row, row_cmp, same_row}
use Rattle.grouping_model.specs.Rising.{is_among}
use Rattle.grouping_model.specs.Rising.Facts.{among-distinct}
use Rattle.grouping_model.specs.Aggregates.{Partial}
use Rattle.grouping_model.specs.Query.{Query}
use Rattle.grouping_model.specs.Grouping.{selected, key_of, keys, group, partials, Group, part}
use Rattle.grouping_model.specs.Parts.{partials_at, partials_or_none}
use Rattle.grouping_model.specs.DatumOrderLaws.{row_cmp_total, same_row-is}
use Rattle.grouping_model.specs.MemberLaws.{false_is_not_true}

pub same_row-swap : (x y : Row) → same_row x y ≡ same_row y x
same_row-swap x y =
    elim (same_row x y) as (λ b. same_row x y ≡ b → b ≡ same_row y x) [
      | true ↦ λ e. sym ((same_row-is y x).1 (sym ((same_row-is x y).0 e)))
      | false ↦ λ e. elim (same_row y x) as (λ c. same_row y x ≡ c → false ≡ c) [
        | true ↦ λ f. false_is_not_true (sym e ∙ (same_row-is x y).1 (sym ((same_row-is y x).0 f)))
        | false ↦ λ f. refl
      ] refl
    ] refl

-- the partial results that are found at a key
pub found_at : (results : Row → List Partial) (key : Row) (ks : List Row) → partials_at key (map (λ k. (k, results k)) ks)
    ≡ cond (is_among row_cmp key ks) (Some (results key)) None
found_at results key [] = refl
found_at results key (k ∷ ks) =
    elim (same_row k key) as (λ b. same_row k key ≡ b
    → option_map (λ (group : Group). group.1)
    (cond b (Some (k, results k)) (find (λ (group : Group). same_row group.0 key) (map (λ k. (k, results k)) ks)))
    ≡ cond (is_among row_cmp key (k ∷ ks)) (Some (results key)) None) [
      | true ↦ λ e.
          ap (λ k. Some (results k)) ((same_row-is k key).0 e)
          ∙ ap (λ b. cond (b || is_among row_cmp key ks) (Some (results key)) None) (sym (sym (same_row-swap k key) ∙ e))
      | false ↦ λ e.
          found_at results key ks
          ∙ ap (λ b. cond (b || is_among row_cmp key ks) (Some (results key)) None) (sym (sym (same_row-swap k key) ∙ e))
    ] refl

pub partials_at-part : (query : Query) (rows : List Row) (key : Row) → partials_at key (part query rows)
    ≡ cond (is_among row_cmp key (keys query rows)) (Some (partials query (group query rows key))) None
partials_at-part query rows key = found_at (λ k. partials query (group query rows k)) key (keys query rows)

-- a key that no row has is the key of no group
pub empty_group : (key_of : Row → Row) (key : Row) (rows : List Row) → is_among row_cmp key (map key_of rows) ≡ false
    → filter (λ row. same_row (key_of row) key) rows ≡ []
empty_group key_of key [] e = refl
empty_group key_of key (row ∷ rows) e =
    elim (same_row (key_of row) key) as (λ b. same_row (key_of row) key ≡ b → cond b (row ∷ filter (λ row. same_row (key_of row) key) rows)
    (filter (λ row. same_row (key_of row) key) rows) ≡ []) [
      | true ↦ λ f. false_is_not_true (sym e ∙ ap (λ b. b || is_among row_cmp key (map key_of rows)) (sym (same_row-swap (key_of row) key)
          ∙ f))
      | false ↦ λ f. empty_group key_of key rows (ap (λ b. b || is_among row_cmp key (map key_of rows))
          (sym (sym (same_row-swap (key_of row) key) ∙ f)) ∙ e)
    ] refl

pub partials_or_none-part : (query : Query) (rows : List Row) (key : Row) → partials_or_none query key (part query rows)
    ≡ partials query (group query rows key)
partials_or_none-part query rows key =
    ap (λ found. unwrap_or found (partials query [])) (partials_at-part query rows key)
    ∙ elim (is_among row_cmp key (keys query rows)) as (λ b. is_among row_cmp key (keys query rows) ≡ b
    → unwrap_or (cond b (Some (partials query (group query rows key))) None) (partials query [])
    ≡ partials query (group query rows key)) [
      | true ↦ λ e. refl
      | false ↦ λ e.
          ap (partials query) (sym (empty_group (key_of query) key (selected query rows)
          (sym (among-distinct row_cmp_total key (map (key_of query) (selected query rows))) ∙ e)))
    ] refl
