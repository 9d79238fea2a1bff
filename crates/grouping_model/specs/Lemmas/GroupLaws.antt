-- The groups after one more row, and the answer that groups give.
use Rattle.std.specs.Prelude.{◌≡◌, refl, Bool, true, false, cond, List, [], ◌∷◌, ◌++◌, map}
use Rattle.std.proofs.Common.{sym, ◌∙◌, ap, arith}
use Rattle.std.proofs.lemmas.List.{append-nil}
use Rattle.std.specs.declared.cmp.Ordering.{Ordering}
use Rattle.std.specs.declared.cmp.Ordering.TheVariants.{Less, Equal, Greater}
use Rattle.std.specs.Ordering.{eq_by_cmp, match_ordering, is_eq}
use Rattle.std.specs.Cmp.{IsTotalOrder, tied_itself}
use Rattle.std.specs.FinMap.{IsAntisymmetric}
use Rattle.std.specs.List.{AllByRecursion}
use Rattle.std.specs.List.Sorted.{IsStrictlySortedBy}
use Rattle.std.specs.BTreeMap.{insert_entry}
use Rattle.grouping_model.specs.Datum.{Row, Kind, HasKinds, row_cmp, same_row}
use Rattle.grouping_model.specs.Rising.{put}
use Rattle.grouping_model.specs.Aggregates.{partial}
use Rattle.grouping_model.specs.Condition.{is_met}
use Rattle.grouping_model.specs.Query.{Query, Aggregate}
use Rattle.grouping_model.specs.Grouping.{key_of, keys, group, partials, arguments, column_of, part}
use Rattle.grouping_model.specs.Parts.{advanced, with_row, partials_or_none}
use Rattle.grouping_model.specs.DatumOrderLaws.{row_cmp_total, row_cmp_ties}
use Rattle.grouping_model.specs.KeyLaws.{keys_rise}
use Rattle.grouping_model.specs.PartLaws.{partials_or_none-part}
use Rattle.grouping_model.specs.Lemmas.PartLaws.{keys_one_more}
use Rattle.grouping_model.specs.Lemmas.TransitionLaws.{one_more_row}
use Rattle.std.proofs.lemmas.Bool.Decides.{nat_tests}
use Rattle.std.proofs.lemmas.Grind.{common_steps}

-- each member with its value
abbrev with_values : {X V : Type 0} → (X → V) → List X → List (X × V)
with_values {X} {V} f xs = map {B = X × V} (λ x. (x, f x)) xs

-- a value for each member of a rising list: one more member, and a change at it alone
module _ {X V : Type 0} {cmp : X → X → Ordering} (total : IsTotalOrder cmp) (ties : IsAntisymmetric cmp) (x : X) (v : V) (before after : X
    → V) (own : after x ≡ v) (others : (y : X) → eq_by_cmp cmp x y ≡ false → after y ≡ before y) where
  above_same : (ys : List X) → AllByRecursion (λ y. cmp x y ≡ Less) ys → with_values after ys ≡ with_values before ys
  above_same [] above = refl
  above_same (y ∷ ys) above = λ i. (y, others y (ap is_eq above.0) i) ∷ above_same ys above.1 i

  above_all : (r : Ordering) (y : X) (ys : List X) → ((z : X) → cmp y z ≡ Less → cmp x z ≡ Less) → AllByRecursion (λ z. cmp y z ≡ Less) ys
      → AllByRecursion (λ z. cmp x z ≡ Less) ys
  above_all r y [] gives above = tt
  above_all r y (z ∷ ys) gives above = (gives z above.0, above_all r y ys gives above.1)

  pub put-map : (ys : List X) → IsStrictlySortedBy cmp ys → with_values after (put cmp x ys) ≡ insert_entry cmp (with_values before ys) x v
  unfolding IsStrictlySortedBy
  put-map [] rising = λ i. (x, own i) ∷ []
  put-map (y ∷ ys) (above, rising) =
      elim (cmp x y) as (λ r. cmp x y ≡ r → with_values after (match_ordering r (x ∷ y ∷ ys) (y ∷ ys) (y ∷ put cmp x ys))
      ≡ match_ordering r ((x, v) ∷ (y, before y) ∷ with_values before ys) ((y, v) ∷ with_values before ys) ((y, before y)
      ∷ insert_entry cmp (with_values before ys) x v)) [
        | Less ↦ λ e. λ i. (x, own i) ∷ (y, others y (ap is_eq e) i) ∷ above_same ys (above_all Less y ys (λ z. total.trans x y z e) above)
            i
        | Equal ↦ λ e. λ i. (y, (ap after (sym (ties x y e)) ∙ own) i)
            ∷ above_same ys (above_all Equal y ys (λ z l. total.congr x y z e ∙ l) above) i
        | Greater ↦ λ e. λ i. (y, others y (ap is_eq e) i) ∷ put-map ys rising i
      ] refl

-- the partial results after one more row of a group
partials_one_more : (query : Query) (kinds : List Kind) (rows : List Row) (row : Row) → HasKinds kinds row
    → partials query (rows ++ row ∷ []) ≡ advanced query.aggregates (partials query rows) row
partials_one_more query kinds rows row has = each query.aggregates
  where
    each : (aggregates : List Aggregate) → map (λ aggregate. partial aggregate.function (arguments aggregate (rows ++ row ∷ []))) aggregates
        ≡ advanced aggregates (map (λ aggregate. partial aggregate.function (arguments aggregate rows)) aggregates) row
    each [] = refl
    each (aggregate ∷ aggregates) = λ i. one_more_row aggregate kinds rows row has i ∷ each aggregates i

-- the group of a key after one more row that WHERE keeps
group_one_more : (query : Query) (rows : List Row) (row key : Row) (b : Bool) → is_met (column_of row) query.condition ≡ true
    → same_row (key_of query row) key ≡ b → group query (rows ++ row ∷ []) key ≡ group query rows key ++ cond b (row ∷ []) []
group_one_more query rows row key b met e = grind (arith, nat_tests, common_steps)

pub part_one_more : (query : Query) (kinds : List Kind) (rows : List Row) (row : Row) → HasKinds kinds row
    → is_met (column_of row) query.condition ≡ true → part query (rows ++ row ∷ []) ≡ with_row query (part query rows) row
part_one_more query kinds rows row has met =
    ap (map (λ key. (key, partials query (group query (rows ++ row ∷ []) key)))) (keys_one_more query rows row met)
    ∙ put-map row_cmp_total row_cmp_ties (key_of query row)
    (advanced query.aggregates (partials_or_none query (key_of query row) (part query rows)) row)
    (λ key. partials query (group query rows key)) (λ key. partials query (group query (rows ++ row ∷ []) key)) own others (keys query rows)
    (keys_rise query rows)
  where
    own : partials query (group query (rows ++ row ∷ []) (key_of query row))
        ≡ advanced query.aggregates (partials_or_none query (key_of query row) (part query rows)) row
    own =
        ap (partials query) (group_one_more query rows row (key_of query row) true met
        (ap is_eq (tied_itself row_cmp_total (key_of query row))))
        ∙ partials_one_more query kinds (group query rows (key_of query row)) row has
        ∙ ap (λ ps. advanced query.aggregates ps row) (sym (partials_or_none-part query rows (key_of query row)))

    others : (key : Row) → eq_by_cmp row_cmp (key_of query row) key ≡ false → partials query (group query (rows ++ row ∷ []) key)
        ≡ partials query (group query rows key)
    others key apart = ap (partials query) (group_one_more query rows row key false met apart ∙ append-nil (group query rows key))
