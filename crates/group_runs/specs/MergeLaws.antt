-- Laws: groups after more rows and more groups; these definitions serve the laws alone.
use Rattle.std.specs.Prelude.{◌≡◌, refl, true, false, cond, ◌||◌, List, [], ◌∷◌, map}
use Rattle.std.proofs.Common.{sym, ◌∙◌, ap}
use Rattle.std.specs.declared.cmp.Ordering.TheVariants.{Less, Equal, Greater}
use Rattle.std.specs.Ordering.{match_ordering, is_eq}
use Rattle.std.specs.List.{AllByRecursion}
use Rattle.std.specs.List.Sorted.{IsStrictlySortedBy}
use Rattle.std.specs.BTreeMap.{insert_entry}
use Rattle.grouping_model.specs.Datum.{Row, row_cmp, same_row}
use Rattle.grouping_model.specs.Rising.{put, is_among}
use Rattle.grouping_model.specs.Rising.Facts.{put-rises}
use Rattle.grouping_model.specs.Aggregates.{Partial}
use Rattle.grouping_model.specs.Condition.{is_met}
use Rattle.grouping_model.specs.Query.{Query}
use Rattle.grouping_model.specs.Grouping.{selected, key_of, column_of, Group}
use Rattle.grouping_model.specs.Parts.{keys_of, with_row}
use Rattle.grouping_model.specs.DatumOrderLaws.{row_cmp_total, same_row-is}
use Rattle.grouping_model.specs.MemberLaws.{false_is_not_true}
use Rattle.group_runs.specs.Adding.{rows_added, group_added, groups_added}

-- ---- keys that are put one after the other
abbrev pub puts : List Row → List Row → List Row
puts ks [] = ks
puts ks (l ∷ ls) = puts (put row_cmp l ks) ls

pub puts_rise : (ks ls : List Row) → IsStrictlySortedBy row_cmp ks → IsStrictlySortedBy row_cmp (puts ks ls)
puts_rise ks [] rising = rising
puts_rise ks (l ∷ ls) rising = puts_rise (put row_cmp l ks) ls (put-rises row_cmp_total l ks rising)

pub nothing_rises : IsStrictlySortedBy row_cmp []
unfolding IsStrictlySortedBy
nothing_rises = tt

pub keys_of-insert : (gs : List Group) (k : Row) (ps : List Partial) → keys_of (insert_entry row_cmp gs k ps) ≡ put row_cmp k (keys_of gs)
keys_of-insert [] k ps = refl
keys_of-insert (g ∷ gs) k ps =
    elim (row_cmp k g.0) as (λ r. keys_of (match_ordering r ((k, ps) ∷ g ∷ gs) ((g.0, ps) ∷ gs) (g ∷ insert_entry row_cmp gs k ps))
    ≡ match_ordering r (k ∷ keys_of (g ∷ gs)) (keys_of (g ∷ gs)) (g.0 ∷ put row_cmp k (keys_of gs))) [
      | Less ↦ refl
      | Equal ↦ refl
      | Greater ↦ ap (λ ks. g.0 ∷ ks) (keys_of-insert gs k ps)
    ]

pub keys_of-rows_added : (q : Query) (gs : List Group) (rows : List Row) → keys_of (rows_added q gs rows)
    ≡ puts (keys_of gs) (map (key_of q) (selected q rows))
keys_of-rows_added q gs [] = refl
keys_of-rows_added q gs (row ∷ rows) =
    elim (is_met (column_of row) q.condition) as (λ b. keys_of (rows_added q (cond b (with_row q gs row) gs) rows)
    ≡ puts (keys_of gs) (map (key_of q) (cond b (row ∷ selected q rows) (selected q rows)))) [
      | true ↦ keys_of-rows_added q (with_row q gs row) rows
          ∙ ap (λ ks. puts ks (map (key_of q) (selected q rows))) (keys_of-insert gs (key_of q row) _)
      | false ↦ keys_of-rows_added q gs rows
    ]

pub keys_of-groups_added : (q : Query) (gs more : List Group) → keys_of (groups_added q gs more) ≡ puts (keys_of gs) (keys_of more)
keys_of-groups_added q gs [] = refl
keys_of-groups_added q gs (g ∷ more) = keys_of-groups_added q (group_added q gs g) more
    ∙ ap (λ ks. puts ks (keys_of more)) (keys_of-insert gs g.0 _)

-- each key is apart from those after it
abbrev pub AreApart : List Row → Type 0
AreApart [] = Unit {0}
AreApart (k ∷ ks) = (is_among row_cmp k ks ≡ false) × AreApart ks

pub rising_apart : (ks : List Row) → IsStrictlySortedBy row_cmp ks → AreApart ks
unfolding IsStrictlySortedBy
rising_apart [] rising = tt
rising_apart (k ∷ ks) (above, rising) = (none_among ks above, rising_apart ks rising)
  where
    none_among : (ls : List Row) → AllByRecursion (λ z. row_cmp k z ≡ Less) ls → is_among row_cmp k ls ≡ false
    none_among [] all = refl
    none_among (l ∷ ls) (below, all) = ap (λ r. is_eq r || is_among row_cmp k ls) below ∙ none_among ls all

-- what is among the keys after one is not that one
pub apart_from : (k key : Row) (ks : List Row) → is_among row_cmp k ks ≡ false → is_among row_cmp key ks ≡ true → same_row key k ≡ false
apart_from k key ks none among =
    elim (same_row key k) as (λ b. same_row key k ≡ b → b ≡ false) [
      | true ↦ λ e. false_is_not_true (sym none ∙ ap (λ k. is_among row_cmp k ks) (sym ((same_row-is key k).0 e)) ∙ among)
      | false ↦ λ e. refl
    ] refl
