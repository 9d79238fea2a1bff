-- Values whose texts lie on end.
use Rattle.std.specs.Prelude.{◌≡◌, ℕ, ◌+◌, ◌-◌, ◌<◌, ◌≤◌, List, [], ◌∷◌, ◌++◌, length, take, drop, slice_get, slice_index, slice_range}
use Rattle.std.specs.Prelude.{Some, option_map}
use Rattle.std.specs.Str.{IsCharBoundary, IsUtf8}
use Rattle.std.proofs.Common.{sym, ◌∙◌, ap, subst, arith, inl, inr, refl, append-nil, get_or}
use Rattle.std.proofs.lemmas.Bool.{cases_lt}
use Rattle.std.proofs.lemmas.List.{get_or_append_left, get_or-drop, get_or-take, length-append, length-map, map_push}
use Rattle.std.proofs.lemmas.Option.{slice_get-map, slice_get-get_or}
use Rattle.std.proofs.lemmas.List.Elements.{All-get_or, All-head, All-tail, All-weaker, All-push}
use Rattle.std.proofs.lemmas.Str.{IsUtf8-nil, IsCharBoundary-at_seam, IsCharBoundary-end}
use Rattle.having_filter.proofs.Words.{Outcome, Plain, outcome_in, outcomes_in, Grows, IsPart, LiesIn, AllLieIn}
use Rattle.grouping_model.specs.Datum as datum
use Rattle.having_filter.specs.declared.cells.Cell.{Cell}
use Rattle.having_filter.specs.declared.cells.Cell.TheVariants.{Null, Bigint, Numeric, Boolean, Text}
use Rattle.std.proofs.lemmas.Bool.Decides.{nat_tests}
use Rattle.std.proofs.lemmas.Grind.{common_steps}

-- where a text may be cut, it may be when a text follows it
boundary_stays : (text more : List ℕ) (i : ℕ) → IsUtf8 more → IsCharBoundary text i → IsCharBoundary (text ++ more) i
boundary_stays text more i utf8 cut =
    elim (cases_lt i (length text)) [
      | inl within ↦
          let long = length-append text more in
          let low : i ≤ length (text ++ more) = omega (arith, long, within) in
          let same : slice_index (text ++ more) i ≡ slice_index text i = get_or_append_left text more 0 i within in
          (low, λ _ high. subst (λ byte. 192 ≤ byte) (sym same) (cut.1 within (subst (λ byte. 128 ≤ byte) same high)))
      | inr past ↦
          let at : length text ≡ i = let low = cut.0 in omega (arith, low, past) in
          subst (IsCharBoundary (text ++ more)) at (IsCharBoundary-at_seam (text ++ more) text more refl utf8)
    ]

-- a part stays one, and the same
part_stays : (text more : List ℕ) (from to : ℕ) → IsUtf8 more → IsPart text from to → IsPart (text ++ more) from to
part_stays text more from to utf8 part =
    record {
      rises = part.rises;
      begins = boundary_stays text more from utf8 part.begins;
      ends = boundary_stays text more to utf8 part.ends;
    }

same_part : (text more : List ℕ) (from to : ℕ) → IsPart text from to → slice_range (text ++ more) from to ≡ slice_range text from to
same_part text more from to part = grind (arith, nat_tests, common_steps)

-- a cell stays in texts that grow, and what it is
cell_stays : (text more : List ℕ) (cell : Cell) → IsUtf8 more → LiesIn text cell → LiesIn (text ++ more) cell
cell_stays text more Null utf8 lies = tt
cell_stays text more (Bigint z) utf8 lies = tt
cell_stays text more (Numeric z) utf8 lies = tt
cell_stays text more (Boolean b) utf8 lies = tt
cell_stays text more (Text from to) utf8 lies = part_stays text more from to utf8 lies

same_outcome : (text more : List ℕ) (cell : Cell) → LiesIn text cell → outcome_in (text ++ more) cell ≡ outcome_in text cell
same_outcome text more Null lies = refl
same_outcome text more (Bigint z) lies = refl
same_outcome text more (Numeric z) lies = refl
same_outcome text more (Boolean b) lies = refl
same_outcome text more (Text from to) lies = ap (λ part. Plain (datum.Text part)) (same_part text more from to lies)

same_outcomes_behind : (text more : List ℕ) (cells : List Cell) → AllLieIn text cells → outcomes_in (text ++ more) cells
    ≡ outcomes_in text cells
same_outcomes_behind text more [] all = refl
same_outcomes_behind text more (cell ∷ cells) all =
    let first = same_outcome text more cell (All-head (LiesIn text) cell cells all) in
    let rest = same_outcomes_behind text more cells (All-tail (LiesIn text) cell cells all) in
    λ i. first i ∷ rest i

pub all_stay : (text longer : List ℕ) (cells : List Cell) → Grows text longer → AllLieIn text cells → AllLieIn longer cells
all_stay text longer cells grows all =
    subst (λ longer. AllLieIn longer cells) (sym grows.longer_is)
    (All-weaker (LiesIn text) (LiesIn (text ++ grows.more)) (λ cell. cell_stays text grows.more cell grows.more_is_text) cells all)

pub same_outcomes : (text longer : List ℕ) (cells : List Cell) → Grows text longer → AllLieIn text cells → outcomes_in longer cells
    ≡ outcomes_in text cells
same_outcomes text longer cells grows all =
    ap (λ longer. outcomes_in longer cells) grows.longer_is ∙ same_outcomes_behind text grows.more cells all

-- a text that is the same, and one with a text behind it
pub grows_none : (text longer : List ℕ) → longer ≡ text → Grows text longer
grows_none text longer same = record { more = []; more_is_text = IsUtf8-nil; longer_is = same ∙ sym (append-nil text) }

pub part_behind : (text more longer : List ℕ) (from to : ℕ) → IsUtf8 more → longer ≡ text ++ more → from ≡ length text → to ≡ length longer
    → IsPart longer from to
part_behind text more longer from to utf8 is first last =
    let long = ap length is ∙ length-append text more in
    record {
      rises = omega (arith, first, last, long);
      begins = subst (IsCharBoundary longer) (sym first) (IsCharBoundary-at_seam longer text more is utf8);
      ends = subst (IsCharBoundary longer) (sym last) (IsCharBoundary-end longer);
    }

-- one cell more, as the texts grow
pub all_with : (text longer : List ℕ) (cells more : List Cell) (cell : Cell) → Grows text longer → AllLieIn text cells → more ≡ cells
    ++ cell ∷ [] → LiesIn longer cell → AllLieIn longer more
all_with text longer cells more cell grows all is lies =
    subst (AllLieIn longer) (sym is) (All-push (LiesIn longer) cells cell (all_stay text longer cells grows all) lies)

pub outcomes_with : (text longer : List ℕ) (cells more : List Cell) (cell : Cell) (outcome : Outcome) → Grows text longer
    → AllLieIn text cells → more ≡ cells ++ cell ∷ [] → outcome_in longer cell ≡ outcome
    → outcomes_in longer more ≡ outcomes_in text cells ++ outcome ∷ []
outcomes_with text longer cells more cell outcome grows all is shown =
    ap (outcomes_in longer) is
    ∙ map_push (outcome_in longer) cells cell
    ∙ (λ i. same_outcomes text longer cells grows all i ++ shown i ∷ [])

-- the cell so many places behind another, and what it is
pub record CellAt (texts : List ℕ) (run : List Outcome) (place : ℕ) (cell : Cell) : Type 0 where
  pub lies : LiesIn texts cell
  pub is : slice_get run place ≡ Some (outcome_in texts cell)

pub cell_at : (texts these : List ℕ) (cells those : List Cell) (run : List Outcome) (from place : ℕ) → texts ≡ these → cells ≡ those
    → AllLieIn these those → outcomes_in these those ≡ run → from + place < length run
    → CellAt texts run (from + place) (get_or (take (length cells - from) (drop from cells)) place Null)
cell_at texts these cells those run from place same alike lie view low =
    let all : AllLieIn texts cells = subst (λ texts. AllLieIn texts cells) (sym same) (subst (AllLieIn these) (sym alike) lie) in
    let is : outcomes_in texts cells ≡ run = (λ i. outcomes_in (same i) (alike i)) ∙ view in
    let long = ap length (sym is) ∙ length-map cells (outcome_in texts) in
    let within : from + place < length cells = omega (arith, low, long) in
    let at : get_or (take (length cells - from) (drop from cells)) place Null
    ≡ get_or cells (from + place) Null = get_or-take (length cells - from) (drop from cells) place Null (omega (arith, within))
    ∙ get_or-drop from cells place Null in
    record {
      lies = subst (LiesIn texts) (sym at) (All-get_or (LiesIn texts) cells (from + place) Null within all);
      is =
          ap (λ run. slice_get run (from + place)) (sym is)
          ∙ slice_get-map (outcome_in texts) cells (from + place)
          ∙ ap (option_map (outcome_in texts)) (slice_get-get_or cells (from + place) Null within ∙ ap Some (sym at));
    }
