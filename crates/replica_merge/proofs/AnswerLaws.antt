-- The inputs of an answer, and the answer that their groups give.
use Rattle.std.specs.Borrow.{Bor}
use Rattle.std.specs.Prelude.{◌≡◌, ◌≢◌, refl, ℕ, ◌+◌, ◌*◌, ◌<◌, ◌≤◌, true, false, cond, List, [], ◌∷◌, ◌++◌, map, filter, flat_map}
use Rattle.std.specs.Prelude.{length, Bool}
use Rattle.std.specs.Prelude.{All, Some}
use Rattle.std.proofs.Common.{sym, ◌∙◌, ap, subst, arith}
use Rattle.std.proofs.lemmas.List.{length-map}
use Rattle.std.proofs.lemmas.List.Sums.{sum_by-cons}
use Rattle.std.proofs.lemmas.List.Elements.{All-from_recursion}
use Rattle.std.specs.List.{AllByRecursion}
use Rattle.std.specs.List.Sorted.{IsStrictlySortedBy}
use Rattle.std.proofs.lemmas.List.Sorted.{All-permutation}
use Rattle.std.specs.Ordering.{nat_cmp}
use Rattle.replica_merge.specs.Lemmas.Words.{each_weaker, each_both, LAST_ORIGIN, LAST_NUMBER, MAX_ROWS, Row, Query, Group, part, World}
use Rattle.replica_merge.specs.Lemmas.Words.{origin_rows, known_rows, rows_upto, Checked, meaning, AreGroups, Part, FitsOrigin, Parts}
use Rattle.replica_merge.specs.Lemmas.Words.{counted, part_at}
use Rattle.replica_merge.specs.Lemmas.Words.{part_of, told, Held, Fits, IsHeldPart, AreHeldParts, counted_part, brought_by, IsRunAlone}
use Rattle.replica_merge.specs.Lemmas.Words.{IsAnswerOf, IsShown, IsUnion}
use Rattle.grouping_model.specs.Sorting.{sorted_moves}
use Rattle.grouping_model.specs.Aggregates.{Outcome}
use Rattle.grouping_model.specs.Condition.{is_met}
use Rattle.grouping_model.specs.Order.{comes_before, arranged, unarranged}
use Rattle.grouping_model.specs.OrderLaws.{unordered}
use Rattle.grouping_model.specs.Answer.{source_in, answered, rows_of, answer_of, answer}
use Rattle.agg_protocol.specs.States.{most_rows}
use Rattle.group_runs.specs.Runs.{Entry}
use Rattle.packed_rows.specs.ConcatenatedRows.{concatenated}
use Rattle.hash_agg.specs.Inputs.{Brought, Counted, IsInput, AreInputsOf, all_rows, rows_in}
use Rattle.origin_prefix.specs.Lemmas.ByNumber.{numbers, above_first, rising_rest}
use Rattle.replica_merge.specs.Lemmas.ToldLaws.{HasGap, part_gap, prefix_told, origins_told, each_at, part_here}
use Rattle.replica_merge.specs.declared.pieces.Span.{Span}
use Rattle.replica_merge.specs.Pieces.{left_by, ShowLeft}
use Rattle.replica_merge.proofs.UnionLaws.{one_part}

-- ---- inputs

-- the parts may be aggregated
pub part_inputs : (query : Checked) (parts : Parts) → AllByRecursion (IsHeldPart query) parts
    → AllByRecursion (IsInput (meaning query)) (map counted_part parts)
part_inputs query [] each = tt
part_inputs query (held ∷ parts) each = (each.0.part.run, part_inputs query parts each.1)

-- there are few parts
few_origins : (query : Checked) (first : ℕ) (parts : Parts) → first ≤ LAST_ORIGIN + 1 → IsStrictlySortedBy nat_cmp (numbers parts)
    → AllByRecursion (IsHeldPart query) parts
    → AllByRecursion (λ (e : ℕ × Part). first ≤ e.0) parts → first + length parts ≤ LAST_ORIGIN + 1
few_origins query first [] low rising each above = omega (arith, low)
few_origins query first (held ∷ parts) low rising each above =
    let here : held.0 ≤ LAST_ORIGIN = each.0.within in
    let from : first ≤ held.0 = above.0 in
    let rest : held.0 + 1 + length parts ≤ LAST_ORIGIN + 1 =
    few_origins query (held.0 + 1) parts (omega (arith, here)) (rising_rest held parts rising) each.1
    (later parts (above_first held.0 held.1 parts rising)) in
    omega (arith, rest, from)
  where
    later : (ps : Parts) → AllByRecursion (λ (e : ℕ × Part). held.0 < e.0) ps → AllByRecursion (λ (e : ℕ × Part). held.0 + 1 ≤ e.0) ps
    later [] all = tt
    later (e ∷ ps) all = (let l = all.0 in omega (arith, l), later ps all.1)

few_each : (query : Checked) (parts : Parts) → AllByRecursion (IsHeldPart query) parts → all_rows (map counted_part parts) ≤ length parts
    * (LAST_NUMBER * MAX_ROWS)
few_each query [] each = omega arith
few_each query (held ∷ parts) each =
    let one : held.1.prefix ≤ LAST_NUMBER = each.0.part.within in
    let rest : all_rows (map counted_part parts) ≤ length parts * (LAST_NUMBER * MAX_ROWS) = few_each query parts each.1 in
    let sum : all_rows (map counted_part (held ∷ parts)) ≡ held.1.prefix * MAX_ROWS
    + all_rows (map counted_part parts) = sum_by-cons rows_in (counted_part held) (map counted_part parts) in
    omega (arith, one, rest, sum)

all_above_zero : (ps : Parts) → AllByRecursion (λ (e : ℕ × Part). 0 ≤ e.0) ps
all_above_zero [] = tt
all_above_zero (e ∷ ps) = (omega arith, all_above_zero ps)

pub few_parts : (query : Checked) (parts : Parts) → AreHeldParts query parts → all_rows (map counted_part parts) ≤ most_rows
few_parts query parts held =
    let count : 0 + length parts ≤ LAST_ORIGIN + 1 = few_origins query 0 parts (omega arith) held.rising held.each (all_above_zero parts) in
    let rows : all_rows (map counted_part parts) ≤ length parts * (LAST_NUMBER * MAX_ROWS) = few_each query parts held.each in
    omega (arith, count, rows)

-- ---- rows of a world

-- the rows of the prefixes, part by part
abbrev pub part_rows : World → ℕ × Part → List Row
part_rows world held = rows_upto world held.0 held.1.prefix

are_inputs : (q : Query) (world : World) (parts : Parts) → AllByRecursion (λ (e : ℕ × Part). FitsOrigin q world e.0 e.1) parts
    → AreInputsOf q (map counted_part parts) (map (part_rows world) parts)
are_inputs q world [] all = tt
are_inputs q world (e ∷ parts) all = (all.0.run, are_inputs q world parts all.1)

flat_same : (f : ℕ → List Row) (g : ℕ × Part → List Row) (es : Parts) → AllByRecursion (λ (e : ℕ × Part). f e.0 ≡ g e) es
    → flat_map f (numbers es) ≡ concatenated (map g es)
flat_same f g [] all = refl
flat_same f g (e ∷ es) all = (λ i. all.0 i ++ flat_same f g es all.1 i)

known_rows_are : (query : Checked) (world : World) (parts : Parts) → AreHeldParts query parts → known_rows world (told parts)
    ≡ concatenated (map (part_rows world) parts)
known_rows_are query world parts held =
    ap (flat_map (origin_rows world (told parts))) (origins_told query parts held)
    ∙ flat_same (origin_rows world (told parts)) (part_rows world) parts
    (each_both (IsHeldPart query) (λ (e : ℕ × Part). part_at parts e.0 ≡ Some e.1) (λ (e : ℕ × Part). origin_rows world (told parts) e.0
    ≡ part_rows world e)
    (λ e is there.
    let here : part_of parts e.0 ≡ e.1 = part_here parts e.0 e.1 there in
    ap (rows_upto world e.0) (prefix_told parts held.rising e.0 (subst HasGap (sym here) (part_gap query e.1 is.part))
    ∙ ap (λ (p : Part). p.prefix) here))
    parts held.each (each_at parts held.rising))

pub fit_each : (world : World) (held : Held) → Fits world held → IsStrictlySortedBy nat_cmp (numbers held.parts)
    → AllByRecursion (λ (e : ℕ × Part). FitsOrigin (meaning held.query) world e.0 e.1) held.parts
fit_each world held fits rising =
    each_weaker (λ (e : ℕ × Part). part_at held.parts e.0 ≡ Some e.1) (λ (e : ℕ × Part). FitsOrigin (meaning held.query) world e.0 e.1)
    (λ e there. subst (FitsOrigin (meaning held.query) world e.0) (part_here held.parts e.0 e.1 there) (fits e.0)) held.parts
    (each_at held.parts rising)

-- the groups of the rows of the unbroken prefixes
pub groups_known : (held : Held) (run : List Entry) (world : World) → AreHeldParts held.query held.parts → Fits world held
    → IsUnion (meaning held.query) (map counted_part held.parts) run
    → AreGroups (meaning held.query) (all_rows (map counted_part held.parts)) run
    (part (meaning held.query) (known_rows world (told held.parts)))
groups_known held run world is fits given =
    subst (λ rows. AreGroups (meaning held.query) (all_rows (map counted_part held.parts)) run (part (meaning held.query) rows))
    (sym (known_rows_are held.query world held.parts is))
    (given.part (map (part_rows world) held.parts) (are_inputs (meaning held.query) world held.parts (fit_each world held fits is.rising)))

-- ---- a run that is shown

-- a run has the groups of all parts
pub record IsOfParts (held : Held) (run : List Entry) : Type 0 where
  pub most : ℕ
  pub few : most ≤ most_rows
  pub groups : List Group
  pub are : AreGroups (meaning held.query) most run groups
  pub known : (world : World) → Fits world held
      → AreGroups (meaning held.query) most run (part (meaning held.query) (known_rows world (told held.parts)))

-- what a replica may show
pub shows : (held : Held) (run : List Entry) → IsOfParts held run → (most : ℕ) × (groups : List Group)
    × AreGroups (meaning held.query) most run groups × (most ≤ most_rows)
shows held run of = (of.most, of.groups, of.are, of.few)

-- the run that unites what all parts bring
pub whole_run : (held : Held) (inputs : List Brought) (run : List Entry) → AreHeldParts held.query held.parts → inputs
    ≡ map counted_part held.parts
    → IsUnion (meaning held.query) inputs run → IsOfParts held run
whole_run held inputs run is all union =
    let q : Query = meaning held.query in
    let given : IsUnion q (map counted_part held.parts) run = subst (λ those. IsUnion q those run) all union in
    record {
      most = all_rows (map counted_part held.parts);
      few = few_parts held.query held.parts is;
      groups = given.is_run.groups;
      are = given.is_run.are;
      known = λ world fits. groups_known held run world is fits given;
    }

-- what is asked of what they bring
pub listed_inputs : (query : Checked) (parts : Parts) (inputs : List Brought) → AreHeldParts query parts → inputs ≡ map counted_part parts
    → AllByRecursion (IsInput (meaning query)) inputs
listed_inputs query parts inputs is all = subst (AllByRecursion (IsInput (meaning query))) (sym all) (part_inputs query parts is.each)

pub listed_few : (query : Checked) (parts : Parts) (inputs : List Brought) → AreHeldParts query parts → inputs ≡ map counted_part parts
    → all_rows inputs ≤ most_rows
listed_few query parts inputs is all = subst (λ those. all_rows those ≤ most_rows) (sym all) (few_parts query parts is)

-- the run of the only part
pub only_run : (held : Held) (parts : List (Bor Part)) (run : List Entry) → AreHeldParts held.query held.parts → brought_by parts
    ≡ map counted_part held.parts → IsRunAlone parts run → IsOfParts held run
only_run held parts run is all alone =
    whole_run held (brought_by parts) run is all
    (one_part (meaning held.query) parts run (listed_inputs held.query held.parts (brought_by parts) is all) alone)

-- ---- answers

-- each row has the query's items
pub rows_wide : (q : Query) (groups : List Group) → All (λ (row : List Outcome). length row ≡ length q.items) (answer_of q groups)
rows_wide q groups =
    All-permutation (λ (row : List Outcome). length row ≡ length q.items) (rows_of q (answered q groups)) (answer_of q groups)
    (sorted_moves (comes_before q.arrangement.order) (rows_of q (answered q groups)))
    (All-from_recursion (λ (row : List Outcome). length row ≡ length q.items) (rows_of q (answered q groups)) (each (answered q groups)))
  where
    each : (groups : List Group) → AllByRecursion (λ (row : List Outcome). length row ≡ length q.items) (rows_of q groups)
    each [] = tt
    each (g ∷ groups) = first (is_met (source_in g) q.having) (each groups)
      where
        first : (b : Bool) → AllByRecursion (λ (row : List Outcome). length row ≡ length q.items) (rows_of q groups)
            → AllByRecursion (λ (row : List Outcome). length row ≡ length q.items) (map (λ (group : Group). map (source_in group) q.items)
            (cond b (g ∷ filter (λ (group : Group). is_met (source_in group) q.having) groups)
            (filter (λ (group : Group). is_met (source_in group) q.having) groups)))
        first true others = (length-map q.items (source_in g), others)
        first false others = others

-- rows that the groups of a run show
abbrev pub ShownBy : Query → List Entry → List (List Outcome) → Type 0
ShownBy q run rows = (most : ℕ) (groups : List Group) → most ≤ most_rows → AreGroups q most run groups → rows ≡ answer_of q groups

-- what a replica shows of such a run
pub shown_wide : (held : Held) (run : List Entry) (rows : List (List Outcome)) → IsOfParts held run → ShownBy (meaning held.query) run rows
    → All (λ (row : List Outcome). length row ≡ length (meaning held.query).items) rows
shown_wide held run rows of shown =
    subst (All (λ (row : List Outcome). length row ≡ length (meaning held.query).items)) (sym (shown of.most of.groups of.few of.are))
    (rows_wide (meaning held.query) of.groups)

pub shown_answer : (held : Held) (run : List Entry) (rows : List (List Outcome)) → IsOfParts held run
    → ShownBy (meaning held.query) run rows
    → (world : World) → Fits world held → rows ≡ answer (meaning held.query) world (told held.parts)
shown_answer held run rows of shown world fits =
    shown of.most (part (meaning held.query) (known_rows world (told held.parts))) of.few (of.known world fits)

-- a run is the only part's, if there is one part
abbrev pub IsOnlyRun : Held → List Entry → Type 0
IsOnlyRun held run = (only : ℕ × Part) → held.parts ≡ only ∷ [] → run ≡ only.1.run

pub run_only : (held : Held) (parts : List (Bor Part)) (run : List Entry) → brought_by parts ≡ map counted_part held.parts
    → IsRunAlone parts run → IsOnlyRun held run
run_only held parts run all alone only one =
    alone.run_is ∙ same_run alone.only.now.run only.1.run (alone.only.now.prefix * MAX_ROWS) (only.1.prefix * MAX_ROWS)
    (sym (ap brought_by alone.alone) ∙ all ∙ ap (map counted_part) one)
  where
    same_run : (a b : List Entry) (m n : ℕ) → Counted a m ∷ [] ≡ Counted b n ∷ [] → a ≡ b
    same_run a b m n same = cc

pub not_only : (held : Held) (parts : List (Bor Part)) (run : List Entry) → brought_by parts ≡ map counted_part held.parts
    → length parts ≢ 1 → IsOnlyRun held run
not_only held parts run all many only one =
    absurd (many (sym (length-map parts (λ (p : Bor Part). counted p.now)) ∙ ap length all
    ∙ ap (λ (parts : Parts). length (map counted_part parts)) one))

-- they are those of the groups of all parts
pub shown_rows : (held : Held) (inputs : List Brought) (run : List Entry) (rows : List (List Outcome))
    → AreHeldParts held.query held.parts → inputs ≡ map counted_part held.parts → IsUnion (meaning held.query) inputs run
    → IsOnlyRun held run → ShownBy (meaning held.query) run rows → IsShown held rows
shown_rows held inputs run rows is all union alone shown = record {
  run = run;
  union = subst (λ those. IsUnion (meaning held.query) those run) all union;
  alone = alone;
  shown = λ groups are. shown (all_rows (map counted_part held.parts)) groups (few_parts held.query held.parts is) are;
}

pub alone_rows : (held : Held) (parts : List (Bor Part)) (run : List Entry) (rows : List (List Outcome))
    → AreHeldParts held.query held.parts → brought_by parts ≡ map counted_part held.parts → IsRunAlone parts run
    → ShownBy (meaning held.query) run rows → IsShown held rows
alone_rows held parts run rows is all alone shown =
    shown_rows held (brought_by parts) run rows is all
    (one_part (meaning held.query) parts run (listed_inputs held.query held.parts (brought_by parts) is all) alone)
    (run_only held parts run all alone) shown

-- ---- rows that nothing arranges

-- rows that the groups of a run give, before ORDER BY arranges them
abbrev pub GivenBy : Query → List Entry → List (List Outcome) → Type 0
GivenBy q run rows = (most : ℕ) (groups : List Group) → most ≤ most_rows → AreGroups q most run groups
    → rows ≡ rows_of q (answered q groups)

-- where nothing arranges them they are what is shown
as_given : (q : Query) (run : List Entry) (rows : List (List Outcome)) → q.arrangement ≡ unarranged → GivenBy q run rows
    → ShownBy q run rows
as_given q run rows none given =
    λ most groups low are.
    let those = rows_of q (answered q groups) in
    given most groups low are ∙ sym (unordered those) ∙ ap (λ arrangement. arranged arrangement those) (sym none)

-- the answer of a run that unites what all parts bring, and of the only part's
pub whole_answer : (held : Held) (inputs : List Brought) (run : List Entry) (rows : List (List Outcome))
    → (meaning held.query).arrangement ≡ unarranged
    → AreHeldParts held.query held.parts → inputs ≡ map counted_part held.parts → IsUnion (meaning held.query) inputs run
    → IsOnlyRun held run → GivenBy (meaning held.query) run rows → IsAnswerOf held rows
whole_answer held inputs run rows none is all union alone given =
    let of : IsOfParts held run = whole_run held inputs run is all union in
    let shown : ShownBy (meaning held.query) run rows = as_given (meaning held.query) run rows none given in
    record {
      width = shown_wide held run rows of shown;
      shown = shown_rows held inputs run rows is all union alone shown;
      of_world = λ world is fits. shown_answer held run rows of shown world fits;
    }

pub alone_answer : (held : Held) (parts : List (Bor Part)) (run : List Entry) (rows : List (List Outcome))
    → (meaning held.query).arrangement ≡ unarranged
    → AreHeldParts held.query held.parts → brought_by parts ≡ map counted_part held.parts → IsRunAlone parts run
    → GivenBy (meaning held.query) run rows → IsAnswerOf held rows
alone_answer held parts run rows none is all alone given =
    whole_answer held (brought_by parts) run rows none is all
    (one_part (meaning held.query) parts run (listed_inputs held.query held.parts (brought_by parts) is all) alone)
    (run_only held parts run all alone) given

-- ---- pieces

-- the answer that pieces give, before ORDER BY arranges it
pub pieces_answer : (held : Held) (spans : List Span) (rows : List (List Outcome)) → (meaning held.query).arrangement ≡ unarranged
    → AreHeldParts held.query held.parts → left_by spans ≡ map counted_part held.parts
    → (show : ShowLeft (meaning held.query) spans rows) → IsOnlyRun held show.run → IsAnswerOf held rows
pieces_answer held spans rows none is all show alone =
    whole_answer held (left_by spans) show.run rows none is all show.union alone show.shown

-- rows of pieces that are arranged are what the groups of their run show
pub arranged_shown : (q : Query) (spans : List Span) (given rows : List (List Outcome)) → rows ≡ arranged q.arrangement given
    → (show : ShowLeft q spans given) → ShownBy q show.run rows
arranged_shown q spans given rows is show =
    λ most groups low are. is ∙ ap (arranged q.arrangement) (show.shown most groups low are)
