-- What is written is read as it was.
use Rattle.std.proofs.Common.{◌≡◌, ◌≢◌, refl, ℕ, ◌+◌, ◌*◌, ◌^◌, ◌<◌, ◌≤◌, ◌⊎◌, List, [], ◌∷◌, ◌++◌, map, take, drop, length, flat_map, Ok}
use Rattle.std.proofs.Common.{inl, inr, sym, ap, subst, ◌∙◌, append_assoc, append-nil, arith, sum_by}
use Rattle.std.proofs.lemmas.List.{length-append, length-map, map-append, take-append-drop}
use Rattle.std.proofs.lemmas.List.Elements.{recursion_from_All}
use Rattle.std.proofs.lemmas.List.Sums.{sum_by-cons}
use Rattle.std.specs.Prelude.{IsUtf8}
use Rattle.std.specs.Int.{bytes_high_first}
use Rattle.std.specs.List.{AllByRecursion}
use Rattle.std.specs.List.Sorted.{IsStrictlySortedBy}
use Rattle.std.specs.Ordering.{nat_cmp}
use Rattle.std.specs.Cmp.Lexicographic.{slice_cmp}
use Rattle.grouping_model.specs.Aggregates.{Function, Partial}
use Rattle.summary_codec.specs.Lemmas.Words.{Kind, Row, HasKinds, Group, Query, LAST_ORIGIN, MAX_COLUMNS, packing, packings, Column, kinds}
use Rattle.summary_codec.specs.Lemmas.Words.{printed, shape_of, width_of, IsCheckedQuery, by_names, key_kinds, Checked, meaning, spelling}
use Rattle.summary_codec.specs.Lemmas.Words.{Accepts, Entry, Rises, packed_keys, AreGroups, Part, IsEarly, IsPartOf, Parts, IsHeldPart}
use Rattle.summary_codec.specs.Lemmas.Words.{AreHeldParts, sized_bytes, batch_bytes, part_bytes, body_bytes, file_in, IsNext, IsPacking}
use Rattle.summary_codec.specs.Lemmas.Words.{AreStateBytes, states_width, MayFollow, row, batch, batches, contents, text, schema, query}
use Rattle.summary_codec.specs.Lemmas.Words.{parts, heading, rest, opened, body, IsSummaryIn, last_number, most_batch_rows, IsBatchWithin}
use Rattle.summary_codec.specs.Lemmas.Words.{IsWithin, AreWithin, Version}
use Rattle.packed_rows.specs.Lemmas.PrintedColumns.{printed_again}
use Rattle.agg_protocol.specs.DenotingLaws.{width_known}
use Rattle.agg_protocol.specs.declared.kind.AggKind.{AggKind}
use Rattle.agg_protocol.specs.Kinds.{kind_shape, kind_width, row_width}
use Rattle.agg_library.specs.StateRows.{DenotesAll}
use Rattle.group_parser.specs.Lemmas.PrintLaws.{parsed_again}
use Rattle.summary_codec.specs.File.{group_bytes}
use Rattle.summary_codec.specs.Short.{IsShort, IsShortPart}
use Rattle.summary_codec.specs.Reading.{group, part}
use Rattle.summary_codec.specs.Lemmas.GroupLaws.{width_by_functions}
use Rattle.summary_codec.specs.Lemmas.LengthLaws.{short_packing, short_part, few_key_kinds, few_parts, short_schema}
use Rattle.summary_codec.specs.Lemmas.RisingLaws.{next_of}
use Rattle.summary_codec.specs.Lemmas.VersionLaws.{number_fits, rows_fit}
use Rattle.summary_codec.specs.Lemmas.ReaderLaws.{AreRight, read_number, read_within, read_sized, read_each}

-- ---- groups

states_length : (most : ℕ) (kinds : List AggKind) (bytes : List ℕ) (partials : List Partial) → DenotesAll most kinds bytes partials
    → length bytes ≡ row_width kinds
states_length most [] bytes [] is = ap length is
states_length most [] bytes (p ∷ ps) is = absurd is
states_length most (k ∷ ks) bytes [] is = absurd is
states_length most (k ∷ ks) bytes (p ∷ ps) (first, others) =
    let front = width_known most (kind_shape k) (take (kind_width k) bytes) p first in
    let back = states_length most ks (drop (kind_width k) bytes) ps others in
    let both = length-append (take (kind_width k) bytes) (drop (kind_width k) bytes) in
    let all = ap length (take-append-drop (kind_width k) bytes) in
    let sum = sum_by-cons kind_width k ks in
    omega (arith, front, back, both, all, sum)

-- a group may stand behind others in a file
pub record IsGroupNext (q : Query) (most : ℕ) (before : List Entry) (entry : Entry) : Type 0 where
  pub key : IsPacking (key_kinds q) entry.0
  pub short : IsShort entry.0
  pub above : IsNext (slice_cmp nat_cmp) (packed_keys before) entry.0
  pub states : AreStateBytes q most entry.1

states_wide : (q : Query) (most : ℕ) (bytes : List ℕ) → AreStateBytes q most bytes → length bytes ≡ states_width q
states_wide q most bytes (partials, are) =
    states_length most are.kinds bytes partials are.denote ∙ width_by_functions are.kinds
    ∙ ap (sum_by (λ (function : Function). width_of (shape_of function))) are.named

read_group : (q : Query) (most : ℕ) (before : List Entry) (entry : Entry) (behind : List ℕ) → IsGroupNext q most before entry
    → group q most before (group_bytes entry ++ behind) (Ok (entry, behind))
unfolding group
read_group q most before entry behind is =
    subst (λ bytes. group q most before bytes (Ok (entry, behind))) (sym (append_assoc (sized_bytes entry.0) entry.1 behind)) (
      entry.0,
      entry.1 ++ behind,
      read_sized entry.0 (entry.1 ++ behind) is.short,
      (is.key, (is.above, (entry.1, behind, (refl, states_wide q most entry.1 is.states), (is.states, (refl, refl))))),
    )

-- the groups of a run stand one behind the other
groups_next : (q : Query) (most : ℕ) (run : List Entry) (groups : List Group) (before : List Entry) → length (key_kinds q) ≤ MAX_COLUMNS
    → AreGroups q most run groups → Rises (before ++ run) → AreRight (IsGroupNext q most) before run
groups_next q most [] groups before few are rises = tt
groups_next q most (e ∷ run) [] before few are rises = absurd are
groups_next q most (e ∷ run) (g ∷ groups) before few (is, are) rises = (
  record {
    key = (g.0, is.of_kinds, is.key);
    short = subst IsShort (sym is.key) (short_packing (key_kinds q) g.0 few is.of_kinds);
    above = next_of (slice_cmp nat_cmp) (packed_keys before) e.0 (packed_keys run)
        (subst (IsStrictlySortedBy (slice_cmp nat_cmp)) (map-append (λ (x : Entry). x.0) before (e ∷ run)) rises);
    states = (g.1, is.states);
  },
  groups_next q most run groups (before ++ e ∷ []) few are (subst Rises (sym (append_assoc before (e ∷ []) run)) rises),
)

-- ---- early batches

read_row : (ks : List Kind) (before : List (List ℕ)) (packed behind : List ℕ) → IsPacking ks packed × IsShort packed
    → row ks before (sized_bytes packed ++ behind) (Ok (packed, behind))
unfolding row
read_row ks before packed behind (is, short) = (packed, behind, read_sized packed behind short, (is, (refl, refl)))

rows_next : (ks : List Kind) (rows : List Row) (before : List (List ℕ)) → length ks ≤ MAX_COLUMNS → AllByRecursion (HasKinds ks) rows
    → AreRight (λ _ packed. IsPacking ks packed × IsShort packed) before (packings rows)
rows_next ks [] before few has = tt
rows_next ks (r ∷ rows) before few has = (
  ((r, has.0, refl), short_packing ks r few has.0),
  rows_next ks rows (before ++ packing r
      ∷ []) few has.1,
)

-- a batch may stand behind others in a file
pub record IsBatchNext (version : Version) (ks : List Kind) (prefix : ℕ) (before : List (ℕ × List (List ℕ))) (b : ℕ × List (List ℕ)) :
    Type 0 where
  pub follows : MayFollow prefix before b.0
  pub within : IsBatchWithin version b
  pub rows : AreRight (λ _ packed. IsPacking ks packed × IsShort packed) [] b.1

read_batch : (version : Version) (ks : List Kind) (prefix : ℕ) (before : List (ℕ × List (List ℕ))) (b : ℕ × List (List ℕ)) (behind : List ℕ)
    → IsBatchNext version ks prefix before b
    → batch version ks prefix before (batch_bytes b ++ behind) (Ok (b, behind))
unfolding batch
read_batch version ks prefix before b behind is =
    let n : List ℕ = bytes_high_first 4 b.0 in
    let m : List ℕ = bytes_high_first 4 (length b.1) in
    let rows : List ℕ = flat_map sized_bytes b.1 in
    subst (λ bytes. batch version ks prefix before bytes (Ok (b, behind)))
    (sym (append_assoc (n ++ m) rows behind ∙ append_assoc n m (rows ++ behind))) (
      b.0,
      m ++ (rows ++ behind),
      read_within 4 (last_number version) b.0 (m ++ (rows ++ behind)) (number_fits version b.0 is.within.number) is.within.number,
      (
        is.follows,
        (
          length b.1,
          rows ++ behind,
          read_within 4 (most_batch_rows version) (length b.1) (rows ++ behind) (rows_fit version (length b.1) is.within.rows)
              is.within.rows,
          (
            b.1,
            behind,
            read_each (row ks) sized_bytes (λ _ packed. IsPacking ks packed × IsShort packed) (read_row ks) b.1 [] behind
                is.rows,
            (refl, refl),
          ),
        ),
      ),
    )

batches_next : (version : Version) (ks : List Kind) (prefix : ℕ) (early before : List (ℕ × List (List ℕ))) → length ks ≤ MAX_COLUMNS
    → AllByRecursion (IsEarly ks prefix) early → AllByRecursion (IsBatchWithin version) early
    → IsStrictlySortedBy nat_cmp (map (λ (b : ℕ × List (List ℕ)). b.0) (before ++ early))
    → AreRight (IsBatchNext version ks prefix) before early
batches_next version ks prefix [] before few all within rising = tt
batches_next version ks prefix (b ∷ early) before few all within rising =
    let keys = λ (x : ℕ × List (List ℕ)). x.0 in (
      record {
        follows = (
          all.0.behind,
          next_of nat_cmp (map keys before) b.0 (map keys early)
              (subst (IsStrictlySortedBy nat_cmp) (map-append keys before (b ∷ early)) rising),
        );
        within = within.0;
        rows = subst (AreRight (λ _ packed. IsPacking ks packed × IsShort packed) []) (sym all.0.rows.packings_are)
            (rows_next ks all.0.rows.rows [] few (recursion_from_All (HasKinds ks) all.0.rows.rows all.0.rows.of_kinds));
      },
      batches_next version ks prefix early (before ++ b ∷ []) few all.1 within.1 (subst (λ es. IsStrictlySortedBy nat_cmp (map keys es))
          (sym (append_assoc before (b ∷ []) early)) rising),
    )

read_batches : (version : Version) (ks : List Kind) (prefix : ℕ) (early : List (ℕ × List (List ℕ))) (behind : List ℕ)
    → length early < 256 ^ 4 → (0 < prefix) ⊎ (0 < length early) → AreRight (IsBatchNext version ks prefix) [] early
    → batches version ks prefix (bytes_high_first 4 (length early) ++ (flat_map batch_bytes early ++ behind)) (Ok (early, behind))
unfolding batches
read_batches version ks prefix early behind few some are = (
  length early,
  flat_map batch_bytes early ++ behind,
  read_number 4 (length early) (flat_map batch_bytes early ++ behind) few,
  (
    some,
    read_each (batch version ks prefix) batch_bytes (IsBatchNext version ks prefix) (read_batch version ks prefix) early [] behind
        are,
  ),
)

-- ---- parts

read_contents : (version : Version) (q : Checked) (p : Part) (behind : List ℕ) → IsCheckedQuery q → IsPartOf q p → IsWithin version q p
    → (0 < p.prefix) ⊎ (0 < length p.early)
    → contents version q p.prefix (bytes_high_first 8 (length p.run)
    ++ (flat_map group_bytes p.run ++ (bytes_high_first 4 (length p.early) ++ (flat_map batch_bytes p.early ++ behind))))
    (Ok (p, behind))
unfolding contents
read_contents version q p behind is_query is within some =
    let short : IsShortPart p = short_part q p is_query is in
    let most : ℕ = p.prefix * most_batch_rows version in
    let columns : length (kinds q.columns) ≤ MAX_COLUMNS = subst (λ n. n ≤ MAX_COLUMNS)
    (sym (length-map q.columns (λ (c : Column). c.kind))) is_query.columns_are.most in
    let early : List ℕ = bytes_high_first 4 (length p.early) ++ (flat_map batch_bytes p.early ++ behind) in (
      length p.run,
      flat_map group_bytes p.run ++ early,
      read_within 8 most (length p.run) (flat_map group_bytes p.run ++ early) short.few_groups within.few,
      (
        p.run,
        early,
        read_each (group (meaning q) most) group_bytes (IsGroupNext (meaning q) most) (read_group (meaning q) most) p.run [] early
            (groups_next (meaning q) most p.run within.run.groups [] (few_key_kinds q is_query) within.run.are within.run.rises),
        (
          p.early,
          behind,
          read_batches version (kinds q.columns) p.prefix p.early behind short.few_batches some
              (batches_next version (kinds q.columns) p.prefix p.early [] columns is.early within.early is.rising),
          (refl, refl),
        ),
      ),
    )

-- a part may stand behind others in a file
pub record IsPartNext (version : Version) (q : Checked) (before : Parts) (held : ℕ × Part) : Type 0 where
  pub above : IsNext nat_cmp (map (λ (p : ℕ × Part). p.0) before) held.0
  pub is : IsHeldPart q held
  pub within : IsWithin version q held.1

some_batches : {X : Type 0} (xs : List X) → xs ≢ [] → 0 < length xs
some_batches [] some = absurd (some refl)
some_batches (x ∷ xs) some = omega arith

read_part : (version : Version) (q : Checked) → IsCheckedQuery q → (before : Parts) (held : ℕ × Part) (behind : List ℕ)
    → IsPartNext version q before held → part version q before (part_bytes held ++ behind) (Ok (held, behind))
unfolding part part_bytes
read_part version q is_query before held behind is =
    let p = held.1 in
    let o : List ℕ = bytes_high_first 2 held.0 in
    let f : List ℕ = bytes_high_first 4 p.prefix in
    let n : List ℕ = bytes_high_first 8 (length p.run) in
    let g : List ℕ = flat_map group_bytes p.run in
    let m : List ℕ = bytes_high_first 4 (length p.early) in
    let e : List ℕ = flat_map batch_bytes p.early in
    let low = is.is.within in
    let rest : List ℕ = n ++ (g ++ (m ++ (e ++ behind))) in
    subst (λ bytes. part version q before bytes (Ok (held, behind)))
    (sym (append_assoc (o ++ f ++ n ++ g ++ m) e behind ∙ append_assoc (o ++ f ++ n ++ g) m (e ++ behind)
    ∙ append_assoc (o ++ f ++ n) g (m ++ (e ++ behind)) ∙ append_assoc (o ++ f) n (g ++ (m ++ (e ++ behind))) ∙ append_assoc o f rest)) (
      held.0,
      f ++ rest,
      read_within 2 LAST_ORIGIN held.0 (f ++ rest) (omega (arith, low)) is.is.within,
      (
        is.above,
        (
          p.prefix,
          rest,
          read_within 4 (last_number version) p.prefix rest (number_fits version p.prefix is.within.prefix) is.within.prefix,
          (p, behind, read_contents version q p behind is_query is.is.part is.within (some is.is.some), (refl, refl)),
        ),
      ),
    )
  where
    some : (0 < held.1.prefix) ⊎ (held.1.early ≢ []) → (0 < held.1.prefix) ⊎ (0 < length held.1.early)
    some (inl low) = inl low
    some (inr there) = inr (some_batches held.1.early there)

parts_next : (version : Version) (q : Checked) (held before : Parts) → AllByRecursion (IsHeldPart q) held → AreWithin version q held
    → IsStrictlySortedBy nat_cmp (map (λ (p : ℕ × Part). p.0) (before ++ held))
    → AreRight (IsPartNext version q) before held
parts_next version q [] before all within rising = tt
parts_next version q (p ∷ held) before all within rising =
    let keys = λ (x : ℕ × Part). x.0 in (
      record {
        above = next_of nat_cmp (map keys before) p.0 (map keys held)
            (subst (IsStrictlySortedBy nat_cmp) (map-append keys before (p ∷ held)) rising);
        is = all.0;
        within = within.0;
      },
      parts_next version q held (before ++ p ∷ []) all.1 within.1 (subst (λ ps. IsStrictlySortedBy nat_cmp (map keys ps))
          (sym (append_assoc before (p ∷ []) held)) rising),
    )

read_parts : (version : Version) (q : Checked) (held : Parts) (behind : List ℕ) → IsCheckedQuery q → AreHeldParts q held
    → AreWithin version q held
    → parts version q (bytes_high_first 2 (length held) ++ (flat_map part_bytes held ++ behind)) (Ok (held, behind))
unfolding parts
read_parts version q held behind is_query are within =
    let few = few_parts q held are in (
      length held,
      flat_map part_bytes held ++ behind,
      read_within 2 (LAST_ORIGIN + 1) (length held) (flat_map part_bytes held ++ behind) (omega (arith, few)) few,
      read_each (part version q) part_bytes (IsPartNext version q) (read_part version q is_query) held [] behind
          (parts_next version q held [] are.each within are.rising),
    )

-- ---- the whole file

read_text : (bytes behind : List ℕ) → length bytes < 256 ^ 2 → IsUtf8 bytes → text (sized_bytes bytes ++ behind) (Ok (bytes, behind))
unfolding text
read_text bytes behind short utf8 = (bytes, behind, read_sized bytes behind short, (utf8, (refl, refl)))

-- the canonical texts of a query, one behind the other, are its heading
pub heading_again : (q : Checked) (bytes others behind : List ℕ) → IsCheckedQuery q → text bytes (Ok (printed q.columns, others))
    → text others (Ok (spelling (by_names q), behind)) → heading bytes (Ok (q, behind))
unfolding heading schema query
heading_again q bytes others behind is columns spelled =
    let accepts : Accepts q.columns (spelling (by_names q)) q = parsed_again q (spelling (by_names q)) is refl in (
      q.columns,
      others,
      (printed q.columns, others, columns, (q.columns, others, (printed_again q.columns is.columns_are, refl), (refl, (refl, refl)))),
      (spelling (by_names q), behind, spelled, (q, behind, (accepts, refl), (refl, (refl, refl)))),
    )

-- let a query's texts be UTF-8, and what is held for it be within a version's bounds. What stands behind the opening of their file is read
-- as these
pub body_again : (version : Version) (q : Checked) (held : Parts) → IsCheckedQuery q → IsUtf8 (printed q.columns)
    → IsUtf8 (spelling (by_names q)) → AreHeldParts q held → AreWithin version q held
    → body version (body_bytes q held) (Ok ((q, held), []))
unfolding body rest
body_again version q held is columns spelled are within =
    let accepts : Accepts q.columns (spelling (by_names q)) q = parsed_again q (spelling (by_names q)) is refl in
    let short = accepts.short in
    let c : List ℕ = sized_bytes (printed q.columns) in
    let t : List ℕ = sized_bytes (spelling (by_names q)) in
    let n : List ℕ = bytes_high_first 2 (length held) in
    let p : List ℕ = flat_map part_bytes held in
    subst (λ bytes. body version bytes (Ok ((q, held), [])))
    (sym (append_assoc (c ++ t) n p ∙ append_assoc c t (n ++ p))) (
      q,
      n ++ p,
      heading_again q (c ++ (t ++ (n ++ p))) (t ++ (n ++ p)) (n
          ++ p) is (read_text (printed q.columns) (t ++ (n ++ p)) (short_schema q.columns is.columns_are) columns)
          (read_text (spelling (by_names q)) (n ++ p) (omega (arith, short)) spelled),
      (
        held,
        [],
        (
          held,
          [],
          subst (λ bytes. parts version q bytes (Ok (held, []))) (ap (λ r. n ++ r) (append-nil p))
              (read_parts version q held [] is are within),
          (tt, [], (refl, refl), (refl, refl)),
        ),
        (refl, refl),
      ),
    )

pub read_again : (version : Version) (q : Checked) (held : Parts) → IsCheckedQuery q → IsUtf8 (printed q.columns)
    → IsUtf8 (spelling (by_names q)) → AreHeldParts q held → AreWithin version q held
    → IsSummaryIn version (file_in version q held) q held
unfolding opened
read_again version q held is columns spelled are within = (body_bytes q held, refl, body_again version q held is columns spelled are within)
