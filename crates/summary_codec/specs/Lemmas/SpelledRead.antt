-- What is read spells the bytes, and may be held.
use Rattle.std.specs.Prelude.{◌&&◌}
use Rattle.std.proofs.Common.{◌≡◌, ◌≢◌, refl, ℕ, ◌+◌, ◌*◌, ◌<◌, ◌≤◌, ◌⊎◌, Bool, true, false, cond, not, List, [], ◌∷◌, ◌++◌, map, length}
use Rattle.std.proofs.Common.{flat_map, Result, Ok, Err, inl, inr, sym, ap, subst, ◌∙◌, append_assoc, append-nil, arith}
use Rattle.std.proofs.lemmas.List.{map-append}
use Rattle.std.proofs.lemmas.List.Elements.{All-from_recursion}
use Rattle.std.specs.Int.{bytes_high_first}
use Rattle.std.specs.List.{AllByRecursion}
use Rattle.std.specs.List.Sorted.{IsStrictlySortedBy}
use Rattle.query_checks.specs.Reads.{filters_pass}
use Rattle.group_runs.specs.PlaceLaws.{key_total}
use Rattle.std.specs.Ordering.{nat_cmp}
use Rattle.std.specs.Cmp.{IsTotalOrder, nat_cmp_total}
use Rattle.std.specs.Cmp.Lexicographic.{slice_cmp}
use Rattle.std.specs.declared.cmp.Ordering.{Ordering}
use Rattle.summary_codec.specs.Lemmas.Words.{Kind, Row, HasKinds, Group, Query, LAST_ORIGIN, MAX_ROWS, Column, kinds, printed, packings}
use Rattle.summary_codec.specs.Lemmas.Words.{checked, checked_places, checked_arrangement, with_arrangement, all_of, has_too_many}
use Rattle.summary_codec.specs.Lemmas.Words.{is_shallow}
use Rattle.summary_codec.specs.Lemmas.Words.{are_shallow, has_columns, placed, Checked, by_names, key_kinds, meaning, spelling, Entry}
use Rattle.summary_codec.specs.Lemmas.Words.{packed_keys, AreGroups, Part, IsEarly, IsPartOf, Parts, IsHeldPart, AreHeldParts, sized_bytes}
use Rattle.summary_codec.specs.Lemmas.Words.{batch_bytes, part_bytes, body_bytes, file_in, IsNext, IsPacking, AreStateBytes, MayFollow}
use Rattle.summary_codec.specs.Lemmas.Words.{number, row, batch, batches, contents, text, schema, query, opened, parts, heading, rest, body}
use Rattle.summary_codec.specs.Lemmas.Words.{IsSummaryIn, opening, last_number, most_batch_rows, IsBatchWithin, IsWithin, AreWithin}
use Rattle.summary_codec.specs.Lemmas.Words.{Version}
use Rattle.group_runs.specs.StandingLaws.{groups_raised}
use Rattle.grouping_model.specs.Order.{Arrangement}
use Rattle.query_checks.specs.declared.order.OrderTerm.{OrderTerm}
use Rattle.query_checks.specs.Order.{Asked, names_items}
use Rattle.query_checks.specs.Forms.{Written}
use Rattle.query_checks.specs.declared.error.QueryError.{QueryError}
use Rattle.summary_codec.specs.File.{group_bytes}
use Rattle.summary_codec.specs.Reading.{group, part}
use Rattle.summary_codec.specs.Lemmas.RisingLaws.{rises_next}
use Rattle.summary_codec.specs.Lemmas.VersionLaws.{number_low, rows_low, product_low}
use Rattle.summary_codec.specs.Lemmas.ReaderLaws.{AreRight, Spells, spells_within, spells_sized, spells_each}

-- ---- lists that are right one behind the other

rising_right : {X K : Type 0} (order : K → K → Ordering) → IsTotalOrder order → (key : X → K) (right : List X → X → Type 0)
    → ((before : List X) (x : X) → right before x → IsNext order (map key before) (key x))
    → (xs before : List X) → AreRight right before xs → IsStrictlySortedBy order (map key before)
    → IsStrictlySortedBy order (map key (before ++ xs))
rising_right order total key right next [] before are rising = subst (λ l. IsStrictlySortedBy order (map key l)) (sym (append-nil before))
    rising
rising_right order total key right next (x ∷ xs) before (is, are) rising =
    subst (λ l. IsStrictlySortedBy order (map key l)) (append_assoc before (x ∷ []) xs)
    (rising_right order total key right next xs (before ++ x ∷ []) are
    (subst (IsStrictlySortedBy order) (sym (map-append key before (x ∷ []))) (rises_next order total (map key before) (key x) rising
    (next before x is))))

each_right : {X : Type 0} (right : List X → X → Type 0) (P : X → Type 0) → ((before : List X) (x : X) → right before x → P x)
    → (xs before : List X) → AreRight right before xs → AllByRecursion P xs
each_right right P gives [] before are = tt
each_right right P gives (x ∷ xs) before (is, are) = (gives before x is, each_right right P gives xs (before ++ x ∷ []) are)

none_rise : {K : Type 0} (order : K → K → Ordering) → IsStrictlySortedBy order []
unfolding IsStrictlySortedBy
none_rise order = tt

-- ---- groups

abbrev IsGroupRead : Query → ℕ → List Entry → Entry → Type 0
IsGroupRead q most before entry = IsPacking (key_kinds q) entry.0 × IsNext (slice_cmp nat_cmp) (packed_keys before) entry.0
    × AreStateBytes q most entry.1

spells_group : (q : Query) (most : ℕ) (before : List Entry) (bytes : List ℕ) (found : Entry × List ℕ) → group q most before bytes (Ok found)
    → Spells group_bytes (IsGroupRead q most before) bytes found
unfolding group
spells_group q most before bytes found (key, behind, there, (packing, (above, (states, rest, (is, wide), (are, (same, rests)))))) =
    let sized = spells_sized bytes (key, behind) there in
    subst (Spells group_bytes (IsGroupRead q most before) bytes) (λ i. (sym same i, sym rests i))
    (record {
      is = sized.is ∙ ap (λ l. sized_bytes key ++ l) is ∙ sym (append_assoc (sized_bytes key) states rest);
      right = (packing, above, are);
    })

groups_read : (q : Query) (most : ℕ) (run before : List Entry) → AreRight (IsGroupRead q most) before run → (groups : List Group)
    × AreGroups q most run groups
groups_read q most [] before are = ([], tt)
groups_read q most (e ∷ run) before (is, are) =
    let more = groups_read q most run (before ++ e ∷ []) are in
    ((is.0.0, is.2.0) ∷ more.0, (record { key = is.0.2; of_kinds = is.0.1; states = is.2.1 }, more.1))

-- ---- early batches

abbrev IsRowRead : List Kind → List (List ℕ) → List ℕ → Type 0
IsRowRead ks before packed = IsPacking ks packed

spells_row : (ks : List Kind) (before : List (List ℕ)) (bytes : List ℕ) (found : List ℕ × List ℕ) → row ks before bytes (Ok found)
    → Spells sized_bytes (IsRowRead ks before) bytes found
unfolding row
spells_row ks before bytes found (packed, behind, there, (is, (same, rests))) =
    let sized = spells_sized bytes (packed, behind) there in
    subst (Spells sized_bytes (IsRowRead ks before) bytes) (λ i. (sym same i, sym rests i)) (record { is = sized.is; right = is })

rows_read : (ks : List Kind) (packed before : List (List ℕ)) → AreRight (IsRowRead ks) before packed → (rows : List Row)
    × AllByRecursion (HasKinds ks) rows × (packed ≡ packings rows)
rows_read ks [] before are = ([], tt, refl)
rows_read ks (p ∷ packed) before (is, are) =
    let more = rows_read ks packed (before ++ p ∷ []) are in
    (is.0 ∷ more.0, (is.1, more.1), λ i. is.2 i ∷ more.2 i)

abbrev IsBatchRead : Version → List Kind → ℕ → List (ℕ × List (List ℕ)) → ℕ × List (List ℕ) → Type 0
IsBatchRead version ks prefix before b = MayFollow prefix before b.0 × IsEarly ks prefix b × IsBatchWithin version b

spells_batch : (version : Version) (ks : List Kind) (prefix : ℕ) (before : List (ℕ × List (List ℕ))) (bytes : List ℕ)
    (found : (ℕ × List (List ℕ)) × List ℕ) → batch version ks prefix before bytes (Ok found)
    → Spells batch_bytes (IsBatchRead version ks prefix before) bytes found
unfolding batch
spells_batch version ks prefix before bytes found (n, r, there, (follows, (count, s, told, (packed, t, rows, (same, rests))))) =
    let first = spells_within 4 (last_number version) bytes (n, r) there in
    let second = spells_within 4 (most_batch_rows version) r (count, s) told in
    let third = spells_each (row ks) sized_bytes (IsRowRead ks) (spells_row ks) count [] s (packed, t) rows in
    let few : length packed ≡ count = ap length third.all ∙ third.count in
    let these = rows_read ks packed [] (subst (AreRight (IsRowRead ks) []) (sym third.all) third.are) in
    let behind : s ≡ flat_map sized_bytes packed ++ t = third.is ∙ ap (λ l. flat_map sized_bytes l ++ t) (sym third.all) in
    let number : n ≤ last_number version = first.right.1 in
    let low = number_low version in
    let counted : length packed ≤ most_batch_rows version = subst (λ k. k ≤ most_batch_rows version) (sym few) second.right.1 in
    let most = rows_low version in
    subst (Spells batch_bytes (IsBatchRead version ks prefix before) bytes) (λ i. (sym same i, sym rests i))
    (record {
      is = first.is ∙ ap (λ l. bytes_high_first 4 n ++ l) (second.is ∙ (λ i. bytes_high_first 4 (sym few i) ++ behind i))
          ∙ sym (append_assoc (bytes_high_first 4 n ++ bytes_high_first 4 (length packed)) (flat_map sized_bytes packed) t
          ∙ append_assoc (bytes_high_first 4 n) (bytes_high_first 4 (length packed)) (flat_map sized_bytes packed ++ t));
      right = (
        follows,
        record {
          behind = follows.0;
          within = omega (arith, number, low);
          rows = record {
            few = omega (arith, counted, most);
            rows = these.0;
            of_kinds = All-from_recursion (HasKinds ks) these.0 these.1;
            packings_are = these.2;
          };
        },
        record { number = number; rows = counted },
      );
    })

-- what is read of the batches behind a prefix
record BatchesRead (version : Version) (ks : List Kind) (prefix : ℕ) (bytes : List ℕ) (found : List (ℕ × List (List ℕ)) × List ℕ) :
    Type 0 where
  is : bytes ≡ bytes_high_first 4 (length found.0) ++ (flat_map batch_bytes found.0 ++ found.1)
  some : (0 < prefix) ⊎ (found.0 ≢ [])
  rising : IsStrictlySortedBy nat_cmp (map (λ (b : ℕ × List (List ℕ)). b.0) found.0)
  early : AllByRecursion (IsEarly ks prefix) found.0
  within : AllByRecursion (IsBatchWithin version) found.0

not_none : {X : Type 0} (xs : List X) → 0 < length xs → xs ≢ []
not_none [] low same = absurd (omega (arith, low))
not_none (x ∷ xs) low same = absurd (let e = ap length same in omega (arith, e))

spells_batches : (version : Version) (ks : List Kind) (prefix : ℕ) (bytes : List ℕ) (found : List (ℕ × List (List ℕ)) × List ℕ)
    → batches version ks prefix bytes (Ok found) → BatchesRead version ks prefix bytes found
unfolding batches number
spells_batches version ks prefix bytes found (count, r, there, (some, rest)) =
    let all = spells_each (batch version ks prefix) batch_bytes (IsBatchRead version ks prefix) (spells_batch version ks prefix) count [] r
    found rest in
    let few : length found.0 ≡ count = ap length all.all ∙ all.count in
    let are : AreRight (IsBatchRead version ks prefix) [] found.0 = subst (AreRight (IsBatchRead version ks prefix) []) (sym all.all)
    all.are in
    let behind : r ≡ flat_map batch_bytes found.0 ++ found.1 = all.is ∙ ap (λ l. flat_map batch_bytes l ++ found.1) (sym all.all) in
    record {
      is = there.0 ∙ (λ i. bytes_high_first 4 (sym few i) ++ behind i);
      some = cases few some;
      rising = rising_right nat_cmp nat_cmp_total (λ (b : ℕ × List (List ℕ)). b.0) (IsBatchRead version ks prefix) (λ before b is. is.0.1)
          found.0 [] are (none_rise nat_cmp);
      early = each_right (IsBatchRead version ks prefix) (IsEarly ks prefix) (λ before b is. is.1) found.0 [] are;
      within = each_right (IsBatchRead version ks prefix) (IsBatchWithin version) (λ before b is. is.2) found.0 [] are;
    }
  where
    cases : length found.0 ≡ count → (0 < prefix) ⊎ (0 < count) → (0 < prefix) ⊎ (found.0 ≢ [])
    cases few (inl low) = inl low
    cases few (inr low) = inr (not_none found.0 (subst (λ n. 0 < n) (sym few) low))

-- ---- parts

-- what is read of a prefix
record ContentsRead (version : Version) (q : Checked) (prefix : ℕ) (bytes : List ℕ) (found : Part × List ℕ) : Type 0 where
  same : found.0.prefix ≡ prefix
  is : bytes ≡ bytes_high_first 8 (length found.0.run)
      ++ (flat_map group_bytes found.0.run
      ++ (bytes_high_first 4 (length found.0.early) ++ (flat_map batch_bytes found.0.early ++ found.1)))
  part : IsPartOf q found.0
  within : IsWithin version q found.0
  some : (0 < found.0.prefix) ⊎ (found.0.early ≢ [])

spells_contents : (version : Version) (q : Checked) (prefix : ℕ) (bytes : List ℕ) (found : Part × List ℕ) → prefix ≤ last_number version
    → contents version q prefix bytes (Ok found) → ContentsRead version q prefix bytes found
unfolding contents
spells_contents version q prefix bytes found within (count, r, there, (run, s, groups, (early, t, others, (same, rests)))) =
    let most : ℕ = prefix * most_batch_rows version in
    let first = spells_within 8 most bytes (count, r) there in
    let all = spells_each (group (meaning q) most) group_bytes (IsGroupRead (meaning q) most) (spells_group (meaning q) most) count [] r
    (run, s) groups in
    let few : length run ≡ count = ap length all.all ∙ all.count in
    let are : AreRight (IsGroupRead (meaning q) most) [] run = subst (AreRight (IsGroupRead (meaning q) most) []) (sym all.all) all.are in
    let behind : r ≡ flat_map group_bytes run ++ s = all.is ∙ ap (λ l. flat_map group_bytes l ++ s) (sym all.all) in
    let last = spells_batches version (kinds q.columns) prefix s (early, t) others in
    let stood = groups_read (meaning q) most run [] are in
    let rises = rising_right (slice_cmp nat_cmp) key_total (λ (e : Entry). e.0) (IsGroupRead (meaning q) most) (λ before e is. is.1) run []
    are (none_rise (slice_cmp nat_cmp)) in
    let number = number_low version in
    let counted : length run ≤ most = subst (λ n. n ≤ most) (sym few) first.right.1 in
    let raised : most ≤ prefix * MAX_ROWS = product_low version prefix in
    subst (ContentsRead version q prefix bytes) (λ i. (sym same i, sym rests i))
    (record {
      same = refl;
      is = first.is ∙ (λ i. bytes_high_first 8 (sym few i) ++ (behind ∙ ap (λ l. flat_map group_bytes run ++ l) last.is) i);
      part = record {
        within = omega (arith, within, number);
        run = record {
          groups = stood.0;
          are = groups_raised (meaning q) most (prefix * MAX_ROWS) run stood.0 raised stood.1;
          rises = rises;
        };
        few = omega (arith, counted, raised);
        rising = last.rising;
        early = last.early;
      };
      within = record {
        prefix = within;
        run = record { groups = stood.0; are = stood.1; rises = rises };
        few = counted;
        early = last.within;
      };
      some = last.some;
    })

abbrev IsPartRead : Version → Checked → Parts → ℕ × Part → Type 0
IsPartRead version q before held = IsNext nat_cmp (map (λ (p : ℕ × Part). p.0) before) held.0 × IsHeldPart q held
    × IsWithin version q held.1

spells_part : (version : Version) (q : Checked) (before : Parts) (bytes : List ℕ) (found : (ℕ × Part) × List ℕ)
    → part version q before bytes (Ok found) → Spells part_bytes (IsPartRead version q before) bytes found
unfolding part part_bytes
spells_part version q before bytes found (origin, r, there, (above, (prefix, s, told, (held, t, rest, (same, rests))))) =
    let first = spells_within 2 LAST_ORIGIN bytes (origin, r) there in
    let second = spells_within 4 (last_number version) r (prefix, s) told in
    let all = spells_contents version q prefix s (held, t) second.right.1 rest in
    let o : List ℕ = bytes_high_first 2 origin in
    let f : List ℕ = bytes_high_first 4 held.prefix in
    let n : List ℕ = bytes_high_first 8 (length held.run) in
    let g : List ℕ = flat_map group_bytes held.run in
    let m : List ℕ = bytes_high_first 4 (length held.early) in
    let e : List ℕ = flat_map batch_bytes held.early in
    subst (Spells part_bytes (IsPartRead version q before) bytes) (λ i. (sym same i, sym rests i))
    (record {
      is = first.is ∙ ap (λ l. o ++ l) (second.is ∙ (λ i. bytes_high_first 4 (sym all.same i) ++ all.is i))
          ∙ sym (append_assoc (o ++ f ++ n ++ g ++ m) e t ∙ append_assoc (o ++ f ++ n ++ g) m (e ++ t)
          ∙ append_assoc (o ++ f ++ n) g (m ++ (e ++ t)) ∙ append_assoc (o ++ f) n (g ++ (m ++ (e ++ t)))
          ∙ append_assoc o f (n ++ (g ++ (m ++ (e ++ t)))));
      right = (above, record { within = first.right.1; part = all.part; some = all.some }, all.within);
    })

-- ---- the whole file

-- the columns of a query that passed the checks are those that it was checked over
columns_or : List Column → Result Checked QueryError → List Column
columns_or columns (Ok q) = q.columns
columns_or columns (Err e) = columns

one_test : (columns : List Column) (b : Bool) (then otherwise : Result Checked QueryError) → columns_or columns then ≡ columns
    → columns_or columns otherwise ≡ columns → columns_or columns (cond b then otherwise) ≡ columns
one_test columns true then otherwise one other = one
one_test columns false then otherwise one other = other

arranged_over : (columns : List Column) (written : Result (Written ℕ) QueryError) (arrangement : Result (Arrangement OrderTerm) QueryError)
    → columns_or columns (with_arrangement columns written arrangement) ≡ columns
unfolding columns_or
arranged_over columns (Err e) arrangement = refl
arranged_over columns (Ok written) (Err e) = refl
arranged_over columns (Ok written) (Ok arrangement) = refl

checked_over : (columns : List Column) (w : Asked) (q : Checked) → checked columns w ≡ Ok q → q.columns ≡ columns
unfolding checked columns_or
checked_over columns w q is =
    sym (ap (columns_or columns) is)
    ∙ one_test columns (has_too_many w) (Err _) _ refl
    (one_test columns (not (all_of (filters_pass is_shallow) are_shallow w.written)) (Err _) _ refl
    (one_test columns (not (has_columns columns w.written && names_items w)) (Err _) _ refl
    (arranged_over columns (checked_places columns (placed columns w.written)) (checked_arrangement w))))

spells_text : (bytes : List ℕ) (found : List ℕ × List ℕ) → text bytes (Ok found) → bytes ≡ sized_bytes found.0 ++ found.1
unfolding text
spells_text bytes found (said, r, there, (utf8, (same, rests))) =
    (spells_sized bytes (said, r) there).is ∙ (λ i. sized_bytes (sym same i) ++ sym rests i)

spells_schema : (bytes : List ℕ) (found : List Column × List ℕ) → schema bytes (Ok found) → bytes ≡ sized_bytes (printed found.0) ++ found.1
unfolding schema
spells_schema bytes found (said, r, there, (columns, s, (is, stays), (canonical, (same, rests)))) =
    spells_text bytes (said, r) there ∙ (λ i. sized_bytes ((sym canonical ∙ ap printed (sym same)) i) ++ (sym stays ∙ sym rests) i)

spells_query : (columns : List Column) (bytes : List ℕ) (found : Checked × List ℕ) → query columns bytes (Ok found)
    → (bytes ≡ sized_bytes (spelling (by_names found.0)) ++ found.1) × (found.0.columns ≡ columns)
unfolding query
spells_query columns bytes found (said, r, there, (q, s, (is, stays), (canonical, (same, rests)))) = (
  spells_text bytes (said, r) there ∙ (λ i. sized_bytes ((sym canonical ∙ ap (λ (c : Checked). spelling (by_names c)) (sym same)) i)
      ++ (sym stays ∙ sym rests) i),
  ap (λ (c : Checked). c.columns) same ∙ checked_over columns is.asked q is.passed,
)

-- what is read of all origins, to the end
spells_parts : (version : Version) (q : Checked) (bytes : List ℕ) (held : Parts) → parts version q bytes (Ok (held, []))
    → (bytes ≡ bytes_high_first 2 (length held) ++ flat_map part_bytes held) × AreHeldParts q held × AreWithin version q held
unfolding parts
spells_parts version q bytes held (count, r, there, items) =
    let first = spells_within 2 (LAST_ORIGIN + 1) bytes (count, r) there in
    let all = spells_each (part version q) part_bytes (IsPartRead version q) (spells_part version q) count [] r (held, []) items in
    let few : length held ≡ count = ap length all.all ∙ all.count in
    let are : AreRight (IsPartRead version q) [] held = subst (AreRight (IsPartRead version q) []) (sym all.all) all.are in
    let behind : r ≡ flat_map part_bytes held = all.is ∙ append-nil (flat_map part_bytes all.more)
    ∙ ap (flat_map part_bytes) (sym all.all) in (
      first.is ∙ (λ i. bytes_high_first 2 (sym few i) ++ behind i),
      record {
        rising = rising_right nat_cmp nat_cmp_total (λ (p : ℕ × Part). p.0) (IsPartRead version q) (λ before p is. is.0) held [] are
            (none_rise nat_cmp);
        each = each_right (IsPartRead version q) (IsHeldPart q) (λ before p is. is.1) held [] are;
      },
      each_right (IsPartRead version q) (λ (p : ℕ × Part). IsWithin version q p.1) (λ before p is. is.2) held [] are,
    )

-- what is read behind an opening may be held, and its bytes are the one spelling
spells_body : (version : Version) (bytes : List ℕ) (q : Checked) (held : Parts) → body version bytes (Ok ((q, held), []))
    → (bytes ≡ body_bytes q held) × AreHeldParts q held × AreWithin version q held
unfolding body heading rest
spells_body version bytes q held (
  found,
  r,
  (columns, t, there, told),
  (
    these,
    u,
    (kept, v, counted, (y, w, (end, last), (is, rests))),
    (same, none),
  ),
) =
    let one = spells_schema bytes (columns, t) there in
    let two = spells_query columns t (found, r) told in
    let three = spells_parts version found r kept (subst (λ l. parts version found r (Ok (kept, l))) end counted) in
    let c : List ℕ = sized_bytes (printed found.columns) in
    let m : List ℕ = sized_bytes (spelling (by_names found)) in
    let n : List ℕ = bytes_high_first 2 (length kept) in
    let p : List ℕ = flat_map part_bytes kept in
    let all : bytes ≡ body_bytes found kept =
    one ∙ (λ i. sized_bytes (printed (sym two.1 i)) ++ (two.0 ∙ ap (λ l. m ++ l) three.0) i)
    ∙ sym (append_assoc (c ++ m) n p ∙ append_assoc c m (n ++ p)) in
    subst (λ (f : Checked × Parts). (bytes ≡ body_bytes f.0 f.1) × AreHeldParts f.0 f.1 × AreWithin version f.0 f.1)
    (sym (same ∙ (λ i. (found, is i)))) (all, three.1, three.2)

pub spelled : (version : Version) (bytes : List ℕ) (q : Checked) (held : Parts) → IsSummaryIn version bytes q held
    → (bytes ≡ file_in version q held) × AreHeldParts q held × AreWithin version q held
unfolding opened
spelled version bytes q held (behind, begins, read) =
    let all = spells_body version behind q held read in
    (begins ∙ ap (λ rest. opening version ++ rest) all.0, all.1, all.2)
