-- What the file of a world is loaded as, and when a replica's file is that of a world.
use Rattle.std.specs.Prelude.{◌≡◌, refl, ℕ, ◌<◌, ◌≤◌, ◌++◌, ◌||◌, ◌&&◌, ◌↔◌, nat_le, Bool, true, false, List, Option, Some, None, IsSome}
use Rattle.std.specs.Prelude.{IsTrue, IsUtf8, unwrap_or}
use Rattle.std.proofs.Common.{◌∙◌, sym, ap, subst, inl, inr, arith}
use Rattle.std.proofs.lemmas.Bool.{true≢false, cases_lt, or_left, or_right}
use Rattle.std.proofs.lemmas.Map.Made.{is_some-lookup}
use Rattle.std.specs.List.{AllByRecursion}
use Rattle.std.specs.Option.{is_some}
use Rattle.std.specs.Ordering.{eq_by_cmp, nat_cmp}
use Rattle.std.specs.Cmp.{nat_cmp_total}
use Rattle.std.specs.FinMap.{nat_cmp-IsAntisymmetric}
use Rattle.grouping_model.specs.EarlyLaws.{early_are, origins_are}
use Rattle.grouping_model.specs.KnowledgeLaws.{same_knowledge}
use Rattle.grouping_model.specs.MemberLaws.{from_contains, to_contains, among_member}
use Rattle.replica_merge.specs.Lemmas.Words.{Query, World, IsWorld, Knowledge, knows, origins, prefix, early, batch_rows, kinds, packings}
use Rattle.replica_merge.specs.Lemmas.Words.{Checked, meaning, FitsOrigin, Part, empty, rows_at, tells, IsSummaryIn, IsSummary, IsSaved}
use Rattle.replica_merge.specs.Lemmas.Words.{Second}
use Rattle.replica_merge.specs.Lemmas.Words.{world_part, world_file, Parts, part_at, part_of, Held, told, Fits, AreHeldParts}
use Rattle.grouping_model.specs.Rising.{is_among}
use Rattle.grouping_model.specs.Lemmas.PrefixLaws.{prefix_unbroken}
use Rattle.query_checks.specs.Spelling.{spelling}
use Rattle.having_filter.specs.Kept.{IsCheckedQuery, by_names}
use Rattle.origin_prefix.specs.Lemmas.ByNumber.{found_holds}
use Rattle.summary_codec.specs.File.{file_in, body_bytes}
use Rattle.summary_codec.specs.Versions.{opening}
use Rattle.summary_codec.specs.declared.version.Version.{Version}
use Rattle.summary_codec.specs.Worlds.{IsKnownOf, IsWorldFile, world_parts}
use Rattle.summary_codec.specs.Lemmas.ReadQueries.{summary_query, written_again}
use Rattle.summary_codec.specs.Lemmas.RowGroups.{each_mapped}
use Rattle.summary_codec.specs.Lemmas.SpelledRead.{spelled}
use Rattle.summary_codec.specs.Lemmas.VersionLaws.{one_body}
use Rattle.summary_codec.specs.Lemmas.WorldLaws.{are_held, known_from_one, numbers_back, part_fits, second_keeps, world_read}
use Rattle.replica_merge.proofs.SavedLaws.{one_held, saved_in}
use Rattle.replica_merge.specs.Lemmas.ToldLaws.{alike, empty_tells, told_is}

-- ---- truth values

or_cases : {G : Type 0} (a b : Bool) → (a || b) ≡ true → (a ≡ true → G) → (b ≡ true → G) → G
or_cases true b e left right = left refl
or_cases false b e left right = right e

within_range : (n upto : ℕ) → 1 ≤ n → n ≤ upto → (nat_le 1 n && nat_le n upto) ≡ true
within_range n upto low high =
    let one : nat_le 1 n ≡ true = grind arith in
    let two : nat_le n upto ≡ true = grind arith in
    (λ i. one i && two i)

range_low : (n upto : ℕ) → (nat_le 1 n && nat_le n upto) ≡ true → 1 ≤ n
range_low n upto e = grind arith

range_high : (n upto : ℕ) → (nat_le 1 n && nat_le n upto) ≡ true → n ≤ upto
range_high n upto e = grind arith

there_is : {X : Type 0} (o : Option X) → is_some o ≡ true → (x : X) × (o ≡ Some x)
there_is None some = absurd (true≢false (sym some))
there_is (Some x) some = (x, refl)

-- ---- nothing fits each world

empty_fits : (query : Query) (world : World) (origin : ℕ) → FitsOrigin query world origin empty
empty_fits query world origin =
    record {
      there = λ number low high. absurd (omega (arith, low, high));
      run = tt;
      early = λ number rows found. absurd (true≢false (sym (ap is_some found)));
    }

-- ---- the parts of a world's file

module _ (query : Checked) (world : World) (known : Knowledge) (is_query : IsCheckedQuery query)
    (is_world : IsWorld (kinds query.columns) world) (of_world : IsKnownOf world known) where
  abbrev parts : Parts
  parts = world_parts query world known

  -- they fit the world
  each_fits : AllByRecursion (λ (e : ℕ × Part). FitsOrigin (meaning query) world e.0 e.1) parts
  each_fits = each_mapped (λ (e : ℕ × Part). FitsOrigin (meaning query) world e.0 e.1) (world_part query world known) (origins known)
      (λ origin listed. part_fits query world known is_query is_world of_world origin)

  pub parts_fit : Fits world (record { query = query; parts = parts })
  parts_fit = λ origin.
      elim (part_at parts origin) as (λ o. part_at parts origin ≡ o → FitsOrigin (meaning query) world origin (unwrap_or o empty)) [
        | None ↦ λ e. empty_fits (meaning query) world origin
        | Some part ↦ λ e. found_holds (λ (e : ℕ × Part). FitsOrigin (meaning query) world e.0 e.1) parts origin part each_fits e
      ] refl

  -- a part tells what is known of its origin
  early_among : (origin number : ℕ) → is_some (rows_at (world_part query world known origin).1.early number)
      ≡ is_among nat_cmp number (early known origin)
  early_among origin number =
      is_some-lookup (eq_by_cmp nat_cmp number) (world_part query world known origin).1.early
      ∙ ap (is_among nat_cmp number) (numbers_back (λ n. packings (batch_rows world origin n)) (early known origin))

  among_known : (origin number : ℕ) → is_among nat_cmp number (early known origin) ≡ true → IsTrue (knows known (origin, number))
  among_known origin number among =
      ((early_are known origin number).0
      (to_contains (early known origin) number ((among_member nat_cmp_total nat_cmp-IsAntisymmetric (early known origin) number).0
      among))).0

  known_among : (origin number : ℕ) → IsTrue (knows known (origin, number)) → prefix known origin < number
      → is_among nat_cmp number (early known origin) ≡ true
  known_among origin number known_too above =
      (among_member nat_cmp_total nat_cmp-IsAntisymmetric (early known origin) number).1
      (from_contains (early known origin) number ((early_are known origin number).1 (known_too, above)))

  part_tells : (origin number : ℕ) → tells (world_part query world known origin).1 number ≡ knows known (origin, number)
  part_tells origin number = alike (tells (world_part query world known origin).1 number) (knows known (origin, number)) to back
    where
      to : tells (world_part query world known origin).1 number ≡ true → knows known (origin, number) ≡ true
      to e =
          or_cases (nat_le 1 number && nat_le number (prefix known origin))
          (is_some (rows_at (world_part query world known origin).1.early number)) e
          (λ counted. prefix_unbroken known origin number (range_low number (prefix known origin) counted)
          (range_high number (prefix known origin) counted))
          (λ there. among_known origin number (sym (early_among origin number) ∙ there))

      back : knows known (origin, number) ≡ true → tells (world_part query world known origin).1 number ≡ true
      back known_too =
          elim (cases_lt (prefix known origin) number) [
            | inl above ↦
                or_right (nat_le 1 number && nat_le number (prefix known origin))
                (is_some (rows_at (world_part query world known origin).1.early number))
                (early_among origin number ∙ known_among origin number known_too above)
            | inr counted ↦
                or_left (nat_le 1 number && nat_le number (prefix known origin))
                (is_some (rows_at (world_part query world known origin).1.early number))
                (within_range number (prefix known origin) (known_from_one query world known is_query is_world of_world origin number
                known_too) counted)
          ]

  each_tells : AllByRecursion (λ (e : ℕ × Part). (number : ℕ) → tells e.1 number ≡ knows known (e.0, number)) parts
  each_tells = each_mapped (λ (e : ℕ × Part). (number : ℕ) → tells e.1 number ≡ knows known (e.0, number)) (world_part query world known)
      (origins known) (λ origin listed number. part_tells origin number)

  -- nothing is known of an origin without a part
  none_known : (origin number : ℕ) → part_at parts origin ≡ None → knows known (origin, number) ≡ false
  none_known origin number none =
      elim (knows known (origin, number)) as (λ b. knows known (origin, number) ≡ b → b ≡ false) [
        | true ↦ λ known_too.
            let listed : is_among nat_cmp origin (origins known) ≡ true =
            (among_member nat_cmp_total nat_cmp-IsAntisymmetric (origins known) origin).1
            (from_contains (origins known) origin ((origins_are known origin).1 (number, known_too))) in
            let there : is_some (part_at parts origin) ≡ true =
            is_some-lookup (eq_by_cmp nat_cmp origin) parts
            ∙ ap (is_among nat_cmp origin) (numbers_back (λ o. (world_part query world known o).1) (origins known))
            ∙ listed in
            absurd (true≢false (sym there ∙ ap is_some none))
        | false ↦ λ e. refl
      ] refl

  parts_tell : (origin number : ℕ) → tells (part_of parts origin) number ≡ knows known (origin, number)
  parts_tell origin number =
      elim (part_at parts origin) as (λ o. part_at parts origin ≡ o → tells (unwrap_or o empty) number ≡ knows known (origin, number)) [
        | None ↦ λ e. empty_tells number ∙ sym (none_known origin number e)
        | Some part ↦ λ e. found_holds (λ (e : ℕ × Part). (number : ℕ) → tells e.1 number ≡ knows known (e.0, number)) parts origin part
            each_tells e number
      ] refl

  pub parts_told : told parts ≡ known
  parts_told =
      same_knowledge (told parts) known (λ batch.
      told_is parts (are_held query world known is_query is_world of_world).rising batch.0 batch.1 ∙ parts_tell batch.0 batch.1)

  -- the file is read as these alone
  loaded_is : IsUtf8 (spelling (by_names query)) → (held : Held) → IsSaved (world_file query world known) held.query held.parts
      → (held.query ≡ query) × Fits world held × (told held.parts ≡ known)
  loaded_is utf8 held read =
      let own : Held = record { query = query; parts = parts } in
      let same : held ≡ own =
      one_held (world_file query world known) held own (Second, read) (
        Second,
        world_read query world known is_query is_world of_world
            Second (second_keeps query world known is_world) utf8,
      ) in
      subst (λ (h : Held). (h.query ≡ query) × Fits world h × (told h.parts ≡ known)) (sym same) (refl, parts_fit, parts_told)

-- what is read of a world's file in any version is read of its file in the second
read_in_second : (version : Version) (query : Checked) (world : World) (known : Knowledge) (bytes : List ℕ) (held : Held)
    → IsWorldFile version query world known bytes → IsSummary bytes held.query held.parts
    → IsSaved (world_file query world known) held.query held.parts
read_in_second version query world known bytes held is (own, read) =
    let file : bytes ≡ file_in own held.query held.parts = (spelled own bytes held.query held.parts read).0 in
    let same : body_bytes held.query held.parts ≡ body_bytes query (world_parts query world known) =
    one_body own version (body_bytes held.query held.parts) (body_bytes query (world_parts query world known)) (sym file ∙ is.bytes_are) in
    subst (λ rest. IsSaved (opening Second ++ rest) held.query held.parts) same (written_again own bytes held.query held.parts read)

pub loaded : (version : Version) (query : Checked) (world : World) (known : Knowledge) (bytes : List ℕ) (held : Held) → IsCheckedQuery query
    → IsUtf8 (spelling (by_names query)) → IsWorld (kinds query.columns) world
    → IsWorldFile version query world known bytes → IsSummary bytes held.query held.parts → (held.query ≡ query) × Fits world held
    × (told held.parts ≡ known)
loaded version query world known bytes held is_query utf8 is_world is read =
    loaded_is query world known is_query is_world is.of_world utf8 held (read_in_second version query world known bytes held is read)

-- ---- a replica fits a world where its file is the world's

-- what a replica tells that fits a world is of the world
fits_known : (world : World) (held : Held) → AreHeldParts held.query held.parts → Fits world held → IsKnownOf world (told held.parts)
fits_known world held are fits = record {
  there = λ origin number known. go origin number (sym (told_is held.parts are.rising origin number)
      ∙ known);
}
  where
    go : (origin number : ℕ) → tells (part_of held.parts origin) number ≡ true → IsSome (world origin number)
    go origin number told_too =
        let part : Part = part_of held.parts origin in
        or_cases (nat_le 1 number && nat_le number part.prefix) (is_some (rows_at part.early number)) told_too
        (λ counted. (fits origin).there number (range_low number part.prefix counted) (range_high number part.prefix counted))
        (λ listed.
        let rows = there_is (rows_at part.early number) listed in
        let those = (fits origin).early number rows.0 rows.1 in
        ap is_some those.1)

pub fits_by_file : (version : Version) (world : World) (held : Held) (bytes : List ℕ) → IsWorld (kinds held.query.columns) world
    → IsSummaryIn version bytes held.query held.parts
    → Fits world held ↔ IsWorldFile version held.query world (told held.parts) bytes
fits_by_file version world held bytes is_world read =
    let file = spelled version bytes held.query held.parts read in
    let of_query = summary_query bytes held.query held.parts (version, read) in (
      (λ fits. record { of_world = fits_known world held file.1 fits; bytes_are = saved_in version held world bytes file.1 fits file.0 }),
      (λ is. (loaded version held.query world (told held.parts) bytes held of_query.passed of_query.utf8 is_world is (version, read)).1),
    )
