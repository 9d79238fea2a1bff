-- A query that was read passed the checks, and its text is UTF-8.
use Rattle.std.specs.Prelude.{◌≡◌, refl, ℕ, ◌++◌, List, Result, Ok, Err, IsUtf8}
use Rattle.std.proofs.Common.{sym, ◌∙◌, ap, subst}
use Rattle.summary_codec.specs.Lemmas.Words.{Column, AreColumns, kinds, Checked, checked, are_plain, is_grouped, kinds_fit, placed}
use Rattle.summary_codec.specs.Lemmas.Words.{spelling, IsCheckedQuery, by_names, Accepts, query_checked, asked_checked, asked_in, Parts}
use Rattle.summary_codec.specs.Lemmas.Words.{text, schema, query, heading, body, IsSummaryIn, IsSummary, IsSaved, file_bytes, body_bytes}
use Rattle.summary_codec.specs.Lemmas.Words.{opening, Version, Second}
use Rattle.query_checks.specs.declared.error.QueryError.{QueryError}
use Rattle.query_checks.specs.Forms.{Written}
use Rattle.query_checks.specs.Order.{Asked, is_ambiguously_ordered}
use Rattle.query_checks.specs.Lemmas.CheckedLaws.{gives_checked}
use Rattle.query_checks.specs.CheckedLaws.{reaches_places}
use Rattle.query_checks.specs.Writable.{IsWritable}
use Rattle.having_filter.specs.Lemmas.PassedLaws.{passes_first, by_places}
use Rattle.having_filter.specs.Lemmas.WellLaws.{passed_query}
use Rattle.group_parser.specs.declared.error.ParseError.{ParseError}
use Rattle.group_parser.specs.Lemmas.ParseLaws.{accepts_parses, can_be_written}
use Rattle.summary_codec.specs.Lemmas.SpelledRead.{spelled}
use Rattle.summary_codec.specs.Lemmas.TextLaws.{schema_text}
use Rattle.summary_codec.specs.Lemmas.VersionLaws.{held_within, one_body}
use Rattle.summary_codec.specs.Lemmas.WrittenRead.{read_again}

-- ---- a text that is a query says one that passed the checks

passed_checks : (columns : List Column) (w : Asked) (q : Checked) → AreColumns columns → IsWritable w.written → checked columns w ≡ Ok q
    → IsCheckedQuery q
passed_checks columns w q are writable passed =
    let p : Written ℕ = placed columns w.written in
    let first = passes_first columns w q passed in
    let places = by_places columns p w q (are_plain p) (kinds_fit (kinds columns) p) (is_grouped p) (is_ambiguously_ordered w) refl refl
    refl refl (sym (reaches_places columns w first) ∙ passed) in
    subst IsCheckedQuery (sym places.same) (passed_query columns w are writable first places.fit
    (gives_checked columns p places.plain places.fit places.grouped))

module _ (columns : List Column) (said : List ℕ) (q : Checked) (are : AreColumns columns) where
  by_written : (r : Result Asked ParseError) → asked_in said ≡ r → asked_checked columns r ≡ Ok q → IsCheckedQuery q
  by_written (Err error) e f = absurd cc
  by_written (Ok w) e f = by_checks (checked columns w) refl f
    where
      by_checks : (c : Result Checked QueryError) → checked columns w ≡ c → query_checked c ≡ Ok q → IsCheckedQuery q
      by_checks (Err error) g h = absurd cc
      by_checks (Ok p) g h = let same : p ≡ q = cc in subst IsCheckedQuery same (passed_checks columns w p are (can_be_written said w e) g)

  accepted_query : Accepts columns said q → IsCheckedQuery q
  accepted_query accepts = by_written (asked_in said) refl (accepts_parses columns said q accepts)

-- ---- a heading

columns_read : (bytes : List ℕ) (found : List Column × List ℕ) → schema bytes (Ok found) → AreColumns found.0
unfolding schema
columns_read bytes found (said, r, there, (columns, s, (is, stays), (canonical, (same, rests)))) = subst AreColumns (sym same)
    is.columns_are

text_read : (bytes : List ℕ) (found : List ℕ × List ℕ) → text bytes (Ok found) → IsUtf8 found.0
unfolding text
text_read bytes found (said, r, there, (utf8, (same, rests))) = subst IsUtf8 (sym same) utf8

-- what is known of a query that was read
pub record IsReadQuery (q : Checked) : Type 0 where
  pub passed : IsCheckedQuery q
  pub utf8 : IsUtf8 (spelling (by_names q))

query_read : (columns : List Column) (bytes : List ℕ) (found : Checked × List ℕ) → AreColumns columns → query columns bytes (Ok found)
    → IsReadQuery found.0
unfolding query
query_read columns bytes found are (said, r, there, (q, s, (is, stays), (canonical, (same, rests)))) =
    subst IsReadQuery (sym same)
    (record { passed = accepted_query columns said q are is; utf8 = subst IsUtf8 (sym canonical) (text_read bytes (said, r) there) })

pub summary_query : (bytes : List ℕ) (q : Checked) (held : Parts) → IsSummary bytes q held → IsReadQuery q
unfolding body heading
summary_query bytes q held (version, (behind, begins, (found, r, (columns, t, there, told), (these, u, kept, (same, none))))) =
    subst (λ (f : Checked × Parts). IsReadQuery f.0) (sym same) (query_read columns t (found, r) (columns_read behind (columns, t) there)
    told)

-- what was read of a file is written as one of the second version
pub written_again : (version : Version) (bytes : List ℕ) (q : Checked) (held : Parts) → IsSummaryIn version bytes q held
    → IsSaved (file_bytes q held) q held
written_again version bytes q held is =
    let of_query = summary_query bytes q held (version, is) in
    let are = (spelled version bytes q held is).1 in
    read_again Second q held of_query.passed (schema_text q.columns of_query.passed.columns_are) of_query.utf8 are (held_within q held are)

-- with the same bytes behind the opening
pub same_behind : (version : Version) (behind : List ℕ) (q : Checked) (held : Parts)
    → IsSummaryIn version (opening version ++ behind) q held → (file_bytes q held ≡ opening Second ++ behind)
    × IsSaved (opening Second ++ behind) q held
same_behind version behind q held is =
    let same : behind ≡ body_bytes q held = one_body version version behind (body_bytes q held)
    (spelled version (opening version ++ behind) q held is).0 in (
      ap (λ rest. opening Second ++ rest) (sym same),
      subst (λ rest. IsSaved (opening Second ++ rest) q held) (sym same)
          (written_again version (opening version ++ behind) q held is),
    )
