-- Bytes have one reading or one fault, and never neither.
use Rattle.std.proofs.Common.{◌≡◌, refl, ℕ, ◌*◌, ◌<◌, ◌≤◌, ◌⊎◌, ◌+◌, List, [], ◌∷◌, ◌++◌, map, length, arith, Ok, Err, sym, ap, subst, ◌∙◌}
use Rattle.std.proofs.lemmas.List.{length-append}
use Rattle.std.specs.Prelude.{IsUtf8}
use Rattle.std.specs.Ordering.{nat_cmp}
use Rattle.std.specs.Cmp.Lexicographic.{slice_cmp}
use Rattle.summary_codec.specs.Lemmas.Words.{Kind, Query, LAST_ORIGIN, Column, kinds, printed, by_names, key_kinds, Checked, meaning}
use Rattle.summary_codec.specs.Lemmas.Words.{spelling, Entry, packed_keys, Part, Parts, opening, last_number, most_batch_rows, Version}
use Rattle.summary_codec.specs.Lemmas.Words.{IsSummaryIn, IsSummary, HasFault, Outcome, Reader, done, both, must, taken, number}
use Rattle.summary_codec.specs.Lemmas.Words.{number_within, sized, each, IsNext, IsPacking, AreStateBytes, states_width, MayFollow}
use Rattle.summary_codec.specs.Lemmas.Words.{IsCutShort, row, batch, batches, contents, columns_in, query_in, text, schema, query, opened}
use Rattle.summary_codec.specs.Lemmas.Words.{ended, parts, heading, rest, body, summary, SummaryError}
use Rattle.packed_rows.specs.PrintedLaws.{one_schema}
use Rattle.group_parser.specs.Lemmas.ParseLaws.{one_accepted, one_refused, not_both}
use Rattle.summary_codec.specs.Reading.{group, part}
use Rattle.summary_codec.specs.declared.error.SummaryError.TheVariants as fault
use Rattle.summary_codec.specs.declared.error.SummaryError.TheVariants.{NotASummary, Truncated, NotCanonical, OutOfRange, BadPacked}
use Rattle.summary_codec.specs.declared.error.SummaryError.TheVariants.{BadState}
use Rattle.summary_codec.specs.Lemmas.TotalLaws.{AreBytes, LeavesBytes, HasOutcome, some_done, some_both, some_must, some_taken}
use Rattle.summary_codec.specs.Lemmas.TotalLaws.{some_number, some_each, some_columns, some_query_in, some_opened, some_ended}
use Rattle.summary_codec.specs.Lemmas.VersionLaws.{opening_length, one_version, one_body}
use Rattle.summary_codec.specs.Lemmas.ReaderLaws.{IsOne, error_of, is_ok, one_both, one_done, one_must, one_taken, one_number, one_each}

-- bytes that begin as a file does aren't cut short
whole_or_short : (version : Version) (bytes rest : List ℕ) → bytes ≡ opening version ++ rest → IsCutShort bytes → ⊥
whole_or_short version bytes rest whole (other, more, some, short) =
    let one = ap length whole ∙ length-append (opening version) rest in
    let two = ap length short ∙ length-append bytes more in
    let own = opening_length version in
    let its = opening_length other in
    some (none more (omega (arith, one, two, own, its)))
  where
    none : (xs : List ℕ) → length xs ≡ 0 → xs ≡ []
    none [] l = refl
    none (x ∷ xs) l = absurd (omega (arith, l))

-- and begin so in one way
one_opening : (bytes : List ℕ) (a b : Version × List ℕ) → bytes ≡ opening a.0 ++ a.1 → bytes ≡ opening b.0 ++ b.1 → a ≡ b
one_opening bytes a b left right =
    let same : a.0 ≡ b.0 = one_version a.0 b.0 a.1 b.1 (sym left ∙ right) in
    let rests : a.1 ≡ b.1 = one_body a.0 b.0 a.1 b.1 (sym left ∙ right) in
    (λ i. (same i, rests i))

one_columns : (bytes : List ℕ) → IsOne (columns_in bytes)
one_columns said bytes (Ok a) (Ok b) left right = λ i. Ok (one_schema said a.0 b.0 left.0 right.0 i, (left.1 ∙ sym right.1) i)
one_columns said bytes (Ok a) (Err f) left right = absurd (right.0 a.0 left.0)
one_columns said bytes (Err e) (Ok b) left right = absurd (left.0 b.0 right.0)
one_columns said bytes (Err e) (Err f) left right = ap Err (left.1 ∙ sym right.1)

one_query_in : (columns : List Column) (said : List ℕ) → IsOne (query_in columns said)
one_query_in columns said bytes (Ok a) (Ok b) left right = λ i. Ok (
  one_accepted columns said a.0 b.0 left.0 right.0 i,
  (left.1
      ∙ sym right.1) i,
)
one_query_in columns said bytes (Ok a) (Err f) left right = absurd (not_both columns said a.0 right.0 left.0 right.1)
one_query_in columns said bytes (Err e) (Ok b) left right = absurd (not_both columns said b.0 left.0 right.0 left.1)
one_query_in columns said bytes (Err e) (Err f) left right = ap Err (left.2
    ∙ ap fault.Query (one_refused columns said left.0 right.0 left.1 right.1) ∙ sym right.2)

one_opened : IsOne opened
unfolding opened
one_opened bytes (Ok a) (Ok b) left right = ap Ok (one_opening bytes a b left right)
one_opened bytes (Ok a) (Err NotASummary) left right = absurd (right.0 a.0 a.1 left)
one_opened bytes (Ok a) (Err Truncated) left right = absurd (whole_or_short a.0 bytes a.1 left right)
one_opened bytes (Err NotASummary) (Ok b) left right = absurd (left.0 b.0 b.1 right)
one_opened bytes (Err Truncated) (Ok b) left right = absurd (whole_or_short b.0 bytes b.1 right left)
one_opened bytes (Err NotASummary) (Err NotASummary) left right = refl
one_opened bytes (Err NotASummary) (Err Truncated) left right = absurd (left.1 right)
one_opened bytes (Err Truncated) (Err NotASummary) left right = absurd (right.1 left)
one_opened bytes (Err Truncated) (Err Truncated) left right = refl
one_opened bytes (Ok a) (Err f) left right = absurd right
one_opened bytes (Err NotASummary) (Err f) left right = absurd right
one_opened bytes (Err Truncated) (Err f) left right = absurd right
one_opened bytes (Err e) b left right = absurd left

one_ended : IsOne ended
one_ended bytes (Ok a) (Ok b) left right = λ i. Ok (tt, (left.1 ∙ sym right.1) i)
one_ended bytes (Ok a) (Err f) left right = absurd (right.0 left.0)
one_ended bytes (Err e) (Ok b) left right = absurd (left.0 right.0)
one_ended bytes (Err e) (Err f) left right = ap Err (left.1 ∙ sym right.1)

-- bytes have exactly one outcome
abbrev IsSure : {A : Type 0} → Reader A → Type 0
IsSure r = IsOne r × HasOutcome r

sure_done : {A : Type 0} (x : A) → IsSure (done x)
sure_done x = (one_done x, some_done x)

sure_both : {A B : Type 0} (first : Reader A) (next : A → Reader B) → IsSure first → ((x : A) → IsSure (next x)) → IsSure (both first next)
sure_both first next one more = (one_both first next one.0 (λ x. (more x).0), some_both first next one.1 (λ x. (more x).1))

sure_must : {A : Type 0} (right : Type 0) (error : SummaryError) (next : Reader A) → IsSure next → IsSure (must right error next)
sure_must right error next more = (one_must right error next more.0, some_must right error next more.1)

sure_taken : (count : ℕ) → IsSure (taken count)
sure_taken count = (one_taken count, some_taken count)

sure_number : (width : ℕ) → IsSure (number width)
sure_number width = (one_number width, some_number width)

sure_within : (width most : ℕ) → IsSure (number_within width most)
unfolding number_within
sure_within width most = sure_both (number width) (λ n. must (n ≤ most) OutOfRange (done n)) (sure_number width)
    (λ n. sure_must (n ≤ most) OutOfRange (done n) (sure_done n))

sure_sized : IsSure sized
unfolding sized
sure_sized = sure_both (number 2) taken (sure_number 2) sure_taken

sure_each : {A : Type 0} (item : List A → Reader A) → ((before : List A) → IsSure (item before)) → (n : ℕ) (before : List A)
    → IsSure (each item n before)
sure_each item sure n before = (one_each item (λ b. (sure b).0) n before, some_each item (λ b. (sure b).1) n before)

sure_columns : (said : List ℕ) → IsSure (columns_in said)
sure_columns said = (one_columns said, some_columns said)

sure_query_in : (columns : List Column) (said : List ℕ) → IsSure (query_in columns said)
sure_query_in columns said = (one_query_in columns said, some_query_in columns said)

sure_opened : IsSure opened
sure_opened = (one_opened, some_opened)

sure_ended : IsSure ended
sure_ended = (one_ended, some_ended)

sure_group : (q : Query) (most : ℕ) (before : List Entry) → IsSure (group q most before)
unfolding group
sure_group q most before =
    sure_both sized _ sure_sized (λ key.
    sure_must (IsPacking (key_kinds q) key) BadPacked _
    (sure_must (IsNext (slice_cmp nat_cmp) (packed_keys before) key) NotCanonical _
    (sure_both (taken (states_width q)) _ (sure_taken (states_width q)) (λ states. sure_must (AreStateBytes q most states) BadState _
    (sure_done (key, states))))))

sure_row : (kinds : List Kind) (before : List (List ℕ)) → IsSure (row kinds before)
unfolding row
sure_row kinds before = sure_both sized _ sure_sized (λ packed. sure_must (IsPacking kinds packed) BadPacked _ (sure_done packed))

sure_batch : (version : Version) (kinds : List Kind) (prefix : ℕ) (before : List (ℕ × List (List ℕ)))
    → IsSure (batch version kinds prefix before)
unfolding batch
sure_batch version kinds prefix before =
    sure_both (number_within 4 (last_number version)) _ (sure_within 4 (last_number version)) (λ n.
    sure_must (MayFollow prefix before n) NotCanonical _
    (sure_both (number_within 4 (most_batch_rows version)) _ (sure_within 4 (most_batch_rows version)) (λ rows.
    sure_both (each (row kinds) rows []) _ (sure_each (row kinds) (sure_row kinds) rows []) (λ packed. sure_done (n, packed)))))

sure_batches : (version : Version) (kinds : List Kind) (prefix : ℕ) → IsSure (batches version kinds prefix)
unfolding batches
sure_batches version kinds prefix =
    sure_both (number 4) _ (sure_number 4) (λ count. sure_must ((0 < prefix) ⊎ (0 < count)) NotCanonical _
    (sure_each (batch version kinds prefix) (sure_batch version kinds prefix) count []))

sure_contents : (version : Version) (q : Checked) (prefix : ℕ) → IsSure (contents version q prefix)
unfolding contents
sure_contents version q prefix =
    let most : ℕ = prefix * most_batch_rows version in
    sure_both (number_within 8 most) _ (sure_within 8 most) (λ groups.
    sure_both (each (group (meaning q) most) groups []) _ (sure_each (group (meaning q) most) (sure_group (meaning q) most) groups [])
    (λ run.
    sure_both (batches version (kinds q.columns) prefix) _ (sure_batches version (kinds q.columns) prefix)
    (λ early. sure_done (record { prefix = prefix; run = run; early = early }))))

sure_part : (version : Version) (q : Checked) (before : Parts) → IsSure (part version q before)
unfolding part
sure_part version q before =
    sure_both (number_within 2 LAST_ORIGIN) _ (sure_within 2 LAST_ORIGIN) (λ origin.
    sure_must (IsNext nat_cmp (map (λ (held : ℕ × Part). held.0) before) origin) NotCanonical _
    (sure_both (number_within 4 (last_number version)) _ (sure_within 4 (last_number version)) (λ prefix.
    sure_both (contents version q prefix) _ (sure_contents version q prefix) (λ held. sure_done (origin, held)))))

sure_text : IsSure text
unfolding text
sure_text = sure_both sized _ sure_sized (λ bytes. sure_must (IsUtf8 bytes) NotCanonical _ (sure_done bytes))

sure_schema : IsSure schema
unfolding schema
sure_schema =
    sure_both text _ sure_text (λ bytes. sure_both (columns_in bytes) _ (sure_columns bytes)
    (λ columns. sure_must (printed columns ≡ bytes) NotCanonical _ (sure_done columns)))

sure_query : (columns : List Column) → IsSure (query columns)
unfolding query
sure_query columns =
    sure_both text _ sure_text (λ bytes. sure_both (query_in columns bytes) _ (sure_query_in columns bytes)
    (λ found. sure_must (spelling (by_names found) ≡ bytes) NotCanonical _ (sure_done found)))

sure_parts : (version : Version) (q : Checked) → IsSure (parts version q)
unfolding parts
sure_parts version q = sure_both (number_within 2 (LAST_ORIGIN + 1)) _ (sure_within 2 (LAST_ORIGIN + 1))
    (λ origins. sure_each (part version q) (sure_part version q) origins [])

sure_heading : IsSure heading
unfolding heading
sure_heading = sure_both schema _ sure_schema (λ columns. sure_query columns)

sure_rest : (version : Version) (q : Checked) → IsSure (rest version q)
unfolding rest
sure_rest version q = sure_both (parts version q) _ (sure_parts version q) (λ held. sure_both ended _ sure_ended (λ _. sure_done held))

sure_body : (version : Version) → IsSure (body version)
unfolding body
sure_body version = sure_both heading _ sure_heading (λ q. sure_both (rest version q) _ (sure_rest version q) (λ held. sure_done (q, held)))

sure_summary : IsSure summary
unfolding summary
sure_summary = sure_both opened _ sure_opened sure_body

-- a file is what is read as one
read_so : (bytes : List ℕ) (q : Checked) (held : Parts) → IsSummary bytes q held → summary bytes (Ok ((q, held), []))
unfolding summary
read_so bytes q held (version, (behind, begins, read)) = (version, behind, begins, read)

so_read : (bytes : List ℕ) (q : Checked) (held : Parts) → summary bytes (Ok ((q, held), [])) → IsSummary bytes q held
unfolding summary
so_read bytes q held (version, behind, begins, read) = (version, (behind, begins, read))

-- what an outcome has
found_or : Checked × Parts → Outcome (Checked × Parts) → Checked × Parts
found_or d (Ok found) = found.0
found_or d (Err e) = d

pub one_reading : (bytes : List ℕ) (q r : Checked) (held those : Parts) → IsSummary bytes q held → IsSummary bytes r those → (q ≡ r)
    × (held ≡ those)
unfolding found_or
one_reading bytes q r held those left right =
    let same = sure_summary.0 bytes (Ok ((q, held), [])) (Ok ((r, those), [])) (read_so bytes q held left) (read_so bytes r those right) in
    (ap (λ o. (found_or (q, held) o).0) same, ap (λ o. (found_or (q, held) o).1) same)

pub one_file_version : (bytes : List ℕ) (version other : Version) (q r : Checked) (held those : Parts) → IsSummaryIn version bytes q held
    → IsSummaryIn other bytes r those → version ≡ other
unfolding opened
one_file_version bytes version other q r held those left right = one_version version other left.0 right.0 (sym left.1 ∙ right.1)

pub one_first_fault : (bytes : List ℕ) (e f : SummaryError) → HasFault bytes e → HasFault bytes f → e ≡ f
one_first_fault bytes e f left right = ap (error_of e) (sure_summary.0 bytes (Err e) (Err f) left right)

pub read_or_refused : (bytes : List ℕ) (q : Checked) (held : Parts) (e : SummaryError) → IsSummary bytes q held → HasFault bytes e → ⊥
read_or_refused bytes q held e read fault = subst is_ok (sure_summary.0 bytes (Ok ((q, held), [])) (Err e) (read_so bytes q held read)
    fault) tt

-- nothing is left of what is read as a file
nothing_left : (bytes : List ℕ) (found : (Checked × Parts) × List ℕ) → summary bytes (Ok found) → found.1 ≡ []
unfolding summary body rest
nothing_left bytes found
    (version, behind, begins, (q, r, head, (held, u, (kept, v, counted, (y, w, (end, last), (is, rests))), (same, none)))) = none ∙ rests
    ∙ last

pub read_or_fault : (bytes : List ℕ) → AreBytes bytes → ((q : Checked) (held : Parts) → ¬ (IsSummary bytes q held))
    → ((e : SummaryError) → ¬ (HasFault bytes e)) → ⊥
read_or_fault bytes are unread faultless = sure_summary.1 bytes are go
  where
    go : (out : Outcome (Checked × Parts)) → summary bytes out → LeavesBytes out → ⊥
    go (Ok found) there left = unread found.0.0 found.0.1
        (so_read bytes found.0.0 found.0.1 (subst (λ l. summary bytes (Ok (found.0, l))) (nothing_left bytes found there) there))
    go (Err e) there left = faultless e there
