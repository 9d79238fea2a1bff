-- What bytes read as, from the left: a query and what is held of some origins, or the first fault. The order of the faults is our own.
use Rattle.std.specs.Prelude.{◌≡◌, ◌≢◌, ℕ, zero, suc, ◌+◌, ◌-◌, ◌*◌, ◌^◌, ◌<◌, ◌≤◌, ◌⊎◌, List, [], ◌∷◌, ◌++◌, map, length, slice_get}
use Rattle.std.specs.Prelude.{IfSome, Result, Ok, Err, IsUtf8}
use Rattle.std.specs.Int.{bytes_high_first}
use Rattle.std.specs.Cmp.Lexicographic.{slice_cmp}
use Rattle.std.specs.Ordering.{nat_cmp}
use Rattle.std.specs.declared.cmp.Ordering.{Ordering}
use Rattle.std.specs.declared.cmp.Ordering.TheVariants.{Less}
use Rattle.grouping_model.specs.Aggregates.{Partial}
use Rattle.grouping_model.specs.Datum.{Kind}
use Rattle.grouping_model.specs.Parts.{functions, key_kinds}
use Rattle.grouping_model.specs.Query.{Query}
use Rattle.grouping_model.specs.declared.limits.TheConstants.{LAST_ORIGIN}
use Rattle.packed_rows.specs.Columns.{Column, kinds, printed, IsSchemaText}
use Rattle.packed_rows.specs.Packing.{IsPacking}
use Rattle.having_filter.specs.Kept.{by_names}
use Rattle.query_checks.specs.Checks.{Checked}
use Rattle.having_filter.specs.Meaning.{meaning}
use Rattle.query_checks.specs.Spelling.{spelling}
use Rattle.group_parser.specs.Parsing.{Accepts, Refuses}
use Rattle.group_parser.specs.declared.error.ParseError.{ParseError}
use Rattle.group_runs.specs.Runs.{Entry, packed_keys}
pub use Rattle.group_runs.specs.Standing.{states_width}
use Rattle.group_runs.specs.Standing.{AreStates}
use Rattle.origin_prefix.specs.Parts.{Part}
use Rattle.origin_prefix.specs.Held.{Parts}
use Rattle.summary_codec.specs.Versions.{opening, last_number, most_batch_rows}
use Rattle.summary_codec.specs.declared.version.Version.{Version}
use Rattle.summary_codec.specs.declared.version.Version.TheVariants.{Second}
use Rattle.summary_codec.specs.declared.error.SummaryError.{SummaryError}
use Rattle.summary_codec.specs.declared.error.SummaryError.TheVariants.{NotASummary, Truncated, Trailing, NotCanonical, OutOfRange}
use Rattle.summary_codec.specs.declared.error.SummaryError.TheVariants.{BadSchema, BadPacked, BadState}
use Rattle.summary_codec.specs.declared.error.SummaryError.TheVariants as fault

-- what is read: a value and the bytes behind it, or the first fault
abbrev pub Outcome : Type 0 → Type 0
Outcome A = Result (A × List ℕ) SummaryError

-- what bytes read as
abbrev pub Reader : Type 0 → Type 1
Reader A = List ℕ → Outcome A → Type 0

-- nothing more is read
abbrev pub done : {A : Type 0} → A → Reader A
done x bytes (Ok found) = (found.0 ≡ x) × (found.1 ≡ bytes)
done x bytes (Err e) = ⊥

-- two steps, of which the second reads on behind the first; a fault of the first ends both
abbrev pub both : {A B : Type 0} → Reader A → (A → Reader B) → Reader B
both {A = A} first next bytes (Ok found) = (x : A) × (rest : List ℕ) × first bytes (Ok (x, rest)) × next x rest (Ok found)
both {A = A} first next bytes (Err e) = first bytes (Err e) ⊎ ((x : A) × (rest : List ℕ) × first bytes (Ok (x, rest)) × next x rest (Err e))

infixl 10 ◌>>=◌
abbrev pub ◌>>=◌ : {A B : Type 0} → Reader A → (A → Reader B) → Reader B
first >>= next = both first next

-- what was read must be right before more is read
abbrev pub must : {A : Type 0} → Type 0 → SummaryError → Reader A → Reader A
must right fault next bytes (Ok found) = right × next bytes (Ok found)
must right fault next bytes (Err e) = (right × next bytes (Err e)) ⊎ ((¬ right) × (e ≡ fault))

-- so many bytes
abbrev pub taken : ℕ → Reader (List ℕ)
taken count bytes (Ok found) = (bytes ≡ found.0 ++ found.1) × (length found.0 ≡ count)
taken count bytes (Err e) = (length bytes < count) × (e ≡ Truncated)

-- a number of so many bytes
unfoldable pub number : ℕ → Reader ℕ
number width bytes (Ok found) = (bytes ≡ bytes_high_first width found.0 ++ found.1) × (found.0 < 256 ^ width)
number width bytes (Err e) = (length bytes < width) × (e ≡ Truncated)

-- one that is not too large
unfoldable pub number_within : ℕ → ℕ → Reader ℕ
number_within width most = number width >>= λ n. must (n ≤ most) OutOfRange (done n)

-- bytes behind their length
unfoldable pub sized : Reader (List ℕ)
sized = number 2 >>= taken

-- so many things, each read by those before it
abbrev pub each : {A : Type 0} → (List A → Reader A) → ℕ → List A → Reader (List A)
each item zero before = done before
each item (suc n) before = item before >>= λ x. each item n (before ++ x ∷ [])

-- bytes are the states of a query's aggregates, which count at most so many rows
abbrev pub AreStateBytes : Query → ℕ → List ℕ → Type 0
AreStateBytes query most bytes = (partials : List Partial) × AreStates (functions query) most bytes partials

-- a member may follow others: it is above the last of them
abbrev pub IsNext : {K : Type 0} → (K → K → Ordering) → List K → K → Type 0
IsNext order before next = IfSome (slice_get before (length before - 1)) (λ last. order last next ≡ Less)

-- a group behind others
unfoldable pub group : Query → ℕ → List Entry → Reader Entry
group query most before =
    sized >>= λ key.
    must (IsPacking (key_kinds query) key) BadPacked
    (must (IsNext (slice_cmp nat_cmp) (packed_keys before) key) NotCanonical
    (taken (states_width query) >>= λ states.
    must (AreStateBytes query most states) BadState
    (done (key, states))))

-- a packed row
unfoldable pub row : List Kind → List (List ℕ) → Reader (List ℕ)
row kinds before = sized >>= λ packed. must (IsPacking kinds packed) BadPacked (done packed)

-- a number may be that of an early batch behind a prefix and behind other early batches
abbrev pub MayFollow : ℕ → List (ℕ × List (List ℕ)) → ℕ → Type 0
MayFollow prefix before n = (prefix + 1 < n) × IsNext nat_cmp (map (λ (batch : ℕ × List (List ℕ)). batch.0) before) n

-- an early batch behind others
unfoldable pub batch : Version → List Kind → ℕ → List (ℕ × List (List ℕ)) → Reader (ℕ × List (List ℕ))
batch version kinds prefix before =
    number_within 4 (last_number version) >>= λ n.
    must (MayFollow prefix before n) NotCanonical
    (number_within 4 (most_batch_rows version) >>= λ rows.
    each (row kinds) rows [] >>= λ packed.
    done (n, packed))

-- the early batches behind a prefix, which are there where the prefix is 0
unfoldable pub batches : Version → List Kind → ℕ → Reader (List (ℕ × List (List ℕ)))
batches version kinds prefix =
    number 4 >>= λ count.
    must ((0 < prefix) ⊎ (0 < count)) NotCanonical
    (each (batch version kinds prefix) count [])

-- the groups of a prefix, and the early batches behind it
unfoldable pub contents : Version → Checked → ℕ → Reader Part
contents version query prefix =
    number_within 8 (prefix * most_batch_rows version) >>= λ groups.
    each (group (meaning query) (prefix * most_batch_rows version)) groups [] >>= λ run.
    batches version (kinds query.columns) prefix >>= λ early.
    done (record { prefix = prefix; run = run; early = early })

-- what is held of an origin behind others
unfoldable pub part : Version → Checked → Parts → Reader (ℕ × Part)
part version query before =
    number_within 2 LAST_ORIGIN >>= λ origin.
    must (IsNext nat_cmp (map (λ (held : ℕ × Part). held.0) before) origin) NotCanonical
    (number_within 4 (last_number version) >>= λ prefix.
    contents version query prefix >>= λ held.
    done (origin, held))

-- the columns that a text says
abbrev pub columns_in : List ℕ → Reader (List Column)
columns_in text bytes (Ok found) = IsSchemaText text found.0 × (found.1 ≡ bytes)
columns_in text bytes (Err e) = ((columns : List Column) → ¬ (IsSchemaText text columns)) × (e ≡ BadSchema)

-- the query that a text says over columns
abbrev pub query_in : List Column → List ℕ → Reader Checked
query_in columns text bytes (Ok found) = Accepts columns text found.0 × (found.1 ≡ bytes)
query_in columns text bytes (Err e) = (why : ParseError) × Refuses columns text why × (e ≡ fault.Query why)

-- a text behind its length
unfoldable pub text : Reader (List ℕ)
text = sized >>= λ bytes. must (IsUtf8 bytes) NotCanonical (done bytes)

-- a schema's canonical text
unfoldable pub schema : Reader (List Column)
schema = text >>= λ bytes. columns_in bytes >>= λ columns. must (printed columns ≡ bytes) NotCanonical (done columns)

-- a query's canonical text
unfoldable pub query : List Column → Reader Checked
query columns = text >>= λ bytes. query_in columns bytes >>= λ found. must (spelling (by_names found) ≡ bytes) NotCanonical (done found)

-- bytes are cut short within what a file of some version begins with
abbrev pub IsCutShort : List ℕ → Type 0
IsCutShort bytes = (version : Version) × (more : List ℕ) × (more ≢ []) × (opening version ≡ bytes ++ more)

-- what a file begins with, which tells its version
unfoldable pub opened : Reader Version
opened bytes (Ok found) = bytes ≡ opening found.0 ++ found.1
opened bytes (Err Truncated) = IsCutShort bytes
opened bytes (Err NotASummary) = ((version : Version) (rest : List ℕ) → bytes ≢ opening version ++ rest) × (¬ (IsCutShort bytes))
opened bytes (Err e) = ⊥

-- nothing follows
abbrev pub ended : Reader (Unit {0})
ended bytes (Ok found) = (bytes ≡ []) × (found.1 ≡ [])
ended bytes (Err e) = (bytes ≢ []) × (e ≡ Trailing)

-- what is held of all origins
unfoldable pub parts : Version → Checked → Reader Parts
parts version found = number_within 2 (LAST_ORIGIN + 1) >>= λ origins. each (part version found) origins []

-- the schema and the query
unfoldable pub heading : Reader Checked
heading = schema >>= λ columns. query columns

-- what is held of all origins, and nothing behind it
unfoldable pub rest : Version → Checked → Reader Parts
rest version found = parts version found >>= λ held. ended >>= λ _. done held

-- what stands behind the opening of a file
unfoldable pub body : Version → Reader (Checked × Parts)
body version = heading >>= λ found. rest version found >>= λ held. done (found, held)

-- a whole file
unfoldable pub summary : Reader (Checked × Parts)
summary = opened >>= λ version. body version

-- bytes are a summary file of a version, of a query and parts
abbrev pub IsSummaryIn : Version → List ℕ → Checked → Parts → Type 0
IsSummaryIn version bytes query parts = (behind : List ℕ) × opened bytes (Ok (version, behind))
    × body version behind (Ok ((query, parts), []))

-- they are one of some version, as files are read: what `summary` reads without a fault, to the end
abbrev pub IsSummary : List ℕ → Checked → Parts → Type 0
IsSummary bytes query parts = (version : Version) × IsSummaryIn version bytes query parts

-- they are one of the second version, as files are written
abbrev pub IsSaved : List ℕ → Checked → Parts → Type 0
IsSaved = IsSummaryIn Second

-- bytes are none, by their first fault
abbrev pub HasFault : List ℕ → SummaryError → Type 0
HasFault bytes e = summary bytes (Err e)
