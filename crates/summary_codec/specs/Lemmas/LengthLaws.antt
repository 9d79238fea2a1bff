-- How long the fields of a file are.
use Rattle.std.proofs.Common.{◌≡◌, ℕ, ◌+◌, ◌*◌, ◌^◌, ◌<◌, ◌≤◌, List, [], ◌∷◌, ◌++◌, map, length, slice_index_or, sym, subst, arith}
use Rattle.std.proofs.lemmas.List.{length-append, length-map}
use Rattle.std.proofs.lemmas.List.Elements.{recursion_from_All}
use Rattle.std.specs.Prelude.{codes}
use Rattle.std.specs.List.{AllByRecursion}
use Rattle.std.specs.List.Sorted.{IsStrictlySortedBy}
use Rattle.std.specs.Ordering.{nat_cmp}
use Rattle.std.specs.declared.cmp.Ordering.TheVariants.{Less}
use Rattle.summary_codec.specs.Lemmas.Words.{each_weaker, Datum, Kind, Row, HasKind, HasKinds, Null, Bigint, Boolean, Text, Bigint_kind}
use Rattle.summary_codec.specs.Lemmas.Words.{Boolean_kind, Text_kind, Group, Query, LAST_NUMBER, LAST_ORIGIN, MAX_ROWS, MAX_COLUMNS, Column}
use Rattle.summary_codec.specs.Lemmas.Words.{kinds, names, printed, column_text, kind_text, AreColumns, IsColumnName, packing}
use Rattle.summary_codec.specs.Lemmas.Words.{value_packing, packings, IsCheckedQuery, key_kinds, Checked, meaning, Entry, AreGroups, Part}
use Rattle.summary_codec.specs.Lemmas.Words.{IsEarly, IsPartOf, Parts, IsHeldPart, AreHeldParts}
use Rattle.summary_codec.specs.Short.{IsShort, HaveShortKeys, IsShortBatch, IsShortPart}

-- ---- packed values and rows

short_value : (kind : Kind) (d : Datum) → HasKind kind d → length (value_packing d) ≤ 257
short_value kind Null has = omega arith
short_value Bigint_kind (Bigint z) has = omega arith
short_value Boolean_kind (Boolean b) has = omega arith
short_value Text_kind (Text text) has = let low = has.1 in let both = length-append text (0 ∷ []) in omega (arith, low, both)
short_value Bigint_kind (Boolean b) has = absurd has
short_value Bigint_kind (Text text) has = absurd has
short_value Boolean_kind (Bigint z) has = absurd has
short_value Boolean_kind (Text text) has = absurd has
short_value Text_kind (Bigint z) has = absurd has
short_value Text_kind (Boolean b) has = absurd has

short_values : (kinds : List Kind) (row : Row) → HasKinds kinds row → length (packing row) ≤ 257 * length kinds
short_values [] [] has = omega arith
short_values [] (d ∷ row) has = absurd has
short_values (k ∷ ks) [] has = absurd has
short_values (k ∷ ks) (d ∷ row) has =
    let one = short_value k d has.0 in
    let more = short_values ks row has.1 in
    let both = length-append (value_packing d) (packing row) in
    omega (arith, one, more, both)

pub short_packing : (kinds : List Kind) (row : Row) → length kinds ≤ MAX_COLUMNS → HasKinds kinds row → IsShort (packing row)
short_packing kinds row few has = let all = short_values kinds row has in omega (arith, few, all)

-- ---- groups

short_keys : (q : Query) (most : ℕ) (run : List Entry) (groups : List Group) → length (key_kinds q) ≤ MAX_COLUMNS
    → AreGroups q most run groups → HaveShortKeys run
short_keys q most [] groups few are = tt
short_keys q most (e ∷ run) [] few are = absurd are
short_keys q most (e ∷ run) (g ∷ groups) few are =
    (subst IsShort (sym are.0.key) (short_packing (key_kinds q) g.0 few are.0.of_kinds), short_keys q most run groups few are.1)

pub few_key_kinds : (q : Checked) → IsCheckedQuery q → length (key_kinds (meaning q)) ≤ MAX_COLUMNS
few_key_kinds q is =
    let few = is.well_formed.few_keys in
    let same = length-map (meaning q).keys (λ place. slice_index_or (meaning q).kinds place Bigint_kind) in
    omega (arith, few, same)

-- ---- early batches

short_rows : (kinds : List Kind) (rows : List Row) → length kinds ≤ MAX_COLUMNS → AllByRecursion (HasKinds kinds) rows
    → AllByRecursion IsShort (packings rows)
short_rows kinds [] few has = tt
short_rows kinds (row ∷ rows) few has = (short_packing kinds row few has.0, short_rows kinds rows few has.1)

short_batch : (kinds : List Kind) (prefix : ℕ) (batch : ℕ × List (List ℕ)) → length kinds ≤ MAX_COLUMNS → IsEarly kinds prefix batch
    → IsShortBatch batch
short_batch kinds prefix batch few is =
    let low = is.rows.few in (
      omega (arith, low),
      subst (AllByRecursion IsShort) (sym is.rows.packings_are)
          (short_rows kinds is.rows.rows few (recursion_from_All (HasKinds kinds) is.rows.rows is.rows.of_kinds)),
    )

short_batches : (kinds : List Kind) (prefix : ℕ) (early : List (ℕ × List (List ℕ))) → length kinds ≤ MAX_COLUMNS
    → AllByRecursion (IsEarly kinds prefix) early → AllByRecursion IsShortBatch early
short_batches kinds prefix [] few all = tt
short_batches kinds prefix (batch ∷ early) few all = (short_batch kinds prefix batch few all.0, short_batches kinds prefix early few all.1)

-- ---- numbers that rise are few

few_rising : {X : Type 0} (low high : ℕ) (es : List (ℕ × X)) → IsStrictlySortedBy nat_cmp (map (λ (e : ℕ × X). e.0) es)
    → AllByRecursion (λ (e : ℕ × X). low ≤ e.0) es → AllByRecursion (λ (e : ℕ × X). e.0 ≤ high) es → low ≤ high + 1
    → length es + low ≤ high + 1
unfolding IsStrictlySortedBy
few_rising low high [] rising above within most = omega (arith, most)
few_rising {X} low high (e ∷ es) rising above within most =
    let first = above.0 in
    let last = within.0 in
    let more = few_rising (e.0 + 1) high es rising.1 (behind es rising.0) within.1 (omega (arith, last)) in
    omega (arith, first, more)
  where
    less : (m : ℕ) → nat_cmp e.0 m ≡ Less → e.0 + 1 ≤ m
    less m is = let low : e.0 < m = grind arith in omega (arith, low)

    behind : (fs : List (ℕ × X)) → AllByRecursion (λ m. nat_cmp e.0 m ≡ Less) (map (λ (f : ℕ × X). f.0) fs)
        → AllByRecursion (λ (f : ℕ × X). e.0 + 1 ≤ f.0) fs
    behind [] all = tt
    behind (f ∷ fs) all = (less f.0 all.0, behind fs all.1)

none_below : {X : Type 0} (xs : List (ℕ × X)) → AllByRecursion (λ (e : ℕ × X). 0 ≤ e.0) xs
none_below [] = tt
none_below (e ∷ xs) = (omega arith, none_below xs)

-- ---- parts

from_one : (prefix n : ℕ) → prefix + 1 < n → 1 ≤ n
from_one prefix n behind = omega (arith, behind)

pub short_part : (q : Checked) (part : Part) → IsCheckedQuery q → IsPartOf q part → IsShortPart part
short_part q part is of_query =
    let within = of_query.within in
    let few = of_query.few in
    let columns = is.columns_are.most in
    let same = length-map q.columns (λ (c : Column). c.kind) in
    let some = each_weaker (IsEarly (kinds q.columns) part.prefix) (λ (b : ℕ × List (List ℕ)). 1 ≤ b.0)
    (λ b e. from_one part.prefix b.0 e.behind) part.early of_query.early in
    let early = few_rising 1 LAST_NUMBER part.early of_query.rising some (each_weaker (IsEarly (kinds q.columns) part.prefix)
    (λ (b : ℕ × List (List ℕ)). b.0 ≤ LAST_NUMBER) (λ b e. e.within) part.early of_query.early) (omega arith) in
    record {
      few_groups = omega (arith, within, few);
      groups = short_keys (meaning q) (part.prefix * MAX_ROWS) part.run of_query.run.groups (few_key_kinds q is) of_query.run.are;
      few_batches = omega (arith, early);
      batches = short_batches (kinds q.columns) part.prefix part.early (omega (arith, columns, same)) of_query.early;
    }

pub short_parts : (q : Checked) (parts : Parts) → IsCheckedQuery q → AreHeldParts q parts
    → AllByRecursion (λ (held : ℕ × Part). IsShortPart held.1) parts
short_parts q parts is held = each_weaker (IsHeldPart q) (λ (p : ℕ × Part). IsShortPart p.1) (λ p h. short_part q p.1 is h.part) parts
    held.each

pub few_parts : (q : Checked) (parts : Parts) → AreHeldParts q parts → length parts ≤ LAST_ORIGIN + 1
few_parts q parts held =
    let all = few_rising 0 LAST_ORIGIN parts held.rising (none_below parts)
    (each_weaker (IsHeldPart q) (λ (p : ℕ × Part). p.0 ≤ LAST_ORIGIN) (λ p h. h.within) parts held.each) (omega arith) in
    omega (arith, all)

-- ---- the text of a schema

short_kind : (kind : Kind) → length (kind_text kind) ≤ 7
short_kind Bigint_kind = omega arith
short_kind Boolean_kind = omega arith
short_kind Text_kind = omega arith

short_column : (column : Column) → IsColumnName column.name → length (column_text column) ≤ 71
short_column column named =
    let name : length column.name ≤ 63 = named.legal.within in
    let kind = short_kind column.kind in
    let both = length-append (column.name ++ codes " ") (kind_text column.kind) in
    let more = length-append column.name (codes " ") in
    omega (arith, name, kind, both, more)

short_columns : (columns : List Column) → AllByRecursion IsColumnName (names columns) → length (printed columns) ≤ 73 * length columns
short_columns [] named = omega arith
short_columns (c ∷ []) named = let one = short_column c named.0 in omega (arith, one)
short_columns (c ∷ d ∷ columns) named =
    let one = short_column c named.0 in
    let more = short_columns (d ∷ columns) named.1 in
    let both = length-append (column_text c ++ codes ", ") (printed (d ∷ columns)) in
    let rest = length-append (column_text c) (codes ", ") in
    omega (arith, one, more, both, rest)

pub short_schema : (columns : List Column) → AreColumns columns → length (printed columns) < 256 ^ 2
short_schema columns are =
    let all = short_columns columns are.named in
    let few = are.most in
    omega (arith, all, few)
