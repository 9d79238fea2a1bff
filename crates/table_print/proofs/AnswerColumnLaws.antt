-- The columns of an answer, one more at a time.
use Rattle.std.proofs.Common.{◌≡◌, ◌<◌, ◌≤◌, ◌+◌, ◌==◌, ◌++◌, ◌∙◌, ℕ, List, [], codes, length, take, get_or, ap, sym, arith, min, Some, slice_get}
use Rattle.std.proofs.Common.{append_assoc, if◌then◌else◌}
use Rattle.std.proofs.lemmas.List.{length-map, take_all}
use Rattle.std.proofs.lemmas.Slice.Zip.{get_or-zip, length-zip}
use Rattle.std.proofs.lemmas.Option.{get_or_from_slice_get, slice_get_within}
use Rattle.std.specs.List.{join_by, zip}
use Rattle.packed_rows.specs.Columns.{kinds}
use Rattle.query_checks.specs.Checks.{Checked}
use Rattle.having_filter.specs.Kept.{headers}
use Rattle.table_print.proofs.AlignedLaws.{length-headers, longer_line}
use Rattle.table_print.specs.AnswerColumns.{answer_column, answer_columns, item_type, item_types}

-- a query has a type for each item
pub length-item_types : (q : Checked) → length (item_types q) ≡ length q.written.items
length-item_types q = length-map q.written.items (λ item. item_type (kinds q.columns) item.0)

-- as many columns as items
length-columns : (q : Checked) → length (zip (headers q) (item_types q)) ≡ min (length (headers q)) (length (item_types q))
length-columns q = length-zip (headers q) (item_types q)

-- a text that is one column longer
pub longer_columns : (q : Checked) (n : ℕ) (name type_name line new : List ℕ) → slice_get (headers q) n ≡ Some name
    → slice_get (item_types q) n ≡ Some type_name
    → line ≡ join_by answer_column (codes ", ") (take n (zip (headers q) (item_types q)))
    → new ≡ line ++ (if n == 0 then [] else codes ", ") ++ answer_column (name, type_name)
    → new ≡ join_by answer_column (codes ", ") (take (n + 1) (zip (headers q) (item_types q)))
longer_columns q n name type_name line new named typed is more =
    let first : n < length (headers q) = slice_get_within (headers q) n name named in
    let second : n < length (item_types q) = slice_get_within (item_types q) n type_name typed in
    let columns = zip (headers q) (item_types q) in
    let here : get_or columns n ([], []) ≡ (name, type_name)
    = get_or-zip (headers q) (item_types q) n ([], []) first second
    ∙ ap (λ (x : List ℕ). (x, get_or (item_types q) n [])) (get_or_from_slice_get (headers q) n name [] named)
    ∙ ap (λ (x : List ℕ). (name, x)) (get_or_from_slice_get (item_types q) n type_name [] typed) in
    let there : n < length columns = omega (arith, length-columns q, first, second) in
    longer_line answer_column (codes ", ") columns n ([], []) [] line new there is
    (more ∙ ap (λ (column : List ℕ × List ℕ). line ++ (if n == 0 then [] else codes ", ") ++ answer_column column) (sym here))

-- a text of all columns
pub whole_columns : (q : Checked) (n : ℕ) (line : List ℕ) → length q.written.items ≤ n
    → line ≡ join_by answer_column (codes ", ") (take n (zip (headers q) (item_types q))) → line ≡ answer_columns q
whole_columns q n line all is =
    let every : length (zip (headers q) (item_types q)) ≤ n = omega (arith, length-columns q, length-headers q, all) in
    is ∙ ap (join_by answer_column (codes ", ")) (take_all n (zip (headers q) (item_types q)) every)
