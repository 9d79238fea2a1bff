-- Characters, cells and lines, one more at a time.
use Rattle.std.proofs.Common.{◌≡◌, ◌<◌, ◌≤◌, ◌+◌, ◌==◌, ℕ, zero, suc, List, [], ◌∷◌, ◌++◌, codes, length, map, flat_map, take, max, get_or}
use Rattle.std.proofs.Common.{Some, false, slice_get, append-nil, append_assoc, ap, sym, refl, arith, ◌∙◌, add-one, if◌then◌else◌}
use Rattle.std.proofs.lemmas.Grind.{flat_map-append, fold-append}
use Rattle.std.proofs.lemmas.List.{get_or-map, length-map, map-append, length-take-le, take_all, take_more}
use Rattle.std.proofs.lemmas.Slice.Zip.{get_or-zip, length-zip}
use Rattle.std.proofs.lemmas.Option.{get_or_from_slice_get, slice_get-get_or, slice_get_within}
use Rattle.std.specs.Fmt.{char_count, is_char_start}
use Rattle.std.specs.Prelude.{Option, option_map, String, string_bytes}
use Rattle.std.specs.declared.alloc.Global.{Global}
use Rattle.std.proofs.lemmas.List.FromFn.{get_or-enumerate_from, length-enumerate_from}
use Rattle.std.specs.List.{enumerate_from, join_by, zip}
use Rattle.grouping_model.specs.Aggregates.{Outcome, Plain}
use Rattle.grouping_model.specs.Datum.{Null}
use Rattle.packed_rows.specs.Columns.{kinds}
use Rattle.query_checks.specs.Checks.{kind_of_form, Checked}
use Rattle.query_checks.specs.Forms.{Form, item_form, map_form, places_of}
use Rattle.query_checks.specs.declared.condition.Item.{Item}
use Rattle.having_filter.specs.Kept.{by_names, headers, label_of, name_at}
use Rattle.query_checks.specs.Calls.{distinct_calls}
use Rattle.having_filter.specs.Meaning.{meaning, source_of_form}
use Rattle.table_print.specs.Table.{cell_text}
use Rattle.table_print.specs.Aligned.{aligned_line, column_cells, columns_of, header_cells, longest, padded, row_cells, shown, side_of}
use Rattle.table_print.specs.Aligned.{sides}
use Rattle.table_print.specs.declared.aligned_table.Column.{Column}
use Rattle.table_print.specs.declared.aligned_table.Side.{Side}
use Rattle.table_print.specs.declared.aligned_table.Side.TheVariants.{Left}

-- the characters of a text that is one byte longer
more_char : (text : List ℕ) (i : ℕ) → i < length text
    → char_count (take (suc i) text) ≡ char_count (take i text) + (if is_char_start (get_or text i 0) then 1 else 0)
unfolding char_count
more_char [] i h = absurd (omega arith)
more_char (b ∷ text) zero h = omega arith
more_char (b ∷ text) (suc i) h = let rest = more_char text i (omega arith) in omega (arith, rest)

pub one_more_char : (text : List ℕ) (i : ℕ) → i < length text
    → char_count (take (i + 1) text) ≡ char_count (take i text) + (if is_char_start (get_or text i 0) then 1 else 0)
one_more_char text i h = rw (add-one i) (more_char text i h)

-- no byte is no character
pub no_char : char_count [] ≡ 0
unfolding char_count
no_char = refl

-- the first pieces, joined, and one more
join_push : {A : Type 0} (f : A → List ℕ) (separator : List ℕ) (xs : List A) (x : A)
    → join_by f separator (xs ++ x ∷ []) ≡ join_by f separator xs ++ ((if length xs == 0 then [] else separator) ++ f x)
join_push f separator [] x = append-nil (f x)
join_push f separator (y ∷ ys) x =
    let some : (length (y ∷ ys) == 0) ≡ false = grind arith in
    rw some (ap (λ l. f y ++ l) (flat_map-append (λ z. separator ++ f z) ys (x ∷ [])
    ∙ ap (λ l. flat_map (λ z. separator ++ f z) ys ++ l) (append-nil (separator ++ f x)))
    ∙ sym (append_assoc (f y) (flat_map (λ z. separator ++ f z) ys) (separator ++ f x)))

one_more_piece : {A : Type 0} (f : A → List ℕ) (separator : List ℕ) (xs : List A) (n : ℕ) (d : A) → n < length xs
    → join_by f separator (take (n + 1) xs) ≡ join_by f separator (take n xs) ++ ((if n == 0 then [] else separator) ++ f (get_or xs n d))
one_more_piece f separator xs n d h =
    let before : length (take n xs) ≡ n = length-take-le n xs (omega arith) in
    ap (join_by f separator) (take_more xs n d h) ∙ join_push f separator (take n xs) (get_or xs n d)
    ∙ ap (λ k. join_by f separator (take n xs) ++ ((if k == 0 then [] else separator) ++ f (get_or xs n d))) before

-- a line that is one piece longer
pub longer_line : {A : Type 0} (f : A → List ℕ) (separator : List ℕ) (xs : List A) (n : ℕ) (d : A) (old line new : List ℕ) → n < length xs
    → line ≡ old ++ join_by f separator (take n xs) → new ≡ line ++ (if n == 0 then [] else separator) ++ f (get_or xs n d)
    → new ≡ old ++ join_by f separator (take (n + 1) xs)
longer_line f separator xs n d old line new within is more =
    let piece = (if n == 0 then [] else separator) ++ f (get_or xs n d) in
    more ∙ append_assoc line (if n == 0 then [] else separator) (f (get_or xs n d)) ∙ ap (λ l. l ++ piece) is
    ∙ append_assoc old (join_by f separator (take n xs)) piece
    ∙ ap (λ l. old ++ l) (sym (one_more_piece f separator xs n d within))

-- a line of all its pieces
pub whole_line : {A : Type 0} (f : A → List ℕ) (separator : List ℕ) (xs : List A) (n : ℕ) (old line new : List ℕ) → length xs ≤ n
    → line ≡ old ++ join_by f separator (take n xs) → new ≡ line ++ codes "\n" → new ≡ old ++ (join_by f separator xs ++ codes "\n")
whole_line f separator xs n old line new all is ends =
    ends ∙ ap (λ l. l ++ codes "\n") (is ∙ ap (λ ys. old ++ join_by f separator ys) (take_all n xs all))
    ∙ append_assoc old (join_by f separator xs) (codes "\n")

-- what a column is where there is none
abbrev pub no_column : Column
no_column = record { side = Left; width = 0 }

-- the cells of a line in their columns, joined
abbrev pub joined_cells : List (Column × List ℕ) → List ℕ
joined_cells pairs = join_by (λ pair. padded pair.0 pair.1) (codes " | ") pairs

-- a line that is one cell longer
pub longer_row : (columns : List Column) (cells : List (List ℕ)) (n : ℕ) (cell old line new : List ℕ) → n < length columns → length columns
    ≡ length cells
    → get_or cells n [] ≡ cell → line ≡ old ++ joined_cells (take n (zip columns cells))
    → new ≡ line ++ (if n == 0 then [] else codes " | ") ++ padded (get_or columns n no_column) cell → new ≡ old
    ++ joined_cells (take (n + 1) (zip columns cells))
longer_row columns cells n cell old line new within same here is more =
    let beside : get_or (zip columns cells) n (no_column, []) ≡ (get_or columns n no_column, cell)
    = get_or-zip columns cells n (no_column, []) within (omega arith) ∙ ap (λ c. (get_or columns n no_column, c)) here in
    let there : n < length (zip columns cells) = omega (arith, length-zip columns cells) in
    longer_line (λ (pair : Column × List ℕ). padded pair.0 pair.1) (codes " | ") (zip columns cells) n (no_column, []) old line new there is
    (more ∙ ap (λ (pair : Column × List ℕ). line ++ (if n == 0 then [] else codes " | ") ++ padded pair.0 pair.1) (sym beside))

-- a line of all its cells
pub whole_row : (columns : List Column) (cells : List (List ℕ)) (n : ℕ) (old line new : List ℕ) → length columns ≤ n
    → line ≡ old ++ joined_cells (take n (zip columns cells)) → new ≡ line ++ codes "\n" → new ≡ old ++ aligned_line columns cells
whole_row columns cells n old line new all is ends =
    let every : length (zip columns cells) ≤ n = omega (arith, length-zip columns cells) in
    whole_line (λ (pair : Column × List ℕ). padded pair.0 pair.1) (codes " | ") (zip columns cells) n old line new every is ends

-- the longest of one cell more
longer_cells : (cells : List (List ℕ)) (cell : List ℕ) → longest (cells ++ cell ∷ []) ≡ max (longest cells) (char_count cell)
longer_cells cells cell = fold-append (λ width c. max width (char_count c)) 0 cells (cell ∷ [])

-- the item of a row as it stands in a table
pub cell_at : (row : List Outcome) (n : ℕ) (x : Outcome) → slice_get row n ≡ Some x → get_or (row_cells row) n [] ≡ shown (cell_text x)
cell_at row n x h =
    get_or-map (λ value. shown (cell_text value)) row n (Plain Null) [] (slice_get_within row n x h)
    ∙ ap (λ value. shown (cell_text value)) (get_or_from_slice_get row n x (Plain Null) h)

-- the header of a column as it stands in a table
pub header_at : (headers : List (List ℕ)) (n : ℕ) (header : List ℕ) → slice_get headers n ≡ Some header → get_or (header_cells headers) n []
    ≡ shown header
header_at headers n header h = get_or-map shown headers n [] [] (slice_get_within headers n header h)
    ∙ ap shown (get_or_from_slice_get headers n header [] h)

-- the longest cell of a column that is one row longer
pub longer_column : (header : List ℕ) (answer : List (List Outcome)) (n item : ℕ) (x : Outcome) → n < length answer
    → slice_get (get_or answer n []) item ≡ Some x
    → longest (header ∷ column_cells (map row_cells (take (n + 1) answer)) item)
    ≡ max (longest (header ∷ column_cells (map row_cells (take n answer)) item)) (char_count (shown (cell_text x)))
longer_column header answer n item x within there =
    let row = get_or answer n [] in
    let cells = column_cells (map row_cells (take n answer)) item in
    let more : column_cells (map row_cells (take (n + 1) answer)) item ≡ cells ++ get_or (row_cells row) item [] ∷ []
    = ap (λ rows. column_cells (map row_cells rows) item) (take_more answer n [] within)
    ∙ ap (λ lines. column_cells lines item) (map-append row_cells (take n answer) (row ∷ []))
    ∙ map-append (λ line. get_or line item []) (map row_cells (take n answer)) (row_cells row ∷ []) in
    ap (λ l. longest (header ∷ l)) more ∙ longer_cells (header ∷ cells) (get_or (row_cells row) item [])
    ∙ ap (λ cell. max (longest (header ∷ cells)) (char_count cell)) (cell_at row item x there)

-- as many columns as sides
pub length-columns_of : (ss : List Side) (lines : List (List (List ℕ))) → length (columns_of ss lines) ≡ length ss
length-columns_of ss lines =
    length-map (enumerate_from 0 ss) (λ side. record { side = side.1; width = longest (column_cells lines side.0) })
    ∙ length-enumerate_from 0 ss

-- the columns of a table, and one more
pub one_more_column : (ss : List Side) (names : List (List ℕ)) (rows : List (List (List ℕ))) (n : ℕ) (side : Side) (header : List ℕ)
    → slice_get ss n ≡ Some side → slice_get names n ≡ Some header
    → take (n + 1) (columns_of ss (header_cells names ∷ rows))
    ≡ take n (columns_of ss (header_cells names ∷ rows)) ++ record { side = side; width = longest (shown header ∷ column_cells rows n) }
    ∷ []
one_more_column ss names rows n side header at named =
    let lines = header_cells names ∷ rows in
    let within : n < length ss = slice_get_within ss n side at in
    let numbered : n < length (enumerate_from 0 ss) = omega (arith, length-enumerate_from 0 ss) in
    let listed : n < length (columns_of ss lines) = omega (arith, length-columns_of ss lines) in
    let from : 0 + n ≡ n = omega arith in
    let here : get_or (enumerate_from 0 ss) n (0, Left) ≡ (n, side)
    = get_or-enumerate_from 0 ss n (0, Left) within ∙ ap (λ k. (k, get_or ss n Left)) from
    ∙ ap (λ s. (n, s)) (get_or_from_slice_get ss n side Left at) in
    let column : get_or (columns_of ss lines) n no_column ≡ record { side = side; width = longest (shown header ∷ column_cells rows n) }
    = get_or-map (λ side. record { side = side.1; width = longest (column_cells lines side.0) }) (enumerate_from 0 ss) n (0, Left) no_column
    numbered
    ∙ ap (λ (s : ℕ × Side). record { side = s.1; width = longest (column_cells lines s.0) }) here
    ∙ ap (λ cell. record { side = side; width = longest (cell ∷ column_cells rows n) }) (header_at names n header named) in
    take_more (columns_of ss lines) n no_column listed ∙ ap (λ c. take n (columns_of ss lines) ++ c ∷ []) column

-- a query has a side, a header and a source for each item
pub length-sides : (q : Checked) → length (sides q) ≡ length q.written.items
length-sides q = length-map q.written.items (λ item. side_of (kind_of_form (kinds q.columns) item.0))

pub length-headers : (q : Checked) → length (headers q) ≡ length q.written.items
length-headers q = length-map (by_names q).written.items label_of
    ∙ length-map q.written.items (λ item. (map_form (name_at q.columns) item.0, item.1))

pub length-items : (q : Checked) → length (meaning q).items ≡ length q.written.items
length-items q = length-map q.written.items (λ item. source_of_form q.written.keys (distinct_calls ◌==◌ q.written) item.0)

-- an item, which code names, and its side
abbrev pub CodeItem : Type 0
CodeItem = Item ℕ × Option (String Global)

abbrev pub written_item : CodeItem → Form ℕ × Option (List ℕ)
written_item item = (item_form item.0, option_map string_bytes item.1)

pub length-written : (q : Checked) (items : List CodeItem) → places_of items ≡ q.written.items → length items ≡ length q.written.items
length-written q items places = sym (length-map items written_item) ∙ ap length places

-- what is told of each item, at a place
pub told_at : {A : Type 0} (tell : Form ℕ → A) (q : Checked) (items : List CodeItem) (n : ℕ) (d : CodeItem) (other : A)
    → places_of items ≡ q.written.items → n < length q.written.items
    → slice_get (map (λ (item : Form ℕ × Option (List ℕ)). tell item.0) q.written.items) n ≡ Some (tell (item_form (get_or items n d).0))
told_at tell q items n d other places within =
    let f = λ (item : Form ℕ × Option (List ℕ)). tell item.0 in
    let there : n < length items = omega (arith, length-written q items places) in
    let at : get_or q.written.items n (written_item d) ≡ written_item (get_or items n d)
    = ap (λ (is : List (Form ℕ × Option (List ℕ))). get_or is n (written_item d)) (sym places)
    ∙ get_or-map written_item items n d (written_item d) there in
    slice_get-get_or (map f q.written.items) n other (omega (arith, length-map q.written.items f))
    ∙ ap (λ told. Some told) (get_or-map f q.written.items n (written_item d) other within ∙ ap f at)

pub side_at : (q : Checked) (items : List CodeItem) (n : ℕ) (d : CodeItem) → places_of items ≡ q.written.items → n < length q.written.items
    → slice_get (sides q) n ≡ Some (side_of (kind_of_form (kinds q.columns) (item_form (get_or items n d).0)))
side_at q items n d places within = told_at (λ form. side_of (kind_of_form (kinds q.columns) form)) q items n d Left places within
