use Rattle.std.proofs.Common.{ℕ, List, ◌+◌, ◌<◌, ◌≤◌, ◌∙◌, [], ◌∷◌, ◌++◌, ap, append-nil, flat_map, get_or, length, map, subst, sym, take}
use Rattle.std.proofs.lemmas.List.{take_all}
use Rattle.std.proofs.lemmas.List.Folds.{flat_map-map}
use Rattle.having_filter.specs.Kept.{headers}
use Rattle.table_print.specs.Aligned.{aligned_line, header_cells, row_cells, rule_line, sides, table_of}
use Rattle.table_print.specs.declared.aligned_table.Column.{Column}
use Rattle.grouping_model.specs.Aggregates.{Outcome}
use Rattle.table_print.proofs.AlignedLaws.{length-columns_of, length-headers, length-items, length-sides}
use Rattle.table_print.proofs.RowLaws.{longer_text}
use Rattle.table_print.proofs.aligned_table.print_aligned.Goals as goal

pub columns_of_answer-requires : goal.columns_of_answer-requires
columns_of_answer-requires c = c.requires

pub push_header-requires : goal.push_header-requires
push_header-requires c =
    let q = c.args.query.now in
    let lines = header_cells (headers q) ∷ map row_cells c.args.answer.now in
    ap length (c.deref.ensures.value ∙ c.in_ok-columns.ensures) ∙ length-columns_of (sides q) lines ∙ length-sides q
    ∙ sym (length-headers q)

pub push_row-requires-clause-width : goal.push_row-requires-clause-width
push_row-requires-clause-width c =
    let q = c.args.query.now in
    let lines = header_cells (headers q) ∷ map row_cells c.args.answer.now in
    let within : c.loop-row.row < length c.args.answer.now = subst (λ (n : ℕ). c.loop-row.row < n) c.len-row-end.ensures
    c.loop-row-test.true in
    ap length (c.deref-in-loop-row.ensures.value ∙ c.in_ok-columns.ensures) ∙ length-columns_of (sides q) lines ∙ length-sides q
    ∙ sym (length-items q)
    ∙ sym (c.requires c.loop-row.row [] within)

pub push_row-requires-clause-in_range : goal.push_row-requires-clause-in_range
push_row-requires-clause-in_range c = subst (λ (n : ℕ). c.loop-row.row < n) c.len-row-end.ensures c.loop-row-test.true

pub loop-row-init : goal.loop-row-init
loop-row-init c =
    let columns = c.in_ok-columns.columns.items in
    let header = header_cells (headers c.args.query.now) in
    c.in_ok-push_rule.ensures ∙ ap (λ (cs : List Column). c.push_header.new.out.items ++ rule_line cs) c.deref-2.ensures.value
    ∙ ap (λ (l : List ℕ). l ++ rule_line columns) (c.in_ok-push_header.ensures
    ∙ ap (λ (l : List ℕ). l ++ aligned_line c.deref.result.now header) c.new-text.ensures.items
    ∙ ap (λ (cs : List Column). aligned_line cs header) c.deref.ensures.value)
    ∙ sym (append-nil (aligned_line columns header ++ rule_line columns))

pub loop-row-preserved : goal.loop-row-preserved
loop-row-preserved c =
    let columns = c.in_ok-columns.columns.items in
    let answer = c.args.answer.now in
    let n = c.loop-row.row in
    let head = aligned_line columns (header_cells (headers c.args.query.now)) ++ rule_line columns in
    let within : n < length answer = subst (λ (m : ℕ). n < m) c.len-row-end.ensures c.loop-row-test.true in
    longer_text (λ (row : List Outcome). aligned_line columns (row_cells row)) answer n [] head _ _ within
    (c.loop-row.invariant ∙ ap (λ (l : List ℕ). head ++ l) (flat_map-map (aligned_line columns) row_cells (take n answer)))
    (c.in_ok-push_row.ensures
    ∙ ap (λ (cs : List Column). c.loop-row.text.items ++ aligned_line cs (row_cells (get_or answer n [])))
    c.deref-in-loop-row.ensures.value)
    ∙ ap (λ (l : List ℕ). head ++ l) (sym (flat_map-map (aligned_line columns) row_cells (take (n + 1) answer)))

pub returns : goal.returns
returns c =
    let columns = c.in_ok-columns.columns.items in
    let answer = c.args.answer.now in
    let header = header_cells (headers c.args.query.now) in
    let all : length answer ≤ c.loop-row.row = subst (λ (m : ℕ). m ≤ c.loop-row.row) c.len-row-end.ensures c.loop-row-test.false in
    let head = aligned_line columns header ++ rule_line columns in
    c.loop-row.invariant
    ∙ ap (λ (l : List (List Outcome)). head ++ flat_map (aligned_line columns) (map row_cells l)) (take_all c.loop-row.row answer all)
    ∙ ap (λ (cs : List Column). table_of cs header (map row_cells answer)) c.in_ok-columns.ensures
