use Rattle.std.proofs.Common.{◌≡◌, ◌<◌, ◌≤◌, ◌∙◌, ℕ, List, ap, arith, flat_map, length, map, subst, sym, take}
use Rattle.std.specs.Prelude.{All}
use Rattle.std.proofs.KnownBytes.{Appends-trans}
use Rattle.std.proofs.lemmas.List.{take_all}
use Rattle.std.proofs.lemmas.List.Folds.{flat_map-map}
use Rattle.csv.specs.Records.{fields_of}
use Rattle.csv.specs.Writing.{default_writer, row_text}
use Rattle.grouping_model.specs.declared.limits.TheConstants.{MAX_ROWS}
use Rattle.script_io.specs.Records.{Record}
use Rattle.plain_batches.proofs.PlainLaws.{all_more, lines_more, next_row, no_row}
use Rattle.plain_batches.specs.Columns.{arranged}
use Rattle.script_io.specs.LineWriter.{Writes, written}
use Rattle.plain_batches.proofs.rows.put_rows.Goals as goal

-- the lines of all rows are those of the first ones, where no more are left
all_lines : (null places : List ℕ) (all : List Record) (n : ℕ) → length all ≤ n
    → flat_map (λ fields. row_text default_writer (arranged null places fields)) (take n all)
    ≡ flat_map (row_text default_writer) (map (arranged null places) all)
all_lines null places all n most =
    ap (λ (rows : List Record). flat_map (λ fields. row_text default_writer (arranged null places fields)) rows) (take_all n all most)
    ∙ sym (flat_map-map (row_text default_writer) (arranged null places) all)

pub returns-then-not-branch-clause-lines : goal.returns-then-not-branch-clause-lines
returns-then-not-branch-clause-lines c =
    let next = rw c.if-not-branch.true at c.in_ok-read.ensures in
    let all = c.args.records.now in
    let most = no_row all c.loop-row.row (sym c.loop-row.invariant.left ∙ next.0) in
    subst (Writes c.args.writer.now c.loop-row.writer) (all_lines c.args.null.now c.args.places.now all c.loop-row.row most)
    c.loop-row.invariant.lines

pub returns-then-not-branch-clause-rows : goal.returns-then-not-branch-clause-rows
returns-then-not-branch-clause-rows c =
    let next = rw c.if-not-branch.true at c.in_ok-read.ensures in
    let most = no_row c.args.records.now c.loop-row.row (sym c.loop-row.invariant.left ∙ next.0) in
    omega (arith, most, c.loop-row.invariant.within)

pub returns-then-not-branch-clause-few : goal.returns-then-not-branch-clause-few
returns-then-not-branch-clause-few c =
    let next = rw c.if-not-branch.true at c.in_ok-read.ensures in
    let most = no_row c.args.records.now c.loop-row.row (sym c.loop-row.invariant.left ∙ next.0) in
    omega (arith, most, c.loop-row-test.true)

pub returns-then-not-branch-clause-widths : goal.returns-then-not-branch-clause-widths
returns-then-not-branch-clause-widths c =
    let next = rw c.if-not-branch.true at c.in_ok-read.ensures in
    let all = c.args.records.now in
    let most = no_row all c.loop-row.row (sym c.loop-row.invariant.left ∙ next.0) in
    subst (λ (rows : List Record). All (λ fields. length fields ≡ c.args.width) rows) (take_all c.loop-row.row all most)
    c.loop-row.invariant.widths

pub loop-row-preserved : goal.loop-row-preserved
loop-row-preserved c =
    let inv = c.loop-row.invariant in
    let all = c.args.records.now in
    let n = c.loop-row.row in
    let fields = fields_of c.read.new.into in
    let next = rw c.if-not-branch.false at c.in_ok-read.ensures in
    let item = next_row all c.read.new.self n fields (sym inv.left ∙ next) in
    let wide : length fields ≡ c.args.width = sym c.len.ensures ∙ c.if-len-width.false in
    let line = λ (row : Record). row_text default_writer (arranged c.args.null.now c.args.places.now row) in
    let wrote = subst (λ (row : Record). Writes c.loop-row.writer c.put_line.new.writer (row_text default_writer row))
    c.in_ok-arrange.ensures
    c.in_ok-put_line.ensures.line in
    let both = Appends-trans (written c.args.writer.now) (written c.loop-row.writer) (written c.put_line.new.writer)
    (flat_map line (take n all)) (line fields) inv.lines wrote in
    record {
      left = sym item.2;
      within = omega (arith, item.0);
      widths = all_more (λ row. length row ≡ c.args.width) all n fields item.0 item.1 inv.widths wide;
      between = c.in_ok-put_line.ensures.between;
      lines = subst (Writes c.args.writer.now c.put_line.new.writer) (lines_more line all n fields item.0 item.1) both;
    }

pub returns-then-branch-clause-refused : goal.returns-then-branch-clause-refused
returns-then-branch-clause-refused c =
    let inv = c.loop-row.invariant in
    let all = c.args.records.now in
    let next = rw c.if-branch.true at c.in_ok-read-2.ensures in
    let last : c.loop-row.row ≡ MAX_ROWS = omega arith in
    let item = next_row all _ c.loop-row.row _ (sym inv.left ∙ next) in (
      subst (λ (n : ℕ). n < length all) last item.0,
      subst (λ (n : ℕ). All (λ fields. length fields ≡ c.args.width) (take n all)) last inv.widths,
    )

pub returns-clause-lines : goal.returns-clause-lines
returns-clause-lines c =
    let next = rw c.if-branch.false at c.in_ok-read-2.ensures in
    let all = c.args.records.now in
    let most = no_row all c.loop-row.row (sym c.loop-row.invariant.left ∙ next.0) in
    subst (Writes c.args.writer.now c.loop-row.writer) (all_lines c.args.null.now c.args.places.now all c.loop-row.row most)
    c.loop-row.invariant.lines

pub returns-clause-rows : goal.returns-clause-rows
returns-clause-rows c =
    let next = rw c.if-branch.false at c.in_ok-read-2.ensures in
    let most = no_row c.args.records.now c.loop-row.row (sym c.loop-row.invariant.left ∙ next.0) in
    let last : c.loop-row.row ≡ MAX_ROWS = omega arith in
    omega (arith, most, last, c.loop-row.invariant.within)

pub returns-clause-few : goal.returns-clause-few
returns-clause-few c =
    let next = rw c.if-branch.false at c.in_ok-read-2.ensures in
    let most = no_row c.args.records.now c.loop-row.row (sym c.loop-row.invariant.left ∙ next.0) in
    let last : c.loop-row.row ≡ MAX_ROWS = omega arith in
    omega (arith, most, last)

pub returns-clause-widths : goal.returns-clause-widths
returns-clause-widths c =
    let next = rw c.if-branch.false at c.in_ok-read-2.ensures in
    let all = c.args.records.now in
    let most = no_row all c.loop-row.row (sym c.loop-row.invariant.left ∙ next.0) in
    subst (λ (rows : List Record). All (λ fields. length fields ≡ c.args.width) rows) (take_all c.loop-row.row all most)
    c.loop-row.invariant.widths
