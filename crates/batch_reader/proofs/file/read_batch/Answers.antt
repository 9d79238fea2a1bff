use Rattle.std.specs.Prelude.{◌≤◌}
use Rattle.std.proofs.Common.{◌≡◌, Some, sym, ◌∙◌, subst}
use Rattle.std.proofs.lemmas.Result.{err_from_is_err_and}
use Rattle.csv.specs.Records.{fields_of}
use Rattle.grouping_model.specs.declared.limits.TheConstants.{MAX_ROWS}
use Rattle.packed_rows.specs.Columns.{kinds}
use Rattle.batch_reader.specs.File.{read_file}
use Rattle.batch_reader.specs.Views.{head_view}
use Rattle.batch_reader.proofs.FileLaws.{file_of, no_records, no_head, head_refused, rows_refused}
use Rattle.batch_reader.proofs.file.read_batch.Goals.{In-Some-file_head}
use Rattle.batch_reader.proofs.file.read_batch.Goals as goal

pub returns-in_err-first : goal.returns-in_err-first
returns-in_err-first c =
    let p = err_from_is_err_and c.from_residual.result c.from_residual.ensures.1 in
    rw (p.1, p.2) (record { origin = tt; number = tt; few = tt; told = tt; rows = tt; refused = tt })

pub returns-in_default : goal.returns-in_default
returns-in_default c =
    let none = rw c.in_default.is at c.in_ok-first.ensures in
    record {
      origin = tt;
      number = tt;
      few = tt;
      told = tt;
      rows = tt;
      refused = no_records (kinds c.args.schema.now) _
          (sym c.new-records.ensures ∙ none.0);
    }

pub returns-in_default-file_head : goal.returns-in_default-file_head
returns-in_default-file_head c =
    let first = rw c.in-Some.is at c.in_ok-first.ensures in
    record {
      origin = tt;
      number = tt;
      few = tt;
      told = tt;
      rows = tt;
      refused = no_head (kinds c.args.schema.now) _ _ (fields_of c.in-Some.first) (sym c.new-records.ensures
          ∙ first) c.in_default-file_head.ensures;
    }

-- what the file is read as
is_file : (c : In-Some-file_head) → read_file c.args.file.now
    ≡ Some (record { head = head_view c.in-Some-file_head.head; records = c.next.new.self })
is_file c =
    let first = rw c.in-Some.is at c.in_ok-first.ensures in
    file_of _ _ (fields_of c.in-Some.first) (head_view c.in-Some-file_head.head) (sym c.new-records.ensures
    ∙ first) c.in-Some-file_head.ensures

pub returns-in_err-origin : goal.returns-in_err-origin
returns-in_err-origin c =
    let p = err_from_is_err_and c.from_residual-in_err-origin.result c.from_residual-in_err-origin.ensures.1 in
    let file = is_file (goal.at.returns-in_err-origin c).In-Some-file_head in
    rw (p.1, p.2) (record {
      origin = tt;
      number = tt;
      few = tt;
      told = tt;
      rows = tt;
      refused = head_refused (kinds c.args.schema.now) _ _ c.in_err-origin.field-0.0 file c.in_err-origin.ensures.refused;
    })

pub returns-in_err-rows : goal.returns-in_err-rows
returns-in_err-rows c =
    let p = err_from_is_err_and c.from_residual-in_err-rows.result c.from_residual-in_err-rows.ensures.1 in
    let file = is_file (goal.at.returns-in_err-rows c).In-Some-file_head in
    let head = c.in_ok-origin in
    rw (p.1, p.2) (record {
      origin = tt;
      number = tt;
      few = tt;
      told = tt;
      rows = tt;
      refused = rows_refused (kinds c.args.schema.now) _ _ c.in_err-rows.field-0.0 file
          (record {
            origin_value = head.origin;
            number_value = head.number;
            reads_origin = head.ensures.origin;
            reads_number =
                head.ensures.number;
          })
          c.in_err-rows.ensures.refused;
    })

pub returns : goal.returns
returns c =
    let file = is_file (goal.at.returns c).In-Some-file_head in
    let rows = c.in_ok-rows.ensures in
    rw file (record {
      origin = c.in_ok-origin.ensures.origin;
      number = c.in_ok-origin.ensures.number;
      few = subst (λ n. n ≤ MAX_ROWS) (sym rows.told) c.in_ok-origin.ensures.few;
      told = rows.told;
      rows = rows.packed;
      refused = tt;
    })
