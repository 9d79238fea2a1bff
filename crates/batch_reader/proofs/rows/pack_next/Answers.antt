use Rattle.std.specs.Prelude.{◌≡◌, ◌≤◌, ◌+◌, [], is_some, false, true, drop, length, take}
use Rattle.std.proofs.Common.{arith, ap, refl, sym, ◌∙◌}
use Rattle.std.proofs.lemmas.List.{length-take}
use Rattle.std.proofs.lemmas.Result.{err_from_is_err_and}
use Rattle.csv.specs.Records.{fields_of}
use Rattle.packed_rows.specs.Columns.{kinds}
use Rattle.batch_reader.proofs.RecordLaws.{KeptSoFar, all_told, fewer_told, kept_all, kept_built, kept_fault, kept_more, kept_rows}
use Rattle.batch_reader.proofs.RecordLaws.{rows_long, told_item}
use Rattle.batch_reader.proofs.rows.pack_next.Goals as goal
use Rattle.batch_reader.proofs.rows.pack_next.Goals.{then-is_none, else-is_none}

pub loop-row-init : goal.loop-row-init
loop-row-init c = record { left = refl; within = omega arith; kept = ([], tt, c.new-rows.ensures) }

pub loop-row-preserved : goal.loop-row-preserved
loop-row-preserved c =
    let inv = c.loop-row.invariant in
    let all = take c.args.told c.args.records.now in
    let next = rw c.if-not-branch.false at c.in_ok-read.ensures in
    let item = told_item c.args.told c.loop-row.row c.args.records.now c.read.new.self (fields_of c.read.new.into) c.loop-row-test.true
    (sym inv.left ∙ next) in
    let within : c.loop-row.row + 1 ≤ length c.args.records.now = omega (arith, item.0, length-take c.args.told c.args.records.now) in
    let kept : KeptSoFar (kinds c.args.schema.now) all (c.loop-row.row + 1) c.if-is_none.fault
    c.if-is_none.rows = elim c.if-is_none.branch [
      | then-is_none w ↦
          let none : is_some c.loop-row.fault ≡ false = rw w.if-is_none.true at c.is_none.ensures in
          rw (w.fault-is, w.rows-is, w.err-fault.ensures.value)
          (kept_more (kinds c.args.schema.now) all c.loop-row.row w.push_record.result c.loop-row.rows w.push_record.new.rows
          (fields_of c.read.new.into) item.0 item.1
          (kept_rows (kinds c.args.schema.now) all c.loop-row.row c.loop-row.fault c.loop-row.rows none inv.kept)
          w.push_record.ensures.pushed w.push_record.ensures.refused)
      | else-is_none w ↦
          let some : is_some c.loop-row.fault ≡ true = rw w.if-is_none.false at c.is_none.ensures in
          rw (w.fault-is, w.rows-is) (kept_fault (kinds c.args.schema.now) all c.loop-row.row (c.loop-row.row + 1) c.loop-row.fault
          c.loop-row.rows some inv.kept)
    ] in
    record { left = sym item.2; within = within; kept = kept }

pub returns-in_err-read : goal.returns-in_err-read
returns-in_err-read c =
    let p = err_from_is_err_and c.from_residual.result c.from_residual.ensures.1 in
    rw p.1 (record { packed = tt; told = tt; refused = tt; left = c.in_err-read.ensures })

pub returns-then-not-branch : goal.returns-then-not-branch
returns-then-not-branch c =
    let none = rw c.if-not-branch.true at c.in_ok-read.ensures in
    let fewer = fewer_told c.args.told c.loop-row.row c.args.records.now c.loop-row-test.true (sym c.loop-row.invariant.left ∙ none.0) in
    record { packed = tt; told = tt; refused = λ origin number head. (head, c.requires, fewer.0); left = none.1 ∙ sym fewer.1 }

pub returns-in-None : goal.returns-in-None
returns-in-None c =
    let inv = c.loop-row.invariant in
    let records = c.args.records.now in
    let last : c.loop-row.row ≡ c.args.told = omega arith in
    let long = all_told records c.args.told c.loop-row.row last inv.within in
    let rows = kept_all (kinds c.args.schema.now) (take c.args.told records) c.loop-row.row c.loop-row.fault c.loop-row.rows (long
    ∙ sym last) c.in-None.is inv.kept in
    record {
      packed = rows;
      told = ap length rows.2 ∙ rows_long (kinds c.args.schema.now) (take c.args.told records) rows.0 rows.1 ∙ long;
      refused = tt;
      left = inv.left ∙ ap (λ n. drop n records) last;
    }

pub returns-in-Some : goal.returns-in-Some
returns-in-Some c =
    let records = c.args.records.now in let inv = c.loop-row.invariant in
    let last : c.loop-row.row ≡ c.args.told = omega arith in
    let long = all_told records c.args.told c.loop-row.row last inv.within in
    record {
      packed = tt;
      told = tt;
      refused = λ origin number head. kept_built (kinds c.args.schema.now) origin number c.args.told (take c.args.told records)
          c.loop-row.row c.loop-row.fault c.loop-row.rows _ head c.requires long c.in-Some.is inv.kept;
      left = inv.left ∙ ap (λ n. drop n records) last;
    }
