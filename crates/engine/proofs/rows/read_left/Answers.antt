use Rattle.std.proofs.Common.{take, sym, subst, ◌∙◌}
use Rattle.list_laws.specs.Outcomes.{none_there}
use Rattle.packed_rows.specs.Columns.{kinds}
use Rattle.batch_reader.specs.Refusal.{BuildFault}
use Rattle.batch_reader.specs.declared.error.BatchError.TheVariants.{WrongWidth, BadField}
use Rattle.engine.proofs.RowLaws.{read_all, unread}
use Rattle.engine.proofs.rows.read_left.Goals as goal

pub returns-in-Ok-clause-read : goal.returns-in-Ok-clause-read
returns-in-Ok-clause-read c =
    let none = none_there c.in_ok-next-in-Ok.field-0 (sym c.is_some.ensures ∙ c.if-is_some.false) in
    let ended = rw none at c.in_ok-next-in-Ok.ensures in
    let read = c.in_ok-batch.ensures in
    read_all (kinds c.args.schema.now) c.args.origin.now c.args.number.now c.args.count _ c.in-Ok.batch
    (rw c.in-Ok.is at read.origin) (rw c.in-Ok.is at read.number) (rw c.in-Ok.is at read.few) (rw c.in-Ok.is at read.told)
    (rw c.in-Ok.is at read.rows) (sym read.left ∙ ended.0)

pub returns-in-Err-WrongWidth-clause-refused : goal.returns-in-Err-WrongWidth-clause-refused
returns-in-Err-WrongWidth-clause-refused c =
    let ks = kinds c.args.schema.now in
    let told = take c.args.count c.args.records.now in
    let fault = subst (BuildFault ks c.args.origin.now c.args.number.now c.args.count told) c.in-Err-WrongWidth.field-0-is
    (rw c.in-Err-WrongWidth.is at c.in_ok-batch.ensures.refused) in
    unread ks c.args.origin.now c.args.number.now c.args.count _ (WrongWidth c.in-Err-WrongWidth.row) fault.0 fault.1 fault _
    c.why_unread.result c.in_ok-batch.ensures.left c.why_unread.ensures.none c.why_unread.ensures.more

pub returns-in-Err-BadField-clause-refused : goal.returns-in-Err-BadField-clause-refused
returns-in-Err-BadField-clause-refused c =
    let ks = kinds c.args.schema.now in
    let told = take c.args.count c.args.records.now in
    let fault = subst (BuildFault ks c.args.origin.now c.args.number.now c.args.count told) c.in-Err-BadField.field-0-is
    (rw c.in-Err-BadField.is at c.in_ok-batch.ensures.refused) in
    unread ks c.args.origin.now c.args.number.now c.args.count _ (BadField c.in-Err-BadField.row c.in-Err-BadField.column) fault.0 fault.1
    fault _ c.why_unread-in-Err-BadField.result c.in_ok-batch.ensures.left c.why_unread-in-Err-BadField.ensures.none
    c.why_unread-in-Err-BadField.ensures.more
