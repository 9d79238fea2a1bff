use Rattle.std.proofs.Common.{◌≡◌, ◌∙◌, List, Option, ap, rules, subst}
use Rattle.std.specs.Prelude.{IsSomeAnd}
use Rattle.grouping_model.specs.Datum.{Row}
use Rattle.packed_rows.specs.Columns.{kinds}
use Rattle.batch_reader.specs.File.{BatchFile, read_file}
use Rattle.batch_reader.specs.Rows.{ReadsRows, packings}
use Rattle.plain_batches.specs.Packed.{file_of}
use Rattle.plain_batches.proofs.FileLaws.{bad_field, made_again}
use Rattle.plain_batches.proofs.batch.pack_batch.Goals as goal

pub returns-in-Ok-clause-packed : goal.returns-in-Ok-clause-packed
returns-in-Ok-clause-packed c =
    let columns = c.args.schema.now in
    let made = c.in_ok-file.ensures.made in
    let again = made_again columns c.args.layout c.args.origin c.args.number c.args.csv.now c.in_ok-file.file.items
    c.in_ok-file.ensures.some
    made in
    let read = subst (λ (o : Option BatchFile). IsSomeAnd o (λ file. (rows : List Row) × ReadsRows (kinds columns) file.records rows
    × (c.in-Ok.field-0.rows ≡ packings rows))) (ap read_file c.deref.ensures.value ∙ again) c.in-Ok.ensures.rows in
    record { made = made; short = search rules; read_again = again; values = read.0; reads = read.1 }

pub returns-in-Err-BadField-clause-refused : goal.returns-in-Err-BadField-clause-refused
returns-in-Err-BadField-clause-refused c =
    let columns = c.args.schema.now in
    let made = c.in_ok-file.ensures.made in
    let again = made_again columns c.args.layout c.args.origin c.args.number c.args.csv.now c.in_ok-file.file.items
    c.in_ok-file.ensures.some
    made in (
      c.in_ok-file.file.items,
      made,
      search rules,
      bad_field (kinds columns) (read_file c.deref.result.now) (file_of c.args.layout c.args.origin c.args.number made.plain)
          c.in-Err-BadField.field-0 c.in-Err-BadField.row c.in-Err-BadField.column (ap read_file c.deref.ensures.value ∙ again)
          c.in-Err-BadField.field-0-is c.in-Err-BadField.ensures.refused,
    )
