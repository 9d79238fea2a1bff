use Rattle.std.proofs.Common.{◌≡◌, ◌<◌, ◌∙◌, ℕ, List, [], ◌++◌, ap, false, flat_map, length, map, subst, sym}
use Rattle.std.specs.Prelude.{All}
use Rattle.std.proofs.lemmas.Result.{err_from_is_err_and}
use Rattle.csv.specs.Records.{fields_of}
use Rattle.csv.specs.Writing.{default_writer, row_text}
use Rattle.script_io.specs.Records.{Record}
use Rattle.plain_batches.specs.Blank.{blank_lines}
use Rattle.plain_batches.specs.Columns.{AreAmong, ArePlaces, arranged}
use Rattle.plain_batches.specs.Packed.{IsPlain, Plain, file_of, file_text, head_fields, head_of}
use Rattle.plain_batches.specs.Refusal.{HeaderFault, WidthFault}
use Rattle.plain_batches.proofs.FaultLaws.{has_parts, header_refused, right_header, widths_refused}
use Rattle.plain_batches.proofs.PlainLaws.{places_within}
use Rattle.plain_batches.proofs.batch.make_file.Goals as goal

pub returns-in_err-places-clause-refused : goal.returns-in_err-places-clause-refused
returns-in_err-places-clause-refused c =
    let p = err_from_is_err_and c.from_residual-in_err-places.result c.from_residual-in_err-places.ensures.1 in
    let columns = c.args.schema.now in
    let header = fields_of c.in_ok-header.header in
    let rows = c.header_of.new.records in
    let named = c.in_ok-names.ensures.names in
    let parts = has_parts columns c.args.layout c.args.csv.now (fields_of c.in_ok-names.names) header _ rows named c.new-records.ensures
    c.in_ok-header.ensures.parts in
    let fault = subst (λ (n : Record). HeaderFault c.args.layout.skips_columns n header c.in_err-places.field-0.0) named
    c.in_err-places.ensures.refused in
    rw (p.1, p.2) (header_refused columns c.args.layout c.args.csv.now header rows c.in_err-places.field-0.0 parts fault)

pub row_lines-requires : goal.row_lines-requires
row_lines-requires c =
    let header = fields_of c.in_ok-header.header in
    let places = c.in_ok-places.places.items in
    let within = places_within header (fields_of c.in_ok-names.names) places c.in_ok-places.ensures.places in
    subst (λ (ps : List ℕ). All (λ place. place < c.len-width.result) ps) (sym c.deref.ensures.value)
    (subst (λ (width : ℕ). All (λ place. place < width) places) (sym c.len-width.ensures) within)

pub returns-in_err-rows-clause-refused : goal.returns-in_err-rows-clause-refused
returns-in_err-rows-clause-refused c =
    let p = err_from_is_err_and c.from_residual-in_err-rows.result c.from_residual-in_err-rows.ensures.1 in
    let columns = c.args.schema.now in
    let header = fields_of c.in_ok-header.header in
    let rows = c.header_of.new.records in
    let parts = has_parts columns c.args.layout c.args.csv.now (fields_of c.in_ok-names.names) header _ rows c.in_ok-names.ensures.names
    c.new-records.ensures c.in_ok-header.ensures.parts in
    let fault = subst (λ (width : ℕ). WidthFault width rows c.in_err-rows.field-0.0) c.len-width.ensures c.in_err-rows.ensures.refused in
    let right = right_header c.args.layout columns (fields_of c.in_ok-names.names) header c.in_ok-places.places.items
    c.in_ok-names.ensures.names c.in_ok-places.ensures.known c.in_ok-places.ensures.places in
    let blank = subst (λ (width : ℕ). width ≡ 1 → c.args.layout.null.now ≡ [] → blank_lines c.args.layout.delimiter c.args.csv.now ≡ 0)
    c.len-width.ensures c.in_ok-check_blank.ensures.none in
    rw (p.1, p.2) (widths_refused columns c.args.layout c.args.csv.now header rows c.in_err-rows.field-0.0 parts right blank fault)

pub returns-in_err-check_blank-clause-refused : goal.returns-in_err-check_blank-clause-refused
returns-in_err-check_blank-clause-refused c =
    let p = err_from_is_err_and c.from_residual-in_err-check_blank.result c.from_residual-in_err-check_blank.ensures.1 in
    let columns = c.args.schema.now in
    let header = fields_of c.in_ok-header.header in
    let rows = c.header_of.new.records in
    let parts = has_parts columns c.args.layout c.args.csv.now (fields_of c.in_ok-names.names) header _ rows c.in_ok-names.ensures.names
    c.new-records.ensures c.in_ok-header.ensures.parts in
    let right = right_header c.args.layout columns (fields_of c.in_ok-names.names) header c.in_ok-places.places.items
    c.in_ok-names.ensures.names c.in_ok-places.ensures.known c.in_ok-places.ensures.places in
    let refused = c.in_err-check_blank.ensures.refused in
    rw (p.1, p.2, refused.0) (header, rows, parts, right, sym c.len-width.ensures ∙ refused.1, refused.2, refused.3)

pub returns-clause-made : goal.returns-clause-made
returns-clause-made c =
    let columns = c.args.schema.now in
    let layout = c.args.layout in
    let header = fields_of c.in_ok-header.header in
    let places = c.in_ok-places.places.items in
    let rows = c.header_of.new.records in
    let named = c.in_ok-names.ensures.names in
    let plain : Plain = record { header = header; places = places; rows = rows } in
    let is_plain : IsPlain columns layout c.args.csv.now plain =
    record {
      parts = has_parts columns layout c.args.csv.now (fields_of c.in_ok-names.names) header _ rows named c.new-records.ensures
          c.in_ok-header.ensures.parts;
      known = subst (λ (n : Record). layout.skips_columns ≡ false → AreAmong n header) named c.in_ok-places.ensures.known;
      at = subst (λ (n : Record). ArePlaces header n places) named c.in_ok-places.ensures.places;
      blank = subst (λ (width : ℕ). width ≡ 1 → layout.null.now ≡ [] → blank_lines layout.delimiter c.args.csv.now ≡ 0)
          c.len-width.ensures c.in_ok-check_blank.ensures.none;
      widths = subst (λ (width : ℕ). All (λ fields. length fields ≡ width) rows) c.len-width.ensures c.in_ok-rows.ensures.widths;
    } in
    let head = λ (count : ℕ). row_text default_writer (head_fields (head_of c.args.origin c.args.number count)) in
    let lines : c.deref-2.result.now ≡ flat_map (row_text default_writer) (map (arranged layout.null.now places) rows)
    = c.deref-2.ensures.value ∙ c.in_ok-rows.ensures.lines
    ∙ ap (λ (ps : List ℕ). flat_map (row_text default_writer) (map (arranged layout.null.now ps) rows)) c.deref.ensures.value in
    let text : c.extend_from_slice.new.self.items ≡ file_text (file_of layout c.args.origin c.args.number plain)
    = c.in_ok-extend_from_slice.ensures.items
    ∙ ap (λ (l : List ℕ). l ++ c.deref-2.result.now) c.in_ok-file.ensures
    ∙ ap (λ (l : List ℕ). head c.in_ok-rows.rows ++ l) lines
    ∙ ap (λ (count : ℕ). head count ++ flat_map (row_text default_writer) (map (arranged layout.null.now places) rows))
    c.in_ok-rows.ensures.rows in
    record { plain = plain; is_plain = is_plain; few = c.in_ok-rows.ensures.few; text = text }
