use Rattle.std.specs.Prelude.{length, ◌<◌, List, ℕ, IsUtf8}
use Rattle.std.proofs.Common.{subst, sym, ◌∙◌, arith, refl, ap}
use Rattle.having_filter.specs.Kept.{by_names}
use Rattle.query_checks.specs.Spelling.{spelling}
use Rattle.packed_rows.specs.Columns.{AreColumns, printed}
use Rattle.group_parser.specs.Lemmas.PrintLaws.{parsed_again}
use Rattle.summary_codec.specs.Lemmas.LengthLaws.{short_schema}
use Rattle.origin_prefix.specs.Lemmas.CountLaws.{on_ok}
use Rattle.summary_codec.proofs.writing.push_heading.Goals as goal

pub push_sized-requires : goal.push_sized-requires
push_sized-requires c =
    subst (λ (text : List ℕ). length text < 65536) (sym (c.as_bytes.ensures.value ∙ c.as_str.ensures.value
    ∙ c.in_ok-schema.ensures.printed))
    (short_schema c.schema.result.now (subst AreColumns (sym c.schema.ensures.columns) c.schema.ensures.query.columns_are))

pub push_sized-requires-2 : goal.push_sized-requires-2
push_sized-requires-2 c =
    let q = c.args.query.now in
    let short = (parsed_again q (spelling (by_names q)) c.schema.ensures.query refl).short in
    let low : length (spelling (by_names q)) < 65536 = omega (arith, short) in
    subst (λ (text : List ℕ). length text < 65536) (sym (c.as_bytes-2.ensures.value ∙ c.spelling.ensures)) low

pub returns-clause-texts : goal.returns-clause-texts
returns-clause-texts c =
    let q = c.args.query.now in
    let columns : IsUtf8 (printed q.columns) = subst IsUtf8 (c.as_str.ensures.value ∙ c.in_ok-schema.ensures.printed
    ∙ ap printed c.schema.ensures.columns) c.as_str.utf8 in
    let text : IsUtf8 (spelling (by_names q)) = subst IsUtf8 c.spelling.ensures c.spelling.utf8 in
    on_ok c.push_sized-2.result (IsUtf8 (printed q.columns) × IsUtf8 (spelling (by_names q))) (columns, text)
