use Rattle.std.proofs.Common.{ℕ, List, ◌≡◌, ◌≤◌, ◌∙◌, [], ◌∷◌, ◌++◌, ap, arith, get_or, length, sym}
use Rattle.std.proofs.lemmas.Option.{get_or_from_slice_get, slice_get_within}
use Rattle.having_filter.specs.Kept.{headers}
use Rattle.table_print.specs.Tsv.{tsv_value}
use Rattle.table_print.proofs.AlignedLaws.{length-headers, length-written, longer_line, whole_line}
use Rattle.table_print.proofs.tsv_table.push_header.Goals as goal

pub loop-item-preserved : goal.loop-item-preserved
loop-item-preserved c =
    let names = headers c.args.query.now in
    let n = c.loop-item.item in
    let header = c.header.result.now in
    let here : c.as_bytes.result.now ≡ get_or names n [] = c.as_bytes.ensures.value
    ∙ sym (get_or_from_slice_get names n header [] c.header.ensures) in
    longer_line tsv_value (9 ∷ []) names n [] _ _ _ (slice_get_within names n header c.header.ensures) c.loop-item.invariant
    (c.in_ok-push_value.ensures ∙ ap (λ (bytes : List ℕ). c.push_separator.new.out.items ++ tsv_value bytes) here
    ∙ ap (λ (l : List ℕ). l ++ tsv_value (get_or names n [])) c.in_ok-push_separator.ensures)

pub returns : goal.returns
returns c =
    let q = c.args.query.now in
    let items = length-written q c.items-item-end.result.now c.items-item-end.ensures in
    let all : length (headers q) ≤ c.loop-item.item = omega (arith, items, length-headers q, c.loop-item-test.false) in
    whole_line tsv_value (9 ∷ []) (headers q) c.loop-item.item _ _ _ all c.loop-item.invariant c.in_ok-push.ensures.items
