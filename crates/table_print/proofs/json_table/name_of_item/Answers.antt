use Rattle.std.proofs.Common.{ℕ, List, Bool, ◌≡◌, ◌∙◌, [], ◌++◌, ap, codes, if◌then◌else◌, slice_index_or, sym, take}
use Rattle.std.specs.Fmt.{decimal}
use Rattle.std.specs.List.{list_any}
use Rattle.std.specs.Str.{bytes_eq}
use Rattle.std.proofs.lemmas.Option.{get_or_from_slice_get}
use Rattle.having_filter.specs.Kept.{headers}
use Rattle.table_print.specs.Json.{json_string, name_of}
use Rattle.table_print.proofs.json_table.name_of_item.Goals as goal

pub returns : goal.returns
returns c =
    let names = headers c.args.query.now in
    let item = c.args.item in
    let name = slice_index_or names item [] in
    let behind = λ (repeated : Bool) (place : ℕ). if repeated then codes "." ++ decimal place else [] in
    let header : c.as_bytes.result.now ≡ name = c.as_bytes.ensures.value
    ∙ sym (get_or_from_slice_get names item c.header.result.now [] c.header.ensures) in
    let first : c.extend_from_slice.new.self.items ≡ name = c.in_ok-extend_from_slice.ensures.items
    ∙ ap (λ (l : List ℕ). l ++ c.as_bytes.result.now) c.new-name.ensures.items ∙ header in
    let named : c.push_place.new.name.items ≡ name_of names (item, name) = c.in_ok-push_place.ensures
    ∙ ap (λ (l : List ℕ). l ++ behind c.is_repeated.result c.args.place) first
    ∙ ap (λ (repeated : Bool). name ++ behind repeated c.args.place) c.is_repeated.ensures
    ∙ ap (λ (place : ℕ). name ++ behind (list_any (bytes_eq name) (take item names)) place) c.requires.place in
    c.in_ok-push_string.ensures ∙ ap (λ (l : List ℕ). l ++ json_string c.deref.result.now) c.new-text.ensures.items
    ∙ ap json_string (c.deref.ensures.value ∙ named)
