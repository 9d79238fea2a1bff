use Rattle.std.proofs.Common.{ℕ, ◌≡◌, ◌<◌, ◌≤◌, ◌∙◌, [], ap, arith, get_or, length, map, min, subst, sym}
use Rattle.std.proofs.lemmas.List.{get_or-map, length-map}
use Rattle.std.specs.declared.alloc.Global.{Global}
use Rattle.std.specs.declared.vec.Vec.{Vec}
use Rattle.agg_protocol.specs.Results.{outcome_of}
use Rattle.grouping_model.specs.Aggregates.{Plain}
use Rattle.grouping_model.specs.Datum.{Null}
use Rattle.packed_rows.specs.View.{bytes_of}
use Rattle.table_print.proofs.JsonLaws.{length-bytes_of, longer_object, name_at, whole_object}
use Rattle.table_print.proofs.json_table.push_object.Goals as goal

pub loop-item-preserved : goal.loop-item-preserved
loop-item-preserved c =
    let row = c.args.row.now in
    let names = c.args.names.now in
    let n = c.loop-item.item in
    let both : n < min (length names) (length row) = subst (λ (m : ℕ). n < m) c.min-item-end.ensures c.loop-item-test.true in
    let first : n < length names = omega (arith, both) in
    let second : n < length row = omega (arith, both) in
    let within : n < length (bytes_of names) = omega (arith, length-bytes_of names, both) in
    let beyond : n < length (map outcome_of row) = omega (arith, length-map row outcome_of, both) in
    let named : get_or (bytes_of names) n [] ≡ c.deref.result.now =
    name_at names n c.index-names-item.result first ∙ ap (λ (v : Vec ℕ Global). v.items) (sym c.index-names-item.is)
    ∙ sym c.deref.ensures.value in
    longer_object (bytes_of names) (map outcome_of row) n c.deref.result.now _ _ _ _ within beyond named
    (get_or-map outcome_of row n _ (Plain Null) second) c.loop-item.invariant c.in_ok-push_member.ensures

pub returns : goal.returns
returns c =
    let row = c.args.row.now in
    let names = c.args.names.now in
    let n = c.loop-item.item in
    let past : min (length names) (length row) ≤ n = subst (λ (m : ℕ). m ≤ n) c.min-item-end.ensures c.loop-item-test.false in
    let all : min (length (bytes_of names)) (length (map outcome_of row)) ≤ n = omega (
      arith,
      length-bytes_of names,
      length-map row
          outcome_of,
      past,
    ) in
    whole_object (bytes_of names) (map outcome_of row) n c.args.out.now.items _ _ all c.loop-item.invariant
    c.in_ok-extend_from_slice.ensures.items
