use Rattle.std.specs.Prelude.{refl, ℕ, List, length, take, drop, ◌==◌, OnErr, Result, Ok, Err}
use Rattle.std.proofs.Common.{sym, ◌∙◌, ap, arith, rules}
use Rattle.std.proofs.lemmas.Bool.{eqb-true}
use Rattle.std.proofs.lemmas.List.{length-take, nil_from_length}
use Rattle.std.proofs.lemmas.Option.{slice_get_within}
use Rattle.std.proofs.lemmas.Result.{on_ok_weaker, on_err_weaker, IfOk-from_err}
use Rattle.packed_rows.specs.View.{row_of}
use Rattle.agg_protocol.specs.DenotingLaws.{width_known}
use Rattle.agg_protocol.specs.Kinds.{function_of, kind_shape, kind_width}
use Rattle.agg_library.specs.StateRows.{partial_after}
use Rattle.having_filter.specs.Kept.{TakesRows}
use Rattle.having_filter.specs.Meaning.{meaning}
use Rattle.group_runs.specs.PlaceLaws.{all_at}
use Rattle.hash_agg.proofs.AdvanceLaws.{at_place, has_room, moved_on, none_advanced, none_left, reach_taken, room_parted, step_advanced}
use Rattle.hash_agg.proofs.advancing.+advance_from.Goals as goal

refused_by : {T E P : Type 0} (r : Result T E) → P → OnErr r P
refused_by (Ok x) p = tt
refused_by (Err e) p = p

pub reach-requires : goal.reach-requires
reach-requires t c =
    let q = meaning c.args.query.now in
    let at = at_place q.aggregates c.args.place c.in-Some.kind.now c.in-Some.kinds.now c.args.kinds.now c.in-Some.ensures.cases.0
    c.requires.kinds in
    slice_get_within q.aggregates c.args.place at.0 at.1

pub advance-requires-clause-takes : goal.advance-requires-clause-takes
advance-requires-clause-takes t c =
    λ v some.
    let q = meaning c.args.query.now in
    let at = at_place q.aggregates c.args.place c.in-Some.kind.now c.in-Some.kinds.now c.args.kinds.now c.in-Some.ensures.cases.0
    c.requires.kinds in
    reach_taken q.kinds (function_of c.in-Some.kind.now) at.0 (row_of c.args.row.now) c.reach.result v
    (all_at (TakesRows q.kinds) q.aggregates c.args.place at.0 c.requires.formed.aggregates at.1) c.requires.row at.2
    (c.reach.ensures at.0 at.1) some

pub advance_from-requires : goal.advance_from-requires
advance_from-requires t c =
    let q = meaning c.args.query.now in
    let at = at_place q.aggregates c.args.place c.in-Some.kind.now c.in-Some.kinds.now c.args.kinds.now c.in-Some.ensures.cases.0
    c.requires.kinds in
    (search rules, (c.requires.formed, (c.requires.row, (at.3, c.requires.most))))

pub returns-clause-advanced : goal.returns-clause-advanced
returns-clause-advanced t c =
    let q = meaning c.args.query.now in let kind = c.in-Some.kind.now in let front = c.split_at_mut-part.result.0.now in
    on_ok_weaker c.advance_from.result
    (step_advanced q.aggregates c.args.place kind c.in-Some.kinds.now c.args.kinds.now c.args.most c.args.states.now front
    c.split_at_mut-part.result.1.now c.advance.new.part c.advance_from.new.states (row_of c.args.row.now)
    c.in-Some.ensures.cases.0 c.requires.kinds
    (c.split_at_mut-part.ensures.front ∙ ap (λ n. take n c.args.states.now) c.width-2.ensures) (c.split_at_mut-part.ensures.back
    ∙ ap (λ n. drop n c.args.states.now) c.width-2.ensures)
    (λ a at named m p low denoted.
    let done = c.in_ok-advance.ensures.ok in
    moved_on kind a (row_of c.args.row.now) c.reach.result m c.args.most p done.0 front c.advance.new.part named (c.reach.ensures a at) low
    c.requires.most denoted done.1 done.2)
    (let done = c.in_ok-advance.ensures.ok in (done.0, done.1))
    (let done = c.in_ok-advance.ensures.ok in (partial_after (function_of kind) done.0 c.reach.result, done.2)))
    c.advance_from.ensures.advanced

pub returns-clause-refused : goal.returns-clause-refused
returns-clause-refused t c =
    on_err_weaker c.advance_from.result
    (λ refused room.
    refused (room_parted (meaning c.args.query.now).aggregates c.args.place c.in-Some.kind.now c.in-Some.kinds.now c.args.kinds.now
    c.args.most c.args.states.now c.split_at_mut-part.result.0.now c.split_at_mut-part.result.1.now
    c.in-Some.ensures.cases.0 c.requires.kinds
    (c.split_at_mut-part.ensures.front ∙ ap (λ n. take n c.args.states.now) c.width-2.ensures) (c.split_at_mut-part.ensures.back
    ∙ ap (λ n. drop n c.args.states.now) c.width-2.ensures) room).4)
    c.advance_from.ensures.refused

pub returns-then-is_empty : goal.returns-then-is_empty
returns-then-is_empty t c =
    record {
      advanced = none_advanced _ c.args.kinds.now c.args.most c.args.states.now (row_of c.args.row.now) c.in_default.ensures.cases
          c.requires.kinds
          (nil_from_length c.args.states.now (eqb-true (length c.args.states.now) 0 (sym c.is_empty.ensures ∙ c.if-is_empty.true)));
      refused = tt;
    }

pub returns-else-is_empty : goal.returns-else-is_empty
returns-else-is_empty t c =
    record {
      advanced = tt;
      refused = λ room.
          let none = none_left _ c.args.kinds.now c.args.most c.args.states.now c.in_default.ensures.cases c.requires.kinds room in
          let empty = c.is_empty.ensures ∙ ap (λ (bytes : List ℕ). length bytes == 0) none in
          let other = c.if-is_empty.false in
          cc;
    }

pub returns-then-states-width : goal.returns-then-states-width
returns-then-states-width t c =
    record {
      advanced = tt;
      refused = λ room.
          let kind = c.in-Some.kind.now in let bytes = c.args.states.now in
          let parts = room_parted (meaning c.args.query.now).aggregates c.args.place kind c.in-Some.kinds.now c.args.kinds.now c.args.most
          bytes (take (kind_width kind) bytes) (drop (kind_width kind) bytes)
          c.in-Some.ensures.cases.0 c.requires.kinds refl refl room in
          let wide = width_known parts.0 (kind_shape kind) (take (kind_width kind) bytes) parts.1 parts.3 in
          let taken = length-take (kind_width kind) bytes in
          omega (arith, wide, taken);
    }

pub returns-in_err-advance : goal.returns-in_err-advance
returns-in_err-advance t c =
    record {
      advanced = IfOk-from_err c.from_residual.result _ c.from_residual.ensures.0;
      refused = refused_by c.from_residual.result (λ room.
          let q = meaning c.args.query.now in let kind = c.in-Some.kind.now in let front = c.split_at_mut-part.result.0.now in
          let at = at_place q.aggregates c.args.place kind c.in-Some.kinds.now c.args.kinds.now c.in-Some.ensures.cases.0 c.requires.kinds
          in
          let parts = room_parted q.aggregates c.args.place kind c.in-Some.kinds.now c.args.kinds.now c.args.most c.args.states.now front
          c.split_at_mut-part.result.1.now
          c.in-Some.ensures.cases.0 c.requires.kinds
          (c.split_at_mut-part.ensures.front ∙ ap (λ n. take n c.args.states.now) c.width-2.ensures) (c.split_at_mut-part.ensures.back
          ∙ ap (λ n. drop n c.args.states.now) c.width-2.ensures) room in
          has_room kind at.0 (row_of c.args.row.now) c.reach.result parts.0 c.args.most parts.1 front at.2 (c.reach.ensures at.0 at.1)
          parts.2 parts.3 c.in_err-advance.ensures.err);
    }
