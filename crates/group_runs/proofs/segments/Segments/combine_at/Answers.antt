use Rattle.std.specs.Prelude.{◌≡◌, ℕ, ◌-◌, ◌<◌, ◌+◌, ◌∷◌, List, length, take, slice_get, slice_set, Some}
use Rattle.std.proofs.Common.{sym, ◌∙◌, ap, subst, arith}
use Rattle.std.proofs.lemmas.List.{length-append}
use Rattle.group_runs.proofs.Words.{Function, functions_of, Entry, Rises, HasStatesFor, CombinesAt, concatenated, IsAmong}
use Rattle.group_runs.proofs.Words.{AreSegments}
use Rattle.group_runs.proofs.SegmentLaws.{got_by, got_low, got_same, states_in, combined_in, set_counts}
use Rattle.group_runs.proofs.FlatLaws.{same_keys_rise}
use Rattle.group_runs.proofs.segments.Segments.combine_at.Goals.{After-index_mut}
use Rattle.group_runs.proofs.segments.Segments.combine_at.Goals as goal

-- where the segment of a group stands
record Here (segments : List (List Entry)) (place at start : ℕ) (segment : List Entry) : Type 0 where
  is : slice_get segments at ≡ Some segment
  long : length (concatenated (take at segments)) + (place - start) ≡ place
  low : place - start < length segment

here : (segments : List (List Entry)) (place at start : ℕ) (segment : List Entry) → IsAmong segments place at → start
    ≡ length (concatenated (take at segments)) → (at < length segments → slice_get segments at ≡ Some segment)
    → Here segments place at start segment
here segments place at start segment among started read =
    let is = read (got_low segments at among.segment among.is) in
    let long = ap length (got_same segments at among.segment segment among.is is) in
    let behind = among.behind in
    let within = among.within in
    record { is = is; long = omega (arith, started, behind); low = omega (arith, started, behind, within, long) }

-- the run keeps its form
combined_are : (these : List Function) (segments : List (List Entry)) (ends : List ℕ) (place at start : ℕ) (segment new : List Entry)
    (more : List ℕ) → AreSegments segments ends → Here segments place at start segment
    → HasStatesFor these (concatenated segments) place more → CombinesAt these segment (place - start) more new
    → AreSegments (slice_set segments at new) ends
combined_are these segments ends place at start segment new more are h has combines =
    let inner = states_in these segments place at segment (place - start) more h.is h.long h.low has in
    let given = combines inner.front inner.entry inner.back inner.is inner.long in
    let one = ap length given.1 ∙ length-append inner.front ((inner.entry.0, given.0) ∷ inner.back) in
    let other = ap length inner.is ∙ length-append inner.front (inner.entry ∷ inner.back) in
    let whole = combined_in these segments place at segment new (place - start) more h.is h.long h.low combines has.front has.entry has.back
    has.is has.long in
    record {
      ends_are = are.ends_are ∙ sym (set_counts segments at segment new h.is (omega (arith, one, other)));
      rises = subst Rises (sym whole.1) (same_keys_rise has.front has.entry.0 has.entry.1 whole.0 has.back (subst Rises has.is are.rises));
    }

-- here it stands
at_group : (c : After-index_mut) → Here c.self.inside.segments.items c.args.place c.segment_of-at.result c.start-start.result
    c.index_mut.result.now
at_group c =
    let segments = c.self.inside.segments.items in
    let at = c.segment_of-at.result in
    here segments c.args.place at c.start-start.result c.index_mut.result.now (subst (λ cs. IsAmong cs c.args.place at) (sym c.self.view_is)
    c.segment_of-at.ensures)
    (c.start-start.ensures ∙ ap (λ cs. length (concatenated (take at cs))) (sym c.self.view_is))
    (λ low. got_by segments at c.index_mut.result.now low c.index_mut.ensures.value)

pub combine_at-requires : goal.combine_at-requires
combine_at-requires c =
    let segments = c.self.inside.segments.items in
    let h = at_group (goal.at.combine_at-requires c).After-index_mut in
    states_in (functions_of c.args.kinds.now) segments c.args.place c.segment_of-at.result c.index_mut.result.now
    (c.args.place - c.start-start.result) c.args.more.now h.is h.long h.low
    (subst (λ cs. HasStatesFor (functions_of c.args.kinds.now) (concatenated cs) c.args.place c.args.more.now)
    (sym c.self.view_is) c.requires)

pub invariant_of-self : goal.invariant_of-self
invariant_of-self c =
    let segments = c.self.inside.segments.items in
    let place = c.args.place in
    let at = c.segment_of-at.result in
    let these : List Function = functions_of c.args.kinds.now in
    let h = at_group (goal.at.invariant_of-self c).After-index_mut in
    combined_are these segments c.self.inside.ends.items place at c.start-start.result c.index_mut.result.now c.combine_at.new.self
    c.args.more.now c.self.invariant h (subst (λ cs. HasStatesFor these (concatenated cs) place c.args.more.now) (sym c.self.view_is)
    c.requires) c.combine_at.ensures

pub returns : goal.returns
returns c =
    let segments = c.self.inside.segments.items in
    let place = c.args.place in
    let at = c.segment_of-at.result in
    let these : List Function = functions_of c.args.kinds.now in
    let h = at_group (goal.at.returns c).After-index_mut in
    subst (λ cs. CombinesAt these (concatenated cs) place c.args.more.now (concatenated (slice_set segments at c.combine_at.new.self)))
    c.self.view_is
    (combined_in these segments place at c.index_mut.result.now c.combine_at.new.self (place - c.start-start.result) c.args.more.now h.is
    h.long h.low c.combine_at.ensures)
