use Rattle.std.specs.Prelude.{◌≡◌, ◌+◌, ◌-◌, ◌++◌, ◌∷◌, List, [], length, take, slice_get, slice_set, Some}
use Rattle.std.proofs.Common.{sym, ◌∙◌, ap, subst, arith, append_assoc, rules}
use Rattle.group_runs.specs.Runs.{Entry, Rises}
use Rattle.packed_rows.specs.ConcatenatedRows.{concatenated, ends_of}
use Rattle.group_runs.proofs.SegmentLaws.{got_by, ends_many, last_whole, last_more, rises_back, LastMore}
use Rattle.group_runs.proofs.segments.Segments.push_last.Goals.{After-index_mut}
use Rattle.group_runs.proofs.segments.Segments.push_last.Goals as goal

-- the last segment
segment_is : (c : After-index_mut) → (length c.self.inside.segments.items ≡ c.len-last.result - 1 + 1)
    × (slice_get c.self.inside.segments.items (c.len-last.result - 1) ≡ Some c.index_mut.result.now)
segment_is c =
    let counted : c.len-last.result ≡ length c.self.inside.segments.items = search rules in
    let many : length c.self.inside.segments.items ≡ c.len-last.result - 1
    + 1 = omega (arith, counted, ap length c.self.view_is, c.requires.some) in (
      many,
      got_by c.self.inside.segments.items (c.len-last.result - 1) c.index_mut.result.now (omega (arith, many))
          c.index_mut.ensures.value,
    )

pub push-requires : goal.push-requires
push-requires c =
    let segments = c.self.inside.segments.items in
    let last = c.len-last.result - 1 in
    let one : List Entry = (c.args.key.now, c.args.states.now) ∷ [] in
    let last_segment = segment_is (goal.at.push-requires c).After-index_mut in
    let whole = last_whole segments last c.index_mut.result.now last_segment.0 last_segment.1 in
    rises_back (concatenated (take last segments)) (c.index_mut.result.now ++ one)
    (subst Rises (append_assoc (concatenated (take last segments)) c.index_mut.result.now one)
    (subst (λ es. Rises (es ++ one)) whole (subst (λ cs. Rises (concatenated cs ++ one)) (sym c.self.view_is) c.requires.rises)))

pub index_mut-requires-2 : goal.index_mut-requires-2
index_mut-requires-2 c =
    let counted : c.len-last.result ≡ length c.self.inside.segments.items = search rules in
    let many = ends_many c.self.inside.segments.items c.self.inside.ends.items c.self.invariant.ends_are in
    let view = ap length c.self.view_is in
    let some = c.requires.some in
    let long = c.self.inside.ends.ok in
    omega (arith, counted, many, view, some, long)

-- the last segment with one group more
more : (c : goal.After-self-2-1)
    → LastMore (slice_set c.self.inside.segments.items (c.len-last.result - 1) (c.index_mut.result.now
    ++ (c.args.key.now, c.args.states.now) ∷ []))
    (slice_set c.self.inside.ends.items (c.len-last.result - 1) (c.len-end.result + 1)) (concatenated c.self.inside.segments.items
    ++ (c.args.key.now, c.args.states.now) ∷ [])
more c =
    let segments = c.self.inside.segments.items in
    let last = c.len-last.result - 1 in
    let one : List Entry = (c.args.key.now, c.args.states.now) ∷ [] in
    let last_segment = segment_is (goal.at.returns-clause-pushed c).After-index_mut in
    let before = c.len-end.ensures.length ∙ ap (λ cs. length (concatenated cs)) (sym c.self.view_is) in
    last_more segments c.self.inside.ends.items last c.index_mut.result.now one (c.len-end.result + 1) c.self.invariant.ends_are
    last_segment.0 last_segment.1 (omega (arith, before))

pub invariant_of-self-2 : goal.invariant_of-self-2
invariant_of-self-2 c =
    let segments = c.self.inside.segments.items in
    let last = c.len-last.result - 1 in
    let one : List Entry = (c.args.key.now, c.args.states.now) ∷ [] in
    let pushed = c.in_ok-push.ensures.pushed in
    record {
      ends_are = (more c).ends_are ∙ ap (λ segment. ends_of 0 (slice_set segments last segment)) (sym pushed);
      rises = subst (λ segment. Rises (concatenated (slice_set segments last segment))) (sym pushed)
          (subst Rises (sym (more c).is) (subst (λ cs. Rises (concatenated cs ++ one)) (sym c.self.view_is) c.requires.rises));
    }

pub returns-clause-pushed : goal.returns-clause-pushed
returns-clause-pushed c =
    ap (λ segment. concatenated (slice_set c.self.inside.segments.items (c.len-last.result - 1) segment)) c.in_ok-push.ensures.pushed
    ∙ (more c).is
    ∙ ap (λ cs. concatenated cs ++ (c.args.key.now, c.args.states.now) ∷ []) c.self.view_is
