use Rattle.std.specs.Borrow.{Bor}
use Rattle.std.specs.Cmp.Lexicographic.{same_text, other_text}
use Rattle.std.specs.List.Sorted.{IsPermutation}
use Rattle.std.specs.Prelude.{◌≢◌, ℕ, ◌-◌, ◌<◌, List, [], ◌∷◌, ◌++◌, slice_index_or}
use Rattle.std.proofs.Common.{sym, ◌∙◌, ap, subst, arith}
use Rattle.std.proofs.lemmas.List.Sorted.{All-permutation}
use Rattle.hash_agg.proofs.Words.{Rises, AbbreviatedKey, IsAbbreviated, pairs}
use Rattle.hash_agg.proofs.SortLaws.{once_permuted, pair_at, take_next, pairs_moved, all_taken, told_rises, told_twice}
use Rattle.hash_agg.proofs.sorting.sort_distinct.Goals as goal
use Rattle.hash_agg.proofs.sorting.sort_distinct.Goals.{else-place-gt0-via-then-place-gt0+else-eq, else-place-gt0-via-else-place-gt0}

-- a reference to nothing, behind nothing
abbrev nothing : Bor (List ℕ)
nothing = record { ref_ptr = (0, 0); now = [] }

abbrev no_entry : AbbreviatedKey
no_entry = (0, (nothing, nothing))

pub push-requires : goal.push-requires
push-requires c =
    let ps : List AbbreviatedKey = c.sort_unstable.new.self in
    let i : ℕ = c.loop-place.place in
    let other : 0 < i → (slice_index_or ps (i - 1) no_entry).1.0.now ≢ (slice_index_or ps i no_entry).1.0.now = λ some.
    elim c.else-place-gt0.branch [
      | else-place-gt0-via-then-place-gt0+else-eq w ↦ other_text (slice_index_or ps (i - 1) no_entry).1.0.now
          (slice_index_or ps i no_entry).1.0.now (sym w.if-eq.false ∙ w.eq.ensures)
      | else-place-gt0-via-else-place-gt0 w ↦ absurd (let none = w.if-place-gt0.false in omega (arith, none, some))
    ] in
    told_rises ps c.loop-place.run i no_entry c.sort_unstable.ensures.sorted (All-permutation IsAbbreviated c.args.entries.now ps
    c.sort_unstable.ensures.permutation c.requires.abbreviated) c.loop-place.invariant.1 c.loop-place.invariant.0 c.loop-place-test.true
    other

pub loop-place-preserved : goal.loop-place-preserved
loop-place-preserved c =
    let ps : List AbbreviatedKey = c.sort_unstable.new.self in
    let i : ℕ = c.loop-place.place in
    let other : 0 < i → (slice_index_or ps (i - 1) no_entry).1.0.now ≢ (slice_index_or ps i no_entry).1.0.now = λ some.
    elim c.else-place-gt0.branch [
      | else-place-gt0-via-then-place-gt0+else-eq w ↦ other_text (slice_index_or ps (i - 1) no_entry).1.0.now
          (slice_index_or ps i no_entry).1.0.now (sym w.if-eq.false ∙ w.eq.ensures)
      | else-place-gt0-via-else-place-gt0 w ↦ absurd (let none = w.if-place-gt0.false in omega (arith, none, some))
    ] in (
      c.in_ok-push.ensures.pushed
          ∙ ap (λ run. run ++ (
            (slice_index_or ps c.loop-place.place no_entry).1.0.now,
            (slice_index_or ps c.loop-place.place no_entry).1.1.now,
          ) ∷ []) c.loop-place.invariant.0
          ∙ sym (take_next (pairs ps) c.loop-place.place _ _ (pair_at ps c.loop-place.place no_entry c.loop-place-test.true)),
      subst Rises (sym c.in_ok-push.ensures.pushed)
          (told_rises ps c.loop-place.run i no_entry c.sort_unstable.ensures.sorted (All-permutation IsAbbreviated c.args.entries.now ps
          c.sort_unstable.ensures.permutation c.requires.abbreviated) c.loop-place.invariant.1 c.loop-place.invariant.0
          c.loop-place-test.true other),
    )

pub returns-then-eq-clause-undamaged : goal.returns-then-eq-clause-undamaged
returns-then-eq-clause-undamaged c =
    λ once.
    let ps : List AbbreviatedKey = c.sort_unstable.new.self in
    let i : ℕ = c.loop-place.place in
    absurd
    (told_twice ps i no_entry (once_permuted (pairs c.args.entries.now) (pairs ps)
    (pairs_moved c.args.entries.now ps c.sort_unstable.ensures.permutation) once) c.if-place-gt0.true c.loop-place-test.true
    (same_text (slice_index_or ps (i - 1) no_entry).1.0.now (slice_index_or ps i no_entry).1.0.now (sym c.if-eq.true ∙ c.eq.ensures)))

pub returns-clause-sorted : goal.returns-clause-sorted
returns-clause-sorted c =
    let ps : List AbbreviatedKey = c.sort_unstable.new.self in
    subst (IsPermutation (pairs c.args.entries.now))
    (sym (all_taken ps c.loop-place.run c.loop-place.place c.loop-place.invariant.0 c.loop-place-test.false))
    (pairs_moved c.args.entries.now ps c.sort_unstable.ensures.permutation)
