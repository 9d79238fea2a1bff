use Rattle.std.proofs.Common.{◌≡◌, ◌+◌, ◌++◌, ◌||◌, not, ℕ, true, List, Some, None, cond, drop, length, take, sym, ap, ◌∙◌, subst, arith, flat_map, BTreeMap, IsTrue}
use Rattle.std.proofs.lemmas.Bool.{true≢false}
use Rattle.std.specs.Option.{is_some}
use Rattle.std.specs.Ordering.{eq_by_cmp, nat_cmp}
use Rattle.origin_prefix.specs.Joins.{either}
use Rattle.origin_prefix.specs.Parts.{Batches, rows_at}
use Rattle.summary_codec.specs.Gathered.{AreSomeOf}
use Rattle.summary_codec.proofs.GatheringLaws.{counted, each_more, had_more, in_all, its_rows, one_more, some_more, there}
use Rattle.summary_codec.proofs.gathering.put_some.Goals.{then-puts+in_ok-put_missing, else-puts}
use Rattle.summary_codec.proofs.gathering.put_some.Goals as goal

pub put_missing-requires : goal.put_missing-requires
put_missing-requires c =
    let low = there c.args.batches.now c.loop-number.number-index c.loop-number-item.result c.loop-number-test.true
    c.loop-number-item.is in
    let first = c.loop-number.invariant.first in
    let count = c.len-count.ensures in
    let all = ap length c.requires in
    omega (arith, low, first, count, all)

pub overflow_add-first : goal.overflow_add-first
overflow_add-first c =
    let low = there c.args.batches.now c.loop-number.number-index c.loop-number-item.result c.loop-number-test.true
    c.loop-number-item.is in
    let first = c.loop-number.invariant.first in
    let count = c.len-count.ensures in
    let all = ap length c.requires in
    let most = c.len-most.ensures in
    omega (arith, low, first, count, all, most)

pub loop-number-preserved : goal.loop-number-preserved
loop-number-preserved c =
    let batches : Batches = c.args.batches.now in
    let i = c.loop-number.number-index in
    let batch = c.loop-number-item.result in
    let low = c.loop-number-test.true in
    let is = c.loop-number-item.is in
    let es : Batches = c.loop-number.early.entries in
    let first : c.loop-number.first + c.len-count.result ≡ length (flat_map (λ (b : ℕ × List (List ℕ)). b.1) (take (i + 1) batches)) =
    (λ j. c.loop-number.invariant.first j + c.len-count.ensures j) ∙ counted batches i batch low is in
    let puts : IsTrue c.args.each → IsTrue (c.args.each || not c.loop-number.puts) = λ each. ap (λ b. b || not c.loop-number.puts) each in
    elim c.if-puts.branch [
      | then-puts+in_ok-put_missing w ↦
          let new : Batches = w.put_missing.new.early.entries in
          let same : new ≡ c.if-puts.early.entries = ap (λ (m : BTreeMap ℕ (List (List ℕ))). m.entries) (sym w.early-is) in
          let rows : take c.len-count.result (drop c.loop-number.first c.args.block.now) ≡ batch.1 =
          (λ j. take (c.len-count.ensures j) (drop (c.loop-number.invariant.first j) (c.requires j))) ∙ its_rows batches i batch low is in
          let put : (n : ℕ) → rows_at new n ≡ either (rows_at es n) (cond (eq_by_cmp nat_cmp batch.0 n) (Some batch.1) None) =
          λ n. w.in_ok-put_missing.ensures.put n
          ∙ ap (λ r. either (rows_at es n) (cond (eq_by_cmp nat_cmp batch.0 n) (Some r) None)) rows in
          record {
            first = first;
            some = λ old rise before.
                let some = c.loop-number.invariant.some old rise before in
                subst (AreSomeOf (old ++ batches)) same
                (some_more es new batch put (old ++ batches) (in_all batches i batch low is old rise)
                (w.in_ok-put_missing.ensures.rising some.rise) some);
            had = λ n had. subst (λ l. is_some (rows_at l n) ≡ true) same
                (had_more es new batch put n (c.loop-number.invariant.had n had));
            puts = puts;
            each = λ each n there. subst (λ l. is_some (rows_at l n) ≡ true) same
                (each_more es new batch put (take i batches) (c.loop-number.invariant.each each) n
                (subst (λ l. is_some (rows_at l n) ≡ true) (sym (one_more batches i batch low is)) there));
          }
      | else-puts w ↦
          let same : es ≡ c.if-puts.early.entries = ap (λ (m : BTreeMap ℕ (List (List ℕ))). m.entries) (sym w.early-is) in
          record {
            first = first;
            some = λ old rise before. subst (AreSomeOf (old ++ batches)) same (c.loop-number.invariant.some old rise before);
            had = λ n had. subst (λ l. is_some (rows_at l n) ≡ true) same (c.loop-number.invariant.had n had);
            puts = puts;
            each = λ each n there. absurd (true≢false (sym (c.loop-number.invariant.puts each) ∙ w.if-puts.false));
          }
    ]
