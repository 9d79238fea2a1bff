-- What is answered of inputs, and what is counted, once all passes over them were made.
use Rattle.std.specs.Prelude.{◌≡◌, ◌≢◌, refl, ℕ, ◌+◌, ◌≤◌, min, max, List, [], length, Some, Result, IsErrAnd, IsTrue}
use Rattle.std.specs.List.{AllByRecursion}
use Rattle.std.proofs.Common.{sym, ◌∙◌, subst, arith}
use Rattle.std.proofs.lemmas.Result.{err_from_is_err_and}
use Rattle.agg_protocol.specs.States.{most_rows}
use Rattle.aggregation_cost.specs.Lemmas.BoundLaws.{spilled_few}
use Rattle.hash_agg.proofs.Words.{cost, Setting, Cost, Query, meaning, Entry, Rises, AreGroups, AreInputs, query_of, states_width}
use Rattle.hash_agg.proofs.Words.{setting_in, concatenated, Brought, all_rows, IsInput, IsAggregate, IsRunOver, Given, AllGive}
use Rattle.hash_agg.proofs.Words.{AreSafe, CountUpTo, IsPlan, Stands, setting_for, records_of, all_pieces, AddsUp, Pass, Work}
use Rattle.hash_agg.proofs.Words.{DiskFrame, Ghosts, spill_faults, TapeDamaged}
use Rattle.query_checks.specs.Checks.{Checked}
use Rattle.spill_partitions.specs.declared.error.SpillError.{SpillError}
use Rattle.hash_agg.specs.Counting.{HasFewPasses, IsCounted, Took, cost_given, no_work, told_work, setting_by}
use Rattle.hash_agg.specs.Inputs.{Aggregated, Aggregation}
use Rattle.hash_agg.specs.Lemmas.RanLaws.{Counting, none_grown, reason_is}
use Rattle.hash_agg.specs.Means.{MeansState}
use Rattle.hash_agg.specs.Ran.{Ran, Done, ended}
use Rattle.hash_agg.proofs.CountLaws.{all_made, made_rise, all_few, keys_give, few_keys}
use Rattle.hash_agg.proofs.FewLaws.{few_passes, run_few, records_few}
use Rattle.hash_agg.proofs.FitLaws.{all_fit}
use Rattle.hash_agg.specs.Added.{MadeAll}
use Rattle.hash_agg.proofs.UnionLaws.{all_stand, safe_run}
use Rattle.hash_agg.proofs.WholeLaws.{all_added, all_given, lists_give, keys_are, keys_few}
use Rattle.hash_agg.proofs.WorkLaws.{is_work, cost_counts}

-- what all passes hold in the end is the aggregate
is_aggregate : (q : Query) (hf : List ℕ → ℕ) (inputs : List Brought) (run : List Entry) → AllByRecursion (IsInput q) inputs → Rises run
    → ((givens : List Given) → AllGive q inputs givens → Stands q hf (all_pieces inputs givens) run []) → IsAggregate q inputs run
is_aggregate q hf inputs run all rises stands =
    let given = all_given q inputs all in
    let whole : (givens : List Given) → AllGive q inputs givens → AreGroups q (all_rows inputs) run (all_added q [] givens) = λ givens give.
    subst (AreGroups q (all_rows inputs) run) (all_made q [] inputs givens give)
    (all_stand q hf (all_rows inputs) (all_pieces inputs givens) run (stands givens give) (λ k. all_few q k inputs givens all give) rises
    (made_rise q inputs givens give)) in
    record {
      part = λ lists are.
          let give = lists_give q inputs lists [] are in
          subst (AreGroups q (all_rows inputs) run) give.added (whole give.givens give.give);
      keys = λ lists bring.
          let give = keys_give q inputs lists all bring in
          keys_are q (all_rows inputs) run (all_added q [] give.givens) (concatenated lists) (whole give.givens give.give) (give.added []);
      few = λ lists bring.
          let give = keys_give q inputs lists all bring in
          keys_few run (concatenated lists) (keys_are q (all_rows inputs) run (all_added q [] give.givens) (concatenated lists)
          (whole give.givens give.give) (give.added []));
      is_run = record { groups = all_added q [] given.0; are = whole given.0 given.1; rises = rises };
    }

-- a pass by the plan of a query, whose groups count as many rows as there are at most
pub plan_counts : {H : Type 0} (pass : Pass H) (inputs : List Brought) (givens : List Given) → pass.plan.most ≡ all_rows inputs
    → AllByRecursion (IsInput (query_of pass)) inputs → AllGive (query_of pass) inputs givens
    → CountUpTo (query_of pass) pass.plan.most (all_pieces inputs givens)
plan_counts pass inputs givens most all give k = let few = all_few (query_of pass) k inputs givens all give in omega (arith, few, most)

-- its setting is that of the means
pub set_by : {H : Type 0} (hash_of : H → List ℕ → ℕ) (pass : Pass H) (limit : ℕ) (hash : H) → IsPlan pass.plan → pass.plan.limit ≡ limit
    → pass.groups.hash ≡ hash → setting_in hash_of pass ≡ setting_for (query_of pass) limit (hash_of hash)
set_by hash_of pass limit hash plan limited hashed = λ i. record { limit = limited i; width = plan.width i; hash = hash_of (hashed i) }

-- ---- a refusal

-- what `aggregate` leaves where it is refused: it tells no work
pub refused_ran : {Answer D H : Type 0} (g : Ghosts D) (hash_of : H → List ℕ → ℕ) (query : Checked) (means : MeansState H)
    (Counts : Counting) (r : Result (Answer × Work) SpillError) (e : SpillError) (before after : D) → IsErrAnd r (λ x. x ≡ e)
    → DiskFrame g (spill_faults e) before after → (IsTrue (g.honest before) → e ≢ TapeDamaged)
    → Ran g hash_of query means Counts (ended r) before no_work after (told_work r)
refused_ran g hash_of query means Counts r e before after given leaves undamaged =
    let p = err_from_is_err_and r given in
    subst (λ r. Ran g hash_of query means Counts (ended r) before no_work after (told_work r)) (sym p.1)
    (record {
      disk = subst (λ e. DiskFrame g (spill_faults e) before after) (sym p.2) leaves;
      undamaged = λ honest same. undamaged honest (sym p.2 ∙ error_is p.0 TapeDamaged (reason_is same));
      counted = tt;
      uncounted = refl;
      grown = none_grown means.limit no_work;
    })
  where
    error_is : (one other : SpillError) → Some one ≡ Some other → one ≡ other
    error_is one other same = cc

-- ---- an answer

passes_few : (work : Work) (c : Cost) (most : ℕ) → AddsUp no_work c work → c.passes ≤ most → work.passes ≤ most
passes_few work c most adds few = let p = adds.passes in omega (arith, p, few)

module _ {H D : Type 0} (hash_of : H → List ℕ → ℕ) (g : Ghosts D) (query : Checked) (means : MeansState H) (inputs : List Brought)
    (pass : Pass H) (before : D) (plan : IsPlan pass.plan) (queried : pass.plan.query.now ≡ query) (most : pass.plan.most ≡ all_rows inputs)
    (limited : pass.plan.limit ≡ means.limit) (hashed : pass.groups.hash ≡ means.hash) (given : AreInputs (meaning query) most_rows inputs)
  where
    abbrev setting : Setting
    setting = setting_in hash_of pass

    are : AllByRecursion (IsInput (query_of pass)) inputs
    are = subst (λ (query : Checked). AllByRecursion (IsInput (meaning query)) inputs) (sym queried) given.are

    set_is : setting ≡ setting_for (query_of pass) means.limit (hash_of means.hash)
    set_is = set_by hash_of pass means.limit means.hash plan limited hashed

    module _ (begun : Work) (run : List Entry) (after : D) (work : Work) (made : MadeAll hash_of g inputs pass before begun run after work)
      where
        counts : (givens : List Given) → AllGive (query_of pass) inputs givens
            → CountUpTo (query_of pass) pass.plan.most (all_pieces inputs givens)
        counts givens give = plan_counts pass inputs givens most are give

        aggregate_of : IsTrue (g.honest before) → IsAggregate (query_of pass) inputs run
        aggregate_of honest = is_aggregate (query_of pass) setting.hash inputs run are made.safe.rises
            (λ givens give. (made.whole honest givens give (counts givens give)).stands)

        pub answer_is : Aggregated (g.honest before) (meaning query) inputs run
        answer_is = record {
          aggregate = λ honest. subst (λ (query : Checked). IsAggregate (meaning query) inputs run) queried (aggregate_of honest);
          run_over =
              subst (λ (query : Checked). IsRunOver (meaning query) inputs run) queried
              (record {
                is_run = safe_run (query_of pass) (all_rows inputs) run (subst (λ most. AreSafe (query_of pass) most run) most made.safe.safe)
                    made.safe.rises;
                few = λ lists bring. few_keys (query_of pass) inputs lists (length run) are made.few bring;
              });
        }

        pub answer_few : IsTrue (g.honest before) → HasFewPasses (meaning query) (setting_by hash_of (meaning query) means) inputs (length run)
        answer_few honest =
            subst (λ (query : Checked). HasFewPasses (meaning query) (setting_by hash_of (meaning query) means) inputs (length run)) queried
            (λ givens give.
            subst (λ (set : Setting). (cost set (records_of (query_of pass) set.width (all_pieces inputs givens))).passes
            ≤ max 1 (length run)) set_is
            (few_passes (query_of pass) setting inputs givens run (aggregate_of honest) give
            (all_fit (query_of pass) setting inputs givens plan.formed plan.limit plan.narrow give)))

        pub answer_counted : IsTrue (g.honest before) → IsCounted inputs (meaning query) (setting_by hash_of (meaning query) means) begun
            (g.writes before) work (g.writes after)
        answer_counted honest =
            subst (λ (query : Checked). IsCounted inputs (meaning query) (setting_by hash_of (meaning query) means) begun (g.writes before) work
            (g.writes after)) queried
            (record {
              work = λ givens give.
                  subst (λ (set : Setting). AddsUp begun (cost set (records_of (query_of pass) set.width (all_pieces inputs givens))) work)
                  set_is (made.whole honest givens give (counts givens give)).adds;
              pages = λ givens give.
                  subst (λ (set : Setting). g.writes after
                  ≡ g.writes before + (cost set (records_of (query_of pass) set.width (all_pieces inputs givens))).pages) set_is
                  (made.whole honest givens give (counts givens give)).paged;
            })

        pub answer_held : begun.most_held ≤ means.limit → work.most_held ≤ means.limit
        answer_held low = subst (λ limit. work.most_held ≤ limit) limited (made.within.held (subst (λ limit. begun.most_held ≤ limit)
            (sym limited) low))

    -- the same where nothing was counted before
    module _ (run : List Entry) (after : D) (work : Work) (made : MadeAll hash_of g inputs pass before no_work run after work) where
      answer_took : IsTrue (g.honest before) → Took inputs (meaning query) (setting_by hash_of (meaning query) means) no_work
          (g.writes before) work (g.writes after)
      answer_took honest =
          let q : Query = meaning query in
          let set : Setting = setting_by hash_of q means in
          let counted = answer_counted no_work run after work made honest in
          record {
            counted = counted;
            work = λ groups givens give.
                let passes = answer_few no_work run after work made honest givens give in
                let many = run_few q (states_width q) inputs givens run (answer_is no_work run after work made).run_over give in
                let records = records_few q (states_width q) inputs givens give in
                let spilled = spilled_few set (records_of q (states_width q) (all_pieces inputs givens)) in
                let low = given.few in
                let counts = cost_counts (cost_given q set inputs givens) (length (records_of q (states_width q) (all_pieces inputs givens)))
                (omega (arith, passes, many)) spilled (omega (arith, records, low, groups)) in
                is_work no_work work (cost_given q set inputs givens) refl (counted.work givens give) counts.0 counts.1;
          }

      pub aggregation_is : Aggregation (g.honest before) (meaning query) inputs (run, work)
      aggregation_is = record {
        aggregated = answer_is no_work run after work made;
        passes = made.within.counted;
        few = λ honest.
            let one = all_given (meaning query) inputs given.are in
            passes_few work (cost_given (meaning query) (setting_by hash_of (meaning query) means) inputs one.0) (max 1 (length run))
            ((answer_counted no_work run after work made honest).work one.0 one.1)
            (answer_few no_work run after work made honest one.0 one.1);
      }

      pub aggregation_ran : DiskFrame g 0 before after → Ran g hash_of query means (Took inputs) Done before no_work after work
      aggregation_ran leaves = record {
        disk = leaves;
        undamaged = λ honest same. absurd cc;
        counted = answer_took;
        uncounted = tt;
        grown =
            let within : work.most_held ≤ means.limit = answer_held no_work run after work made (omega arith) in
            record { passes = omega arith; spilled = omega arith; held = omega arith; within = omega (arith, within) };
      }

-- ---- a run that more is folded into

adds_told : (old told new : Work) (c : Cost) → AddsUp no_work c told → new.passes ≡ min (old.passes + told.passes) 18446744073709551615
    → new.spilled ≡ min (old.spilled + told.spilled) 340282366920938463463374607431768211455
    → new.most_held ≡ max old.most_held told.most_held → AddsUp old c new
adds_told old told new c adds passes spilled held =
    let p = adds.passes in
    let s = adds.spilled in
    let m = adds.most_held in
    record { passes = omega (arith, passes, p); spilled = omega (arith, spilled, s); most_held = omega (arith, held, m) }

-- what an aggregation told is added to the work
pub fold_ran : {D H : Type 0} (g : Ghosts D) (hash_of : H → List ℕ → ℕ) (query : Checked) (means : MeansState H) (inputs : List Brought)
    (before after : D) (old told new : Work) → Ran g hash_of query means (Took inputs) Done before no_work after told
    → new.passes ≡ min (old.passes + told.passes) 18446744073709551615
    → new.spilled ≡ min (old.spilled + told.spilled) 340282366920938463463374607431768211455
    → new.most_held ≡ max old.most_held told.most_held → (old.passes ≤ new.passes) × (old.spilled ≤ new.spilled)
    → Ran g hash_of query means (IsCounted inputs) Done before old after new
fold_ran g hash_of query means inputs before after old told new ran passes spilled held up = record {
  disk = ran.disk;
  undamaged = λ honest same. absurd cc;
  counted = λ honest.
      let took = ran.counted honest in
      record {
        work = λ givens give. adds_told old told new _ (took.counted.work givens give) passes spilled held;
        pages = took.counted.pages;
      };
  uncounted = tt;
  grown =
      let mine = ran.grown.within in
      record { passes = up.0; spilled = up.1; held = omega (arith, held); within = omega (arith, held, mine) };
}
