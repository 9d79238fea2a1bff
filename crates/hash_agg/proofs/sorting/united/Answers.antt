use Rattle.std.specs.Prelude.{◌≡◌, ◌≢◌, ◌∷◌, List}
use Rattle.std.specs.List.{All}
use Rattle.std.specs.List.Sorted.{IsPermutation}
use Rattle.std.proofs.Common.{sym, ◌∙◌, ap, subst}
use Rattle.std.proofs.lemmas.List.{take_all}
use Rattle.std.proofs.lemmas.List.Sorted.{All-permutation, IsPermutation-trans}
use Rattle.std.proofs.lemmas.Result.{IfErr-weaker, IfOk-weaker}
use Rattle.hash_agg.proofs.Words.{TapeDamaged, AbbreviatedKey, Entry, IsAbbreviated, concatenated, AreOnce, pairs}
use Rattle.hash_agg.proofs.SortLaws.{once_permuted, pairs_moved}
use Rattle.hash_agg.proofs.sorting.united.Goals as goal

-- entries that are put in order are those of the runs
moved : (all : List Entry) (before after slice : List AbbreviatedKey) → pairs before ≡ all → IsPermutation before after → slice ≡ after
    → IsPermutation all (pairs slice)
moved all before after slice whole sorted same =
    subst (λ (es : List AbbreviatedKey). IsPermutation all (pairs es)) (sym same)
    (subst (λ (es : List Entry). IsPermutation es (pairs after)) whole (pairs_moved before after sorted))

pub sort_distinct-requires : goal.sort_distinct-requires
sort_distinct-requires c =
    record {
      abbreviated =
          subst (λ (es : List AbbreviatedKey). All IsAbbreviated es) (sym c.as_mut_slice.ensures.value)
          (All-permutation IsAbbreviated c.loop-run.entries.items c.sort.new.self.items c.sort.ensures.permutation c.loop-run.invariant.1);
    }

pub returns-clause-sorted : goal.returns-clause-sorted
returns-clause-sorted c =
    let all = concatenated (c.args.first.now ∷ c.args.others.now) in
    let whole : pairs c.loop-run.entries.items ≡ all = c.loop-run.invariant.0
    ∙ ap (λ runs. concatenated (c.args.first.now ∷ runs)) (take_all c.loop-run.run-index c.args.others.now c.loop-run-test.false) in
    let same = moved all c.loop-run.entries.items c.sort.new.self.items c.as_mut_slice.result.now whole c.sort.ensures.permutation
    c.as_mut_slice.ensures.value in
    IfOk-weaker c.sort_distinct.result (IsPermutation (pairs c.as_mut_slice.result.now)) (IsPermutation all)
    (λ run sorted. IsPermutation-trans all (pairs c.as_mut_slice.result.now) run same sorted) c.sort_distinct.ensures.sorted

pub returns-clause-undamaged : goal.returns-clause-undamaged
returns-clause-undamaged c =
    let all = concatenated (c.args.first.now ∷ c.args.others.now) in
    let whole : pairs c.loop-run.entries.items ≡ all = c.loop-run.invariant.0
    ∙ ap (λ runs. concatenated (c.args.first.now ∷ runs)) (take_all c.loop-run.run-index c.args.others.now c.loop-run-test.false) in
    let same = moved all c.loop-run.entries.items c.sort.new.self.items c.as_mut_slice.result.now whole c.sort.ensures.permutation
    c.as_mut_slice.ensures.value in
    IfErr-weaker c.sort_distinct.result (λ error. AreOnce (pairs c.as_mut_slice.result.now) → error ≢ TapeDamaged)
    (λ error. AreOnce all → error ≢ TapeDamaged)
    (λ error undamaged once. undamaged (once_permuted all (pairs c.as_mut_slice.result.now) same once)) c.sort_distinct.ensures.undamaged
