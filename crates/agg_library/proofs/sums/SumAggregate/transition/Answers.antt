use Rattle.std.proofs.Common.{◌≡◌, ap, ◌∙◌, sym, ◌+◌, ◌+ℤ◌, rules}
use Rattle.std.proofs.lemmas.Int.{to_z-of_z}
use Rattle.std.specs.Int.{w64, cast_signed, cast_unsigned}
use Rattle.grouping_model.specs.Aggregates.{Sum, Summed}
use Rattle.grouping_model.specs.Combining.{transition}
use Rattle.packed_rows.specs.View.{datum_of}
use Rattle.agg_protocol.specs.Lemmas.ArgumentLaws.{moved_list}
use Rattle.agg_library.proofs.ArgumentSteps.{sum_kept}
use Rattle.agg_library.proofs.sums.SumAggregate.transition.Goals as goal

pub returns-in-Bigint-clause-moves : goal.returns-in-Bigint-clause-moves
returns-in-Bigint-clause-moves c =
    let same : cast_signed w64 (cast_unsigned w64 c.in-Bigint.number) ≡ c.in-Bigint.number = search (rules, to_z-of_z) in
    (λ j. Summed
    ((c.and.ensures.how_many ∙ ap (λ n. c.args.state.how_many + n) c.of.ensures.how_many) j)
    ((c.and.ensures.total ∙ ap (λ z. c.args.state.total +ℤ z) (c.of.ensures.total ∙ same)) j))
    ∙ ap (transition Sum (Summed c.args.state.how_many c.args.state.total)) (sym (ap datum_of c.in-Bigint.is))

pub returns-in-Bigint-clause-of_list : goal.returns-in-Bigint-clause-of_list
returns-in-Bigint-clause-of_list c =
    moved_list Sum (Summed c.args.state.how_many c.args.state.total) (Summed c.and.result.how_many c.and.result.total)
    (datum_of c.args.value) c.requires.takes (returns-in-Bigint-clause-moves c)

pub returns-in_default : goal.returns-in_default
returns-in_default c =
    let moves = sum_kept c.args.state.how_many c.args.state.total c.args.value c.in_default.not-Bigint in
    record {
      moves = moves;
      of_list = moved_list Sum (Summed c.args.state.how_many c.args.state.total)
          (Summed c.args.state.how_many c.args.state.total) (datum_of c.args.value) c.requires.takes moves;
    }
