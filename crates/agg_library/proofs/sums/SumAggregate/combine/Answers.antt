use Rattle.grouping_model.specs.Aggregates.{Sum, Summed}
use Rattle.agg_protocol.specs.Lemmas.ArgumentLaws.{combined_lists}
use Rattle.agg_library.proofs.sums.SumAggregate.combine.Goals as goal

pub returns-clause-of_lists : goal.returns-clause-of_lists
returns-clause-of_lists c =
    combined_lists Sum (Summed c.args.a.how_many c.args.a.total) (Summed c.args.b.how_many c.args.b.total)
    (Summed c.and.result.how_many c.and.result.total)
    (λ j. Summed (c.and.ensures.how_many j) (c.and.ensures.total j))
