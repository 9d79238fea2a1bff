use Rattle.grouping_model.specs.Sorting.{sorted_moves, sorted_in_order, sorted_stable}
use Rattle.grouping_model.specs.Order.{comes_before}
use Rattle.grouping_model.specs.OrderLaws.{any_compare, ordered_once, unordered as without_terms}
use Rattle.grouping_model.proofs.ordering_rows.Goals as goal

pub returns-clause-same_rows : goal.returns-clause-same_rows
returns-clause-same_rows c = λ terms rows. sorted_moves (comes_before terms) rows

pub returns-clause-in_order : goal.returns-clause-in_order
returns-clause-in_order c = λ terms rows. sorted_in_order (comes_before terms) (any_compare terms) rows

pub returns-clause-ties : goal.returns-clause-ties
returns-clause-ties c = λ terms rows. sorted_stable (comes_before terms) (any_compare terms) rows

pub returns-clause-one : goal.returns-clause-one
returns-clause-one c = λ terms rows found sorted stable. ordered_once terms rows found sorted stable

pub returns-clause-unordered : goal.returns-clause-unordered
returns-clause-unordered c = without_terms
