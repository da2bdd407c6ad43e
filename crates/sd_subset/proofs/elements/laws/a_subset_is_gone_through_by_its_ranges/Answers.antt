use Rattle.sd_subset.proofs.elements_lemmas.Ways.{same_way, are_ranges, are_evaluable}
use Rattle.sd_subset.proofs.elements.laws.a_subset_is_gone_through_by_its_ranges.Goals as goal

pub returns-clause-same : goal.returns-clause-same
returns-clause-same c = same_way

pub returns-clause-ranges : goal.returns-clause-ranges
returns-clause-ranges c = are_ranges

pub returns-clause-evaluable : goal.returns-clause-evaluable
returns-clause-evaluable c = are_evaluable
