use Rattle.sd_valid.proofs.SizedLaws.{bound-value, bound-range, bound-points, bound-elements, bound-counts, bound-index}
use Rattle.sd_valid.proofs.laws.what_is_bound_has_its_values_at_the_sizes.Goals as goal

pub returns-clause-value : goal.returns-clause-value
returns-clause-value c = bound-value

pub returns-clause-range : goal.returns-clause-range
returns-clause-range c = bound-range

pub returns-clause-points : goal.returns-clause-points
returns-clause-points c = bound-points

pub returns-clause-elements : goal.returns-clause-elements
returns-clause-elements c = bound-elements

pub returns-clause-extents : goal.returns-clause-extents
returns-clause-extents c = λ sizes values subset. bound-counts sizes values subset.dims

pub returns-clause-index : goal.returns-clause-index
returns-clause-index c = λ sizes values at subset. bound-index sizes values subset.dims at
