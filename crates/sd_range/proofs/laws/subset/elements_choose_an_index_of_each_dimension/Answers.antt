use Rattle.sd_range.proofs.SubsetLaws.{elements-members, elements-count, elements-in_order}
use Rattle.sd_range.proofs.laws.subset.elements_choose_an_index_of_each_dimension.Goals as goal

pub returns-clause-members : goal.returns-clause-members
returns-clause-members c = λ subset values index. elements-members subset.dims values index

pub returns-clause-count : goal.returns-clause-count
returns-clause-count c = λ subset values. elements-count subset.dims values

pub returns-clause-order : goal.returns-clause-order
returns-clause-order c = λ subset values each. elements-in_order subset.dims values each
