use Rattle.sd_range.proofs.SubsetLaws.{inside-each, inside-from_each, whole-members, whole-count, whole-in_order}
use Rattle.sd_range.proofs.laws.subset.an_index_is_inside_where_each_number_is_one_of_its_extent.Goals as goal

pub returns-clause-numbers : goal.returns-clause-numbers
returns-clause-numbers c = λ extents index. (inside-each extents index, inside-from_each extents index)

pub returns-clause-members : goal.returns-clause-members
returns-clause-members c = whole-members

pub returns-clause-count : goal.returns-clause-count
returns-clause-count c = whole-count

pub returns-clause-order : goal.returns-clause-order
returns-clause-order c = whole-in_order
