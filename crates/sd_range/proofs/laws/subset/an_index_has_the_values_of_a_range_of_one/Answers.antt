use Rattle.sd_range.proofs.SubsetLaws.{index-range}
use Rattle.sd_range.proofs.laws.subset.an_index_has_the_values_of_a_range_of_one.Goals as goal

pub returns : goal.returns
returns c = index-range
