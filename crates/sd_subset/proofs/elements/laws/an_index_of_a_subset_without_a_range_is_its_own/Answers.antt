use Rattle.sd_subset.proofs.elements_lemmas.Spans.{own_index}
use Rattle.sd_subset.proofs.elements.laws.an_index_of_a_subset_without_a_range_is_its_own.Goals as goal

pub returns : goal.returns
returns c = own_index
