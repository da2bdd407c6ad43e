use Rattle.sd_made.proofs.counted_lemmas.CountedNodes.{items_counted}
use Rattle.sd_made.proofs.counted.laws.items_of_a_source_have_so_many_nodes.Goals as goal

pub returns : goal.returns
returns c = items_counted
