use Rattle.sd_made.proofs.counted_lemmas.DrawnNodes.{items_drawn}
use Rattle.sd_made.proofs.counted.laws.items_are_drawn_with_so_many_nodes.Goals as goal

pub returns : goal.returns
returns c = items_drawn
