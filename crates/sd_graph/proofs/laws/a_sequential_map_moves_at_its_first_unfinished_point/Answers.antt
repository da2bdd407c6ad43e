use Rattle.sd_graph.proofs.InSequence.{moves_in_sequence}
use Rattle.sd_graph.proofs.laws.a_sequential_map_moves_at_its_first_unfinished_point.Goals as goal

pub returns : goal.returns
returns c = moves_in_sequence
