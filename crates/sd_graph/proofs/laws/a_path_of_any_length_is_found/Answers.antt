use Rattle.sd_graph.proofs.LoopPaths.{paths_are_found}
use Rattle.sd_graph.proofs.laws.a_path_of_any_length_is_found.Goals as goal

pub returns : goal.returns
returns c = paths_are_found
