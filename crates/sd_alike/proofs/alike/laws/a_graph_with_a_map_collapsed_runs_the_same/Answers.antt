use Rattle.sd_alike.proofs.alike_lemmas.CollapsedMaps.{collapsed_runs_same}
use Rattle.sd_alike.proofs.alike.laws.a_graph_with_a_map_collapsed_runs_the_same.Goals as goal

pub returns : goal.returns
returns c = collapsed_runs_same
