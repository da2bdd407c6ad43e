use Rattle.sd_mapx.proofs.NormalLaws.{collapsed_normal, expanded_normal, interchanged_normal, tiled_normal}
use Rattle.sd_mapx.proofs.laws.rewritten_graphs_are_normal.Goals as goal

pub returns : goal.returns
returns c = record { collapsed = collapsed_normal; expanded = expanded_normal; interchanged = interchanged_normal; tiled = tiled_normal }
