use Rattle.sd_alike.proofs.alike_lemmas.KeptMaps.{collapsed_kept, expanded_kept, tiled_kept}
use Rattle.sd_alike.proofs.alike.laws.a_rewritten_graph_names_its_variables.Goals as goal

pub returns : goal.returns
returns c = record { collapsed = collapsed_kept; expanded = expanded_kept; tiled = tiled_kept }
