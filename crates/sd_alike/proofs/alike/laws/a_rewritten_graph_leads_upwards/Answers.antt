use Rattle.sd_alike.proofs.alike_lemmas.KeptUpwards.{collapsed_up, expanded_up, tiled_up}
use Rattle.sd_alike.proofs.alike.laws.a_rewritten_graph_leads_upwards.Goals as goal

pub returns : goal.returns
returns c = record { collapsed = collapsed_up; expanded = expanded_up; tiled = tiled_up }
