use Rattle.sd_exchange.proofs.kept_lemmas.ValidKept.{tiled_valid}
use Rattle.sd_exchange.proofs.kept.laws.a_graph_with_a_map_tiled_stays_valid.Goals as goal

pub returns : goal.returns
returns c = tiled_valid
