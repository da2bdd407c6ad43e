use Rattle.sd_exchange.proofs.kept_lemmas.ValidKept.{interchanged_valid}
use Rattle.sd_exchange.proofs.kept.laws.a_graph_with_maps_interchanged_stays_valid.Goals as goal

pub returns : goal.returns
returns c = interchanged_valid
