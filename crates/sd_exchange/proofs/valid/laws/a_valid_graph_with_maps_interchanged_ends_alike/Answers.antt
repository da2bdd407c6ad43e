use Rattle.sd_exchange.proofs.valid_lemmas.ValidOrder.{interchanged-alike}
use Rattle.sd_exchange.proofs.valid.laws.a_valid_graph_with_maps_interchanged_ends_alike.Goals as goal

pub returns : goal.returns
returns c = record {
  ends = λ tree path valid normal pools leads. (interchanged-alike tree path valid normal pools leads).0;
  began = λ tree path valid normal pools leads. (interchanged-alike tree path valid normal pools leads).1;
}
