use Rattle.sd_exchange.proofs.valid_lemmas.ValidOrder.{tiled-alike}
use Rattle.sd_exchange.proofs.valid.laws.a_valid_graph_with_a_map_tiled_ends_alike.Goals as goal

pub returns : goal.returns
returns c = record {
  ends = λ sizes names tree path valid normal pools leads. (tiled-alike sizes names tree path valid normal pools leads).0;
  began = λ sizes names tree path valid normal pools leads. (tiled-alike sizes names tree path valid normal pools leads).1;
}
