use Rattle.sd_exchange.proofs.tiles_lemmas.ManyTiles.{tiles_do_same}
use Rattle.sd_exchange.proofs.tiles.laws.a_map_over_tiles_does_the_same_as_the_points_of_its_tiles.Goals as goal

pub returns : goal.returns
returns c = tiles_do_same
