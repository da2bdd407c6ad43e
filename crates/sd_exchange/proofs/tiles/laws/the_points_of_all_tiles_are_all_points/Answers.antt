use Rattle.sd_exchange.proofs.tiles_lemmas.ManyTiles.{all-shuffled}
use Rattle.sd_exchange.proofs.tiles.laws.the_points_of_all_tiles_are_all_points.Goals as goal

pub returns : goal.returns
returns c = all-shuffled
