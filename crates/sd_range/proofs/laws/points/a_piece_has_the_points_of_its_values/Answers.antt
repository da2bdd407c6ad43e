use Rattle.sd_range.proofs.PieceLaws.{piece-points}
use Rattle.sd_range.proofs.laws.points.a_piece_has_the_points_of_its_values.Goals as goal

pub returns : goal.returns
returns c = piece-points
