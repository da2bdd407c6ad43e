use Rattle.sd_range.proofs.PieceLaws.{pieces-all}
use Rattle.sd_range.proofs.laws.points.pieces_partition_the_points.Goals as goal

pub returns : goal.returns
returns c = pieces-all
