use Rattle.std.proofs.Common.{◌≡◌, drop}
use Rattle.sd_part.specs.Hulls.{has_index}
use Rattle.sd_piece.proofs.held.has_index.Given as goal

-- what is left decides
abbrev pub invariant-loop-interval : goal.invariant-loop-interval
invariant-loop-interval l = has_index l.intervals ≡ has_index (drop l.interval-index l.intervals)
