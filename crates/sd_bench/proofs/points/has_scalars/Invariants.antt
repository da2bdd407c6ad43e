use Rattle.std.proofs.Common.{ℕ, ◌<◌}
use Rattle.sd_tcode.specs.tcode.Held.{given, room_for}
use Rattle.sd_bench.proofs.points.has_scalars.Given as goal

-- there is an element for each so far
abbrev pub invariant-loop-connector : goal.invariant-loop-connector
invariant-loop-connector l = (other : ℕ) → other < l.connector → 0 < room_for (given l.frame) other
