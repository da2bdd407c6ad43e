use Rattle.std.proofs.Common.{ℕ, ◌<◌}
use Rattle.sd_tcode.specs.tcode.Held.{IsWholeAt, given}
use Rattle.sd_tcode.proofs.tcode.frame.Frame.is_whole.Given as goal

-- those so far are whole
abbrev pub invariant-loop-connector : goal.invariant-loop-connector
invariant-loop-connector l = (other : ℕ) → other < l.connector → IsWholeAt (given l.self) other
