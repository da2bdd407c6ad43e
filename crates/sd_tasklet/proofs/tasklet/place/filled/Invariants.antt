use Rattle.std.proofs.Common.{◌≡◌, ◌-◌, ◌++◌, map, take, replicate, unsigned_abs}
use Rattle.sd_tasklet.proofs.tasklet.place.filled.Given as goal

-- the numbers so far, and zeros behind them
abbrev pub invariant-loop-k : goal.invariant-loop-k
invariant-loop-k l = l.index ≡ map unsigned_abs (take l.k l.at) ++ replicate (4 - l.k) 0
