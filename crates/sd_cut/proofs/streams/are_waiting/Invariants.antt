use Rattle.std.proofs.Common.{◌≡◌, take}
use Rattle.sd_work.specs.Memory.{waiting}
use Rattle.sd_mem.specs.mem.Shaped.{alone}
use Rattle.sd_cut.proofs.streams.are_waiting.Given as goal

-- the values so far are these
abbrev pub invariant-loop-position : goal.invariant-loop-position
invariant-loop-position l = take l.position (waiting 0 l.container (alone l.memory)) ≡ take l.position l.values
