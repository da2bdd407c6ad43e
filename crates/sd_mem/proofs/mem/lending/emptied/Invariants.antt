use Rattle.std.proofs.Common.{◌≡◌, map, take}
use Rattle.sd_mem.specs.mem.Holding.{shape_held}
use Rattle.sd_mem.proofs.mem.lending.emptied.Given as goal

-- the extents so far
abbrev pub invariant-loop-holding : goal.invariant-loop-holding
invariant-loop-holding l = map shape_held l.emptied.items ≡ map shape_held (take l.holding-index l.holdings)
