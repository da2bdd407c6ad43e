use Rattle.std.proofs.Common.{◌≡◌, map, take}
use Rattle.sd_mem.specs.mem.Holding.{shape_held, contents_held}
use Rattle.sd_mem.proofs.mem.memory.copied.Given as goal

-- what the copies so far hold
abbrev pub invariant-loop-holding : goal.invariant-loop-holding
invariant-loop-holding l = record {
  shapes : map shape_held l.copy.items ≡ map shape_held (take l.holding-index l.holdings);
  contents : map contents_held l.copy.items ≡ map contents_held (take l.holding-index l.holdings);
}
