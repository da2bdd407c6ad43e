use Rattle.std.proofs.Common.{◌≡◌, take}
use Rattle.sd_range.proofs.range.Range.copy_of.Given as goal

-- the ends so far
abbrev pub invariant-loop-end : goal.invariant-loop-end
invariant-loop-end l = l.ends.items ≡ take l.end-index l.self.ends
