use Rattle.std.proofs.Common.{◌≡◌, take}
use Rattle.sd_lower.proofs.hulls.copied_hulls.Given as goal

-- those so far
abbrev pub invariant-loop-hulls : goal.invariant-loop-hulls
invariant-loop-hulls l = l.copy.items ≡ take l.hulls-index l.each
