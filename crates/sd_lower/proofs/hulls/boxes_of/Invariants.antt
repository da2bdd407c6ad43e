use Rattle.std.proofs.Common.{◌≡◌, take}
use Rattle.sd_lower.specs.Hulls.{boxes_of}
use Rattle.sd_lower.proofs.hulls.boxes_of.Given as goal

-- those so far
abbrev pub invariant-loop-access : goal.invariant-loop-access
invariant-loop-access l = l.boxes.items ≡ boxes_of (take l.access-index l.accesses) l.container
