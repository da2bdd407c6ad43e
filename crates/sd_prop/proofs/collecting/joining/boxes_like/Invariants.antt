use Rattle.std.proofs.Common.{◌≡◌, take}
use Rattle.sd_prop.specs.propagation.Joined.{boxes_like}
use Rattle.sd_prop.proofs.collecting.joining.boxes_like.Given as goal

-- those so far
abbrev pub invariant-loop-other : goal.invariant-loop-other
invariant-loop-other l = l.boxes.items ≡ boxes_like l.access (take l.other-index l.accesses)
