use Rattle.std.proofs.Common.{◌≡◌, take}
use Rattle.sd_wire.specs.wiring.Drawing.{current_node}
use Rattle.sd_wire.proofs.wiring.drawing.Row.current_node.Given as goal

-- the last one so far
abbrev pub invariant-loop-other : goal.invariant-loop-other
invariant-loop-other l = l.found ≡ current_node (take l.other-index l.other-items) l.container
