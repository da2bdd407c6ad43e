use Rattle.std.proofs.Common.{◌≡◌, take}
use Rattle.sd_wire.specs.wiring.Drawing.{without_node}
use Rattle.sd_wire.proofs.wiring.drawing.Drawing.without_node.Given as goal

-- those found so far
abbrev pub invariant-loop-container : goal.invariant-loop-container
invariant-loop-container l = l.found.items ≡ without_node l.self.row.current (take l.container-index l.containers)
