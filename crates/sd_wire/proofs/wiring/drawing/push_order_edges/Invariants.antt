use Rattle.std.proofs.Common.{◌≡◌, ◌++◌, take}
use Rattle.sd_wire.specs.wiring.Drawing.{order_edges}
use Rattle.sd_wire.proofs.wiring.drawing.push_order_edges.Given as goal

-- those so far
abbrev pub invariant-loop-item : goal.invariant-loop-item
invariant-loop-item l = l.edges ≡ l.initial.edges ++ order_edges (take l.item-index l.earlier) l.to l.uses
