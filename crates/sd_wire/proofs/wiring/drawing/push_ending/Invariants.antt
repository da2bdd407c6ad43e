use Rattle.std.proofs.Common.{◌≡◌, ◌++◌, map}
use Rattle.sd_wire.specs.wiring.Drawing.{ending_at}
use Rattle.sd_wire.proofs.wiring.drawing.push_ending.Given as goal

-- what is there so far, with what is left
abbrev pub invariant-loop-edge : goal.invariant-loop-edge
invariant-loop-edge l = l.edges ++ map (ending_at l.to) l.edge-iterator.rest.items ≡ l.initial.edges ++ map (ending_at l.to) l.initial.edge-iterator.rest.items
