use Rattle.std.proofs.Common.{◌≡◌}
use Rattle.sd_wire.specs.wiring.Drawing.{with_edges_out}
use Rattle.sd_wire.proofs.wiring.drawing.Drawing.push_edges_out.Given as goal

-- what is drawn so far, with what is left
abbrev pub invariant-loop-passing : goal.invariant-loop-passing
invariant-loop-passing l = with_edges_out l.scope l.own l.from l.self l.passing-iterator.rest.items ≡ with_edges_out l.scope l.own l.from l.initial.self l.initial.passing-iterator.rest.items
