use Rattle.std.proofs.Common.{◌≡◌, drop}
use Rattle.sd_wire.specs.wiring.Drawing.{with_accesses}
use Rattle.sd_wire.proofs.wiring.drawing.Drawing.push_accesses.Given as goal

-- what is drawn so far, with what is left
abbrev pub invariant-loop-container : goal.invariant-loop-container
invariant-loop-container l = with_accesses l.scope l.line l.self (drop l.container-index l.containers) ≡ with_accesses l.scope l.line l.initial.self l.containers
