use Rattle.std.proofs.Common.{◌≡◌, take}
use Rattle.sd_tasklet.proofs.literals.lifting.ports.Given as goal

-- the connectors so far
abbrev pub invariant-loop-port : goal.invariant-loop-port
invariant-loop-port l = l.copy.items ≡ take l.port-index l.all
