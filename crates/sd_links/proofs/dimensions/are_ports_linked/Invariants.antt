use Rattle.std.proofs.Common.{◌≡◌, length}
use Rattle.sd_validity.specs.rules.Dimensions as dimensions
use Rattle.sd_links.proofs.dimensions.are_ports_linked.Given as goal

-- those left are linked where all are
abbrev pub invariant-loop-port : goal.invariant-loop-port
invariant-loop-port l = dimensions.are_ports_linked l.left l.right ≡ dimensions.are_ports_linked l.ports l.links

-- the connectors that are left
abbrev pub decreases-loop-port : goal.decreases-loop-port
decreases-loop-port l = length l.left
