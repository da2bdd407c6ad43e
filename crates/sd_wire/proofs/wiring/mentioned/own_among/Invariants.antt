use Rattle.std.proofs.Common.{◌≡◌, take}
use Rattle.std.specs.List.{filter}
use Rattle.sd_graph.specs.Wiring.{has_number}
use Rattle.sd_wire.proofs.wiring.mentioned.own_among.Given as goal

-- those found so far
abbrev pub invariant-loop-container : goal.invariant-loop-container
invariant-loop-container l = l.found.items ≡ filter (has_number l.own) (take l.container-index l.containers)
