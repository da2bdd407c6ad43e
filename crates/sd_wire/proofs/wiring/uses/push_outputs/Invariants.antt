use Rattle.std.proofs.Common.{◌≡◌, ◌++◌, take, map}
use Rattle.sd_graph.specs.TreeFold.{named_container}
use Rattle.sd_graph.specs.Wiring.{output_use}
use Rattle.sd_wire.proofs.wiring.uses.push_outputs.Given as goal

-- those so far
abbrev pub invariant-loop-link : goal.invariant-loop-link
invariant-loop-link l = l.uses.items ≡ l.initial.uses.items ++ map (output_use (map named_container l.containers.entries)) (take l.link-index l.links)
