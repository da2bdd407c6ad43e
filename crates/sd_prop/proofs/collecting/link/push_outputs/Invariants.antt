use Rattle.std.proofs.Common.{◌≡◌, ◌++◌, take, map}
use Rattle.sd_graph.specs.TreeFold.{named_container}
use Rattle.sd_prop.specs.propagation.Accesses.{output_access}
use Rattle.sd_prop.proofs.collecting.link.push_outputs.Given as goal

-- those so far
abbrev pub invariant-loop-link : goal.invariant-loop-link
invariant-loop-link l = l.found.items ≡ l.initial.found.items ++ map (output_access (map named_container l.containers.entries) l.node) (take l.link-index l.links)
