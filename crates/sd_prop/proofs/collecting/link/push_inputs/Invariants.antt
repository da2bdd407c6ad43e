use Rattle.std.proofs.Common.{◌≡◌, ◌++◌, take, map}
use Rattle.sd_graph.specs.Mode.{Read}
use Rattle.sd_prop.specs.propagation.Accesses.{access_of}
use Rattle.sd_prop.proofs.collecting.link.push_inputs.Given as goal

-- those so far
abbrev pub invariant-loop-link : goal.invariant-loop-link
invariant-loop-link l = l.found.items ≡ l.initial.found.items ++ map (access_of l.node Read) (take l.link-index l.links)
