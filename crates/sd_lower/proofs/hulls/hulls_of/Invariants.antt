use Rattle.std.proofs.Common.{◌≡◌, take, map}
use Rattle.sd_graph.specs.TreeFold.{named_container}
use Rattle.sd_lower.specs.Hulls.{hull_of}
use Rattle.sd_lower.proofs.hulls.hulls_of.Given as goal

-- those so far
abbrev pub invariant-loop-container : goal.invariant-loop-container
invariant-loop-container l = l.hulls.items ≡ map (hull_of (map named_container l.containers.entries) l.accesses) (take l.container-index l.container-items)
