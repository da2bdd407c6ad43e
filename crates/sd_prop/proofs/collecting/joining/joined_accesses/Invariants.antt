use Rattle.std.proofs.Common.{◌≡◌, take, map}
use Rattle.sd_graph.specs.TreeFold.{named_container}
use Rattle.sd_prop.specs.propagation.Joined.{joined_access}
use Rattle.sd_prop.proofs.collecting.joining.joined_accesses.Given as goal

-- those so far
abbrev pub invariant-loop-access : goal.invariant-loop-access
invariant-loop-access l = l.all.items ≡ map (joined_access (map named_container l.containers.entries) l.accesses) (take l.access-index l.access-items)
