use Rattle.std.proofs.Common.{◌≡◌, ◌++◌, map}
use Rattle.sd_graph.specs.TreeFold.{named_container}
use Rattle.sd_lower.proofs.hulls.copied_containers.Given as goal

-- those copied, and those left
abbrev pub invariant-loop-name : goal.invariant-loop-name
invariant-loop-name l = map named_container l.copy.entries ++ map named_container l.name-iterator ≡ map named_container l.containers.entries
