use Rattle.std.proofs.Common.{map}
use Rattle.sd_graph.specs.TreeFold.{named_container}
use Rattle.sd_safe.specs.normal.NormalForm.{AreContainersNormal}
use Rattle.sd_safe.proofs.normal.parts.show_containers.Given as goal

-- all are where those left are
abbrev pub invariant-loop-container : goal.invariant-loop-container
invariant-loop-container l = AreContainersNormal (map named_container l.container-iterator) → AreContainersNormal (map named_container l.containers.entries)
