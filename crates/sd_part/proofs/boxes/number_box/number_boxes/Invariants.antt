use Rattle.std.proofs.Common.{◌≡◌, take, map}
use Rattle.sd_graph.specs.TreeFold.{named_container}
use Rattle.sd_prop.specs.propagation.Accesses.{access_replaced}
use Rattle.sd_part.specs.Boxes.{number_box}
use Rattle.sd_part.proofs.boxes.number_box.number_boxes.Given as goal

-- those so far
abbrev pub invariant-loop-access : goal.invariant-loop-access
invariant-loop-access l =
    l.boxes.items ≡ map (number_box (map named_container l.containers.entries) l.values) (map (access_replaced l.params) (take l.access-index l.accesses))
