use Rattle.std.proofs.Common.{◌≡◌, map, not}
use Rattle.std.specs.List.{filter}
use Rattle.sd_graph.specs.ContainerParts.{container_at}
use Rattle.sd_graph.specs.InForce.{is_private}
use Rattle.sd_graph.specs.LoopScope.{numbers_below}
use Rattle.sd_graph.specs.TreeFold.{named_container}
use Rattle.sd_wire.proofs.wiring.mentioned.own_of_state.Given as goal

-- those so far
abbrev pub invariant-loop-number : goal.invariant-loop-number
invariant-loop-number l = l.own.items ≡ filter (λ number. not (is_private (container_at (map named_container l.containers.entries) number).kind)) (numbers_below l.number)
