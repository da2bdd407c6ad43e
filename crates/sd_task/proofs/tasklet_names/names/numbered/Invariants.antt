use Rattle.std.proofs.Common.{◌≡◌, drop, map}
use Rattle.sd_task.specs.in_force.Names.{with_numbered}
use Rattle.sd_task.specs.tasklet_names.UsedNames.{connectors_from}
use Rattle.sd_task.proofs.tasklet_names.names.numbered.Given as goal

abbrev pub invariant-loop-link : goal.invariant-loop-link
invariant-loop-link l = with_numbered (map (λ link. link.connector) (drop l.link-index l.links)) l.next l.scope ≡ connectors_from l.first l.links
