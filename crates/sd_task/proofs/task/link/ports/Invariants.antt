use Rattle.std.proofs.Common.{◌≡◌, ◌++◌, drop}
use Rattle.sd_task.specs.task.Links.{ports_of}
use Rattle.sd_task.proofs.task.link.ports.Given as goal

abbrev pub invariant-loop-link : goal.invariant-loop-link
invariant-loop-link l = l.ports.items ++ ports_of (drop l.link-index l.links) ≡ ports_of l.links
